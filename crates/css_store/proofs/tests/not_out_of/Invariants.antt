use Rattle.css_store.proofs.tests.not_out_of.Given as goal

abbrev pub ghosts-not_out : goal.ghosts-not_out
ghosts-not_out g a = record { log = a.log; budget = 2; rulebook = 0 }
