use Rattle.css_store.proofs.tests.a_store_is_read.Given as goal

abbrev pub ghosts-grows_and_ends : goal.ghosts-grows_and_ends
ghosts-grows_and_ends g a = record { log = a.log; budget = 2; rulebook = 0 }
