use Rattle.css_store.proofs.tests.growth_answers.Given as goal

abbrev pub ghosts-grows : goal.ghosts-grows
ghosts-grows g a = record { log = a.log; budget = 2; rulebook = 0 }

abbrev pub ghosts-ends : goal.ghosts-ends
ghosts-ends g a = record { log = a.log; budget = 2; rulebook = 0 }

abbrev pub ghosts-not_out_of : goal.ghosts-not_out_of
ghosts-not_out_of g a = record { log = a.other.0; budget = 2; rulebook = 0 }
