use Rattle.css_store.proofs.tests.a_desk_answers.Given as goal

abbrev pub ghosts-desk_answers : goal.ghosts-desk_answers
ghosts-desk_answers g a = record { log = a.log.now; budget = 2; rulebook = 0 }
