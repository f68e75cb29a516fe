use Rattle.css_store.proofs.tests.claims_answer.Given as goal

abbrev pub ghosts-claims_first : goal.ghosts-claims_first
ghosts-claims_first g a = record { log = a.log; budget = 1; rulebook = 0 }

abbrev pub ghosts-claims_twice : goal.ghosts-claims_twice
ghosts-claims_twice g a = record { log = a.log; budget = 1; rulebook = 0 }

abbrev pub ghosts-claims_after_the_last_filing : goal.ghosts-claims_after_the_last_filing
ghosts-claims_after_the_last_filing g a = record { log = a.log; budget = 1; rulebook = 0 }

abbrev pub ghosts-claims_after_a_stop : goal.ghosts-claims_after_a_stop
ghosts-claims_after_a_stop g a = record { log = a.log; budget = 2; rulebook = 0 }
