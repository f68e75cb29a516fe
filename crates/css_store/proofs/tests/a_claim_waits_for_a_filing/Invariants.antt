use Rattle.css_store.proofs.tests.a_claim_waits_for_a_filing.Given as goal

abbrev pub ghosts-waits_for_work : goal.ghosts-waits_for_work
ghosts-waits_for_work g a = record { log = a.log; budget = 2; rulebook = 0 }
