use Rattle.css_store.proofs.tests.a_second_thread_reads_what_is_filed.Given as goal

abbrev pub ghosts-reads_beside : goal.ghosts-reads_beside
ghosts-reads_beside g a = record { log = a.log; budget = 3; rulebook = 0 }
