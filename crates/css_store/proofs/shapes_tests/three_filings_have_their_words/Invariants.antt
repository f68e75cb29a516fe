use Rattle.css_store.proofs.shapes_tests.three_filings_have_their_words.Given as goal

abbrev pub ghosts-words_are : goal.ghosts-words_are
ghosts-words_are g a = record { log = a.log; budget = 5; rulebook = 0 }
