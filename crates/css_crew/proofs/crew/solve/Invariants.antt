use Rattle.css_crew.proofs.crew.solve.Given as goal

abbrev pub ghosts-fill : goal.ghosts-fill
ghosts-fill g a = record { log = a.log; budget = a.budget; rulebook = g.E.Expander.rulebook_of a.expander.now }
