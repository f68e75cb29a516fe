use Rattle.gridded.proofs.key.second_word.Goals as goal

pub returns : goal.returns
returns c = rw (← c.nine_letters-l.ensures, ← c.nine_cells.ensures) c.word.ensures
