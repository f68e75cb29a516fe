use Rattle.gridded.proofs.key.third_word.Goals as goal

pub returns : goal.returns
returns c = rw (← c.nine_cells.ensures) c.word.ensures
