use Rattle.std.proofs.Common.{refl}
use Rattle.emptiness.proofs.Insertions.{placed}
use Rattle.emptiness.proofs.insertion.with_letter.Goals as goal

pub returns : goal.returns
returns c = placed c.args.place c.args.letter c.args.letters.now c.copy_from_slice.new.self c.copy_from_slice-2.new.self _ c.copy_from_slice.ensures.after c.copy_from_slice-2.ensures.after refl c.requires.within c.requires.room
