use Rattle.gridded.proofs.PartPlaces.{room_left, extended}
use Rattle.gridded.proofs.part.Part.extend.Goals as goal

pub push-requires : goal.push-requires
push-requires c = room_left c.args.self.now c.loop-place.self c.args.letters.now c.args.cells.now c.loop-place.place c.loop-place.invariant c.loop-place-test.true c.requires.whole c.requires.room

pub loop-place-preserved : goal.loop-place-preserved
loop-place-preserved c =
    extended c.args.self.now c.loop-place.self c.push.new.self c.args.letters.now c.args.cells.now c.loop-place.place c.loop-place.invariant c.loop-place-test.true c.requires.whole c.push.ensures
