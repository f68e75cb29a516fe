use Rattle.std.proofs.Common.{set, take, ◌+◌, ap, ◌∙◌, arith}
use Rattle.gridded.proofs.PartPlaces.{ranks_room, ranks_more}
use Rattle.gridded.proofs.part.ranks.Goals as goal

pub loop-place-preserved : goal.loop-place-preserved
loop-place-preserved c = record {
  room = ranks_room c.loop-place.ranks c.loop-place.place c.rank.result c.loop-place.invariant.room;
  so_far =
      ap (λ rank. take (c.loop-place.place + 1) (set c.loop-place.ranks c.loop-place.place rank)) c.rank.ensures
      ∙ ranks_more c.args.letters.now c.args.letters.now c.loop-place.ranks c.loop-place.place c.loop-place-test.true (omega (arith, c.loop-place.invariant.room, c.loop-place-test.true, c.requires)) c.loop-place.invariant.so_far;
}
