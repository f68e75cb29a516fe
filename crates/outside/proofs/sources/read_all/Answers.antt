use Rattle.std.proofs.Common.{rules, refl}
use Rattle.outside.proofs.Taken.{took_no_more, took_more, took_most_more}
use Rattle.outside.proofs.sources.read_all.Goals as goal

pub returns-in_default-clause-refused : goal.returns-in_default-clause-refused
returns-in_default-clause-refused g c =
    (search rules, took_no_more _ _ _ c.loop-count.all.items _ c.loop-count.invariant.took c.in_default.ensures.content c.loop-count.invariant.within)

pub returns-then-count-room-clause-refused : goal.returns-then-count-room-clause-refused
returns-then-count-room-clause-refused g c =
    (refl, took_more _ _ _ c.loop-count.all.items c.read.new.into c.in-Ok.count _ c.loop-count.invariant.took c.in-Ok.ensures.content c.in-Ok.ensures.bound (search rules))

pub returns-in_default-extend_from_slice-clause-refused :
    goal.returns-in_default-extend_from_slice-clause-refused
returns-in_default-extend_from_slice-clause-refused g c =
    took_most_more _ _ _ c.loop-count.all.items c.read.new.into c.in-Ok.count _ c.loop-count.invariant.took c.in-Ok.ensures.content c.in-Ok.ensures.bound (search rules)
