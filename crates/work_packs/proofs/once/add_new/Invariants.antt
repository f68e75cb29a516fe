use Rattle.std.proofs.Common.{◌≡◌}
use Rattle.lists.specs.Added.{with_all_new}
use Rattle.work_packs.specs.KindLines.{is_same_place}
use Rattle.work_packs.proofs.once.add_new.Given as goal

abbrev pub invariant-loop-kind : goal.invariant-loop-kind
invariant-loop-kind l = l.kinds.items ≡ with_all_new is_same_place l.initial.kinds.items l.yielded
