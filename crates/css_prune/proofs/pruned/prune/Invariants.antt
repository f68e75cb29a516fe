use Rattle.std.proofs.Common.{◌≡◌, take}
use Rattle.css_prune.proofs.pruned.prune.Given as goal

abbrev pub invariant-loop-item : goal.invariant-loop-item
invariant-loop-item l = l.pruner ≡ take l.item-index l.records
