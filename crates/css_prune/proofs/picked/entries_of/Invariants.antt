use Rattle.std.proofs.Common.{take}
use Rattle.std.specs.List.{AllZip}
use Rattle.css_domain.specs.Entries.{IsPickOf}
use Rattle.css_prune.specs.Pruning.{kept}
use Rattle.css_prune.proofs.picked.entries_of.Given as goal

abbrev pub invariant-loop-number : goal.invariant-loop-number
invariant-loop-number g l = AllZip (λ c e. IsPickOf g.D.Domain.meaning l.ledger (kept l.pruned.keep) l.made.order.items c e) (take l.number-index l.made.order.items) l.entries.items
