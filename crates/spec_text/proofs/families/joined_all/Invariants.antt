use Rattle.std.proofs.Common.{◌≡◌, map}
use Rattle.spec_text.specs.Joining.{with_children}
use Rattle.spec_text.proofs.families.joined_all.Given as goal

abbrev pub invariant-loop-draft : goal.invariant-loop-draft
invariant-loop-draft l = l.entries.items ≡ map (λ p. with_children p.0 p.1) l.yielded
