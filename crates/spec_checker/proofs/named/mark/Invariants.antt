use Rattle.std.proofs.Common.{◌≡◌, ℕ, false, take, get_or}
use Rattle.std.specs.Prelude.{◌||◌, nat_eq}
use Rattle.std.specs.List.{list_any}
use Rattle.spec_checker.proofs.named.mark.Given as goal

abbrev pub invariant-loop-child : goal.invariant-loop-child
invariant-loop-child l = (i : ℕ) → get_or l.named i false ≡ (get_or l.fn.named i false || list_any (nat_eq i) (take l.child-index l.children))
