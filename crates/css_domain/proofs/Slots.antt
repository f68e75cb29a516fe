-- The other slots of a rule.
use Rattle.std.proofs.Common.{◌≡◌, ℕ, zero, suc, ◌+◌, ◌<◌, Bool, List, [], ◌∷◌, length, ap, ◌∙◌, arith, take, drop}
use Rattle.std.specs.Prelude.{map, not, ◌&&◌, remove}
use Rattle.std.specs.List.{list_all}
use Rattle.std.proofs.lemmas.List.Folds.{list_all-map}
use Rattle.lists.proofs.Tests.{and_regroup}

-- no flag but that of the slot is set
pub none_but : (xs : List (ℕ × Bool)) (slot : ℕ) → slot < length xs → list_all not (remove (map (λ c. c.1) xs) slot) ≡ (list_all (λ c. not c.1) (take slot xs) && list_all (λ c. not c.1) (drop (slot + 1) xs))
none_but [] slot h = absurd (omega (arith, h))
none_but (x ∷ xs) zero h = list_all-map not (λ (c : ℕ × Bool). c.1) xs
none_but (x ∷ xs) (suc slot) h =
    let e : suc slot + 1 ≡ suc (slot + 1) = omega arith in
    rw e (ap (λ b. not x.1 && b) (none_but xs slot (omega (arith, h))) ∙ and_regroup (not x.1) _ _)
