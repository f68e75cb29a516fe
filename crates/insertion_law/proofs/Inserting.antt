-- An insertion carries members one to one.
use Rattle.std.proofs.Common.{◌≡◌, ◌<◌, ℕ, zero, suc, Bool, true, false, List, [], ◌∷◌, refl, sym, ap, ◌∙◌, arith}
use Rattle.std.specs.Prelude.{◌||◌, not, if◌then◌else◌, slice_index_or}
use Rattle.std.proofs.lemmas.Bool.{and_parts, not-true}
use Rattle.std.proofs.Math.Bool.{or-false}
use Rattle.gridded.specs.Grids.{Point, holds}
use Rattle.tiling_core.specs.Tiles.{Tiles}
use Rattle.tiling_core.specs.Carried.{MemberOf}
use Rattle.tiling_core.specs.Patterns.{also}
use Rattle.tiling_core.proofs.Further.{holding_none, holding_one, from_further}
use Rattle.tiling_core.proofs.Ordered.{holds_one}
use Rattle.rule_kinds.specs.Children as C
use Rattle.insertion_law.specs.Inserting.{InsertionsCarryMembers}

abbrev inserted : Tiles → List Point → List Tiles
inserted t r = also t (r ∷ []) [] ∷ also t [] ((r ∷ []) ∷ []) ∷ []

abbrev side : Bool → ℕ
side b = if b then 1 else 0

side_is_below : (b : Bool) → side b < 2
side_is_below true = omega arith
side_is_below false = omega arith

on_its_side : (t : Tiles) (r : List Point) (n : ℕ) (g : List Point) → MemberOf t n g → (b : Bool) → holds g r ≡ b → MemberOf (slice_index_or (inserted t r) (side b) t) n g
on_its_side t r n g m true e = holding_one t (r ∷ []) n g m (rw e refl)
on_its_side t r n g m false e = holding_none t (r ∷ []) n g m (rw e refl)

back_from : (t : Tiles) (r : List Point) (n i : ℕ) (h : List Point) → i < 2 → MemberOf (slice_index_or (inserted t r) i t) n h → MemberOf t n h × (side (holds h r) ≡ i)
back_from t r n zero h s m =
    let k = from_further t (r ∷ []) [] n h m in
    let unheld : holds h r ≡ false = not-true (holds h r) (and_parts (not (holds h r)) true k.1).0 in
    (k.0, ap side unheld)
back_from t r n (suc zero) h s m =
    let k = from_further t [] ((r ∷ []) ∷ []) n h m in
    let held : (holds h r || false) ≡ true = (and_parts (holds_one h (r ∷ [])) true k.2).0 in
    (k.0, ap side (sym (or-false (holds h r)) ∙ held))
back_from t r n (suc (suc i)) h s m = absurd (omega arith)

pub insertions_carry_members : InsertionsCarryMembers
unfolding C.raw_children
insertions_carry_members t r = record {
  to_child = λ n g m. side_is_below (holds g r);
  carried = λ n g m. on_its_side t r n g m (holds g r) refl;
  undone = λ n g m. refl;
  brought = λ n i h s m. (back_from t r n i h s m).0;
  redone = λ n i h s m. ap (λ (c : ℕ). (c, h)) (back_from t r n i h s m).1;
}
