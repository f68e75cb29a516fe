-- Members where there are further patterns, and one child to which members are renamed.
use Rattle.std.proofs.Common.{◌≡◌, ◌<◌, ℕ, zero, suc, true, List, [], ◌∷◌, length, refl, sym, ◌∙◌, arith}
use Rattle.std.specs.Prelude.{not, slice_index_or}
use Rattle.std.specs.List.{list_all}
use Rattle.std.proofs.lemmas.Bool.{and_parts, and_from}
use Rattle.gridded.specs.Grids.{Point, holds}
use Rattle.tiling_core.specs.Tiles.{Tiles, is_member, count}
use Rattle.tiling_core.specs.Carried.{MemberOf, IsRenaming, CarriesTo}
use Rattle.tiling_core.specs.Patterns.{also}
use Rattle.tiling_core.proofs.Deciding.{is_member_decides}
use Rattle.tiling_core.proofs.Listed.{members, member_is_listed}
use Rattle.tiling_core.proofs.Ordered.{is_member-also, holds_one}
use Rattle.lists.specs.Members.{IsIn}

pub member_by_test : (t : Tiles) (n : ℕ) (g : List Point) → MemberOf t n g → is_member t g ≡ true
member_by_test t n g m = (is_member_decides t g).1 m.member

-- a member that holds none of further obstructions
pub holding_none : (t : Tiles) (patterns : List (List Point)) (n : ℕ) (g : List Point) → MemberOf t n g → list_all (λ p. not (holds g p)) patterns ≡ true → MemberOf (also t patterns []) n g
holding_none t patterns n g m e = record {
  gridded = m.gridded;
  member = (is_member_decides (also t patterns []) g).0 (is_member-also t patterns [] g ∙ and_from _ _ (member_by_test t n g m) (and_from _ true e refl));
}

-- a member that holds one of the patterns of a further list
pub holding_one : (t : Tiles) (patterns : List (List Point)) (n : ℕ) (g : List Point) → MemberOf t n g → holds_one g patterns ≡ true → MemberOf (also t [] (patterns ∷ [])) n g
holding_one t patterns n g m e = record {
  gridded = m.gridded;
  member = (is_member_decides (also t [] (patterns ∷ [])) g).0 (is_member-also t [] (patterns ∷ []) g ∙ and_from _ _ (member_by_test t n g m) (and_from (holds_one g patterns) true e refl));
}

-- a member of the tiling with further patterns is a member, and what it holds
pub from_further : (t : Tiles) (obstructions : List (List Point)) (lists : List (List (List Point))) (n : ℕ) (g : List Point) → MemberOf (also t obstructions lists) n g
    → MemberOf t n g × (list_all (λ p. not (holds g p)) obstructions ≡ true) × (list_all (holds_one g) lists ≡ true)
from_further t obstructions lists n g m =
    let both = and_parts (is_member t g) _ (sym (is_member-also t obstructions lists g) ∙ member_by_test (also t obstructions lists) n g m) in
    let rest = and_parts (list_all (λ p. not (holds g p)) obstructions) (list_all (holds_one g) lists) both.1 in
    (record { gridded = m.gridded; member = (is_member_decides t g).0 both.0 }, rest.0, rest.1)

-- where none is counted, there is none
pub none_counted : (t : Tiles) (n : ℕ) → count t n ≡ 0 → (g : List Point) → ¬ (MemberOf t n g)
none_counted t n e g m = nowhere (members t n) (member_is_listed t n g m) e
  where
    nowhere : {X : Type 0} {x : X} (xs : List X) → IsIn x xs → length xs ≡ 0 → ⊥
    nowhere [] i z = elim i [ ]
    nowhere (x ∷ xs) i z = let k : suc (length xs) ≡ 0 = z in absurd (omega arith)

-- ---- one child
pub one_child : (t child : Tiles) (forward back : List Point → List Point) → IsRenaming t child forward back → CarriesTo t (child ∷ []) (λ g. (0, forward g)) (λ p. back p.1)
one_child t child forward back r = record {
  to_child = λ n g k. omega arith;
  carried = λ n g k. r.carried n g k;
  undone = λ n g k. r.undone n g k;
  brought = λ n i h l k. r.brought n h (the_child n i h l k);
  redone = λ n i h l k. let e = r.redone n h (the_child n i h l k) in let z : 0 ≡ i = omega arith in λ j. (z j, e j);
}
  where
    the_child : (n i : ℕ) (h : List Point) → i < 1 → MemberOf (slice_index_or (child ∷ []) i t) n h → MemberOf child n h
    the_child n zero h l k = k
    the_child n (suc i) h l k = absurd (omega arith)
