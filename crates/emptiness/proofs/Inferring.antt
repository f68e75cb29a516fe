-- An ascending list of the inferable patterns is the one that the definition computes.
use Rattle.std.proofs.Common.{◌≡◌, ℕ, ◌≤◌, zero, suc, Bool, true, false, ◌∙◌, ap, List, [], ◌∷◌, length, refl, sym, subst, arith, inl, inr, ⊎_elim}
use Rattle.std.specs.Prelude.{◌&&◌, ◌↔◌, ◌⊎◌, IsTrue, Decides, ◌++◌, not, nat_le, filter, Contains}
use Rattle.std.specs.List.{list_all, list_any, AllByRecursion}
use Rattle.std.proofs.lemmas.Bool.Decides.{nat_tests}
use Rattle.std.proofs.lemmas.Bool.{false_from_ne_true as false_from, and_parts as and_true, and_from as both_true, not_from_false as not_false}
use Rattle.lists.proofs.Members.{is_in, contained, of_each, IsIn-map, IsIn-filter, from_IsIn-filter, IsIn-append_left, IsIn-append_right, IsIn-append_cases}
use Rattle.lists.specs.Members.IsIn.{here, later}
use Rattle.lists.proofs.Tests.{each_passes, all_pass, which_passes as one_passes, some_passes, same_test}
use Rattle.lists.specs.Members.{IsIn}
use Rattle.gridded.specs.declared.cell.Cell.{Cell}
use Rattle.gridded.specs.Grids.{IsGridded, Point, cell_of, holds, Holds, gridded_of, cells_in}
use Rattle.gridded.specs.Laws.{IsCellOf}
use Rattle.gridded.specs.Orders.{gridded_cmp, cells_of}
use Rattle.gridded.specs.OrderLaws.{gridded_total, gridded_exact}
use Rattle.gridded.proofs.GriddedLists.{IsIn-cells_in, IsIn-gridded_of, from_IsIn-gridded_of}
use Rattle.sequences.proofs.InOrder.{in_order-is}
use Rattle.tiling_core.specs.Tiles.{Tiles}
use Rattle.tiling_core.specs.Carried.{MemberOf}
use Rattle.tiling_core.specs.Patterns.{also, forbids}
use Rattle.tiling_core.proofs.Deciding.{is_member_decides, fits_grid_decides, not_held}
use Rattle.gridded.specs.Small.{point_at}
use Rattle.gridded.specs.Places.{fits_grid}
use Rattle.gridded.proofs.Holding.{holds_decides}
use Rattle.tiling_core.proofs.Single.{count_without_members}
use Rattle.emptiness.specs.Emptiness.{IsHeldByMember, IsInferable, IsInferredOf}
use Rattle.emptiness.specs.Candidates.{is_unheld}
use Rattle.emptiness.specs.Glueing.{reaches}
use Rattle.emptiness.specs.Inferable.{could_be_inferred, is_inferable, has_no_member, inferred}
use Rattle.emptiness.proofs.Inserted.{placed}
use Rattle.emptiness.proofs.Counted.{members_within_weight, held_decides, placed-listed}
use Rattle.emptiness.proofs.NoMembers.{none_of_any_length, has_none}
use Rattle.tiling_core.proofs.Further.{holding_one, from_further, none_counted}

-- ---- members that hold a pattern
abbrev is_active : Tiles → Cell → Bool
is_active t c = not (forbids t (point_at c))

abbrev requiring : Tiles → List Point → Tiles
requiring t g = also t [] ((g ∷ []) ∷ [])

held_by_a_member : (t : Tiles) (g : List Point) (n : ℕ) (h : List Point) → MemberOf (requiring t g) n h → IsHeldByMember t g
held_by_a_member t g n h m =
    let k = from_further t [] ((g ∷ []) ∷ []) n h m in
    let one = one_passes (λ p. holds h p) (g ∷ []) (and_true (list_any (λ p. holds h p) (g ∷ [])) true k.2).0 in
    record {
      size = n;
      member = h;
      listed = IsIn-gridded_of t.width t.height n h k.0.gridded;
      belongs = (is_member_decides t h).1 k.0.member;
      held = (holds_decides h g).0 (subst (λ (p : List Point). holds h p ≡ true) (alone one.0 one.1) one.2);
    }
  where
    alone : (p : List Point) → IsIn p (g ∷ []) → p ≡ g
    alone p here = refl
    alone p (later _ i) = elim i [ ]

held_by_no_member : (t : Tiles) (g : List Point) → has_no_member (requiring t g) ≡ true → ¬ (IsHeldByMember t g)
held_by_no_member t g e k =
    let m : MemberOf t k.size k.member = record { gridded = from_IsIn-gridded_of t.width t.height k.size k.member k.listed; member = (is_member_decides t k.member).0 k.belongs } in
    let held : list_any (λ p. holds k.member p) (g ∷ []) ≡ true = some_passes (λ p. holds k.member p) (here {xs = []}) ((holds_decides k.member g).1 k.held) in
    none_counted (requiring t g) k.size (none_of_any_length members_within_weight (requiring t g) e k.size) k.member (holding_one t (g ∷ []) k.size k.member m held)

-- ---- one pattern
no_obstruction_held : (t : Tiles) (g : List Point) → ((o : List Point) → IsIn o t.obstructions → ¬ (Holds g o)) → not (list_any (holds g) t.obstructions) ≡ true
no_obstruction_held t g f =
    not_false (list_any (holds g) t.obstructions) (false_from (list_any (holds g) t.obstructions) (λ e. let w = one_passes (holds g) t.obstructions e in f w.0 w.1 ((holds_decides g w.0).0 w.2)))

in_the_grid : (t : Tiles) (n : ℕ) (g : List Point) → IsIn g (gridded_of t.width t.height n) → fits_grid t.width t.height g ≡ true
in_the_grid t n g m =
    let k = from_IsIn-gridded_of t.width t.height n g m in
    (fits_grid_decides t.width t.height g).1 (λ p i. of_each (λ c. IsCellOf t.width t.height c) k.in_grid (IsIn-map cell_of i))

one_or_two : (n : ℕ) → (n ≡ 1) ⊎ (n ≡ 2) → (nat_le 1 n && nat_le n 2) ≡ true
one_or_two n k = ⊎_elim {C = (nat_le 1 n && nat_le n 2) ≡ true} (λ e. rw e refl) (λ e. rw e refl) k

tested : (t : Tiles) (g : List Point) → IsInferable t g → is_inferable t g ≡ true
tested t g k =
    both_true _ _
    (both_true _ _
    (both_true _ _ (both_true _ _ (one_or_two (length g) k.small) (in_the_grid t (length g) g k.listed))
    (all_pass (is_active t) (cells_of g) (λ c i. (from_IsIn-filter (λ d. is_active t d) (cells_in t.width t.height) (k.active c i)).1)))
    (no_obstruction_held t g k.no_obstruction))
    (has_none (requiring t g) (λ n. count_without_members (requiring t g) n (λ h m. k.unheld (held_by_a_member t g n h m))))

told : (t : Tiles) (n : ℕ) (g : List Point) → (n ≡ 1) ⊎ (n ≡ 2) → IsIn g (gridded_of t.width t.height n) → is_inferable t g ≡ true → IsInferable t g
told t n g s m e =
    let k = from_IsIn-gridded_of t.width t.height n g m in
    let a = and_true _ (has_no_member (requiring t g)) e in
    let b = and_true _ (not (list_any (holds g) t.obstructions)) a.0 in
    let c = and_true _ (list_all (is_active t) (cells_of g)) b.0 in
    record {
      small = subst (λ (l : ℕ). (l ≡ 1) ⊎ (l ≡ 2)) (sym k.as_long) s;
      listed = subst (λ (l : ℕ). IsIn g (gridded_of t.width t.height l)) (sym k.as_long) m;
      active = λ d i. IsIn-filter (λ z. is_active t z) (IsIn-cells_in t.width t.height d (of_each (λ z. IsCellOf t.width t.height z) k.in_grid i)) (each_passes (is_active t) c.1 i);
      no_obstruction = λ o i h. not_held (list_any (holds g) t.obstructions) b.1 (some_passes (holds g) i ((holds_decides g o).1 h));
      unheld = held_by_no_member t g a.1;
    }

-- ---- one pattern, by its test
small : (n : ℕ) → (nat_le 1 n && nat_le n 2) ≡ true → (n ≡ 1) ⊎ (n ≡ 2)
small n e = go n (and_true (nat_le 1 n) (nat_le n 2) e)
  where
    go : (m : ℕ) → (nat_le 1 m ≡ true) × (nat_le m 2 ≡ true) → (m ≡ 1) ⊎ (m ≡ 2)
    go zero k = absurd (let h = k.0 in grind (arith, nat_tests))
    go (suc zero) k = inl refl
    go (suc (suc zero)) k = inr refl
    go (suc (suc (suc m))) k = absurd (let h = k.1 in grind (arith, nat_tests))

pub inferable_decides : (t : Tiles) (g : List Point) → IsGridded g → Decides (is_inferable t g) (IsInferable t g)
inferable_decides t g k = (
  (λ e. let a = and_true (could_be_inferred t g) (has_no_member (requiring t g)) e in
      let b = and_true _ (not (list_any (holds g) t.obstructions)) a.0 in
      let c = and_true _ (list_all (is_active t) (cells_of g)) b.0 in
      let d = and_true (nat_le 1 (length g) && nat_le (length g) 2) (fits_grid t.width t.height g) c.0 in
      told t (length g) g (small (length g) d.0) (placed-listed t.width t.height g (placed g k) d.1) e),
  tested t g,
)

-- the search for a member that holds the pattern answers the test
unheld_is : (t : Tiles) (g : List Point) → IsGridded g → not (reaches t t.requirements g) ≡ has_no_member (requiring t g)
unheld_is t g k =
    same_test (not (reaches t t.requirements g)) (has_no_member (requiring t g))
    (λ e. has_none (requiring t g) (λ n. count_without_members (requiring t g) n (λ h m. not_held (reaches t t.requirements g) e ((held_decides t g k).1 (held_by_a_member t g n h m)))))
    (λ e. not_false (reaches t t.requirements g) (false_from (reaches t t.requirements g) (λ r. held_by_no_member t g e ((held_decides t g k).0 r))))

pub inferable_answer : (t : Tiles) (g : List Point) (r : Bool) → IsGridded g → could_be_inferred t g ≡ true → r ≡ is_unheld t g → r ≡ is_inferable t g
inferable_answer t g r k could e =
    let free = (and_true _ (not (list_any (holds g) t.obstructions)) could).1 in
    e ∙ ap (λ b. b && not (reaches t t.requirements g)) free ∙ unheld_is t g k ∙ sym (ap (λ b. b && has_no_member (requiring t g)) could)

pub inferable_meaning : (t : Tiles) (g : List Point) (r : Bool) → IsGridded g → r ≡ is_inferable t g → IsTrue r ↔ IsInferable t g
inferable_meaning t g r k e = let d = inferable_decides t g k in ((λ h. d.0 (sym e ∙ h)), (λ h. e ∙ d.1 h))

two_at_most : (n : ℕ) → nat_le n 2 ≡ true → n ≤ 2
two_at_most n e = grind (arith, nat_tests)

pub could_be_short : (t : Tiles) (g : List Point) → could_be_inferred t g ≡ true → length g ≤ 2
could_be_short t g e = two_at_most (length g) (and_true _ _ (and_true _ _ (and_true _ _ (and_true _ _ e).0).0).0).1

pub ruleset shortness = (could_be_short)

-- ---- all patterns
abbrev small_ones : Tiles → List (List Point)
small_ones t = gridded_of t.width t.height 1 ++ gridded_of t.width t.height 2

listed_there : (t : Tiles) (g : List Point) → IsInferable t g → IsIn g (filter (is_inferable t) (small_ones t))
listed_there t g k = IsIn-filter (is_inferable t) (⊎_elim {C = IsIn g (small_ones t)} first second k.small) (tested t g k)
  where
    first : length g ≡ 1 → IsIn g (small_ones t)
    first e = IsIn-append_left (gridded_of t.width t.height 2) (subst (λ (l : ℕ). IsIn g (gridded_of t.width t.height l)) e k.listed)

    second : length g ≡ 2 → IsIn g (small_ones t)
    second e = IsIn-append_right (gridded_of t.width t.height 1) (subst (λ (l : ℕ). IsIn g (gridded_of t.width t.height l)) e k.listed)

told_there : (t : Tiles) (g : List Point) → IsIn g (filter (is_inferable t) (small_ones t)) → IsInferable t g
told_there t g m =
    let k = from_IsIn-filter (is_inferable t) (small_ones t) m in
    ⊎_elim {C = IsInferable t g} (λ i. told t 1 g (inl refl) i k.1) (λ i. told t 2 g (inr refl) i k.1) (IsIn-append_cases (gridded_of t.width t.height 1) (gridded_of t.width t.height 2) k.0)

pub inferred_is : (t : Tiles) (patterns : List (List Point)) → IsInferredOf t patterns → patterns ≡ inferred t
inferred_is t patterns k =
    in_order-is gridded_cmp gridded_total gridded_exact patterns (filter (is_inferable t) (small_ones t)) (record {
      ascends = k.ascends;
      keeps = λ g m. contained ((k.exact g).1 (told_there t g (is_in (filter (is_inferable t) (small_ones t)) g m)));
      adds_none = λ g m. contained (listed_there t g ((k.exact g).0 (is_in patterns g m)));
    })
