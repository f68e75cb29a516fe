-- Where no member holds any of some patterns, none holds one of them.
use Rattle.std.proofs.Common.{◌≡◌, suc, true, List, [], ◌∷◌, length, refl, sym, ◌∙◌, arith}
use Rattle.std.specs.Prelude.{◌&&◌, not, map, filter}
use Rattle.std.specs.List.{list_all}
use Rattle.std.specs.Cmp.Lexicographic.{slice_cmp, lists_total}
use Rattle.std.proofs.lemmas.Bool.{and_parts, and_from}
use Rattle.lists.proofs.Members.{empty_list, IsIn-filter, from_IsIn-filter}
use Rattle.lists.proofs.Tests.{each_passes, which_passes}
use Rattle.lists.specs.Members.{IsIn}
use Rattle.gridded.specs.Grids.{Point, holds, gridded_of}
use Rattle.gridded.specs.Orders.{gridded_cmp}
use Rattle.gridded.specs.OrderLaws.{gridded_total, gridded_exact}
use Rattle.sequences.specs.Ascending.{in_order}
use Rattle.sequences.proofs.InOrder.{list_all-in_order}
use Rattle.tiling_core.specs.Tiles.{Tiles, is_member}
use Rattle.gridded.specs.Places.{fits_grid}
use Rattle.tiling_core.specs.Patterns.{also}
use Rattle.emptiness.specs.Emptiness.{IsEmpty, MembersWithinWeight}
use Rattle.emptiness.specs.Inferable.{has_no_member, is_inferable}
use Rattle.emptiness.proofs.NoMembers.{none_of_any_length}
use Rattle.tiling_core.proofs.Kept.{lists_exact}
use Rattle.tiling_core.proofs.Ordered.{holds_one}

abbrev ordered : List (List (List Point)) → List (List (List Point))
ordered lists = map (λ patterns. in_order gridded_cmp patterns) lists

-- a further list is a further test
one_list_more : (t : Tiles) (patterns : List (List Point)) (g : List Point)
    → list_all (holds_one g) (in_order (slice_cmp gridded_cmp) (ordered (patterns ∷ t.requirements))) ≡ (holds_one g (in_order gridded_cmp patterns) && list_all (holds_one g) (ordered t.requirements))
one_list_more t patterns g = list_all-in_order (slice_cmp gridded_cmp) (lists_total gridded_total) lists_exact (holds_one g) (ordered (patterns ∷ t.requirements))

-- a member that holds one of the patterns, by which of them
pub which_is_held : (t : Tiles) (patterns : List (List Point)) (g : List Point) → is_member (also t [] (patterns ∷ [])) g ≡ true
    → (p : List Point) × IsIn p (in_order gridded_cmp patterns) × (is_member (also t [] ((p ∷ []) ∷ [])) g ≡ true)
which_is_held t patterns g e =
    let a = and_parts (fits_grid t.width t.height g) _ e in
    let b = and_parts (list_all (λ p. not (holds g p)) (in_order gridded_cmp t.obstructions)) _ a.1 in
    let c = and_parts (holds_one g (in_order gridded_cmp patterns)) (list_all (holds_one g) (ordered t.requirements)) (sym (one_list_more t patterns g) ∙ b.1) in
    let w = which_passes (λ p. holds g p) (in_order gridded_cmp patterns) c.0 in
    let held : holds_one g (w.0 ∷ []) ≡ true = rw w.2 refl in
    (w.0, w.1, and_from _ _ a.0 (and_from _ _ b.0 (one_list_more t (w.0 ∷ []) g ∙ and_from _ _ held c.1)))

is_in_none : {X : Type 0} {x : X} (xs : List X) → IsIn x xs → length xs ≡ 0 → ⊥
is_in_none [] m e = elim m [ ]
is_in_none (x ∷ xs) m e = let k : suc (length xs) ≡ 0 = e in absurd (omega arith)

-- where no member holds any of the patterns, none holds one of them
pub none_holds : MembersWithinWeight → (t : Tiles) (patterns : List (List Point)) → list_all (is_inferable t) patterns ≡ true → IsEmpty (also t [] (patterns ∷ []))
none_holds within t patterns e n = empty_list (filter (λ g. is_member (also t [] (patterns ∷ [])) g) (gridded_of t.width t.height n)) (λ g m. refuted g (from_IsIn-filter _ (gridded_of t.width t.height n) m))
  where
    last_test : (p : List Point) → is_inferable t p ≡ true → has_no_member (also t [] ((p ∷ []) ∷ [])) ≡ true
    last_test p i = (and_parts _ (has_no_member (also t [] ((p ∷ []) ∷ []))) i).1

    refuted : (g : List Point) → IsIn g (gridded_of t.width t.height n) × (is_member (also t [] (patterns ∷ [])) g ≡ true) → ⊥
    refuted g m =
        let w = which_is_held t patterns g m.1 in
        let inferable : is_inferable t w.0 ≡ true = each_passes (is_inferable t) (list_all-in_order gridded_cmp gridded_total gridded_exact (is_inferable t) patterns ∙ e) w.1 in
        let none = none_of_any_length within (also t [] ((w.0 ∷ []) ∷ [])) (last_test w.0 inferable) n in
        is_in_none (filter (λ h. is_member (also t [] ((w.0 ∷ []) ∷ [])) h) (gridded_of t.width t.height n)) (IsIn-filter (λ h. is_member (also t [] ((w.0 ∷ []) ∷ [])) h) m.0 w.2) none
