-- Each step keeps the members one to one.
use Rattle.std.proofs.Common.{◌≡◌, ◌<◌, ℕ, Bool, true, false, List, [], ◌∷◌, length, refl, sym, ap, ◌∙◌, subst, ⊎_elim, arith}
use Rattle.std.specs.Prelude.{◌&&◌, not, nat_lt}
use Rattle.std.specs.List.Sorted.{IsStrictlySortedBy}
use Rattle.std.specs.List.{list_any, AllByRecursion}
use Rattle.std.proofs.lemmas.Bool.Decides.{nat_tests, Decides-eqb}
use Rattle.std.proofs.lemmas.List.{length-map}
use Rattle.std.proofs.lemmas.Bool.{and_parts as and_true, and_from as both_true, or_cases as or_true, not-true as not_true, not_from_false as not_false}
use Rattle.lists.specs.Members.IsIn.{here, later}
use Rattle.lists.specs.Members.{IsIn, is_nil}
use Rattle.lists.proofs.Members.{IsIn-map, from_IsIn-map}
use Rattle.patterns.specs.Words.{has_no_repeats}
use Rattle.gridded.specs.declared.axis.Axis.{Axis}
use Rattle.gridded.specs.declared.axis.Axis.TheVariants as axis
use Rattle.gridded.specs.declared.cell.Cell.{Cell}
use Rattle.gridded.specs.Grids.{Point, holds, is_gridded, is_consistent, cell_of, IsGridded}
use Rattle.gridded.specs.Laws.{IsGriddedOf, IsCellOf}
use Rattle.gridded.specs.Orders.{letters_of, cells_of, gridded_cmp}
use Rattle.tiling_core.specs.Tiles.{Tiles, IsTiling, AreGridded, is_member}
use Rattle.gridded.specs.Places.{fits_grid}
use Rattle.tiling_core.specs.Members.{Member, HoldsOneOf}
use Rattle.tiling_core.specs.Carried.{MemberOf, IsRenaming, RenamingKeepsCounts}
use Rattle.tiling_core.specs.Patterns.{forbids, minimal}
use Rattle.gridded.specs.Moved.{move_cells}
use Rattle.steps.specs.Steps.{step_applies, step_result, is_hopeless, is_isolated, can_be_cleaned, clean, tidy_lists, tidied, is_blank, without_line, close_cell, close_up}
use Rattle.tiling_core.specs.Roots.{void_tiling}
use Rattle.steps.specs.Kept.{KeepsMembers, StepsKeepMembers}
use Rattle.steps.specs.declared.step.Step.TheVariants.{Min, Clean, Lists, Column, Row, Void}
use Rattle.steps.proofs.ListTests.{each_passes, all_pass, which_passes, some_passes, at_each}
use Rattle.gridded.proofs.Holding.{holds_tells, holds_from, holds_empty}
use Rattle.steps.proofs.Minimal.{holds_none_minimal}
use Rattle.steps.proofs.Members.{holds_none_of, meets_each}
use Rattle.tiling_core.proofs.Ordered.{is_member-tiling_of}
use Rattle.steps.proofs.Tidied.{meets_tidied}
use Rattle.steps.proofs.Moved.{gridded-moved}
use Rattle.steps.proofs.Closing.{IsOff, is_off_line, closing_keeps, open_cell, open_up, close_open, open_close, opened_is_off}
use Rattle.steps.proofs.Lines.{blank_tells, IsBlank, member_is_off, member_closed}
use Rattle.steps.proofs.Isolated.{forbidden, isolated_tells, HasGriddedPatterns, member_cleaned}

-- ---- members by test
lower : (a b : ℕ) → nat_lt a b ≡ true → a < b
lower a b e = grind (arith, nat_tests)

lower_from : (a b : ℕ) → a < b → nat_lt a b ≡ true
lower_from a b l = grind (arith, nat_tests)

pub member_tells : (t : Tiles) (g : List Point) → is_member t g ≡ true → Member g t
member_tells t g e =
    let k = and_true (fits_grid t.width t.height g) (holds_none_of t.obstructions g && meets_each t.requirements g) e in
    let l = and_true (holds_none_of t.obstructions g) (meets_each t.requirements g) k.1 in
    record {
      in_grid = λ p m.
          let f = and_true (nat_lt p.cell.x t.width) (nat_lt p.cell.y t.height) (each_passes (λ (c : Cell). nat_lt c.x t.width && nat_lt c.y t.height) k.0 (IsIn-map cell_of m)) in
          (lower p.cell.x t.width f.0, lower p.cell.y t.height f.1);
      no_obstruction = λ p m h. let f = not_true (holds g p) (each_passes (λ q. not (holds g q)) l.0 m) in let i = holds_from g p h in cc;
      each_list = λ patterns m.
          let w = which_passes (λ p. holds g p) patterns (each_passes (λ qs. list_any (λ p. holds g p) qs) l.1 m) in
          record { pattern = w.0; listed = w.1; held = holds_tells g w.0 w.2 };
    }

pub member_from : (t : Tiles) (g : List Point) → Member g t → is_member t g ≡ true
member_from t g h =
    both_true (fits_grid t.width t.height g) (holds_none_of t.obstructions g && meets_each t.requirements g)
    (all_pass (λ (c : Cell). nat_lt c.x t.width && nat_lt c.y t.height) (cells_of g) (λ c m. inside c (from_IsIn-map cell_of g m)))
    (both_true (holds_none_of t.obstructions g) (meets_each t.requirements g)
    (all_pass (λ q. not (holds g q)) t.obstructions (λ p m. free p m (holds g p) refl))
    (all_pass (λ qs. list_any (λ p. holds g p) qs) t.requirements (λ patterns m. let w = h.each_list patterns m in some_passes (λ p. holds g p) w.listed (holds_from g w.pattern w.held))))
  where
    inside : (c : Cell) → (p : Point) × IsIn p g × (c ≡ cell_of p) → (nat_lt c.x t.width && nat_lt c.y t.height) ≡ true
    inside c p =
        let b = h.in_grid p.0 p.1 in
        let d = p.0.cell in
        subst (λ (z : Cell). (nat_lt z.x t.width && nat_lt z.y t.height) ≡ true) (sym p.2)
        (both_true (nat_lt d.x t.width) (nat_lt d.y t.height) (lower_from d.x t.width b.0) (lower_from d.y t.height b.1))

    free : (p : List Point) → IsIn p t.obstructions → (b : Bool) → holds g p ≡ b → not (holds g p) ≡ true
    free p m false e = not_false (holds g p) e
    free p m true e = absurd (h.no_obstruction p m (holds_tells g p e))

gridded_test : {w h n : ℕ} (g : List Point) → IsGriddedOf w h n g → is_gridded g ≡ true
gridded_test g k = both_true (has_no_repeats (letters_of g)) (is_consistent g) k.distinct k.consistent

-- ---- a renaming with a way back
pub from_renaming : RenamingKeepsCounts → (renaming back : List Point → List Point) (t u : Tiles) → IsRenaming t u renaming back → KeepsMembers renaming t u
from_renaming counts renaming back t u r = record {
  carried = r.carried;
  sources = λ n h m. record {
    source = back h;
    member = r.brought n h m;
    renamed = r.redone n h m;
    only = λ g k e. sym (r.undone n g k) ∙ ap back e;
  };
  counts = λ n. sym (counts t u renaming back r n);
}

-- the same grid and the same members
same_members : (t u : Tiles) → u.width ≡ t.width → u.height ≡ t.height → ((g : List Point) → is_gridded g ≡ true → is_member u g ≡ is_member t g) → IsRenaming t u (λ g. g) (λ g. g)
same_members t u w h same = record {
  carried = λ n g m. record { gridded = rw (w, h) m.gridded; member = member_tells u g (same g (gridded_test g m.gridded) ∙ member_from t g m.member) };
  undone = λ n g m. refl;
  brought = λ n g m. record { gridded = rw (← w, ← h) m.gridded; member = member_tells t g (sym (same g (gridded_test g m.gridded)) ∙ member_from u g m.member) };
  redone = λ n g m. refl;
}

-- ---- the steps
patterns_of : (t : Tiles) → IsTiling t → HasGriddedPatterns t
patterns_of t k = record {
  obstructions = λ g m. at_each (λ p. IsGridded p) k.obstructions_gridded m;
  requirements = λ patterns m g i. at_each (λ p. IsGridded p) (at_each (λ qs. AreGridded qs) k.requirements_gridded m) i;
}

min_keeps : (t : Tiles) → IsTiling t → IsRenaming t (step_result Min t) (λ g. g) (λ g. g)
unfolding step_result
min_keeps t k = same_members t (step_result Min t) refl refl (λ g e.
    is_member-tiling_of t.width t.height (minimal t.obstructions) t.requirements g ∙ rw (holds_none_minimal t.obstructions (patterns_of t k).obstructions g))

clean_keeps : (c : Cell) (t : Tiles) → IsTiling t → is_isolated t c ≡ true → IsRenaming t (step_result (Clean c) t) (λ g. g) (λ g. g)
unfolding step_result
clean_keeps c t k i = same_members t (clean c t) refl refl (λ g e. member_cleaned c t (isolated_tells t c i) (patterns_of t k) g e)

lists_keep : (t : Tiles) → IsTiling t → IsRenaming t (step_result Lists t) (λ g. g) (λ g. g)
unfolding step_result
lists_keep t k = same_members t (tidy_lists t) refl refl (λ g e.
    is_member-tiling_of t.width t.height t.obstructions (tidied t.obstructions t.requirements) g
    ∙ ap (λ b. fits_grid t.width t.height g && b) (met g (holds_none_of t.obstructions g) refl))
  where
    met : (g : List Point) (b : Bool) → holds_none_of t.obstructions g ≡ b → (holds_none_of t.obstructions g && meets_each (tidied t.obstructions t.requirements) g) ≡ (holds_none_of t.obstructions g && meets_each t.requirements g)
    met g false e = rw e refl
    met g true e = rw (meets_tidied t.obstructions t.requirements (λ a m. at_each (λ qs. IsStrictlySortedBy gridded_cmp qs) k.each_ascends m) (λ a m. (patterns_of t k).requirements a m) g e) refl

no_member_of_void : (n : ℕ) (h : List Point) → MemberOf void_tiling n h → ⊥
no_member_of_void n h m = m.member.no_obstruction [] here (holds_tells h [] (holds_empty h))

no_member_of_hopeless : (t : Tiles) → is_hopeless t ≡ true → (n : ℕ) (g : List Point) → MemberOf t n g → ⊥
no_member_of_hopeless t e n g m = ⊎_elim {C = ⊥} empty_list empty_pattern (or_true (list_any is_nil t.requirements) (forbids t []) e)
  where
    no_pattern : (patterns : List (List Point)) → is_nil patterns ≡ true → HoldsOneOf g patterns → ⊥
    no_pattern [] f h = elim h.listed [ ]
    no_pattern (p ∷ patterns) f h = let z = (Decides-eqb (length (p ∷ patterns)) 0).0 f in omega arith

    empty_list : list_any is_nil t.requirements ≡ true → ⊥
    empty_list f = let w = which_passes is_nil t.requirements f in no_pattern w.0 w.2 (m.member.each_list w.0 w.1)

    empty_pattern : forbids t [] ≡ true → ⊥
    empty_pattern f = m.member.no_obstruction [] (forbidden t [] f) (holds_tells g [] (holds_empty g))

void_keeps : (t : Tiles) → is_hopeless t ≡ true → IsRenaming t (step_result Void t) (λ g. g) (λ g. g)
unfolding step_result
void_keeps t e = record {
  carried = λ n g m. absurd (no_member_of_hopeless t e n g m);
  undone = λ n g m. refl;
  brought = λ n h m. absurd (no_member_of_void n h m);
  redone = λ n h m. refl;
}

-- points with the same letters
in_cells : (w h : ℕ) (g : List Point) → ((p : Point) → IsIn p g → IsCellOf w h p.cell) → AllByRecursion (λ c. IsCellOf w h c) (cells_of g)
in_cells w h [] f = tt
in_cells w h (p ∷ g) f = (f p here, in_cells w h g (λ q m. f q (later p m)))

letters_of-moved : (f : Cell → Cell) (g : List Point) → letters_of (move_cells f g) ≡ letters_of g
letters_of-moved f [] = refl
letters_of-moved f (p ∷ g) = ap (λ ls. p.letter ∷ ls) (letters_of-moved f g)

moved_long : (f : Cell → Cell) (g : List Point) → length (move_cells f g) ≡ length g
moved_long f g = length-map g (λ p. record { letter = p.letter; cell = f p.cell })

moved_gridded : (f : Cell → Cell) (g : List Point) (w h w' h' n : ℕ) → IsGriddedOf w h n g → is_gridded (move_cells f g) ≡ true → ((p : Point) → IsIn p (move_cells f g) → (p.cell.x < w') × (p.cell.y < h')) → IsGriddedOf w' h' n (move_cells f g)
moved_gridded f g w h w' h' n k e inside =
    let m = move_cells f g in
    let a = and_true (has_no_repeats (letters_of m)) (is_consistent m) e in
    record { as_long = moved_long f g ∙ k.as_long; below = rw (letters_of-moved f g) k.below; in_grid = in_cells w' h' m inside; distinct = a.0; consistent = a.1 }

line_keeps : (a : Axis) (i : ℕ) (t : Tiles) → is_blank a i t ≡ true → IsRenaming t (without_line a i t) (close_up a i) (open_up a i)
line_keeps a i t e = record {
  carried = closed;
  undone = λ n g m. open_close a i g (off g m);
  brought = opened;
  redone = λ n h m. close_open a i h;
}
  where
    b : IsBlank a i t
    b = blank_tells a i t e

    off : {n : ℕ} (g : List Point) → MemberOf t n g → IsOff a i g
    off g m = member_is_off a i t b g (member_from t g m.member)

    closed : (n : ℕ) (g : List Point) → MemberOf t n g → MemberOf (without_line a i t) n (close_up a i g)
    closed n g m =
        let u = without_line a i t in
        let o = off g m in
        let there = member_tells u (close_up a i g) (member_closed a i t b g o ∙ member_from t g m.member) in
        record {
          gridded = moved_gridded (close_cell a i) g t.width t.height u.width u.height n m.gridded (gridded-moved (close_cell a i) (is_off_line a i) (closing_keeps a i) g o ∙ gridded_test g m.gridded) there.in_grid;
          member = there;
        }

    opened : (n : ℕ) (h : List Point) → MemberOf (without_line a i t) n h → MemberOf t n (open_up a i h)
    opened n h m =
        let u = without_line a i t in
        let g = open_up a i h in
        let o = opened_is_off a i h in
        let back : close_up a i g ≡ h = close_open a i h in
        let same : is_member u (close_up a i g) ≡ is_member t g = member_closed a i t b g o in
        let gone : is_member u (close_up a i g) ≡ true = rw back (member_from u h m.member) in
        let there = member_tells t g (sym same ∙ gone) in
        let like : is_gridded (close_up a i g) ≡ is_gridded g = gridded-moved (close_cell a i) (is_off_line a i) (closing_keeps a i) g o in
        let test : is_gridded (close_up a i g) ≡ true = rw back (gridded_test h m.gridded) in
        record {
          gridded = moved_gridded (open_cell a i) h u.width u.height t.width t.height n m.gridded (sym like ∙ test) there.in_grid;
          member = there;
        }

pub steps_keep_members : RenamingKeepsCounts → StepsKeepMembers
unfolding step_applies step_result
steps_keep_members counts Void t k e = from_renaming counts (λ g. g) (λ g. g) t void_tiling (void_keeps t (and_true (is_hopeless t) _ e).0)
steps_keep_members counts Min t k e = from_renaming counts (λ g. g) (λ g. g) t (step_result Min t) (min_keeps t k)
steps_keep_members counts (Clean c) t k e = from_renaming counts (λ g. g) (λ g. g) t (clean c t) (clean_keeps c t k (and_true (is_isolated t c) (can_be_cleaned t c) e).0)
steps_keep_members counts Lists t k e = from_renaming counts (λ g. g) (λ g. g) t (tidy_lists t) (lists_keep t k)
steps_keep_members counts (Column x) t k e = from_renaming counts (close_up axis.Column x) (open_up axis.Column x) t (without_line axis.Column x t) (line_keeps axis.Column x t e)
steps_keep_members counts (Row y) t k e = from_renaming counts (close_up axis.Row y) (open_up axis.Row y) t (without_line axis.Row y t) (line_keeps axis.Row y t e)
