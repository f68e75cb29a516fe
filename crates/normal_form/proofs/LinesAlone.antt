-- Where only columns and rows can go, only columns and rows can go once one has gone.
use Rattle.std.proofs.Common.{◌≡◌, ℕ, ◌<◌, Bool, true, false, cond, List, [], ◌∷◌, refl, sym, ap, ◌∙◌, subst, ⊎_elim, arith}
use Rattle.std.specs.Prelude.{◌&&◌, ◌||◌, ◌==◌, ◌+◌, not, map, nat_lt, count_by}
use Rattle.std.specs.List.{filter, list_any, list_all}
use Rattle.std.specs.List.Sorted.{IsStrictlySortedBy}
use Rattle.std.specs.Ordering.{is_eq}
use Rattle.std.specs.Cmp.Lexicographic.{pointwise, pointwise_decides, slice_cmp, lists_ties}
use Rattle.std.proofs.lemmas.Bool.Decides.{nat_tests}
use Rattle.std.proofs.lemmas.List.{length-map}
use Rattle.std.proofs.lemmas.List.Folds.{list_all-map}
use Rattle.std.proofs.lemmas.List.Kept.{IsStrictlySortedBy-filter}
use Rattle.std.proofs.lemmas.List.Sums.{sum_by-cons}
use Rattle.std.proofs.lemmas.Bool.{and_parts as and_true, and_from as both_true, or_cases as or_true, not-true as not_true, not_from_false as not_false}
use Rattle.std.proofs.Math.Bool.{or-true as or_all, and-true as and_end}
use Rattle.lists.specs.Members.IsIn.{here, later}
use Rattle.lists.specs.Members.{IsIn, is_nil}
use Rattle.lists.proofs.Members.{from_IsIn-map, IsIn-filter, from_IsIn-filter}
use Rattle.gridded.specs.declared.Axis.{Axis}
use Rattle.gridded.specs.declared.Axis.TheVariants as axis
use Rattle.gridded.specs.declared.Cell.{Cell}
use Rattle.gridded.specs.Axes.{line_of, is_on, shares_line}
use Rattle.gridded.specs.Grids.{Point, holds, cells_in}
use Rattle.gridded.specs.Orders.{cell_eq, gridded_cmp, gridded_eq, cells_of}
use Rattle.gridded.specs.OrderLaws.{gridded_eq_decides, gridded_ties}
use Rattle.tiling_core.specs.Tiles.{Tiles, IsTiling}
use Rattle.gridded.specs.Places.{fits_grid, has_one_point_in}
use Rattle.tiling_core.specs.Same.{tiles_eq, tiles_eq_decides}
use Rattle.gridded.specs.Small.{point_at, rising, falling}
use Rattle.tiling_core.specs.Patterns.{is_among, forbids, active_cells, holds_another, requires_list}
use Rattle.steps.specs.declared.Step.TheVariants.{Min, Clean, Lists, Void}
use Rattle.steps.specs.Steps.{step_applies, is_hopeless, is_isolated, is_other_list, can_be_cleaned, implies_list, is_implied, is_useless, is_untidy, are_untidy, sides, misses, is_blank, close_cell, close_up, without_line}
use Rattle.tiling_core.specs.Roots.{void_tiling}
use Rattle.steps.proofs.ListTests.{each_passes, some_passes, which_passes, none_passes, list_all-agree, list_any-agree, list_any-map, at_each}
use Rattle.steps.proofs.Moved.{holds-moved}
use Rattle.steps.proofs.MovedOrder.{slice_cmp-map, sorted-map, gridded_cmp-moved, gridded_eq-moved, cell_eq-moved, shares_line-moved}
use Rattle.steps.proofs.Closing.{is_off_line, IsOff, closing_keeps, open_cell, open_up, close_open_cell, open_off, open_close}
use Rattle.steps.proofs.Lines.{IsBlank, blank_tells, off_line, cell_is_in, fits_closed}
use Rattle.gridded.proofs.GriddedLists.{from_IsIn-cells_in}
use Rattle.steps.proofs.Shrinks.{ascending_list, ordered_lists, lists_apply}
use Rattle.normal_form.specs.Known.{OnlyLines}

-- ---- tests
still_false : (p q : Bool) → (q ≡ true → p ≡ true) → p ≡ false → q ≡ false
still_false p true f e = let g = f refl in absurd cc
still_false p false f e = refl

left_holds : (p q : Bool) → p ≡ true → (p || q) ≡ true
left_holds p q e = rw e refl

right_holds : (p q : Bool) → q ≡ true → (p || q) ≡ true
right_holds p q e = rw e (or_all p)

-- what some image passes, some item passes
some_mapped : {X Y : Type 0} (test : X → Bool) (other : Y → Bool) (f : X → Y) {xs : List X} (ys : List X) → ((x : X) → IsIn x ys → IsIn x xs × (other (f x) ≡ true → test x ≡ true)) → list_any other (map f ys) ≡ true → list_any test xs ≡ true
some_mapped test other f ys h e =
    let w = which_passes other (map f ys) e in
    let z = from_IsIn-map f ys w.1 in
    let p = h z.0 z.1 in
    some_passes test p.0 (p.1 (rw (← z.2) w.2))

-- ---- a line that goes
module _ (a : Axis) (i : ℕ) (t : Tiles) (k : IsTiling t) (e : is_blank a i t ≡ true) where
  abbrev b : IsBlank a i t
  b = blank_tells a i t e

  abbrev closed : List Point → List Point
  closed g = close_up a i g

  abbrev left : Tiles
  left = without_line a i t

  -- the obstructions that stay
  abbrev kept : List (List Point)
  kept = filter (misses a i) t.obstructions

  kept_off : (g : List Point) → IsIn g kept → IsIn g t.obstructions × IsOff a i g
  kept_off g m = let w = from_IsIn-filter (misses a i) t.obstructions m in (w.0, off_line a i g w.1)

  list_off : (patterns : List (List Point)) → IsIn patterns t.requirements → (g : List Point) → IsIn g patterns → IsOff a i g
  list_off patterns m g n = off_line a i g (each_passes (misses a i) (each_passes (list_all (misses a i)) b.lists_miss m) n)

  nothing_off : IsOff a i []
  nothing_off p m = elim m [ ]

  -- ---- patterns stand to each other as before
  cmp_closed : (g h : List Point) → IsOff a i g → IsOff a i h → gridded_cmp (closed g) (closed h) ≡ gridded_cmp g h
  cmp_closed g h u v = gridded_cmp-moved (close_cell a i) (is_off_line a i) (closing_keeps a i) g h u v

  eq_closed : (g h : List Point) → IsOff a i g → IsOff a i h → gridded_eq (closed g) (closed h) ≡ gridded_eq g h
  eq_closed g h u v = gridded_eq-moved (close_cell a i) (is_off_line a i) (closing_keeps a i) g h u v

  holds_closed : (g p : List Point) → IsOff a i g → IsOff a i p → holds (closed g) (closed p) ≡ holds g p
  holds_closed g p u v = holds-moved (close_cell a i) (is_off_line a i) (closing_keeps a i) g p u v

  abbrev AllOff : List (List Point) → Type 0
  AllOff patterns = (g : List Point) → IsIn g patterns → IsOff a i g

  lists_cmp_closed : (xs ys : List (List Point)) → AllOff xs → AllOff ys → slice_cmp gridded_cmp (map closed xs) (map closed ys) ≡ slice_cmp gridded_cmp xs ys
  lists_cmp_closed xs ys u v = slice_cmp-map closed gridded_cmp gridded_cmp xs ys (λ x y m n. cmp_closed x y (u x m) (v y n))

  lists_eq_closed : (xs ys : List (List Point)) → AllOff xs → AllOff ys → pointwise gridded_eq (map closed xs) (map closed ys) ≡ pointwise gridded_eq xs ys
  lists_eq_closed xs ys u v =
      lists_ties gridded_cmp gridded_ties (map closed xs) (map closed ys) ∙ ap is_eq (lists_cmp_closed xs ys u v) ∙ sym (lists_ties gridded_cmp gridded_ties xs ys)

  obstructions_are : left.obstructions ≡ map closed kept
  obstructions_are =
      ascending_list (map closed kept)
      (sorted-map closed gridded_cmp gridded_cmp kept (λ x y m n. cmp_closed x y (kept_off x m).1 (kept_off y n).1) (IsStrictlySortedBy-filter gridded_cmp (misses a i) t.obstructions k.obstructions_ascend))

  requirements_are : left.requirements ≡ map (map closed) t.requirements
  requirements_are =
      ordered_lists (map (map closed) t.requirements) each
      (sorted-map (map closed) (slice_cmp gridded_cmp) (slice_cmp gridded_cmp) t.requirements (λ xs ys m n. lists_cmp_closed xs ys (list_off xs m) (list_off ys n)) k.requirements_ascend)
    where
      each : (patterns : List (List Point)) → IsIn patterns (map (map closed) t.requirements) → IsStrictlySortedBy gridded_cmp patterns
      each patterns m =
          let z = from_IsIn-map (map closed) t.requirements m in
          rw z.2 (sorted-map closed gridded_cmp gridded_cmp z.0 (λ x y u v. cmp_closed x y (list_off z.0 z.1 x u) (list_off z.0 z.1 y v)) (at_each (λ ps. IsStrictlySortedBy gridded_cmp ps) k.each_ascends z.1))

  -- ---- Void
  not_void : tiles_eq t void_tiling ≡ false
  not_void = go (tiles_eq t void_tiling) refl
    where
      no_lines : t ≡ void_tiling → (c : Axis) → line_of c (sides t) ≡ 0
      no_lines same axis.Column = ap (λ (u : Tiles). u.width) same
      no_lines same axis.Row = ap (λ (u : Tiles). u.height) same

      go : (r : Bool) → tiles_eq t void_tiling ≡ r → tiles_eq t void_tiling ≡ false
      go false f = f
      go true f = absurd (omega (arith, b.there, no_lines ((tiles_eq_decides t void_tiling).0 f) a))

  hopeless_before : is_hopeless left ≡ true → is_hopeless t ≡ true
  hopeless_before q =
      ⊎_elim {C = is_hopeless t ≡ true}
      (λ u. left_holds (list_any is_nil t.requirements) (forbids t [])
      (some_mapped is_nil is_nil (map closed) t.requirements (λ ps m. (m, λ h. rw (← length-map ps closed) h)) (subst (λ (lists : List (List (List Point))). list_any is_nil lists ≡ true) requirements_are u)))
      (λ u. right_holds (list_any is_nil t.requirements) (forbids t [])
      (some_mapped (gridded_eq []) (gridded_eq []) closed kept (λ g m. ((kept_off g m).0, λ h. sym (eq_closed [] g nothing_off (kept_off g m).1) ∙ h)) (subst (λ (os : List (List Point)). is_among os [] ≡ true) obstructions_are u)))
      (or_true (list_any is_nil left.requirements) (forbids left []) q)

  void_still : step_applies Void t ≡ false → step_applies Void left ≡ false
  unfolding step_applies
  void_still v =
      still_false (is_hopeless t) (is_hopeless left && not (tiles_eq left void_tiling)) (λ q. hopeless_before (and_true (is_hopeless left) (not (tiles_eq left void_tiling)) q).0)
      (sym (and_end (is_hopeless t)) ∙ ap (λ r. is_hopeless t && not r) (sym not_void) ∙ v)

  -- ---- Min
  another_before : {xs : List (List Point)} (ys : List (List Point)) → ((p : List Point) → IsIn p ys → IsIn p xs × IsOff a i p) → (g : List Point) → IsOff a i g → holds_another (map closed ys) (closed g) ≡ true → holds_another xs g ≡ true
  another_before ys h g off q =
      some_mapped (λ p. not (gridded_eq g p) && holds g p) (λ p. not (gridded_eq (closed g) p) && holds (closed g) p) closed ys
      (λ p m. ((h p m).0, λ u. sym (λ j. not (eq_closed g p off (h p m).1 j) && holds_closed g p off (h p m).1 j) ∙ u)) q

  min_still : step_applies Min t ≡ false → step_applies Min left ≡ false
  unfolding step_applies
  min_still v =
      still_false (list_any (holds_another t.obstructions) t.obstructions) (list_any (holds_another left.obstructions) left.obstructions)
      (λ q. some_mapped (holds_another t.obstructions) (holds_another (map closed kept)) closed kept
      (λ g m. ((kept_off g m).0, λ u. another_before kept kept_off g (kept_off g m).1 u))
      (subst (λ (os : List (List Point)). list_any (holds_another os) os ≡ true) obstructions_are q)) v

  -- ---- Lists
  useless_before : (patterns : List (List Point)) → AllOff patterns → (g : List Point) → IsIn g patterns → is_useless (map closed kept) (map closed patterns) (closed g) ≡ true → is_useless t.obstructions patterns g ≡ true
  useless_before patterns off g m q =
      ⊎_elim {C = is_useless t.obstructions patterns g ≡ true}
      (λ u. left_holds (list_any (holds g) t.obstructions) (holds_another patterns g)
      (some_mapped (holds g) (holds (closed g)) closed kept (λ p n. ((kept_off p n).0, λ h. sym (holds_closed g p (off g m) (kept_off p n).1) ∙ h)) u))
      (λ u. right_holds (list_any (holds g) t.obstructions) (holds_another patterns g) (another_before patterns (λ p n. (n, off p n)) g (off g m) u))
      (or_true (list_any (holds (closed g)) (map closed kept)) (holds_another (map closed patterns) (closed g)) q)

  untidy_before : (patterns : List (List Point)) → AllOff patterns → is_untidy (map closed kept) (map closed patterns) ≡ true → is_untidy t.obstructions patterns ≡ true
  untidy_before patterns off q =
      ⊎_elim {C = is_untidy t.obstructions patterns ≡ true}
      (λ u. left_holds (list_any (is_useless t.obstructions patterns) patterns) (is_among patterns [])
      (some_mapped (is_useless t.obstructions patterns) (is_useless (map closed kept) (map closed patterns)) closed patterns (λ g m. (m, useless_before patterns off g m)) u))
      (λ u. right_holds (list_any (is_useless t.obstructions patterns) patterns) (is_among patterns [])
      (some_mapped (gridded_eq []) (gridded_eq []) closed patterns (λ g m. (m, λ h. sym (eq_closed [] g nothing_off (off g m)) ∙ h)) u))
      (or_true (list_any (is_useless (map closed kept) (map closed patterns)) (map closed patterns)) (is_among (map closed patterns) []) q)

  implies_closed : (xs ys : List (List Point)) → AllOff xs → AllOff ys → implies_list (map closed xs) (map closed ys) ≡ implies_list xs ys
  implies_closed xs ys u v =
      list_all-map (λ g. list_any (holds g) (map closed ys)) closed xs
      ∙ list_all-agree (λ g. list_any (holds (closed g)) (map closed ys)) (λ g. list_any (holds g) ys) xs (λ g m.
      list_any-map (holds (closed g)) closed ys ∙ list_any-agree (λ p. holds (closed g) (closed p)) (holds g) ys (λ p n. holds_closed g p (u g m) (v p n)))

  implied_before : (ys : List (List Point)) → AllOff ys → is_implied (map (map closed) t.requirements) (map closed ys) ≡ true → is_implied t.requirements ys ≡ true
  implied_before ys v q =
      some_mapped (λ xs. not (pointwise gridded_eq xs ys) && implies_list xs ys) (λ xs. not (pointwise gridded_eq xs (map closed ys)) && implies_list xs (map closed ys)) (map closed) t.requirements
      (λ xs m. (m, λ u. sym (λ j. not (lists_eq_closed xs ys (list_off xs m) v j) && implies_closed xs ys (list_off xs m) v j) ∙ u)) q

  untidy_lists_before : are_untidy (map closed kept) (map (map closed) t.requirements) ≡ true → are_untidy t.obstructions t.requirements ≡ true
  untidy_lists_before q =
      ⊎_elim {C = are_untidy t.obstructions t.requirements ≡ true}
      (λ u. left_holds (list_any (is_untidy t.obstructions) t.requirements) (list_any (is_implied t.requirements) t.requirements)
      (some_mapped (is_untidy t.obstructions) (is_untidy (map closed kept)) (map closed) t.requirements (λ ps m. (m, untidy_before ps (list_off ps m))) u))
      (λ u. right_holds (list_any (is_untidy t.obstructions) t.requirements) (list_any (is_implied t.requirements) t.requirements)
      (some_mapped (is_implied t.requirements) (is_implied (map (map closed) t.requirements)) (map closed) t.requirements (λ ps m. (m, implied_before ps (list_off ps m))) u))
      (or_true (list_any (is_untidy (map closed kept)) (map (map closed) t.requirements)) (list_any (is_implied (map (map closed) t.requirements)) (map (map closed) t.requirements)) q)

  lists_still : IsTiling left → step_applies Lists t ≡ false → step_applies Lists left ≡ false
  lists_still l v =
      lists_apply left l
      ∙ still_false (are_untidy t.obstructions t.requirements) (are_untidy left.obstructions left.requirements)
      (λ q. untidy_lists_before (sym (λ j. are_untidy (obstructions_are j) (requirements_are j)) ∙ q)) (sym (lists_apply t k) ∙ v)

  -- ---- Clean
  map_back : (patterns : List (List Point)) → AllOff patterns → map (open_up a i) (map closed patterns) ≡ patterns
  map_back [] off = refl
  map_back (g ∷ patterns) off =
      let h = open_close a i g (off g here) in
      let rest = map_back patterns (λ p m. off p (later g m)) in
      λ j. h j ∷ rest j

  point_off : (d : Cell) → is_off_line a i d ≡ true → IsOff a i (point_at d)
  point_off d h _ here = h
  point_off d h p (later _ m) = elim m [ ]

  fits_in_grid : (w h : ℕ) (d : Cell) → IsIn d (cells_in w h) → fits_grid w h (point_at d) ≡ true
  fits_in_grid w h d m =
      let q = from_IsIn-cells_in w h d m in
      both_true (nat_lt d.x w && nat_lt d.y h) true (both_true (nat_lt d.x w) (nat_lt d.y h) (below d.x w q.0) (below d.y h q.1)) refl
    where
      below : (x n : ℕ) → x < n → nat_lt x n ≡ true
      below x n l = grind (arith, nat_tests)

  forbidden_before : (g : List Point) → forbids left g ≡ true → forbids t (open_up a i g) ≡ true
  forbidden_before g q =
      let w = which_passes (gridded_eq g) (map closed kept) (subst (λ (os : List (List Point)). is_among os g ≡ true) obstructions_are q) in
      let z = from_IsIn-map closed kept w.1 in
      let same : g ≡ closed z.0 = (gridded_eq_decides g w.0).0 w.2 ∙ z.2 in
      let back : open_up a i g ≡ z.0 = ap (open_up a i) same ∙ open_close a i z.0 (kept_off z.0 z.1).1 in
      some_passes (gridded_eq (open_up a i g)) (kept_off z.0 z.1).0 ((gridded_eq_decides (open_up a i g) z.0).1 back)

  -- c is a cell of what is left
  module _ (c : Cell) where
    abbrev old : Cell
    old = open_cell a i c

    old_off : is_off_line a i old ≡ true
    old_off = open_off a i c

    closed_old : close_cell a i old ≡ c
    closed_old = close_open_cell a i c

    required_before : requires_list left (point_at c ∷ []) ≡ true → requires_list t (point_at old ∷ []) ≡ true
    required_before q =
        let w = which_passes (pointwise gridded_eq (point_at c ∷ [])) (map (map closed) t.requirements) (subst (λ (lists : List (List (List Point))). list_any (pointwise gridded_eq (point_at c ∷ [])) lists ≡ true) requirements_are q) in
        let z = from_IsIn-map (map closed) t.requirements w.1 in
        let same : point_at c ∷ [] ≡ map closed z.0 = (pointwise_decides gridded_eq_decides (point_at c ∷ []) w.0).0 w.2 ∙ z.2 in
        let back : point_at old ∷ [] ≡ z.0 = ap (map (open_up a i)) same ∙ map_back z.0 (list_off z.0 z.1) in
        some_passes (pointwise gridded_eq (point_at old ∷ [])) z.1 ((pointwise_decides gridded_eq_decides (point_at old ∷ []) z.0).1 back)

    abbrev is_other : Cell → Cell → Bool
    is_other x d = shares_line d x && not (cell_eq d x)

    other_closed : (d : Cell) → is_off_line a i d ≡ true → is_other c (close_cell a i d) ≡ is_other old d
    other_closed d h =
        sym (ap (λ x. is_other x (close_cell a i d)) closed_old)
        ∙ (λ j. shares_line-moved (close_cell a i) (is_off_line a i) (closing_keeps a i) d old h old_off j && not (cell_eq-moved (close_cell a i) (is_off_line a i) (closing_keeps a i) d old h old_off j))

    still_active : (d : Cell) → is_off_line a i d ≡ true → IsIn d (active_cells t) → IsIn (close_cell a i d) (active_cells left)
    still_active d h m =
        let w = from_IsIn-filter (λ x. not (forbids t (point_at x))) (cells_in t.width t.height) m in
        let free = not_true (forbids t (point_at d)) w.1 in
        let inside = fits_closed a i t (point_at d) b.there (point_off d h) ∙ fits_in_grid t.width t.height d w.0 in
        let new = close_cell a i d in
        IsIn-filter (λ x. not (forbids left (point_at x)))
        (cell_is_in left.width left.height new (and_true (nat_lt new.x left.width && nat_lt new.y left.height) true inside).0)
        (not_false (forbids left (point_at new))
        (still_false (forbids t (point_at d)) (forbids left (point_at new)) (λ q. subst (λ (g : List Point). forbids t g ≡ true) (open_close a i (point_at d) (point_off d h)) (forbidden_before (point_at new) q)) free))

    others_before : list_any (is_other old) (active_cells t) ≡ true → list_any (is_other c) (active_cells left) ≡ true
    others_before q =
        let w = which_passes (is_other old) (active_cells t) q in
        let off = not_false (is_on a i w.0) (none_passes (is_on a i) (active_cells t) b.inactive w.1) in
        some_passes (is_other c) (still_active w.0 off w.1) (other_closed w.0 off ∙ w.2)

    count_closed : (g : List Point) → IsOff a i g → count_by (cell_eq c) (cells_of (closed g)) ≡ count_by (cell_eq old) (cells_of g)
    count_closed [] off = refl
    count_closed (p ∷ g) off =
        let same : cell_eq c (close_cell a i p.cell) ≡ cell_eq old p.cell = sym (ap (λ x. cell_eq x (close_cell a i p.cell)) closed_old) ∙ cell_eq-moved (close_cell a i) (is_off_line a i) (closing_keeps a i) old p.cell old_off (off p here) in
        let rest = count_closed g (λ q m. off q (later p m)) in
        sum_by-cons (λ x. cond (cell_eq c x) 1 0) (close_cell a i p.cell) (cells_of (closed g))
        ∙ (λ j. cond (same j) 1 0 + rest j)
        ∙ sym (sum_by-cons (λ x. cond (cell_eq old x) 1 0) p.cell (cells_of g))

    one_point_closed : (g : List Point) → IsOff a i g → has_one_point_in c (closed g) ≡ has_one_point_in old g
    one_point_closed g off = ap (λ n. n == 1) (count_closed g off)

    other_list_closed : (patterns : List (List Point)) → AllOff patterns → is_other_list c (map closed patterns) ≡ is_other_list old patterns
    other_list_closed patterns off =
        ap not (sym (ap (λ x. pointwise gridded_eq (point_at x ∷ []) (map closed patterns)) closed_old) ∙ lists_eq_closed (point_at old ∷ []) patterns one_off off)
      where
        one_off : AllOff (point_at old ∷ [])
        one_off _ here = point_off old old_off
        one_off g (later _ m) = elim m [ ]

    cleanable_before : can_be_cleaned left c ≡ true → can_be_cleaned t old ≡ true
    cleanable_before q =
        ⊎_elim {C = can_be_cleaned t old ≡ true}
        (λ u. left_holds (list_any (has_one_point_in old) t.obstructions) (list_any (test old) t.requirements)
        (some_mapped (has_one_point_in old) (has_one_point_in c) closed kept (λ g m. ((kept_off g m).0, λ h. sym (one_point_closed g (kept_off g m).1) ∙ h)) (subst (λ (os : List (List Point)). list_any (has_one_point_in c) os ≡ true) obstructions_are u)))
        (λ u. right_holds (list_any (has_one_point_in old) t.obstructions) (list_any (test old) t.requirements)
        (some_mapped (test old) (test c) (map closed) t.requirements (λ ps m. (m, in_list ps (list_off ps m))) (subst (λ (lists : List (List (List Point))). list_any (test c) lists ≡ true) requirements_are u)))
        (or_true (list_any (has_one_point_in c) left.obstructions) (list_any (test c) left.requirements) q)
      where
        test : Cell → List (List Point) → Bool
        test x patterns = is_other_list x patterns && list_any (has_one_point_in x) patterns

        in_list : (ps : List (List Point)) → AllOff ps → test c (map closed ps) ≡ true → test old ps ≡ true
        in_list ps off u =
            let v = and_true (is_other_list c (map closed ps)) (list_any (has_one_point_in c) (map closed ps)) u in
            both_true (is_other_list old ps) (list_any (has_one_point_in old) ps) (sym (other_list_closed ps off) ∙ v.0)
            (some_mapped (has_one_point_in old) (has_one_point_in c) closed ps (λ g m. (m, λ h. sym (one_point_closed g (off g m)) ∙ h)) v.1)

    isolated_before : is_isolated left c ≡ true → is_isolated t old ≡ true
    isolated_before q =
        let alone = not (list_any (is_other c) (active_cells left)) in
        let u = and_true (forbids left (rising c c)) (forbids left (falling c c) && (requires_list left (point_at c ∷ []) && alone)) q in
        let v = and_true (forbids left (falling c c)) (requires_list left (point_at c ∷ []) && alone) u.1 in
        let w = and_true (requires_list left (point_at c ∷ [])) alone v.1 in
        let still = still_false (list_any (is_other c) (active_cells left)) (list_any (is_other old) (active_cells t)) others_before (not_true (list_any (is_other c) (active_cells left)) w.1) in
        let now = not (list_any (is_other old) (active_cells t)) in
        both_true (forbids t (rising old old)) (forbids t (falling old old) && (requires_list t (point_at old ∷ []) && now)) (forbidden_before (rising c c) u.0)
        (both_true (forbids t (falling old old)) (requires_list t (point_at old ∷ []) && now) (forbidden_before (falling c c) v.0)
        (both_true (requires_list t (point_at old ∷ [])) now (required_before w.0) (not_false (list_any (is_other old) (active_cells t)) still)))

    clean_still : step_applies (Clean old) t ≡ false → step_applies (Clean c) left ≡ false
    unfolding step_applies
    clean_still v =
        still_false (is_isolated t old && can_be_cleaned t old) (is_isolated left c && can_be_cleaned left c)
        (λ q. let u = and_true (is_isolated left c) (can_be_cleaned left c) q in both_true (is_isolated t old) (can_be_cleaned t old) (isolated_before u.0) (cleanable_before u.1)) v

  pub only_lines_still : IsTiling left → OnlyLines t → OnlyLines left
  only_lines_still l o = record { void = void_still o.void; min = min_still o.min; clean = λ c. clean_still c (o.clean (open_cell a i c)); lists = lists_still l o.lists }
