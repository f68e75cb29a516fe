-- Cleaning at an isolated point cell keeps the members.
use Rattle.std.proofs.Common.{◌≡◌, ℕ, Bool, true, false, cond, List, [], ◌∷◌, refl, sym, ap, ◌∙◌, arith, subst, inl, inr, ⊎_elim}
use Rattle.std.specs.Prelude.{◌&&◌, ◌||◌, ◌==◌, ◌⊎◌, not, map, nat_lt}
use Rattle.std.specs.List.{list_any}
use Rattle.std.specs.Cmp.Lexicographic.{pointwise, pointwise_decides}
use Rattle.std.proofs.lemmas.List.Folds.{list_all-map}
use Rattle.std.proofs.lemmas.Bool.Decides.{nat_tests, Decides-eqb}
use Rattle.std.proofs.lemmas.Bool.{and_parts as and_true, and_from as both_true, or_parts as or_false, not-true as not_true, not_from_false as not_false}
use Rattle.lists.specs.Members.IsIn.{here, later}
use Rattle.lists.specs.Parts.IsPart.{none, kept, left_out}
use Rattle.lists.specs.Members.{IsIn}
use Rattle.lists.specs.Parts.{IsPart}
use Rattle.lists.proofs.Tests.{same_test}
use Rattle.lists.proofs.Members.{IsIn-map, IsIn-filter}
use Rattle.lists.proofs.Parts.{IsPart-one}
use Rattle.patterns.proofs.Occurrences.{match_tells}
use Rattle.patterns.specs.Occurs.{is_match, stand_alike, stands_as}
use Rattle.gridded.specs.declared.cell.Cell.{Cell}
use Rattle.gridded.specs.Grids.{Point, same_cell, letter_of, holds, is_gridded, IsGridded, cells_in}
use Rattle.gridded.specs.Orders.{cell_eq, gridded_eq}
use Rattle.gridded.specs.OrderLaws.{cell_eq_decides, gridded_eq_decides}
use Rattle.tiling_core.specs.Tiles.{Tiles, is_member}
use Rattle.gridded.specs.Places.{fits_grid, has_one_point_in}
use Rattle.gridded.specs.Small.{point_at, rising, falling}
use Rattle.tiling_core.specs.Patterns.{forbids, active_cells, requires_list}
use Rattle.gridded.specs.Axes.{shares_line}
use Rattle.steps.specs.Steps.{is_isolated, is_other_list, cleaned, cleaned_list, clean}
use Rattle.steps.proofs.ListTests.{each_passes, which_passes, list_all-agree, list_any-agree, list_any-map, some_passes}
use Rattle.gridded.proofs.Holding.{holds_from, same_cell_from, held_point, is_true}
use Rattle.steps.proofs.Minimal.{EachGridded}
use Rattle.steps.proofs.Members.{holds_none_of, meets_each}
use Rattle.tiling_core.proofs.Ordered.{is_member-tiling_of}
use Rattle.gridded.proofs.Pairs.{holds_pair}
use Rattle.steps.proofs.Lines.{holds_point, cell_is_in, cell_in_grid}
use Rattle.steps.proofs.PutBack.{IsLone, IsOffBoth, Follows, gridded_tells}
use Rattle.steps.proofs.PutBack.IsLone.{lone_first, lone_next}
use Rattle.steps.proofs.Cleaned.{cleaned_is_held}

-- ---- what is listed
pub forbidden : (t : Tiles) (p : List Point) → forbids t p ≡ true → IsIn p t.obstructions
forbidden t p e =
    let w = which_passes (gridded_eq p) t.obstructions e in
    subst (λ (q : List Point). IsIn q t.obstructions) (sym ((gridded_eq_decides p w.0).0 w.2)) w.1

required : (t : Tiles) (patterns : List (List Point)) → requires_list t patterns ≡ true → IsIn patterns t.requirements
required t patterns e =
    let w = which_passes (pointwise gridded_eq patterns) t.requirements e in
    subst (λ (q : List (List Point)). IsIn q t.requirements) (sym ((pointwise_decides gridded_eq_decides patterns w.0).0 w.2)) w.1

pub record IsIsolated (t : Tiles) (c : Cell) : Type 0 where
  pub no_rise : IsIn (rising c c) t.obstructions
  pub no_fall : IsIn (falling c c) t.obstructions
  pub required : IsIn (point_at c ∷ []) t.requirements
  pub alone : (d : Cell) → IsIn d (cells_in t.width t.height) → (shares_line d c && not (cell_eq d c)) ≡ true → IsIn (point_at d) t.obstructions

pub isolated_tells : (t : Tiles) (c : Cell) → is_isolated t c ≡ true → IsIsolated t c
isolated_tells t c e =
    let others = not (list_any (λ d. shares_line d c && not (cell_eq d c)) (active_cells t)) in
    let k = and_true (forbids t (rising c c)) (forbids t (falling c c) && (requires_list t (point_at c ∷ []) && others)) e in
    let l = and_true (forbids t (falling c c)) (requires_list t (point_at c ∷ []) && others) k.1 in
    let m = and_true (requires_list t (point_at c ∷ [])) others l.1 in
    record {
      no_rise = forbidden t (rising c c) k.0;
      no_fall = forbidden t (falling c c) l.0;
      required = required t (point_at c ∷ []) m.0;
      alone = λ d i f. forbidden t (point_at d) (closed d i f (not_true (list_any (λ d. shares_line d c && not (cell_eq d c)) (active_cells t)) m.1));
    }
  where
    closed : (d : Cell) → IsIn d (cells_in t.width t.height) → (shares_line d c && not (cell_eq d c)) ≡ true → list_any (λ d. shares_line d c && not (cell_eq d c)) (active_cells t) ≡ false → forbids t (point_at d) ≡ true
    closed d i f n = go (forbids t (point_at d)) refl
      where
        go : (b : Bool) → forbids t (point_at d) ≡ b → forbids t (point_at d) ≡ true
        go true g = g
        go false g =
            let a = some_passes (λ z. shares_line z c && not (cell_eq z c)) (IsIn-filter (λ z. not (forbids t (point_at z))) i (not_false (forbids t (point_at d)) g)) f in
            absurd cc

-- ---- the lone point of a member
module _ (c : Cell) where
  -- what both tilings say of g
  pub record IsKept (t : Tiles) (g : List Point) : Type 0 where
    pub in_grid : fits_grid t.width t.height g ≡ true
    pub no_other : (p : List Point) → IsIn p t.obstructions → has_one_point_in c p ≡ false → holds g p ≡ false
    pub has_point : holds g (point_at c) ≡ true

  in_own_cell : cell_eq c c ≡ true
  in_own_cell = (cell_eq_decides c c).1 refl

  two_in_rising : has_one_point_in c (rising c c) ≡ false
  two_in_rising = rw in_own_cell refl

  two_in_falling : has_one_point_in c (falling c c) ≡ false
  two_in_falling = rw in_own_cell refl

  none_elsewhere : (d : Cell) → cell_eq c d ≡ false → has_one_point_in c (point_at d) ≡ false
  none_elsewhere d e = rw e refl

  rises : (x y : ℕ) → nat_lt x y ≡ true → stand_alike x 0 y 1 ≡ true
  rises x y e = grind (arith, nat_tests)

  falls : (x y : ℕ) → nat_lt x y ≡ false → (x == y) ≡ false → stand_alike x 1 y 0 ≡ true
  falls x y e f = grind (arith, nat_tests)

  -- two points in c would be held
  one_at_most : (t : Tiles) → IsIsolated t c → (g : List Point) → IsKept t g → (x y : Point) → IsPart (x ∷ y ∷ []) g → (x.letter == y.letter) ≡ false → x.cell ≡ c → y.cell ≡ c → ⊥
  one_at_most t i g k x y h d ex ey = go (nat_lt x.letter y.letter) refl
    where
      go : (b : Bool) → nat_lt x.letter y.letter ≡ b → ⊥
      go true e =
          let u = holds_pair g 0 1 c c x y h ex ey (rises x.letter y.letter e) in
          let v = k.no_other (rising c c) i.no_rise two_in_rising in
          cc
      go false e =
          let u = holds_pair g 1 0 c c x y h ex ey (falls x.letter y.letter e d) in
          let v = k.no_other (falling c c) i.no_fall two_in_falling in
          cc

  -- each point lies in c, or off its column and row
  in_or_off : (t : Tiles) → IsIsolated t c → (g : List Point) → IsKept t g → (y : Point) → IsIn y g → (y.cell ≡ c) ⊎ IsOffBoth c y
  in_or_off t i g k y m = go (cell_eq c y.cell) refl (shares_line y.cell c) refl
    where
      turned : cell_eq c y.cell ≡ false → cell_eq y.cell c ≡ false
      turned e = flipped (cell_eq y.cell c) refl
        where
          flipped : (b : Bool) → cell_eq y.cell c ≡ b → cell_eq y.cell c ≡ false
          flipped false f = f
          flipped true f = let z = (cell_eq_decides c y.cell).1 (sym ((cell_eq_decides y.cell c).0 f)) in absurd cc

      go : (a : Bool) → cell_eq c y.cell ≡ a → (b : Bool) → shares_line y.cell c ≡ b → (y.cell ≡ c) ⊎ IsOffBoth c y
      go true e b f = inl (sym ((cell_eq_decides c y.cell).0 e))
      go false e false f =
          let o = or_false (y.cell.x == c.x) (y.cell.y == c.y) f in
          inr (record { column = o.0; row = o.1 })
      go false e true f =
          let s = both_true (shares_line y.cell c) (not (cell_eq y.cell c)) f (not_false (cell_eq y.cell c) (turned e)) in
          let o = i.alone y.cell (cell_is_in t.width t.height y.cell (cell_in_grid t.width t.height g y k.in_grid m)) s in
          let n = k.no_other (point_at y.cell) o (none_elsewhere y.cell e) in
          let h = holds_point y m in
          absurd cc

  abbrev HasLone : List Point → Type 0
  HasLone g = (x : Point) × IsLone c x g

  lone_from : (g : List Point) → is_gridded g ≡ true → ((y : Point) → IsIn y g → (y.cell ≡ c) ⊎ IsOffBoth c y) → ((x y : Point) → IsPart (x ∷ y ∷ []) g → (x.letter == y.letter) ≡ false → x.cell ≡ c → y.cell ≡ c → ⊥) → (x : Point) → IsIn x g → x.cell ≡ c → HasLone g
  lone_from [] k each two x m e = elim m [ ]
  lone_from (z ∷ g) k each two x m e =
      ⊎_elim {C = HasLone (z ∷ g)} first (rest (λ w i f. lone_from g (gridded_tells z g k).0 (λ y j. each y (later z j)) (λ v y h. two v y (left_out z h)) w i f)) (each z here)
    where
      u : (is_gridded g ≡ true) × ((y : Point) → IsIn y g → Follows z y)
      u = gridded_tells z g k

      off : z.cell ≡ c → (q : Point) → IsIn q g → IsOffBoth c q
      off f q i = ⊎_elim {C = IsOffBoth c q} (λ h. absurd (two z q (kept z (IsPart-one i)) (u.1 q i).distinct f h)) (λ o. o) (each q (later z i))

      first : z.cell ≡ c → HasLone (z ∷ g)
      first f = (z, lone_first f (off f))

      not_here : {w : Point} → IsOffBoth c z → IsIn w (z ∷ g) → w.cell ≡ c → IsIn w g
      not_here o here f =
          let b = (Decides-eqb z.cell.x c.x).1 (ap (λ (d : Cell). d.x) f) in
          let d = o.column in
          absurd cc
      not_here o (later _ i) f = i

      rest : ((w : Point) → IsIn w g → w.cell ≡ c → HasLone g) → IsOffBoth c z → HasLone (z ∷ g)
      rest ih o = let l = ih x (not_here o m e) e in (l.0, lone_next z o l.1)

  lone_point : (t : Tiles) → IsIsolated t c → (g : List Point) → is_gridded g ≡ true → IsKept t g → HasLone g
  lone_point t i g k h =
      let x = held_point g (point_at c) h.has_point (record { letter = 0; cell = c }) here in
      lone_from g k (in_or_off t i g h) (one_at_most t i g h) x.0 x.1 x.2

-- ---- both tilings
-- the patterns of a tiling are gridded permutations
pub record HasGriddedPatterns (t : Tiles) : Type 0 where
  pub obstructions : EachGridded t.obstructions
  pub requirements : (patterns : List (List Point)) → IsIn patterns t.requirements → EachGridded patterns

module _ (c : Cell) (t : Tiles) (isolated : IsIsolated t c) where
  own_list : is_other_list c (point_at c ∷ []) ≡ false
  own_list = rw ((pointwise_decides gridded_eq_decides (point_at c ∷ []) (point_at c ∷ [])).1 refl) refl

  kept_by_tiling : (g : List Point) → is_member t g ≡ true → IsKept c t g
  kept_by_tiling g e =
      let k = and_true (fits_grid t.width t.height g) (holds_none_of t.obstructions g && meets_each t.requirements g) e in
      let l = and_true (holds_none_of t.obstructions g) (meets_each t.requirements g) k.1 in
      let m = each_passes (λ patterns. list_any (λ p. holds g p) patterns) l.1 isolated.required in
      record {
        in_grid = k.0;
        no_other = λ p i f. not_true (holds g p) (each_passes (λ q. not (holds g q)) l.0 i);
        has_point = (first_or (holds g (point_at c)) m);
      }
    where
      first_or : (b : Bool) → (b || false) ≡ true → b ≡ true
      first_or true f = refl
      first_or false f = absurd cc

  kept_by_cleaned : (g : List Point) → (fits_grid t.width t.height g && (holds_none_of (map (cleaned c) t.obstructions) g && meets_each (map (cleaned_list c) t.requirements) g)) ≡ true → IsKept c t g
  kept_by_cleaned g e =
      let k = and_true (fits_grid t.width t.height g) (holds_none_of (map (cleaned c) t.obstructions) g && meets_each (map (cleaned_list c) t.requirements) g) e in
      let l = and_true (holds_none_of (map (cleaned c) t.obstructions) g) (meets_each (map (cleaned_list c) t.requirements) g) k.1 in
      let m = each_passes (λ patterns. list_any (λ p. holds g p) patterns) l.1 (IsIn-map (cleaned_list c) isolated.required) in
      let n : list_any (λ p. holds g p) (point_at c ∷ []) ≡ true = rw own_list at m in
      record {
        in_grid = k.0;
        no_other = λ p i f. not_true (holds g p) (rw f at (each_passes (λ q. not (holds g q)) l.0 (IsIn-map (cleaned c) i)));
        has_point = (first_or (holds g (point_at c)) n);
      }
    where
      first_or : (b : Bool) → (b || false) ≡ true → b ≡ true
      first_or true f = refl
      first_or false f = absurd cc

  module _ (gridded : HasGriddedPatterns t) where
    consistent : (p : List Point) → IsGridded p → is_gridded p ≡ true
    consistent p h = both_true _ _ (is_true _ h.distinct) (is_true _ h.consistent)

    none_cleaned : (g : List Point) (x : Point) → IsLone c x g → is_gridded g ≡ true → holds_none_of (map (cleaned c) t.obstructions) g ≡ holds_none_of t.obstructions g
    none_cleaned g x l k =
        list_all-map (λ p. not (holds g p)) (cleaned c) t.obstructions
        ∙ list_all-agree (λ p. not (holds g (cleaned c p))) (λ p. not (holds g p)) t.obstructions (λ p m. ap not (cleaned_is_held c g p x l k (consistent p (gridded.obstructions p m))))

    list_cleaned : (g : List Point) (x : Point) → IsLone c x g → is_gridded g ≡ true → (patterns : List (List Point)) → EachGridded patterns → list_any (λ p. holds g p) (cleaned_list c patterns) ≡ list_any (λ p. holds g p) patterns
    list_cleaned g x l k patterns h = go (is_other_list c patterns)
      where
        go : (b : Bool) → list_any (λ p. holds g p) (cond b (map (cleaned c) patterns) patterns) ≡ list_any (λ p. holds g p) patterns
        go false = refl
        go true =
            list_any-map (λ p. holds g p) (cleaned c) patterns
            ∙ list_any-agree (λ p. holds g (cleaned c p)) (λ p. holds g p) patterns (λ p m. cleaned_is_held c g p x l k (consistent p (h p m)))

    meets_cleaned : (g : List Point) (x : Point) → IsLone c x g → is_gridded g ≡ true → meets_each (map (cleaned_list c) t.requirements) g ≡ meets_each t.requirements g
    meets_cleaned g x l k =
        list_all-map (λ patterns. list_any (λ p. holds g p) patterns) (cleaned_list c) t.requirements
        ∙ list_all-agree (λ patterns. list_any (λ p. holds g p) (cleaned_list c patterns)) (λ patterns. list_any (λ p. holds g p) patterns) t.requirements
        (λ patterns m. list_cleaned g x l k patterns (gridded.requirements patterns m))

    same_with_lone : (g : List Point) (x : Point) → IsLone c x g → is_gridded g ≡ true
        → (fits_grid t.width t.height g && (holds_none_of (map (cleaned c) t.obstructions) g && meets_each (map (cleaned_list c) t.requirements) g)) ≡ is_member t g
    same_with_lone g x l k = rw (none_cleaned g x l k, meets_cleaned g x l k)

    -- a gridded permutation is a member after the step exactly where it is one before
    pub member_cleaned : (g : List Point) → is_gridded g ≡ true → is_member (clean c t) g ≡ is_member t g
    member_cleaned g k =
        is_member-tiling_of t.width t.height (map (cleaned c) t.obstructions) (map (cleaned_list c) t.requirements) g
        ∙ same_test (fits_grid t.width t.height g && (holds_none_of (map (cleaned c) t.obstructions) g && meets_each (map (cleaned_list c) t.requirements) g)) (is_member t g)
        (λ e. let l = lone_point c t isolated g k (kept_by_cleaned g e) in sym (same_with_lone g l.0 l.1 k) ∙ e)
        (λ e. let l = lone_point c t isolated g k (kept_by_tiling g e) in same_with_lone g l.0 l.1 k ∙ e)
