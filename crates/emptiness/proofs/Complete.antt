-- The search reaches every part of a member that is made of one occurrence for each list.
use Rattle.std.proofs.Common.{◌≡◌, ℕ, ◌+◌, ◌-◌, ◌≤◌, Bool, true, false, cond, List, [], ◌∷◌, ◌++◌, length, refl, sym, ap, ◌∙◌, subst, arith, length-append, append_assoc}
use Rattle.std.specs.Prelude.{◌&&◌, ◌||◌, not, map, nat_lt, ◌==◌}
use Rattle.std.specs.List.{list_all, list_any, AllZip}
use Rattle.std.proofs.lemmas.List.{length-map}
use Rattle.std.proofs.lemmas.Bool.Decides.{Decides-eqb}
use Rattle.std.proofs.lemmas.Bool.{false_from_ne_true as false_from, and_parts as and_true, and_from as both_true, not_from_false as not_false}
use Rattle.std.proofs.Math.Bool.{or-true as or_all}
use Rattle.lists.specs.Members.IsIn.{here, later}
use Rattle.lists.specs.Parts.IsPart.{none, kept, left_out}
use Rattle.lists.specs.Members.NoRepeats.{no_element, one_more}
use Rattle.patterns.specs.Words.{has_no_repeats}
use Rattle.patterns.specs.Ranks.{rank}
use Rattle.patterns.specs.Occurs.{is_match}
use Rattle.patterns.proofs.Occurrences.{occurs_decides, match_tells, match_from}
use Rattle.gridded.specs.declared.cell.Cell.{Cell}
use Rattle.gridded.specs.Grids.{Point, letter_of, cell_of, same_cell, is_consistent, is_gridded, holds, Holds}
use Rattle.gridded.specs.Orders.{letters_of, cells_of, cell_eq}
use Rattle.tiling_core.specs.Tiles.{Tiles, is_member}
use Rattle.gridded.specs.Places.{fits_grid}
use Rattle.emptiness.specs.Insertion.{fits_at, inserted}
use Rattle.emptiness.specs.Glueing.{stands_in, joins, joins_at, falls_on, glues_at, glues, reaches}
use Rattle.emptiness.proofs.Inserted.{consistent-inserted}
use Rattle.gridded.specs.Parts.{ranked, closed_up}
use Rattle.emptiness.proofs.Standard.{closed_up-more, member-closed_up, any-agree}
use Rattle.lists.proofs.Parts.{IsPart-append, IsPart-itself, IsPart-trans, IsPart-map, list_all-IsPart, IsPart-nothing, IsIn-IsPart}
use Rattle.lists.proofs.Tests.{which_passes, some_passes, each_passes, all_pass}
use Rattle.lists.specs.Parts.{IsPart}
use Rattle.lists.specs.Members.{IsIn, NoRepeats}
use Rattle.lists.proofs.Members.{IsIn-append_right}
use Rattle.tiling_core.proofs.Deciding.{not_held as not_both}
use Rattle.gridded.specs.OrderLaws.{cell_eq_decides}
use Rattle.gridded.proofs.ClosedUp.{rank-small, holds-closed_up, consistent-closed_up}
use Rattle.gridded.proofs.Consistent.{consistent_part}
use Rattle.emptiness.proofs.Steps.{any_below-here}

-- ---- parts
IsPart-longer : {X : Type 0} {a b : List X} (x : X) → IsPart a b → IsPart a (b ++ x ∷ [])
IsPart-longer x none = left_out x none
IsPart-longer x (kept y h) = kept y (IsPart-longer x h)
IsPart-longer x (left_out y h) = left_out y (IsPart-longer x h)

one-inside : {X : Type 0} (a b : List X) (x : X) → IsPart (a ++ b) (a ++ x ∷ b)
one-inside [] b x = left_out x (IsPart-itself b)
one-inside (y ∷ a) b x = kept y (one-inside a b x)

pushed : {X : Type 0} (a b : List X) (x : X) → (a ++ x ∷ []) ++ b ≡ a ++ x ∷ b
pushed a b x = append_assoc a (x ∷ []) b

-- an element of a list without repeats isn't among the others
apart : {X : Type 0} (a b : List X) (x : X) → NoRepeats (a ++ x ∷ b) → IsIn x (a ++ b) → ⊥
apart [] b x (one_more out rest) m = out m
apart (y ∷ a) b _ (one_more out rest) here = out (IsIn-append_right a here)
apart (y ∷ a) b x (one_more out rest) (later _ m) = apart a b x rest m

letters-append : (a b : List Point) → letters_of (a ++ b) ≡ letters_of a ++ letters_of b
letters-append [] b = refl
letters-append (p ∷ a) b = ap (λ rest. p.letter ∷ rest) (letters-append a b)

stands-ranked : (ls : List ℕ) (a b : List Point) (x : Point) → stands_in (length a) x.cell (map (ranked ls) (a ++ x ∷ b)) ≡ true
stands-ranked ls [] b x = (cell_eq_decides x.cell x.cell).1 refl
stands-ranked ls (y ∷ a) b x = stands-ranked ls a b x

pub length-standard : (c : List Point) → length (closed_up c) ≡ length c
length-standard c = length-map c (ranked (letters_of c))

-- what a member gives
pub record Allows (obstructions : List (List Point)) (m : List Point) : Type 0 where
  pub distinct : NoRepeats (letters_of m)
  pub consistent : is_consistent m ≡ true
  pub avoids : (c : List Point) → IsPart c m → list_any (λ p. holds (closed_up c) p) obstructions ≡ false

module _ (obstructions : List (List Point)) (p m c0 : List Point) (next : List Point → Bool) (allows : Allows obstructions m) (done : (c : List Point) → IsPart c0 c → IsPart c m → Holds c p → next (closed_up c) ≡ true) where
  -- what stands where the points of m before m2 have been passed: c1 of them are glued, and od of those are the occurrence's
  record State (m1 m2 c1 c2 od os : List Point) (from : ℕ) : Type 0 where
    whole : m1 ++ m2 ≡ m
    before : IsPart c1 m1
    occurrence : IsPart od c1
    start : from ≤ length c1
    match : is_match letter_of same_cell (od ++ os) p ≡ true
    keeps : IsPart c0 (c1 ++ c2)

  joined : (m1 m2 c1 c2 : List Point) (y : Point) (more : ℕ → List Point → Bool) → m1 ++ y ∷ m2 ≡ m → IsPart c1 m1 → IsPart c2 m2 → more (length c1 + 1) (closed_up (c1 ++ y ∷ c2)) ≡ true → glues_at obstructions more y.cell (closed_up (c1 ++ c2)) (length c1) ≡ true
  joined m1 m2 c1 c2 y more whole h k e =
      let part : IsPart (c1 ++ y ∷ c2) m = subst (λ w. IsPart (c1 ++ y ∷ c2) w) whole (IsPart-append h (kept y k)) in
      let out : IsIn y.letter (letters_of (c1 ++ c2)) → ⊥ = λ z.
      apart (letters_of m1) (letters_of m2) y.letter (subst (λ ls. NoRepeats ls) (ap letters_of (sym whole) ∙ letters-append m1 (y ∷ m2)) allows.distinct)
      (subst (λ ls. IsIn y.letter ls) (letters-append m1 m2) (IsIn-IsPart (IsPart-map letter_of (IsPart-append h k)) z)) in
      let more_is = closed_up-more c1 c2 y out in
      let l : ℕ = rank (letters_of (c1 ++ c2)) y.letter in
      let consistent : is_consistent (inserted (length c1) l y.cell (closed_up (c1 ++ c2))) ≡ true = ap is_consistent (sym more_is) ∙ consistent-closed_up (c1 ++ y ∷ c2) ∙ consistent_part part allows.consistent in
      let fits = and_true (fits_at (length c1) l y.cell (closed_up (c1 ++ c2))) (is_consistent (closed_up (c1 ++ c2))) (sym (consistent-inserted (length c1) l y.cell (closed_up (c1 ++ c2))) ∙ consistent) in
      let avoids : list_any (λ q. holds (inserted (length c1) l y.cell (closed_up (c1 ++ c2))) q) obstructions ≡ false = ap (λ g. list_any (λ q. holds g q) obstructions) (sym more_is) ∙ allows.avoids (c1 ++ y ∷ c2) part in
      let onward : more (length c1 + 1) (inserted (length c1) l y.cell (closed_up (c1 ++ c2))) ≡ true = ap (λ g. more (length c1 + 1) g) (sym more_is) ∙ e in
      let one : joins obstructions more y.cell (closed_up (c1 ++ c2)) (length c1) l ≡ true =
      both_true (fits_at (length c1) l y.cell (closed_up (c1 ++ c2))) (not (list_any (λ q. holds (inserted (length c1) l y.cell (closed_up (c1 ++ c2))) q) obstructions) && more (length c1 + 1) (inserted (length c1) l y.cell (closed_up (c1 ++ c2)))) fits.0
      (both_true (not (list_any (λ q. holds (inserted (length c1) l y.cell (closed_up (c1 ++ c2))) q) obstructions)) (more (length c1 + 1) (inserted (length c1) l y.cell (closed_up (c1 ++ c2)))) (not_false (list_any (λ q. holds (inserted (length c1) l y.cell (closed_up (c1 ++ c2))) q) obstructions) avoids) onward) in
      let small = rank-small (c1 ++ c2) y.letter in
      let long = length-standard (c1 ++ c2) in
      let at : joins_at obstructions more y.cell (closed_up (c1 ++ c2)) (length c1) ≡ true = any_below-here (λ i. joins obstructions more y.cell (closed_up (c1 ++ c2)) (length c1) i) 0 (length (closed_up (c1 ++ c2)) + 1) l (omega arith) (omega arith) one in
      rw at (or_all (falls_on more y.cell (closed_up (c1 ++ c2)) (length c1)))

  fallen : (c1 c2 : List Point) (y : Point) (more : ℕ → List Point → Bool) → more (length c1 + 1) (closed_up (c1 ++ y ∷ c2)) ≡ true → glues_at obstructions more y.cell (closed_up (c1 ++ y ∷ c2)) (length c1) ≡ true
  fallen c1 c2 y more e =
      let on : falls_on more y.cell (closed_up (c1 ++ y ∷ c2)) (length c1) ≡ true = both_true (stands_in (length c1) y.cell (closed_up (c1 ++ y ∷ c2))) (more (length c1 + 1) (closed_up (c1 ++ y ∷ c2))) (stands-ranked (letters_of (c1 ++ y ∷ c2)) c1 c2 y) e in
      rw on refl

  longer : (c : List Point) (y : Point) → length (c ++ y ∷ []) ≡ length c + 1
  longer c y = length-append c (y ∷ []) ∙ omega arith

  glued : (m1 m2 c1 c2 od os : List Point) (from : ℕ) → IsPart os m2 → IsPart c2 m2 → State m1 m2 c1 c2 od os from → glues obstructions p next (cells_of os) from (closed_up (c1 ++ c2)) ≡ true
  unfolding glues
  glued m1 [] c1 [] od [] from none none s =
      let all : IsPart (c1 ++ []) m = subst (λ w. IsPart (c1 ++ []) w) s.whole (IsPart-append s.before none) in
      let w = match_tells letter_of same_cell (od ++ []) p s.match in
      let held : Holds (c1 ++ []) p = record { points = od ++ []; chosen = IsPart-append s.occurrence none; order = w.order; fit = w.fit } in
      both_true (holds (closed_up (c1 ++ [])) p) (next (closed_up (c1 ++ []))) (holds-closed_up (c1 ++ []) p ∙ (occurs_decides letter_of same_cell (c1 ++ []) p).1 held) (done (c1 ++ []) s.keeps all held)
  glued m1 (_ ∷ m2) c1 (_ ∷ c2) od (_ ∷ os) from (kept y h) (kept _ k) s =
      let ih = glued (m1 ++ y ∷ []) m2 (c1 ++ y ∷ []) c2 (od ++ y ∷ []) os (length c1 + 1) h k (record {
        whole = pushed m1 m2 y ∙ s.whole;
        before = IsPart-append s.before (kept y none);
        occurrence = IsPart-append s.occurrence (kept y none);
        start = omega (arith, longer c1 y);
        match = ap (λ w. is_match letter_of same_cell w p) (pushed od os y) ∙ s.match;
        keeps = subst (λ w. IsPart c0 w) (sym (pushed c1 c2 y)) s.keeps;
      }) in
      let start = s.start in
      any_below-here (λ i. glues_at obstructions (λ place g. glues obstructions p next (cells_of os) place g) y.cell (closed_up (c1 ++ y ∷ c2)) i) from (length (closed_up (c1 ++ y ∷ c2)) + 1 - from) (length c1) s.start
      (omega (arith, length-standard (c1 ++ y ∷ c2), length-append c1 (y ∷ c2)))
      (fallen c1 c2 y (λ place g. glues obstructions p next (cells_of os) place g) (ap (λ w. glues obstructions p next (cells_of os) (length c1 + 1) (closed_up w)) (sym (pushed c1 c2 y)) ∙ ih))
  glued m1 (_ ∷ m2) c1 c2 od (_ ∷ os) from (kept y h) (left_out _ k) s =
      let ih = glued (m1 ++ y ∷ []) m2 (c1 ++ y ∷ []) c2 (od ++ y ∷ []) os (length c1 + 1) h k (record {
        whole = pushed m1 m2 y ∙ s.whole;
        before = IsPart-append s.before (kept y none);
        occurrence = IsPart-append s.occurrence (kept y none);
        start = omega (arith, longer c1 y);
        match = ap (λ w. is_match letter_of same_cell w p) (pushed od os y) ∙ s.match;
        keeps = subst (λ w. IsPart c0 w) (sym (pushed c1 c2 y)) (IsPart-trans s.keeps (one-inside c1 c2 y));
      }) in
      let start = s.start in
      any_below-here (λ i. glues_at obstructions (λ place g. glues obstructions p next (cells_of os) place g) y.cell (closed_up (c1 ++ c2)) i) from (length (closed_up (c1 ++ c2)) + 1 - from) (length c1) s.start
      (omega (arith, length-standard (c1 ++ c2), length-append c1 c2))
      (joined m1 m2 c1 c2 y (λ place g. glues obstructions p next (cells_of os) place g) s.whole s.before k (ap (λ w. glues obstructions p next (cells_of os) (length c1 + 1) (closed_up w)) (sym (pushed c1 c2 y)) ∙ ih))
  glued m1 (_ ∷ m2) c1 (_ ∷ c2) od os from (left_out y h) (kept _ k) s =
      let ih = glued (m1 ++ y ∷ []) m2 (c1 ++ y ∷ []) c2 od os from h k (record {
        whole = pushed m1 m2 y ∙ s.whole;
        before = IsPart-append s.before (kept y none);
        occurrence = IsPart-longer y s.occurrence;
        start = omega (arith, longer c1 y, s.start);
        match = s.match;
        keeps = subst (λ w. IsPart c0 w) (sym (pushed c1 c2 y)) s.keeps;
      }) in
      ap (λ w. glues obstructions p next (cells_of os) from (closed_up w)) (sym (pushed c1 c2 y)) ∙ ih
  glued m1 (_ ∷ m2) c1 c2 od os from (left_out y h) (left_out _ k) s =
      glued (m1 ++ y ∷ []) m2 c1 c2 od os from h k (record {
        whole = pushed m1 m2 y ∙ s.whole;
        before = IsPart-longer y s.before;
        occurrence = s.occurrence;
        start = s.start;
        match = s.match;
        keeps = s.keeps;
      })
  glued m1 [] c1 [] od (_ ∷ os) from k _ s = elim k [ ]
  glued m1 [] c1 (_ ∷ c2) od os from _ k s = elim k [ ]

  same-cells : (os q : List Point) → AllZip (λ x a. same_cell x a ≡ true) os q → cells_of os ≡ cells_of q
  same-cells [] [] f = refl
  same-cells [] (a ∷ q) f = absurd f
  same-cells (x ∷ os) [] f = absurd f
  same-cells (x ∷ os) (a ∷ q) f =
      let k = and_true (x.cell.x == a.cell.x) (x.cell.y == a.cell.y) f.0 in
      let ex = (Decides-eqb x.cell.x a.cell.x).0 k.0 in
      let ey = (Decides-eqb x.cell.y a.cell.y).0 k.1 in
      let rest = same-cells os q f.1 in
      λ i. record { x = ex i; y = ey i } ∷ rest i

  -- the pattern can be glued to a part of m where m holds it
  pub glued-whole : Holds m p → IsPart c0 m → glues obstructions p next (cells_of p) 0 (closed_up c0) ≡ true
  glued-whole h k =
      let o = h.points in
      ap (λ cs. glues obstructions p next cs 0 (closed_up c0)) (sym (same-cells o p h.fit))
      ∙ glued [] m [] c0 [] o 0 h.chosen k (record {
        whole = refl;
        before = none;
        occurrence = none;
        start = omega arith;
        match = match_from letter_of same_cell o p (record { order = h.order; fit = h.fit });
        keeps = IsPart-itself c0;
      })

-- a longer part holds what a shorter one does
holds-longer : {a b : List Point} (p : List Point) → IsPart a b → holds a p ≡ true → holds b p ≡ true
holds-longer {a} {b} p k e =
    let h = (occurs_decides letter_of same_cell a p).0 e in
    (occurs_decides letter_of same_cell b p).1 (record { points = h.points; chosen = IsPart-trans h.chosen k; order = h.order; fit = h.fit })

one-longer : {a b : List Point} (ps : List (List Point)) → IsPart a b → list_any (λ p. holds a p) ps ≡ true → list_any (λ p. holds b p) ps ≡ true
one-longer {a} {b} ps k e = let w = which_passes (λ p. holds a p) ps e in some_passes (λ p. holds b p) w.1 (holds-longer w.0 k w.2)

-- ---- the lists, one after another
abbrev Meets : List Point → List (List (List Point)) → Type 0
Meets c lists = list_all (λ ps. list_any (λ p. holds c p) ps) lists ≡ true

-- from any part of a member, a member is reached
pub reached : (t : Tiles) (m : List Point) → Allows t.obstructions m → (lists : List (List (List Point))) (c : List Point) → IsPart c m → Meets m lists → ((d : List Point) → IsPart c d → IsPart d m → Meets d lists → is_member t d ≡ true) → reaches t lists (closed_up c) ≡ true
unfolding reaches
reached t m allows [] c k meets rest = member-closed_up t c ∙ rest c (IsPart-itself c) k refl
reached t m allows (ps ∷ lists) c k meets rest =
    let both = and_true (list_any (λ p. holds m p) ps) (list_all (λ qs. list_any (λ p. holds m p) qs) lists) meets in
    go (list_any (λ p. holds (closed_up c) p) ps) refl both.0
    (λ d a b e. reached t m allows lists d b both.1 (λ f q r s. rest f (IsPart-trans a q) r (both_true (list_any (λ p. holds f p) ps) (list_all (λ qs. list_any (λ p. holds f p) qs) lists) (one-longer ps q e) s)))
  where
    go : (b : Bool) → list_any (λ p. holds (closed_up c) p) ps ≡ b → list_any (λ p. holds m p) ps ≡ true → ((d : List Point) → IsPart c d → IsPart d m → list_any (λ p. holds d p) ps ≡ true → reaches t lists (closed_up d) ≡ true)
        → cond b (reaches t lists (closed_up c)) (list_any (λ p. glues t.obstructions p (λ h. reaches t lists h) (cells_of p) 0 (closed_up c)) ps) ≡ true
    go true e f ih = ih c (IsPart-itself c) k (sym (any-agree (λ p. holds (closed_up c) p) (λ p. holds c p) (λ p. holds-closed_up c p) ps) ∙ e)
    go false e f ih =
        let w = which_passes (λ p. holds m p) ps f in
        some_passes (λ p. glues t.obstructions p (λ h. reaches t lists h) (cells_of p) 0 (closed_up c)) w.1
        (glued-whole t.obstructions w.0 m c (λ h. reaches t lists h) allows (λ d a b h. ih d a b (some_passes (λ p. holds d p) w.1 ((occurs_decides letter_of same_cell d w.0).1 h))) ((occurs_decides letter_of same_cell m w.0).0 w.2) k)

-- ---- members
distinct_tells : (xs : List ℕ) → has_no_repeats xs ≡ true → NoRepeats xs
distinct_tells [] e = no_element
distinct_tells (x ∷ xs) e =
    let k = and_true (not (list_any (λ y. x == y) xs)) (has_no_repeats xs) e in
    one_more (λ h. not_both (list_any (λ y. x == y) xs) k.0 (some_passes (λ y. x == y) h ((Decides-eqb x x).1 refl))) (distinct_tells xs k.1)

module _ (t : Tiles) (m : List Point) (gridded : is_gridded m ≡ true) (belongs : is_member t m ≡ true) where
  avoided : list_all (λ p. not (holds m p)) t.obstructions ≡ true
  avoided = (and_true (list_all (λ p. not (holds m p)) t.obstructions) (list_all (λ ps. list_any (λ p. holds m p) ps) t.requirements) (and_true (fits_grid t.width t.height m) (list_all (λ p. not (holds m p)) t.obstructions && list_all (λ ps. list_any (λ p. holds m p) ps) t.requirements) belongs).1).0

  met : Meets m t.requirements
  met = (and_true (list_all (λ p. not (holds m p)) t.obstructions) (list_all (λ ps. list_any (λ p. holds m p) ps) t.requirements) (and_true (fits_grid t.width t.height m) (list_all (λ p. not (holds m p)) t.obstructions && list_all (λ ps. list_any (λ p. holds m p) ps) t.requirements) belongs).1).1

  in_grid : fits_grid t.width t.height m ≡ true
  in_grid = (and_true (fits_grid t.width t.height m) (list_all (λ p. not (holds m p)) t.obstructions && list_all (λ ps. list_any (λ p. holds m p) ps) t.requirements) belongs).0

  not_held : (c p : List Point) → IsPart c m → IsIn p t.obstructions → holds c p ≡ false
  not_held c p k h = false_from (holds c p) (λ e. not_both (holds m p) (each_passes (λ q. not (holds m q)) avoided h) (holds-longer p k e))

  allowed : Allows t.obstructions m
  allowed = record {
    distinct = distinct_tells (map letter_of m) (and_true (has_no_repeats (map letter_of m)) (is_consistent m) gridded).0;
    consistent = (and_true (has_no_repeats (map letter_of m)) (is_consistent m) gridded).1;
    avoids = λ c k. false_from (list_any (λ p. holds (closed_up c) p) t.obstructions) (λ e. let w = which_passes (λ p. holds (closed_up c) p) t.obstructions e in
        let no = not_held c w.0 k w.1 in let yes = sym (holds-closed_up c w.0) ∙ w.2 in absurd cc);
  }

  part_belongs : (d : List Point) → IsPart d m → Meets d t.requirements → is_member t d ≡ true
  part_belongs d k e =
      both_true (fits_grid t.width t.height d) (list_all (λ p. not (holds d p)) t.obstructions && list_all (λ ps. list_any (λ p. holds d p) ps) t.requirements)
      (list_all-IsPart (λ c. nat_lt c.x t.width && nat_lt c.y t.height) (IsPart-map cell_of k) in_grid)
      (both_true (list_all (λ p. not (holds d p)) t.obstructions) (list_all (λ ps. list_any (λ p. holds d p) ps) t.requirements) (all_pass (λ p. not (holds d p)) t.obstructions (λ p h. not_false (holds d p) (not_held d p k h))) e)

  -- a member is reached from each part of one, closed up
  pub reached-part : (c : List Point) → IsPart c m → reaches t t.requirements (closed_up c) ≡ true
  reached-part c k = reached t m allowed t.requirements c k met (λ d a b e. part_belongs d b e)

  -- and so where there is one
  pub reached-from_member : reaches t t.requirements [] ≡ true
  reached-from_member = reached-part [] (IsPart-nothing m)
