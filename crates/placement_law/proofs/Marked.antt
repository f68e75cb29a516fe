-- Occurrences with a marked point, and the preimages of a pattern whose pointed point lies as asked.
use Rattle.std.proofs.Common.{◌≡◌, ◌<◌, ℕ, zero, suc, Bool, true, List, [], ◌∷◌, length, refl, sym, ap, ◌∙◌, subst, arith}
use Rattle.std.specs.Prelude.{◌&&◌, ◌==◌, map}
use Rattle.std.specs.List.{list_any}
use Rattle.std.proofs.lemmas.Bool.Decides.{Decides-eqb}
use Rattle.std.proofs.lemmas.List.{length-map}
use Rattle.std.proofs.lemmas.Bool.{and_parts, and_from}
use Rattle.lists.specs.Members.IsIn.{here, later}
use Rattle.lists.proofs.Parts.{IsIn-parts, from_IsIn-parts, IsPart-map, from_IsPart-map, IsIn-IsPart}
use Rattle.lists.proofs.Tests.{which_passes, some_passes}
use Rattle.lists.specs.Members.{IsIn}
use Rattle.lists.specs.Parts.{IsPart, parts}
use Rattle.lists.proofs.Members.{IsIn-filter, from_IsIn-filter}
use Rattle.patterns.specs.Occurs.{stands_as, is_match}
use Rattle.gridded.specs.declared.cell.Cell.{Cell}
use Rattle.gridded.specs.Grids.{Point, letter_of, same_cell, holds, is_consistent, IsGridded}
use Rattle.coord_maps.specs.declared.grid_map.GridMap.{GridMap}
use Rattle.coord_maps.specs.LineMaps.{new_lines}
use Rattle.coord_maps.specs.GridMaps.{old_cell, collapse, fits_new}
use Rattle.gridded.specs.Moved.{moved}
use Rattle.coord_maps.specs.Preimages.{preimages}
use Rattle.coord_maps.specs.Laws.{PreimagesAreListed}
use Rattle.rule_kinds.specs.Pointeds.{PointedPattern}
use Rattle.rule_kinds.specs.Kinds.{IsPointed, point_of, pointed_cell}
use Rattle.rule_kinds.specs.Children.{lifts_pointed}
use Rattle.rule_kinds.specs.Carry.{is_pointed_by}
use Rattle.gridded.proofs.Positions.{Distinct, letters_apart}
use Rattle.gridded.proofs.Lifting.{lifted, fits-lifted, moved-lifted, consistent-lifted, lifted_fits, part_fits, fits_moved}
use Rattle.gridded.proofs.Holding.{fits, held_tells, held_from, same_cell_tells}
use Rattle.gridded.proofs.Consistent.{consistent_part}

-- ---- the point at a place
pub point_in_list : (c : List Point) (i : ℕ) → i < length c → IsIn (point_of c i) c
point_in_list [] i h = absurd (omega arith)
point_in_list (x ∷ c) zero h = here
point_in_list (x ∷ c) (suc i) h = later x (point_in_list c i (omega arith))

point_of_map : (f : Point → Point) (c : List Point) (i : ℕ) → i < length c → point_of (map f c) i ≡ f (point_of c i)
point_of_map f [] i h = absurd (omega arith)
point_of_map f (x ∷ c) zero h = refl
point_of_map f (x ∷ c) (suc i) h = point_of_map f c i (omega arith)

fits_parts : (x a : Point) (c p : List Point) → fits (x ∷ c) (a ∷ p) ≡ true → (same_cell x a ≡ true) × (fits c p ≡ true)
fits_parts x a c p e =
    let k = and_parts (same_cell x a) (stands_as letter_of same_cell x a c p && fits c p) e in
    (k.0, (and_parts (stands_as letter_of same_cell x a c p) (fits c p) k.1).1)

pub fits_length : (c p : List Point) → fits c p ≡ true → length c ≡ length p
fits_length [] [] e = refl
fits_length [] (a ∷ p) e = absurd cc
fits_length (x ∷ c) [] e = absurd cc
fits_length (x ∷ c) (a ∷ p) e = ap suc (fits_length c p (fits_parts x a c p e).1)

fits_cell : (c p : List Point) (i : ℕ) → fits c p ≡ true → i < length p → (point_of c i).cell ≡ (point_of p i).cell
fits_cell [] [] i e h = absurd (omega arith)
fits_cell [] (a ∷ p) i e h = absurd cc
fits_cell (x ∷ c) [] i e h = absurd cc
fits_cell (x ∷ c) (a ∷ p) zero e h = same_cell_tells x a (fits_parts x a c p e).0
fits_cell (x ∷ c) (a ∷ p) (suc i) e h = fits_cell c p i (fits_parts x a c p e).1 (omega arith)

lifted_cell : (c p : List Point) (i : ℕ) → length c ≡ length p → i < length p → (point_of (lifted c p) i).cell ≡ (point_of c i).cell
lifted_cell [] [] i e h = absurd (omega arith)
lifted_cell [] (a ∷ p) i e h = absurd (omega arith)
lifted_cell (x ∷ c) [] i e h = absurd (omega arith)
lifted_cell (x ∷ c) (a ∷ p) zero e h = refl
lifted_cell (x ∷ c) (a ∷ p) (suc i) e h = lifted_cell c p i (omega arith) (omega arith)

-- ---- points that are pointed to
pub record IsMarked (g : List Point) (q : PointedPattern) (p : Point) : Type 0 where
  pub chosen : List Point
  pub part : IsPart chosen g
  pub fit : fits chosen q.pattern ≡ true
  pub marks : (point_of chosen q.index).letter ≡ p.letter

pub marked_tells : (g : List Point) (q : PointedPattern) (p : Point) → is_pointed_by g q p ≡ true → IsMarked g q p
marked_tells g q p e =
    let k = which_passes (λ chosen. is_match letter_of same_cell chosen q.pattern && (point_of chosen q.index).letter == p.letter) (parts (length q.pattern) g) e in
    let a = and_parts (fits k.0 q.pattern) ((point_of k.0 q.index).letter == p.letter) k.2 in
    record { chosen = k.0; part = (from_IsIn-parts (length q.pattern) g k.1).0; fit = a.0; marks = (Decides-eqb (point_of k.0 q.index).letter p.letter).0 a.1 }

pub marked_from : (g : List Point) (q : PointedPattern) (p : Point) → IsMarked g q p → is_pointed_by g q p ≡ true
marked_from g q p k =
    some_passes (λ chosen. is_match letter_of same_cell chosen q.pattern && (point_of chosen q.index).letter == p.letter)
    (subst (λ n. IsIn k.chosen (parts n g)) (fits_length k.chosen q.pattern k.fit) (IsIn-parts k.part))
    (and_from (fits k.chosen q.pattern) ((point_of k.chosen q.index).letter == p.letter) k.fit ((Decides-eqb (point_of k.chosen q.index).letter p.letter).1 k.marks))

within_chosen : (c : List Point) (q : PointedPattern) → IsPointed q → fits c q.pattern ≡ true → q.index < length c
within_chosen c q k e = let l = fits_length c q.pattern e in let b = k.place in omega arith

-- the marked point is the one with its letter
marked_point : (g : List Point) (q : PointedPattern) (p : Point) → Distinct g → IsPointed q → IsIn p g → (k : IsMarked g q p) → point_of k.chosen q.index ≡ p
marked_point g q p d o i k = letters_apart g d (point_of k.chosen q.index) p (IsIn-IsPart k.part (point_in_list k.chosen q.index (within_chosen k.chosen q o k.fit))) i k.marks

-- a point lies in the pointed cell of what points to it
pub pointed_cell_is : (g : List Point) (q : PointedPattern) (p : Point) → Distinct g → IsPointed q → IsIn p g → is_pointed_by g q p ≡ true → p.cell ≡ pointed_cell q
pointed_cell_is g q p d o i e =
    let k = marked_tells g q p e in
    sym (ap (λ (z : Point). z.cell) (marked_point g q p d o i k)) ∙ fits_cell k.chosen q.pattern q.index k.fit o.place

pub held_when_pointed : (g : List Point) (q : PointedPattern) (p : Point) → is_pointed_by g q p ≡ true → holds g q.pattern ≡ true
held_when_pointed g q p e = let k = marked_tells g q p e in held_from g q.pattern k.chosen k.part k.fit

pub pointed_when_held : (g : List Point) (q : PointedPattern) → IsPointed q → holds g q.pattern ≡ true → (p : Point) × IsIn p g × (is_pointed_by g q p ≡ true)
pointed_when_held g q o e =
    let k = held_tells g q.pattern e in
    let z = point_of k.0 q.index in
    (z, IsIn-IsPart k.1 (point_in_list k.0 q.index (within_chosen k.0 q o k.2)), marked_from g q z (record { chosen = k.0; part = k.1; fit = k.2; marks = refl }))

-- ---- preimages
module _ (listed : PreimagesAreListed) (m : GridMap) (h : List Point) where
  -- points of h that collapse to an occurrence are one of the preimage with their cells
  marked_preimage : (p c : List Point) → IsGridded p → is_consistent h ≡ true → fits_new m h ≡ true → IsPart c h → fits (collapse m c) p ≡ true → IsIn (lifted c p) (preimages m p) × (holds h (lifted c p) ≡ true)
  marked_preimage p c g e i k f = (
    (listed m p (lifted c p) g).1 (record {
      collapses = moved-lifted (old_cell m) c p f;
      consistent = consistent-lifted (old_cell m) c p f (consistent_part k e);
      inside = lifted_fits (new_lines m.columns) (new_lines m.rows) c p (part_fits (new_lines m.columns) (new_lines m.rows) k i);
    }),
    held_from h (lifted c p) c k (fits-lifted (old_cell m) c p f),
  )

  pub pointed_held : (q : PointedPattern) (test : Cell → Bool) (z : Point) → IsPointed q → Distinct h → is_consistent h ≡ true → fits_new m h ≡ true → IsIn z h → test z.cell ≡ true → is_pointed_by (collapse m h) q z ≡ true
      → list_any (λ g. holds h g) (lifts_pointed m test q) ≡ true
  pointed_held q test z o d e i j t b =
      let k = marked_tells (collapse m h) q z b in
      let c = from_IsPart-map (moved (old_cell m)) h k.part in
      let f : fits (collapse m c.0) q.pattern ≡ true = subst (λ (w : List Point). fits w q.pattern ≡ true) c.2 k.fit in
      let long : length c.0 ≡ length q.pattern = sym (length-map c.0 (moved (old_cell m))) ∙ fits_length (collapse m c.0) q.pattern f in
      let place = o.place in
      let within : q.index < length c.0 = omega arith in
      let letter : (point_of c.0 q.index).letter ≡ z.letter =
      sym (ap (λ (w : Point). w.letter) (point_of_map (moved (old_cell m)) c.0 q.index within)) ∙ sym (ap (λ (w : List Point). (point_of w q.index).letter) c.2) ∙ k.marks in
      let same : point_of c.0 q.index ≡ z = letters_apart h d (point_of c.0 q.index) z (IsIn-IsPart c.1 (point_in_list c.0 q.index within)) j letter in
      let at : (point_of (lifted c.0 q.pattern) q.index).cell ≡ z.cell = lifted_cell c.0 q.pattern q.index long o.place ∙ ap (λ (w : Point). w.cell) same in
      let r = marked_preimage q.pattern c.0 o.gridded e i c.1 f in
      some_passes (λ g. holds h g) (IsIn-filter (λ g. test (point_of g q.index).cell) r.0 (ap test at ∙ t)) r.1

  pub held_pointed : (q : PointedPattern) (test : Cell → Bool) → IsPointed q → list_any (λ g. holds h g) (lifts_pointed m test q) ≡ true
      → (z : Point) × IsIn z h × (test z.cell ≡ true) × (is_pointed_by (collapse m h) q z ≡ true)
  held_pointed q test o b =
      let l = which_passes (λ g. holds h g) (lifts_pointed m test q) b in
      let a = from_IsIn-filter (λ g. test (point_of g q.index).cell) (preimages m q.pattern) l.1 in
      let c = held_tells h l.0 l.2 in
      let pre = (listed m q.pattern l.0 o.gridded).0 a.0 in
      let f : fits (collapse m c.0) q.pattern ≡ true = subst (λ (w : List Point). fits (collapse m c.0) w ≡ true) pre.collapses (fits_moved (old_cell m) c.0 l.0 c.2) in
      let as_long : length l.0 ≡ length q.pattern = sym (length-map l.0 (moved (old_cell m))) ∙ ap (λ (w : List Point). length w) pre.collapses in
      let long = fits_length c.0 l.0 c.2 in
      let place = o.place in
      let within : q.index < length c.0 = omega arith in
      let inside : q.index < length l.0 = omega arith in
      let z = point_of c.0 q.index in
      let at : z.cell ≡ (point_of l.0 q.index).cell = fits_cell c.0 l.0 q.index c.2 inside in (
        z,
        IsIn-IsPart c.1 (point_in_list c.0 q.index within),
        ap test at ∙ a.1,
        marked_from (collapse m h) q z (record { chosen = collapse m c.0; part = IsPart-map (moved (old_cell m)) c.1; fit = f; marks = ap (λ (w : Point). w.letter) (point_of_map (moved (old_cell m)) c.0 q.index within) }),
      )
