-- A point alone in its column and its row, and the patterns that say so.
use Rattle.std.proofs.Common.{◌≡◌, ◌<◌, ℕ, Bool, true, false, List, [], ◌∷◌, refl, sym, ap, ◌∙◌, arith, ⊎_elim}
use Rattle.std.specs.Prelude.{◌&&◌, ◌⊎◌, not, ◌==◌, map, filter}
use Rattle.std.specs.List.{list_all}
use Rattle.std.proofs.lemmas.Bool.Decides.{nat_tests, Decides-eqb}
use Rattle.std.proofs.lemmas.Bool.{false_from_ne_true, and_parts, and_from, or_cases, not_from_false}
use Rattle.std.proofs.Math.Bool.{or-true}
use Rattle.lists.proofs.Numbers.{Standing, standing}
use Rattle.patterns.proofs.Occurrences.{alike_tells}
use Rattle.gridded.specs.declared.axis.Axis.{Axis}
use Rattle.gridded.specs.declared.axis.Axis.TheVariants as axis
use Rattle.gridded.specs.declared.cell.Cell.{Cell}
use Rattle.gridded.specs.Axes.{line_of, shares_line}
use Rattle.gridded.specs.Grids.{Point, holds, cells_in}
use Rattle.gridded.specs.Orders.{cell_eq}
use Rattle.gridded.specs.OrderLaws.{cell_eq_decides}
use Rattle.gridded.specs.Laws.{IsCellOf}
use Rattle.gridded.proofs.GriddedLists.{IsIn-cells_in}
use Rattle.tiling_core.specs.Tiles.{Tiles}
use Rattle.gridded.specs.Small.{point_at, rising, falling}
use Rattle.tiling_core.proofs.Deciding.{not_held}
use Rattle.gridded.proofs.Pairs.{two, point_held, holds_its_point, pair_held, holds_pair}
use Rattle.rule_kinds.specs.Children.{alone_in}
use Rattle.gridded.proofs.Positions.{Distinct, letters_apart}
use Rattle.lists.proofs.Numbers.Standing.{less, more, even}
use Rattle.lists.proofs.Tests.{each_passes, all_pass}
use Rattle.lists.specs.Members.{IsIn}
use Rattle.lists.specs.Parts.{IsPart}
use Rattle.lists.proofs.Members.{IsIn-map, from_IsIn-map, IsIn-filter, from_IsIn-filter}
use Rattle.lists.proofs.Parts.{IsPart-two}

-- ---- alone
pub record IsOnly (m : Cell) (h : List Point) (z : Point) : Type 0 where
  pub there : IsIn z h
  pub at : z.cell ≡ m
  pub only : (a : Axis) (y : Point) → IsIn y h → line_of a y.cell ≡ line_of a m → y ≡ z

only_there : (m : Cell) (h : List Point) (z y : Point) → IsOnly m h z → IsIn y h → y.cell ≡ m → y ≡ z
only_there m h z y k i e = k.only axis.Column y i (ap (λ (c : Cell). c.x) e)

no_pair : (m : Cell) (h : List Point) (z : Point) (k l : ℕ) → (k ≡ l → ⊥) → IsOnly m h z → holds h (two k l m m) ≡ true → ⊥
no_pair m h z k l n o e =
    let p = pair_held h k l m m e in
    let y = only_there m h z p.0 o p.2 p.4 in
    let x = only_there m h z p.1 o p.3 p.5 in
    let s : p.0.letter ≡ p.1.letter = ap (λ (w : Point). w.letter) (y ∙ sym x) in
    let a = alike_tells p.0.letter k p.1.letter l p.6 in
    n (go (standing k l) s a.0.1 a.1.1)
  where
    go : {u v : ℕ} → Standing k l → u ≡ v → (k < l → u < v) → (l < k → v < u) → k ≡ l
    go (less q) s f g = absurd (let r = f q in omega arith)
    go (more q) s f g = absurd (let r = g q in omega arith)
    go (even q) s f g = q

abbrev pub other_cell : Cell → Cell → Bool
other_cell m c = shares_line c m && not (cell_eq c m)

abbrev others : Tiles → Cell → List (List Point)
others t m = map point_at (filter (λ c. other_cell m c) (cells_in t.width t.height))

no_other : (m : Cell) (h : List Point) (z : Point) (c : Cell) → IsOnly m h z → other_cell m c ≡ true → holds h (point_at c) ≡ true → ⊥
no_other m h z c o e f =
    let k = and_parts (shares_line c m) (not (cell_eq c m)) e in
    let p = point_held h c f in
    let s = ⊎_elim {C = p.0 ≡ z}
    (λ u. o.only axis.Column p.0 p.1 (ap (λ (d : Cell). d.x) p.2 ∙ (Decides-eqb c.x m.x).0 u))
    (λ u. o.only axis.Row p.0 p.1 (ap (λ (d : Cell). d.y) p.2 ∙ (Decides-eqb c.y m.y).0 u)) (or_cases (c.x == m.x) (c.y == m.y) k.0) in
    let same : c ≡ m = sym p.2 ∙ ap (λ (w : Point). w.cell) s ∙ o.at in
    not_held (cell_eq c m) k.1 ((cell_eq_decides c m).1 same)

pub avoids_alone : (t : Tiles) (m : Cell) (h : List Point) (z : Point) → IsOnly m h z → list_all (λ p. not (holds h p)) (alone_in t m) ≡ true
avoids_alone t m h z o =
    and_from _ _ (not_from_false (holds h (rising m m)) (false_from_ne_true (holds h (rising m m)) (no_pair m h z 0 1 (λ e. omega arith) o)))
    (and_from _ _ (not_from_false (holds h (falling m m)) (false_from_ne_true (holds h (falling m m)) (no_pair m h z 1 0 (λ e. omega arith) o)))
    (all_pass (λ p. not (holds h p)) (map point_at (filter (λ c. other_cell m c) (cells_in t.width t.height)))
    (λ p i. let k = from_IsIn-map point_at (filter (λ c. other_cell m c) (cells_in t.width t.height)) i in
    let l = from_IsIn-filter (λ c. other_cell m c) (cells_in t.width t.height) k.1 in
    rw k.2 (not_from_false (holds h (point_at k.0)) (false_from_ne_true (holds h (point_at k.0)) (no_other m h z k.0 o l.1))))))

pub only_from : (t : Tiles) (m : Cell) (h : List Point) → Distinct h → ((y : Point) → IsIn y h → IsCellOf t.width t.height y.cell) → list_all (λ p. not (holds h p)) (alone_in t m) ≡ true → (z : Point) → IsIn z h → z.cell ≡ m → IsOnly m h z
only_from t m h d inside e z i at = record {
  there = i;
  at = at;
  only = λ a y j f. go a y j f (cell_eq y.cell m) refl;
}
  where
    first : (not (holds h (rising m m)) ≡ true) × (list_all (λ p. not (holds h p)) (falling m m ∷ others t m) ≡ true)
    first = and_parts (not (holds h (rising m m))) (list_all (λ p. not (holds h p)) (falling m m ∷ others t m)) e

    rest : (not (holds h (falling m m)) ≡ true) × (list_all (λ p. not (holds h p)) (others t m) ≡ true)
    rest = and_parts (not (holds h (falling m m))) (list_all (λ p. not (holds h p)) (others t m)) first.1

    both_ways : (y : Point) → y.cell ≡ m → (u v : Point) → u.cell ≡ m → v.cell ≡ m → IsPart (u ∷ v ∷ []) h → Standing u.letter v.letter → u.letter ≡ v.letter
    both_ways y f u v g k p (less q) = absurd (not_held (holds h (rising m m)) first.0 (holds_pair h 0 1 m m u v p g k (grind (arith, nat_tests, q))))
    both_ways y f u v g k p (more q) = absurd (not_held (holds h (falling m m)) rest.0 (holds_pair h 1 0 m m u v p g k (grind (arith, nat_tests, q))))
    both_ways y f u v g k p (even q) = q

    one_letter : (y : Point) → IsIn y h → y.cell ≡ m → Standing y.letter z.letter → y.letter ≡ z.letter
    one_letter y j f (even q) = q
    one_letter y j f (less q) =
        ⊎_elim {C = y.letter ≡ z.letter} (λ p. both_ways y f y z f at p (standing y.letter z.letter)) (λ p. sym (both_ways y f z y at f p (standing z.letter y.letter)))
        (IsPart-two j i (λ s. let w : y.letter ≡ z.letter = ap (λ (x : Point). x.letter) s in omega arith))
    one_letter y j f (more q) =
        ⊎_elim {C = y.letter ≡ z.letter} (λ p. both_ways y f y z f at p (standing y.letter z.letter)) (λ p. sym (both_ways y f z y at f p (standing z.letter y.letter)))
        (IsPart-two j i (λ s. let w : y.letter ≡ z.letter = ap (λ (x : Point). x.letter) s in omega arith))

    shares : (a : Axis) (c : Cell) → line_of a c ≡ line_of a m → shares_line c m ≡ true
    shares axis.Column c f = let k : (c.x == m.x) ≡ true = (Decides-eqb c.x m.x).1 f in rw k refl
    shares axis.Row c f = let k : (c.y == m.y) ≡ true = (Decides-eqb c.y m.y).1 f in rw k (or-true (c.x == m.x))

    go : (a : Axis) (y : Point) → IsIn y h → line_of a y.cell ≡ line_of a m → (b : Bool) → cell_eq y.cell m ≡ b → y ≡ z
    go a y j f true g = letters_apart h d y z j i (one_letter y j ((cell_eq_decides y.cell m).0 g) (standing y.letter z.letter))
    go a y j f false g =
        let there = IsIn-map point_at (IsIn-filter (λ c. other_cell m c) (IsIn-cells_in t.width t.height y.cell (inside y j)) (and_from (shares_line y.cell m) (not (cell_eq y.cell m)) (shares a y.cell f) (not_from_false (cell_eq y.cell m) g))) in
        absurd (not_held (holds h (point_at y.cell)) (each_passes (λ p. not (holds h p)) rest.1 there) (holds_its_point h y y.cell j refl))
