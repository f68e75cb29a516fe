-- How many preimages there are: the ways of the cut column's points, times those of the cut row's.
use Rattle.std.proofs.Common.{◌≡◌, ℕ, suc, ◌+◌, ◌*◌, ◌<◌, ◌≤◌, Bool, true, false, List, [], ◌∷◌, ◌++◌, length, refl, sym, ap, ◌∙◌, arith, inl, inr}
use Rattle.std.specs.Prelude.{◌&&◌, ◌||◌, not, map, nat_lt, nat_eq, ◌==◌, cond, count_by}
use Rattle.std.specs.List.{list_all, list_any, AllByRecursion}
use Rattle.std.proofs.lemmas.Bool.Decides.{nat_tests}
use Rattle.std.proofs.lemmas.List.{map-append}
use Rattle.std.proofs.lemmas.List.Sums.{sum_by-cons}
use Rattle.std.proofs.lemmas.Bool.{and_parts}
use Rattle.patterns.specs.Words.{has_no_repeats}
use Rattle.gridded.specs.Grids.{Point, may_follow, is_consistent}
use Rattle.gridded.specs.declared.cell.Cell.{Cell}
use Rattle.gridded.specs.Orders.{letters_of, cells_of}
use Rattle.coord_maps.specs.declared.grid_map.GridMap.{GridMap}
use Rattle.coord_maps.specs.GridMaps.{IsGridMap}
use Rattle.coord_maps.specs.Preimages.{lines_over, may_come, put, completions, in_cell, in_column}
use Rattle.coord_maps.specs.Ways.{ways}
use Rattle.coord_maps.proofs.Choosing.{total, length-flat_map, total-agree, total-times, total-times_right, Mark, line_of, columns_rise, rows_agree, comes, ways_from, IsApart, AreApart, AreRising, count_of, columns_counted, rows_counted}

abbrev column_mark : Point → Mark
column_mark p = (p.letter, p.cell.x)

abbrev row_mark : Point → Mark
row_mark p = (p.letter, p.cell.y)

-- a point may come where its column and its row may
come_along_both : (s : List Point) (q : Point) → may_come s q ≡ (comes columns_rise (map column_mark s) (column_mark q) && comes rows_agree (map row_mark s) (row_mark q))
come_along_both [] q = refl
come_along_both (p ∷ s) q =
    rw (come_along_both s q) (shuffled (columns_rise (column_mark p) (column_mark q)) (rows_agree (row_mark p) (row_mark q)) (comes columns_rise (map column_mark s) (column_mark q)) (comes rows_agree (map row_mark s) (row_mark q)))
  where
    shuffled : (a b c d : Bool) → (a && b && (c && d)) ≡ (a && c && (b && d))
    shuffled true true c d = refl
    shuffled true false true d = refl
    shuffled true false false d = refl
    shuffled false b c d = refl

completions_counted : (m : GridMap) (s g : List Point)
    → length (completions m s g) ≡ ways_from columns_rise (lines_over m.columns) (map column_mark s) (map column_mark g) * ways_from rows_agree (lines_over m.rows) (map row_mark s) (map row_mark g)
completions_counted m s [] = refl
completions_counted m s (p ∷ g) =
    length-flat_map (in_column m s p g) (lines_over m.columns p.cell.x)
    ∙ total-agree (λ x. length (in_column m s p g x)) (λ x. columns x * total rows (lines_over m.rows p.cell.y))
    (λ x. length-flat_map (in_cell m s p g x) (lines_over m.rows p.cell.y)
    ∙ total-agree (λ y. length (in_cell m s p g x y)) (λ y. columns x * rows y) (λ y. in_one x y (completions_counted m (s ++ put p x y ∷ []) g)) (lines_over m.rows p.cell.y)
    ∙ total-times rows (columns x) (lines_over m.rows p.cell.y)) (lines_over m.columns p.cell.x)
    ∙ total-times_right columns (total rows (lines_over m.rows p.cell.y)) (lines_over m.columns p.cell.x)
  where
    columns : ℕ → ℕ
    columns x = cond (comes columns_rise (map column_mark s) (p.letter, x)) (ways_from columns_rise (lines_over m.columns) (map column_mark s ++ (p.letter, x) ∷ []) (map column_mark g)) 0

    rows : ℕ → ℕ
    rows y = cond (comes rows_agree (map row_mark s) (p.letter, y)) (ways_from rows_agree (lines_over m.rows) (map row_mark s ++ (p.letter, y) ∷ []) (map row_mark g)) 0

    both : (a b : Bool) (h : List (List Point)) (u v : ℕ) → length h ≡ u * v → length (cond (a && b) h []) ≡ cond a u 0 * cond b v 0
    both true true h u v e = e
    both true false h u v e = omega arith
    both false b h u v e = omega arith

    in_one : (x y : ℕ)
        → length (completions m (s ++ put p x y ∷ []) g) ≡ ways_from columns_rise (lines_over m.columns) (map column_mark (s ++ put p x y ∷ [])) (map column_mark g) * ways_from rows_agree (lines_over m.rows) (map row_mark (s ++ put p x y ∷ [])) (map row_mark g)
        → length (in_cell m s p g x y) ≡ columns x * rows y
    in_one x y ih =
        ap (λ b. length (cond b (completions m (s ++ put p x y ∷ []) g) [])) (come_along_both s (put p x y))
        ∙ both (comes columns_rise (map column_mark s) (p.letter, x)) (comes rows_agree (map row_mark s) (p.letter, y)) (completions m (s ++ put p x y ∷ []) g) _ _
        (ih ∙ (λ i. ways_from columns_rise (lines_over m.columns) (map-append column_mark s (put p x y ∷ []) i) (map column_mark g) * ways_from rows_agree (lines_over m.rows) (map-append row_mark s (put p x y ∷ []) i) (map row_mark g)))

-- ---- what a gridded permutation keeps
columns_of_rise : (g : List Point) → is_consistent g ≡ true → AreRising (map line_of (map column_mark g))
columns_of_rise [] e = tt
columns_of_rise (p ∷ g) e = let a = and_parts (list_all (λ q. may_follow p q) g) (is_consistent g) e in (each g a.0, columns_of_rise g a.1)
  where
    each : (h : List Point) → list_all (λ q. may_follow p q) h ≡ true → AllByRecursion (λ y. p.cell.x ≤ y) (map line_of (map column_mark h))
    each [] e = tt
    each (q ∷ h) e =
        let a = and_parts (may_follow p q) (list_all (λ r. may_follow p r) h) e in
        let b = and_parts (columns_rise (column_mark p) (column_mark q)) (rows_agree (row_mark p) (row_mark q)) a.0 in
        let rises : p.cell.x ≤ q.cell.x = grind (arith, nat_tests, b.0) in
        (rises, each h a.1)

rows_of_apart : (g : List Point) → is_consistent g ≡ true → has_no_repeats (letters_of g) ≡ true → AreApart (map row_mark g)
rows_of_apart [] e d = tt
rows_of_apart (p ∷ g) e d =
    let a = and_parts (list_all (λ q. may_follow p q) g) (is_consistent g) e in
    let b = and_parts (not (list_any (λ l. p.letter == l) (letters_of g))) (has_no_repeats (letters_of g)) d in
    (each g a.0 b.0, rows_of_apart g a.1 b.1)
  where
    apart : (q : Point) → rows_agree (row_mark p) (row_mark q) ≡ true → nat_eq p.letter q.letter ≡ false → IsApart (row_mark p) (row_mark q)
    apart q e d = go (nat_lt p.letter q.letter) refl
      where
        go : (b : Bool) → nat_lt p.letter q.letter ≡ b → IsApart (row_mark p) (row_mark q)
        go true t = inl (let low : p.letter < q.letter = grind (arith, nat_tests, t) in let rises : p.cell.y ≤ q.cell.y = grind (arith, nat_tests, t, e) in (low, rises))
        go false t =
            let low : q.letter < p.letter = grind (arith, nat_tests, t, d) in
            inr (let rises : q.cell.y ≤ p.cell.y = grind (arith, nat_tests, e, d, t) in (low, rises))

    either : (a b : Bool) → not (a || b) ≡ true → (a ≡ false) × (not b ≡ true)
    either true b e = absurd cc
    either false b e = (refl, e)

    each : (h : List Point) → list_all (λ q. may_follow p q) h ≡ true → not (list_any (λ l. p.letter == l) (letters_of h)) ≡ true → AllByRecursion (λ q. IsApart (row_mark p) q) (map row_mark h)
    each [] e d = tt
    each (q ∷ h) e d =
        let a = and_parts (may_follow p q) (list_all (λ r. may_follow p r) h) e in
        let b = and_parts (columns_rise (column_mark p) (column_mark q)) (rows_agree (row_mark p) (row_mark q)) a.0 in
        let c = either (p.letter == q.letter) (list_any (λ l. p.letter == l) (letters_of h)) d in
        (apart q b.1 c.0, each h a.1 c.1)

count_along : (f : Point → Mark) (line : Cell → ℕ) → ((p : Point) → line_of (f p) ≡ line p.cell) → (at : ℕ) (g : List Point) → count_of at (map line_of (map f g)) ≡ count_by (λ c. nat_eq (line c) at) (cells_of g)
count_along f line e at [] = refl
count_along f line e at (p ∷ g) =
    ap (λ n. cond (nat_eq (line_of (f p)) at) (suc n) n) (count_along f line e at g)
    ∙ ap (λ l. cond (nat_eq l at) (suc (count_by (λ c. nat_eq (line c) at) (cells_of g))) (count_by (λ c. nat_eq (line c) at) (cells_of g))) (e p)
    ∙ one_more (nat_eq (line p.cell) at) (count_by (λ c. nat_eq (line c) at) (cells_of g))
    ∙ sym (sum_by-cons (λ c. cond (nat_eq (line c) at) 1 0) p.cell (cells_of g))
  where
    one_more : (b : Bool) (n : ℕ) → cond b (suc n) n ≡ cond b 1 0 + n
    one_more true n = omega arith
    one_more false n = omega arith

pub counted : (m : GridMap) (g : List Point) → IsGridMap m → is_consistent g ≡ true → has_no_repeats (letters_of g) ≡ true
    → length (completions m [] g) ≡ ways (count_by (λ c. nat_eq c.x m.columns.at) (cells_of g)) m.columns.parts * ways (count_by (λ c. nat_eq c.y m.rows.at) (cells_of g)) m.rows.parts
counted m g k c d =
    completions_counted m [] g
    ∙ (λ i. columns_counted m.columns (map column_mark g) k.columns (columns_of_rise g c) i * rows_counted m.rows (map row_mark g) k.rows (rows_of_apart g c d) i)
    ∙ (λ i. ways (count_along column_mark (λ c. c.x) (λ p. refl) m.columns.at g i) m.columns.parts * ways (count_along row_mark (λ c. c.y) (λ p. refl) m.rows.at g i) m.rows.parts)
