-- The direct listing of preimages gives, of all gridded permutations of the new grid, those that collapse.
use Rattle.std.proofs.Common.{◌≡◌, ℕ, zero, suc, ◌+◌, ◌<◌, ◌≤◌, Bool, true, false, List, [], ◌∷◌, ◌++◌, length, refl, sym, ap, ◌∙◌, arith, append_assoc, append-nil}
use Rattle.std.specs.Prelude.{◌&&◌, map, filter, flat_map, nat_lt, nat_eq, cond}
use Rattle.std.specs.List.{range_with_len, list_all, AllByRecursion}
use Rattle.std.specs.Cmp.Lexicographic.{pointwise}
use Rattle.std.proofs.lemmas.Bool.Decides.{nat_tests, Decides-eqb}
use Rattle.std.proofs.lemmas.List.{map-append}
use Rattle.std.proofs.lemmas.List.Elements.{filter-append, filter_agree}
use Rattle.std.proofs.lemmas.List.Folds.{flat_map-map}
use Rattle.std.proofs.lemmas.Bool.{and_parts}
use Rattle.std.proofs.Math.Bool.{and-false, and-true}
use Rattle.patterns.specs.Words.{has_no_repeats}
use Rattle.gridded.specs.declared.cell.Cell.{Cell}
use Rattle.gridded.specs.Grids.{Point, may_follow, is_consistent, is_gridded, cells_in, points_in}
use Rattle.gridded.specs.Orders.{cell_eq, gridded_eq, letters_of, cells_of}
use Rattle.gridded.specs.OrderLaws.{gridded_eq_decides}
use Rattle.coord_maps.specs.declared.grid_map.GridMap.{GridMap}
use Rattle.coord_maps.specs.LineMaps.{new_lines}
use Rattle.coord_maps.specs.GridMaps.{IsGridMap, old_cell, collapse, fits_old}
use Rattle.coord_maps.specs.Preimages.{preimages, lines_over, may_come, put, completions}
use Rattle.gridded.proofs.Moved.{letters_moved}
use Rattle.coord_maps.proofs.Runs.{cell_at, cells_filtered}
use Rattle.coord_maps.proofs.Placed.{come-push}
use Rattle.lists.proofs.Maps.{flat_map-agree, flat_map-flat_map, flat_map-tested}
use Rattle.lists.proofs.Filters.{filter-filter}
use Rattle.lists.specs.Words.{words}

-- ---- lists
flat_map-none : {Z : Type 0} (f : ℕ → List Z) (a n : ℕ) → ((i : ℕ) → a ≤ i → f i ≡ []) → flat_map f (range_with_len a n) ≡ []
flat_map-none f a zero e = refl
flat_map-none f a (suc n) e = rw (e a (omega arith)) (flat_map-none f (a + 1) n (λ i h. e i (omega arith)))

-- only one number gives items
flat_map-single : {Z : Type 0} (f : ℕ → List Z) (k a n : ℕ) → a ≤ k → k < a + n → ((i : ℕ) → nat_eq i k ≡ false → f i ≡ []) → flat_map f (range_with_len a n) ≡ f k
flat_map-single f k a zero h l e = absurd (omega arith)
flat_map-single {Z} f k a (suc n) h l e = go (nat_eq a k) refl (λ p q. flat_map-single f k (a + 1) n p q e)
  where
    nothing_more : (ys zs : List Z) → zs ≡ [] → ys ++ zs ≡ ys
    nothing_more [] zs z = z
    nothing_more (y ∷ ys) zs z = ap (λ r. y ∷ r) (nothing_more ys zs z)

    go : (b : Bool) → nat_eq a k ≡ b → (a + 1 ≤ k → k < a + 1 + n → flat_map f (range_with_len (a + 1) n) ≡ f k) → f a ++ flat_map f (range_with_len (a + 1) n) ≡ f k
    go true t ih = let same : a ≡ k = (Decides-eqb a k).0 t in nothing_more (f a) _ (flat_map-none f (a + 1) n (λ i p. e i (grind (arith, nat_tests)))) ∙ ap f same
    go false t ih = rw (e a t) (ih (grind (arith, nat_tests)) (grind (arith, nat_tests)))

-- ---- the test of what the search lists, point by point
-- whether q is p in a new cell that goes to its own, and may stand right of s
abbrev is_step : GridMap → List Point → Point → Point → Bool
is_step m s p q = nat_eq q.letter p.letter && (cell_eq (old_cell m q.cell) p.cell && may_come s q)

abbrev is_lift : GridMap → List Point → List Point → List Point → Bool
is_lift m s [] [] = true
is_lift m s (p ∷ g) (q ∷ h) = is_step m s p q && is_lift m (s ++ q ∷ []) g h
is_lift m s _ _ = false

abbrev after : List Point → List (List Point) → List (List Point)
after s hs = map (λ h. s ++ h) hs

one_first : (m : GridMap) (s g : List Point) (p q : Point) (ws : List (List Point)) → after s (filter (is_lift m s (p ∷ g)) (map (λ w. q ∷ w) ws)) ≡ cond (is_step m s p q) (after (s ++ q ∷ []) (filter (is_lift m (s ++ q ∷ []) g) ws)) []
one_first m s g p q [] = go (is_step m s p q)
  where
    go : (b : Bool) → after s [] ≡ cond b (after (s ++ q ∷ []) []) []
    go true = refl
    go false = refl
one_first m s g p q (w ∷ ws) = go (is_step m s p q) (is_lift m (s ++ q ∷ []) g w) (one_first m s g p q ws)
  where
    go : (b r : Bool) → after s (filter (is_lift m s (p ∷ g)) (map (λ w. q ∷ w) ws)) ≡ cond b (after (s ++ q ∷ []) (filter (is_lift m (s ++ q ∷ []) g) ws)) []
        → after s (cond (b && r) ((q ∷ w) ∷ filter (is_lift m s (p ∷ g)) (map (λ w. q ∷ w) ws)) (filter (is_lift m s (p ∷ g)) (map (λ w. q ∷ w) ws))) ≡ cond b (after (s ++ q ∷ []) (cond r (w ∷ filter (is_lift m (s ++ q ∷ []) g) ws) (filter (is_lift m (s ++ q ∷ []) g) ws))) []
    go true true e = let joined : s ++ (q ∷ w) ≡ s ++ q ∷ [] ++ w = sym (append_assoc s (q ∷ []) w) in λ i. joined i ∷ e i
    go true false e = e
    go false r e = e

all_first : (m : GridMap) (s g : List Point) (p : Point) (ws : List (List Point)) (qs : List Point) → after s (filter (is_lift m s (p ∷ g)) (flat_map (λ q. map (λ w. q ∷ w) ws) qs)) ≡ flat_map (λ q. cond (is_step m s p q) (after (s ++ q ∷ []) (filter (is_lift m (s ++ q ∷ []) g) ws)) []) qs
all_first m s g p ws [] = refl
all_first m s g p ws (q ∷ qs) =
    ap (after s) (filter-append (is_lift m s (p ∷ g)) (map (λ w. q ∷ w) ws) (flat_map (λ r. map (λ w. r ∷ w) ws) qs))
    ∙ map-append (λ h. s ++ h) (filter (is_lift m s (p ∷ g)) (map (λ w. q ∷ w) ws)) (filter (is_lift m s (p ∷ g)) (flat_map (λ r. map (λ w. r ∷ w) ws) qs))
    ∙ rw (one_first m s g p q ws, all_first m s g p ws qs) refl

flat_map-empty : {X Z : Type 0} (f : X → List Z) (xs : List X) → ((x : X) → f x ≡ []) → flat_map f xs ≡ []
flat_map-empty f [] e = refl
flat_map-empty f (x ∷ xs) e = rw (e x) (flat_map-empty f xs e)

-- over all points of the new grid, only those of the letter and of the run of cells give items
over_points : (m : GridMap) (n : ℕ) (s : List Point) (p : Point) (K : Point → List (List Point)) → IsGridMap m → p.letter < n → p.cell.x < m.columns.lines → p.cell.y < m.rows.lines
    → flat_map (λ q. cond (is_step m s p q) (K q) []) (points_in (new_lines m.columns) (new_lines m.rows) n)
    ≡ flat_map (λ x. flat_map (λ y. cond (may_come s (put p x y)) (K (put p x y)) []) (lines_over m.rows p.cell.y)) (lines_over m.columns p.cell.x)
over_points m n s p K k l hx hy =
    flat_map-flat_map F (λ letter. map (at letter) C) (range_with_len 0 n)
    ∙ flat_map-single (λ letter. flat_map F (map (at letter) C)) p.letter 0 n (omega arith) (omega arith) (λ i e. flat_map-map F (at i) C ∙ flat_map-empty (λ c. F (at i c)) C (λ c. rw e refl))
    ∙ flat_map-map F (at p.letter) C
    ∙ flat_map-agree (λ c. F (at p.letter c)) (λ c. cond (cell_eq (old_cell m c) p.cell) (G c) []) C (λ c _. rw ((Decides-eqb p.letter p.letter).1 refl) (nested (cell_eq (old_cell m c) p.cell) (may_come s (at p.letter c)) (K (at p.letter c))))
    ∙ flat_map-tested (λ c. cell_eq (old_cell m c) p.cell) G C
    ∙ ap (flat_map G) (cells_filtered m p.cell k hx hy)
    ∙ flat_map-flat_map G (λ x. map (cell_at x) (lines_over m.rows p.cell.y)) (lines_over m.columns p.cell.x)
    ∙ flat_map-agree (λ x. flat_map G (map (cell_at x) (lines_over m.rows p.cell.y))) (λ x. flat_map (λ y. G (cell_at x y)) (lines_over m.rows p.cell.y)) (lines_over m.columns p.cell.x) (λ x _. flat_map-map G (cell_at x) (lines_over m.rows p.cell.y))
  where
    C : List Cell
    C = cells_in (new_lines m.columns) (new_lines m.rows)

    at : ℕ → Cell → Point
    at letter c = record { letter = letter; cell = c }

    F : Point → List (List Point)
    F q = cond (is_step m s p q) (K q) []

    G : Cell → List (List Point)
    G c = cond (may_come s (at p.letter c)) (K (at p.letter c)) []

    nested : (a b : Bool) (r : List (List Point)) → cond (a && b) r [] ≡ cond a (cond b r []) []
    nested true b r = refl
    nested false b r = refl

pub in_old : (m : GridMap) (p : Point) (g : List Point) → fits_old m (p ∷ g) ≡ true → (p.cell.x < m.columns.lines) × (p.cell.y < m.rows.lines) × (fits_old m g ≡ true)
in_old m p g e =
    let a = and_parts (nat_lt p.cell.x m.columns.lines && nat_lt p.cell.y m.rows.lines) (fits_old m g) e in
    let b = and_parts (nat_lt p.cell.x m.columns.lines) (nat_lt p.cell.y m.rows.lines) a.0 in
    (grind (arith, nat_tests, b.0), grind (arith, nat_tests, b.1), a.1)

-- the search lists, of all words of points, those that pass its test
listed : (m : GridMap) (n : ℕ) (s g : List Point) → IsGridMap m → AllByRecursion (λ (p : Point). p.letter < n) g → fits_old m g ≡ true
    → after s (filter (is_lift m s g) (words (points_in (new_lines m.columns) (new_lines m.rows) n) (length g))) ≡ completions m s g
listed m n s [] k b e = ap (λ h. h ∷ []) (append-nil s)
listed m n s (p ∷ g) k b e =
    let o = in_old m p g e in
    all_first m s g p (words A (length g)) A
    ∙ flat_map-agree (λ q. cond (is_step m s p q) (after (s ++ q ∷ []) (filter (is_lift m (s ++ q ∷ []) g) (words A (length g)))) []) (λ q. cond (is_step m s p q) (completions m (s ++ q ∷ []) g) []) A
    (λ q _. ap (λ r. cond (is_step m s p q) r []) (listed m n (s ++ q ∷ []) g k b.1 o.2))
    ∙ over_points m n s p (λ q. completions m (s ++ q ∷ []) g) k b.0 o.0 o.1
  where
    A : List Point
    A = points_in (new_lines m.columns) (new_lines m.rows) n

-- ---- the test is that of the definition
abbrev lines_up : GridMap → List Point → List Point → Bool
lines_up m [] [] = true
lines_up m (p ∷ g) (q ∷ h) = (nat_eq q.letter p.letter && cell_eq (old_cell m q.cell) p.cell) && lines_up m g h
lines_up m _ _ = false

lines_up-is : (m : GridMap) (g h : List Point) → gridded_eq (collapse m h) g ≡ lines_up m g h
lines_up-is m [] [] = refl
lines_up-is m (p ∷ g) [] = refl
lines_up-is m [] (q ∷ h) = refl
lines_up-is m (p ∷ g) (q ∷ h) =
    shuffled (nat_eq q.letter p.letter) (pointwise nat_eq (letters_of (collapse m h)) (letters_of g)) (cell_eq (old_cell m q.cell) p.cell) (pointwise cell_eq (cells_of (collapse m h)) (cells_of g))
    ∙ ap (λ r. nat_eq q.letter p.letter && cell_eq (old_cell m q.cell) p.cell && r) (lines_up-is m g h)
  where
    shuffled : (a b c d : Bool) → (a && b && (c && d)) ≡ (a && c && (b && d))
    shuffled true true c d = refl
    shuffled true false true d = refl
    shuffled true false false d = refl
    shuffled false b c d = refl

all_come-more : (s : List Point) (q : Point) (h : List Point) → list_all (λ r. may_come (s ++ q ∷ []) r) h ≡ (list_all (λ r. may_come s r) h && list_all (λ r. may_follow q r) h)
all_come-more s q [] = refl
all_come-more s q (r ∷ h) =
    rw (come-push s q r, all_come-more s q h) (shuffled (may_come s r) (may_follow q r) (list_all (λ t. may_come s t) h) (list_all (λ t. may_follow q t) h))
  where
    shuffled : (a b c d : Bool) → (a && b && (c && d)) ≡ (a && c && (b && d))
    shuffled true true c d = refl
    shuffled true false true d = refl
    shuffled true false false d = refl
    shuffled false b c d = refl

is_lift-is : (m : GridMap) (s g h : List Point) → is_lift m s g h ≡ (lines_up m g h && (list_all (λ q. may_come s q) h && is_consistent h))
is_lift-is m s [] [] = refl
is_lift-is m s (p ∷ g) [] = refl
is_lift-is m s [] (q ∷ h) = refl
is_lift-is m s (p ∷ g) (q ∷ h) =
    rw (is_lift-is m (s ++ q ∷ []) g h, all_come-more s q h)
    (shuffled (nat_eq q.letter p.letter) (cell_eq (old_cell m q.cell) p.cell) (may_come s q) (lines_up m g h) (list_all (λ r. may_come s r) h) (list_all (λ r. may_follow q r) h) (is_consistent h))
  where
    shuffled : (a b c d e f g : Bool) → (a && (b && c) && (d && (e && f && g))) ≡ (a && b && d && (c && e && (f && g)))
    shuffled false b c d e f g = refl
    shuffled true false c d e f g = refl
    shuffled true true true true true f g = refl
    shuffled true true true true false f g = refl
    shuffled true true true false e f g = refl
    shuffled true true false true e f g = refl
    shuffled true true false false e f g = refl

all_come-none : (h : List Point) → list_all (λ q. may_come [] q) h ≡ true
all_come-none [] = refl
all_come-none (q ∷ h) = all_come-none h

-- what collapses to g has its letters, so they needn't be tested
test_is : (m : GridMap) (g h : List Point) → has_no_repeats (letters_of g) ≡ true → (is_gridded h && gridded_eq (collapse m h) g) ≡ is_lift m [] g h
test_is m g h d = go (gridded_eq (collapse m h) g) refl ∙ rw (lines_up-is m g h) (sym (is_lift-is m [] g h ∙ ap (λ r. lines_up m g h && (r && is_consistent h)) (all_come-none h)))
  where
    go : (b : Bool) → gridded_eq (collapse m h) g ≡ b → (is_gridded h && b) ≡ (b && is_consistent h)
    go true e =
        let same = (gridded_eq_decides (collapse m h) g).0 e in
        let letters : letters_of h ≡ letters_of g = sym (letters_moved (old_cell m) h) ∙ ap (λ r. letters_of r) same in
        let distinct : has_no_repeats (letters_of h) ≡ true = ap has_no_repeats letters ∙ d in
        rw distinct (and-true (is_consistent h))
    go false e = and-false (is_gridded h)

-- the search from nothing lists the preimages
pub preimages_listed : (m : GridMap) (g : List Point) → IsGridMap m → AllByRecursion (λ (p : Point). p.letter < length g) g → has_no_repeats (letters_of g) ≡ true → fits_old m g ≡ true → completions m [] g ≡ preimages m g
preimages_listed m g k b d e =
    sym (
    filter-filter (λ h. gridded_eq (collapse m h) g) is_gridded (words A (length g))
    ∙ filter_agree (λ h. is_gridded h && gridded_eq (collapse m h) g) (is_lift m [] g) (λ h. test_is m g h d) (words A (length g))
    ∙ sym (map_itself (filter (is_lift m [] g) (words A (length g))))
    ∙ listed m (length g) [] g k b e
    )
  where
    A : List Point
    A = points_in (new_lines m.columns) (new_lines m.rows) (length g)

    map_itself : (hs : List (List Point)) → after [] hs ≡ hs
    map_itself [] = refl
    map_itself (h ∷ hs) = ap (λ r. h ∷ r) (map_itself hs)
