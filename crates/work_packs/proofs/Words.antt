-- The rules by the kinds of a class have few words.
use Rattle.std.proofs.Common.{◌≡◌, ◌<◌, ◌≤◌, ◌+◌, ◌*◌, ℕ, zero, suc, Bool, true, false, List, [], ◌∷◌, ◌++◌, cond, length, refl, sym, ap, ◌∙◌, subst, arith}
use Rattle.std.specs.Prelude.{◌&&◌, ◌||◌, ◌==◌, not, nat_le, map, filter, sum_by, take}
use Rattle.std.specs.List.{flat_map, range_with_len}
use Rattle.std.specs.Ordering.{match_ordering}
use Rattle.std.specs.declared.cmp.Ordering.{Ordering}
use Rattle.std.specs.declared.cmp.Ordering.TheVariants.{Less, Equal, Greater}
use Rattle.std.specs.Cmp.Lexicographic.{pointwise, slice_cmp}
use Rattle.std.proofs.lemmas.Bool.Decides.{nat_tests}
use Rattle.std.proofs.lemmas.List.{length-map}
use Rattle.std.proofs.lemmas.List.Concat.{length-flat_map}
use Rattle.std.proofs.lemmas.List.FromFn.{length-map-range_with_len, length-range_with_len}
use Rattle.std.proofs.lemmas.List.Sums.{sum_by-append, sum_by-cons, sum_by-le}
use Rattle.lists.specs.Members.IsIn.{here, later}
use Rattle.lists.specs.Members.{IsIn, is_nil}
use Rattle.lists.proofs.Members.{from_IsIn-flat_map, only_in, none_in, all_in}
use Rattle.lists.proofs.Counts.{sum_by-map, filter_sum}
use Rattle.gridded.specs.declared.axis.Axis.{Axis}
use Rattle.gridded.specs.declared.axis.Axis.TheVariants as axis
use Rattle.gridded.specs.declared.cell.Cell.{Cell}
use Rattle.gridded.specs.Axes.{line_of}
use Rattle.gridded.specs.Grids.{Point, cells_in}
use Rattle.gridded.specs.Orders.{cell_eq, cell_cmp}
use Rattle.gridded.specs.Small.{point_at}
use Rattle.sequences.specs.Ascending.{in_order, insert_new}
use Rattle.tiling_core.specs.Tiles.{Tiles, IsTiling}
use Rattle.tiling_core.specs.Measures.{weight}
use Rattle.tiling_core.specs.Patterns.{forbids, active_cells, requires_list}
use Rattle.rule_kinds.specs.Lines.{lines, active_on, numbers_below}
use Rattle.rule_kinds.specs.Pointeds.{PointedPattern}
use Rattle.rule_kinds.specs.declared.kind.Direction.{Direction}
use Rattle.rule_kinds.specs.declared.kind.Direction.TheVariants.{North, South, East, West}
use Rattle.rule_kinds.specs.declared.kind.Kind.{Kind}
use Rattle.rule_kinds.specs.declared.kind.Kind.TheVariants as kind
use Rattle.rule_kinds.specs.Kinds.{cut_kind}
use Rattle.rule_kinds.specs.Children as C
use Rattle.rule_kinds.specs.Children.{placed}
use Rattle.rule_kinds.specs.Conditions.{applies}
use Rattle.emptiness.specs.Inferable.{inferred}
use Rattle.rule_kinds.specs.Choices.{Packs, kinds_of, cuts, cuts_along, least_cuts, is_bound, closure, is_linked, finest_factoring, insertions, placements, line_placements, point_placements, short_singles, points_on, each_once, same_placement, when, first_that_is}
use Rattle.work_packs.specs.KindLines.{or_else, closing_kinds, factors, inferrals, last_kinds, words_of_kind, words_of_kinds}
use Rattle.work_packs.proofs.KindLists.{some_not_nil, by_lines}

-- ---- sums over lists
-- a sum of terms that are at most n is at most n for each item
sum_at_most : {X : Type 0} (f : X → ℕ) (n : ℕ) (xs : List X) → ((x : X) → IsIn x xs → f x ≤ n) → sum_by f xs ≤ length xs * n
sum_at_most f n xs h = sum_by-le f n xs (all_in (λ x. f x ≤ n) xs h)

-- a sum over lists together is the sum of their sums
sum_flat_map : {X Y : Type 0} (size : Y → ℕ) (f : X → List Y) (xs : List X) → sum_by size (flat_map f xs) ≡ sum_by (λ x. sum_by size (f x)) xs
sum_flat_map size f [] = refl
sum_flat_map size f (x ∷ xs) = sum_by-append size (f x) (flat_map f xs) ∙ ap (λ n. sum_by size (f x) + n) (sum_flat_map size f xs) ∙ sym (sum_by-cons (λ y. sum_by size (f y)) x xs)

sum_less : {X : Type 0} (f g : X → ℕ) (xs : List X) → ((x : X) → IsIn x xs → f x ≤ g x) → sum_by f xs ≤ sum_by g xs
sum_less f g [] h = omega arith
sum_less f g (x ∷ xs) h = let a = h x here in let b = sum_less f g xs (λ y m. h y (later x m)) in let c = sum_by-cons f x xs in let d = sum_by-cons g x xs in omega arith

sum_thrice : {X : Type 0} (f : X → ℕ) (xs : List X) → sum_by (λ x. 3 * f x) xs ≡ 3 * sum_by f xs
sum_thrice f [] = refl
sum_thrice f (x ∷ xs) = let e = sum_thrice f xs in let c = sum_by-cons (λ y. 3 * f y) x xs in let d = sum_by-cons f x xs in omega arith

sum_6_and_twice : {X : Type 0} (f : X → ℕ) (xs : List X) → sum_by (λ x. 6 + 2 * f x) xs ≡ 6 * length xs + 2 * sum_by f xs
sum_6_and_twice f [] = refl
sum_6_and_twice f (x ∷ xs) = let e = sum_6_and_twice f xs in let c = sum_by-cons (λ y. 6 + 2 * f y) x xs in let d = sum_by-cons f x xs in omega arith

sum_once : {X : Type 0} (same : X → X → Bool) (size : X → ℕ) (xs : List X) → sum_by size (each_once same xs) ≤ sum_by size xs
sum_once same size [] = omega arith
sum_once same size (x ∷ xs) = let a = filter_sum (λ y. not (same x y)) size (each_once same xs) in let b = sum_once same size xs in let c = sum_by-cons size x xs in let d = sum_by-cons size x (filter (λ y. not (same x y)) (each_once same xs)) in omega arith

length_filter : {X : Type 0} (p : X → Bool) (xs : List X) → length (filter p xs) ≤ length xs
length_filter p [] = omega arith
length_filter p (x ∷ xs) = go (p x) (length_filter p xs)
  where
    go : (b : Bool) → length (filter p xs) ≤ length xs → length (cond b (x ∷ filter p xs) (filter p xs)) ≤ suc (length xs)
    go true h = omega arith
    go false h = omega arith

length_once : {X : Type 0} (same : X → X → Bool) (xs : List X) → length (each_once same xs) ≤ length xs
length_once same [] = omega arith
length_once same (x ∷ xs) = let a = length_filter (λ y. not (same x y)) (each_once same xs) in let b = length_once same xs in omega arith

length_in_order : {X : Type 0} (cmp : X → X → Ordering) (xs : List X) → length (in_order cmp xs) ≤ length xs
length_in_order cmp [] = omega arith
length_in_order {X} cmp (x ∷ xs) = let a = inserted x (in_order cmp xs) in let b = length_in_order cmp xs in omega arith
  where
    inserted : (y : X) (ys : List X) → length (insert_new cmp y ys) ≤ suc (length ys)
    inserted y [] = omega arith
    inserted y (z ∷ ys) = go (cmp y z) (inserted y ys)
      where
        go : (o : Ordering) → length (insert_new cmp y ys) ≤ suc (length ys) → length (match_ordering o (y ∷ z ∷ ys) (z ∷ ys) (z ∷ insert_new cmp y ys)) ≤ suc (suc (length ys))
        go Less h = omega arith
        go Equal h = omega arith
        go Greater h = omega arith

-- ---- cells
few_cells : (t : Tiles) → IsTiling t → length (active_cells t) ≤ 64
few_cells t k =
    let column : (x : ℕ) → List Cell = λ x. map (λ y. record { x = x; y = y }) (range_with_len 0 t.height) in
    let a = length-flat_map column (range_with_len 0 t.width) in
    let n = k.narrow in
    let l = k.low in
    let b = sum_at_most (λ x. length (column x)) 8 (range_with_len 0 t.width) (λ x m. let e : length (column x) ≡ t.height = length-map-range_with_len (λ y. record { x = x; y = y }) 0 t.height in omega arith) in
    let c = length-range_with_len 0 t.width in
    let d = length_filter (λ c. not (forbids t (point_at c))) (cells_in t.width t.height) in
    omega arith

few_lines : (a : Axis) (t : Tiles) → IsTiling t → lines a t ≤ 8
few_lines axis.Row t k = k.low
few_lines axis.Column t k = k.narrow

-- each cell is on one line at most
abbrev one_at : ℕ → ℕ → ℕ
one_at m i = cond (m == i) 1 0

none_below : (n a m : ℕ) → m < a → sum_by (one_at m) (range_with_len a n) ≤ 0
none_below zero a m h = omega arith
none_below (suc n) a m h =
    let e : (m == a) ≡ false = grind (arith, nat_tests) in
    let b = none_below n (a + 1) m (omega arith) in
    let c : sum_by (one_at m) (range_with_len a (suc n)) ≡ one_at m a + sum_by (one_at m) (range_with_len (a + 1) n) = sum_by-cons (one_at m) a (range_with_len (a + 1) n) in
    let d : one_at m a ≡ 0 = rw e refl in
    omega arith

one_line : (n a m : ℕ) → sum_by (one_at m) (range_with_len a n) ≤ 1
one_line zero a m = omega arith
one_line (suc n) a m = go (m == a) refl (one_line n (a + 1) m)
  where
    go : (b : Bool) → (m == a) ≡ b → sum_by (one_at m) (range_with_len (a + 1) n) ≤ 1 → sum_by (one_at m) (range_with_len a (suc n)) ≤ 1
    go true e ih =
        let f : m ≡ a = grind (arith, nat_tests) in
        let b = none_below n (a + 1) m (omega arith) in
        let c : sum_by (one_at m) (range_with_len a (suc n)) ≡ one_at m a + sum_by (one_at m) (range_with_len (a + 1) n) = sum_by-cons (one_at m) a (range_with_len (a + 1) n) in
        let d : one_at m a ≡ 1 = rw e refl in
        omega arith
    go false e ih =
        let c : sum_by (one_at m) (range_with_len a (suc n)) ≡ one_at m a + sum_by (one_at m) (range_with_len (a + 1) n) = sum_by-cons (one_at m) a (range_with_len (a + 1) n) in
        let d : one_at m a ≡ 0 = rw e refl in
        omega arith

sum_of_none : (is : List ℕ) → sum_by (λ i. 0) is ≤ 0
sum_of_none [] = omega arith
sum_of_none (i ∷ is) = let c = sum_by-cons (λ j. 0) i is in let h = sum_of_none is in omega arith

abbrev many_on : (Cell → ℕ) → List Cell → ℕ → ℕ
many_on f cells i = length (filter (λ c. f c == i) cells)

one_more_on : (f : Cell → ℕ) (c : Cell) (cells : List Cell) (i : ℕ) → many_on f (c ∷ cells) i ≡ one_at (f c) i + many_on f cells i
one_more_on f c cells i = go (f c == i)
  where
    go : (b : Bool) → length (cond b (c ∷ filter (λ d. f d == i) cells) (filter (λ d. f d == i) cells)) ≡ cond b 1 0 + length (filter (λ d. f d == i) cells)
    go true = omega arith
    go false = omega arith

more_on : (f : Cell → ℕ) (c : Cell) (cells : List Cell) (is : List ℕ) → sum_by (many_on f (c ∷ cells)) is ≡ sum_by (one_at (f c)) is + sum_by (many_on f cells) is
more_on f c cells [] = refl
more_on f c cells (i ∷ is) =
    let a = sum_by-cons (many_on f (c ∷ cells)) i is in
    let b = sum_by-cons (one_at (f c)) i is in
    let d = sum_by-cons (many_on f cells) i is in
    let e = one_more_on f c cells i in
    let g = more_on f c cells is in
    omega arith

on_lines : (f : Cell → ℕ) (n : ℕ) (cells : List Cell) → sum_by (many_on f cells) (range_with_len 0 n) ≤ length cells
on_lines f n [] = sum_of_none (range_with_len 0 n)
on_lines f n (c ∷ cells) =
    let a = more_on f c cells (range_with_len 0 n) in
    let b = one_line n 0 (f c) in
    let d = on_lines f n cells in
    omega arith

few_on_lines : (a : Axis) (t : Tiles) → IsTiling t → sum_by (λ i. length (active_on a i t)) (numbers_below (lines a t)) ≤ 64
few_on_lines a t k = let h = on_lines (line_of a) (lines a t) (active_cells t) in let c = few_cells t k in omega arith

-- ---- words of each line
few_closing : (t : Tiles) → words_of_kinds t (closing_kinds t) ≤ 4
unfolding C.raw_children
few_closing t = go (applies t kind.Unit) (applies t kind.Point) (applies t kind.Void)
  where
    go : (a b c : Bool) → words_of_kinds t (first_that_is (cond a (kind.Unit ∷ cond b (kind.Point ∷ []) []) (cond b (kind.Point ∷ []) []) ∷ cond c (kind.Void ∷ []) [] ∷ [])) ≤ 4
    go true true c = omega arith
    go true false c = omega arith
    go false true c = omega arith
    go false false true = omega arith
    go false false false = omega arith

few_factors : (t : Tiles) → IsTiling t → words_of_kinds t (factors t) ≤ 66
unfolding C.raw_children
few_factors t k =
    let a = filter_sum (applies t) (words_of_kind t) (kind.Factor (finest_factoring t) ∷ []) in
    let b = length-map (finest_factoring t) (C.factor t) in
    let c = length_in_order (slice_cmp cell_cmp) (map (closure (is_linked t) (active_cells t)) (active_cells t)) in
    let d = length-map (active_cells t) (closure (is_linked t) (active_cells t)) in
    let e = few_cells t k in
    omega arith

cut_words : (a : Axis) (t : Tiles) (i : ℕ) (set : List Cell) → words_of_kind t (cut_kind a i set) ≡ 3
unfolding C.raw_children
cut_words axis.Row t i set = refl
cut_words axis.Column t i set = refl

few_cuts_along : (a : Axis) (t : Tiles) → IsTiling t → words_of_kinds t (cuts_along a t) ≤ 192
few_cuts_along a t k =
    let listed : ℕ → List Kind = λ i. map (cut_kind a i) (least_cuts a t i) in
    let s = filter_sum (applies t) (words_of_kind t) (flat_map listed (numbers_below (lines a t))) in
    let e = sum_flat_map (words_of_kind t) listed (numbers_below (lines a t)) in
    let l = sum_less (λ i. words_of_kinds t (listed i)) (λ i. 3 * length (active_on a i t)) (numbers_below (lines a t)) (λ i m. on_one i) in
    let b = sum_thrice (λ i. length (active_on a i t)) (numbers_below (lines a t)) in
    let c = few_on_lines a t k in
    omega arith
  where
    on_one : (i : ℕ) → words_of_kinds t (map (cut_kind a i) (least_cuts a t i)) ≤ 3 * length (active_on a i t)
    on_one i =
        let e = sum_by-map (cut_kind a i) (words_of_kind t) (least_cuts a t i) in
        let s = sum_at_most (λ set. words_of_kind t (cut_kind a i set)) 3 (least_cuts a t i) (λ set m. let w = cut_words a t i set in omega arith) in
        let o = length_once (pointwise cell_eq) (map (closure (is_bound a t) (active_on a i t)) (active_on a i t)) in
        let l = length-map (active_on a i t) (closure (is_bound a t) (active_on a i t)) in
        omega arith

few_cuts : (t : Tiles) → IsTiling t → words_of_kinds t (cuts t) ≤ 384
few_cuts t k =
    let e = sum_by-append (words_of_kind t) (cuts_along axis.Row t) (cuts_along axis.Column t) in
    let r = few_cuts_along axis.Row t k in
    let c = few_cuts_along axis.Column t k in
    omega arith

words_when : (t : Tiles) (n : ℕ) (b : Bool) (kinds : List Kind) → words_of_kinds t kinds ≤ n → words_of_kinds t (when b kinds) ≤ n
words_when t n true kinds h = h
words_when t n false kinds h = omega arith

infer_words : (t : Tiles) (patterns : List (List Point)) → words_of_kinds t (kind.Infer patterns ∷ []) ≤ 3
unfolding C.raw_children
infer_words t patterns = omega arith

few_inferrals : (t : Tiles) → words_of_kinds t (inferrals t) ≤ 3
few_inferrals t =
    words_when t 3 (nat_le (weight t) 4 && nat_le (length (active_cells t)) 16) (when (not (is_nil (inferred t))) (kind.Infer (inferred t) ∷ []))
    (words_when t 3 (not (is_nil (inferred t))) (kind.Infer (inferred t) ∷ []) (infer_words t (inferred t)))

insert_words : (t : Tiles) (g : List Point) → words_of_kind t (kind.Insert g) ≡ 4
unfolding C.raw_children
insert_words t g = refl

few_insertions : (t : Tiles) → IsTiling t → words_of_kinds t (insertions t) ≤ 256
few_insertions t k =
    let cells : List Cell = filter (λ c. not (requires_list t (point_at c ∷ []))) (active_cells t) in
    let e = sum_by-map (λ c. kind.Insert (point_at c)) (words_of_kind t) cells in
    let s = sum_at_most (λ c. words_of_kind t (kind.Insert (point_at c))) 4 cells (λ c m. let w = insert_words t (point_at c) in omega arith) in
    let l = length_filter (λ c. not (requires_list t (point_at c ∷ []))) (active_cells t) in
    let c = few_cells t k in
    omega arith

-- ---- words of placements
abbrev Placement : Type 0
Placement = List PointedPattern × Direction

abbrev place : Placement → Kind
place p = kind.Place p.0 p.1

abbrev words_placed : Tiles → List Placement → ℕ
words_placed t ps = sum_by (λ p. words_of_kind t (place p)) ps

place_words : (t : Tiles) (qs : List PointedPattern) (d : Direction) → words_of_kind t (kind.Place qs d) ≡ 3 + length qs
unfolding C.raw_children
place_words t qs d = let e = length-map qs (placed t qs d) in omega arith

few_on_line : (t : Tiles) (qs : List PointedPattern) (d e : Direction) → words_placed t (cond (is_nil qs) [] ((qs, d) ∷ (qs, e) ∷ [])) ≤ 6 + 2 * length qs
few_on_line t [] d e = omega arith
few_on_line t (q ∷ qs) d e = let a = place_words t (q ∷ qs) d in let b = place_words t (q ∷ qs) e in rw (some_not_nil q qs) (omega arith)

few_line_placements : (a : Axis) (d e : Direction) (t : Tiles) → IsTiling t → words_placed t (line_placements a d e t) ≤ 176
few_line_placements a d e t k =
    let on : List PointedPattern → List Placement = λ qs. cond (is_nil qs) [] ((qs, d) ∷ (qs, e) ∷ []) in
    let numbers : List ℕ = numbers_below (lines a t) in
    let s = sum_flat_map (λ p. words_of_kind t (place p)) on (map (λ i. points_on a i t) numbers) in
    let m = sum_by-map (λ i. points_on a i t) (λ qs. words_placed t (on qs)) numbers in
    let l = sum_less (λ i. words_placed t (on (points_on a i t))) (λ i. 6 + 2 * length (active_on a i t)) numbers
    (λ i n. let b = few_on_line t (points_on a i t) d e in let c : length (points_on a i t) ≡ length (active_on a i t) = length-map (active_on a i t) (λ c. record { pattern = point_at c; index = 0 }) in omega arith) in
    let b = sum_6_and_twice (λ i. length (active_on a i t)) numbers in
    let c = few_on_lines a t k in
    let f = length-range_with_len 0 (lines a t) in
    let g = few_lines a t k in
    omega arith

-- ---- words of placements of single points
in_front : {X : Type 0} (n : ℕ) (xs : List X) {x : X} → IsIn x (take n xs) → IsIn x xs
in_front zero xs m = elim m [ ]
in_front (suc n) [] m = elim m [ ]
in_front (suc n) (_ ∷ xs) here = here
in_front (suc n) (y ∷ xs) (later _ m) = later y (in_front n xs m)

few_in_front : {X : Type 0} (n : ℕ) (xs : List X) → length (take n xs) ≤ n
few_in_front zero xs = omega arith
few_in_front (suc n) [] = omega arith
few_in_front (suc n) (x ∷ xs) = let h = few_in_front n xs in omega arith

-- what gives the one pattern of a list where it has one or two points, and else nothing, gives short patterns
only_short : (single : List (List Point) → List (List Point)) (lists : List (List (List Point))) (g : List Point) → IsIn g (flat_map single lists)
    → single [] ≡ [] → ((h : List Point) → single (h ∷ []) ≡ cond (length h == 1 || length h == 2) (h ∷ []) []) → ((h i : List Point) (rest : List (List Point)) → single (h ∷ i ∷ rest) ≡ []) → length g ≤ 2
only_short single lists g m none one more = let a = from_IsIn-flat_map single lists m in given a.0 a.2
  where
    not_in : {xs : List (List Point)} → xs ≡ [] → IsIn g xs → length g ≤ 2
    not_in e n = absurd (none_in (subst (λ ys. IsIn g ys) e n))

    alone : (h : List Point) (b c : Bool) → (length h == 1) ≡ b → (length h == 2) ≡ c → IsIn g (cond (b || c) (h ∷ []) []) → length g ≤ 2
    alone h true c e f n = let k : length h ≡ 1 = grind (arith, nat_tests) in let o = only_in n in rw o (omega arith)
    alone h false true e f n = let k : length h ≡ 2 = grind (arith, nat_tests) in let o = only_in n in rw o (omega arith)
    alone h false false e f n = elim n [ ]

    given : (list : List (List Point)) → IsIn g (single list) → length g ≤ 2
    given [] n = not_in none n
    given (h ∷ []) n = alone h (length h == 1) (length h == 2) refl refl (subst (λ ys. IsIn g ys) (one h) n)
    given (h ∷ i ∷ rest) n = not_in (more h i rest) n

short : (t : Tiles) (g : List Point) → IsIn g (short_singles t) → length g ≤ 2
short t g m = only_short _ t.requirements g (in_front 16 _ m) refl (λ h. refl) (λ h i rest. refl)

abbrev pointed_at : List Point → List PointedPattern
pointed_at g = map (λ index. record { pattern = g; index = index }) (numbers_below (length g))

few_pointed : (t : Tiles) → length (flat_map pointed_at (short_singles t)) ≤ 32
few_pointed t =
    let e = length-flat_map pointed_at (short_singles t) in
    let s = sum_at_most (λ g. length (pointed_at g)) 2 (short_singles t) (λ g m. let a = short t g m in let b : length (pointed_at g) ≡ length g = length-map-range_with_len (λ index. record { pattern = g; index = index }) 0 (length g) in omega arith) in
    let f = few_in_front 16 _ in
    let l : length (short_singles t) ≤ 16 = f in
    omega arith

abbrev each_way : PointedPattern → List Placement
each_way q = map (λ d. (q ∷ [], d)) (North ∷ South ∷ East ∷ West ∷ [])

way_words : (t : Tiles) (q : PointedPattern) → words_placed t (each_way q) ≤ 16
way_words t q =
    let a = place_words t (q ∷ []) North in
    let b = place_words t (q ∷ []) South in
    let c = place_words t (q ∷ []) East in
    let d = place_words t (q ∷ []) West in
    omega arith

few_point_placements : (t : Tiles) → words_placed t (point_placements t) ≤ 512
few_point_placements t =
    let e = sum_flat_map (λ p. words_of_kind t (place p)) each_way (flat_map pointed_at (short_singles t)) in
    let s = sum_at_most (λ q. words_placed t (each_way q)) 16 (flat_map pointed_at (short_singles t)) (λ q m. way_words t q) in
    let l = few_pointed t in
    omega arith

-- ---- all of them
placed_when : (t : Tiles) (n : ℕ) (b : Bool) (ps : List Placement) → words_placed t ps ≤ n → words_placed t (when b ps) ≤ n
placed_when t n true ps h = h
placed_when t n false ps h = omega arith

few_placements : (t : Tiles) (packs : Packs) → IsTiling t → words_of_kinds t (filter (applies t) (placements t packs)) ≤ 864
few_placements t packs k =
    let size : Placement → ℕ = λ p. words_of_kind t (place p) in
    let rows : List Placement = when packs.r (line_placements axis.Row North South t) in
    let columns : List Placement = when packs.c (line_placements axis.Column East West t) in
    let points : List Placement = when packs.p (point_placements t) in
    let f : words_of_kinds t (filter (applies t) (placements t packs)) ≤ words_of_kinds t (map place (each_once same_placement ((rows ++ columns) ++ points))) = filter_sum (applies t) (words_of_kind t) (placements t packs) in
    let m = sum_by-map place (words_of_kind t) (each_once same_placement ((rows ++ columns) ++ points)) in
    let o = sum_once same_placement size ((rows ++ columns) ++ points) in
    let a = sum_by-append size (rows ++ columns) points in
    let b = sum_by-append size rows columns in
    let r = placed_when t 176 packs.r (line_placements axis.Row North South t) (few_line_placements axis.Row North South t k) in
    let c = placed_when t 176 packs.c (line_placements axis.Column East West t) (few_line_placements axis.Column East West t k) in
    let p = placed_when t 512 packs.p (point_placements t) (few_point_placements t) in
    omega arith

few_last : (t : Tiles) (packs : Packs) → IsTiling t → words_of_kinds t (last_kinds t packs) ≤ 1120
few_last t packs k =
    let e = sum_by-append (words_of_kind t) (when packs.i (insertions t)) (filter (applies t) (placements t packs)) in
    let i = words_when t 256 packs.i (insertions t) (few_insertions t k) in
    let p = few_placements t packs k in
    omega arith

either : (t : Tiles) (xs ys : List Kind) → words_of_kinds t xs ≤ 2048 → words_of_kinds t ys ≤ 2048 → words_of_kinds t (or_else xs ys) ≤ 2048
either t [] ys h k = k
either t (x ∷ xs) ys h k = rw (some_not_nil x xs) h

at_most : (m n : ℕ) → m ≤ n → n ≤ 2048 → m ≤ 2048
at_most m n h k = omega arith

pub few_words : (t : Tiles) (packs : Packs) → IsTiling t → words_of_kinds t (kinds_of t packs) ≤ 2048
few_words t packs k =
    subst (λ (kinds : List Kind). words_of_kinds t kinds ≤ 2048) (sym (by_lines t packs))
    (either t (closing_kinds t) _ (at_most _ 4 (few_closing t) (omega arith))
    (either t (when packs.f (factors t)) _ (at_most _ 66 (words_when t 66 packs.f (factors t) (few_factors t k)) (omega arith))
    (either t (when packs.s (cuts t)) _ (at_most _ 384 (words_when t 384 packs.s (cuts t) (few_cuts t k)) (omega arith))
    (either t (when packs.n (inferrals t)) _ (at_most _ 3 (words_when t 3 packs.n (inferrals t) (few_inferrals t)) (omega arith)) (at_most _ 1120 (few_last t packs k) (omega arith))))))
