-- The listing ascends: by length and letters, which are all the same, and then by cells.
use Rattle.std.proofs.Common.{◌≡◌, ℕ, zero, suc, ◌+◌, ◌<◌, Bool, true, false, List, [], ◌∷◌, ◌++◌, length, refl, sym, ap, ◌∙◌, subst, arith, append_assoc, append-nil, ⊎_elim}
use Rattle.std.specs.Prelude.{cond}
use Rattle.std.specs.List.{range_with_len, flat_map, AllByRecursion}
use Rattle.std.specs.List.Sorted.{IsStrictlySortedBy}
use Rattle.std.specs.Cmp.{IsTotalOrder}
use Rattle.std.specs.Cmp.Lexicographic.{slice_cmp}
use Rattle.std.specs.declared.cmp.Ordering.{Ordering}
use Rattle.std.specs.declared.cmp.Ordering.TheVariants.{Less, Equal, Greater}
use Rattle.std.specs.Ordering.{nat_cmp, ordering_then, ordering_reverse}
use Rattle.std.proofs.lemmas.Bool.Decides.{nat_tests}
use Rattle.std.proofs.lemmas.Cmp.{nat_cmp_total, nat_list_cmp_total}
use Rattle.std.proofs.lemmas.List.{map-append, length-map}
use Rattle.lists.specs.Members.IsIn.{here, later}
use Rattle.lists.specs.Members.{IsIn}
use Rattle.lists.proofs.Members.{IsIn-append_cases, from_IsIn-flat_map, only_in}
use Rattle.lists.proofs.Ranges.{IsIn-range_with_len}
use Rattle.gridded.specs.declared.cell.Cell.{Cell}
use Rattle.gridded.specs.Grids.{Point, letter_of, cell_of}
use Rattle.gridded.specs.Orders.{cell_cmp, letters_of, cells_of, gridded_cmp}
use Rattle.gridded.specs.OrderLaws.{cell_total}
use Rattle.coord_maps.specs.declared.grid_map.GridMap.{GridMap}
use Rattle.coord_maps.specs.LineMaps.{first_line, parts_of}
use Rattle.coord_maps.specs.Preimages.{preimages, may_come, put, completions, in_cell, in_column, lines_over}

-- ---- orders
ties_itself : {X : Type 0} (cmp : X → X → Ordering) → IsTotalOrder cmp → (x : X) → cmp x x ≡ Equal
ties_itself cmp total x = go (cmp x x) (total.antisymm x x)
  where
    go : (o : Ordering) → o ≡ ordering_reverse o → o ≡ Equal
    go Less e = absurd cc
    go Equal e = refl
    go Greater e = absurd cc

ties_same : {X : Type 0} (cmp : X → X → Ordering) → IsTotalOrder cmp → (x y : X) → x ≡ y → cmp x y ≡ Equal
ties_same cmp total x y e = ap (cmp x) (sym e) ∙ ties_itself cmp total x

cells_less : (a : List Cell) (c d : Cell) (b e : List Cell) → cell_cmp c d ≡ Less → slice_cmp cell_cmp (a ++ c ∷ b) (a ++ d ∷ e) ≡ Less
cells_less [] c d b e l = rw l refl
cells_less (x ∷ a) c d b e l = let same : cell_cmp x x ≡ Equal = ties_itself cell_cmp cell_total x in rw same (cells_less a c d b e l)

-- the one with the lower cell at the first place where two differ is less
first_differs : (s r t : List Point) (p : Point) (x y v w : ℕ) → letters_of r ≡ letters_of t → cell_cmp (put p x y).cell (put p v w).cell ≡ Less → gridded_cmp (s ++ put p x y ∷ r) (s ++ put p v w ∷ t) ≡ Less
first_differs s r t p x y v w e l =
    let letters : letters_of (s ++ put p x y ∷ r) ≡ letters_of (s ++ put p v w ∷ t) = map-append letter_of s (put p x y ∷ r) ∙ ap (λ ls. letters_of s ++ p.letter ∷ ls) e ∙ sym (map-append letter_of s (put p v w ∷ t)) in
    let as_long : length (s ++ put p x y ∷ r) ≡ length (s ++ put p v w ∷ t) = sym (length-map (s ++ put p x y ∷ r) letter_of) ∙ ap (λ ls. length ls) letters ∙ length-map (s ++ put p v w ∷ t) letter_of in
    let cells : slice_cmp cell_cmp (cells_of (s ++ put p x y ∷ r)) (cells_of (s ++ put p v w ∷ t)) ≡ Less =
    ap (λ cs. slice_cmp cell_cmp cs (cells_of (s ++ put p v w ∷ t))) (map-append cell_of s (put p x y ∷ r)) ∙ ap (λ cs. slice_cmp cell_cmp (cells_of s ++ (put p x y).cell ∷ cells_of r) cs) (map-append cell_of s (put p v w ∷ t))
    ∙ cells_less (cells_of s) (put p x y).cell (put p v w).cell (cells_of r) (cells_of t) l in
    let one = ties_same nat_cmp nat_cmp_total (length (s ++ put p x y ∷ r)) (length (s ++ put p v w ∷ t)) as_long in
    let two = ties_same (slice_cmp nat_cmp) nat_list_cmp_total (letters_of (s ++ put p x y ∷ r)) (letters_of (s ++ put p v w ∷ t)) letters in
    ap (λ o. ordering_then o (ordering_then (slice_cmp nat_cmp (letters_of (s ++ put p x y ∷ r)) (letters_of (s ++ put p v w ∷ t))) (slice_cmp cell_cmp (cells_of (s ++ put p x y ∷ r)) (cells_of (s ++ put p v w ∷ t))))) one
    ∙ ap (λ o. ordering_then o (slice_cmp cell_cmp (cells_of (s ++ put p x y ∷ r)) (cells_of (s ++ put p v w ∷ t)))) two
    ∙ cells

-- ---- what is listed begins with what was placed
completions_continue : (m : GridMap) (s g h : List Point) → IsIn h (completions m s g) → (r : List Point) × (h ≡ s ++ r) × (letters_of r ≡ letters_of g)
completions_continue m s [] h k = ([], only_in k ∙ sym (append-nil s), refl)
completions_continue m s (p ∷ g) h k =
    let column = from_IsIn-flat_map (in_column m s p g) (lines_over m.columns p.cell.x) k in
    let cell = from_IsIn-flat_map (in_cell m s p g column.0) (lines_over m.rows p.cell.y) column.2 in
    let rest = come_with (may_come s (put p column.0 cell.0)) column.0 cell.0 cell.2 in
    let ih = completions_continue m (s ++ put p column.0 cell.0 ∷ []) g h rest in
    (put p column.0 cell.0 ∷ ih.0, ih.1 ∙ append_assoc s (put p column.0 cell.0 ∷ []) ih.0, ap (λ ls. p.letter ∷ ls) ih.2)
  where
    come_with : (b : Bool) (x y : ℕ) → IsIn h (cond b (completions m (s ++ put p x y ∷ []) g) []) → IsIn h (completions m (s ++ put p x y ∷ []) g)
    come_with true x y n = n
    come_with false x y n = elim n [ ]

pub in_cell_continues : (m : GridMap) (s : List Point) (p : Point) (g h : List Point) (x y : ℕ) → IsIn h (in_cell m s p g x y) → (r : List Point) × (h ≡ s ++ put p x y ∷ r) × (letters_of r ≡ letters_of g)
in_cell_continues m s p g h x y k =
    let c = completions_continue m (s ++ put p x y ∷ []) g h (come_with (may_come s (put p x y)) k) in
    (c.0, c.1 ∙ append_assoc s (put p x y ∷ []) c.0, c.2)
  where
    come_with : (b : Bool) → IsIn h (cond b (completions m (s ++ put p x y ∷ []) g) []) → IsIn h (completions m (s ++ put p x y ∷ []) g)
    come_with true n = n
    come_with false n = elim n [ ]

lower_cell_less : (m : GridMap) (s : List Point) (p : Point) (g h k : List Point) (x y v w : ℕ) → IsIn h (in_cell m s p g x y) → IsIn k (in_cell m s p g v w) → cell_cmp (put p x y).cell (put p v w).cell ≡ Less → gridded_cmp h k ≡ Less
lower_cell_less m s p g h k x y v w a b l =
    let c = in_cell_continues m s p g h x y a in
    let d = in_cell_continues m s p g k v w b in
    rw (c.1, d.1) (first_differs s c.0 d.0 p x y v w (c.2 ∙ sym d.2) l)

-- ---- ascending pieces
module _ {K : Type 0} (cmp : K → K → Ordering) where
  each : (P : K → Type 0) (xs : List K) → ((x : K) → IsIn x xs → P x) → AllByRecursion P xs
  each P [] f = tt
  each P (x ∷ xs) f = (f x here, each P xs (λ z n. f z (later x n)))

  from_each : (P : K → Type 0) {x : K} {xs : List K} → AllByRecursion P xs → IsIn x xs → P x
  from_each P k here = k.0
  from_each P k (later y n) = from_each P k.1 n

  sorted-append : (xs ys : List K) → IsStrictlySortedBy cmp xs → IsStrictlySortedBy cmp ys → ((x y : K) → IsIn x xs → IsIn y ys → cmp x y ≡ Less) → IsStrictlySortedBy cmp (xs ++ ys)
  unfolding IsStrictlySortedBy
  sorted-append [] ys a b f = b
  sorted-append (x ∷ xs) ys a b f = (
    each (λ z. cmp x z ≡ Less) (xs ++ ys) (λ z n. ⊎_elim {C = cmp x z ≡ Less} (λ u. from_each (λ w. cmp x w ≡ Less) a.0 u) (λ u. f x z here u) (IsIn-append_cases xs ys n)),
    sorted-append xs ys a.1 b (λ u v n o. f u v (later x n) o),
  )

  nothing_sorted : IsStrictlySortedBy cmp []
  unfolding IsStrictlySortedBy
  nothing_sorted = tt

  one_sorted : (x : K) → IsStrictlySortedBy cmp (x ∷ [])
  unfolding IsStrictlySortedBy
  one_sorted x = (tt, tt)

  sorted-pieces : (f : ℕ → List K) (a n : ℕ) → ((i : ℕ) → IsStrictlySortedBy cmp (f i)) → ((i j : ℕ) (x y : K) → i < j → IsIn x (f i) → IsIn y (f j) → cmp x y ≡ Less) → IsStrictlySortedBy cmp (flat_map f (range_with_len a n))
  sorted-pieces f a zero each_one less = nothing_sorted
  sorted-pieces f a (suc n) each_one less =
      sorted-append (f a) (flat_map f (range_with_len (a + 1) n)) (each_one a) (sorted-pieces f (a + 1) n each_one less)
      (λ x y u v. let w = from_IsIn-flat_map f (range_with_len (a + 1) n) v in let above = (IsIn-range_with_len (a + 1) n w.0 w.1).0 in less a w.0 x y (omega (arith, above)) u w.2)

pub completions_ascend : (m : GridMap) (s g : List Point) → IsStrictlySortedBy gridded_cmp (completions m s g)
completions_ascend m s [] = one_sorted gridded_cmp s
completions_ascend m s (p ∷ g) =
    sorted-pieces gridded_cmp (in_column m s p g) (first_line m.columns p.cell.x) (parts_of m.columns p.cell.x)
    (λ x. sorted-pieces gridded_cmp (in_cell m s p g x) (first_line m.rows p.cell.y) (parts_of m.rows p.cell.y)
    (λ y. where_it_comes (may_come s (put p x y)) x y (completions_ascend m (s ++ put p x y ∷ []) g))
    (λ y w h k l a b. lower_cell_less m s p g h k x y x w a b (grind (arith, nat_tests))))
    (λ x v h k l a b.
    let c = from_IsIn-flat_map (in_cell m s p g x) (lines_over m.rows p.cell.y) a in
    let d = from_IsIn-flat_map (in_cell m s p g v) (lines_over m.rows p.cell.y) b in
    lower_cell_less m s p g h k x c.0 v d.0 c.2 d.2 (grind (arith, nat_tests)))
  where
    where_it_comes : (b : Bool) (x y : ℕ) → IsStrictlySortedBy gridded_cmp (completions m (s ++ put p x y ∷ []) g) → IsStrictlySortedBy gridded_cmp (cond b (completions m (s ++ put p x y ∷ []) g) [])
    where_it_comes true x y k = k
    where_it_comes false x y k = nothing_sorted gridded_cmp

pub preimages_ascend : (m : GridMap) (g : List Point) → completions m [] g ≡ preimages m g → IsStrictlySortedBy gridded_cmp (preimages m g)
preimages_ascend m g e = subst (λ hs. IsStrictlySortedBy gridded_cmp hs) e (completions_ascend m [] g)
