-- Steps of the search, over places and numbers.
use Rattle.std.proofs.Common.{◌≡◌, ℕ, zero, suc, ◌+◌, ◌-◌, ◌<◌, ◌≤◌, Bool, true, false, List, [], ◌∷◌, length, add-zero, get_or, drop, refl, sym, ap, ◌∙◌, arith}
use Rattle.std.specs.Prelude.{◌&&◌, ◌||◌, cond, max, fold}
use Rattle.std.specs.List.{list_any, range_with_len}
use Rattle.std.proofs.lemmas.List.{drop_all}
use Rattle.std.proofs.lemmas.List.Sums.{sum_by-cons}
use Rattle.std.proofs.Math.Bool.{or-false as or_end}
use Rattle.gridded.specs.declared.cell.Cell.{Cell}
use Rattle.gridded.specs.Grids.{Point, holds}
use Rattle.gridded.specs.Orders.{cells_of, cell_eq}
use Rattle.tiling_core.specs.Tiles.{Tiles, is_member}
use Rattle.tiling_core.specs.Measures.{longest}
use Rattle.emptiness.specs.Glueing.{corner, stands_in, weight_of, glues, glues_at, reaches}

pub stands-there : (i : ℕ) (c : Cell) (g : List Point) → i < length (cells_of g) → stands_in i c g ≡ cell_eq (get_or (cells_of g) i corner) c
stands-there i c [] h = absurd (omega arith)
stands-there zero c (p ∷ g) h = refl
stands-there (suc i) c (p ∷ g) h = stands-there i c g (omega arith)

pub stands-past : (i : ℕ) (c : Cell) (g : List Point) → length (cells_of g) ≤ i → stands_in i c g ≡ false
stands-past i c [] h = refl
stands-past zero c (p ∷ g) h = absurd (omega arith)
stands-past (suc i) c (p ∷ g) h = stands-past i c g (omega arith)

pub ruleset standing = (stands-there, stands-past)

-- one more number
any-next : (f : ℕ → Bool) (a n : ℕ) → list_any f (range_with_len a (suc n)) ≡ (list_any f (range_with_len a n) || f (a + n))
any-next f a zero = rw (add-zero a) (or_end (f a))
any-next f a (suc n) =
    let e : a + 1 + n ≡ a + suc n = omega arith in
    ap (λ t. f a || t) (any-next f (a + 1) n ∙ rw e refl) ∙ regroup (f a) (list_any f (range_with_len (a + 1) n)) (f (a + suc n))
  where
    regroup : (p q r : Bool) → (p || (q || r)) ≡ (p || q || r)
    regroup true q r = refl
    regroup false q r = refl

pub stands-within : (i : ℕ) (c : Cell) (g : List Point) → stands_in i c g ≡ true → i < length g
stands-within i c [] e = absurd cc
stands-within zero c (p ∷ g) e = omega arith
stands-within (suc i) c (p ∷ g) e = let k = stands-within i c g e in omega arith

pub any_below-more : (f : ℕ → Bool) (a i : ℕ) → a ≤ i → list_any f (range_with_len a (i - a)) ≡ false → f i ≡ false → list_any f (range_with_len a (i + 1 - a)) ≡ false
any_below-more f a i h e k =
    let up : i + 1 - a ≡ suc (i - a) = omega arith in
    let at : a + (i - a) ≡ i = omega arith in
    rw up (any-next f a (i - a) ∙ rw (at, e, k) refl)

pub any_from_start-more : (f : ℕ → Bool) (i : ℕ) → list_any f (range_with_len 0 i) ≡ false → f i ≡ false → list_any f (range_with_len 0 (i + 1)) ≡ false
any_from_start-more f i e k =
    let up : i + 1 ≡ suc i = omega arith in
    let at : 0 + i ≡ i = omega arith in
    rw up (any-next f 0 i ∙ rw (at, e, k) refl)

pub any_below-here : (f : ℕ → Bool) (a n i : ℕ) → a ≤ i → i < a + n → f i ≡ true → list_any f (range_with_len a n) ≡ true
any_below-here f a zero i h k e = absurd (omega arith)
any_below-here f a (suc n) i h k e = go (i - a) refl (λ p q. any_below-here f (a + 1) n i p q e)
  where
    go : (d : ℕ) → i - a ≡ d → (a + 1 ≤ i → i < a + 1 + n → list_any f (range_with_len (a + 1) n) ≡ true) → list_any f (range_with_len a (suc n)) ≡ true
    go zero w ih = let same : a ≡ i = omega arith in rw same (rw e refl)
    go (suc d) w ih = rw (ih (omega arith) (omega arith)) (or_all (f a))
      where
        or_all : (p : Bool) → (p || true) ≡ true
        or_all true = refl
        or_all false = refl

-- ---- the search
drop-next : {X : Type 0} (i : ℕ) (xs : List X) (d : X) → i < length xs → drop i xs ≡ get_or xs i d ∷ drop (i + 1) xs
drop-next i [] d h = absurd (omega arith)
drop-next zero (x ∷ xs) d h = refl
drop-next (suc i) (x ∷ xs) d h = let up : suc i + 1 ≡ suc (i + 1) = omega arith in rw up (drop-next i xs d (omega arith))

pub glues-end : (obstructions : List (List Point)) (p : List Point) (next : List Point → Bool) (cells : List Cell) (taken from : ℕ) (g : List Point) → length cells ≤ taken → glues obstructions p next (drop taken cells) from g ≡ (holds g p && next g)
unfolding glues
glues-end obstructions p next cells taken from g h = rw (drop_all taken cells h) refl

pub glues-step : (obstructions : List (List Point)) (p : List Point) (next : List Point → Bool) (cells : List Cell) (taken from : ℕ) (g : List Point) → taken < length cells
    → glues obstructions p next (drop taken cells) from g ≡ list_any (λ i. glues_at obstructions (λ place h. glues obstructions p next (drop (taken + 1) cells) place h) (get_or cells taken corner) g i) (range_with_len from (length g + 1 - from))
unfolding glues
glues-step obstructions p next cells taken from g h = rw (drop-next taken cells corner h) refl

pub reaches-end : (t : Tiles) (lists : List (List (List Point))) (list : ℕ) (g : List Point) → length lists ≤ list → reaches t (drop list lists) g ≡ is_member t g
unfolding reaches
reaches-end t lists list g h = rw (drop_all list lists h) refl

pub reaches-step : (t : Tiles) (lists : List (List (List Point))) (list : ℕ) (patterns : List (List Point)) (g : List Point) → list < length lists → patterns ≡ get_or lists list patterns
    → reaches t (drop list lists) g ≡ cond (list_any (λ p. holds g p) patterns) (reaches t (drop (list + 1) lists) g) (list_any (λ p. glues t.obstructions p (λ h. reaches t (drop (list + 1) lists) h) (cells_of p) 0 g) patterns)
unfolding reaches
reaches-step t lists list patterns g h e = rw (drop-next list lists patterns h, sym e) refl

pub weight-step : (lists : List (List (List Point))) (list : ℕ) (patterns : List (List Point)) → list < length lists → patterns ≡ get_or lists list patterns → weight_of (drop list lists) ≡ longest patterns + weight_of (drop (list + 1) lists)
weight-step lists list patterns h e = rw (drop-next list lists patterns h, sym e) (sum_by-cons (λ ps. longest ps) patterns (drop (list + 1) lists))

longest_from : (patterns : List (List Point)) (a : ℕ) → a ≤ fold (λ most p. max most (length p)) a patterns
longest_from [] a = omega arith
longest_from (p ∷ patterns) a = let k = longest_from patterns (max a (length p)) in omega arith

longest_in : (patterns : List (List Point)) (a i : ℕ) (p : List Point) → i < length patterns → p ≡ get_or patterns i p → length p ≤ fold (λ most q. max most (length q)) a patterns
longest_in [] a i p h e = absurd (omega arith)
longest_in (q ∷ patterns) a zero p h e = let k = longest_from patterns (max a (length q)) in let same : length p ≡ length q = ap (λ s. length s) e in omega arith
longest_in (q ∷ patterns) a (suc i) p h e = longest_in patterns (max a (length q)) i p (omega arith) e

pub longest-at : (patterns : List (List Point)) (i : ℕ) (p : List Point) → i < length patterns → p ≡ get_or patterns i p → length p ≤ longest patterns
longest-at patterns i p h e = longest_in patterns 0 i p h e

pub still-there : {X : Type 0} (xs ys : List X) (i : ℕ) (x y : X) → xs ≡ ys → x ≡ get_or xs i x → y ≡ x → y ≡ get_or ys i y
still-there xs ys i x y e f h = h ∙ f ∙ rw (e, sym h) refl

pub and_none : (p q : Bool) → q ≡ false → (p && q) ≡ false
and_none true q e = e
and_none false q e = refl

pub neither : (p q : Bool) → p ≡ false → q ≡ false → (p || q) ≡ false
neither true q e f = e
neither false q e f = f
