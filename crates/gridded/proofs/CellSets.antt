-- Sets of cells and their bits.
use Rattle.std.proofs.Common.{◌≡◌, ◌<◌, ◌≤◌, ℕ, zero, suc, ◌+◌, ◌-◌, ◌*◌, ◌/◌, ◌%◌, ◌^◌, Bool, true, false, cond, List, [], ◌∷◌, length, refl, sym, ap, subst, ◌∙◌, inl, inr, ⊎_elim, arith, bit_and, bit_or, w64}
use Rattle.std.specs.Prelude.{◌≢◌, ◌↔◌, ◌⊎◌, ◌||◌, ◌==◌, map, filter, slice_get, Some, Decides, count_ones}
use Rattle.std.specs.Int.{bit_at, trailing_zeros}
use Rattle.std.specs.Int.Count.{ones}
use Rattle.std.specs.List.{range_with_len}
use Rattle.std.proofs.lemmas.Nat.{pow_pos, or_lt, ones_cat}
use Rattle.std.proofs.lemmas.Nat.Bits.{shr_and_one, bit_at-trailing_zeros, bit_at_set_same, bit_at_set_other}
use Rattle.std.proofs.lemmas.Bool.Decides.{Decides-eqb}
use Rattle.std.proofs.lemmas.Bool.{or_cases}
use Rattle.lists.specs.Members.IsIn.{here, later}
use Rattle.lists.specs.Members.{IsIn}
use Rattle.lists.proofs.Tests.{same_test}
use Rattle.lists.proofs.Members.{IsIn-filter, from_IsIn-filter}
use Rattle.gridded.specs.declared.cell.Cell.{Cell}
use Rattle.gridded.specs.Grids.{cells_in}
use Rattle.gridded.specs.Laws.{IsCellOf}
use Rattle.gridded.specs.Orders.{cell_eq}
use Rattle.gridded.specs.OrderLaws.{cell_eq_decides}
use Rattle.gridded.specs.CellSets.{cells_that, is_among, with_cell, IsCellSet, HasOneMore, IsLeast, bit_of, has_bit, cells_with_bits, bits_of}
use Rattle.gridded.specs.CellBits.{bits_back, bits_in_order, one_bit, bit_is}
use Rattle.gridded.specs.CellSetOrder.{set_eq, set_eq_decides}
use Rattle.gridded.proofs.GriddedLists.{IsIn-cells_in, from_IsIn-cells_in}

-- ---- membership
pub is_among_decides : (set : List Cell) (c : Cell) → Decides (is_among set c) (IsIn c set)
is_among_decides set c = ((λ e. tells set e), (λ h. from set h))
  where
    tells : (cells : List Cell) → is_among cells c ≡ true → IsIn c cells
    tells [] e = absurd cc
    tells (d ∷ cells) e =
        ⊎_elim {C = IsIn c (d ∷ cells)} (λ f. subst (λ (z : Cell). IsIn c (z ∷ cells)) ((cell_eq_decides c d).0 f) here) (λ f. later d (tells cells f)) (or_cases (cell_eq c d) (is_among cells c) e)

    from : (cells : List Cell) → IsIn c cells → is_among cells c ≡ true
    from [] h = elim h [ ]
    from (_ ∷ cells) here = rw ((cell_eq_decides c c).1 refl) refl
    from (d ∷ cells) (later _ h) = go (cell_eq c d) (from cells h)
      where
        go : (b : Bool) → is_among cells c ≡ true → (b || is_among cells c) ≡ true
        go true f = refl
        go false f = f

pub agree_on_cells : (p q : Cell → Bool) (cells : List Cell) → ((c : Cell) → IsIn c cells → p c ≡ q c) → filter p cells ≡ filter q cells
agree_on_cells p q [] h = refl
agree_on_cells p q (c ∷ cells) h = rw (h c here, agree_on_cells p q cells (λ d k. h d (later c k))) refl

pub is_among-cells_that : (test : Cell → Bool) (c : Cell) → IsCellOf 8 8 c → is_among (cells_that test) c ≡ test c
unfolding cells_that
is_among-cells_that test c k =
    let d = is_among_decides (cells_that test) c in
    same_test (is_among (cells_that test) c) (test c) (λ e. (from_IsIn-filter test (cells_in 8 8) (d.0 e)).1) (λ e. d.1 (IsIn-filter test (IsIn-cells_in 8 8 c k) e))

pub IsCellSet-cells_that : (test : Cell → Bool) → IsCellSet (cells_that test)
unfolding cells_that
IsCellSet-cells_that test =
    agree_on_cells test (λ c. is_among (cells_that test) c) (cells_in 8 8) (λ c k. sym (is_among-cells_that test c (from_IsIn-cells_in 8 8 c k)))

-- the answer of `has`
pub has_tested : (bits : ℕ) (c : Cell) (answer : Bool) → IsCellOf 8 8 c → answer ≡ has_bit bits c → answer ≡ is_among (cells_with_bits bits) c
has_tested bits c answer k e = e ∙ sym (is_among-cells_that (has_bit bits) c k)

pub has_means : (set : List Cell) (c : Cell) (answer : Bool) → answer ≡ is_among set c → (answer ≡ true) ↔ IsIn c set
has_means set c answer e = let d = is_among_decides set c in ((λ t. d.0 (sym e ∙ t)), (λ h. e ∙ d.1 h))

-- ---- one more cell
one_place : (c d : Cell) → IsCellOf 8 8 c → IsCellOf 8 8 d → bit_of c ≡ bit_of d → c ≡ d
one_place c d h k e =
    let x : c.x ≡ d.x = omega (arith, h.1, k.1) in
    let y : c.y ≡ d.y = omega arith in
    λ i. record { x = x i; y = y i }

small_bit : (c : Cell) → IsCellOf 8 8 c → bit_of c < 64
small_bit c h = omega (arith, h.0, h.1)

set_bit : (bits : ℕ) (cell c : Cell) → IsCellOf 8 8 cell → IsCellOf 8 8 c → has_bit (bit_or bits (1 * 2 ^ bit_of cell % 2 ^ 64)) c ≡ (cell_eq c cell || is_among (cells_with_bits bits) c)
set_bit bits cell c h k = go (cell_eq c cell) refl
  where
    go : (b : Bool) → cell_eq c cell ≡ b → has_bit (bit_or bits (1 * 2 ^ bit_of cell % 2 ^ 64)) c ≡ (b || is_among (cells_with_bits bits) c)
    go true e = rw ((cell_eq_decides c cell).0 e) (ap (λ b. b == 1) (bit_at_set_same w64 bits (bit_of cell) (small_bit cell h)))
    go false e =
        ap (λ b. b == 1) (bit_at_set_other w64 bits (bit_of cell) (small_bit cell h) (bit_of c) (λ f. absurd (let g : cell_eq c cell ≡ true = (cell_eq_decides c cell).1 (one_place c cell k h f) in cc)))
        ∙ sym (is_among-cells_that (has_bit bits) c k)

pub with_value : (bits : ℕ) (cell : Cell) → IsCellOf 8 8 cell → cells_with_bits (bit_or bits (1 * 2 ^ bit_of cell % 2 ^ 64)) ≡ with_cell (cells_with_bits bits) cell
unfolding cells_that
with_value bits cell h =
    agree_on_cells (has_bit (bit_or bits (1 * 2 ^ bit_of cell % 2 ^ 64))) (λ c. cell_eq c cell || is_among (cells_with_bits bits) c) (cells_in 8 8) (λ c k. set_bit bits cell c h (from_IsIn-cells_in 8 8 c k))

pub with_cells : (set : List Cell) (cell : Cell) → IsCellSet set → IsCellOf 8 8 cell → HasOneMore set cell (with_cell set cell)
unfolding cells_that
with_cells set cell s h c = ((λ k. there (from_IsIn-filter test (cells_in 8 8) k)), (λ k. ⊎_elim first rest k))
  where
    test : Cell → Bool
    test d = cell_eq d cell || is_among set d

    there : IsIn c (cells_in 8 8) × (test c ≡ true) → (c ≡ cell) ⊎ IsIn c set
    there k = ⊎_elim (λ e. inl ((cell_eq_decides c cell).0 e)) (λ e. inr ((is_among_decides set c).0 e)) (or_cases (cell_eq c cell) (is_among set c) k.1)

    first : c ≡ cell → IsIn c (cells_that test)
    first e = IsIn-filter test {xs = cells_in 8 8} (rw e (IsIn-cells_in 8 8 cell h)) (rw ((cell_eq_decides c cell).1 e) refl)

    rest : IsIn c set → IsIn c (cells_that test)
    rest k =
        let place : IsIn c (cells_in 8 8) = (from_IsIn-filter (λ d. is_among set d) (cells_in 8 8) (subst (λ (z : List Cell). IsIn c z) s k)).0 in
        IsIn-filter test place (go (cell_eq c cell) ((is_among_decides set c).1 k))
      where
        go : (b : Bool) → is_among set c ≡ true → (b || is_among set c) ≡ true
        go true e = refl
        go false e = e

-- ---- how many
ones_of_bit : (b : Bool) → ones (cond b 1 0) ≡ cond b 1 0
unfolding ones
ones_of_bit true = refl
ones_of_bit false = refl

pub length_of_bits : (bits : ℕ) (cells : List Cell) (a n : ℕ) → map bit_of cells ≡ range_with_len a n → length (filter (has_bit bits) cells) + ones (bits % 2 ^ a) ≡ ones (bits % 2 ^ (a + n))
length_of_bits bits [] a zero e = let f : a + 0 ≡ a = omega arith in rw f (omega arith)
length_of_bits bits [] a (suc n) e = absurd cc
length_of_bits bits (c ∷ cells) a zero e = absurd cc
length_of_bits bits (c ∷ cells) a (suc n) e = let later : map bit_of cells ≡ range_with_len (a + 1) n = cc in go (length_of_bits bits cells (a + 1) n later) (has_bit bits c) refl
  where
    here_bit : bit_of c ≡ a
    here_bit = cc

    go : length (filter (has_bit bits) cells) + ones (bits % 2 ^ (a + 1)) ≡ ones (bits % 2 ^ (a + 1 + n)) → (b : Bool) → has_bit bits c ≡ b → length (filter (has_bit bits) (c ∷ cells)) + ones (bits % 2 ^ a) ≡ ones (bits % 2 ^ (a + suc n))
    go ih b f =
        let up : a + suc n ≡ a + 1 + n = omega arith in
        let bit : bit_at bits a ≡ cond b 1 0 = rw here_bit at (bit_is bits (bit_of c) b f) in
        let next : ones (bits % 2 ^ (a + 1)) ≡ ones (cond b 1 0) + ones (bits % 2 ^ a) =
        ap ones (one_bit bits a ∙ ap (λ d. d * 2 ^ a + bits % 2 ^ a) bit) ∙ ones_cat a (cond b 1 0) (bits % 2 ^ a) (omega (arith, pow_pos a)) in
        rw (f, up) (by b next)
      where
        by : (d : Bool) → ones (bits % 2 ^ (a + 1)) ≡ ones (cond d 1 0) + ones (bits % 2 ^ a) → length (cond d (c ∷ filter (has_bit bits) cells) (filter (has_bit bits) cells)) + ones (bits % 2 ^ a) ≡ ones (bits % 2 ^ (a + 1 + n))
        by true m = let one : ones 1 ≡ 1 = ones_of_bit true in omega arith
        by false m = let none : ones 0 ≡ 0 = ones_of_bit false in omega arith

pub count_of_bits : (bits : ℕ) → bits < 2 ^ 64 → count_ones bits ≡ length (cells_with_bits bits)
unfolding cells_that
count_of_bits bits h =
    let e = length_of_bits bits (cells_in 8 8) 0 64 bits_in_order in
    let whole : bits % 2 ^ 64 ≡ bits = omega arith in
    let none : ones (bits % 2 ^ 0) ≡ 0 = let z : bits % 2 ^ 0 ≡ 0 = omega arith in ap ones z ∙ ones_of_bit false in
    let f : length (cells_with_bits bits) + ones (bits % 2 ^ 0) ≡ ones bits = e ∙ ap ones whole in
    omega arith

-- ---- the first
pub first_of_bits : (bits : ℕ) (cells : List Cell) (a n t : ℕ) → map bit_of cells ≡ range_with_len a n → a ≤ t → t < a + n → bit_at bits t ≡ 1 → ((i : ℕ) → i < t → bit_at bits i ≡ 0) → (d : Cell) × (bit_of d ≡ t) × IsIn d cells × (slice_get (filter (has_bit bits) cells) 0 ≡ Some d)
first_of_bits bits [] a zero t e low high one none = absurd (omega arith)
first_of_bits bits [] a (suc n) t e low high one none = absurd cc
first_of_bits bits (c ∷ cells) a zero t e low high one none = absurd cc
first_of_bits bits (c ∷ cells) a (suc n) t e low high one none =
    let later_bits : map bit_of cells ≡ range_with_len (a + 1) n = cc in
    go (has_bit bits c) refl (λ m. first_of_bits bits cells (a + 1) n t later_bits m (omega arith) one none)
  where
    here_bit : bit_of c ≡ a
    here_bit = cc

    go : (b : Bool) → has_bit bits c ≡ b → (a + 1 ≤ t → (d : Cell) × (bit_of d ≡ t) × IsIn d cells × (slice_get (filter (has_bit bits) cells) 0 ≡ Some d)) → (d : Cell) × (bit_of d ≡ t) × IsIn d (c ∷ cells) × (slice_get (filter (has_bit bits) (c ∷ cells)) 0 ≡ Some d)
    go true f ih =
        let bit : bit_at bits a ≡ 1 = rw here_bit at (bit_is bits (bit_of c) true f) in
        (c, here_bit ∙ same bit, here, rw f refl)
      where
        same : bit_at bits a ≡ 1 → a ≡ t
        same b = by (t - a) refl
          where
            by : (m : ℕ) → t - a ≡ m → a ≡ t
            by zero z = omega arith
            by (suc m) z = absurd (omega (arith, b, none a (omega arith)))
    go false f ih =
        let bit : bit_at bits a ≡ 0 = rw here_bit at (bit_is bits (bit_of c) false f) in
        let past : a + 1 ≤ t = next bit in
        let k = ih past in
        (k.0, k.1, later c k.2, rw f k.3)
      where
        next : bit_at bits a ≡ 0 → a + 1 ≤ t
        next b = by (t - a) refl
          where
            by : (m : ℕ) → t - a ≡ m → a + 1 ≤ t
            by zero z = let q : a ≡ t = omega arith in let r : bit_at bits t ≡ 0 = subst (λ i. bit_at bits i ≡ 0) q b in absurd (omega (arith, one, r))
            by (suc m) z = omega arith

abbrev pub cell_of_bit : ℕ → Cell
cell_of_bit t = record { x = t / 8; y = t % 8 }

pub least_of_bits : (bits : ℕ) → 0 < bits → bits < 2 ^ 64 → slice_get (cells_with_bits bits) 0 ≡ Some (cell_of_bit (trailing_zeros w64 bits))
unfolding cells_that
least_of_bits bits some h =
    let t = bit_at-trailing_zeros w64 bits some h in
    let k = first_of_bits bits (cells_in 8 8) 0 64 (trailing_zeros w64 bits) bits_in_order (omega arith) (omega (arith, t.0)) t.1 t.2 in
    let place = from_IsIn-cells_in 8 8 k.0 k.2 in
    let low : k.0.y < 8 = place.1 in
    let number : 8 * k.0.x + k.0.y ≡ trailing_zeros w64 bits = k.1 in
    let x : k.0.x ≡ trailing_zeros w64 bits / 8 = omega arith in
    let y : k.0.y ≡ trailing_zeros w64 bits % 8 = omega arith in
    let same : k.0 ≡ cell_of_bit (trailing_zeros w64 bits) = λ i. record { x = x i; y = y i } in
    k.3 ∙ ap (λ d. Some d) same

before_or_at : (c d : Cell) → c.y < 8 → d.y < 8 → bit_of c ≤ bit_of d → (c.x < d.x) ⊎ ((c.x ≡ d.x) × (c.y ≤ d.y))
before_or_at c d h k e = go (d.x - c.x) refl
  where
    go : (m : ℕ) → d.x - c.x ≡ m → (c.x < d.x) ⊎ ((c.x ≡ d.x) × (c.y ≤ d.y))
    go zero f = inr (omega arith, omega arith)
    go (suc m) f = inl (omega arith)

-- a cell whose bit is the lowest is the least
pub least_by_bits : (bits : ℕ) (set : List Cell) → cells_with_bits bits ≡ set → 0 < bits → bits < 2 ^ 64 → IsLeast (cell_of_bit (trailing_zeros w64 bits)) set
unfolding cells_that
least_by_bits bits set v some h = subst (λ s. IsLeast (cell_of_bit t) s) v (record { among = first_is_in (cells_with_bits bits) (least_of_bits bits some h); least = λ d k. earliest d (from_IsIn-filter (has_bit bits) (cells_in 8 8) k) })
  where
    t : ℕ
    t = trailing_zeros w64 bits

    first_is_in : (cells : List Cell) → slice_get cells 0 ≡ Some (cell_of_bit t) → IsIn (cell_of_bit t) cells
    first_is_in [] e = absurd cc
    first_is_in (c ∷ cells) e = let same : c ≡ cell_of_bit t = cc in subst (λ z. IsIn z (c ∷ cells)) same here

    earliest : (d : Cell) → IsIn d (cells_in 8 8) × (has_bit bits d ≡ true) → ((cell_of_bit t).x < d.x) ⊎ (((cell_of_bit t).x ≡ d.x) × ((cell_of_bit t).y ≤ d.y))
    earliest d k =
        let one : bit_at bits (bit_of d) ≡ 1 = (Decides-eqb (bit_at bits (bit_of d)) 1).0 k.1 in
        let low : t ≤ bit_of d = lower one (bit_at-trailing_zeros w64 bits some h).2 in
        before_or_at (cell_of_bit t) d (omega arith) (from_IsIn-cells_in 8 8 d k.0).1 (omega arith)
      where
        lower : bit_at bits (bit_of d) ≡ 1 → ((i : ℕ) → i < t → bit_at bits i ≡ 0) → t ≤ bit_of d
        lower one none = by (t - bit_of d) refl
          where
            by : (m : ℕ) → t - bit_of d ≡ m → t ≤ bit_of d
            by zero e = omega arith
            by (suc m) e = absurd (omega (arith, one, none (bit_of d) (omega arith)))

pub none_of_bits : cells_with_bits 0 ≡ []
unfolding cells_that
none_of_bits = refl

pub set_of_bits : (bits : ℕ) (set : List Cell) → cells_with_bits bits ≡ set → IsCellSet set
set_of_bits bits set e = subst (λ s. IsCellSet s) e (IsCellSet-cells_that (has_bit bits))

-- ---- the answers of the code
pub has_answer : (bits : ℕ) (set : List Cell) (cell : Cell) (bit : ℕ) → IsCellOf 8 8 cell → cells_with_bits bits ≡ set → bit ≡ bit_of cell → (bit_and (bits / 2 ^ bit) 1 == 1) ≡ is_among set cell
has_answer bits set cell bit k v e = ap (λ n. n == 1) (shr_and_one bits bit ∙ ap (λ i. bit_at bits i) e) ∙ has_tested bits cell (has_bit bits cell) k refl ∙ ap (λ s. is_among s cell) v

-- the bits with one more, and what the set then is
pub larger_fits : (bits bit : ℕ) → bits < 2 ^ 64 → bit_or bits (1 * 2 ^ bit % 2 ^ 64) < 2 ^ 64
larger_fits bits bit h = or_lt 64 bits (1 * 2 ^ bit % 2 ^ 64) h (omega arith)

pub larger_value : (bits : ℕ) (set : List Cell) (cell : Cell) (bit : ℕ) → IsCellOf 8 8 cell → cells_with_bits bits ≡ set → bit ≡ bit_of cell → cells_with_bits (bit_or bits (1 * 2 ^ bit % 2 ^ 64)) ≡ with_cell set cell
larger_value bits set cell bit k v e = ap (λ i. cells_with_bits (bit_or bits (1 * 2 ^ i % 2 ^ 64))) e ∙ with_value bits cell k ∙ ap (λ s. with_cell s cell) v

pub larger_cells : (bits : ℕ) (set : List Cell) (cell : Cell) (bit : ℕ) → IsCellOf 8 8 cell → cells_with_bits bits ≡ set → bit ≡ bit_of cell → HasOneMore set cell (cells_with_bits (bit_or bits (1 * 2 ^ bit % 2 ^ 64)))
larger_cells bits set cell bit k v e = subst (λ larger. HasOneMore set cell larger) (sym (larger_value bits set cell bit k v e)) (with_cells set cell (set_of_bits bits set v) k)

pub least_empty : (set : List Cell) (d : Cell) → slice_get set 0 ≡ Some d → set ≢ []
least_empty set d e f = let g : slice_get [] 0 ≡ Some d = subst (λ s. slice_get s 0 ≡ Some d) f e in absurd cc

pub same_bits : (a b : ℕ) (s t : List Cell) → a < 2 ^ 64 → b < 2 ^ 64 → cells_with_bits a ≡ s → cells_with_bits b ≡ t → (a == b) ≡ set_eq s t
same_bits a b s t h k v w =
    let d = set_eq_decides s t in
    same_test (a == b) (set_eq s t) (λ e. d.1 (sym v ∙ ap cells_with_bits ((Decides-eqb a b).0 e) ∙ w))
    (λ e. (Decides-eqb a b).1 (sym (bits_back a h) ∙ ap (λ set. bits_of set) (v ∙ d.0 e ∙ sym w) ∙ bits_back b k))

pub outside : (set : List Cell) (c : Cell) → IsCellSet set → (IsCellOf 8 8 c → ⊥) → is_among set c ≡ false
unfolding cells_that
outside set c s out = go (is_among set c) refl
  where
    go : (b : Bool) → is_among set c ≡ b → is_among set c ≡ false
    go false e = e
    go true e =
        absurd (out (from_IsIn-cells_in 8 8 c (from_IsIn-filter (λ d. is_among set d) (cells_in 8 8) (subst (λ (z : List Cell). IsIn c z) s ((is_among_decides set c).0 e))).0))

-- what the test finds is in the set
pub in_set : (set : List Cell) (d : Cell) → is_among set d ≡ true → IsIn d set
in_set set d e = (is_among_decides set d).0 e

-- what is in the set, the test finds
pub has_in : (set : List Cell) (d : Cell) → IsIn d set → is_among set d ≡ true
has_in set d m = (is_among_decides set d).1 m
