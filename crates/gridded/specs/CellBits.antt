-- The cells of a set give its bits back.
use Rattle.std.specs.Prelude.{◌≡◌, ℕ, zero, suc, Bool, true, false, cond, ◌+◌, ◌*◌, ◌%◌, ◌^◌, ◌<◌, ◌==◌, List, [], ◌∷◌, map, filter}
use Rattle.std.proofs.Common.{refl, ap, ◌∙◌, arith}
use Rattle.std.specs.Int.{bit_at}
use Rattle.std.specs.List.{range_with_len}
use Rattle.std.proofs.lemmas.List.Sums.{sum_by-cons}
use Rattle.std.proofs.lemmas.Nat.{mod-pow-add}
use Rattle.std.proofs.lemmas.Nat.Bits.{bit_at-lt}
use Rattle.std.proofs.lemmas.Bool.Decides.{Decides-eqb}
use Rattle.gridded.specs.declared.cell.Cell.{Cell}
use Rattle.gridded.specs.Grids.{cells_in}
use Rattle.gridded.specs.CellSets.{bit_of, has_bit, cells_with_bits, bits_of, cells_that}

-- the bits of the cells in order
pub bits_in_order : map bit_of (cells_in 8 8) ≡ range_with_len 0 64
bits_in_order = refl

-- one more bit
pub one_bit : (bits a : ℕ) → bits % 2 ^ (a + 1) ≡ bit_at bits a * 2 ^ a + bits % 2 ^ a
one_bit bits a = let e : a + 1 ≡ 1 + a = omega arith in rw e (mod-pow-add bits 1 a)

not_one : (m : ℕ) → m < 2 → (m == 1) ≡ false → m ≡ 0
not_one zero h g = refl
not_one (suc zero) h g = absurd cc
not_one (suc (suc m)) h g = absurd (omega arith)

pub bit_is : (bits a : ℕ) (b : Bool) → (bit_at bits a == 1) ≡ b → bit_at bits a ≡ cond b 1 0
bit_is bits a true f = (Decides-eqb (bit_at bits a) 1).0 f
bit_is bits a false f = not_one (bit_at bits a) (bit_at-lt bits a) f

pub sum_of_bits : (bits : ℕ) (cells : List Cell) (a n : ℕ) → map bit_of cells ≡ range_with_len a n → bits_of (filter (has_bit bits) cells) + bits % 2 ^ a ≡ bits % 2 ^ (a + n)
sum_of_bits bits [] a zero e = let f : a + 0 ≡ a = omega arith in rw f (omega arith)
sum_of_bits bits [] a (suc n) e = absurd cc
sum_of_bits bits (c ∷ cells) a zero e = absurd cc
sum_of_bits bits (c ∷ cells) a (suc n) e = let later : map bit_of cells ≡ range_with_len (a + 1) n = cc in go (sum_of_bits bits cells (a + 1) n later) (has_bit bits c) refl
  where
    here : bit_of c ≡ a
    here = cc

    go : bits_of (filter (has_bit bits) cells) + bits % 2 ^ (a + 1) ≡ bits % 2 ^ (a + 1 + n) → (b : Bool) → has_bit bits c ≡ b → bits_of (filter (has_bit bits) (c ∷ cells)) + bits % 2 ^ a ≡ bits % 2 ^ (a + suc n)
    go ih true f =
        let up : a + suc n ≡ a + 1 + n = omega arith in
        let bit : bit_at bits a ≡ 1 = rw here at (bit_is bits (bit_of c) true f) in
        let next : bits % 2 ^ (a + 1) ≡ 1 * 2 ^ a + bits % 2 ^ a = one_bit bits a ∙ ap (λ b. b * 2 ^ a + bits % 2 ^ a) bit in
        rw (f, sum_by-cons (λ (d : Cell). 2 ^ bit_of d) c (filter (has_bit bits) cells), here, up) (omega arith)
    go ih false f =
        let up : a + suc n ≡ a + 1 + n = omega arith in
        let bit : bit_at bits a ≡ 0 = rw here at (bit_is bits (bit_of c) false f) in
        let next : bits % 2 ^ (a + 1) ≡ 0 * 2 ^ a + bits % 2 ^ a = one_bit bits a ∙ ap (λ b. b * 2 ^ a + bits % 2 ^ a) bit in
        rw (f, up) (omega arith)

pub bits_back : (bits : ℕ) → bits < 2 ^ 64 → bits_of (cells_with_bits bits) ≡ bits
unfolding cells_that
bits_back bits h = let e = sum_of_bits bits (cells_in 8 8) 0 64 bits_in_order in omega arith
