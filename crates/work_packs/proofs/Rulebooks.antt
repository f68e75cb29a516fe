-- A pack is told by its number.
use Rattle.std.specs.Prelude.{◌≡◌, ◌<◌, ◌≤◌, ◌+◌, ℕ, Bool, true, false, cond, List, refl}
use Rattle.std.proofs.Common.{arith, sym, subst}
use Rattle.tiling_core.specs.Tiles.{Tiles}
use Rattle.rule_kinds.specs.Rules.{TilingRule}
use Rattle.rule_kinds.specs.Choices.{Packs}
use Rattle.tile_rules.specs.Complete.{IsComplete, IsCompleteFor, rulebook_of}

at_most : (b : Bool) (k : ℕ) → cond b k 0 ≤ k
at_most true k = omega arith
at_most false k = omega arith

-- a digit and what stands below it are told by their sum
record IsTold (b c : Bool) (m n : ℕ) : Type 0 where
  digit : b ≡ c
  below : m ≡ n

told : (b c : Bool) (k m n : ℕ) → m < k → n < k → m + cond b k 0 ≡ n + cond c k 0 → IsTold b c m n
told true true k m n h l e = record { digit = refl; below = omega (arith, e) }
told false false k m n h l e = record { digit = refl; below = omega (arith, e) }
told true false k m n h l e = absurd (omega (arith, h, l, e))
told false true k m n h l e = absurd (omega (arith, h, l, e))

-- the sums of the first letters
abbrev sum_i : Packs → ℕ
sum_i p = 0 + cond p.i 1 0

abbrev sum_r : Packs → ℕ
sum_r p = sum_i p + cond p.r 2 0

abbrev sum_c : Packs → ℕ
sum_c p = sum_r p + cond p.c 4 0

abbrev sum_p : Packs → ℕ
sum_p p = sum_c p + cond p.p 8 0

abbrev sum_f : Packs → ℕ
sum_f p = sum_p p + cond p.f 16 0

abbrev sum_s : Packs → ℕ
sum_s p = sum_f p + cond p.s 32 0

below_2 : (p : Packs) → sum_i p < 2
below_2 p = let h = at_most p.i 1 in omega (arith, h)

below_4 : (p : Packs) → sum_r p < 4
below_4 p = let h = at_most p.r 2 in let k = below_2 p in omega (arith, h, k)

below_8 : (p : Packs) → sum_c p < 8
below_8 p = let h = at_most p.c 4 in let k = below_4 p in omega (arith, h, k)

below_16 : (p : Packs) → sum_p p < 16
below_16 p = let h = at_most p.p 8 in let k = below_8 p in omega (arith, h, k)

below_32 : (p : Packs) → sum_f p < 32
below_32 p = let h = at_most p.f 16 in let k = below_16 p in omega (arith, h, k)

below_64 : (p : Packs) → sum_s p < 64
below_64 p = let h = at_most p.s 32 in let k = below_32 p in omega (arith, h, k)

pub same_packs : (a b : Packs) → rulebook_of a ≡ rulebook_of b → a ≡ b
same_packs a b e =
    let n = told a.n b.n 64 (sum_s a) (sum_s b) (below_64 a) (below_64 b) (omega (arith, e)) in
    let s = told a.s b.s 32 (sum_f a) (sum_f b) (below_32 a) (below_32 b) n.below in
    let f = told a.f b.f 16 (sum_p a) (sum_p b) (below_16 a) (below_16 b) s.below in
    let p = told a.p b.p 8 (sum_c a) (sum_c b) (below_8 a) (below_8 b) f.below in
    let c = told a.c b.c 4 (sum_r a) (sum_r b) (below_4 a) (below_4 b) p.below in
    let r = told a.r b.r 2 (sum_i a) (sum_i b) (below_2 a) (below_2 b) c.below in
    let i = told a.i b.i 1 0 0 (omega arith) (omega arith) r.below in
    λ k. record { i = i.digit k; r = r.digit k; c = c.digit k; p = p.digit k; f = f.digit k; s = s.digit k; n = n.digit k }

-- what is complete for a pack is complete for its number
pub complete_for : (t : Tiles) (rules : List TilingRule) (packs : Packs) → IsComplete rules t packs → IsCompleteFor (rulebook_of packs) t rules
complete_for t rules packs complete letter normal others e = subst (λ p. IsComplete rules t p) (same_packs packs others (sym e)) complete
