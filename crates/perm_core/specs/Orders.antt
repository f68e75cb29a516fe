-- The order of permutations: by length, then letters.
use Rattle.std.specs.Prelude.{◌≡◌, ℕ, Bool, true, false, nat_eq, List, length, Decides}
use Rattle.std.proofs.Common.{refl, ap, rules, arith}
use Rattle.std.specs.Cmp.{IsEquivalence, IsTotalOrder, IsPartialOrder, partial_order_from_agreeing_total}
use Rattle.std.specs.Cmp.Rules.{comparing}
use Rattle.std.specs.Cmp.Lexicographic.{pointwise, slice_cmp, pointwise_decides, lists_ties, as_long}
use Rattle.std.specs.Hash.{HashWrites}
use Rattle.std.specs.Hash as fed
use Rattle.std.specs.declared.cmp.Ordering.{Ordering}
use Rattle.std.specs.declared.cmp.Ordering.TheVariants.{Less, Equal, Greater}
use Rattle.std.specs.Ordering.{nat_cmp, is_eq, ordering_then, on, then_cmp, eq_by_cmp, as_partial_cmp}
use Rattle.std.proofs.lemmas.Bool.Decides.{Decides-eqb, nat_tests}

abbrev pub perm_eq : List ℕ → List ℕ → Bool
perm_eq = pointwise nat_eq

abbrev pub perm_cmp : List ℕ → List ℕ → Ordering
perm_cmp = then_cmp (on (λ p. length p) nat_cmp) (slice_cmp nat_cmp)

-- what a permutation feeds a hasher
abbrev pub perm_hash : List ℕ → HashWrites
perm_hash p = fed.slice fed.u8 p

-- equal is the same
pub perm_eq_decides : (p q : List ℕ) → Decides (perm_eq p q) (p ≡ q)
perm_eq_decides p q = pointwise_decides Decides-eqb p q

pub perm_equiv : IsEquivalence perm_eq
perm_equiv = search (comparing, rules)

pub perm_total : IsTotalOrder perm_cmp
perm_total = search (comparing, rules)

is_eq-itself : (n : ℕ) → is_eq (nat_cmp n n) ≡ true
is_eq-itself n = grind (arith, nat_tests)

joined : (a b : Ordering) (p : Bool) → p ≡ is_eq b → (p ≡ true → is_eq a ≡ true) → p ≡ is_eq (ordering_then a b)
joined Equal b p e h = e
joined Less b true e h = absurd (let k : false ≡ true = h refl in cc)
joined Less b false e h = refl
joined Greater b true e h = absurd (let k : false ≡ true = h refl in cc)
joined Greater b false e h = refl

-- equal exactly where neither is smaller
pub perm_ties : (p q : List ℕ) → perm_eq p q ≡ eq_by_cmp perm_cmp p q
perm_ties p q =
    joined (nat_cmp (length p) (length q)) (slice_cmp nat_cmp p q) (perm_eq p q) (lists_ties nat_cmp (λ x y. grind (arith, nat_tests)) p q)
    (λ e. let same : length p ≡ length q = as_long nat_eq p q e in rw same (is_eq-itself (length q)))

pub perm_order : IsPartialOrder perm_eq (as_partial_cmp perm_cmp)
perm_order = partial_order_from_agreeing_total perm_cmp perm_total (λ x y. refl) perm_ties

pub perm_hash_alike : (p q : List ℕ) → perm_eq p q ≡ true → perm_hash p ≡ perm_hash q
perm_hash_alike p q e = ap perm_hash ((perm_eq_decides p q).0 e)
