-- The test of each length up to the weight tells whether there is a member.
use Rattle.std.proofs.Common.{◌≡◌, ◌<◌, ◌≤◌, ℕ, zero, suc, Bool, true, false, List, [], ◌∷◌, refl, arith}
use Rattle.std.specs.Prelude.{◌&&◌, ◌==◌, ◌↔◌, ◌+◌, IsTrue, nat_le}
use Rattle.std.specs.List.{list_all, range_with_len}
use Rattle.std.proofs.lemmas.Bool.Decides.{nat_tests, Decides-eqb}
use Rattle.std.proofs.lemmas.Bool.{and_from as both_true}
use Rattle.tiling_core.specs.Tiles.{Tiles, count}
use Rattle.tiling_core.specs.Measures.{weight}
use Rattle.emptiness.specs.Emptiness.{IsEmpty, MembersWithinWeight}
use Rattle.emptiness.specs.Inferable.{has_no_member}
use Rattle.lists.proofs.Tests.{each_passes, same_test}
use Rattle.lists.proofs.Ranges.{in_range_with_len}

-- no member of a length up to the weight is none at all
pub none_of_any_length : MembersWithinWeight → (t : Tiles) → has_no_member t ≡ true → IsEmpty t
none_of_any_length within t e n = go (count t n) refl
  where
    go : (k : ℕ) → count t n ≡ k → count t n ≡ 0
    go zero f = f
    go (suc k) f =
        let some : 0 < count t n = omega arith in
        let w = within t n some in
        let listed = in_range_with_len 0 (weight t + 1) w.size (omega arith) (let s = w.short in omega arith) in
        let none : count t w.size ≡ 0 = (Decides-eqb (count t w.size) 0).0 (each_passes (λ m. count t m == 0) e listed) in
        let counted = w.counted in
        absurd (omega arith)

all_zero : (t : Tiles) → IsEmpty t → (ns : List ℕ) → list_all (λ n. count t n == 0) ns ≡ true
all_zero t e [] = refl
all_zero t e (n ∷ ns) = let here : (count t n == 0) ≡ true = rw (e n) refl in both_true _ _ here (all_zero t e ns)

pub has_none : (t : Tiles) → IsEmpty t → has_no_member t ≡ true
has_none t e = all_zero t e (range_with_len 0 (weight t + 1))

is_true : (b : Bool) → b ≡ true → IsTrue b
is_true true e = refl
is_true false e = e

from_is_true : (b : Bool) → IsTrue b → b ≡ true
from_is_true true e = refl
from_is_true false e = e

pub has_none_exactly : MembersWithinWeight → (t : Tiles) (b : Bool) → (IsTrue b ↔ IsEmpty t) → b ≡ has_no_member t
has_none_exactly within t b k =
    same_test b (has_no_member t) (λ e. has_none t (k.0 (is_true b e))) (λ e. from_is_true b (k.1 (none_of_any_length within t e)))

pub void_tested : MembersWithinWeight → (t : Tiles) (b : Bool) → (IsTrue b ↔ IsEmpty t) → weight t ≤ 6 → b ≡ (nat_le (weight t) 6 && has_no_member t)
void_tested within t b k small = let light : nat_le (weight t) 6 ≡ true = grind (arith, nat_tests) in rw light (has_none_exactly within t b k)
