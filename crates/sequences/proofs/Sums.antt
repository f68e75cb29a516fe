-- Sums over lists that are put in order.
use Rattle.std.proofs.Common.{ℕ, ◌+◌, ◌≤◌, List, [], ◌∷◌, arith}
use Rattle.std.specs.Prelude.{sum_by}
use Rattle.std.proofs.lemmas.List.Sums.{sum_by-cons}
use Rattle.std.specs.declared.cmp.Ordering.{Ordering}
use Rattle.std.specs.declared.cmp.Ordering.TheVariants.{Less, Equal, Greater}
use Rattle.std.specs.Ordering.{match_ordering}
use Rattle.sequences.specs.Ascending.{insert_new, in_order}

insert_sum : {X : Type 0} (cmp : X → X → Ordering) (f : X → ℕ) (x : X) (ys : List X) → sum_by f (insert_new cmp x ys) ≤ f x + sum_by f ys
insert_sum cmp f x [] = omega (arith, sum_by-cons f x [])
insert_sum {X} cmp f x (y ∷ ys) = go (cmp x y) (insert_sum cmp f x ys)
  where
    go : (o : Ordering) → sum_by f (insert_new cmp x ys) ≤ f x + sum_by f ys → sum_by f (match_ordering o (x ∷ y ∷ ys) (y ∷ ys) (y ∷ insert_new cmp x ys)) ≤ f x + sum_by f (y ∷ ys)
    go Less ih = omega (arith, sum_by-cons f x (y ∷ ys))
    go Equal ih = omega arith
    go Greater ih = omega (arith, ih, sum_by-cons f y (insert_new cmp x ys), sum_by-cons f y ys)

-- repeats add nothing
pub in_order_sum : {X : Type 0} (cmp : X → X → Ordering) (f : X → ℕ) (xs : List X) → sum_by f (in_order cmp xs) ≤ sum_by f xs
in_order_sum cmp f [] = omega arith
in_order_sum cmp f (x ∷ xs) = omega (arith, in_order_sum cmp f xs, insert_sum cmp f x (in_order cmp xs), sum_by-cons f x xs)
