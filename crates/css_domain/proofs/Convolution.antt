-- The count of a product, child by child.
use Rattle.std.proofs.Common.{◌≡◌, ℕ, zero, suc, ◌+◌, ◌-◌, ◌*◌, ◌<◌, ◌≤◌, Bool, true, false, cond, List, [], ◌∷◌, ◌++◌, length, refl, sym, ap, ◌∙◌, arith}
use Rattle.std.proofs.lemmas.Bool.Decides.{nat_tests}
use Rattle.std.specs.Prelude.{map, ◌==◌, filter, sum, sum_by}
use Rattle.std.specs.List.{range_with_len, flat_map}
use Rattle.std.proofs.lemmas.List.Sums.{sum_by-cons, sum_by-append}
use Rattle.std.proofs.lemmas.List.Elements.{filter-append}
use Rattle.std.proofs.lemmas.List.Concat.{flat_map-cons}
use Rattle.std.proofs.Math.Nat.{mul-zero, mul-add}
use Rattle.lists.specs.Members.IsIn.{here, later}
use Rattle.lists.specs.Products.{product_count}
use Rattle.lists.proofs.Ranges.{range_split, IsIn-range_with_len}
use Rattle.lists.proofs.Counts.{sum_by_agrees}
use Rattle.lists.specs.Members.{IsIn}
use Rattle.lists.specs.Words.{words}
use Rattle.css_domain.specs.Shapes.{product_at, combine}
use Rattle.css_domain.specs.declared.shape.Shape.TheVariants.{Product}
use Rattle.css_domain.proofs.Ways.{sum-cons}

-- the lists whose sum is n
abbrev with_sum : ℕ → List (List ℕ) → List (List ℕ)
with_sum n ws = filter (λ w. sum w == n) ws

same_total : (n x s : ℕ) → x ≤ n → (x + s == n) ≡ (s == n - x)
same_total n x s h = grind (arith, nat_tests)

too_great : (n x s : ℕ) → n < x → (x + s == n) ≡ false
too_great n x s h = grind (arith, nat_tests)

module _ (c : ℕ → ℕ) (cs : List (ℕ → ℕ)) (n x : ℕ) where
  begun : x ≤ n → (ws : List (List ℕ)) → sum_by (product_at (c ∷ cs)) (with_sum n (map (λ w. x ∷ w) ws)) ≡ c x * sum_by (product_at cs) (with_sum (n - x) ws)
  begun h [] = sym (mul-zero (c x))
  begun h (w ∷ ws) = rw (sum-cons x w, same_total n x (sum w) h) (go (begun h ws) (sum w == n - x))
    where
      go : sum_by (product_at (c ∷ cs)) (with_sum n (map (λ w. x ∷ w) ws)) ≡ c x * sum_by (product_at cs) (with_sum (n - x) ws) → (b : Bool) → sum_by (product_at (c ∷ cs)) (cond b ((x ∷ w) ∷ with_sum n (map (λ w. x ∷ w) ws)) (with_sum n (map (λ w. x ∷ w) ws))) ≡ c x * sum_by (product_at cs) (cond b (w ∷ with_sum (n - x) ws) (with_sum (n - x) ws))
      go ih true = sum_by-cons (product_at (c ∷ cs)) (x ∷ w) (with_sum n (map (λ w. x ∷ w) ws)) ∙ rw (ih, sum_by-cons (product_at cs) w (with_sum (n - x) ws)) (sym (mul-add (c x) (product_at cs w) (sum_by (product_at cs) (with_sum (n - x) ws))))
      go ih false = ih

  too_long : n < x → (ws : List (List ℕ)) → sum_by (product_at (c ∷ cs)) (with_sum n (map (λ w. x ∷ w) ws)) ≡ 0
  too_long h [] = refl
  too_long h (w ∷ ws) = rw (sum-cons x w, too_great n x (sum w) h) (too_long h ws)

module _ (c : ℕ → ℕ) (cs : List (ℕ → ℕ)) (n : ℕ) (ws : List (List ℕ)) where
  by_first : (xs : List ℕ) → sum_by (product_at (c ∷ cs)) (with_sum n (flat_map (λ x. map (λ w. x ∷ w) ws) xs)) ≡ sum_by (λ x. sum_by (product_at (c ∷ cs)) (with_sum n (map (λ w. x ∷ w) ws))) xs
  by_first [] = refl
  by_first (x ∷ xs) =
      rw (flat_map-cons (λ (x : ℕ). map (λ w. x ∷ w) ws) x xs, filter-append (λ w. sum w == n) (map (λ w. x ∷ w) ws) (flat_map (λ x. map (λ w. x ∷ w) ws) xs))
      (sum_by-append (product_at (c ∷ cs)) (with_sum n (map (λ w. x ∷ w) ws)) (with_sum n (flat_map (λ x. map (λ w. x ∷ w) ws) xs)) ∙ rw (by_first xs) (sym (sum_by-cons (λ x. sum_by (product_at (c ∷ cs)) (with_sum n (map (λ w. x ∷ w) ws))) x xs)))

sum_by_zero : (f : ℕ → ℕ) (xs : List ℕ) → ((x : ℕ) → IsIn x xs → f x ≡ 0) → sum_by f xs ≡ 0
sum_by_zero f [] h = refl
sum_by_zero f (x ∷ xs) h = sum_by-cons f x xs ∙ rw (h x here, sum_by_zero f xs (λ y i. h y (later x i))) refl

-- numbers past n add nothing
as_far_as : (f : ℕ → ℕ) (n most : ℕ) → n ≤ most → ((x : ℕ) → n < x → f x ≡ 0) → sum_by f (range_with_len 0 (suc most)) ≡ sum_by f (range_with_len 0 (suc n))
as_far_as f n most h none =
    let e : suc most ≡ suc n + (most - n) = omega arith in
    let rest : sum_by f (range_with_len (0 + suc n) (most - n)) ≡ 0 = sum_by_zero f (range_with_len (0 + suc n) (most - n)) (λ x i. let p = IsIn-range_with_len (0 + suc n) (most - n) x i in none x (omega (arith, p.0))) in
    let split : range_with_len 0 (suc most) ≡ range_with_len 0 (suc n) ++ range_with_len (0 + suc n) (most - n) = ap (λ k. range_with_len 0 k) e ∙ range_split 0 (suc n) (most - n) in
    ap (λ xs. sum_by f xs) split ∙ (sum_by-append f (range_with_len 0 (suc n)) (range_with_len (0 + suc n) (most - n)) ∙ (let a : sum_by f (range_with_len 0 (suc n)) + sum_by f (range_with_len (0 + suc n) (most - n)) ≡ sum_by f (range_with_len 0 (suc n)) = omega (arith, rest) in a))

not_zero : (n : ℕ) → (0 == suc n) ≡ false
not_zero n = grind (arith, nat_tests)

all_ways : (cs : List (ℕ → ℕ)) (most n : ℕ) → n ≤ most → sum_by (product_at cs) (with_sum n (words (range_with_len 0 (suc most)) (length cs))) ≡ product_count cs n
all_ways [] most zero h = refl
all_ways [] most (suc n) h = rw (not_zero n) refl
all_ways (c ∷ cs) most n h =
    let ws = words (range_with_len 0 (suc most)) (length cs) in
    let f : ℕ → ℕ = λ x. sum_by (product_at (c ∷ cs)) (with_sum n (map (λ w. x ∷ w) ws)) in
    by_first c cs n ws (range_with_len 0 (suc most))
    ∙ as_far_as f n most h (λ x i. too_long c cs n x i ws)
    ∙ sum_by_agrees f (λ x. c x * product_count cs (n - x)) (range_with_len 0 (suc n))
    (λ x i. let p = IsIn-range_with_len 0 (suc n) x i in let small : x ≤ n = omega (arith, p.1) in begun c cs n x small ws ∙ ap (λ y. c x * y) (all_ways cs most (n - x) (omega (arith, h))))

-- the count of a product is the sum, over the lengths of the first child, of its count times that of the product of the others
pub combine-product : (cs : List (ℕ → ℕ)) (n : ℕ) → combine Product cs n ≡ product_count cs n
combine-product cs n = all_ways cs n n (omega arith)
