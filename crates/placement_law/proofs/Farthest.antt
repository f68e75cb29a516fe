-- The farthest of some points.
use Rattle.std.proofs.Common.{◌≡◌, ◌<◌, ◌≤◌, ℕ, Bool, true, false, List, [], ◌∷◌, refl, sym, ap, ◌∙◌, arith}
use Rattle.std.specs.Prelude.{not, find, Some, None, cond}
use Rattle.std.specs.List.{list_all}
use Rattle.std.proofs.lemmas.Bool.Decides.{nat_tests}
use Rattle.std.proofs.lemmas.Bool.{not-true, not_from_false}
use Rattle.lists.specs.Members.IsIn.{here, later}
use Rattle.lists.proofs.Tests.{each_passes, all_pass}
use Rattle.lists.specs.Members.{IsIn}
use Rattle.gridded.specs.Grids.{Point}
use Rattle.rule_kinds.specs.declared.kind.Direction.{Direction}
use Rattle.rule_kinds.specs.declared.kind.Direction.TheVariants.{North, South, East, West}
use Rattle.rule_kinds.specs.Kinds.{axis_of, is_farther}
use Rattle.gridded.specs.Axes.{rank_along}
use Rattle.rule_kinds.specs.Carry.{farthest}

-- ---- directions
pub not_beyond_itself : (d : Direction) (a : ℕ) → is_farther d a a ≡ false
not_beyond_itself North a = grind (arith, nat_tests)
not_beyond_itself South a = grind (arith, nat_tests)
not_beyond_itself East a = grind (arith, nat_tests)
not_beyond_itself West a = grind (arith, nat_tests)

pub not_beyond_both : (d : Direction) (a b c : ℕ) → is_farther d a b ≡ false → is_farther d b c ≡ false → is_farther d a c ≡ false
not_beyond_both North a b c e f = grind (arith, nat_tests)
not_beyond_both South a b c e f = grind (arith, nat_tests)
not_beyond_both East a b c e f = grind (arith, nat_tests)
not_beyond_both West a b c e f = grind (arith, nat_tests)

pub not_both_ways : (d : Direction) (a b : ℕ) → is_farther d a b ≡ true → is_farther d b a ≡ false
not_both_ways North a b e = grind (arith, nat_tests)
not_both_ways South a b e = grind (arith, nat_tests)
not_both_ways East a b e = grind (arith, nat_tests)
not_both_ways West a b e = grind (arith, nat_tests)

pub neither_way : (d : Direction) (a b : ℕ) → is_farther d a b ≡ false → is_farther d b a ≡ false → a ≡ b
neither_way North a b e f = grind (arith, nat_tests)
neither_way South a b e f = grind (arith, nat_tests)
neither_way East a b e f = grind (arith, nat_tests)
neither_way West a b e f = grind (arith, nat_tests)

-- where lines rise with ranks, what isn't beyond by rank isn't beyond by line
pub line_not_beyond : (d : Direction) (lq lm rq rp : ℕ) → (rq < rp → lq ≤ lm) → (rp < rq → lm ≤ lq) → (rq ≡ rp → lq ≡ lm) → is_farther d rq rp ≡ false → is_farther d lq lm ≡ false
line_not_beyond North lq lm rq rp f g h e = grind (arith, nat_tests)
line_not_beyond South lq lm rq rp f g h e = grind (arith, nat_tests)
line_not_beyond East lq lm rq rp f g h e = grind (arith, nat_tests)
line_not_beyond West lq lm rq rp f g h e = grind (arith, nat_tests)

-- and back, where one line has one rank
pub rank_not_beyond : (d : Direction) (lq lm rq rp : ℕ) → (rq < rp → lq ≤ lm) → (rp < rq → lm ≤ lq) → (lq ≡ lm → rq ≡ rp) → is_farther d lq lm ≡ false → is_farther d rq rp ≡ false
rank_not_beyond North lq lm rq rp f g h e = grind (arith, nat_tests)
rank_not_beyond South lq lm rq rp f g h e = grind (arith, nat_tests)
rank_not_beyond East lq lm rq rp f g h e = grind (arith, nat_tests)
rank_not_beyond West lq lm rq rp f g h e = grind (arith, nat_tests)

-- ---- the first that passes a test
module _ {X : Type 0} (test : X → Bool) where
  pub find_none : (xs : List X) → find test xs ≡ None → (x : X) → IsIn x xs → test x ≡ false
  find_none [] e x i = elim i [ ]
  find_none (y ∷ xs) e x i = go (test y) refl e (λ f z j. find_none xs f z j) x i
    where
      tails : {z : X} → test y ≡ false → ((w : X) → IsIn w xs → test w ≡ false) → IsIn z (y ∷ xs) → test z ≡ false
      tails f ih here = f
      tails f ih (later _ j) = ih _ j

      go : (b : Bool) → test y ≡ b → cond b (Some y) (find test xs) ≡ None → (find test xs ≡ None → (z : X) → IsIn z xs → test z ≡ false) → (z : X) → IsIn z (y ∷ xs) → test z ≡ false
      go true f e ih z j = absurd cc
      go false f e ih z j = tails f (ih e) j

  pub find_some : (xs : List X) (x : X) → find test xs ≡ Some x → IsIn x xs × (test x ≡ true)
  find_some [] x e = absurd cc
  find_some (y ∷ xs) x e = go (test y) refl e (λ f. find_some xs x f)
    where
      go : (b : Bool) → test y ≡ b → cond b (Some y) (find test xs) ≡ Some x → (find test xs ≡ Some x → IsIn x xs × (test x ≡ true)) → IsIn x (y ∷ xs) × (test x ≡ true)
      go true f e ih = let same : y ≡ x = cc in rw (← same) (here, f)
      go false f e ih = let k = ih e in (later y k.0, k.1)

  pub find_only : (xs : List X) (x : X) → IsIn x xs → test x ≡ true → ((y : X) → IsIn y xs → test y ≡ true → y ≡ x) → find test xs ≡ Some x
  find_only [] x i t only = elim i [ ]
  find_only (y ∷ xs) x i t only = go (test y) refl i (λ j. find_only xs x j t (λ z k. only z (later y k)))
    where
      apart : {z : X} → test y ≡ false → test z ≡ true → IsIn z (y ∷ xs) → IsIn z xs
      apart f g here = absurd cc
      apart f g (later _ j) = j

      go : (b : Bool) → test y ≡ b → IsIn x (y ∷ xs) → (IsIn x xs → find test xs ≡ Some x) → cond b (Some y) (find test xs) ≡ Some x
      go true f j ih = ap (λ (z : X). Some z) (only y here f)
      go false f j ih = ih (apart f t j)

  pub find_nothing : (xs : List X) → ((x : X) → IsIn x xs → ⊥) → find test xs ≡ None
  find_nothing [] n = refl
  find_nothing (x ∷ xs) n = absurd (n x here)

-- ---- the farthest
module _ (d : Direction) (rank : Point → ℕ) where
  abbrev none_beyond : List Point → Point → Type 0
  none_beyond xs p = (z : Point) → IsIn z xs → is_farther d (rank z) (rank p) ≡ false

  best : (x : Point) (xs : List Point) → (p : Point) × IsIn p (x ∷ xs) × none_beyond (x ∷ xs) p
  best x [] = (x, here, λ z i. first z i)
    where
      first : (z : Point) → IsIn z (x ∷ []) → is_farther d (rank z) (rank x) ≡ false
      first _ here = not_beyond_itself d (rank x)
      first z (later _ i) = elim i [ ]
  best x (y ∷ xs) = go (best y xs)
    where
      stays : (b : Point) → IsIn b (y ∷ xs) → none_beyond (y ∷ xs) b → is_farther d (rank x) (rank b) ≡ false → (z : Point) → IsIn z (x ∷ y ∷ xs) → is_farther d (rank z) (rank b) ≡ false
      stays b i n e _ here = e
      stays b i n e z (later _ j) = n z j

      rises : (b : Point) → none_beyond (y ∷ xs) b → is_farther d (rank x) (rank b) ≡ true → (z : Point) → IsIn z (x ∷ y ∷ xs) → is_farther d (rank z) (rank x) ≡ false
      rises b n e _ here = not_beyond_itself d (rank x)
      rises b n e z (later _ j) = not_beyond_both d (rank z) (rank b) (rank x) (n z j) (not_both_ways d (rank x) (rank b) e)

      pick : (b : Point) → IsIn b (y ∷ xs) → none_beyond (y ∷ xs) b → (c : Bool) → is_farther d (rank x) (rank b) ≡ c → (p : Point) × IsIn p (x ∷ y ∷ xs) × none_beyond (x ∷ y ∷ xs) p
      pick b i n true e = (x, here, rises b n e)
      pick b i n false e = (b, later x i, stays b i n e)

      go : (p : Point) × IsIn p (y ∷ xs) × none_beyond (y ∷ xs) p → (p : Point) × IsIn p (x ∷ y ∷ xs) × none_beyond (x ∷ y ∷ xs) p
      go b = pick b.0 b.1 b.2 (is_farther d (rank x) (rank b.0)) refl

abbrev rank_in : Direction → List Point → Point → ℕ
rank_in d g p = rank_along (axis_of d) g p

abbrev is_farthest : Direction → List Point → List Point → Point → Bool
is_farthest d g xs p = list_all (λ q. not (is_farther d (rank_in d g q) (rank_in d g p))) xs

abbrev pub NoneBeyond : Direction → List Point → List Point → Point → Type 0
NoneBeyond d g xs p = (z : Point) → IsIn z xs → is_farther d (rank_along (axis_of d) g z) (rank_along (axis_of d) g p) ≡ false

passing : (d : Direction) (g xs : List Point) (p : Point) → NoneBeyond d g xs p → is_farthest d g xs p ≡ true
passing d g xs p n = all_pass (λ q. not (is_farther d (rank_in d g q) (rank_in d g p))) xs (λ z i. not_from_false (is_farther d (rank_in d g z) (rank_in d g p)) (n z i))

passed : (d : Direction) (g xs : List Point) (p : Point) → is_farthest d g xs p ≡ true → NoneBeyond d g xs p
passed d g xs p e z i = not-true (is_farther d (rank_in d g z) (rank_in d g p)) (each_passes (λ q. not (is_farther d (rank_in d g q) (rank_in d g p))) e i)

pub farthest_tells : (d : Direction) (g xs : List Point) (p : Point) → farthest d g xs ≡ Some p → IsIn p xs × NoneBeyond d g xs p
farthest_tells d g xs p e = let k = find_some (is_farthest d g xs) xs p e in (k.0, passed d g xs p k.1)

pub farthest_none : (d : Direction) (g xs : List Point) → farthest d g xs ≡ None → (z : Point) → IsIn z xs → ⊥
farthest_none d g [] e z i = elim i [ ]
farthest_none d g (x ∷ xs) e z i =
    let b = best d (rank_in d g) x xs in
    let t = passing d g (x ∷ xs) b.0 b.2 in
    let f = find_none (is_farthest d g (x ∷ xs)) (x ∷ xs) e b.0 b.1 in
    let h : false ≡ true = sym f ∙ t in cc

pub farthest_of_none : (d : Direction) (g xs : List Point) → ((z : Point) → IsIn z xs → ⊥) → farthest d g xs ≡ None
farthest_of_none d g xs n = find_nothing (is_farthest d g xs) xs n

pub farthest_is : (d : Direction) (g xs : List Point) (p : Point) → ((y z : Point) → IsIn y xs → IsIn z xs → rank_along (axis_of d) g y ≡ rank_along (axis_of d) g z → y ≡ z) → IsIn p xs → NoneBeyond d g xs p → farthest d g xs ≡ Some p
farthest_is d g xs p one i n =
    find_only (is_farthest d g xs) xs p i (passing d g xs p n) (λ y j e. one y p j i (neither_way d (rank_in d g y) (rank_in d g p) (n y j) (passed d g xs y e p i)))
