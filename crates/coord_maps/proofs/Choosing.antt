-- In how many ways points that follow one another are given new lines.
use Rattle.std.proofs.Common.{◌≡◌, ℕ, zero, suc, ◌+◌, ◌-◌, ◌*◌, ◌<◌, ◌≤◌, Bool, true, false, List, [], ◌∷◌, ◌++◌, length, refl, sym, ap, ◌∙◌, subst, arith, length-append}
use Rattle.std.specs.Prelude.{◌&&◌, not, map, flat_map, nat_lt, nat_le, nat_eq, cond, ◌⊎◌}
use Rattle.std.specs.List.{range_with_len, list_all, AllByRecursion}
use Rattle.std.proofs.Common.{⊎_elim}
use Rattle.std.proofs.lemmas.Bool.Decides.{nat_tests}
use Rattle.std.proofs.Math.Bool.{and-true}
use Rattle.coord_maps.specs.LineMaps.{Cut, IsCut, old_line, first_line}
use Rattle.coord_maps.specs.Preimages.{lines_over}
use Rattle.coord_maps.specs.Ways.{ways}
use Rattle.lists.proofs.Tests.{and_regroup}

-- ---- sums
abbrev pub total : (ℕ → ℕ) → List ℕ → ℕ
total f [] = 0
total f (x ∷ xs) = f x + total f xs

pub length-flat_map : {Z : Type 0} (f : ℕ → List Z) (xs : List ℕ) → length (flat_map f xs) ≡ total (λ x. length (f x)) xs
length-flat_map f [] = refl
length-flat_map f (x ∷ xs) = length-append (f x) (flat_map f xs) ∙ ap (λ n. length (f x) + n) (length-flat_map f xs)

pub total-agree : (f g : ℕ → ℕ) → ((x : ℕ) → f x ≡ g x) → (xs : List ℕ) → total f xs ≡ total g xs
total-agree f g e [] = refl
total-agree f g e (x ∷ xs) = λ i. e x i + total-agree f g e xs i

pub total-times : (f : ℕ → ℕ) (a : ℕ) (xs : List ℕ) → total (λ x. a * f x) xs ≡ a * total f xs
total-times f a [] = omega arith
total-times f a (x ∷ xs) = omega (arith, total-times f a xs)

pub total-times_right : (f : ℕ → ℕ) (a : ℕ) (xs : List ℕ) → total (λ x. f x * a) xs ≡ total f xs * a
total-times_right f a [] = omega arith
total-times_right f a (x ∷ xs) = omega (arith, total-times_right f a xs)

total-none : (xs : List ℕ) → total (λ x. 0) xs ≡ 0
total-none [] = refl
total-none (x ∷ xs) = omega (arith, total-none xs)

total-cond : (b : Bool) (f : ℕ → ℕ) (xs : List ℕ) → cond b (total f xs) 0 ≡ total (λ x. cond b (f x) 0) xs
total-cond true f xs = refl
total-cond false f xs = sym (total-none xs)

total-sum : (f g : ℕ → ℕ) (xs : List ℕ) → total (λ x. f x + g x) xs ≡ total f xs + total g xs
total-sum f g [] = refl
total-sum f g (x ∷ xs) = omega (arith, total-sum f g xs)

total-swap : (f : ℕ → ℕ → ℕ) (xs ys : List ℕ) → total (λ x. total (f x) ys) xs ≡ total (λ y. total (λ x. f x y) xs) ys
total-swap f [] ys = sym (total-none ys)
total-swap f (x ∷ xs) ys = ap (λ n. total (f x) ys + n) (total-swap f xs ys) ∙ sym (total-sum (f x) (λ y. total (λ z. f z y) xs) ys)

-- ---- marks: a letter, and a line along one axis
abbrev pub Mark : Type 0
Mark = ℕ × ℕ

abbrev pub line_of : Mark → ℕ
line_of p = p.1

abbrev pub columns_rise : Mark → Mark → Bool
columns_rise p q = nat_le p.1 q.1

-- rows rise with letters
abbrev pub rows_agree : Mark → Mark → Bool
rows_agree p q = not (nat_lt p.0 q.0 && nat_lt q.1 p.1) && not (nat_lt q.0 p.0 && nat_lt p.1 q.1)

-- whether a mark may come after some others
abbrev pub comes : (Mark → Mark → Bool) → List Mark → Mark → Bool
comes follow s q = list_all (λ p. follow p q) s

-- in how many ways some marks, after others, are given new lines over their own
abbrev pub ways_from : (Mark → Mark → Bool) → (ℕ → List ℕ) → List Mark → List Mark → ℕ
ways_from follow over s [] = 1
ways_from follow over s (p ∷ g) = total (λ v. cond (comes follow s (p.0, v)) (ways_from follow over (s ++ (p.0, v) ∷ []) g) 0) (over p.1)

comes-push : (follow : Mark → Mark → Bool) (s : List Mark) (p q : Mark) → comes follow (s ++ p ∷ []) q ≡ (comes follow s q && follow p q)
comes-push follow [] p q = and-true (follow p q)
comes-push follow (r ∷ s) p q = rw (comes-push follow s p q) (and_regroup (follow r q) (comes follow s q) (follow p q))

-- ---- in order of the letters
abbrev pub put_mark : Mark → List Mark → List Mark
put_mark p [] = p ∷ []
put_mark p (q ∷ g) = cond (nat_lt p.0 q.0) (p ∷ q ∷ g) (q ∷ put_mark p g)

abbrev pub by_letter : List Mark → List Mark
by_letter [] = []
by_letter (p ∷ g) = put_mark p (by_letter g)

module _ (follow : Mark → Mark → Bool) (symmetric : (p q : Mark) → follow p q ≡ follow q p) (over : ℕ → List ℕ) where
  ways-alike : (s t g : List Mark) → ((q : Mark) → comes follow s q ≡ comes follow t q) → ways_from follow over s g ≡ ways_from follow over t g
  ways-alike s t [] e = refl
  ways-alike s t (p ∷ g) e =
      total-agree (λ v. cond (comes follow s (p.0, v)) (ways_from follow over (s ++ (p.0, v) ∷ []) g) 0) (λ v. cond (comes follow t (p.0, v)) (ways_from follow over (t ++ (p.0, v) ∷ []) g) 0)
      (λ v. λ i. cond (e (p.0, v) i) (ways-alike (s ++ (p.0, v) ∷ []) (t ++ (p.0, v) ∷ []) g (λ q. comes-push follow s (p.0, v) q ∙ ap (λ b. b && follow (p.0, v) q) (e q) ∙ sym (comes-push follow t (p.0, v) q)) i) 0) (over p.1)

  -- two marks in given lines, the one and the other first
  two-exchanged : (s : List Mark) (p q : Mark) (g : List Mark) → cond (comes follow s p) (cond (comes follow (s ++ p ∷ []) q) (ways_from follow over (s ++ p ∷ [] ++ q ∷ []) g) 0) 0
      ≡ cond (comes follow s q) (cond (comes follow (s ++ q ∷ []) p) (ways_from follow over (s ++ q ∷ [] ++ p ∷ []) g) 0) 0
  two-exchanged s p q g =
      rw (comes-push follow s p q, comes-push follow s q p, symmetric q p) (go (comes follow s p) (comes follow s q) (follow p q) (ways-alike (s ++ p ∷ [] ++ q ∷ []) (s ++ q ∷ [] ++ p ∷ []) g (λ r.
      comes-push follow (s ++ p ∷ []) q r ∙ rw (comes-push follow s p r, comes-push follow (s ++ q ∷ []) p r, comes-push follow s q r) (turned (comes follow s r) (follow p r) (follow q r)))))
    where
      turned : (a b c : Bool) → (a && b && c) ≡ (a && c && b)
      turned true true true = refl
      turned true true false = refl
      turned true false true = refl
      turned true false false = refl
      turned false b c = refl

      go : (a b c : Bool) {m n : ℕ} → m ≡ n → cond a (cond (b && c) m 0) 0 ≡ cond b (cond (a && c) n 0) 0
      go true true true e = e
      go true true false e = refl
      go true false c e = refl
      go false true c e = refl
      go false false c e = refl

  ways-exchanged : (s : List Mark) (p q : Mark) (g : List Mark) → ways_from follow over s (p ∷ q ∷ g) ≡ ways_from follow over s (q ∷ p ∷ g)
  ways-exchanged s p q g =
      total-agree (λ v. cond (comes follow s (p.0, v)) (ways_from follow over (s ++ (p.0, v) ∷ []) (q ∷ g)) 0) (λ v. total (both v) (over q.1))
      (λ v. total-cond (comes follow s (p.0, v)) (λ w. cond (comes follow (s ++ (p.0, v) ∷ []) (q.0, w)) (ways_from follow over (s ++ (p.0, v) ∷ [] ++ (q.0, w) ∷ []) g) 0) (over q.1)) (over p.1)
      ∙ total-swap both (over p.1) (over q.1)
      ∙ sym (total-agree (λ w. cond (comes follow s (q.0, w)) (ways_from follow over (s ++ (q.0, w) ∷ []) (p ∷ g)) 0) (λ w. total (λ v. both v w) (over p.1))
      (λ w. total-cond (comes follow s (q.0, w)) (λ v. cond (comes follow (s ++ (q.0, w) ∷ []) (p.0, v)) (ways_from follow over (s ++ (q.0, w) ∷ [] ++ (p.0, v) ∷ []) g) 0) (over p.1)
      ∙ total-agree (λ v. cond (comes follow s (q.0, w)) (cond (comes follow (s ++ (q.0, w) ∷ []) (p.0, v)) (ways_from follow over (s ++ (q.0, w) ∷ [] ++ (p.0, v) ∷ []) g) 0) 0) (λ v. both v w)
      (λ v. two-exchanged s (q.0, w) (p.0, v) g) (over p.1)) (over q.1))
    where
      both : ℕ → ℕ → ℕ
      both v w = cond (comes follow s (p.0, v)) (cond (comes follow (s ++ (p.0, v) ∷ []) (q.0, w)) (ways_from follow over (s ++ (p.0, v) ∷ [] ++ (q.0, w) ∷ []) g) 0) 0

  ways-tail : (s : List Mark) (p : Mark) (g h : List Mark) → ((t : List Mark) → ways_from follow over t g ≡ ways_from follow over t h) → ways_from follow over s (p ∷ g) ≡ ways_from follow over s (p ∷ h)
  ways-tail s p g h e =
      total-agree (λ v. cond (comes follow s (p.0, v)) (ways_from follow over (s ++ (p.0, v) ∷ []) g) 0) (λ v. cond (comes follow s (p.0, v)) (ways_from follow over (s ++ (p.0, v) ∷ []) h) 0)
      (λ v. ap (λ n. cond (comes follow s (p.0, v)) n 0) (e (s ++ (p.0, v) ∷ []))) (over p.1)

  ways-put : (p : Mark) (g s : List Mark) → ways_from follow over s (put_mark p g) ≡ ways_from follow over s (p ∷ g)
  ways-put p [] s = refl
  ways-put p (q ∷ g) s = go (nat_lt p.0 q.0) (λ t. ways-put p g t)
    where
      go : (b : Bool) → ((t : List Mark) → ways_from follow over t (put_mark p g) ≡ ways_from follow over t (p ∷ g)) → ways_from follow over s (cond b (p ∷ q ∷ g) (q ∷ put_mark p g)) ≡ ways_from follow over s (p ∷ q ∷ g)
      go true ih = refl
      go false ih = ways-tail s q (put_mark p g) (p ∷ g) ih ∙ ways-exchanged s q p g

  -- the order of the marks makes no difference
  pub ways-by_letter : (g s : List Mark) → ways_from follow over s (by_letter g) ≡ ways_from follow over s g
  ways-by_letter [] s = refl
  ways-by_letter (p ∷ g) s = ways-put p (by_letter g) s ∙ ways-tail s p (by_letter g) g (λ t. ways-by_letter g t)

pub rows_agree-symmetric : (p q : Mark) → rows_agree p q ≡ rows_agree q p
rows_agree-symmetric p q = turned (not (nat_lt p.0 q.0 && nat_lt q.1 p.1)) (not (nat_lt q.0 p.0 && nat_lt p.1 q.1))
  where
    turned : (a b : Bool) → (a && b) ≡ (b && a)
    turned true true = refl
    turned true false = refl
    turned false true = refl
    turned false false = refl

-- ---- what is put in order
-- two marks whose letters differ, with rows that agree
abbrev pub IsApart : Mark → Mark → Type 0
IsApart p q = ((p.0 < q.0) × (p.1 ≤ q.1)) ⊎ ((q.0 < p.0) × (q.1 ≤ p.1))

abbrev pub AreApart : List Mark → Type 0
AreApart [] = Unit {0}
AreApart (p ∷ g) = AllByRecursion (λ q. IsApart p q) g × AreApart g

abbrev IsBelow : Mark → Mark → Type 0
IsBelow p q = (p.0 < q.0) × (p.1 ≤ q.1)

abbrev AreOrdered : List Mark → Type 0
AreOrdered [] = Unit {0}
AreOrdered (p ∷ g) = AllByRecursion (λ q. IsBelow p q) g × AreOrdered g

all_put : (P : Mark → Type 0) (p : Mark) (g : List Mark) → P p → AllByRecursion P g → AllByRecursion P (put_mark p g)
all_put P p [] h k = (h, tt)
all_put P p (q ∷ g) h k = go (nat_lt p.0 q.0) (all_put P p g h k.1)
  where
    go : (b : Bool) → AllByRecursion P (put_mark p g) → AllByRecursion P (cond b (p ∷ q ∷ g) (q ∷ put_mark p g))
    go true ih = (h, k)
    go false ih = (k.0, ih)

all_ordered : (P : Mark → Type 0) (g : List Mark) → AllByRecursion P g → AllByRecursion P (by_letter g)
all_ordered P [] k = tt
all_ordered P (p ∷ g) k = all_put P p (by_letter g) k.0 (all_ordered P g k.1)

below_each : (p q : Mark) (g : List Mark) → p.0 < q.0 → AllByRecursion (λ r. IsBelow q r) g → AllByRecursion (λ r. IsApart p r) g → AllByRecursion (λ r. IsBelow p r) g
below_each p q [] h k a = tt
below_each p q (r ∷ g) h k a = (⊎_elim {C = IsBelow p r} (λ l. l) (λ l. let up = k.0.0 in let low = l.0 in absurd (omega arith)) a.0, below_each p q g h k.1 a.1)

put_ordered : (p : Mark) (g : List Mark) → AllByRecursion (λ q. IsApart p q) g → AreOrdered g → AreOrdered (put_mark p g)
put_ordered p [] a k = (tt, tt)
put_ordered p (q ∷ g) a k = go (nat_lt p.0 q.0) refl (put_ordered p g a.1 k.1)
  where
    go : (b : Bool) → nat_lt p.0 q.0 ≡ b → AreOrdered (put_mark p g) → AreOrdered (cond b (p ∷ q ∷ g) (q ∷ put_mark p g))
    go true e ih =
        let low : p.0 < q.0 = grind (arith, nat_tests, e) in
        let first : IsBelow p q = ⊎_elim {C = IsBelow p q} (λ l. l) (λ l. let high = l.0 in absurd (omega arith)) a.0 in
        ((first, below_each p q g low k.0 a.1), k)
    go false e ih =
        let high : q.0 ≤ p.0 = grind (arith, nat_tests, e) in
        let first : IsBelow q p = ⊎_elim {C = IsBelow q p} (λ l. let low = l.0 in absurd (omega arith)) (λ l. l) a.0 in
        (all_put (λ r. IsBelow q r) p g first k.0, ih)

ordered : (g : List Mark) → AreApart g → AreOrdered (by_letter g)
ordered [] a = tt
ordered (p ∷ g) a = put_ordered p (by_letter g) (all_ordered (λ q. IsApart p q) g a.0) (ordered g a.1)

-- ---- rising lines
abbrev pub count_of : ℕ → List ℕ → ℕ
count_of at [] = 0
count_of at (x ∷ xs) = cond (nat_eq x at) (suc (count_of at xs)) (count_of at xs)

abbrev pub AreRising : List ℕ → Type 0
AreRising [] = Unit {0}
AreRising (x ∷ xs) = AllByRecursion (λ y. x ≤ y) xs × AreRising xs

count-put : (at : ℕ) (p : Mark) (g : List Mark) → count_of at (map line_of (put_mark p g)) ≡ count_of at (map line_of (p ∷ g))
count-put at p [] = refl
count-put at p (q ∷ g) = go (nat_lt p.0 q.0) (nat_eq p.1 at) (nat_eq q.1 at) (count-put at p g)
  where
    turned : (b c : Bool) → cond b (suc (cond c (suc (count_of at (map line_of g))) (count_of at (map line_of g)))) (cond c (suc (count_of at (map line_of g))) (count_of at (map line_of g)))
        ≡ cond c (suc (cond b (suc (count_of at (map line_of g))) (count_of at (map line_of g)))) (cond b (suc (count_of at (map line_of g))) (count_of at (map line_of g)))
    turned true true = refl
    turned true false = refl
    turned false true = refl
    turned false false = refl

    go : (b c d : Bool) → count_of at (map line_of (put_mark p g)) ≡ cond (nat_eq p.1 at) (suc (count_of at (map line_of g))) (count_of at (map line_of g))
        → count_of at (map line_of (cond b (p ∷ q ∷ g) (q ∷ put_mark p g))) ≡ cond (nat_eq p.1 at) (suc (cond (nat_eq q.1 at) (suc (count_of at (map line_of g))) (count_of at (map line_of g)))) (cond (nat_eq q.1 at) (suc (count_of at (map line_of g))) (count_of at (map line_of g)))
    go true c d e = refl
    go false c d e = ap (λ n. cond (nat_eq q.1 at) (suc n) n) e ∙ turned (nat_eq q.1 at) (nat_eq p.1 at)

count-by_letter : (at : ℕ) (g : List Mark) → count_of at (map line_of (by_letter g)) ≡ count_of at (map line_of g)
count-by_letter at [] = refl
count-by_letter at (p ∷ g) = count-put at p (by_letter g) ∙ ap (λ n. cond (nat_eq p.1 at) (suc n) n) (count-by_letter at g)

-- in how many ways rising lines, none below one, are given rising new lines
abbrev rises_from : (ℕ → List ℕ) → ℕ → List ℕ → ℕ
rises_from over low [] = 1
rises_from over low (o ∷ g) = total (λ v. cond (nat_le low v) (rises_from over v g) 0) (over o)

-- which of two follows the other is told by the lines alone
abbrev ByLines : (Mark → Mark → Bool) → List Mark → Type 0
ByLines follow [] = Unit {0}
ByLines follow (p ∷ g) = AllByRecursion (λ q. (u v : ℕ) → follow (p.0, u) (q.0, v) ≡ nat_le u v) g × ByLines follow g

-- which marks come after some is told by the highest line
abbrev ByHighest : (Mark → Mark → Bool) → List Mark → ℕ → List Mark → Type 0
ByHighest follow s low g = AllByRecursion (λ q. (v : ℕ) → comes follow s (q.0, v) ≡ nat_le low v) g

highest-push : (follow : Mark → Mark → Bool) (s : List Mark) (low : ℕ) (p : Mark) (v : ℕ) (g : List Mark) → nat_le low v ≡ true → ByHighest follow s low g → AllByRecursion (λ q. (u w : ℕ) → follow (p.0, u) (q.0, w) ≡ nat_le u w) g → ByHighest follow (s ++ (p.0, v) ∷ []) v g
highest-push follow s low p v [] h a b = tt
highest-push follow s low p v (q ∷ g) h a b =
    ((λ w. comes-push follow s (p.0, v) (q.0, w) ∙ rw (a.0 w, b.0 v w) (let l = h in grind (arith, nat_tests))), highest-push follow s low p v g h a.1 b.1)

ways_rise : (follow : Mark → Mark → Bool) (over : ℕ → List ℕ) (s : List Mark) (low : ℕ) (g : List Mark) → ByLines follow g → ByHighest follow s low g → ways_from follow over s g ≡ rises_from over low (map line_of g)
ways_rise follow over s low [] b h = refl
ways_rise follow over s low (p ∷ g) b h =
    total-agree (λ v. cond (comes follow s (p.0, v)) (ways_from follow over (s ++ (p.0, v) ∷ []) g) 0) (λ v. cond (nat_le low v) (rises_from over v (map line_of g)) 0)
    (λ v. ap (λ b. cond b (ways_from follow over (s ++ (p.0, v) ∷ []) g) 0) (h.0 v) ∙ go v (nat_le low v) refl (λ e. ways_rise follow over (s ++ (p.0, v) ∷ []) v g b.1 (highest-push follow s low p v g e h.1 b.0))) (over p.1)
  where
    go : (v : ℕ) (c : Bool) → nat_le low v ≡ c → (nat_le low v ≡ true → ways_from follow over (s ++ (p.0, v) ∷ []) g ≡ rises_from over v (map line_of g)) → cond c (ways_from follow over (s ++ (p.0, v) ∷ []) g) 0 ≡ cond c (rises_from over v (map line_of g)) 0
    go v true e ih = ih e
    go v false e ih = refl

-- ---- the number of rising choices
none_left : (at o : ℕ) (g : List ℕ) → at < o → AllByRecursion (λ y. o ≤ y) g → count_of at g ≡ 0
none_left at o [] h k = refl
none_left at o (y ∷ g) h k = let high = k.0 in let other : nat_eq y at ≡ false = grind (arith, nat_tests) in rw other (none_left at o g h k.1)

run_total : (h : ℕ → ℕ) (c at parts low a n : ℕ) → ((v : ℕ) → at ≤ v → v < at + parts → h v ≡ ways c (parts - (v - at))) → at ≤ a → a + n ≡ at + parts → total (λ v. cond (nat_le low v) (h v) 0) (range_with_len a n) ≡ ways (suc c) (n - (low - a))
run_total h c at parts low a zero e k f = let none : 0 - (low - a) ≡ 0 = omega arith in sym (ap (ways (suc c)) none)
run_total h c at parts low a (suc n) e k f =
    let rest = run_total h c at parts low (a + 1) n e (omega arith) (omega arith) in
    go (nat_le low a) refl rest
  where
    go : (b : Bool) → nat_le low a ≡ b → total (λ v. cond (nat_le low v) (h v) 0) (range_with_len (a + 1) n) ≡ ways (suc c) (n - (low - (a + 1))) → cond b (h a) 0 + total (λ v. cond (nat_le low v) (h v) 0) (range_with_len (a + 1) n) ≡ ways (suc c) (suc n - (low - a))
    go true t rest =
        let within : low ≤ a = grind (arith, nat_tests, t) in
        let all : suc n - (low - a) ≡ suc n = omega arith in
        let later : n - (low - (a + 1)) ≡ n = omega arith in
        let here : parts - (a - at) ≡ suc n = omega arith in
        let one : h a ≡ ways c (suc n) = e a k (omega arith) ∙ ap (ways c) here in
        let others = rest ∙ ap (ways (suc c)) later in
        ap (λ r. r + total (λ v. cond (nat_le low v) (h v) 0) (range_with_len (a + 1) n)) one ∙ ap (λ r. ways c (suc n) + r) others ∙ turned (ways c (suc n)) (ways (suc c) n) ∙ sym (ap (ways (suc c)) all)
      where
        turned : (x y : ℕ) → x + y ≡ y + x
        turned x y = omega arith
    go false t rest =
        let past : a < low = grind (arith, nat_tests, t) in
        let same : n - (low - (a + 1)) ≡ suc n - (low - a) = omega arith in
        omega (arith, rest ∙ ap (ways (suc c)) same)

rising_ways : (m : Cut) (low : ℕ) (g : List ℕ) → IsCut m → AllByRecursion (λ y. old_line m low ≤ y) g → AreRising g → rises_from (lines_over m) low g ≡ ways (count_of m.at g) (m.parts - (low - m.at))
rising_ways m low [] k a r = refl
rising_ways m low (o ∷ g) k a r = go (nat_eq o m.at) refl (λ v h. rising_ways m v g k h r.1)
  where
    turned : (f : ℕ → ℕ) (v : ℕ) → total f (v ∷ []) ≡ f v
    turned f v = omega arith

    go : (b : Bool) → nat_eq o m.at ≡ b → ((v : ℕ) → AllByRecursion (λ y. old_line m v ≤ y) g → rises_from (lines_over m) v g ≡ ways (count_of m.at g) (m.parts - (v - m.at)))
        → total (λ v. cond (nat_le low v) (rises_from (lines_over m) v g) 0) (range_with_len (first_line m o) (cond b m.parts 1)) ≡ ways (cond b (suc (count_of m.at g)) (count_of m.at g)) (m.parts - (low - m.at))
    go true e ih =
        let same : o ≡ m.at = grind (arith, nat_tests, e) in
        let start : first_line m o ≡ m.at = grind (arith, nat_tests) in
        let rest : AllByRecursion (λ y. m.at ≤ y) g = subst (λ z. AllByRecursion (λ y. z ≤ y) g) same r.0 in
        ap (λ z. total (λ v. cond (nat_le low v) (rises_from (lines_over m) v g) 0) (range_with_len z m.parts)) start
        ∙ run_total (λ v. rises_from (lines_over m) v g) (count_of m.at g) m.at m.parts low m.at m.parts
        (λ v p q. ih v (subst (λ z. AllByRecursion (λ y. z ≤ y) g) (let at_cut : m.at ≡ old_line m v = grind (arith, nat_tests) in at_cut) rest)) (omega arith) refl
    go false e ih =
        let other : o ≡ m.at → ⊥ = grind (arith, nat_tests, e) in
        let some = k.some_parts in
        let above = a.0 in
        let passes : nat_le low (first_line m o) ≡ true = grind (arith, nat_tests) in
        let back : o ≡ old_line m (first_line m o) = grind (arith, nat_tests) in
        let rest : AllByRecursion (λ y. old_line m (first_line m o) ≤ y) g = subst (λ z. AllByRecursion (λ y. z ≤ y) g) back r.0 in
        turned (λ v. cond (nat_le low v) (rises_from (lines_over m) v g) 0) (first_line m o)
        ∙ ap (λ b. cond b (rises_from (lines_over m) (first_line m o) g) 0) passes
        ∙ ih (first_line m o) rest
        ∙ side (nat_lt m.at o) refl
      where
        side : (b : Bool) → nat_lt m.at o ≡ b → ways (count_of m.at g) (m.parts - (first_line m o - m.at)) ≡ ways (count_of m.at g) (m.parts - (low - m.at))
        side true t = let none = none_left m.at o g (grind (arith, nat_tests, t)) r.0 in rw none refl
        side false t =
            let above = a.0 in
            let some = k.some_parts in
            let fewer : m.parts - (first_line m o - m.at) ≡ m.parts - (low - m.at) = grind (arith, nat_tests, t, e) in
            ap (ways (count_of m.at g)) fewer

-- ---- both axes
all_lowest : (m : Cut) (g : List ℕ) → IsCut m → AllByRecursion (λ y. old_line m 0 ≤ y) g
all_lowest m [] k = tt
all_lowest m (y ∷ g) k = let some = k.some_parts in (let first : old_line m 0 ≤ y = grind (arith, nat_tests) in first, all_lowest m g k)

from_nothing : (follow : Mark → Mark → Bool) (g : List Mark) → ByHighest follow [] 0 g
from_nothing follow [] = tt
from_nothing follow (q ∷ g) = ((λ v. let low : nat_le 0 v ≡ true = grind (arith, nat_tests) in sym low), from_nothing follow g)

counted_rising : (follow : Mark → Mark → Bool) (m : Cut) (g : List Mark) → IsCut m → ByLines follow g → AreRising (map line_of g) → ways_from follow (lines_over m) [] g ≡ ways (count_of m.at (map line_of g)) m.parts
counted_rising follow m g k b r =
    let all : m.parts - (0 - m.at) ≡ m.parts = omega arith in
    ways_rise follow (lines_over m) [] 0 g b (from_nothing follow g) ∙ rising_ways m 0 (map line_of g) k (all_lowest m (map line_of g) k) r ∙ ap (ways (count_of m.at (map line_of g))) all

columns_by_lines : (g : List Mark) → ByLines columns_rise g
columns_by_lines [] = tt
columns_by_lines (p ∷ g) = (each g, columns_by_lines g)
  where
    each : (h : List Mark) → AllByRecursion (λ q. (u v : ℕ) → columns_rise (p.0, u) (q.0, v) ≡ nat_le u v) h
    each [] = tt
    each (q ∷ h) = ((λ u v. refl), each h)

pub columns_counted : (m : Cut) (g : List Mark) → IsCut m → AreRising (map line_of g) → ways_from columns_rise (lines_over m) [] g ≡ ways (count_of m.at (map line_of g)) m.parts
columns_counted m g k r = counted_rising columns_rise m g k (columns_by_lines g) r

rows_by_lines : (g : List Mark) → AreOrdered g → ByLines rows_agree g
rows_by_lines [] k = tt
rows_by_lines (p ∷ g) k = (each g k.0, rows_by_lines g k.1)
  where
    each : (h : List Mark) → AllByRecursion (λ q. IsBelow p q) h → AllByRecursion (λ q. (u v : ℕ) → rows_agree (p.0, u) (q.0, v) ≡ nat_le u v) h
    each [] b = tt
    each (q ∷ h) b = ((λ u v. let low = b.0.0 in grind (arith, nat_tests)), each h b.1)

rows_rise : (g : List Mark) → AreOrdered g → AreRising (map line_of g)
rows_rise [] k = tt
rows_rise (p ∷ g) k = (each g k.0, rows_rise g k.1)
  where
    each : (h : List Mark) → AllByRecursion (λ q. IsBelow p q) h → AllByRecursion (λ y. p.1 ≤ y) (map line_of h)
    each [] b = tt
    each (q ∷ h) b = (b.0.1, each h b.1)

pub rows_counted : (m : Cut) (g : List Mark) → IsCut m → AreApart g → ways_from rows_agree (lines_over m) [] g ≡ ways (count_of m.at (map line_of g)) m.parts
rows_counted m g k a =
    let o = ordered g a in
    sym (ways-by_letter rows_agree rows_agree-symmetric (lines_over m) g []) ∙ counted_rising rows_agree m (by_letter g) k (rows_by_lines (by_letter g) o) (rows_rise (by_letter g) o) ∙ ap (λ n. ways n m.parts) (count-by_letter m.at g)
