-- The test of containment decides containment.
use Rattle.std.proofs.Common.{◌≡◌, ℕ, zero, suc, ◌<◌, Bool, true, false, List, [], ◌∷◌, length, refl, ap, subst, arith, get_or}
use Rattle.std.specs.Prelude.{◌↔◌, ◌&&◌, ◌||◌, nat_lt, map, Decides}
use Rattle.std.specs.Bool.{beq}
use Rattle.std.specs.List.{list_any, AllZip}
use Rattle.std.proofs.lemmas.Bool.Decides.{nat_tests}
use Rattle.std.proofs.lemmas.List.{length-map}
use Rattle.std.proofs.lemmas.Bool.{and_parts, and_from}
use Rattle.lists.specs.Members.IsIn.{here, later}
use Rattle.lists.proofs.Parts.{IsIn-parts, from_IsIn-parts}
use Rattle.lists.specs.Members.{IsIn}
use Rattle.lists.specs.Parts.{parts}
use Rattle.patterns.specs.Occurs.{IsSameOrder, Occurs, stand_alike, stands_as, is_match, occurs}

-- ---- tests
-- x stands to y as a does to b
abbrev Alike : ℕ → ℕ → ℕ → ℕ → Type 0
Alike x a y b = ((x < y) ↔ (a < b)) × ((y < x) ↔ (b < a))

beq_true : (p q : Bool) → beq p q ≡ true → p ≡ q
beq_true true true e = refl
beq_true false false e = refl
beq_true true false e = cc
beq_true false true e = cc

pub alike_tells : (x a y b : ℕ) → stand_alike x a y b ≡ true → Alike x a y b
alike_tells x a y b e =
    let k = and_parts (beq (nat_lt x y) (nat_lt a b)) (beq (nat_lt y x) (nat_lt b a)) e in
    let l : nat_lt x y ≡ nat_lt a b = beq_true (nat_lt x y) (nat_lt a b) k.0 in
    let r : nat_lt y x ≡ nat_lt b a = beq_true (nat_lt y x) (nat_lt b a) k.1 in
    (((λ h. grind (arith, nat_tests)), (λ h. grind (arith, nat_tests))), ((λ h. grind (arith, nat_tests)), (λ h. grind (arith, nat_tests))))

pub alike_from : (x a y b : ℕ) → Alike x a y b → stand_alike x a y b ≡ true
alike_from x a y b h = grind (arith, nat_tests)

turned : (x a y b : ℕ) → Alike x a y b → Alike y b x a
turned x a y b h = (h.1, h.0)

itself : (x a : ℕ) → Alike x a x a
itself x a = (((λ h. omega arith), (λ h. omega arith)), ((λ h. omega arith), (λ h. omega arith)))

module _ {X : Type 0} (letter : X → ℕ) (same : X → X → Bool) where
  abbrev StandsAs : X → X → List X → List X → Type 0
  StandsAs x a ys bs =
      (length ys ≡ length bs) × ((j : ℕ) → j < length bs → Alike (letter x) (letter a) (get_or (map letter ys) j 0) (get_or (map letter bs) j 0))

  stands_as_tells : (x a : X) (ys bs : List X) → stands_as letter same x a ys bs ≡ true → StandsAs x a ys bs
  stands_as_tells x a [] [] e = (refl, λ j h. absurd (omega arith))
  stands_as_tells x a (y ∷ ys) [] e = absurd cc
  stands_as_tells x a [] (b ∷ bs) e = absurd cc
  stands_as_tells x a (y ∷ ys) (b ∷ bs) e =
      let k = and_parts (stand_alike (letter x) (letter a) (letter y) (letter b)) (stands_as letter same x a ys bs) e in
      let ih = stands_as_tells x a ys bs k.1 in
      (ap suc ih.0, at (alike_tells (letter x) (letter a) (letter y) (letter b) k.0) ih.1)
    where
      at : Alike (letter x) (letter a) (letter y) (letter b) → ((j : ℕ) → j < length bs → Alike (letter x) (letter a) (get_or (map letter ys) j 0) (get_or (map letter bs) j 0)) → (j : ℕ) → j < length (b ∷ bs) → Alike (letter x) (letter a) (get_or (map letter (y ∷ ys)) j 0) (get_or (map letter (b ∷ bs)) j 0)
      at h ih zero l = h
      at h ih (suc j) l = ih j (omega arith)

  stands_as_from : (x a : X) (ys bs : List X) → StandsAs x a ys bs → stands_as letter same x a ys bs ≡ true
  stands_as_from x a [] [] h = refl
  stands_as_from x a (y ∷ ys) [] h = let e : suc (length ys) ≡ 0 = h.0 in absurd (omega arith)
  stands_as_from x a [] (b ∷ bs) h = let e : 0 ≡ suc (length bs) = h.0 in absurd (omega arith)
  stands_as_from x a (y ∷ ys) (b ∷ bs) h =
      let e : suc (length ys) ≡ suc (length bs) = h.0 in
      and_from _ _ (alike_from (letter x) (letter a) (letter y) (letter b) (h.1 zero (omega arith))) (stands_as_from x a ys bs (omega arith, λ j l. h.1 (suc j) (omega arith)))

  -- what a match is
  pub record Matches (xs as' : List X) : Type 0 where
    pub order : IsSameOrder (map letter xs) (map letter as')
    pub fit : AllZip (λ x a. same x a ≡ true) xs as'

  pub match_tells : (xs as' : List X) → is_match letter same xs as' ≡ true → Matches xs as'
  match_tells [] [] e = record { order = record { as_many = refl; alike = λ i j h. absurd (omega arith) }; fit = tt }
  match_tells (x ∷ xs) [] e = absurd cc
  match_tells [] (a ∷ as') e = absurd cc
  match_tells (x ∷ xs) (a ∷ as') e =
      let k = and_parts (same x a) (stands_as letter same x a xs as' && is_match letter same xs as') e in
      let l = and_parts (stands_as letter same x a xs as') (is_match letter same xs as') k.1 in
      let ih = match_tells xs as' l.1 in
      record { order = record { as_many = ap suc ih.order.as_many; alike = at (stands_as_tells x a xs as' l.0).1 ih.order.alike }; fit = (k.0, ih.fit) }
    where
      at : ((j : ℕ) → j < length as' → Alike (letter x) (letter a) (get_or (map letter xs) j 0) (get_or (map letter as') j 0)) → ((i j : ℕ) → i < length (map letter as') → j < length (map letter as') → (get_or (map letter xs) i 0 < get_or (map letter xs) j 0) ↔ (get_or (map letter as') i 0 < get_or (map letter as') j 0))
          → (i j : ℕ) → i < length (map letter (a ∷ as')) → j < length (map letter (a ∷ as')) → (get_or (map letter (x ∷ xs)) i 0 < get_or (map letter (x ∷ xs)) j 0) ↔ (get_or (map letter (a ∷ as')) i 0 < get_or (map letter (a ∷ as')) j 0)
      at h ih zero zero l m = (itself (letter x) (letter a)).0
      at h ih zero (suc j) l m = (h j (rw (← length-map as' letter) (omega arith))).0
      at h ih (suc i) zero l m = (h i (rw (← length-map as' letter) (omega arith))).1
      at h ih (suc i) (suc j) l m = ih i j (omega arith) (omega arith)

  pub match_from : (xs as' : List X) → Matches xs as' → is_match letter same xs as' ≡ true
  match_from [] [] h = refl
  match_from (x ∷ xs) [] h = absurd h.fit
  match_from [] (a ∷ as') h = absurd h.fit
  match_from (x ∷ xs) (a ∷ as') h =
      let o = h.order.as_many in
      let lengths : length xs ≡ length as' = omega (arith, o, length-map xs letter, length-map as' letter) in
      let few = length-map as' letter in
      and_from _ _ h.fit.0 (and_from _ _
      (stands_as_from x a xs as' (lengths, λ j l. (h.order.alike zero (suc j) (omega arith) (omega arith), h.order.alike (suc j) zero (omega arith) (omega arith))))
      (match_from xs as' (record { order = record { as_many = omega arith; alike = λ i j l m. h.order.alike (suc i) (suc j) (omega arith) (omega arith) }; fit = h.fit.1 })))

  any_tells : (test : List X → Bool) (xss : List (List X)) → list_any test xss ≡ true → (xs : List X) × IsIn xs xss × (test xs ≡ true)
  any_tells test [] e = absurd cc
  any_tells test (xs ∷ xss) e = go (test xs) refl (any_tells test xss) e
    where
      go : (b : Bool) → test xs ≡ b → (list_any test xss ≡ true → (ys : List X) × IsIn ys xss × (test ys ≡ true)) → (b || list_any test xss) ≡ true → (ys : List X) × IsIn ys (xs ∷ xss) × (test ys ≡ true)
      go true f ih g = (xs, here, f)
      go false f ih g = let k = ih g in (k.0, later xs k.1, k.2)

  any_from : (test : List X → Bool) {xs : List X} {xss : List (List X)} → IsIn xs xss → test xs ≡ true → list_any test xss ≡ true
  any_from test here e = rw e
  any_from test (later {xs = xss} ys h) e = go (test ys) (any_from test h e)
    where
      go : (b : Bool) → list_any test xss ≡ true → (b || list_any test xss) ≡ true
      go true f = refl
      go false f = f

  -- the test decides containment
  pub occurs_decides : (w p : List X) → Decides (occurs letter same w p) (Occurs letter same w p)
  unfolding occurs
  occurs_decides w p = (
    (λ e. let k = any_tells (λ points. is_match letter same points p) (parts (length p) w) e in
        let m = match_tells k.0 p k.2 in
        record { points = k.0; chosen = (from_IsIn-parts (length p) w k.1).0; order = m.order; fit = m.fit }),
    (λ h. let lengths : length h.points ≡ length p = omega (arith, h.order.as_many, length-map h.points letter, length-map p letter) in
        any_from (λ points. is_match letter same points p) (subst (λ n. IsIn h.points (parts n w)) lengths (IsIn-parts h.chosen)) (match_from h.points p (record { order = h.order; fit = h.fit }))),
  )
