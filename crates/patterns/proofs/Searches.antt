-- The search finds a pattern exactly where it occurs.
use Rattle.std.proofs.Common.{◌≡◌, ℕ, suc, Bool, true, false, List, [], ◌∷◌, ◌++◌, length, refl, sym, ap, ◌∙◌, arith, length-append}
use Rattle.std.specs.Prelude.{◌&&◌, map, nat_lt}
use Rattle.std.specs.Bool.{beq}
use Rattle.std.specs.List.{list_any}
use Rattle.std.proofs.lemmas.List.Folds.{list_any-append}
use Rattle.std.proofs.Math.Bool.{and_assoc, and-true, and-false, and_comm}
use Rattle.patterns.specs.Occurs.{stands_as, stand_alike, is_match, occurs}
use Rattle.patterns.specs.Search.{is_found}
use Rattle.lists.proofs.Tests.{list_any-and, list_any-map, list_any-agree}
use Rattle.lists.specs.Parts.{parts}

pub stand_alike-comm : (x a y b : ℕ) → stand_alike x a y b ≡ stand_alike y b x a
stand_alike-comm x a y b = and_comm (beq (nat_lt x y) (nat_lt a b)) (beq (nat_lt y x) (nat_lt b a))

module _ {X : Type 0} (letter : X → ℕ) (same : X → X → Bool) where
  pub stands_as-push : (x a : X) (xs as' : List X) (y b : X) → length xs ≡ length as' → stands_as letter same x a (xs ++ y ∷ []) (as' ++ b ∷ []) ≡ (stands_as letter same x a xs as' && stand_alike (letter x) (letter a) (letter y) (letter b))
  stands_as-push x a [] [] y b e = and-true (stand_alike (letter x) (letter a) (letter y) (letter b))
  stands_as-push x a (z ∷ xs) [] y b e = absurd (omega arith)
  stands_as-push x a [] (c ∷ as') y b e = absurd (omega arith)
  stands_as-push x a (z ∷ xs) (c ∷ as') y b e =
      rw (stands_as-push x a xs as' y b (omega arith)) (sym (and_assoc (stand_alike (letter x) (letter a) (letter z) (letter c)) (stands_as letter same x a xs as') (stand_alike (letter x) (letter a) (letter y) (letter b))))

  -- whether each later point stands to the earlier ones as its partner does
  abbrev all_stand : List X → List X → List X → List X → Bool
  all_stand xs ys [] [] = true
  all_stand xs ys (z ∷ s) (y ∷ p) = stands_as letter same z y xs ys && all_stand xs ys s p
  all_stand xs ys _ _ = false

  all_stand-push : (xs ys : List X) (x y : X) (s p : List X) → length xs ≡ length ys → all_stand (xs ++ x ∷ []) (ys ++ y ∷ []) s p ≡ (all_stand xs ys s p && stands_as letter same x y s p)
  all_stand-push xs ys x y [] [] e = refl
  all_stand-push xs ys x y (z ∷ s) [] e = refl
  all_stand-push xs ys x y [] (a ∷ p) e = refl
  all_stand-push xs ys x y (z ∷ s) (a ∷ p) e =
      rw (stands_as-push z a xs ys x y e, all_stand-push xs ys x y s p e, stand_alike-comm (letter z) (letter a) (letter x) (letter y))
      (shuffled (stands_as letter same z a xs ys) (stand_alike (letter x) (letter y) (letter z) (letter a)) (all_stand xs ys s p) (stands_as letter same x y s p))
    where
      shuffled : (p q r t : Bool) → (p && q && (r && t)) ≡ (p && r && (q && t))
      shuffled true true true t = refl
      shuffled true false true t = refl
      shuffled true true false t = refl
      shuffled true false false t = refl
      shuffled false q r t = refl

  found_is : (xs ys w p : List X) → length xs ≡ length ys → is_found letter same xs ys w p ≡ list_any (λ s. all_stand xs ys s p && is_match letter same s p) (parts (length p) w)
  found_is xs ys w [] e = refl
  found_is xs ys [] (y ∷ p) e = refl
  found_is xs ys (x ∷ w) (y ∷ p) e =
      let longer : length (xs ++ x ∷ []) ≡ length (ys ++ y ∷ []) = omega (arith, length-append xs (x ∷ []), length-append ys (y ∷ [])) in
      let F : List X → Bool = λ s. all_stand xs ys s (y ∷ p) && is_match letter same s (y ∷ p) in
      let b : Bool = same x y && stands_as letter same x y xs ys in
      let G : List X → Bool = λ s. all_stand (xs ++ x ∷ []) (ys ++ y ∷ []) s p && is_match letter same s p in
      let first : list_any F (map (λ s. x ∷ s) (parts (length p) w)) ≡ (b && is_found letter same (xs ++ x ∷ []) (ys ++ y ∷ []) w p) =
      list_any-map F (λ s. x ∷ s) (parts (length p) w)
      ∙ list_any-agree (λ s. F (x ∷ s)) (λ s. b && G s) (parts (length p) w) (λ s _. sym (ap (λ t. b && (t && is_match letter same s p)) (all_stand-push xs ys x y s p e)
      ∙ shuffled (same x y) (stands_as letter same x y xs ys) (all_stand xs ys s p) (stands_as letter same x y s p) (is_match letter same s p)))
      ∙ list_any-and b G (parts (length p) w)
      ∙ ap (λ t. b && t) (sym (found_is (xs ++ x ∷ []) (ys ++ y ∷ []) w p longer)) in
      sym (list_any-append F (map (λ s. x ∷ s) (parts (length p) w)) (parts (suc (length p)) w) ∙ rw (first, ← found_is xs ys w (y ∷ p) e))
    where
      shuffled : (i j k l m : Bool) → (i && j && (k && l && m)) ≡ (j && k && (i && (l && m)))
      shuffled true true true l m = refl
      shuffled true true false l m = refl
      shuffled true false k l m = refl
      shuffled false true true l m = refl
      shuffled false true false l m = refl
      shuffled false false k l m = refl

  all_stand-none : (s p : List X) → length s ≡ length p → all_stand [] [] s p ≡ true
  all_stand-none [] [] e = refl
  all_stand-none (z ∷ s) [] e = absurd (omega arith)
  all_stand-none [] (y ∷ p) e = absurd (omega arith)
  all_stand-none (z ∷ s) (y ∷ p) e = all_stand-none s p (omega arith)

  match_alone : (s p : List X) → (all_stand [] [] s p && is_match letter same s p) ≡ is_match letter same s p
  match_alone [] [] = refl
  match_alone (x ∷ s) [] = refl
  match_alone [] (y ∷ p) = refl
  match_alone (x ∷ s) (y ∷ p) = cased (all_stand [] [] s p) (same x y) (stands_as letter same x y s p) (is_match letter same s p) (match_alone s p)
    where
      cased : (k i l m : Bool) → (k && m) ≡ m → (k && (i && (l && m))) ≡ (i && (l && m))
      cased true i l m e = refl
      cased false i l true e = absurd cc
      cased false i l false e = sym (ap (λ t. i && t) (and-false l) ∙ and-false i)

  -- the search decides whether the pattern occurs
  pub found_from_start : (w p : List X) → is_found letter same [] [] w p ≡ occurs letter same w p
  unfolding occurs
  found_from_start w p = found_is [] [] w p refl ∙ list_any-agree _ _ (parts (length p) w) (λ s _. match_alone s p)
