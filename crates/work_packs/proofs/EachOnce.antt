-- Each item of a list once, where it stands first.
use Rattle.std.proofs.Common.{◌≡◌, Bool, true, false, cond, List, [], ◌∷◌, ◌++◌, append_assoc, append-nil, refl, sym, ap, ◌∙◌, subst}
use Rattle.std.specs.Prelude.{◌&&◌, ◌||◌, not, map}
use Rattle.std.specs.List.{filter, list_any}
use Rattle.std.proofs.lemmas.List.{map-append}
use Rattle.lists.specs.Added.{with_new, with_all_new}
use Rattle.lists.proofs.Tests.{same_test, list_any-map}
use Rattle.lists.proofs.Filters.{filter-filter, filter-agree, filter_all, filter_swap}
use Rattle.rule_kinds.specs.Choices.{each_once}

module _ {X : Type 0} (same : X → X → Bool) (exact : (x y : X) → same x y ≡ true → x ≡ y) where
  turned : (x y : X) → same x y ≡ same y x
  turned x y = same_test (same x y) (same y x) (back x y) (back y x)
    where
      back : (a b : X) → same a b ≡ true → same b a ≡ true
      back a b h = let e = exact a b h in subst (λ c. same c a ≡ true) e (subst (λ c. same a c ≡ true) (sym e) h)

  abbrev is_new : List X → X → Bool
  is_new there y = not (list_any (same y) there)

  any_at_end : (y x : X) (there : List X) → list_any (same y) (there ++ x ∷ []) ≡ (same y x || list_any (same y) there)
  any_at_end y x [] = refl
  any_at_end y x (z ∷ there) = ap (λ b. same y z || b) (any_at_end y x there) ∙ swap (same y z) (same y x) (list_any (same y) there)
    where
      swap : (a b c : Bool) → (a || (b || c)) ≡ (b || (a || c))
      swap true true c = refl
      swap true false c = refl
      swap false b c = refl

  -- what is new is added at the end, each once
  added_once : (there xs : List X) → with_all_new same there xs ≡ there ++ filter (is_new there) (each_once same xs)
  added_once there [] = sym (append-nil there)
  added_once there (x ∷ xs) = go (list_any (same x) there) refl (added_once there xs) (added_once (there ++ x ∷ []) xs)
    where
      rest : List X
      rest = each_once same xs

      old : list_any (same x) there ≡ true → filter (is_new there) rest ≡ filter (is_new there) (filter (λ y. not (same x y)) rest)
      old e = filter-agree (is_new there) (λ y. not (same x y) && is_new there y) rest (λ y m. each (same x y) refl) ∙ sym (filter-filter (is_new there) (λ y. not (same x y)) rest)
        where
          each : {y : X} (b : Bool) → same x y ≡ b → is_new there y ≡ (not b && is_new there y)
          each {y} true h = ap not (subst (λ z. list_any (same z) there ≡ true) (exact x y h) e)
          each {y} false h = refl

      new : filter (is_new (there ++ x ∷ [])) rest ≡ filter (is_new there) (filter (λ y. not (same x y)) rest)
      new = filter-agree (is_new (there ++ x ∷ [])) (λ y. not (same x y) && is_new there y) rest (λ y m. ap not (any_at_end y x there ∙ ap (λ b. b || list_any (same y) there) (turned y x)) ∙ apart (same x y) (list_any (same y) there)) ∙ sym (filter-filter (is_new there) (λ y. not (same x y)) rest)
        where
          apart : (a b : Bool) → not (a || b) ≡ (not a && not b)
          apart true b = refl
          apart false b = refl

      go : (b : Bool) → list_any (same x) there ≡ b → with_all_new same there xs ≡ there ++ filter (is_new there) rest
          → with_all_new same (there ++ x ∷ []) xs ≡ (there ++ x ∷ []) ++ filter (is_new (there ++ x ∷ [])) rest
          → with_all_new same (cond b there (there ++ x ∷ [])) xs ≡ there ++ cond (not b) (x ∷ filter (is_new there) (filter (λ y. not (same x y)) rest)) (filter (is_new there) (filter (λ y. not (same x y)) rest))
      go true e h k = h ∙ ap (λ l. there ++ l) (old e)
      go false e h k = k ∙ append_assoc there (x ∷ []) (filter (is_new (there ++ x ∷ [])) rest) ∙ ap (λ l. there ++ x ∷ l) new

  pub all_once : (xs : List X) → with_all_new same [] xs ≡ each_once same xs
  all_once xs = added_once [] xs ∙ filter_all (is_new []) (each_once same xs) (λ x m. refl)

  -- a filter may go first
  pub filter_once : (p : X → Bool) (xs : List X) → filter p (each_once same xs) ≡ each_once same (filter p xs)
  filter_once p [] = refl
  filter_once p (x ∷ xs) = go (p x) refl (filter_once p xs)
    where
      rest : List X
      rest = each_once same xs

      none_goes : p x ≡ false → filter p (filter (λ y. not (same x y)) rest) ≡ filter p rest
      none_goes e = filter-filter p (λ y. not (same x y)) rest ∙ filter-agree (λ y. not (same x y) && p y) p rest (λ y m. each (same x y) refl)
        where
          each : {y : X} (b : Bool) → same x y ≡ b → (not b && p y) ≡ p y
          each {y} true h = sym (subst (λ z. p z ≡ false) (exact x y h) e)
          each {y} false h = refl

      go : (b : Bool) → p x ≡ b → filter p rest ≡ each_once same (filter p xs)
          → cond b (x ∷ filter p (filter (λ y. not (same x y)) rest)) (filter p (filter (λ y. not (same x y)) rest)) ≡ each_once same (cond b (x ∷ filter p xs) (filter p xs))
      go true e ih = ap (λ l. x ∷ l) (filter_swap p (λ y. not (same x y)) rest ∙ ap (filter (λ y. not (same x y))) ih)
      go false e ih = none_goes e ∙ ih

-- images are added as their items are
pub added-map : {X Y : Type 0} (same : X → X → Bool) (alike : Y → Y → Bool) (f : X → Y) → ((x z : X) → alike (f x) (f z) ≡ same x z) → (there xs : List X) → with_all_new alike (map f there) (map f xs) ≡ map f (with_all_new same there xs)
added-map same alike f agree there [] = refl
added-map {X} {Y} same alike f agree there (x ∷ xs) =
    ap (λ l. with_all_new alike l (map f xs)) (grown (list_any (alike (f x)) (map f there)) (list_any (same x) there) test) ∙ added-map same alike f agree (with_new same there x) xs
  where
    same_any : (zs : List X) → list_any (λ z. alike (f x) (f z)) zs ≡ list_any (same x) zs
    same_any [] = refl
    same_any (z ∷ zs) = rw (agree x z, same_any zs) refl

    test : list_any (alike (f x)) (map f there) ≡ list_any (same x) there
    test = list_any-map (alike (f x)) f there ∙ same_any there

    grown : (a b : Bool) → a ≡ b → cond a (map f there) (map f there ++ f x ∷ []) ≡ map f (cond b there (there ++ x ∷ []))
    grown true true e = refl
    grown true false e = absurd cc
    grown false true e = absurd cc
    grown false false e = sym (map-append f there (x ∷ []))
