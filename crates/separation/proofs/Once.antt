-- Lists with each item where it stands first.
use Rattle.std.proofs.Common.{◌≡◌, Bool, true, false, cond, List, [], ◌∷◌, ◌++◌, refl, sym, ap, ◌∙◌, subst, ⊎_elim}
use Rattle.std.specs.Prelude.{◌&&◌, ◌||◌, not, filter, Decides}
use Rattle.std.specs.List.{list_any}
use Rattle.std.proofs.lemmas.List.Elements.{filter-append}
use Rattle.lists.specs.Members.{IsIn}
use Rattle.lists.specs.Members.IsIn.{here, later}
use Rattle.lists.proofs.Members.{IsIn-filter, from_IsIn-filter, first_or_later}
use Rattle.lists.proofs.Tests.{same_test, some_passes, which_passes}
use Rattle.rule_kinds.specs.Choices.{each_once}

module _ {X : Type 0} (same : X → X → Bool) where
  -- one item more at the end stays where it is new
  pub once_more : (xs : List X) (y : X) → each_once same (xs ++ y ∷ []) ≡ each_once same xs ++ cond (list_any (λ x. same x y) xs) [] (y ∷ [])
  once_more [] y = refl
  once_more (x ∷ xs) y =
      ap (λ zs. x ∷ filter (λ z. not (same x z)) zs) (once_more xs y)
      ∙ ap (λ zs. x ∷ zs) (filter-append (λ z. not (same x z)) (each_once same xs) (cond (list_any (λ z. same z y) xs) [] (y ∷ [])))
      ∙ ap (λ zs. x ∷ (filter (λ z. not (same x z)) (each_once same xs) ++ zs)) (go (same x y) refl (list_any (λ z. same z y) xs))
    where
      go : (b : Bool) → same x y ≡ b → (c : Bool) → filter (λ z. not (same x z)) (cond c [] (y ∷ [])) ≡ cond (b || c) [] (y ∷ [])
      go true e true = refl
      go false e true = refl
      go true e false = rw e refl
      go false e false = rw e refl

  -- what is left was there
  pub from_once : (xs : List X) (x : X) → IsIn x (each_once same xs) → IsIn x xs
  from_once [] x m = m
  from_once (y ∷ xs) x m =
      ⊎_elim {C = IsIn x (y ∷ xs)} (λ e. rw e here) (λ k. later y (from_once xs x (from_IsIn-filter (λ z. not (same y z)) (each_once same xs) k).0)) (first_or_later m)

module _ {X : Type 0} (same : X → X → Bool) (decides : (x y : X) → Decides (same x y) (x ≡ y)) where
  -- what was there is left
  pub to_once : {x : X} {xs : List X} → IsIn x xs → IsIn x (each_once same xs)
  to_once here = here
  to_once {x = x} (later {xs = xs} y m) = go (same y x) refl (to_once m)
    where
      go : (b : Bool) → same y x ≡ b → IsIn x (each_once same xs) → IsIn x (y ∷ filter (λ z. not (same y z)) (each_once same xs))
      go true e k = subst (λ z. IsIn z (y ∷ filter (λ w. not (same y w)) (each_once same xs))) ((decides y x).0 e) here
      go false e k = later y (IsIn-filter (λ z. not (same y z)) k (ap not e))

  -- whether an item that passes is among those that are left and pass
  pub among_once : (test : X → Bool) (xs : List X) (y : X) → test y ≡ true → list_any (λ x. same x y) (filter test (each_once same xs)) ≡ list_any (λ x. same x y) xs
  among_once test xs y e = same_test (list_any (λ x. same x y) (filter test (each_once same xs))) (list_any (λ x. same x y) xs)
      (λ h. let w = which_passes (λ x. same x y) (filter test (each_once same xs)) h in
      some_passes (λ x. same x y) (from_once same xs w.0 (from_IsIn-filter test (each_once same xs) w.1).0) w.2)
      (λ h. let w = which_passes (λ x. same x y) xs h in
      let there : IsIn y (each_once same xs) = subst (λ z. IsIn z (each_once same xs)) ((decides w.0 y).0 w.2) (to_once w.1) in
      some_passes (λ x. same x y) (IsIn-filter test there e) ((decides y y).1 refl))

  -- one more item, of those that pass
  pub passing_more : (test : X → Bool) (xs : List X) (y : X) → filter test (each_once same (xs ++ y ∷ [])) ≡ filter test (each_once same xs) ++ cond (test y && not (list_any (λ x. same x y) (filter test (each_once same xs)))) (y ∷ []) []
  passing_more test xs y =
      ap (filter test) (once_more same xs y) ∙ filter-append test (each_once same xs) (cond (list_any (λ x. same x y) xs) [] (y ∷ []))
      ∙ ap (λ zs. filter test (each_once same xs) ++ zs) (go (test y) refl)
    where
      by : (c : Bool) → test y ≡ true → filter test (cond c [] (y ∷ [])) ≡ cond (not c) (y ∷ []) []
      by true e = refl
      by false e = rw e refl

      none : (c : Bool) → test y ≡ false → filter test (cond c [] (y ∷ [])) ≡ []
      none true e = refl
      none false e = rw e refl

      go : (b : Bool) → test y ≡ b → filter test (cond (list_any (λ x. same x y) xs) [] (y ∷ [])) ≡ cond (b && not (list_any (λ x. same x y) (filter test (each_once same xs)))) (y ∷ []) []
      go true e = by (list_any (λ x. same x y) xs) e ∙ ap (λ c. cond (not c) (y ∷ []) []) (sym (among_once test xs y e))
      go false e = none (list_any (λ x. same x y) xs) e
