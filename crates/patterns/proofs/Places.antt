-- Matching point by point, over the places of slices.
use Rattle.std.proofs.Common.{◌≡◌, ℕ, zero, suc, ◌+◌, ◌<◌, ◌≤◌, Bool, true, false, List, [], ◌∷◌, length, get_or, take, refl, sym, ◌∙◌, arith}
use Rattle.std.specs.Prelude.{◌&&◌}
use Rattle.std.proofs.lemmas.List.{take_more, length-take-le, get_or-take}
use Rattle.patterns.specs.Occurs.{stand_alike}
use Rattle.patterns.specs.Search.{letters_fit}
use Rattle.patterns.proofs.Searches.{stands_as-push}

-- one place at which two lists differ
letters_fit-fails : (x a : ℕ) (xs as' : List ℕ) (i : ℕ) → i < length xs → i < length as' → stand_alike x a (get_or xs i 0) (get_or as' i 0) ≡ false → letters_fit x a xs as' ≡ false
letters_fit-fails x a [] as' i h k e = absurd (omega arith)
letters_fit-fails x a (y ∷ xs) [] i h k e = absurd (omega arith)
letters_fit-fails x a (y ∷ xs) (b ∷ as') zero h k e = rw e
letters_fit-fails x a (y ∷ xs) (b ∷ as') (suc i) h k e = rw (letters_fit-fails x a xs as' i (omega arith) (omega arith) e) (and_none (stand_alike x a y b))
  where
    and_none : (p : Bool) → (p && false) ≡ false
    and_none true = refl
    and_none false = refl

pub letters_fit-more : (x a : ℕ) (xs as' : List ℕ) (i : ℕ) → i < length xs → i < length as' → letters_fit x a (take (i + 1) xs) (take (i + 1) as') ≡ (letters_fit x a (take i xs) (take i as') && stand_alike x a (get_or xs i 0) (get_or as' i 0))
letters_fit-more x a xs as' i h k =
    rw (take_more xs i 0 h, take_more as' i 0 k) (stands_as-push (λ l. l) (λ _ _. true) x a (take i xs) (take i as') (get_or xs i 0) (get_or as' i 0) (length-take-le i xs (omega arith) ∙ sym (length-take-le i as' (omega arith))))

pub letters_fit-take_fails : (x a : ℕ) (xs as' : List ℕ) (n i : ℕ) → i < n → n ≤ length xs → n ≤ length as' → stand_alike x a (get_or xs i 0) (get_or as' i 0) ≡ false → letters_fit x a (take n xs) (take n as') ≡ false
letters_fit-take_fails x a xs as' n i h k l e =
    letters_fit-fails x a (take n xs) (take n as') i (rw (length-take-le n xs k) h) (rw (length-take-le n as' l) h) (rw (get_or-take n xs i 0 h, get_or-take n as' i 0 h) e)

pub ruleset fitting = (letters_fit-more, letters_fit-take_fails)
