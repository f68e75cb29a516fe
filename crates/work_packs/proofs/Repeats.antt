-- No byte stands twice: place by place.
use Rattle.std.proofs.Common.{◌≡◌, ◌<◌, ◌≤◌, ◌+◌, ◌-◌, ℕ, suc, Bool, true, false, List, ◌∷◌, length, get_or, take, drop, drop-cons, sym, ap, ◌∙◌, arith, length-drop}
use Rattle.std.specs.Prelude.{◌&&◌, not}
use Rattle.std.proofs.lemmas.List.{take_all, drop_all}
use Rattle.patterns.specs.Words.{has_no_repeats}
use Rattle.work_packs.specs.PackTexts.{has_letter}

rest_of : (xs : List ℕ) (i : ℕ) → take (length xs - (i + 1)) (drop (i + 1) xs) ≡ drop (i + 1) xs
rest_of xs i = take_all (length xs - (i + 1)) (drop (i + 1) xs) (let k = length-drop (i + 1) xs in omega arith)

one_place : (xs : List ℕ) (i : ℕ) (b : Bool) → i < length xs → b ≡ has_letter (get_or xs i 0) (take (length xs - (i + 1)) (drop (i + 1) xs)) → has_no_repeats (drop i xs) ≡ (not b && has_no_repeats (drop (i + 1) xs))
one_place xs i b l e =
    let up : suc i ≡ i + 1 = omega arith in
    ap has_no_repeats (drop-cons xs i 0 l ∙ ap (λ j. get_or xs i 0 ∷ drop j xs) up)
    ∙ ap (λ h. not h && has_no_repeats (drop (i + 1) xs)) (sym (e ∙ ap (has_letter (get_or xs i 0)) (rest_of xs i)))

pub no_repeat_here : (xs : List ℕ) (i : ℕ) (b : Bool) → i < length xs → b ≡ has_letter (get_or xs i 0) (take (length xs - (i + 1)) (drop (i + 1) xs)) → b ≡ false → has_no_repeats (drop i xs) ≡ has_no_repeats xs → has_no_repeats (drop (i + 1) xs) ≡ has_no_repeats xs
no_repeat_here xs i b l e f h = sym (one_place xs i b l e ∙ ap (λ (a : Bool). not a && has_no_repeats (drop (i + 1) xs)) f) ∙ h

pub repeat_here : (xs : List ℕ) (i : ℕ) (b : Bool) → i < length xs → b ≡ has_letter (get_or xs i 0) (take (length xs - (i + 1)) (drop (i + 1) xs)) → b ≡ true → has_no_repeats (drop i xs) ≡ has_no_repeats xs → false ≡ has_no_repeats xs
repeat_here xs i b l e f h = sym (one_place xs i b l e ∙ ap (λ (a : Bool). not a && has_no_repeats (drop (i + 1) xs)) f) ∙ h

pub none_left : (xs : List ℕ) (i : ℕ) → length xs ≤ i → has_no_repeats (drop i xs) ≡ has_no_repeats xs → true ≡ has_no_repeats xs
none_left xs i l h = ap has_no_repeats (sym (drop_all i xs l)) ∙ h
