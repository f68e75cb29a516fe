-- Letters one by one.
use Rattle.std.proofs.Common.{◌≡◌, ◌+◌, ◌≤◌, ◌<◌, ℕ, suc, zero, Bool, true, false, List, [], ◌∷◌, ◌++◌, length, drop, get_or, arith, ap, refl, sym, ◌∙◌}
use Rattle.std.specs.Prelude.{◌&&◌, ◌==◌, nat_le, not, Option, Some, None, option_map, option_and_then}
use Rattle.std.specs.List.{list_any}
use Rattle.std.proofs.lemmas.List.{drop_more}
use Rattle.std.proofs.lemmas.Option.{none-some, same_Some}
use Rattle.patterns.specs.Words.{has_no_repeats}
use Rattle.std.proofs.lemmas.Bool.Decides.{nat_tests}
use Rattle.spec_lines.specs.Forms.{is_word}
use Rattle.spec_lines.specs.Items.{keep_if}
use Rattle.spec_lines.specs.Readings.{letters_at, digit_at, word_at}

-- the test at the first letter that is left
pub one_letter : (w : List ℕ) (i : ℕ) → i < length w → has_no_repeats (drop i w) ≡ not (list_any (λ y. get_or w i 0 == y) (drop (i + 1) w)) && has_no_repeats (drop (i + 1) w)
one_letter w i h = ap has_no_repeats (drop_more w i 0 h)

-- as many letters as bytes
pub as_long : (t : List ℕ) (w : List ℕ) → letters_at t ≡ Some w → length w ≡ length t
as_long [] w h = ap (λ (o : List ℕ). length o) (sym (same_Some [] w h))
as_long (b ∷ t) w h = split (letters_at t) (digit_at b) (λ xs e. as_long t xs e) h
  where
    split : (rest : Option (List ℕ)) (d : Option ℕ) → ((xs : List ℕ) → rest ≡ Some xs → length xs ≡ length t) → option_and_then (λ x. option_map (λ xs. x ∷ xs) rest) d ≡ Some w → length w ≡ suc (length t)
    split rest None more h = absurd (none-some w h)
    split None (Some x) more h = absurd (none-some w h)
    split (Some xs) (Some x) more h = ap (λ (o : List ℕ). length o) (sym (same_Some (x ∷ xs) w h)) ∙ ap suc (more xs refl)

too_long : (w : List ℕ) → nat_le (length w) 10 ≡ false → is_word w ≡ false
too_long [] h = refl
too_long (x ∷ w) h = rw h refl

-- more than ten bytes spell no word
pub long_word : (t : List ℕ) → 10 < length t → word_at t ≡ None
long_word t long = split (letters_at t) refl
  where
    split : (o : Option (List ℕ)) → letters_at t ≡ o → option_and_then (λ w. keep_if (is_word w) w) o ≡ None
    split None e = refl
    split (Some w) e =
        let same = as_long t w e in
        let past : nat_le (length w) 10 ≡ false = grind (arith, nat_tests, same, long) in
        rw (too_long w past) refl
