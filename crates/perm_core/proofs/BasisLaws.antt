-- A text is a basis exactly where nothing is wrong with it.
use Rattle.std.proofs.Common.{◌≡◌, ℕ, ◌+◌, ◌≤◌, Bool, true, false, List, [], ◌∷◌, ◌++◌, length, refl, sym, ◌∙◌, length-append, arith}
use Rattle.std.specs.Prelude.{◌&&◌, ◌==◌, ◌≢◌, not, nat_le}
use Rattle.std.specs.Char.{is_ascii_digit}
use Rattle.std.specs.List.{list_all, list_any, AllByRecursion}
use Rattle.std.proofs.lemmas.Bool.Decides.{nat_tests}
use Rattle.std.proofs.lemmas.List.Folds.{list_all-append}
use Rattle.std.proofs.lemmas.List.Elements.{All-from_recursion, recursion_from_All}
use Rattle.std.proofs.lemmas.Bool.{and_parts, and_from, or_parts, not-true, not_from_false}
use Rattle.std.proofs.Math.Bool.{and-true}
use Rattle.patterns.specs.Words.{has_no_repeats}
use Rattle.perm_core.specs.Basis.{words_of, IsBasisWord, IsBasisText, NoneIsWrong, is_no_digit, is_repeated, is_past_nine, has_empty_word}
use Rattle.perm_core.specs.Faults.{IsRefusedAsBasis, IsNoBasis}
use Rattle.perm_core.specs.declared.basis.BasisFault.{BasisFault}
use Rattle.perm_core.specs.declared.basis.BasisFault.TheVariants.{Empty, BadByte, Repeated, TooLong, TooMany, Memory}
use Rattle.perm_core.proofs.Repeats.{has_no_repeats-push}
use Rattle.perm_core.proofs.BasisTexts.{each_word_has, none_is_wrong}

-- ---- each rule of bytes is one of words
abbrev HasDigits : List ℕ → Type 0
HasDigits w = list_all is_ascii_digit w ≡ true

digits_push : (w : List ℕ) (b : ℕ) → HasDigits w → is_no_digit w b ≡ false → HasDigits (w ++ b ∷ [])
digits_push w b h e = list_all-append is_ascii_digit w (b ∷ []) ∙ and_from (list_all is_ascii_digit w) (is_ascii_digit b && true) h (and-true (is_ascii_digit b) ∙ is_true (is_ascii_digit b) e)
  where
    is_true : (t : Bool) → not t ≡ false → t ≡ true
    is_true true f = refl
    is_true false f = absurd cc

digits_pull : (w : List ℕ) (b : ℕ) → HasDigits (w ++ b ∷ []) → HasDigits w × (is_no_digit w b ≡ false)
digits_pull w b h =
    let both = and_parts (list_all is_ascii_digit w) (is_ascii_digit b && true) (sym (list_all-append is_ascii_digit w (b ∷ [])) ∙ h) in
    let this : is_ascii_digit b ≡ true = sym (and-true (is_ascii_digit b)) ∙ both.1 in
    (both.0, rw this)

abbrev HasNoRepeat : List ℕ → Type 0
HasNoRepeat w = has_no_repeats w ≡ true

repeat_push : (w : List ℕ) (b : ℕ) → HasNoRepeat w → is_repeated w b ≡ false → HasNoRepeat (w ++ b ∷ [])
repeat_push w b h e = has_no_repeats-push w b ∙ and_from (not (is_repeated w b)) (has_no_repeats w) (not_from_false (is_repeated w b) e) h

repeat_pull : (w : List ℕ) (b : ℕ) → HasNoRepeat (w ++ b ∷ []) → HasNoRepeat w × (is_repeated w b ≡ false)
repeat_pull w b h =
    let both = and_parts (not (is_repeated w b)) (has_no_repeats w) (sym (has_no_repeats-push w b) ∙ h) in
    (both.1, not-true (is_repeated w b) both.0)

abbrev IsShort : List ℕ → Type 0
IsShort w = length w ≤ 9

at_most_nine : (n : ℕ) → nat_le 9 n ≡ false → n + 1 ≤ 9
at_most_nine n e = grind (arith, nat_tests)

below_nine : (n : ℕ) → n + 1 ≤ 9 → nat_le 9 n ≡ false
below_nine n h = grind (arith, nat_tests)

short_push : (w : List ℕ) (b : ℕ) → IsShort w → is_past_nine w b ≡ false → IsShort (w ++ b ∷ [])
short_push w b h e = let small = at_most_nine (length w) e in omega (arith, length-append w (b ∷ []))

short_pull : (w : List ℕ) (b : ℕ) → IsShort (w ++ b ∷ []) → IsShort w × (is_past_nine w b ≡ false)
short_pull w b h = let small : length w + 1 ≤ 9 = omega (arith, length-append w (b ∷ [])) in (omega arith, below_nine (length w) small)

-- ---- empty words
is_some : (w : List ℕ) → (length w == 0) ≡ false → w ≢ []
is_some [] e f = absurd cc
is_some (x ∷ w) e f = cc

some_each : (ws : List (List ℕ)) → list_any (λ w. length w == 0) ws ≡ false → AllByRecursion (λ w. w ≢ []) ws
some_each [] e = tt
some_each (w ∷ ws) e = let h = or_parts (length w == 0) (list_any (λ v. length v == 0) ws) e in (is_some w h.0, some_each ws h.1)

none_empty : (ws : List (List ℕ)) → AllByRecursion IsBasisWord ws → list_any (λ w. length w == 0) ws ≡ false
none_empty [] h = refl
none_empty (w ∷ ws) h = rw (has_length w h.0.some, none_empty ws h.1)
  where
    has_length : (v : List ℕ) → v ≢ [] → (length v == 0) ≡ false
    has_length [] k = absurd (k refl)
    has_length (x ∷ v) k = grind (arith, nat_tests)

-- ---- the words of a basis
all_four : (ws : List (List ℕ)) → AllByRecursion (λ w. w ≢ []) ws → AllByRecursion HasDigits ws → AllByRecursion HasNoRepeat ws → AllByRecursion IsShort ws → AllByRecursion IsBasisWord ws
all_four [] a b c d = tt
all_four (w ∷ ws) a b c d = (record { some = a.0; short = d.0; digits = b.0; distinct = c.0 }, all_four ws a.1 b.1 c.1 d.1)

each_weaker : (P : List ℕ → Type 0) → ((w : List ℕ) → IsBasisWord w → P w) → (ws : List (List ℕ)) → AllByRecursion IsBasisWord ws → AllByRecursion P ws
each_weaker P f [] h = tt
each_weaker P f (w ∷ ws) h = (f w h.0, each_weaker P f ws h.1)

pub basis_text : (text : List ℕ) → has_empty_word text ≡ false → NoneIsWrong is_no_digit text → NoneIsWrong is_repeated text → NoneIsWrong is_past_nine text → length (words_of text) ≤ 32 → IsBasisText text
basis_text text e digits new short few = record {
  words = All-from_recursion IsBasisWord (words_of text) (all_four (words_of text) (some_each (words_of text) e)
      (each_word_has is_no_digit HasDigits refl digits_push digits_pull text digits)
      (each_word_has is_repeated HasNoRepeat refl repeat_push repeat_pull text new)
      (each_word_has is_past_nine IsShort (omega arith) short_push short_pull text short));
  few = few;
}

digits_of_basis : (text : List ℕ) → IsBasisText text → NoneIsWrong is_no_digit text
digits_of_basis text h =
    none_is_wrong is_no_digit HasDigits refl digits_push digits_pull text (each_weaker HasDigits (λ w k. k.digits) (words_of text) (recursion_from_All IsBasisWord (words_of text) h.words))

distinct_of_basis : (text : List ℕ) → IsBasisText text → NoneIsWrong is_repeated text
distinct_of_basis text h =
    none_is_wrong is_repeated HasNoRepeat refl repeat_push repeat_pull text (each_weaker HasNoRepeat (λ w k. k.distinct) (words_of text) (recursion_from_All IsBasisWord (words_of text) h.words))

short_of_basis : (text : List ℕ) → IsBasisText text → NoneIsWrong is_past_nine text
short_of_basis text h =
    none_is_wrong is_past_nine IsShort (omega arith) short_push short_pull text (each_weaker IsShort (λ w k. k.short) (words_of text) (recursion_from_All IsBasisWord (words_of text) h.words))

-- ---- each refusal tells that the text is no basis
pub no_basis : (text : List ℕ) (fault : BasisFault) → IsRefusedAsBasis text fault → IsNoBasis text fault
no_basis text Memory r = tt
no_basis text Empty r = λ h. let none = none_empty (words_of text) (recursion_from_All IsBasisWord (words_of text) h.words) in let clash : true ≡ false = sym r ∙ none in cc
no_basis text (BadByte at) r = λ h. r.1.bad (digits_of_basis text h at r.1.within)
no_basis text (Repeated at) r = λ h. r.1.bad (distinct_of_basis text h at r.1.within)
no_basis text (TooLong at) r = λ h. r.1.bad (short_of_basis text h at r.1.within)
no_basis text TooMany r = λ h. let few = h.few in let many = r.1 in omega arith
