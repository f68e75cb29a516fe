-- Rows of the definitions, computed.
use Rattle.std.proofs.Common.{◌≡◌, true, false, [], ◌∷◌, refl}
use Rattle.std.specs.Prelude.{codes}
use Rattle.perm_core.specs.Basis.{words_of, word_before, basis_of, is_wrong_at, is_no_digit, is_repeated, is_past_nine, has_empty_word}

words_row : words_of (codes "12,21") ≡ codes "12" ∷ codes "21" ∷ []
words_row = refl

last_empty_row : words_of (codes "1_") ≡ codes "1" ∷ [] ∷ []
last_empty_row = refl

no_text_row : words_of [] ≡ [] ∷ []
no_text_row = refl

empty_row : has_empty_word (codes "13,,2") ≡ true
empty_row = refl

before_row : word_before (codes "13_245") 5 ≡ codes "24"
before_row = refl

at_start_row : word_before (codes "13_245") 3 ≡ []
at_start_row = refl

sorted_row : basis_of (codes "21_12") ≡ (0 ∷ 1 ∷ []) ∷ (1 ∷ 0 ∷ []) ∷ []
sorted_row = refl

once_row : basis_of (codes "132_132") ≡ (0 ∷ 2 ∷ 1 ∷ []) ∷ []
once_row = refl

shorter_first_row : basis_of (codes "123,21") ≡ (1 ∷ 0 ∷ []) ∷ (0 ∷ 1 ∷ 2 ∷ []) ∷ []
shorter_first_row = refl

bad_byte_row : is_wrong_at is_no_digit (codes "1x2") 1 ≡ true
bad_byte_row = refl

repeated_row : is_wrong_at is_repeated (codes "112") 1 ≡ true
repeated_row = refl

other_word_row : is_wrong_at is_repeated (codes "1_1") 2 ≡ false
other_word_row = refl

tenth_row : is_wrong_at is_past_nine (codes "1234567890") 9 ≡ true
tenth_row = refl

ninth_row : is_wrong_at is_past_nine (codes "1234567890") 8 ≡ false
ninth_row = refl
