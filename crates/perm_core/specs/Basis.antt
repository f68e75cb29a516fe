-- The text of a basis: words of digits, with `_` or `,` between them. Places are those of bytes, from 0.
use Rattle.std.specs.Prelude.{◌≡◌, ◌≢◌, ◌<◌, ◌≤◌, ℕ, Bool, false, not, ◌&&◌, ◌||◌, ◌==◌, nat_le, List, [], ◌∷◌, ◌++◌, length, take, map, slice_index, EachIndex, IsTrue, IsFalse, All, if◌then◌else◌}
use Rattle.std.specs.Char.{is_ascii_digit}
use Rattle.std.specs.List.{slice_split, list_all, list_any}
use Rattle.std.specs.List.Sorted.{IsStrictlySortedBy}
use Rattle.patterns.specs.Words.{has_no_repeats}
use Rattle.patterns.specs.Ranks.{standardised}
use Rattle.sequences.specs.Ascending.{in_order}
use Rattle.perm_core.specs.Places.{IsFirstPlace}
use Rattle.perm_core.specs.Perms.{IsPerm}
use Rattle.perm_core.specs.Orders.{perm_cmp}

-- `_` and `,` stand between words
abbrev pub is_separator : ℕ → Bool
is_separator b = (b == 95) || (b == 44)

-- the words of a text, of which an empty text has one
abbrev pub words_of : List ℕ → List (List ℕ)
words_of text = slice_split is_separator text

-- a word of 1 to 9 distinct digits
pub record IsBasisWord (w : List ℕ) : Type 0 where
  pub some : w ≢ []
  pub short : length w ≤ 9
  pub digits : IsTrue (list_all is_ascii_digit w)
  pub distinct : IsTrue (has_no_repeats w)

-- a text of 1 to 32 such words
pub record IsBasisText (text : List ℕ) : Type 0 where
  pub words : All IsBasisWord (words_of text)
  pub few : length (words_of text) ≤ 32

-- the basis that a text names: its words standardised, in ascending order, each once
abbrev pub basis_of : List ℕ → List (List ℕ)
basis_of text = in_order perm_cmp (map standardised (words_of text))

-- a permutation of 1 to 9 letters
pub record IsBasisPerm (p : List ℕ) : Type 0 where
  pub perm : IsPerm p
  pub some : 0 < length p
  pub short : length p ≤ 9

-- what a basis keeps
pub record IsBasis (basis : List (List ℕ)) : Type 0 where
  pub ascends : IsStrictlySortedBy perm_cmp basis
  pub some : 0 < length basis
  pub few : length basis ≤ 32
  pub perms : All IsBasisPerm basis

-- ---- what is wrong with a text, and where
-- the last word of a text, where the bytes w of it were read
abbrev pub last_word : List ℕ → List ℕ → List ℕ
last_word w [] = w
last_word w (b ∷ bs) = if is_separator b then last_word [] bs else last_word (w ++ b ∷ []) bs

-- the bytes before a place that are in its word
abbrev pub word_before : List ℕ → ℕ → List ℕ
word_before text k = last_word [] (take k text)

-- whether the byte at a place is wrong after the bytes of its word before it; a separator never is
abbrev pub is_wrong_at : (List ℕ → ℕ → Bool) → List ℕ → ℕ → Bool
is_wrong_at wrong text k = not (is_separator (slice_index text k)) && wrong (word_before text k) (slice_index text k)

-- no byte is wrong
abbrev pub NoneIsWrong : (List ℕ → ℕ → Bool) → List ℕ → Type 0
NoneIsWrong wrong text = EachIndex text (λ k. is_wrong_at wrong text k ≡ false)

-- the first wrong byte stands at k
abbrev pub IsFirstWrong : (List ℕ → ℕ → Bool) → List ℕ → ℕ → Type 0
IsFirstWrong wrong text k = IsFirstPlace (length text) (λ j. is_wrong_at wrong text j ≡ false) k

-- the byte is no digit
abbrev pub is_no_digit : List ℕ → ℕ → Bool
is_no_digit w b = not (is_ascii_digit b)

-- the byte equals an earlier one of its word
abbrev pub is_repeated : List ℕ → ℕ → Bool
is_repeated w b = list_any (λ x. x == b) w

-- the byte is the tenth of its word, or a later one
abbrev pub is_past_nine : List ℕ → ℕ → Bool
is_past_nine w b = nat_le 9 (length w)

abbrev pub has_empty_word : List ℕ → Bool
has_empty_word text = list_any (λ w. length w == 0) (words_of text)

-- ---- how much of a text is right, each fact with those before it
abbrev pub NoWordIsEmpty : List ℕ → Type 0
NoWordIsEmpty text = IsFalse (has_empty_word text)

abbrev pub HasOnlyDigits : List ℕ → Type 0
HasOnlyDigits text = NoWordIsEmpty text × NoneIsWrong is_no_digit text

abbrev pub HasDistinctDigits : List ℕ → Type 0
HasDistinctDigits text = HasOnlyDigits text × NoneIsWrong is_repeated text

abbrev pub HasShortWords : List ℕ → Type 0
HasShortWords text = HasDistinctDigits text × NoneIsWrong is_past_nine text
