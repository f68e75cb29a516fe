-- The bases that a number leads to.
use Rattle.std.specs.Prelude.{ℕ, zero, suc, ◌+◌, ◌*◌, ◌%◌, List, [], ◌∷◌, slice_index_or}
use Rattle.sequences.specs.Ascending.{in_order}
use Rattle.perm_core.specs.Orders.{perm_cmp}

-- the number that is drawn after x
abbrev pub next_number : ℕ → ℕ
next_number x = (48271 * x) % 2147483647

-- the permutations of length 3
abbrev pub threes : List (List ℕ)
threes = (0 ∷ 1 ∷ 2 ∷ []) ∷ (0 ∷ 2 ∷ 1 ∷ []) ∷ (1 ∷ 0 ∷ 2 ∷ []) ∷ (1 ∷ 2 ∷ 0 ∷ []) ∷ (2 ∷ 0 ∷ 1 ∷ []) ∷ (2 ∷ 1 ∷ 0 ∷ []) ∷ []

-- the word that a number draws
unfoldable pub drawn_word : ℕ → List ℕ
drawn_word x = slice_index_or threes (x % 6) []

-- the words that the next numbers after x draw, and the last of these numbers
unfoldable pub drawn_words : ℕ → ℕ → List (List ℕ)
drawn_words zero x = []
drawn_words (suc left) x = drawn_word (next_number x) ∷ drawn_words left (next_number x)

unfoldable pub number_after : ℕ → ℕ → ℕ
number_after zero x = x
number_after (suc left) x = number_after left (next_number x)

-- a basis has one to three words, as the number that is drawn for it says
abbrev pub how_many : ℕ → ℕ
how_many x = 1 + x % 3

-- the basis for which x is drawn: the words of the numbers after it, in order, each once
abbrev pub drawn_basis : ℕ → List (List ℕ)
drawn_basis x = in_order perm_cmp (drawn_words (how_many x) x)

unfoldable pub drawn_bases : ℕ → ℕ → List (List (List ℕ))
drawn_bases zero x = []
drawn_bases (suc left) x = drawn_basis (next_number x) ∷ drawn_bases left (number_after (how_many (next_number x)) (next_number x))

-- the forty bases of a number
abbrev pub bases_of_number : ℕ → List (List (List ℕ))
bases_of_number number = drawn_bases 40 (number + 1)
