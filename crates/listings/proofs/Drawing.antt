-- Draws, one number after another.
use Rattle.std.proofs.Common.{◌≡◌, ◌<◌, ◌≤◌, ◌+◌, ◌-◌, ◌%◌, ℕ, zero, suc, List, [], ◌∷◌, ◌++◌, length, get_or, refl, sym, ap, ◌∙◌, arith, append_assoc}
use Rattle.std.specs.List.{flat_map, range_with_len}
use Rattle.std.specs.Prelude.{codes, decimal}
use Rattle.std.proofs.lemmas.Grind.{flat_map-append}
use Rattle.std.proofs.lemmas.List.{append-nil}
use Rattle.lists.proofs.Ranges.{range_next}
use Rattle.patterns.specs.Occurs.{avoiders}
use Rattle.listings.specs.Counts.{count_item}
use Rattle.listings.specs.Draws.{threes, next_number, drawn_word, drawn_words, number_after, how_many, drawn_basis, drawn_bases}

pub one_word : (left x : ℕ) → 0 < left → drawn_words left x ≡ drawn_word (next_number x) ∷ drawn_words (left - 1) (next_number x)
unfolding drawn_words
one_word zero x h = absurd (omega arith)
one_word (suc left) x h = let same : left ≡ suc left - 1 = omega arith in ap (λ n. drawn_word (next_number x) ∷ drawn_words n (next_number x)) same

pub one_number : (left x : ℕ) → 0 < left → number_after left x ≡ number_after (left - 1) (next_number x)
unfolding number_after
one_number zero x h = absurd (omega arith)
one_number (suc left) x h = let same : left ≡ suc left - 1 = omega arith in ap (λ n. number_after n (next_number x)) same

pub one_basis : (left x : ℕ) → 0 < left → drawn_bases left x ≡ drawn_basis (next_number x) ∷ drawn_bases (left - 1) (number_after (how_many (next_number x)) (next_number x))
unfolding drawn_bases
one_basis zero x h = absurd (omega arith)
one_basis (suc left) x h = let same : left ≡ suc left - 1 = omega arith in ap (λ n. drawn_basis (next_number x) ∷ drawn_bases n (number_after (how_many (next_number x)) (next_number x))) same

pub no_words : (x : ℕ) → drawn_words 0 x ≡ []
unfolding drawn_words
no_words x = refl

pub no_number : (x : ℕ) → number_after 0 x ≡ x
unfolding number_after
no_number x = refl

pub no_bases : (x : ℕ) → drawn_bases 0 x ≡ []
unfolding drawn_bases
no_bases x = refl

-- the item at a place of a list is the same for each default
any_default : (xs : List (List ℕ)) (i : ℕ) (a b : List ℕ) → i < length xs → get_or xs i a ≡ get_or xs i b
any_default [] i a b h = absurd (omega arith)
any_default (x ∷ xs) zero a b h = refl
any_default (x ∷ xs) (suc i) a b h = any_default xs i a b (omega arith)

-- the word that a number draws
pub word_at_rest : (x : ℕ) (d : List ℕ) → get_or threes (x % 6) d ≡ drawn_word x
unfolding drawn_word
word_at_rest x d = any_default threes (x % 6) d [] (omega arith)

-- one more length
pub one_length : (f : ℕ → List ℕ) (n : ℕ) → flat_map f (range_with_len 0 (n + 1)) ≡ flat_map f (range_with_len 0 n) ++ f n
one_length f n = ap (flat_map f) (range_next n) ∙ flat_map-append f (range_with_len 0 n) (n ∷ []) ∙ ap (λ (xs : List ℕ). flat_map f (range_with_len 0 n) ++ xs) (append-nil (f n))

pub count_more : (basis : List (List ℕ)) (n count : ℕ) (out new : List ℕ) → out ≡ codes "count" ++ flat_map (count_item basis) (range_with_len 0 n) → new ≡ out ++ (codes " " ++ decimal count) → count ≡ avoiders basis n → new ≡ codes "count" ++ flat_map (count_item basis) (range_with_len 0 (n + 1))
count_more basis n count out new so_far put is =
    put
    ∙ (λ i. so_far i ++ (codes " " ++ decimal (is i)))
    ∙ append_assoc (codes "count") (flat_map (count_item basis) (range_with_len 0 n)) (count_item basis n)
    ∙ ap (λ (xs : List ℕ). codes "count" ++ xs) (sym (one_length (count_item basis) n))

-- ---- one draw more, and the end
module _ (left x y : ℕ) (some : 0 < left) (drawn : y ≡ next_number x) where
  pub word_more : (so_far new all : List (List ℕ)) (word : List ℕ) → new ≡ so_far ++ word ∷ [] → word ≡ drawn_word y → so_far ++ drawn_words left x ≡ all → new ++ drawn_words (left - 1) y ≡ all
  word_more so_far new all word put is e =
      (λ i. put i ++ drawn_words (left - 1) y)
      ∙ append_assoc so_far (word ∷ []) (drawn_words (left - 1) y)
      ∙ (λ i. so_far ++ (is ∙ ap drawn_word drawn) i ∷ drawn_words (left - 1) (drawn i))
      ∙ ap (λ (ws : List (List ℕ)). so_far ++ ws) (sym (one_word left x some))
      ∙ e

  pub number_more : (all : ℕ) → number_after left x ≡ all → number_after (left - 1) y ≡ all
  number_more all e = ap (number_after (left - 1)) drawn ∙ sym (one_number left x some) ∙ e

  pub basis_more : (so_far new all : List (List (List ℕ))) (basis : List (List ℕ)) (last : ℕ) → new ≡ so_far ++ basis ∷ [] → basis ≡ drawn_basis y → last ≡ number_after (how_many y) y → so_far ++ drawn_bases left x ≡ all → new ++ drawn_bases (left - 1) last ≡ all
  basis_more so_far new all basis last put is after e =
      (λ i. put i ++ drawn_bases (left - 1) last)
      ∙ append_assoc so_far (basis ∷ []) (drawn_bases (left - 1) last)
      ∙ (λ i. so_far ++ (is ∙ ap drawn_basis drawn) i ∷ drawn_bases (left - 1) ((after ∙ ap (λ n. number_after (how_many n) n) drawn) i))
      ∙ ap (λ (bs : List (List (List ℕ))). so_far ++ bs) (sym (one_basis left x some))
      ∙ e

module _ (left x : ℕ) (none : left ≤ 0) where
  ended : left ≡ 0
  ended = omega arith

  pub words_end : (so_far all : List (List ℕ)) → so_far ++ drawn_words left x ≡ all → so_far ≡ all
  words_end so_far all e = sym (append-nil so_far) ∙ ap (λ (ws : List (List ℕ)). so_far ++ ws) (sym (ap (λ n. drawn_words n x) ended ∙ no_words x)) ∙ e

  pub number_ends : (all : ℕ) → number_after left x ≡ all → x ≡ all
  number_ends all e = sym (ap (λ n. number_after n x) ended ∙ no_number x) ∙ e

  pub bases_end : (so_far all : List (List (List ℕ))) → so_far ++ drawn_bases left x ≡ all → so_far ≡ all
  bases_end so_far all e = sym (append-nil so_far) ∙ ap (λ (bs : List (List (List ℕ))). so_far ++ bs) (sym (ap (λ n. drawn_bases n x) ended ∙ no_bases x)) ∙ e
