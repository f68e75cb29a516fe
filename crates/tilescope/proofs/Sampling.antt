-- The bases of a sample, and the lines of their searches.
use Rattle.std.proofs.Common.{◌≡◌, ◌<◌, ◌≤◌, ◌+◌, ◌%◌, ℕ, zero, suc, List, [], ◌∷◌, ◌++◌, length, refl, sym, ap, subst, arith, append_assoc}
use Rattle.std.specs.Prelude.{All, slice_index_or}
use Rattle.std.specs.List.{AllByRecursion}
use Rattle.std.proofs.lemmas.List.{append-nil}
use Rattle.std.proofs.lemmas.List.Elements.{All-from_recursion}
use Rattle.std.specs.declared.cmp.Ordering.{Ordering}
use Rattle.std.specs.declared.cmp.Ordering.TheVariants.{Less, Equal, Greater}
use Rattle.std.specs.Ordering.{match_ordering}
use Rattle.sequences.specs.Ascending.{insert_new, in_order}
use Rattle.perm_core.specs.Orders.{perm_cmp}
use Rattle.tile_rules.specs.Avoiding.{HasNoEmptyWord}
use Rattle.spec_lines.specs.Lines.{Text}
use Rattle.listings.specs.Draws.{threes, next_number, drawn_word, drawn_words, number_after, how_many, drawn_basis, drawn_bases, bases_of_number}
use Rattle.tilescope.specs.Samples.{IsSearchLine, AreSearchLines}
use Rattle.tilescope.specs.Samples.AreSearchLines.{none, one_more}
use Rattle.tilescope.specs.Samples.IsSearchLine.{found, exhausted, budget}

-- ---- no word of a basis is empty
a_word_of_threes : (k : ℕ) → k < 6 → 0 < length (slice_index_or threes k [])
a_word_of_threes zero h = omega arith
a_word_of_threes (suc zero) h = omega arith
a_word_of_threes (suc (suc zero)) h = omega arith
a_word_of_threes (suc (suc (suc zero))) h = omega arith
a_word_of_threes (suc (suc (suc (suc zero)))) h = omega arith
a_word_of_threes (suc (suc (suc (suc (suc zero))))) h = omega arith
a_word_of_threes (suc (suc (suc (suc (suc (suc k)))))) h = absurd (omega (arith, h))

drawn_has_letters : (x : ℕ) → 0 < length (drawn_word x)
unfolding drawn_word
drawn_has_letters x = a_word_of_threes (x % 6) (omega arith)

all_drawn : (left x : ℕ) → AllByRecursion (λ (w : List ℕ). 0 < length w) (drawn_words left x)
unfolding drawn_words
all_drawn zero x = tt
all_drawn (suc left) x = (drawn_has_letters (next_number x), all_drawn left (next_number x))

-- what holds of all items holds of them in order
insert_all : (P : List ℕ → Type 0) (cmp : List ℕ → List ℕ → Ordering) (x : List ℕ) (ys : List (List ℕ)) → P x → AllByRecursion P ys → AllByRecursion P (insert_new cmp x ys)
insert_all P cmp x [] h all = (h, tt)
insert_all P cmp x (y ∷ ys) h all = go (cmp x y) (insert_all P cmp x ys h all.1)
  where
    go : (o : Ordering) → AllByRecursion P (insert_new cmp x ys) → AllByRecursion P (match_ordering o (x ∷ y ∷ ys) (y ∷ ys) (y ∷ insert_new cmp x ys))
    go Less ih = (h, all)
    go Equal ih = all
    go Greater ih = (all.0, ih)

in_order_all : (P : List ℕ → Type 0) (cmp : List ℕ → List ℕ → Ordering) (xs : List (List ℕ)) → AllByRecursion P xs → AllByRecursion P (in_order cmp xs)
in_order_all P cmp [] all = tt
in_order_all P cmp (x ∷ xs) all = insert_all P cmp x (in_order cmp xs) all.0 (in_order_all P cmp xs all.1)

a_basis : (x : ℕ) → HasNoEmptyWord (drawn_basis x)
a_basis x = All-from_recursion (λ (w : List ℕ). 0 < length w) (drawn_basis x) (in_order_all (λ (w : List ℕ). 0 < length w) perm_cmp (drawn_words (how_many x) x) (all_drawn (how_many x) x))

some_bases : (left x : ℕ) → AllByRecursion HasNoEmptyWord (drawn_bases left x)
unfolding drawn_bases
some_bases zero x = tt
some_bases (suc left) x = (a_basis (next_number x), some_bases left (number_after (how_many (next_number x)) (next_number x)))

pub named_bases : (number : ℕ) → All HasNoEmptyWord (bases_of_number number)
named_bases number = All-from_recursion HasNoEmptyWord (bases_of_number number) (some_bases 40 (number + 1))

-- there are as many as are drawn
so_many : (left x : ℕ) → length (drawn_bases left x) ≡ left
unfolding drawn_bases
so_many zero x = refl
so_many (suc left) x = ap suc (so_many left (number_after (how_many (next_number x)) (next_number x)))

pub forty_bases : (number : ℕ) → length (bases_of_number number) ≡ 40
forty_bases number = so_many 40 (number + 1)

-- ---- lines
pub at_most_one : (basis : List (List ℕ)) (n : ℕ) (this : Text) → IsSearchLine basis n this → n ≤ 1
at_most_one basis _ _ (found ledger entries is spec) = omega arith
at_most_one basis _ _ (exhausted ledger is) = omega arith
at_most_one basis _ _ (budget ledger is) = omega arith

-- one more line at the end
pub line_more : (bases : List (List (List ℕ))) (basis : List (List ℕ)) (so_far n : ℕ) (text this : Text) → AreSearchLines bases so_far text → IsSearchLine basis n this → AreSearchLines (bases ++ basis ∷ []) (so_far + n) (text ++ this)
line_more _ basis _ n _ this none h =
    let same_text : this ++ [] ≡ this = append-nil this in
    let same_number : n + 0 ≡ 0 + n = omega arith in
    subst (λ (m : ℕ). AreSearchLines (basis ∷ []) m this) same_number (subst (λ (t : Text). AreSearchLines (basis ∷ []) (n + 0) t) same_text (one_more basis [] n 0 this [] h none))
line_more _ basis _ n _ this (one_more first bases m rest line lines here more) h =
    let joined : line ++ (lines ++ this) ≡ (line ++ lines) ++ this = sym (append_assoc line lines this) in
    let summed : m + (rest + n) ≡ (m + rest) + n = omega arith in
    subst (λ (k : ℕ). AreSearchLines (first ∷ (bases ++ basis ∷ [])) k ((line ++ lines) ++ this)) summed
    (subst (λ (t : Text). AreSearchLines (first ∷ (bases ++ basis ∷ [])) (m + (rest + n)) t) joined
    (one_more first (bases ++ basis ∷ []) m (rest + n) line (lines ++ this) here (line_more bases basis rest n lines this more h)))

pub ruleset drawing = (named_bases, forty_bases)
