-- What the basis of a text keeps.
use Rattle.std.proofs.Common.{◌≡◌, ℕ, ◌+◌, ◌<◌, ◌≤◌, List, [], ◌∷◌, length, map, ap, ◌∙◌, arith}
use Rattle.std.specs.Prelude.{◌≢◌}
use Rattle.std.specs.Ordering.{is_eq, match_ordering}
use Rattle.std.specs.declared.cmp.Ordering.{Ordering}
use Rattle.std.specs.declared.cmp.Ordering.TheVariants.{Less, Equal, Greater}
use Rattle.std.proofs.lemmas.List.{length-map}
use Rattle.std.proofs.lemmas.List.Elements.{All-from_recursion, recursion_from_All}
use Rattle.std.specs.List.{AllByRecursion}
use Rattle.patterns.specs.Ranks.{standardised}
use Rattle.sequences.specs.Ascending.{in_order, insert_new}
use Rattle.sequences.proofs.InOrder.{in_order_ascends, All-in_order}
use Rattle.perm_core.specs.Orders.{perm_cmp, perm_total, perm_ties, perm_eq_decides}
use Rattle.perm_core.specs.Basis.{words_of, basis_of, IsBasisWord, IsBasisText, IsBasis, IsBasisPerm}
use Rattle.perm_core.proofs.Standards.{standardised_perm, length-standardised}
use Rattle.perm_core.proofs.Repeats.{distinct_from_test}
use Rattle.perm_core.proofs.BasisTexts.{has_a_word}

-- permutations that tie are one
pub perm_exact : (p q : List ℕ) → perm_cmp p q ≡ Equal → p ≡ q
perm_exact p q e = (perm_eq_decides p q).0 (perm_ties p q ∙ ap is_eq e)

-- ---- how many are left in order
module _ {K : Type 0} (cmp : K → K → Ordering) where
  insert_length : (x : K) (ys : List K) → (0 < length (insert_new cmp x ys)) × (length (insert_new cmp x ys) ≤ length ys + 1)
  insert_length x [] = (omega arith, omega arith)
  insert_length x (y ∷ ys) = go (cmp x y) (insert_length x ys)
    where
      go : (o : Ordering) → (0 < length (insert_new cmp x ys)) × (length (insert_new cmp x ys) ≤ length ys + 1)
          → (0 < length (match_ordering o (x ∷ y ∷ ys) (y ∷ ys) (y ∷ insert_new cmp x ys))) × (length (match_ordering o (x ∷ y ∷ ys) (y ∷ ys) (y ∷ insert_new cmp x ys)) ≤ length (y ∷ ys) + 1)
      go Less ih = (omega arith, omega arith)
      go Equal ih = (omega arith, omega arith)
      go Greater ih = let most = ih.1 in (omega arith, omega arith)

  in_order_short : (xs : List K) → length (in_order cmp xs) ≤ length xs
  in_order_short [] = omega arith
  in_order_short (x ∷ xs) = let one = (insert_length x (in_order cmp xs)).1 in let rest = in_order_short xs in omega arith

  in_order_some : (xs : List K) → 0 < length xs → 0 < length (in_order cmp xs)
  in_order_some [] h = absurd (omega arith)
  in_order_some (x ∷ xs) h = (insert_length x (in_order cmp xs)).0

-- ---- the words of a basis
has_items : (w : List ℕ) → w ≢ [] → 0 < length w
has_items [] h = absurd (h (λ i. []))
has_items (x ∷ w) h = omega arith

word_perm : (w : List ℕ) → IsBasisWord w → IsBasisPerm (standardised w)
word_perm w h =
    let same = length-standardised w in
    let some = has_items w h.some in
    let short = h.short in
    record { perm = standardised_perm w (distinct_from_test w h.distinct); some = omega arith; short = omega arith }

each_perm : (ws : List (List ℕ)) → AllByRecursion IsBasisWord ws → AllByRecursion IsBasisPerm (map standardised ws)
each_perm [] h = tt
each_perm (w ∷ ws) h = (word_perm w h.0, each_perm ws h.1)

pub basis_kept : (text : List ℕ) → IsBasisText text → IsBasis (basis_of text)
basis_kept text h =
    let words : List (List ℕ) = map standardised (words_of text) in
    let as_many : length words ≡ length (words_of text) = length-map (words_of text) standardised in
    let one : 0 < length (words_of text) = has_a_word text in
    let most = in_order_short perm_cmp words in
    let few = h.few in
    record {
      ascends = in_order_ascends perm_cmp perm_total perm_exact words;
      some = in_order_some perm_cmp words (omega arith);
      few = omega arith;
      perms = All-in_order perm_cmp perm_total perm_exact IsBasisPerm words (All-from_recursion IsBasisPerm words (each_perm (words_of text) (recursion_from_All IsBasisWord (words_of text) h.words)));
    }
