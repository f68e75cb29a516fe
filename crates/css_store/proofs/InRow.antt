-- The words of records in a row.
use Rattle.std.proofs.Common.{◌≡◌, ◌≤◌, ◌+◌, ◌*◌, ℕ, zero, suc, Bool, true, cond, List, [], ◌∷◌, ◌++◌, length, take, Option, Some, None, sym, ap, ◌∙◌, arith, append_assoc, append-nil, add-one, length-append}
use Rattle.std.specs.Prelude.{slice_get}
use Rattle.std.specs.List.{position_or_len}
use Rattle.std.specs.Cmp.{IsEquivalence}
use Rattle.std.proofs.lemmas.List.{length-map, take_all}
use Rattle.css_domain.specs.declared.record.Record.{Record}
use Rattle.css_domain.specs.Meanings.{Meaning}
use Rattle.css_domain.specs.Records.{shape_code, record_words, words_of}
use Rattle.css_domain.proofs.Sizes.{few_classes}
use Rattle.css_domain.proofs.Within.{parent_at, child_at}
use Rattle.std.proofs.lemmas.Option.{slice_get_within}
use Rattle.lists.specs.Members.{IsIn}
use Rattle.lists.proofs.Members.{from_IsIn-map}
use Rattle.css_domain.specs.WholeRecords.{IsNarrow, IsNarrowShape}
use Rattle.css_domain.specs.Ledgers.{Books, classes, record_of, records}
use Rattle.css_domain.specs.LedgerFacts.{IsLedger}
use Rattle.lists.proofs.Added.{position_of}
use Rattle.lists.proofs.Places.{get-map, take_next}
use Rattle.css_store.specs.RecordWords.{child_words}

abbrev of_one : Option Record → List ℕ
of_one (Some r) = record_words r
of_one None = []

one_more : (rs : List Record) (k : ℕ) (r : Record) → slice_get rs k ≡ Some r → words_of (take (suc k) rs) ≡ words_of (take k rs) ++ record_words r
one_more [] k r e = absurd cc
one_more (x ∷ rs) zero r e = append-nil (record_words x) ∙ ap of_one e
one_more (x ∷ rs) (suc k) r e = ap (λ (l : List ℕ). record_words x ++ l) (one_more rs k r e) ∙ sym (append_assoc (record_words x) (words_of (take k rs)) (record_words r))

pub words_more : (rs : List Record) (k : ℕ) (r : Record) → slice_get rs k ≡ Some r → words_of (take (k + 1) rs) ≡ words_of (take k rs) ++ record_words r
words_more rs k r e = rw add-one (one_more rs k r e)

pub words_within : (rs : List Record) (k : ℕ) (r : Record) → slice_get rs k ≡ Some r → length (words_of (take k rs)) + length (record_words r) ≤ length (words_of rs)
words_within [] k r e = absurd cc
words_within (x ∷ rs) zero r e =
    let same : length (record_words x) ≡ length (record_words r) = ap (λ o. length (of_one o)) e in
    omega (arith, length-append (record_words x) (words_of rs))
words_within (x ∷ rs) (suc k) r e =
    let h = words_within rs k r e in
    omega (arith, length-append (record_words x) (words_of rs), length-append (record_words x) (words_of (take k rs)))

module _ {C R : Type 0} (D : Meaning C R) (E : C → C → Bool) (laws : IsEquivalence E) (same : (a b : C) → D.same a b ≡ E a b) (exact : (a b : C) → E a b ≡ true → a ≡ b) where
  pub own : (c : C) → D.same c c ≡ true
  own c = same c c ∙ laws.refl c

  pub exactly : (a b : C) → D.same a b ≡ true → a ≡ b
  exactly a b h = exact a b (sym (same a b) ∙ h)

  -- the number of the class at a place is that place
  pub number_is : (l : Books C R) → IsLedger D l → (n : ℕ) (c : C) → slice_get (classes D l) n ≡ Some c → position_or_len (D.same c) (classes D l) ≡ n
  number_is l is n c h = (position_of D.same own exactly (classes D l) n c is.distinct h).0

  pub child_word_at : (l : Books C R) → IsLedger D l → (r : R) (slot n : ℕ) (c : C) → slice_get (D.children r) slot ≡ Some c → slice_get (classes D l) n ≡ Some c
      → slice_get (child_words (record_of D (classes D l) r)) slot ≡ Some (2 * n + cond (D.positive c) 1 0)
  child_word_at l is r slot n c at class =
      let child : slice_get (record_of D (classes D l) r).children slot ≡ Some (position_or_len (D.same c) (classes D l), D.positive c) = get-map {Y = ℕ × Bool} (λ b. (position_or_len (D.same b) (classes D l), D.positive b)) (D.children r) slot c at in
      get-map {X = ℕ × Bool} (λ (p : ℕ × Bool). 2 * p.0 + cond p.1 1 0) (record_of D (classes D l) r).children slot (position_or_len (D.same c) (classes D l), D.positive c) child
      ∙ ap (λ (m : ℕ). Some (2 * m + cond (D.positive c) 1 0)) (number_is l is n c class)

  pub next_child : (l : Books C R) → IsLedger D l → (r : R) (slot n : ℕ) (c : C) → slice_get (D.children r) slot ≡ Some c → slice_get (classes D l) n ≡ Some c
      → take (slot + 1) (child_words (record_of D (classes D l) r)) ≡ take slot (child_words (record_of D (classes D l) r)) ++ (2 * n + cond (D.positive c) 1 0) ∷ []
  next_child l is r slot n c at class = rw add-one (take_next (child_words (record_of D (classes D l) r)) slot (2 * n + cond (D.positive c) 1 0) (child_word_at l is r slot n c at class))

  pub length-child_words : (cs : List C) (r : R) → length (child_words (record_of D cs r)) ≡ length (D.children r)
  length-child_words cs r =
      length-map (record_of D cs r).children (λ (p : ℕ × Bool). 2 * p.0 + cond p.1 1 0) ∙ length-map {B = ℕ × Bool} (D.children r) (λ c. (position_or_len (D.same c) cs, D.positive c))

  pub all_children : (cs : List C) (r : R) → take (length (D.children r)) (child_words (record_of D cs r)) ≡ child_words (record_of D cs r)
  all_children cs r = take_all (length (D.children r)) (child_words (record_of D cs r)) (omega (arith, length-child_words cs r))

  pub record_at : (l : Books C R) (k : ℕ) (r : R) → slice_get l.rules k ≡ Some r → slice_get (records D l) k ≡ Some (record_of D (classes D l) r)
  record_at l k r at = get-map (λ s. record_of D (classes D l) s) l.rules k r at

  pub length-record_words : (cs : List C) (r : R) → length (record_words (record_of D cs r)) ≡ 2 + length (D.children r)
  length-record_words cs r = let n = length-child_words cs r in omega (arith, n)

  -- the two words before those of the children, and these
  pub record_words_are : (l : Books C R) → IsLedger D l → (r : R) (number code arity : ℕ) → slice_get (classes D l) number ≡ Some (D.parent r) → code ≡ shape_code (D.shape r) → arity ≡ length (D.children r)
      → (number * 4294967296 + code) ∷ arity ∷ child_words (record_of D (classes D l) r) ≡ record_words (record_of D (classes D l) r)
  record_words_are l is r number code arity at c a =
      let n = number_is l is number (D.parent r) at in
      let k : length (record_of D (classes D l) r).children ≡ length (D.children r) = length-map {B = ℕ × Bool} (D.children r) (λ d. (position_or_len (D.same d) (classes D l), D.positive d)) in
      λ i. (sym n i * 4294967296 + c i) ∷ (a ∙ sym k) i ∷ child_words (record_of D (classes D l) r)

  -- the numbers of a ledger's records are narrow
  pub narrow : (l : Books C R) → IsLedger D l → (r : R) → IsIn r l.rules → IsNarrowShape (D.shape r) → IsNarrow (record_of D (classes D l) r)
  narrow l is r i shape =
      let few = few_classes D l is in
      let within = is.within in
      let budget = is.few_budget in
      let parent = slice_get_within (classes D l) (position_or_len (D.same (D.parent r)) (classes D l)) (D.parent r) (parent_at D own exactly l is r i) in
      record {
        own = omega arith;
        shape = shape;
        child = λ c j.
            let d = from_IsIn-map {Y = ℕ × Bool} (λ e. (position_or_len (D.same e) (classes D l), D.positive e)) (D.children r) j in
            let k : c.0 ≡ position_or_len (D.same d.0) (classes D l) = ap (λ (p : ℕ × Bool). p.0) d.2 in
            let below = slice_get_within (classes D l) (position_or_len (D.same d.0) (classes D l)) d.0 (child_at D own exactly l is r d.0 i d.1) in
            omega arith;
      }
