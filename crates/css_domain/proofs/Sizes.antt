-- The sizes of a ledger.
use Rattle.std.proofs.Common.{◌≡◌, ℕ, ◌+◌, ◌*◌, ◌≤◌, Bool, true, cond, List, [], ◌∷◌, length, length-append, refl, ap, ◌∙◌, arith}
use Rattle.std.specs.Prelude.{map, flat_map, slice_get}
use Rattle.std.specs.List.{position_or_len}
use Rattle.std.proofs.lemmas.List.{length-map}
use Rattle.std.proofs.lemmas.List.Sums.{sum_by-cons, sum_by-append}
use Rattle.lists.specs.Members.IsIn.{here, later}
use Rattle.lists.proofs.Added.{grows}
use Rattle.lists.specs.Members.{IsIn}
use Rattle.css_domain.specs.Records.{record_words, words_of}
use Rattle.css_domain.specs.Meanings.{Meaning}
use Rattle.css_domain.specs.Ledgers.{Books, filings, classes, record_of}
use Rattle.css_domain.specs.LedgerFacts.{filing_words, IsLedger, HasSizes}
use Rattle.css_domain.proofs.Filings.{rules_of_filings, classes_by_rules, length-filings}
use Rattle.css_domain.proofs.Classes.{block_class, done_within}
use Rattle.css_domain.proofs.Within.{records_within}

module _ {C R : Type 0} (D : Meaning C R) where
  pub length-children : (rules : List R) → length (flat_map D.children rules) + 2 * length rules ≡ filing_words D rules
  length-children [] = refl
  length-children (r ∷ rules) =
      let s = sum_by-cons (λ r. 2 + length (D.children r)) r rules in
      omega (arith, s, length-children rules, length-append (D.children r) (flat_map D.children rules))

  -- filings of at most so many words
  words_of_filings : (fs : List (ℕ × List R)) → ((f : ℕ × List R) → IsIn f fs → filing_words D f.1 ≤ 2048) → filing_words D (flat_map (λ (f : ℕ × List R). f.1) fs) ≤ 2048 * length fs
  words_of_filings [] h = omega arith
  words_of_filings (f ∷ fs) h =
      let s = sum_by-append (λ r. 2 + length (D.children r)) f.1 (flat_map (λ (g : ℕ × List R). g.1) fs) in
      omega (arith, s, h f here, words_of_filings fs (λ g i. h g (later f i)))

  -- a record has as many words as its rule
  length-record_words : (cs : List C) (r : R) → length (record_words (record_of D cs r)) ≡ 2 + length (D.children r)
  length-record_words cs r =
      let numbered = length-map {B = ℕ × Bool} (D.children r) (λ c. (position_or_len (D.same c) cs, D.positive c)) in
      let words = length-map (record_of D cs r).children (λ (child : ℕ × Bool). 2 * child.0 + cond child.1 1 0) in
      omega (arith, numbered, words)

  length-words_of : (cs : List C) (rules : List R) → length (words_of (map (λ r. record_of D cs r) rules)) ≡ filing_words D rules
  length-words_of cs [] = refl
  length-words_of cs (r ∷ rules) =
      let s = sum_by-cons (λ r. 2 + length (D.children r)) r rules in
      let a = length-append (record_words (record_of D cs r)) (words_of (map (λ r. record_of D cs r) rules)) in
      omega (arith, s, a, length-words_of cs rules, length-record_words cs r)

  module _ (l : Books C R) (is : IsLedger D l) where
    pub few_words : filing_words D l.rules ≤ 2048 * length l.journal
    few_words =
        let w = words_of_filings (filings l.rules l.journal) (λ f i. let c = block_class D l is f.0 f.1 i in (is.filed f.0 f.1 c.0 i c.1).small) in
        let e = ap (filing_words D) (rules_of_filings l.rules l.journal is.all_rules) in
        omega (arith, w, e, length-filings l.rules l.journal)

    pub few_rules : length l.rules ≤ 1024 * length l.journal
    few_rules = omega (arith, length-children l.rules, few_words)

    pub few_classes : length (classes D l) ≤ 1 + 2048 * length l.journal
    few_classes =
        let g = grows D.same (l.root ∷ []) (flat_map D.children l.rules) in
        let many = ap length (classes_by_rules D l is.all_rules ∙ g.1) in
        omega (arith, length-children l.rules, few_words, many, g.2, length-append (l.root ∷ []) g.0)

    pub has_sizes : (own : (c : C) → D.same c c ≡ true) → (exact : (a b : C) → D.same a b ≡ true → a ≡ b) → HasSizes D l
    has_sizes own exact =
        let g = grows D.same (l.root ∷ []) (flat_map D.children l.rules) in
        record {
          root_first = ap (λ cs. slice_get cs 0) (classes_by_rules D l is.all_rules ∙ g.1);
          few_classes = few_classes;
          few_rules = few_rules;
          few_words = omega (arith, few_words, length-words_of (classes D l) l.rules);
          done_are_classes = done_within D l is;
          records_are_within = records_within D own exact l is;
        }
