-- The numbers in a ledger's records are those of its classes.
use Rattle.std.proofs.Common.{◌≡◌, ℕ, ◌<◌, Bool, true, List, [], ◌∷◌, length, sym, ap, subst, ◌∙◌, arith}
use Rattle.std.specs.Prelude.{map, flat_map, slice_get, slice_index, Some}
use Rattle.std.specs.List.{list_any, position_or_len}
use Rattle.std.proofs.lemmas.Option.{slice_get_within}
use Rattle.css_domain.specs.declared.record.Record.{Record}
use Rattle.css_domain.specs.Records.{numbers, flags, IsWithin, AreWithin}
use Rattle.css_domain.specs.Meanings.{Meaning}
use Rattle.css_domain.specs.Ledgers.{Books, filings, classes, records, record_of}
use Rattle.css_domain.specs.LedgerFacts.{IsLedger}
use Rattle.css_domain.proofs.Filings.{rules_of_filings, classes_by_rules}
use Rattle.css_domain.proofs.Classes.{block_class}
use Rattle.lists.proofs.Places.{IsIn-slice_get, at_place, found_at, from_get-map, index_is}
use Rattle.lists.proofs.Added.{there_after, position_of}
use Rattle.lists.proofs.Maps.{map-map}
use Rattle.lists.specs.Members.{IsIn}
use Rattle.lists.proofs.Members.{from_IsIn-map, from_IsIn-flat_map, IsIn-flat_map}

module _ {C R : Type 0} (D : Meaning C R) (own : (c : C) → D.same c c ≡ true) (exact : (a b : C) → D.same a b ≡ true → a ≡ b) (l : Books C R) (is : IsLedger D l) where
  pub block_of : (r : R) → IsIn r l.rules → (f : ℕ × List R) × IsIn f (filings l.rules l.journal) × IsIn r f.1
  block_of r i = from_IsIn-flat_map (λ (f : ℕ × List R). f.1) (filings l.rules l.journal) (subst (λ rs. IsIn r rs) (sym (rules_of_filings l.rules l.journal is.all_rules)) i)

  pub rule_holds : (r : R) → IsIn r l.rules → D.holds r
  rule_holds r i = let f = block_of r i in let c = block_class D l is f.0.0 f.0.1 f.1 in (is.filed f.0.0 f.0.1 c.0 f.1 c.1).hold r f.2

  pub parent_there : (r : R) → IsIn r l.rules → list_any (D.same (D.parent r)) (classes D l) ≡ true
  parent_there r i =
      let f = block_of r i in
      let c = block_class D l is f.0.0 f.0.1 f.1 in
      let filing = is.filed f.0.0 f.0.1 c.0 f.1 c.1 in
      subst (λ d. list_any (D.same d) (classes D l) ≡ true) (sym (filing.own r f.2)) (position_of D.same own exact (classes D l) f.0.0 c.0 is.distinct c.1).1

  pub child_there : (r : R) (c : C) → IsIn r l.rules → IsIn c (D.children r) → list_any (D.same c) (classes D l) ≡ true
  child_there r c i j = rw (classes_by_rules D l is.all_rules) (there_after D.same own c (l.root ∷ []) (flat_map D.children l.rules) (IsIn-flat_map D.children i j))

  -- the class of a number that a record has
  pub parent_at : (r : R) → IsIn r l.rules → slice_get (classes D l) (position_or_len (D.same (D.parent r)) (classes D l)) ≡ Some (D.parent r)
  parent_at r i = found_at D.same exact (D.parent r) (classes D l) (parent_there r i)

  pub child_at : (r : R) (c : C) → IsIn r l.rules → IsIn c (D.children r) → slice_get (classes D l) (position_or_len (D.same c) (classes D l)) ≡ Some c
  child_at r c i j = found_at D.same exact c (classes D l) (child_there r c i j)

  pub rule_at : (p : ℕ) (r : Record) → slice_get (records D l) p ≡ Some r → (rule : R) × (slice_get l.rules p ≡ Some rule) × (r ≡ record_of D (classes D l) rule)
  rule_at p r h = from_get-map (λ s. record_of D (classes D l) s) l.rules p r h

  -- the numbers of a record's children
  pub numbers_of : (r : R) → numbers (record_of D (classes D l) r) ≡ map (λ c. position_or_len (D.same c) (classes D l)) (D.children r)
  numbers_of r = map-map {Y = ℕ × Bool} (λ (p : ℕ × Bool). p.0) (λ c. (position_or_len (D.same c) (classes D l), D.positive c)) (D.children r)

  pub flags_of : (r : R) → flags (record_of D (classes D l) r) ≡ map D.positive (D.children r)
  flags_of r = map-map {Y = ℕ × Bool} (λ (p : ℕ × Bool). p.1) (λ c. (position_or_len (D.same c) (classes D l), D.positive c)) (D.children r)

  -- all numbers of the records are those of classes
  pub parent_below : (r : R) → IsIn r l.rules → position_or_len (D.same (D.parent r)) (classes D l) < length (classes D l)
  parent_below r i = slice_get_within (classes D l) (position_or_len (D.same (D.parent r)) (classes D l)) (D.parent r) (parent_at r i)

  pub child_below : (r : R) (slot : ℕ) → IsIn r l.rules → slot < length (numbers (record_of D (classes D l) r)) → slice_index (numbers (record_of D (classes D l) r)) slot < length (classes D l)
  child_below r slot i h =
      let n = at_place (numbers (record_of D (classes D l) r)) slot h in
      let c = from_get-map (λ c. position_or_len (D.same c) (classes D l)) (D.children r) slot n.0 (ap (λ xs. slice_get xs slot) (sym (numbers_of r)) ∙ n.1) in
      let at = child_at r c.0 i (IsIn-slice_get (D.children r) slot c.0 c.1) in
      let e : slice_index (numbers (record_of D (classes D l) r)) slot ≡ position_or_len (D.same c.0) (classes D l) = index_is (numbers (record_of D (classes D l) r)) slot n.0 n.1 ∙ c.2 in
      let w = slice_get_within (classes D l) (position_or_len (D.same c.0) (classes D l)) c.0 at in
      omega (arith, e, w)

  pub record_within : (r : R) → IsIn r l.rules → IsWithin (length (classes D l)) (record_of D (classes D l) r)
  record_within r i = record { own = parent_below r i; child = λ slot h. child_below r slot i h }

  pub records_within : AreWithin (length (classes D l)) (records D l)
  records_within r i =
      let f = from_IsIn-map (λ s. record_of D (classes D l) s) l.rules i in
      subst (IsWithin (length (classes D l))) (sym f.2) (record_within f.0 f.1)
