-- Where each new rule waits for a class without records, nothing stands that didn't.
use Rattle.std.proofs.Common.{◌≡◌, ℕ, zero, suc, ◌<◌, true, List, [], ◌∷◌, length, take, sym, ap, subst, ◌∙◌, ⊎_elim, arith}
use Rattle.std.specs.Prelude.{map, slice_get, Some}
use Rattle.std.specs.List.{range_with_len, position_or_len}
use Rattle.std.proofs.lemmas.Option.{slice_get_within}
use Rattle.std.proofs.lemmas.Bool.{cases_lt}
use Rattle.std.proofs.lemmas.List.{length-map}
use Rattle.lists.specs.Members.IsIn.{here, later}
use Rattle.lists.specs.Members.{IsIn}
use Rattle.lists.proofs.Members.{IsIn-map}
use Rattle.lists.proofs.Added.{position_of}
use Rattle.lists.proofs.Places.{IsIn-slice_get, place_of, get-map, get_index}
use Rattle.lists.proofs.Ranges.{IsIn-range_with_len}
use Rattle.css_domain.specs.declared.record.Record.{Record}
use Rattle.css_domain.specs.Records.{numbers}
use Rattle.css_domain.specs.Meanings.{Meaning}
use Rattle.css_domain.specs.Ledgers.{Books, classes, records, record_of, done}
use Rattle.css_domain.specs.LedgerFacts.{IsLedger}
use Rattle.css_domain.specs.Reasons.{RootStands}
use Rattle.css_domain.specs.Standing.{Ranked, IsSupport, Stands}
use Rattle.css_domain.proofs.Filings.{firsts}
use Rattle.css_domain.proofs.Classes.{block_class}
use Rattle.css_domain.proofs.Within.{block_of, rule_at, numbers_of}
use Rattle.css_crew.specs.Waiting.{Waits, AllWait}

-- an item of a list's front
in_front : {X : Type 0} (xs : List X) (n i : ℕ) (x : X) → slice_get xs i ≡ Some x → i < n → IsIn x (take n xs)
in_front [] n i x e h = absurd cc
in_front (y ∷ xs) zero i x e h = absurd (omega arith)
in_front {X} (y ∷ xs) (suc n) zero x e h = let s : y ≡ x = cc in subst (λ (z : X). IsIn z (y ∷ take n xs)) s here
in_front (y ∷ xs) (suc n) (suc i) x e h = later y (in_front xs n i x e (omega arith))

module _ {C R : Type 0} (D : Meaning C R) (own : (c : C) → D.same c c ≡ true) (exact : (a b : C) → D.same a b ≡ true → a ≡ b) (l : Books C R) (is : IsLedger D l) (turn : done l ≡ range_with_len 0 (length l.journal)) where
  -- a rule's parent is expanded
  parent_done : (r : R) → IsIn r l.rules → position_or_len (D.same (D.parent r)) (classes D l) < length l.journal
  parent_done r i =
      let f = block_of D own exact l is r i in
      let c = block_class D l is f.0.0 f.0.1 f.1 in
      let filing = is.filed f.0.0 f.0.1 c.0 f.1 c.1 in
      let at : slice_get (classes D l) f.0.0 ≡ Some (D.parent r) = c.1 ∙ ap (λ d. Some d) (sym (filing.own r f.2)) in
      let same : position_or_len (D.same (D.parent r)) (classes D l) ≡ f.0.0 = (position_of D.same own exact (classes D l) f.0.0 (D.parent r) is.distinct at).0 in
      let listed : IsIn f.0.0 (range_with_len 0 (length l.journal)) = subst (λ ns. IsIn f.0.0 ns) (firsts l.rules l.journal ∙ turn) (IsIn-map (λ (g : ℕ × List R). g.0) f.1) in
      let bound = (IsIn-range_with_len 0 (length l.journal) f.0.0 listed).1 in
      omega (arith, same, bound)

  -- no class that supports another has a rule that waits
  none_waits : (triples : List Ranked) → IsSupport (records D l) triples → (t : Ranked) → IsIn t triples → (position : ℕ) → slice_get (records D l) position ≡ Some t.by_record → Waits D l position → ⊥
  none_waits triples support t i position e w =
      let rule = rule_at D own exact l is position t.by_record e in
      let one : Some w.rule ≡ Some rule.0 = sym w.there ∙ rule.1 in
      let same_rule : w.rule ≡ rule.0 = cc in
      let number : position_or_len (D.same w.child) (classes D l) ≡ w.number = (position_of D.same own exact (classes D l) w.number w.child is.distinct w.named).0 in
      let listed : slice_get (map (λ c. position_or_len (D.same c) (classes D l)) (D.children w.rule)) w.slot ≡ Some (position_or_len (D.same w.child) (classes D l)) = get-map (λ c. position_or_len (D.same c) (classes D l)) (D.children w.rule) w.slot w.child w.at in
      let told : numbers t.by_record ≡ map (λ c. position_or_len (D.same c) (classes D l)) (D.children w.rule) = ap (λ (r : Record). numbers r) (rule.2) ∙ ap (λ (r : R). numbers (record_of D (classes D l) r)) (sym same_rule) ∙ numbers_of D own exact l is w.rule in
      let at = get_index (numbers t.by_record) w.slot (position_or_len (D.same w.child) (classes D l)) (ap (λ ns. slice_get ns w.slot) told ∙ listed) in
      let u = (support.rests t i).child w.slot at.1 in
      let p = place_of (records D l) u.0.by_record (support.recorded u.0 u.1) in
      let parent = rule_at D own exact l is p.0 u.0.by_record p.1 in
      let low = parent_done parent.0 (IsIn-slice_get l.rules p.0 parent.0 parent.1) in
      let its : u.0.by_record.parent ≡ position_or_len (D.same (D.parent parent.0)) (classes D l) = ap (λ (r : Record). r.parent) parent.2 in
      let of_class : u.0.by_record.parent ≡ u.0.class = (support.rests u.0 u.1).own in
      let late = w.late in
      omega (arith, low, its, of_class, u.2, at.0, number, late)

  -- so the root stood before
  pub root_stood : (n : ℕ) → AllWait D l n → RootStands D l → Stands (take n (records D l)) 0
  root_stood n waiting s = record {
    triples = s.triples;
    support = record {
      distinct = s.support.distinct;
      recorded = λ t i.
          let p = place_of (records D l) t.by_record (s.support.recorded t i) in
          let within = slice_get_within (records D l) p.0 t.by_record p.1 in
          ⊎_elim {C = IsIn t.by_record (take n (records D l))} (λ less. in_front (records D l) n p.0 t.by_record p.1 less)
          (λ more. absurd (none_waits s.triples s.support t i p.0 p.1 (waiting p.0 more (omega (arith, within, length-map l.rules (λ r. record_of D (classes D l) r))))))
          (cases_lt p.0 n);
      rests = s.support.rests;
    };
    there = s.there;
  }
