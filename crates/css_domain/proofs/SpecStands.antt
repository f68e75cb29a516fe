-- A specification by rules of a ledger is a support.
use Rattle.std.proofs.Common.{◌≡◌, ℕ, ◌<◌, true, List, [], ◌∷◌, length, refl, sym, ap, subst, ◌∙◌, arith, ⊎_elim}
use Rattle.std.specs.Prelude.{map, flat_map, slice_get, slice_index, Some}
use Rattle.std.specs.List.{list_any, position_or_len}
use Rattle.std.proofs.lemmas.List.{length-map}
use Rattle.std.proofs.lemmas.Option.{slice_get_within}
use Rattle.css_domain.specs.Records.{numbers, has_same_length}
use Rattle.css_domain.specs.Shapes.{is_same_length}
use Rattle.css_domain.specs.Meanings.{Meaning}
use Rattle.css_domain.specs.Ledgers.{Books, classes, records, record_of}
use Rattle.css_domain.specs.LedgerFacts.{IsLedger}
use Rattle.css_domain.specs.Standing.{Ranked, RestsOn, IsSupport}
use Rattle.css_domain.specs.Reasons.{RootStands}
use Rattle.css_domain.specs.Entries.{Entry, ValidSpec, can_keep_length}
use Rattle.css_domain.proofs.Within.{child_there, numbers_of, flags_of}
use Rattle.css_domain.proofs.Filings.{classes_by_rules}
use Rattle.lists.proofs.Places.{IsIn-slice_get, found_at, get-map, index_is, place_of}
use Rattle.lists.proofs.Added.{grows, kept_there}
use Rattle.lists.proofs.Maps.{map-map}
use Rattle.lists.proofs.Repeats.{distinct_by}
use Rattle.lists.proofs.Numbers.{zero_or_more}
use Rattle.lists.specs.Members.{IsIn, NoRepeats}
use Rattle.lists.proofs.Members.{IsIn-map, from_IsIn-map}

module _ {C R : Type 0} (D : Meaning C R) (own : (c : C) → D.same c c ≡ true) (exact : (a b : C) → D.same a b ≡ true → a ≡ b) (l : Books C R) (is : IsLedger D l) where
  abbrev pub number : C → ℕ
  number c = position_or_len (D.same c) (classes D l)

  pub root_there : list_any (D.same l.root) (classes D l) ≡ true
  root_there = rw (classes_by_rules D l is.all_rules) (kept_there D.same own l.root (l.root ∷ []) (flat_map D.children l.rules) (rw (own l.root) refl))

  pub root_number : number l.root ≡ 0
  root_number = let g = grows D.same (l.root ∷ []) (flat_map D.children l.rules) in rw (classes_by_rules D l is.all_rules, g.1) (rw (own l.root) refl)

  pub same_number : (c d : C) → list_any (D.same c) (classes D l) ≡ true → list_any (D.same d) (classes D l) ≡ true → number c ≡ number d → c ≡ d
  same_number c d i j e =
      let a = found_at D.same exact c (classes D l) i in
      let b = found_at D.same exact d (classes D l) j in
      let f : Some c ≡ Some d = sym a ∙ ap (slice_get (classes D l)) e ∙ b in
      cc

  module _ (entries : List (Entry C R)) (valid : ValidSpec D entries l.root) where
    -- each class but the first is a child of an earlier entry's rule
    pub record IsBorn (i : ℕ) (e : Entry C R) : Type 0 where
      pub j : ℕ
      pub earlier : j < i
      pub by : Entry C R
      pub at : slice_get entries j ≡ Some by
      pub child : IsIn e.class (D.children by.rule)

    pub born : (i : ℕ) (e : Entry C R) → 0 < i → slice_get entries i ≡ Some e → IsBorn i e
    born i e some at =
        let called = valid.spec.called i some (slice_get_within entries i e at) in
        let good = valid.spec.linked called.by (IsIn-slice_get entries called.j called.by called.there) in
        let slot = place_of called.by.children i called.names in
        let named = good.child slot.0 (slice_get_within called.by.children slot.0 i slot.1) in
        let place : slice_get entries i ≡ Some named.named = ap (slice_get entries) (sym (index_is called.by.children slot.0 i slot.1)) ∙ named.there in
        let same : named.named ≡ e = (let p = place in let q = at in cc) in
        record {
          j = called.j;
          earlier = called.earlier;
          by = called.by;
          at = called.there;
          child = subst (λ (d : Entry C R). IsIn d.class (D.children called.by.rule)) same (IsIn-slice_get (D.children called.by.rule) slot.0 named.named.class named.class);
        }

    pub first_class : (e : Entry C R) → slice_get entries 0 ≡ Some e → e.class ≡ l.root
    first_class e at =
        let s = valid.starts in
        let same : e ≡ valid.first = cc in
        ap (λ (d : Entry C R). d.class) same ∙ valid.root

    module _ (filed : (e : Entry C R) → IsIn e entries → IsIn e.rule l.rules) where
      class_there : (e : Entry C R) → IsIn e entries → list_any (D.same e.class) (classes D l) ≡ true
      class_there e h =
          let p = place_of entries e h in
          ⊎_elim {C = list_any (D.same e.class) (classes D l) ≡ true}
          (λ z. subst (λ c. list_any (D.same c) (classes D l) ≡ true) (sym (first_class e (ap (slice_get entries) (sym z) ∙ p.1))) root_there)
          (λ some.
          let b = born p.0 e some p.1 in
          child_there D own exact l is b.by.rule e.class (filed b.by (IsIn-slice_get entries b.j b.by b.at)) b.child)
          (zero_or_more p.0)

      abbrev triple : Entry C R → Ranked
      triple e = record { class = number e.class; by_record = record_of D (classes D l) e.rule; rank = e.rank }

      abbrev triples : List Ranked
      triples = map triple entries

      distinct : NoRepeats (map (λ (t : Ranked). t.class) triples)
      distinct =
          rw (map-map (λ (t : Ranked). t.class) triple entries)
          (distinct_by (λ (e : Entry C R). number e.class) (λ (e : Entry C R). e.class) entries (λ d e i j h. same_number d.class e.class (class_there d i) (class_there e j) h) valid.spec.distinct)

      rests : (e : Entry C R) → IsIn e entries → RestsOn triples (triple e)
      rests e h =
          let good = valid.spec.linked e h in
          record {
            own = ap number good.own;
            child = λ slot small.
                let long : length (numbers (record_of D (classes D l) e.rule)) ≡ length (D.children e.rule) = ap length (numbers_of D own exact l is e.rule) ∙ length-map (D.children e.rule) number in
                let named = good.child slot (omega (arith, small, long, good.as_many)) in
                let at : slice_get (numbers (record_of D (classes D l) e.rule)) slot ≡ Some (number named.named.class) = ap (λ ns. slice_get ns slot) (numbers_of D own exact l is e.rule) ∙ get-map number (D.children e.rule) slot named.named.class named.class in
                let flag : has_same_length (record_of D (classes D l) e.rule) slot ≡ can_keep_length D e.rule slot = ap (λ fs. is_same_length (D.shape e.rule) fs slot) (flags_of D own exact l is e.rule) in (
                  triple named.named,
                  IsIn-map triple (IsIn-slice_get entries (slice_index e.children slot) named.named named.there),
                  sym (index_is (numbers (record_of D (classes D l) e.rule)) slot (number named.named.class) at),
                  λ keeps. named.rank (sym flag ∙ keeps),
                );
          }

      support : IsSupport (records D l) triples
      support =
          record {
            distinct = distinct;
            recorded = λ t h.
                let e = from_IsIn-map triple entries h in
                subst (λ (u : Ranked). IsIn u.by_record (records D l)) (sym e.2) (IsIn-map (λ r. record_of D (classes D l) r) (filed e.0 e.1));
            rests = λ t h.
                let e = from_IsIn-map triple entries h in
                subst (λ (u : Ranked). RestsOn triples u) (sym e.2) (rests e.0 e.1);
          }

      pub root_stands : RootStands D l
      root_stands =
          let first = IsIn-slice_get entries 0 valid.first valid.starts in
          let zeroth : number valid.first.class ≡ 0 = ap number valid.root ∙ root_number in
          record {
            triples = triples;
            support = support;
            there = subst (λ n. IsIn n (map (λ (t : Ranked). t.class) triples)) zeroth (IsIn-map (λ (t : Ranked). t.class) (IsIn-map triple first));
          }
