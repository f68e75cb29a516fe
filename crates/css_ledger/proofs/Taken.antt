-- A filing is taken in, as the ledger's fields show it.
use Rattle.std.proofs.Common.{◌≡◌, ℕ, ◌+◌, ◌-◌, ◌^◌, ◌<◌, ◌≤◌, Bool, true, List, [], ◌∷◌, ◌++◌, length, length-append, take, replicate, refl, arith, sym, ap, subst, ◌∙◌}
use Rattle.std.specs.Prelude.{map, flat_map, slice_get, slice_set, Some}
use Rattle.std.specs.Cmp.{IsEquivalence}
use Rattle.css_domain.specs.declared.record.Record.{Record}
use Rattle.css_domain.specs.Meanings.{Meaning}
use Rattle.css_domain.specs.Ledgers.{Books, classes, records, with_filing}
use Rattle.css_domain.specs.LedgerFacts.{IsFilingOf}
use Rattle.css_ledger.specs.declared.stage.Stage.{Stage}
use Rattle.css_ledger.specs.declared.stage.Stage.TheVariants.{Fresh, Done}
use Rattle.css_ledger.specs.Stages.{outs, IsNoneFresh}
use Rattle.css_ledger.proofs.Outs.{none_fresh_set, none_fresh_more}
use Rattle.css_ledger.specs.Kept.{AreKept}
use Rattle.css_ledger.specs.Numbered.{record_with}
use Rattle.css_ledger.proofs.Filed.{fits, filed_fields, old_classes, old_records_first}
use Rattle.lists.specs.Added.{with_all_new}
use Rattle.lists.specs.Members.{IsIn}

module _ {C R : Type 0} (D : Meaning C R) (E : C → C → Bool) (laws : IsEquivalence E) (same : (a b : C) → D.same a b ≡ E a b) (exact : (a b : C) → E a b ≡ true → a ≡ b) where
  pub own : (c : C) → D.same c c ≡ true
  own c = same c c ∙ laws.refl c

  exactly : (a b : C) → D.same a b ≡ true → a ≡ b
  exactly a b h = exact a b (sym (same a b) ∙ h)

  module _ (l : Books C R) (keys : List C) (stages : List Stage) (items : List Record) (count : ℕ) (kept : AreKept D l keys stages items count) (out_is : l.out ≡ outs stages) (seen : Books C R) (view : l ≡ seen) (n : ℕ) (more : List R) (out : IsIn n seen.out) (filing : (c : C) → slice_get (classes D seen) n ≡ Some c → IsFilingOf D seen.rulebook c more) where
    there : IsIn n l.out
    there = subst (λ b. IsIn n b.out) (sym view) out

    ok : (c : C) → slice_get (classes D l) n ≡ Some c → IsFilingOf D l.rulebook c more
    ok = subst (λ (b : Books C R). (c : C) → slice_get (classes D b) n ≡ Some c → IsFilingOf D b.rulebook c more) (sym view) filing

    pub sizes : (length keys + length (flat_map D.children more) < 2 ^ 28) × (length more < 2 ^ 28) × (1 ≤ count) × (n < length stages)
    sizes = fits D own exactly l keys stages items count kept out_is n more there ok

    pub taken : (new_keys : List C) (new_stages : List Stage) (new_rules : List R) (new_items : List Record) (new_journal : List (ℕ × ℕ)) → new_keys ≡ with_all_new D.same keys (flat_map D.children more) → new_stages ≡ stages ++ replicate (length new_keys - length keys) Fresh → new_rules ≡ l.rules ++ more → new_items ≡ items ++ map (record_with D n new_keys) more → new_journal ≡ l.journal ++ (n, length more) ∷ [] → AreKept D (record l { rules = new_rules; journal = new_journal; out = outs (slice_set new_stages n Done) }) new_keys (slice_set new_stages n Done) new_items (count - 1)
    taken new_keys new_stages new_rules new_items new_journal k s r i j = rw (r, j) (filed_fields D own exactly l keys stages items count kept out_is n more there ok new_keys k new_stages s new_items i).0

    pub seen_after : (new_keys : List C) (new_stages : List Stage) (new_rules : List R) (new_items : List Record) (new_journal : List (ℕ × ℕ)) → new_keys ≡ with_all_new D.same keys (flat_map D.children more) → new_stages ≡ stages ++ replicate (length new_keys - length keys) Fresh → new_rules ≡ l.rules ++ more → new_items ≡ items ++ map (record_with D n new_keys) more → new_journal ≡ l.journal ++ (n, length more) ∷ [] → record l { rules = new_rules; journal = new_journal; out = outs (slice_set new_stages n Done) } ≡ with_filing seen n more
    seen_after new_keys new_stages new_rules new_items new_journal k s r i j =
        let o = (filed_fields D own exactly l keys stages items count kept out_is n more there ok new_keys k new_stages s new_items i).1 in
        (λ m. record { root = l.root; budget = l.budget; rulebook = l.rulebook; rules = r m; journal = j m; out = o m }) ∙ ap (λ b. with_filing b n more) view

    pub classes_stay : take (length (classes D seen)) (classes D (with_filing seen n more)) ≡ classes D seen
    classes_stay = subst (λ (b : Books C R). take (length (classes D b)) (classes D (with_filing b n more)) ≡ classes D b) view (old_classes D own exactly l keys stages items count kept out_is n more there ok)

    pub records_stay : take (length seen.rules) (records D (with_filing seen n more)) ≡ records D seen
    records_stay = subst (λ (b : Books C R). take (length b.rules) (records D (with_filing b n more)) ≡ records D b) view (old_records_first D own exactly l keys stages items count kept out_is n more there ok)

    -- no class below the mark is fresh then
    pub mark_stays : (low k : ℕ) (new_stages : List Stage) → IsNoneFresh low stages → new_stages ≡ stages ++ replicate k Fresh → IsNoneFresh low (slice_set new_stages n Done)
    mark_stays low k new_stages f s = rw s (none_fresh_set low n (stages ++ replicate k Fresh) Done refl (omega (arith, sizes.3, length-append stages (replicate k Fresh))) (none_fresh_more low stages k f))
