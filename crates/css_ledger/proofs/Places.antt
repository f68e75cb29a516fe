-- A child's number is the place of its class.
use Rattle.std.proofs.Common.{◌≡◌, ◌<◌, ℕ, Bool, true, false, List, length, get_or, sym, ap, ◌∙◌}
use Rattle.std.specs.Prelude.{slice_get, Some}
use Rattle.std.specs.List.{position_or_len}
use Rattle.std.specs.Cmp.{IsEquivalence}
use Rattle.std.proofs.lemmas.List.{length-map}
use Rattle.css_domain.specs.declared.record.Record.{Record}
use Rattle.css_domain.specs.Meanings.{Meaning}
use Rattle.css_domain.specs.Ledgers.{Books, classes, records, record_of}
use Rattle.css_ledger.specs.declared.stage.Stage.{Stage}
use Rattle.css_ledger.specs.Stages.{outs}
use Rattle.css_ledger.specs.Kept.{AreKept}
use Rattle.std.proofs.lemmas.Option.{get_or_from_slice_get}
use Rattle.css_domain.proofs.Within.{child_there}
use Rattle.css_ledger.proofs.Taken.{own}
use Rattle.lists.proofs.Places.{IsIn-slice_get, at_place, found_at, get-map}

module _ {C R : Type 0} (D : Meaning C R) (E : C → C → Bool) (laws : IsEquivalence E) (same : (a b : C) → D.same a b ≡ E a b) (exact : (a b : C) → E a b ≡ true → a ≡ b) where
  module _ (l : Books C R) (keys : List C) (stages : List Stage) (items : List Record) (count : ℕ) (kept : AreKept D l keys stages items count) (out_is : l.out ≡ outs stages) where
    rec_at : (p : ℕ) (r : R) → slice_get l.rules p ≡ Some r → (d : Record) → get_or items p d ≡ record_of D (classes D l) r
    rec_at p r at d = ap (λ rs. get_or rs p d) kept.recorded ∙ get_or_from_slice_get (records D l) p (record_of D (classes D l) r) d (get-map (λ s. record_of D (classes D l) s) l.rules p r at)

    pub child_at : (p slot : ℕ) (d : Record) → (r : R) (c : C) → slice_get l.rules p ≡ Some r → slice_get (D.children r) slot ≡ Some c → slice_get (classes D l) (get_or {A = ℕ × Bool} (get_or items p d).children slot (0, false)).0 ≡ Some c
    child_at p slot d r c at child =
        let e = rec_at p r at d in
        let got : get_or {A = ℕ × Bool} (record_of D (classes D l) r).children slot (0, false) ≡ (position_or_len (D.same c) (classes D l), D.positive c) = get_or_from_slice_get {X = ℕ × Bool} (record_of D (classes D l) r).children slot (position_or_len (D.same c) (classes D l), D.positive c) (0, false) (get-map {Y = ℕ × Bool} (λ b. (position_or_len (D.same b) (classes D l), D.positive b)) (D.children r) slot c child) in
        let there = child_there D (own D E laws same exact) (λ a b h. exact a b (sym (same a b) ∙ h)) l kept.ledger r c (IsIn-slice_get l.rules p r at) (IsIn-slice_get (D.children r) slot c child) in
        rw (e, got) (found_at D.same (λ a b h. exact a b (sym (same a b) ∙ h)) c (classes D l) there)

    pub as_many_children : (p : ℕ) (d : Record) (r : R) → slice_get l.rules p ≡ Some r → length (get_or items p d).children ≡ length (D.children r)
    as_many_children p d r at = rw (rec_at p r at d) (length-map {B = ℕ × Bool} (D.children r) (λ b. (position_or_len (D.same b) (classes D l), D.positive b)))

    -- what stands at a position is the rule's record
    pub record_there : (p : ℕ) (d : Record) → p < length l.rules → slice_get (records D l) p ≡ Some (get_or items p d)
    record_there p d h =
        let r = at_place l.rules p h in
        get-map (λ s. record_of D (classes D l) s) l.rules p r.0 r.1 ∙ ap Some (sym (rec_at p r.0 r.1 d))
