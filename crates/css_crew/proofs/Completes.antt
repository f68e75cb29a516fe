-- One more filing, and filings that are complete.
use Rattle.std.proofs.Common.{◌≡◌, ℕ, zero, suc, ◌<◌, true, List, [], ◌∷◌, ◌++◌, length, take, drop, refl, sym, ap, subst, ◌∙◌, ⊎_elim, arith}
use Rattle.std.specs.Prelude.{flat_map, slice_get, Option, Some, None, sum_by}
use Rattle.std.proofs.lemmas.List.{map-append, length-drop, length-take-le}
use Rattle.std.proofs.lemmas.List.Sums.{sum_by-cons}
use Rattle.std.proofs.lemmas.Option.{slice_get_within}
use Rattle.lists.specs.Members.{IsIn, NoRepeats}
use Rattle.lists.specs.Members.NoRepeats.{no_element, one_more}
use Rattle.lists.proofs.Members.{none_in, IsIn-append_cases, IsIn-map, only_in}
use Rattle.lists.proofs.Repeats.{NoRepeats-append}
use Rattle.lists.proofs.Added.{grows}
use Rattle.lists.proofs.Places.{get_left, place_of, IsIn-slice_get}
use Rattle.css_domain.specs.Meanings.{Meaning}
use Rattle.css_domain.specs.Ledgers.{Books, filings, classes, done, is_among, with_filing, without}
use Rattle.css_domain.specs.LedgerFacts.{IsLedger}
use Rattle.css_domain.specs.Reasons.{AreFilingsComplete, Alone}
use Rattle.css_domain.proofs.Filings.{filings_more, classes_more, firsts, length-filings}
use Rattle.css_domain.proofs.Classes.{done_within}
use Rattle.css_domain.proofs.Finding.{among_from_in}
use Rattle.css_crew.specs.declared.reason.Reason.{Reason as Answer}
use Rattle.css_crew.specs.Crews.{IsFilled, IsMore, GoesOn, IsCompleteAt}
use Rattle.css_crew.proofs.Turns.{claimed_fresh}

pair_of : {X Y : Type 0} (x y : X × Y) → x ≡ y → (x.0 ≡ y.0) × (x.1 ≡ y.1)
pair_of x y e = (ap (λ p. p.0) e, ap (λ p. p.1) e)

-- a filing's number and its number of rules stand at its place of the journal
pub block_at : {R : Type 0} (rules : List R) (journal : List (ℕ × ℕ)) (k : ℕ) (f : ℕ × List R) → length rules ≡ sum_by (λ (p : ℕ × ℕ). p.1) journal → slice_get (filings rules journal) k ≡ Some f → (p : ℕ × ℕ) × (slice_get journal k ≡ Some p) × (p.0 ≡ f.0) × (p.1 ≡ length f.1)
block_at rules [] k f h e = absurd cc
block_at {R} rules (p ∷ journal) zero f h e =
    let s = sum_by-cons (λ (q : ℕ × ℕ). q.1) p journal in
    let long = length-take-le p.1 rules (omega (arith, h, s)) in
    let q : (p.0, take p.1 rules) ≡ f = some_is e in
    (p, refl, ap (λ (g : ℕ × List R). g.0) q, sym long ∙ ap (λ (g : ℕ × List R). length g.1) q)
  where
    some_is : {x y : ℕ × List R} → Some x ≡ Some y → x ≡ y
    some_is e = cc
block_at {R} rules (p ∷ journal) (suc k) f h e =
    let s = sum_by-cons (λ (q : ℕ × ℕ). q.1) p journal in
    block_at (drop p.1 rules) journal k f (omega (arith, h, s, length-drop p.1 rules)) e

no_rules : {R : Type 0} (rules : List R) → length rules ≡ 0 → rules ≡ []
no_rules [] e = refl
no_rules (r ∷ rules) e = absurd (omega (arith, e))

module _ {C R : Type 0} (D : Meaning C R) where
  -- a filing with rules is complete
  pub with_rules : (l : Books C R) → IsLedger D l → (place : ℕ) (p : ℕ × ℕ) → slice_get l.journal place ≡ Some p → (p.1 ≡ 0 → ⊥) → IsCompleteAt D l place
  with_rules l is place p e some n rules c f at =
      let b = block_at l.rules l.journal place (n, rules) is.all_rules f in
      let same : b.0 ≡ p = (let x = b.1 in cc) in
      (is.filed n rules c (IsIn-slice_get (filings l.rules l.journal) place (n, rules) f) at).complete (λ none. some (sym (ap (λ (q : ℕ × ℕ). q.1) same) ∙ b.3 ∙ ap length none))

  -- one without rules is complete where its class has none
  pub without_rules : (l : Books C R) → IsLedger D l → (place : ℕ) (p : ℕ × ℕ) (class : C) (rules : List R) → slice_get l.journal place ≡ Some p → p.1 ≡ 0 → slice_get (classes D l) p.0 ≡ Some class → D.complete l.rulebook class rules → length rules ≡ 0 → IsCompleteAt D l place
  without_rules l is place p class given e none at whole empty n rules c f here =
      let b = block_at l.rules l.journal place (n, rules) is.all_rules f in
      let same : b.0 ≡ p = (let x = b.1 in cc) in
      let number : p.0 ≡ n = sym (ap (λ (q : ℕ × ℕ). q.0) same) ∙ b.2 in
      let one : class ≡ c = (let x = at in let y = subst (λ (m : ℕ). slice_get (classes D l) m ≡ Some c) (sym number) here in cc) in
      let nothing : rules ≡ [] = no_rules rules (sym b.3 ∙ ap (λ (q : ℕ × ℕ). q.1) same ∙ none) in
      subst (λ (d : C). D.complete l.rulebook d rules) one (subst (λ (rs : List R). D.complete l.rulebook class rs) (no_rules given empty ∙ sym nothing) whole)

  -- each filing is complete where the one at each place is
  pub each_complete : (l : Books C R) → IsLedger D l → ((place : ℕ) → place < length l.journal → IsCompleteAt D l place) → AreFilingsComplete D l
  each_complete l is each = record {
    once = is.once;
    complete = λ n rules c i at.
        let p = place_of {X = ℕ × List R} (filings l.rules l.journal) (n, rules) i in
        let small = slice_get_within (filings l.rules l.journal) p.0 (n, rules) p.1 in
        each p.0 (omega (arith, small, length-filings l.rules l.journal)) n rules c p.1 at;
  }

  -- the ledger of one worker is filled
  pub alone_filled : (root : C) (budget rulebook : ℕ) (l : Books C R) → Alone D root budget rulebook l → IsFilled D root budget rulebook l
  alone_filled root budget rulebook l alone = record { of_root = alone.of_root; of_budget = alone.of_budget; of_rulebook = alone.of_rulebook; none_out = alone.none_out; complete = alone.complete }

  module _ (l : Books C R) (is : IsLedger D l) (complete : AreFilingsComplete D l) (n : ℕ) (more : List R) (class : C) (at : slice_get (classes D l) n ≡ Some class) (whole : D.complete l.rulebook class more) where
    -- the old classes keep their numbers
    left : (m : ℕ) (c : C) → m < length (classes D l) → slice_get (classes D (with_filing l n more)) m ≡ Some c → slice_get (classes D l) m ≡ Some c
    left m c h e =
        let g = grows D.same (classes D l) (flat_map D.children more) in
        sym (get_left (classes D l) g.0 m h) ∙ ap (λ cs. slice_get cs m) (sym (classes_more D l n more is.all_rules ∙ g.1)) ∙ e

    pub complete_more : NoRepeats (done (with_filing l n more)) → AreFilingsComplete D (with_filing l n more)
    complete_more once =
        record {
          once = once;
          complete = λ m rules c i e.
              ⊎_elim {C = D.complete l.rulebook c rules}
              (λ j.
              let first : IsIn m (done l) = subst (λ xs. IsIn m xs) (firsts l.rules l.journal) (IsIn-map (λ (f : ℕ × List R). f.0) j) in
              complete.complete m rules c j (left m c (done_within D l is m first) e))
              (λ j.
              let p = pair_of (m, rules) (n, more) (only_in j) in
              let small = slice_get_within (classes D l) n class at in
              let here = left n c small (ap (slice_get (classes D (with_filing l n more))) (sym p.0) ∙ e) in
              let same : class ≡ c = (let a = at in cc) in
              subst (λ d. D.complete l.rulebook d rules) same (subst (λ rs. D.complete l.rulebook class rs) (sym p.1) whole))
              (IsIn-append_cases (filings l.rules l.journal) ((n, more) ∷ []) (subst (λ fs. IsIn (m, rules) fs) (filings_more l.rules more l.journal n is.all_rules) i));
        }

  pub more_if_none : (l new : Books C R) (o : Option Answer) → ((a : Answer) → o ≡ Some a → ⊥) → GoesOn D l new o → IsMore D l new
  more_if_none l new None never goes = goes
  more_if_none l new (Some a) never goes = absurd (never a refl)

  -- a ledger that is filled stays so by one more filing
  pub more_filled : (root : C) (budget rulebook : ℕ) (l new : Books C R) → IsLedger D l → IsFilled D root budget rulebook l → IsMore D l new → IsFilled D root budget rulebook new
  more_filled root budget rulebook l new is filled more =
      let fresh = (claimed_fresh D l filled.none_out more.number more.next).1 in
      let done_more : done (with_filing l more.number more.rules) ≡ done l ++ more.number ∷ [] = map-append (λ (p : ℕ × ℕ). p.0) l.journal ((more.number, length more.rules) ∷ []) in
      let apart : (m : ℕ) → IsIn m (done l) → IsIn m (more.number ∷ []) → ⊥ = λ m i j. absurd (let t = among_from_in m (done l) i in let s = only_in j in let u : is_among more.number (done l) ≡ true = subst (λ (k : ℕ). is_among k (done l) ≡ true) s t in cc) in
      let once : NoRepeats (done (with_filing l more.number more.rules)) = subst NoRepeats (sym done_more) (NoRepeats-append is.once (one_alone more.number) apart) in
      subst (IsFilled D root budget rulebook) (sym more.filed)
      (record {
        of_root = filled.of_root;
        of_budget = filled.of_budget;
        of_rulebook = filled.of_rulebook;
        none_out = ap (without more.number) filled.none_out;
        complete = complete_more l is filled.complete more.number more.rules more.class more.at more.expansion.whole once;
      })
    where
      one_alone : (n : ℕ) → NoRepeats (n ∷ [])
      one_alone n = one_more (λ i. none_in i) no_element
