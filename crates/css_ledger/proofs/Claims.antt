-- What a claim finds, and what it leaves.
use Rattle.std.proofs.Common.{◌≡◌, ℕ, zero, suc, ◌+◌, ◌-◌, ◌^◌, ◌<◌, ◌≤◌, Bool, true, false, cond, nat_lt, List, [], ◌∷◌, length, refl, sym, ap, subst, ◌∙◌, ⊎_elim, arith}
use Rattle.std.specs.Prelude.{◌&&◌, ◌==◌, not, filter, slice_set, Some, None, position}
use Rattle.std.specs.List.{list_all, range_with_len, position_or_len}
use Rattle.std.specs.List.Sorted.{IsStrictlySortedBy}
use Rattle.std.specs.Ordering.{nat_cmp}
use Rattle.lists.specs.Members.NoRepeats.{no_element, one_more}
use Rattle.lists.proofs.Members.{none_in}
use Rattle.std.proofs.lemmas.Bool.Decides.{nat_tests}
use Rattle.css_domain.specs.declared.record.Record.{Record}
use Rattle.css_domain.specs.Meanings.{Meaning}
use Rattle.css_domain.specs.Ledgers.{Books, classes, done, is_among, without, fresh, is_all_done, claimed, work, new_books, with_work, given_back}
use Rattle.css_domain.specs.Ledgers.Claimed.{Work, Idle, Spent, Finished}
use Rattle.css_domain.specs.LedgerFacts.{IsLedger}
use Rattle.sequences.specs.Ascending.{insert_new}
use Rattle.css_ledger.specs.declared.stage.Stage.{Stage}
use Rattle.css_ledger.specs.declared.stage.Stage.TheVariants.{Fresh, Out, Done}
use Rattle.css_ledger.specs.Stages.{is_fresh, is_out, is_done, stage_at, outs}
use Rattle.css_ledger.specs.Kept.{AreKept}
use Rattle.css_domain.proofs.Finding.{among_from_in, same_or_other}
use Rattle.css_domain.proofs.Sizes.{few_classes, few_rules}
use Rattle.css_ledger.proofs.Outs.{none_at, some_at, is_out_by_stage, outs_set_out, outs_set_other, outs_ascend, length-outs_set, stage_set_same, stage_set_other, within_if_out, work_is, all_done_outs, list_all_stages, length-set_stage, first_is_fresh, made_fresh, without_absent, without_inserted}

module _ {C R : Type 0} (D : Meaning C R) where
  pub opened : (c : C) (budget rulebook : ℕ) → 1 ≤ budget → budget ≤ 5000 → AreKept D (new_books c budget rulebook) (c ∷ []) (Fresh ∷ []) [] 0
  unfolding IsStrictlySortedBy
  opened c budget rulebook some few =
      record {
        replayed = refl;
        recorded = refl;
        as_many = refl;
        staged = stage;
        counted = refl;
        ledger = record {
          some_budget = some;
          few_budget = few;
          distinct = one_more none_in no_element;
          once = no_element;
          numbered = λ k h. absurd (omega (arith, h));
          all_rules = refl;
          out_ascends = tt;
          out_numbered = λ n h. absurd (none_in h);
          out_not_done = λ n h. absurd (none_in h);
          within = omega arith;
          filed = λ n rules d h. absurd (none_in h);
        };
      }
    where
      stage : (n : ℕ) → is_done (stage_at (Fresh ∷ []) n) ≡ false
      stage zero = refl
      stage (suc n) = refl

  -- other numbers are out
  pub ledger_with_out : (l : Books C R) (stages : List Stage) → IsLedger D l → length stages ≡ length (classes D l) → ((n : ℕ) → is_done (stage_at stages n) ≡ is_among n (done l)) → length (outs stages) + length l.journal ≤ l.budget → IsLedger D (record l { out = outs stages })
  ledger_with_out l stages is many staged within =
      record {
        some_budget = is.some_budget;
        few_budget = is.few_budget;
        distinct = is.distinct;
        once = is.once;
        numbered = is.numbered;
        all_rules = is.all_rules;
        out_ascends = outs_ascend stages;
        out_numbered = λ n h. let o = sym (is_out_by_stage n stages) ∙ among_from_in n (outs stages) h in omega (arith, within_if_out n stages o, many);
        out_not_done = λ n h g.
            let o = sym (is_out_by_stage n stages) ∙ among_from_in n (outs stages) h in
            let d = staged n ∙ among_from_in n (done l) g in
            not_both (stage_at stages n) o d;
        within = within;
        filed = is.filed;
      }
    where
      not_both : (s : Stage) → is_out s ≡ true → is_done s ≡ true → ⊥
      not_both Fresh o d = cc
      not_both Out o d = cc
      not_both Done o d = cc

  module _ (l : Books C R) (keys : List C) (stages : List Stage) (items : List Record) (count : ℕ) (kept : AreKept D l keys stages items count) (out_is : l.out ≡ outs stages) where
    many : length stages ≡ length (classes D l)
    many = kept.as_many ∙ ap length kept.replayed

    fresh_test : (n : ℕ) → (not (is_among n (done l)) && not (is_among n l.out)) ≡ is_fresh (stage_at stages n)
    fresh_test n = rw (sym (kept.staged n), out_is, is_out_by_stage n stages) (by (stage_at stages n))
      where
        by : (s : Stage) → (not (is_done s) && not (is_out s)) ≡ is_fresh s
        by Fresh = refl
        by Out = refl
        by Done = refl

    work_by_stage : work (fresh D l) ≡ cond (nat_lt (position_or_len is_fresh stages) (length stages)) (Work (position_or_len is_fresh stages)) Idle
    work_by_stage =
        let z : 0 + position_or_len is_fresh stages ≡ position_or_len is_fresh stages = omega arith in
        ap (λ k. work (filter (λ n. not (is_among n (done l)) && not (is_among n l.out)) (range_with_len 0 k))) (sym many)
        ∙ work_is (λ n. not (is_among n (done l)) && not (is_among n l.out)) 0 stages (λ i. (let e : 0 + i ≡ i = omega arith in ap (λ n. not (is_among n (done l)) && not (is_among n l.out)) e) ∙ fresh_test i)
        ∙ ap (λ k. cond (nat_lt (position_or_len is_fresh stages) (length stages)) (Work k) Idle) z

    done_by_stage : is_all_done D l ≡ (not (nat_lt (position_or_len is_fresh stages) (length stages)) && (count == 0))
    done_by_stage =
        ap (λ k. list_all (λ n. is_among n (done l)) (range_with_len 0 k)) (sym many)
        ∙ list_all_stages (λ n. is_among n (done l)) 0 stages (λ i. (let e : 0 + i ≡ i = omega arith in ap (λ n. is_among n (done l)) e) ∙ sym (kept.staged i))
        ∙ all_done_outs stages
        ∙ ap (λ k. not (nat_lt (position_or_len is_fresh stages) (length stages)) && (k == 0)) (sym (kept.counted ∙ ap length out_is))

    -- what is claimed, by the stages
    pub claim_is : claimed D l ≡ cond (not (nat_lt (position_or_len is_fresh stages) (length stages)) && (count == 0)) Finished (cond (count + length l.journal == l.budget) Spent (cond (nat_lt (position_or_len is_fresh stages) (length stages)) (Work (position_or_len is_fresh stages)) Idle))
    claim_is = rw (done_by_stage, sym kept.counted, work_by_stage) refl

    -- the least fresh class is out now
    pub kept_out : (n : ℕ) → n < length stages → is_fresh (stage_at stages n) ≡ true → (count + length l.journal ≡ l.budget → ⊥) → AreKept D (record l { out = outs (slice_set stages n Out) }) keys (slice_set stages n Out) items (count + 1)
    kept_out n small f room =
        record {
          replayed = kept.replayed;
          recorded = kept.recorded;
          as_many = length-set_stage stages n Out ∙ kept.as_many;
          staged = staged_out;
          counted = counted_out;
          ledger = ledger_with_out l (slice_set stages n Out) kept.ledger (length-set_stage stages n Out ∙ many) staged_out (omega (arith, counted_out, kept.counted, kept.ledger.within, room));
        }
      where
        fresh_only : (s : Stage) → is_fresh s ≡ true → (is_out s ≡ false) × (is_done s ≡ false)
        fresh_only Fresh e = (refl, refl)
        fresh_only Out e = absurd cc
        fresh_only Done e = absurd cc

        staged_out : (m : ℕ) → is_done (stage_at (slice_set stages n Out) m) ≡ is_among m (done l)
        staged_out m =
            ⊎_elim {C = is_done (stage_at (slice_set stages n Out) m) ≡ is_among m (done l)}
            (λ e. ap is_done (subst (λ k. stage_at (slice_set stages n Out) k ≡ Out) e (stage_set_same n stages Out small)) ∙ sym (fresh_only (stage_at stages n) f).1 ∙ ap (λ k. is_done (stage_at stages k)) e ∙ kept.staged m)
            (λ o. ap is_done (stage_set_other n m stages Out o) ∙ kept.staged m)
            (same_or_other n m)

        counted_out : count + 1 ≡ length (outs (slice_set stages n Out))
        counted_out =
            let e = length-outs_set n stages Out small in
            let o = (fresh_only (stage_at stages n) f).0 in
            let g : length (outs (slice_set stages n Out)) + cond (is_out (stage_at stages n)) 1 0 ≡ length (outs (slice_set stages n Out)) = rw o (omega arith) in
            omega (arith, e, g, kept.counted, ap length out_is)

    pub out_now : (n : ℕ) → n < length stages → is_fresh (stage_at stages n) ≡ true → outs (slice_set stages n Out) ≡ insert_new nat_cmp n l.out
    out_now n small f = outs_set_out n stages small (by (stage_at stages n) f) ∙ ap (insert_new nat_cmp n) (sym out_is)
      where
        by : (s : Stage) → is_fresh s ≡ true → is_out s ≡ false
        by Fresh e = refl
        by Out e = absurd cc
        by Done e = refl

    -- what is claimed where none is fresh
    pub claim_none : None ≡ position is_fresh stages → cond (count == 0) Finished (cond (count + length l.journal == l.budget) Spent Idle) ≡ claimed D l
    claim_none e = sym (claim_is ∙ rw (none_at (nat_lt (position_or_len is_fresh stages) (length stages)) (position_or_len is_fresh stages) e) refl)

    pub claim_nothing : None ≡ position is_fresh stages → l ≡ with_work l (claimed D l)
    claim_nothing e = sym (nothing (count == 0) (count + length l.journal == l.budget)) ∙ ap (with_work l) (claim_none e)
      where
        nothing : (a b : Bool) → with_work l (cond a Finished (cond b Spent Idle)) ≡ l
        nothing true b = refl
        nothing false true = refl
        nothing false false = refl

    pub claim_no_work : None ≡ position is_fresh stages → (n : ℕ) → claimed D l ≡ Work n → ⊥
    claim_no_work e n h = never (count == 0) (count + length l.journal == l.budget) (claim_none e ∙ h)
      where
        never : (a b : Bool) → cond a Finished (cond b Spent Idle) ≡ Work n → ⊥
        never true b f = cc
        never false true f = cc
        never false false f = cc

    -- and where one is
    pub claim_spent : (n : ℕ) → Some n ≡ position is_fresh stages → count + length l.journal ≡ l.budget → Spent ≡ claimed D l
    claim_spent n e s =
        let t : (count + length l.journal == l.budget) ≡ true = grind (arith, nat_tests) in
        sym (claim_is ∙ rw ((some_at (nat_lt (position_or_len is_fresh stages) (length stages)) (position_or_len is_fresh stages) n e).0, t) refl)

    pub claim_work : (n : ℕ) → Some n ≡ position is_fresh stages → (count + length l.journal ≡ l.budget → ⊥) → Work n ≡ claimed D l
    claim_work n e s =
        let t : (count + length l.journal == l.budget) ≡ false = grind (arith, nat_tests) in
        let a = some_at (nat_lt (position_or_len is_fresh stages) (length stages)) (position_or_len is_fresh stages) n e in
        sym (claim_is ∙ rw (a.0, t) (ap Work a.1))

    pub first_at : (n : ℕ) → Some n ≡ position is_fresh stages → n ≡ position_or_len is_fresh stages
    first_at n e = sym (some_at (nat_lt (position_or_len is_fresh stages) (length stages)) (position_or_len is_fresh stages) n e).1

    pub few_stages : length stages < 2 ^ 28
    few_stages = omega (arith, many, few_classes D l kept.ledger, kept.ledger.within, kept.ledger.few_budget)

    pub few_rules_filed : length l.rules < 2 ^ 28
    few_rules_filed = omega (arith, few_rules D l kept.ledger, kept.ledger.within, kept.ledger.few_budget)

    pub found_fresh : (n : ℕ) → Some n ≡ position is_fresh stages → (n < length stages) × (is_fresh (stage_at stages n) ≡ true)
    found_fresh n e =
        let a = some_at (nat_lt (position_or_len is_fresh stages) (length stages)) (position_or_len is_fresh stages) n e in
        let small : position_or_len is_fresh stages < length stages = (let t = a.0 in grind (arith, nat_tests)) in
        (omega (arith, small, a.1), subst (λ k. is_fresh (stage_at stages k) ≡ true) a.1 (first_is_fresh stages small))

    -- a class that was out is fresh again
    pub kept_back : (n : ℕ) → is_out (stage_at stages n) ≡ true → AreKept D (record l { out = outs (slice_set stages n Fresh) }) keys (slice_set stages n Fresh) items (count - 1) × (1 ≤ count) × (n < length stages) × (outs (slice_set stages n Fresh) ≡ without n l.out)
    kept_back n o = (
      record {
        replayed = kept.replayed;
        recorded = kept.recorded;
        as_many = length-set_stage stages n Fresh ∙ kept.as_many;
        staged = staged_back;
        counted = omega (arith, counted_back);
        ledger = ledger_with_out l (slice_set stages n Fresh) kept.ledger (length-set_stage stages n Fresh ∙ many) staged_back (omega (arith, counted_back, kept.counted, kept.ledger.within));
      },
      omega (arith, counted_back),
      small,
      outs_set_other n stages Fresh refl small ∙ ap (without n) (sym out_is),
    )
      where
        small : n < length stages
        small = within_if_out n stages o

        staged_back : (m : ℕ) → is_done (stage_at (slice_set stages n Fresh) m) ≡ is_among m (done l)
        staged_back m = made_fresh stages n o m ∙ kept.staged m

        counted_back : length (outs (slice_set stages n Fresh)) + 1 ≡ count
        counted_back =
            let e = length-outs_set n stages Fresh small in
            let g : length (outs (slice_set stages n Fresh)) + cond (is_out (stage_at stages n)) 1 0 ≡ length (outs (slice_set stages n Fresh)) + 1 = rw o refl in
            omega (arith, e, g, kept.counted, ap length out_is)

    pub unchanged_back : (n : ℕ) → is_out (stage_at stages n) ≡ false → without n l.out ≡ l.out
    unchanged_back n o = without_absent n l.out (ap (is_among n) out_is ∙ is_out_by_stage n stages ∙ o)

    -- none is out any more
    pub kept_recalled : (new : List Stage) → length new ≡ length stages → outs new ≡ [] → ((n : ℕ) → is_done (stage_at new n) ≡ is_done (stage_at stages n)) → AreKept D (record l { out = outs new }) keys new items 0
    kept_recalled new m none d =
        record {
          replayed = kept.replayed;
          recorded = kept.recorded;
          as_many = m ∙ kept.as_many;
          staged = λ n. d n ∙ kept.staged n;
          counted = sym (ap length none);
          ledger = ledger_with_out l new kept.ledger (m ∙ many) (λ n. d n ∙ kept.staged n) (omega (arith, ap length none, kept.ledger.within));
        }

    pub is_out_told : (n : ℕ) → is_out (stage_at stages n) ≡ is_among n l.out
    is_out_told n = sym (is_out_by_stage n stages) ∙ ap (is_among n) (sym out_is)

    pub fresh_not_out : (n : ℕ) → Some n ≡ position is_fresh stages → is_among n l.out ≡ false
    fresh_not_out n e = sym (is_out_told n) ∙ by (stage_at stages n) (found_fresh n e).1
      where
        by : (s : Stage) → is_fresh s ≡ true → is_out s ≡ false
        by Fresh f = refl
        by Out f = absurd cc
        by Done f = refl

module _ {C R : Type 0} (l : Books C R) (n : ℕ) (none : is_among n l.out ≡ false) where
  -- giving back what isn't out changes nothing, and what was claimed is as before
  pub back_unchanged : given_back l n ≡ l
  back_unchanged = let w = without_absent n l.out none in λ i. record { root = l.root; budget = l.budget; rulebook = l.rulebook; rules = l.rules; journal = l.journal; out = w i }

  pub work_undone : given_back (with_work l (Work n)) n ≡ l
  work_undone = let w = without_inserted n l.out none in λ i. record { root = l.root; budget = l.budget; rulebook = l.rulebook; rules = l.rules; journal = l.journal; out = w i }
