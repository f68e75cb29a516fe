-- One more filing leads on, and at the end the ledger is that of one worker.
use Rattle.std.proofs.Common.{◌≡◌, ℕ, suc, ◌+◌, ◌<◌, ◌≤◌, Bool, true, false, List, [], ◌∷◌, ◌++◌, length, take, length-append, refl, sym, ap, subst, ◌∙◌, inl, inr, ⊎_elim, arith}
use Rattle.std.specs.Prelude.{flat_map, slice_get, Option, Some, None, IsNone, Result, Ok, Err, IfOk, sum_by}
use Rattle.std.specs.List.{range_with_len}
use Rattle.std.proofs.lemmas.List.{map-append, length-map, length-take}
use Rattle.lists.proofs.Members.{none_in}
use Rattle.lists.proofs.Numbers.{less_or_whole}
use Rattle.lists.proofs.Added.{grows}
use Rattle.lists.proofs.Places.{take_whole}
use Rattle.lists.proofs.Ranges.{range_more, NoRepeats-range_with_len}
use Rattle.lists.specs.Members.{NoRepeats}
use Rattle.css_domain.specs.declared.record.Record.{Record}
use Rattle.css_domain.specs.Meanings.{Meaning}
use Rattle.css_domain.specs.Ledgers.{Books, filings, classes, record_of, records, done, after_filings, with_filing, without, new_books}
use Rattle.css_domain.specs.LedgerFacts.{IsLedger}
use Rattle.css_domain.specs.Reasons.{AreFilingsComplete, RootStands, Stops, EndsFor, Alone}
use Rattle.css_domain.proofs.Filings.{before_more, rules_of_filings, length-filings}
use Rattle.css_crew.specs.declared.reason.Reason.{Reason as Answer}
use Rattle.css_crew.specs.declared.reason.Reason.TheVariants.{Found as IsFound, Budget as IsBudget, Exhausted as IsExhausted}
use Rattle.css_crew.specs.Ways.{IsOnTheWay, IsNext, FilesNone, Goes, reason_as}
use Rattle.css_crew.specs.Crews.{GoesOn}
use Rattle.css_crew.proofs.Completes.{complete_more}
use Rattle.css_crew.proofs.Turns.{claimed_next, claimed_fresh}

pub both : {b : Bool} → b ≡ false → b ≡ true → ⊥
both e f = cc

-- there is none
pub none_from : {X : Type 0} (o : Option X) → ((x : X) → o ≡ Some x → ⊥) → IsNone o
none_from None never = refl
none_from (Some x) never = absurd (never x refl)

module _ {C R : Type 0} (D : Meaning C R) where
  -- where the records of a ledger begin those of a later one, it has no more rules
  pub rules_begin : (old new : Books C R) {n : ℕ} → n ≡ length old.rules → take (length old.rules) (records D new) ≡ records D old → n ≤ length new.rules
  rules_begin old new many begin =
      omega (arith, many, ap (λ (rs : List Record). length rs) begin, length-take (length old.rules) (records D new), length-map old.rules (record_of D (classes D old)), length-map new.rules (record_of D (classes D new)))

  pub begun : (root : C) (budget rulebook : ℕ) → IsOnTheWay D root budget rulebook (new_books root budget rulebook)
  begun root budget rulebook =
      record {
        of_root = refl;
        of_budget = refl;
        of_rulebook = refl;
        none_out = refl;
        in_turn = refl;
        complete = record { once = NoRepeats-range_with_len 0 0; complete = λ n rules c h e. absurd (none_in h) };
        not_before = λ k h. absurd (omega (arith, h));
      }

  -- after all its filings a ledger with none out is itself
  pub whole_after : (l : Books C R) → l.out ≡ [] → length l.rules ≡ sum_by (λ (p : ℕ × ℕ). p.1) l.journal → after_filings D (length l.journal) l ≡ l
  whole_after l o h =
      let e : take (length l.journal) (filings l.rules l.journal) ≡ filings l.rules l.journal = ap (λ k. take k (filings l.rules l.journal)) (sym (length-filings l.rules l.journal)) ∙ take_whole (filings l.rules l.journal) in
      let f : flat_map (λ (g : ℕ × List R). g.1) (take (length l.journal) (filings l.rules l.journal)) ≡ l.rules = ap (flat_map (λ (g : ℕ × List R). g.1)) e ∙ rules_of_filings l.rules l.journal h in
      let j : take (length l.journal) l.journal ≡ l.journal = take_whole l.journal in
      λ i. record { root = l.root; budget = l.budget; rulebook = l.rulebook; rules = f i; journal = j i; out = sym o i }

  pub some_class : (l : Books C R) → 1 ≤ length (classes D l)
  some_class l = let g = grows D.same (l.root ∷ []) (flat_map (λ filing. flat_map D.children filing.1) (filings l.rules l.journal)) in omega (arith, ap length g.1, length-append (l.root ∷ []) g.0)

  -- why the ledger ends where its root doesn't stand, and where it does
  pub ends_not : (l : Books C R) (answer : Answer) → (RootStands D l → ⊥) → FilesNone D l answer → EndsFor D l (reason_as answer)
  ends_not l IsFound falls w = absurd w
  ends_not l IsExhausted falls w = (falls, w)
  ends_not l IsBudget falls w = (falls, w.0, w.1)

  pub next_if_none : (l new : Books C R) (o : Option Answer) → ((a : Answer) → o ≡ Some a → ⊥) → Goes D l new o → IsNext D l new
  next_if_none l new None never goes = goes
  next_if_none l new (Some a) never goes = absurd (never a refl)

  pub stops_not_found : (l : Books C R) (answer : Answer) → FilesNone D l answer → Stops D l
  stops_not_found l IsFound w = absurd w
  stops_not_found l IsExhausted w = inr (inl w)
  stops_not_found l IsBudget w = inr (inr w.1)

  module _ (root : C) (budget rulebook : ℕ) (l : Books C R) (is : IsLedger D l) (way : IsOnTheWay D root budget rulebook l) where
    pub alone : Stops D l → Alone D root budget rulebook l
    alone s =
        record {
          of_root = way.of_root;
          of_budget = way.of_budget;
          of_rulebook = way.of_rulebook;
          none_out = way.none_out;
          in_turn = way.in_turn;
          all_rules = is.all_rules;
          complete = way.complete;
          stops = s;
          not_before = way.not_before;
        }

    module _ (falls : RootStands D l → ⊥) (new : Books C R) (next : IsNext D l new) where
      n : ℕ
      n = length l.journal

      there : Books C R
      there = with_filing l (length l.journal) next.rules

      stops_not : Stops D l → ⊥
      stops_not (inl s) = falls s
      stops_not (inr (inl a)) = next.open_yet a
      stops_not (inr (inr b)) = next.room b

      done_more : done (with_filing l (length l.journal) next.rules) ≡ done l ++ length l.journal ∷ []
      done_more = map-append (λ (p : ℕ × ℕ). p.0) l.journal ((length l.journal, length next.rules) ∷ [])

      long : length (l.journal ++ (length l.journal, length next.rules) ∷ []) ≡ suc (length l.journal)
      long = let a = length-append l.journal ((length l.journal, length next.rules) ∷ []) in omega (arith, a)

      turn : done (with_filing l (length l.journal) next.rules) ≡ range_with_len 0 (length (l.journal ++ (length l.journal, length next.rules) ∷ []))
      turn =
          let z : 0 + length l.journal ≡ length l.journal = omega arith in
          done_more ∙ ap (λ xs. xs ++ length l.journal ∷ []) way.in_turn ∙ ap (λ k. range_with_len 0 (length l.journal) ++ k ∷ []) (sym z) ∙ sym (range_more 0 (length l.journal)) ∙ ap (range_with_len 0) (sym long)

      complete_next : AreFilingsComplete D (with_filing l (length l.journal) next.rules)
      complete_next =
          complete_more D l is way.complete (length l.journal) next.rules next.class next.at next.expansion.whole
          (subst NoRepeats (sym turn) (NoRepeats-range_with_len 0 (length (l.journal ++ (length l.journal, length next.rules) ∷ []))))

      before : (k : ℕ) → k < length (l.journal ++ (length l.journal, length next.rules) ∷ []) → Stops D (after_filings D k (with_filing l (length l.journal) next.rules)) → ⊥
      before k h s =
          ⊎_elim {C = ⊥}
          (λ less. way.not_before k less (subst (Stops D) (before_more D l (length l.journal) next.rules k is.all_rules (omega (arith, less))) s))
          (λ last. stops_not (subst (Stops D) (before_more D l (length l.journal) next.rules k is.all_rules (omega (arith, last)) ∙ ap (λ i. after_filings D i l) last ∙ whole_after l way.none_out is.all_rules) s))
          (less_or_whole k (length l.journal) (omega (arith, h, long)))

      pub onward : IsOnTheWay D root budget rulebook new
      onward =
          subst (IsOnTheWay D root budget rulebook) (sym next.filed)
          (record {
            of_root = way.of_root;
            of_budget = way.of_budget;
            of_rulebook = way.of_rulebook;
            none_out = ap (without (length l.journal)) way.none_out;
            in_turn = turn;
            complete = complete_next;
            not_before = before;
          })

      pub longer : length new.journal ≡ suc (length l.journal)
      longer = ap (λ (b : Books C R). length b.journal) next.filed ∙ long

  -- the filing of the least fresh class is the next in its turn
  in_its_turn : (l new : Books C R) → l.out ≡ [] → done l ≡ range_with_len 0 (length l.journal) → (o : Option Answer) → GoesOn D l new o → Goes D l new o
  in_its_turn l new none_out by_turn None m =
      let k = claimed_next D l none_out by_turn m.number m.next in
      let f = claimed_fresh D l none_out m.number m.next in
      record {
        rules = m.rules;
        filed = subst (λ (n : ℕ). new ≡ with_filing l n m.rules) k m.filed;
        open_yet = f.2;
        room = f.3;
        class = m.class;
        at = subst (λ (n : ℕ). slice_get (classes D l) n ≡ Some m.class) k m.at;
        expansion = m.expansion;
      }
  in_its_turn l new none_out by_turn (Some answer) m = m

  pub in_turn : {E : Type 0} (l new : Books C R) → l.out ≡ [] → done l ≡ range_with_len 0 (length l.journal) → (r : Result (Option Answer) E) → IfOk r (λ o. GoesOn D l new o) → IfOk r (λ o. Goes D l new o)
  in_turn l new none_out by_turn (Ok o) goes = in_its_turn l new none_out by_turn o goes
  in_turn l new none_out by_turn (Err e) goes = tt
