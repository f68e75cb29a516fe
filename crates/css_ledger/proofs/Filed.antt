-- The ledger after one more filing.
use Rattle.std.proofs.Common.{◌≡◌, ℕ, ◌+◌, ◌-◌, ◌^◌, ◌<◌, ◌≤◌, Bool, true, false, cond, List, [], ◌∷◌, ◌++◌, length, take, replicate, length-append, refl, sym, ap, subst, ◌∙◌, ⊎_elim, arith}
use Rattle.std.specs.Prelude.{◌==◌, map, flat_map, slice_get, slice_set, slice_index, Some}
use Rattle.std.specs.List.{list_any, position_or_len}
use Rattle.std.proofs.lemmas.List.{map-append, length-map}
use Rattle.std.proofs.lemmas.Bool.{eqb-true, eq-eqb}
use Rattle.std.proofs.lemmas.Option.{slice_get_within}
use Rattle.std.proofs.lemmas.List.{length-replicate}
use Rattle.std.proofs.Math.Seq.{take-append_seam}
use Rattle.std.proofs.lemmas.List.Folds.{list_any-append}
use Rattle.std.proofs.Math.Bool.{or-false, or-true}
use Rattle.lists.specs.Members.IsIn.{here, later}
use Rattle.lists.specs.Members.NoRepeats.{no_element, one_more}
use Rattle.lists.proofs.Numbers.{less_or_whole}
use Rattle.lists.specs.Added.{with_all_new}
use Rattle.lists.proofs.Places.{at_place, get_left, index_left, index_end}
use Rattle.lists.proofs.Added.{position_stays, grows, all_distinct, position_of}
use Rattle.lists.proofs.Maps.{map-agree}
use Rattle.lists.specs.Members.{IsIn}
use Rattle.lists.proofs.Members.{IsIn-append_cases}
use Rattle.lists.proofs.Repeats.{NoRepeats-append}
use Rattle.css_domain.specs.declared.record.Record.{Record}
use Rattle.css_domain.specs.Meanings.{Meaning}
use Rattle.css_domain.specs.Ledgers.{Books, filings, classes, records, record_of, done, is_among, without, with_filing, after_filings}
use Rattle.css_domain.specs.LedgerFacts.{IsLedger, IsFilingOf}
use Rattle.css_ledger.specs.declared.stage.Stage.{Stage}
use Rattle.css_ledger.specs.declared.stage.Stage.TheVariants.{Fresh, Out, Done}
use Rattle.css_ledger.specs.Stages.{is_out, is_done, stage_at, outs}
use Rattle.css_ledger.specs.Kept.{AreKept}
use Rattle.css_ledger.specs.Numbered.{record_with}
use Rattle.css_ledger.proofs.Outs.{is_out_by_stage, outs_set_other, outs_ascend, length-outs_set, stage_set_same, stage_set_other, within_if_out, length-set_stage, outs_fresh, done_fresh}
use Rattle.css_domain.proofs.Filings.{filings_more, classes_more, all_rules_more, before_more, at_end}
use Rattle.css_domain.proofs.Finding.{among_from_in, same_or_other}
use Rattle.css_domain.proofs.Classes.{block_class}
use Rattle.css_domain.proofs.Within.{parent_there, child_there}
use Rattle.css_domain.proofs.Sizes.{length-children, few_classes}

module _ {C R : Type 0} (D : Meaning C R) (own : (c : C) → D.same c c ≡ true) (exact : (c d : C) → D.same c d ≡ true → c ≡ d) where
  module _ (l : Books C R) (keys : List C) (stages : List Stage) (items : List Record) (count : ℕ) (kept : AreKept D l keys stages items count) (out_is : l.out ≡ outs stages) where
    is : IsLedger D l
    is = kept.ledger

    many : length stages ≡ length (classes D l)
    many = kept.as_many ∙ ap length kept.replayed

    record_stays : (ys : List C) (r : R) → list_any (D.same (D.parent r)) (classes D l) ≡ true → ((c : C) → IsIn c (D.children r) → list_any (D.same c) (classes D l) ≡ true) → record_of D (classes D l ++ ys) r ≡ record_of D (classes D l) r
    record_stays ys r p f =
        let a = position_stays D.same (D.parent r) (classes D l) ys p in
        let b = map-agree {Y = ℕ × Bool} (λ c. (position_or_len (D.same c) (classes D l ++ ys), D.positive c)) (λ c. (position_or_len (D.same c) (classes D l), D.positive c)) (D.children r) (λ c i. ap (λ (k : ℕ). (k, D.positive c)) (position_stays D.same c (classes D l) ys (f c i))) in
        λ i. record { parent = a i; shape = D.shape r; children = b i }

    module _ (n : ℕ) (more : List R) (there : IsIn n l.out) (ok : (c : C) → slice_get (classes D l) n ≡ Some c → IsFilingOf D l.rulebook c more) where
      new : Books C R
      new = with_filing l n more

      pub new_classes : classes D (with_filing l n more) ≡ with_all_new D.same (classes D l) (flat_map D.children more)
      new_classes = classes_more D l n more is.all_rules

      grown : (zs : List C) × (classes D (with_filing l n more) ≡ classes D l ++ zs) × (length zs ≤ length (flat_map D.children more))
      grown = let g = grows D.same (classes D l) (flat_map D.children more) in (g.0, new_classes ∙ g.1, g.2)

      old_records : map (λ r. record_of D (classes D (with_filing l n more)) r) l.rules ≡ records D l
      old_records = map-agree (λ r. record_of D (classes D (with_filing l n more)) r) (λ r. record_of D (classes D l) r) l.rules (λ r i. ap (λ cs. record_of D cs r) grown.1 ∙ record_stays grown.0 r (parent_there D own exact l is r i) (λ c j. child_there D own exact l is r c i j))

      pub new_records : records D (with_filing l n more) ≡ records D l ++ map (λ r. record_of D (classes D (with_filing l n more)) r) more
      new_records = map-append (λ r. record_of D (classes D (with_filing l n more)) r) l.rules more ∙ ap (λ rs. rs ++ map (λ r. record_of D (classes D (with_filing l n more)) r) more) old_records

      -- what is there stays first
      pub old_classes : take (length (classes D l)) (classes D (with_filing l n more)) ≡ classes D l
      old_classes = rw grown.1 (take-append_seam (classes D l) grown.0)

      pub old_records_first : take (length l.rules) (records D (with_filing l n more)) ≡ records D l
      old_records_first =
          rw new_records
          (ap (λ k. take k (records D l ++ map (λ r. record_of D (classes D (with_filing l n more)) r) more)) (sym (length-map l.rules (λ r. record_of D (classes D l) r)))
          ∙ take-append_seam (records D l) (map (λ r. record_of D (classes D (with_filing l n more)) r) more))

      small : n < length (classes D l)
      small = is.out_numbered n there

      stage_out : is_out (stage_at stages n) ≡ true
      stage_out = sym (is_out_by_stage n stages) ∙ among_from_in n (outs stages) (subst (λ xs. IsIn n xs) out_is there)

      module _ (k : ℕ) (enough : length (classes D l) + k ≡ length (classes D (with_filing l n more))) where
        abbrev now : List Stage
        now = slice_set (stages ++ replicate k Fresh) n Done

        inside : n < length (stages ++ replicate k Fresh)
        inside = omega (arith, small, many, length-append stages (replicate k Fresh))

        pub outs_now : outs now ≡ without n l.out
        outs_now = outs_set_other n (stages ++ replicate k Fresh) Done refl inside ∙ ap (without n) (outs_fresh stages k ∙ sym out_is)

        done_more : done (with_filing l n more) ≡ done l ++ n ∷ []
        done_more = map-append (λ (p : ℕ × ℕ). p.0) l.journal ((n, length more) ∷ [])

        staged_now : (m : ℕ) → is_done (stage_at now m) ≡ is_among m (done (with_filing l n more))
        staged_now m =
            rw done_more
            (⊎_elim {C = is_done (stage_at now m) ≡ is_among m (done l ++ n ∷ [])}
            (λ e.
            subst (λ j. is_done (stage_at now j) ≡ is_among j (done l ++ n ∷ [])) e
            (ap is_done (stage_set_same n (stages ++ replicate k Fresh) Done inside) ∙ sym (list_any-append (λ j. n == j) (done l) (n ∷ []) ∙ rw (eq-eqb n n refl) (or-true (is_among n (done l))))))
            (λ o.
            ap is_done (stage_set_other n m (stages ++ replicate k Fresh) Done o)
            ∙ done_fresh stages k m
            ∙ kept.staged m
            ∙ sym (list_any-append (λ j. m == j) (done l) (n ∷ []) ∙ rw (differs m o) (or-false (is_among m (done l)))))
            (same_or_other n m))
          where
            differs : (m : ℕ) → (n ≡ m → ⊥) → (m == n) ≡ false
            differs m o = go (m == n) refl
              where
                go : (b : Bool) → (m == n) ≡ b → (m == n) ≡ false
                go true e = absurd (o (sym (eqb-true m n e)))
                go false e = e

        count_now : length (outs now) + 1 ≡ length l.out
        count_now =
            let e = length-outs_set n (stages ++ replicate k Fresh) Done inside in
            let f : is_out (stage_at (stages ++ replicate k Fresh) n) ≡ true = sym (is_out_by_stage n (stages ++ replicate k Fresh)) ∙ ap (is_among n) (outs_fresh stages k) ∙ is_out_by_stage n stages ∙ stage_out in
            let g : length (outs now) + cond (is_out (stage_at (stages ++ replicate k Fresh) n)) 1 0 ≡ length (outs now) + 1 = rw f refl in
            omega (arith, e, g, ap length (outs_fresh stages k), ap length out_is)

        number_is_left : (m : ℕ) (c : C) → m < length (classes D l) → slice_get (classes D (with_filing l n more)) m ≡ Some c → slice_get (classes D l) m ≡ Some c
        number_is_left m c h e = sym (get_left (classes D l) grown.0 m h) ∙ ap (λ cs. slice_get cs m) (sym grown.1) ∙ e

        length_now : length now ≡ length (classes D (with_filing l n more))
        length_now = length-set_stage (stages ++ replicate k Fresh) n Done ∙ (let a = length-append stages (replicate k Fresh) in let b = length-replicate k Fresh in omega (arith, a, b, many, enough))

        of_filing : IsFilingOf D l.rulebook (at_place (classes D l) n small).0 more
        of_filing = let c = at_place (classes D l) n small in ok c.0 c.1

        single : (m : ℕ) (rules : List R) → IsIn {X = ℕ × List R} (m, rules) ((n, more) ∷ []) → (m ≡ n) × (rules ≡ more)
        single m rules i = pair_of (m, rules) (n, more) (first_only i)
          where
            first_only : {x : ℕ × List R} → IsIn x ((n, more) ∷ []) → x ≡ (n, more)
            first_only (here) = refl
            first_only (later _ h) = elim h [ ]

            pair_of : (x y : ℕ × List R) → x ≡ y → (x.0 ≡ y.0) × (x.1 ≡ y.1)
            pair_of x y e = (ap (λ (p : ℕ × List R). p.0) e, ap (λ (p : ℕ × List R). p.1) e)

        plain : IsLedger D (record l { rules = l.rules ++ more; journal = l.journal ++ (n, length more) ∷ []; out = outs now })
        plain =
            record {
              some_budget = is.some_budget;
              few_budget = is.few_budget;
              distinct = rw new_classes (all_distinct D.same own (classes D l) (flat_map D.children more) is.distinct);
              once = rw done_more (NoRepeats-append is.once (one_more (λ h. elim h [ ]) no_element) (λ x i j. is.out_not_done n there (subst (λ y. IsIn y (done l)) (only x j) i)));
              numbered = numbered_now;
              all_rules = all_rules_more D l n more is.all_rules;
              out_ascends = outs_ascend now;
              out_numbered = λ m h. let o = sym (is_out_by_stage m now) ∙ among_from_in m (outs now) h in omega (arith, within_if_out m now o, length_now);
              out_not_done = λ m h g. not_both (stage_at now m) (sym (is_out_by_stage m now) ∙ among_from_in m (outs now) h) (staged_now m ∙ among_from_in m (done (with_filing l n more)) g);
              within = omega (arith, count_now, is.within, length-append l.journal ((n, length more) ∷ []));
              filed = λ m rules c i e.
                  ⊎_elim {C = IsFilingOf D l.rulebook c rules}
                  (λ j. let d = block_class D l is m rules j in is.filed m rules c j (number_is_left m c (slice_get_within (classes D l) m d.0 d.1) e))
                  (λ j.
                  let p = single m rules j in
                  let f : IsFilingOf D l.rulebook c more = ok c (number_is_left n c small (ap (slice_get (classes D (with_filing l n more))) (sym p.0) ∙ e)) in
                  subst (λ rs. IsFilingOf D l.rulebook c rs) (sym p.1) f)
                  (IsIn-append_cases (filings l.rules l.journal) ((n, more) ∷ []) (subst (λ fs. IsIn (m, rules) fs) (filings_more l.rules more l.journal n is.all_rules) i));
            }
          where
            only : (x : ℕ) → IsIn x (n ∷ []) → x ≡ n
            only _ (here) = refl
            only x (later _ h) = elim h [ ]

            not_both : (s : Stage) → is_out s ≡ true → is_done s ≡ true → ⊥
            not_both Fresh o d = cc
            not_both Out o d = cc
            not_both Done o d = cc

            as_done : length (done l) ≡ length l.journal
            as_done = length-map l.journal (λ (p : ℕ × ℕ). p.0)

            numbered_now : (j : ℕ) → j < length (l.journal ++ (n, length more) ∷ []) → slice_index (done (with_filing l n more)) j < length (classes D (after_filings D j (with_filing l n more)))
            numbered_now j h =
                ⊎_elim {C = slice_index (done (with_filing l n more)) j < length (classes D (after_filings D j (with_filing l n more)))}
                (λ less.
                let e = ap (λ xs. slice_index xs j) done_more ∙ index_left (done l) (n ∷ []) j (omega (arith, less, as_done)) in
                let f = ap (λ b. length (classes D b)) (before_more D l n more j is.all_rules (omega (arith, less))) in
                omega (arith, e, f, is.numbered j less))
                (λ last.
                let e = ap (λ xs. slice_index xs j) done_more ∙ ap (slice_index (done l ++ n ∷ [])) (last ∙ sym as_done) ∙ index_end (done l) n in
                let f = ap (λ b. length (classes D b)) (before_more D l n more j is.all_rules (omega (arith, last))) ∙ ap (λ i. length (classes D (after_filings D i l))) last ∙ ap length (at_end D l is.all_rules) in
                omega (arith, e, f, small))
                (less_or_whole j (length l.journal) (omega (arith, h, length-append l.journal ((n, length more) ∷ []))))

        pub filed : AreKept D (record l { rules = l.rules ++ more; journal = l.journal ++ (n, length more) ∷ []; out = outs now }) (classes D (with_filing l n more)) now (records D l ++ map (λ r. record_of D (classes D (with_filing l n more)) r) more) (count - 1)
        filed =
            record {
              replayed = refl;
              recorded = sym new_records;
              as_many = length_now;
              staged = staged_now;
              counted = omega (arith, count_now, kept.counted);
              ledger = plain;
            }

        -- the records by the number of the class
        records_by_number : map (record_with D n (classes D (with_filing l n more))) more ≡ map (λ r. record_of D (classes D (with_filing l n more)) r) more
        records_by_number =
            map-agree (record_with D n (classes D (with_filing l n more))) (λ r. record_of D (classes D (with_filing l n more)) r) more
            (λ r i.
            let c = at_place (classes D l) n small in
            let own_class = of_filing.own r i in
            let at : slice_get (classes D (with_filing l n more)) n ≡ Some (at_place (classes D l) n small).0 = ap (λ cs. slice_get cs n) grown.1 ∙ get_left (classes D l) grown.0 n small ∙ c.1 in
            let p = (position_of D.same own exact (classes D (with_filing l n more)) n c.0 plain.distinct at).0 in
            let q : n ≡ position_or_len (D.same (D.parent r)) (classes D (with_filing l n more)) = sym p ∙ ap (λ d. position_or_len (D.same d) (classes D (with_filing l n more))) (sym own_class) in
            λ j. record { parent = q j; shape = D.shape r; children = map (λ d. (position_or_len (D.same d) (classes D (with_filing l n more)), D.positive d)) (D.children r) })

        pub filed_records : AreKept D (record l { rules = l.rules ++ more; journal = l.journal ++ (n, length more) ∷ []; out = outs now }) (classes D (with_filing l n more)) now (items ++ map (record_with D n (classes D (with_filing l n more))) more) (count - 1)
        filed_records = rw (records_by_number, kept.recorded) filed

      -- the same, by the fields
      pub filed_fields : (new_keys : List C) → new_keys ≡ with_all_new D.same keys (flat_map D.children more) → (new_stages : List Stage) → new_stages ≡ stages ++ replicate (length new_keys - length keys) Fresh → (new_items : List Record) → new_items ≡ items ++ map (record_with D n new_keys) more → AreKept D (record l { rules = l.rules ++ more; journal = l.journal ++ (n, length more) ∷ []; out = outs (slice_set new_stages n Done) }) new_keys (slice_set new_stages n Done) new_items (count - 1) × (outs (slice_set new_stages n Done) ≡ without n l.out)
      filed_fields new_keys k new_stages s new_items i =
          let keys_are : new_keys ≡ classes D (with_filing l n more) = k ∙ ap (λ cs. with_all_new D.same cs (flat_map D.children more)) kept.replayed ∙ sym new_classes in
          let enough : length (classes D l) + (length new_keys - length keys) ≡ length (classes D (with_filing l n more)) = omega (arith, ap length keys_are, ap length kept.replayed, ap length grown.1, length-append (classes D l) grown.0) in
          (rw (i, s, keys_are) (filed_records (length (classes D (with_filing l n more)) - length keys) (subst (λ m. length (classes D l) + (m - length keys) ≡ length (classes D (with_filing l n more))) (ap length keys_are) enough)), rw s (outs_now (length new_keys - length keys) enough))

      -- sizes
      pub fits : (length keys + length (flat_map D.children more) < 2 ^ 28) × (length more < 2 ^ 28) × (1 ≤ count) × (n < length stages)
      fits =
          let c = at_place (classes D l) n small in
          let f = ok c.0 c.1 in
          let words = length-children D more in
          (omega (arith, words, f.small, few_classes D l is, ap length kept.replayed, is.few_budget, is.within), omega (arith, words, f.small), omega (arith, kept.counted, some_in n l.out there), omega (arith, many, small))
        where
          some_in : (m : ℕ) (ns : List ℕ) → IsIn m ns → 1 ≤ length ns
          some_in m [] h = elim h [ ]
          some_in m (k ∷ ns) h = omega arith
