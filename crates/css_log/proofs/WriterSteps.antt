-- The steps of the writer keep the rule: it stores a record word, stores the count, and loads the stop word.
use Rattle.std.proofs.Common.{◌≡◌, ◌≢◌, ℕ, ◌+◌, ◌<◌, ◌≤◌, ◌==◌, List, [], ◌∷◌, ◌++◌, length, get_or, set, refl, sym, ap, ◌∙◌, subst, arith, length-set, get_or-set_other, get_or-set_same, le_refl}
use mathlib.Core.Option.{none, some}
use mathlib.Core.Logic.{dite}
use native.Mathlib.Decide.{ℕ_discrete}
use lib.ListN.{get_elem?}
use lib.Seq.{set-get_or}
use Rattle.std.proofs.lemmas.Bool.Decides.{nat_tests}
use Rattle.std.proofs.lemmas.List.{take-append-le, take_all}
use Rattle.atomic_table.specs.Table.{State, Me, step, keeps, Allows}
use Rattle.css_domain.specs.WholeRecords.{IsWhole}
use Rattle.css_log.specs.declared.view.WriterView.{WriterView}
use Rattle.css_log.specs.declared.view.View.{View}
use Rattle.css_log.specs.declared.view.View.TheVariants.{Writes}
use Rattle.css_log.specs.Agreement.{Knows, Beside, Ruled, Kept}
use Rattle.css_log.specs.Told.{seated, appended, published, found}
use Rattle.css_log.proofs.Lists.{set_at, length_push, get_push_old, get_push_new}
use Rattle.css_log.proofs.OtherSeats.{seats_set, Grows, others_on, beside_on, as_writer}

module _ {S : Type 0} where
  abbrev Rule : State S View → Type 0
  Rule = Kept

  pub appends : (slots id i x : ℕ) (q : WriterView) → i ≡ length q.list + 2 → i < q.size
      → Allows Rule slots id (seated (Writes q)) i (λ _. x) (λ _. appended (step slots i x 0 none) (seated (Writes q)) x)
  appends slots id i x q here room s h _ at _ =
      let u = as_writer id q s h at in
      let q' : WriterView = record q { list = q.list ++ x ∷ [] } in
      let front : q.front ≤ length q.list = u.front in
      let wide : length s.words ≡ q.size = u.wide in
      let g : Grows q q' = record { further = le_refl q.front; kept = λ n l. take-append-le n q.list (x ∷ []) (omega arith); place = refl; size = refl } in
      let other : (j : ℕ) → j ≢ i → get_or (set s.words i x) j 0 ≡ get_or s.words j 0 = λ j apart. get_or-set_other s.words i j x 0 apart in
      let stop : get_or (set s.words i x) 1 0 ≡ get_or s.words 1 0 = other 1 (λ e. omega arith) in (
        Writes q',
        keeps,
        tt,
        (
          q',
          id,
          h.2,
          record {
            writes = set_at s.views id (Writes q') (Writes q) at;
            wide = length-set s.words i x ∙ wide;
            fits = omega (arith, length_push q.list x);
            filled = λ j l. dite (ℕ_discrete j (length q.list))
                (λ e. let there : j + 2 ≡ i = omega arith in ap (λ (m : ℕ). get_or (set s.words i x) m 0) there ∙ get_or-set_same s.words i x 0 (omega arith) ∙ sym (get_push_new q.list x j e))
                (λ ne. let old : j < length q.list = omega (arith, length_push q.list x) in other (j + 2) (λ e. ne (omega arith)) ∙ u.filled j old ∙ sym (get_push_old q.list x j old));
            front = omega (arith, length_push q.list x);
            count = other 0 (λ e. omega arith) ∙ u.count;
            whole = subst IsWhole (sym (g.kept q.front (le_refl q.front))) u.whole;
            stop = subst (λ m. m < 2) (sym stop) u.stop;
            found = λ f. stop ∙ u.found f;
            place = subst (λ m. Beside q' m q.place) (sym stop) (beside_on q q' (get_or s.words 1 0) g q.place u.place);
            each_seat = subst (λ m. (j : ℕ) (v : View) → get_elem? (set s.views id (Writes q')) j ≡ some v → Knows q' id h.2 m j v) (sym stop)
                (seats_set (Knows q' id h.2 (get_or s.words 1 0)) s.views id (Writes q') (refl, refl) (λ j v apart e. others_on q q' id h.2 (get_or s.words 1 0) j g apart v (u.each_seat j v e)));
          },
        ),
        refl,
      )

  pub publishes : (slots id n : ℕ) (q : WriterView) → n ≡ length q.list → IsWhole q.list
      → Allows Rule slots id (seated (Writes q)) 0 (λ _. n) (λ _. published (step slots 0 n 0 none) (seated (Writes q)) n)
  publishes slots id n q all whole s h _ at _ =
      let u = as_writer id q s h at in
      let q' : WriterView = record q { front = n } in
      let front : q.front ≤ length q.list = u.front in
      let wide : length s.words ≡ q.size = u.wide in
      let fits : length q.list + 2 ≤ q.size = u.fits in
      let g : Grows q q' = record { further = omega arith; kept = λ m l. refl; place = refl; size = refl } in
      let other : (j : ℕ) → j ≢ 0 → get_or (set s.words 0 n) j 0 ≡ get_or s.words j 0 = λ j apart. get_or-set_other s.words 0 j n 0 apart in
      let stop : get_or (set s.words 0 n) 1 0 ≡ get_or s.words 1 0 = other 1 (λ e. omega arith) in (
        Writes q',
        keeps,
        tt,
        (
          q',
          id,
          h.2,
          record {
            writes = set_at s.views id (Writes q') (Writes q) at;
            wide = length-set s.words 0 n ∙ wide;
            fits = fits;
            filled = λ j l. other (j + 2) (λ e. omega arith) ∙ u.filled j l;
            front = omega arith;
            count = get_or-set_same s.words 0 n 0 (omega arith);
            whole = subst IsWhole (sym (take_all n q.list (omega arith))) whole;
            stop = subst (λ m. m < 2) (sym stop) u.stop;
            found = λ f. stop ∙ u.found f;
            place = subst (λ m. Beside q' m q.place) (sym stop) (beside_on q q' (get_or s.words 1 0) g q.place u.place);
            each_seat = subst (λ m. (j : ℕ) (v : View) → get_elem? (set s.views id (Writes q')) j ≡ some v → Knows q' id h.2 m j v) (sym stop)
                (seats_set (Knows q' id h.2 (get_or s.words 1 0)) s.views id (Writes q') (refl, refl) (λ j v apart e. others_on q q' id h.2 (get_or s.words 1 0) j g apart v (u.each_seat j v e)));
          },
        ),
        refl,
      )

  pub finds : (slots id : ℕ) (q : WriterView) → Allows Rule slots id (seated (Writes q)) 1 (λ n. n) (found (step slots 1 0 0 none) (seated (Writes q)))
  finds slots id q s h _ at _ =
      let u = as_writer id q s h at in
      let n : ℕ = get_or s.words 1 0 in
      let q' : WriterView = record q { found = n == 1 } in
      let g : Grows q q' = record { further = le_refl q.front; kept = λ m l. refl; place = refl; size = refl } in (
        Writes q',
        keeps,
        tt,
        (
          q',
          id,
          h.2,
          subst (λ (ws : List ℕ). Ruled q' id h.2 record { words = ws; homes = s.homes; views = set s.views id (Writes q') }) (sym (set-get_or s.words 1 0)) record {
            writes = set_at s.views id (Writes q') (Writes q) at;
            wide = u.wide;
            fits = u.fits;
            filled = u.filled;
            front = u.front;
            count = u.count;
            whole = u.whole;
            stop = u.stop;
            found = λ f. let here : n ≡ 1 = grind (arith, nat_tests) in here;
            place = beside_on q q' n g q.place u.place;
            each_seat = seats_set (Knows q' id h.2 n) s.views id (Writes q') (refl, refl) (λ j v apart e. others_on q q' id h.2 n j g apart v (u.each_seat j v e));
          },
        ),
        (refl, u.found),
      )

  -- the same, at a seat that is known

  pub appends_as : (slots id i x : ℕ) (me : Me S View) (q : WriterView) → me ≡ seated (Writes q) → i ≡ length q.list + 2 → i < q.size
      → Allows Rule slots id me i (λ _. x) (λ _. appended (step slots i x 0 none) me x)
  appends_as slots id i x me q e here room =
      subst (λ (m : Me S View). Allows Rule slots id m i (λ _. x) (λ _. appended (step slots i x 0 none) m x)) (sym e) (appends slots id i x q here room)

  pub publishes_as : (slots id n : ℕ) (me : Me S View) (q : WriterView) → me ≡ seated (Writes q) → n ≡ length q.list → IsWhole q.list
      → Allows Rule slots id me 0 (λ _. n) (λ _. published (step slots 0 n 0 none) me n)
  publishes_as slots id n me q e all whole =
      subst (λ (m : Me S View). Allows Rule slots id m 0 (λ _. n) (λ _. published (step slots 0 n 0 none) m n)) (sym e) (publishes slots id n q all whole)

  pub finds_as : (slots id : ℕ) (me : Me S View) (q : WriterView) → me ≡ seated (Writes q) → Allows Rule slots id me 1 (λ n. n) (found (step slots 1 0 0 none) me)
  finds_as slots id me q e = subst (λ (m : Me S View). Allows Rule slots id m 1 (λ n. n) (found (step slots 1 0 0 none) m)) (sym e) (finds slots id q)
