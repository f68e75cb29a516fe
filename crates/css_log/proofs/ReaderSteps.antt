-- The steps of the reader keep the rule: it loads the count, loads a record word, and stores the stop word.
use Rattle.std.proofs.Common.{◌≡◌, ◌≢◌, ℕ, ◌+◌, ◌<◌, ◌≤◌, true, List, [], ◌∷◌, ◌++◌, length, take, get_or, set, refl, sym, ap, ◌∙◌, subst, arith, length-set, get_or-set_other, get_or-set_same}
use mathlib.Core.Option.{none, some}
use lib.ListN.{get_elem?}
use lib.Seq.{set-get_or}
use Rattle.std.proofs.lemmas.List.{take_more}
use Rattle.atomic_table.specs.Table.{State, Me, step, keeps, stepped, Allows}
use Rattle.atomic_table.proofs.Lists.{set_else}
use Rattle.css_domain.specs.WholeRecords.{IsWhole}
use Rattle.css_log.specs.declared.view.ReaderView.{ReaderView}
use Rattle.css_log.specs.declared.view.WriterView.{WriterView}
use Rattle.css_log.specs.declared.view.ReaderPlace.TheVariants.{Away}
use Rattle.css_log.specs.declared.view.View.{View}
use Rattle.css_log.specs.declared.view.View.TheVariants.{Writes, Reads}
use Rattle.css_log.specs.Agreement.{flag, Agrees, Knows, Beside, Ruled, Kept}
use Rattle.css_log.specs.Told.{seated, counted, pulled, asked}
use Rattle.css_log.proofs.Lists.{length_push}
use Rattle.css_log.proofs.OtherSeats.{not_both, seats_set, stop_changes, as_reader}

module _ {S : Type 0} where
  abbrev Rule : State S View → Type 0
  Rule = Kept

  reader_moves : (writer id i : ℕ) (q : WriterView) (r r' : ReaderView) (s : State S View) → Ruled q writer id s → get_elem? s.views id ≡ some (Reads r) → r'.stops ≡ r.stops → Agrees q r'
      → Ruled q writer id (stepped s i (get_or s.words i 0) id [] (Reads r') keeps)
  reader_moves writer id i q r r' s u at same agrees =
      let k = u.each_seat id (Reads r) at in
      let apart : writer ≢ id = λ e. not_both (get_elem? s.views id) r q at (subst (λ n. get_elem? s.views n ≡ some (Writes q)) e u.writes) in
      subst (λ (ws : List ℕ). Ruled q writer id record { words = ws; homes = s.homes; views = set s.views id (Reads r') }) (sym (set-get_or s.words i 0)) record {
        writes = set_else s.views id writer (Reads r') apart ∙ u.writes;
        wide = u.wide;
        fits = u.fits;
        filled = u.filled;
        front = u.front;
        count = u.count;
        whole = u.whole;
        stop = u.stop;
        found = u.found;
        place = u.place;
        each_seat = seats_set (Knows q writer id (get_or s.words 1 0)) s.views id (Reads r') (refl, k.1, k.2 ∙ ap flag (sym same), agrees) (λ j v _. u.each_seat j v);
      }

  pub counts : (slots id : ℕ) (r : ReaderView) → Allows Rule slots id (seated (Reads r)) 0 (λ n. n) (counted (step slots 0 0 0 none) (seated (Reads r)))
  counts slots id r s h _ at _ =
      let q : WriterView = h.0 in
      let u = as_reader id r s h at in
      let a : Agrees q r = (u.each_seat id (Reads r) at).3 in
      let n : ℕ = get_or s.words 0 0 in
      let count : n ≡ q.front = u.count in
      let more : r.seen ≤ q.front = a.published in
      let within : length r.copy ≤ r.seen = a.within in
      let front : q.front ≤ length q.list = u.front in
      let fits : length q.list + 2 ≤ q.size = u.fits in
      let same : r.size ≡ q.size = a.same_table in
      let room : n + 2 ≤ r.size = omega arith in
      let whole : IsWhole (take n q.list) = subst (λ m. IsWhole (take m q.list)) (sym count) u.whole in
      let agrees : Agrees q (record r { seen = n }) = record { same_table = a.same_table; copied = a.copied; within = omega arith; published = omega arith; whole = whole } in (
        Reads (record r { seen = n }),
        keeps,
        tt,
        (q, h.1, id, reader_moves h.1 id 0 q r (record r { seen = n }) s u at refl agrees),
        (refl, omega arith, room),
      )

  pub pulls : (slots id i : ℕ) (r : ReaderView) → i ≡ length r.copy + 2 → length r.copy < r.seen
      → Allows Rule slots id (seated (Reads r)) i (λ n. n) (pulled (step slots i 0 0 none) (seated (Reads r)))
  pulls slots id i r here below s h _ at _ =
      let q : WriterView = h.0 in
      let u = as_reader id r s h at in
      let a : Agrees q r = (u.each_seat id (Reads r) at).3 in
      let n : ℕ = get_or s.words i 0 in
      let k : ℕ = length r.copy in
      let more : r.seen ≤ q.front = a.published in
      let front : q.front ≤ length q.list = u.front in
      let word : n ≡ get_or q.list k 0 = ap (λ (j : ℕ). get_or s.words j 0) here ∙ u.filled k (omega arith) in
      let longer : r.copy ++ n ∷ [] ≡ take (k + 1) q.list = (λ j. a.copied j ++ word j ∷ []) ∙ sym (take_more q.list k 0 (omega arith)) in
      let agrees : Agrees q (record r { copy = r.copy ++ n ∷ [] }) = record {
        same_table = a.same_table;
        copied = longer ∙ ap (λ (m : ℕ). take m q.list) (sym (length_push r.copy n));
        within = omega (arith, length_push r.copy n);
        published = more;
        whole = a.whole;
      } in (
        Reads (record r { copy = r.copy ++ n ∷ [] }),
        keeps,
        tt,
        (q, h.1, id, reader_moves h.1 id i q r (record r { copy = r.copy ++ n ∷ [] }) s u at refl agrees),
        λ _ _. (refl, λ e. subst IsWhole (sym longer) (subst (λ m. IsWhole (take m q.list)) (sym e) a.whole)),
      )

  pub asks : (slots id : ℕ) (r : ReaderView) → Allows Rule slots id (seated (Reads r)) 1 (λ _. 1) (λ _. asked (step slots 1 1 0 none) (seated (Reads r)) 1)
  asks slots id r s h _ at _ =
      let q : WriterView = h.0 in
      let u = as_reader id r s h at in
      let k : (id ≡ id) × (q.place ≡ Away) × (get_or s.words 1 0 ≡ flag r.stops) × Agrees q r = u.each_seat id (Reads r) at in
      let r' : ReaderView = record r { stops = true } in
      let wide : length s.words ≡ q.size = u.wide in
      let fits : length q.list + 2 ≤ q.size = u.fits in
      let apart : h.1 ≢ id = λ e. not_both (get_elem? s.views id) r q at (subst (λ n. get_elem? s.views n ≡ some (Writes q)) e u.writes) in
      let agrees : Agrees q r' = record { same_table = k.3.same_table; copied = k.3.copied; within = k.3.within; published = k.3.published; whole = k.3.whole } in
      let other : (j : ℕ) → j ≢ 1 → get_or (set s.words 1 1) j 0 ≡ get_or s.words j 0 = λ j away. get_or-set_other s.words 1 j 1 0 away in
      let stop : get_or (set s.words 1 1) 1 0 ≡ 1 = get_or-set_same s.words 1 1 0 (omega arith) in (
        Reads r',
        keeps,
        tt,
        (
          q,
          h.1,
          id,
          record {
            writes = set_else s.views id h.1 (Reads r') apart ∙ u.writes;
            wide = length-set s.words 1 1 ∙ wide;
            fits = fits;
            filled = λ j l. other (j + 2) (λ e. omega arith) ∙ u.filled j l;
            front = u.front;
            count = other 0 (λ e. omega arith) ∙ u.count;
            whole = u.whole;
            stop = omega arith;
            found = λ _. stop;
            place = subst (Beside q (get_or (set s.words 1 1) 1 0)) (sym k.1) tt;
            each_seat = seats_set (Knows q h.1 id (get_or (set s.words 1 1) 1 0)) s.views id (Reads r') (refl, k.1, stop, agrees)
                (λ j v away e. stop_changes q h.1 id (get_or s.words 1 0) (get_or (set s.words 1 1) 1 0) j away v (u.each_seat j v e));
          },
        ),
        refl,
      )

  -- the same, at a seat that is known

  pub counts_as : (slots id : ℕ) (me : Me S View) (r : ReaderView) → me ≡ seated (Reads r) → Allows Rule slots id me 0 (λ n. n) (counted (step slots 0 0 0 none) me)
  counts_as slots id me r e = subst (λ (m : Me S View). Allows Rule slots id m 0 (λ n. n) (counted (step slots 0 0 0 none) m)) (sym e) (counts slots id r)

  pub pulls_as : (slots id i : ℕ) (me : Me S View) (r : ReaderView) → me ≡ seated (Reads r) → i ≡ length r.copy + 2 → length r.copy < r.seen
      → Allows Rule slots id me i (λ n. n) (pulled (step slots i 0 0 none) me)
  pulls_as slots id i me r e here below =
      subst (λ (m : Me S View). Allows Rule slots id m i (λ n. n) (pulled (step slots i 0 0 none) m)) (sym e) (pulls slots id i r here below)

  pub asks_as : (slots id : ℕ) (me : Me S View) (r : ReaderView) → me ≡ seated (Reads r) → Allows Rule slots id me 1 (λ _. 1) (λ _. asked (step slots 1 1 0 none) me 1)
  asks_as slots id me r e = subst (λ (m : Me S View). Allows Rule slots id m 1 (λ _. 1) (λ _. asked (step slots 1 1 0 none) m 1)) (sym e) (asks slots id r)
