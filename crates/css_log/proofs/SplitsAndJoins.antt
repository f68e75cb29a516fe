-- Splits and joins keep the rule: the reader and notes are split from the writer, a note joins the reader, and the reader joins the writer.
use Rattle.std.proofs.Common.{◌≡◌, ◌≢◌, ℕ, ◌≤◌, max, List, [], ◌∷◌, length, take, get_or, set, refl, sym, ◌∙◌, subst, ⊎_elim, arith, le_refl}
use mathlib.Core.Option.{some}
use lib.ListN.{get_elem?}
use Rattle.atomic_table.specs.Table.{State, Splits, Joins}
use Rattle.atomic_table.proofs.Lists.{at_set, set_else, at_longer}
use Rattle.css_domain.specs.WholeRecords.{IsWhole}
use Rattle.css_log.specs.declared.view.ReaderView.{ReaderView}
use Rattle.css_log.specs.declared.view.WriterView.{WriterView}
use Rattle.css_log.specs.declared.view.ReaderPlace.TheVariants.{Unsplit, Away, Joined}
use Rattle.css_log.specs.declared.view.View.{View}
use Rattle.css_log.specs.declared.view.View.TheVariants.{Spent, Writes, Reads, Notes}
use Rattle.css_log.specs.Agreement.{flag, blank, Agrees, Knows, Beside, Kept}
use Rattle.css_log.specs.Told.{without_reader, new_reader, note_of, learnt, taken_back}
use Rattle.css_domain.proofs.Whole.{whole_none}
use Rattle.css_log.proofs.Lists.{set_at, at_end, the_greater}
use Rattle.css_log.proofs.OtherSeats.{not_both, seats_set, not_note, not_yet, gone, as_writer, as_reader}

module _ {S : Type 0} where
  abbrev Rule : State S View → Type 0
  Rule = Kept

  pub births : (id : ℕ) (q : WriterView) → q.place ≡ Unsplit → Splits Rule id (Writes q) (Writes (record q { place = Away })) (Reads (blank q.size))
  births id q inside s h at =
      let u = as_writer id q s h at in
      let q' : WriterView = record q { place = Away } in
      let r : ReaderView = blank q.size in
      let stop : get_or s.words 1 0 ≡ 0 = subst (Beside q (get_or s.words 1 0)) inside u.place in
      let vs : List View = set s.views id (Writes q') in
      let last : ℕ = length vs in
      let agrees : Agrees q' r = record { same_table = refl; copied = refl; within = le_refl 0; published = omega arith; whole = whole_none } in (
        q',
        id,
        last,
        record {
          writes = at_longer vs (Reads r ∷ []) id (Writes q') (set_at s.views id (Writes q') (Writes q) at);
          wide = u.wide;
          fits = u.fits;
          filled = u.filled;
          front = u.front;
          count = u.count;
          whole = u.whole;
          stop = u.stop;
          found = u.found;
          place = tt;
          each_seat = λ j v e. ⊎_elim
              (seats_set (Knows q' id last (get_or s.words 1 0)) s.views id (Writes q') (refl, refl) (λ i w apart f. not_yet q id h.2 last (get_or s.words 1 0) i inside apart w (u.each_seat i w f)) j v)
              (λ (t : (j ≡ last) × (Reads r ≡ v)). subst (λ (x : ℕ × View). Knows q' id last (get_or s.words 1 0) x.0 x.1) (λ i. (sym t.0 i, t.1 i)) (refl, refl, stop, agrees))
              (at_end vs (Reads r) v j e);
        },
      )

  pub notes : (id : ℕ) (q : WriterView) → Splits Rule id (Writes q) (Writes q) (Notes q.front)
  notes id q s h at =
      let u = as_writer id q s h at in
      let stop : ℕ = get_or s.words 1 0 in
      let vs : List View = set s.views id (Writes q) in (
        q,
        id,
        h.2,
        record {
          writes = at_longer vs (Notes q.front ∷ []) id (Writes q) (set_at s.views id (Writes q) (Writes q) at);
          wide = u.wide;
          fits = u.fits;
          filled = u.filled;
          front = u.front;
          count = u.count;
          whole = u.whole;
          stop = u.stop;
          found = u.found;
          place = u.place;
          each_seat = λ j v e. ⊎_elim
              (seats_set (Knows q id h.2 stop) s.views id (Writes q) (refl, refl) (λ i w apart f. u.each_seat i w f) j v)
              (λ (t : (j ≡ length vs) × (Notes q.front ≡ v)). subst (Knows q id h.2 stop j) t.1 (le_refl q.front, u.whole))
              (at_end vs (Notes q.front) v j e);
        },
      )

  pub learns : (id other front : ℕ) (r : ReaderView) → Joins Rule id (Reads r) other (Notes front) (Reads (record r { seen = max r.seen front })) Spent
  learns id other front r s h at apart there =
      let q : WriterView = h.0 in
      let u = as_reader id r s h at in
      let stop : ℕ = get_or s.words 1 0 in
      let k : (id ≡ id) × (q.place ≡ Away) × (stop ≡ flag r.stops) × Agrees q r = u.each_seat id (Reads r) at in
      let r' : ReaderView = record r { seen = max r.seen front } in
      let was : get_elem? s.views other ≡ some (Notes front) = sym (set_else s.views id other (Reads r') apart) ∙ there in
      let n : (front ≤ q.front) × IsWhole (take front q.list) = u.each_seat other (Notes front) was in
      let known : front ≤ q.front = n.0 in
      let within : length r.copy ≤ r.seen = k.3.within in
      let more : r.seen ≤ q.front = k.3.published in
      let agrees : Agrees q r' = record {
        same_table = k.3.same_table;
        copied = k.3.copied;
        within = omega arith;
        published = omega arith;
        whole = the_greater (λ m. IsWhole (take m q.list)) r.seen front k.3.whole n.1;
      } in
      let not_me : h.1 ≢ id = λ e. not_both (get_elem? s.views id) r q at (subst (λ n. get_elem? s.views n ≡ some (Writes q)) e u.writes) in
      let not_it : h.1 ≢ other = λ e. not_note (get_elem? s.views other) front q was (subst (λ n. get_elem? s.views n ≡ some (Writes q)) e u.writes) in
      let vs : List View = set s.views id (Reads r') in (
        q,
        h.1,
        id,
        record {
          writes = set_else vs other h.1 Spent not_it ∙ set_else s.views id h.1 (Reads r') not_me ∙ u.writes;
          wide = u.wide;
          fits = u.fits;
          filled = u.filled;
          front = u.front;
          count = u.count;
          whole = u.whole;
          stop = u.stop;
          found = u.found;
          place = u.place;
          each_seat = seats_set (Knows q h.1 id stop) vs other Spent tt
              (λ j v _. seats_set (Knows q h.1 id stop) s.views id (Reads r') (refl, k.1, k.2, agrees) (λ i w _. u.each_seat i w) j v);
        },
      )

  pub returns : (id other : ℕ) (q : WriterView) (r : ReaderView) → Joins Rule id (Writes q) other (Reads r) (Writes (record q { place = Joined r })) Spent
  returns id other q r s h at apart there =
      let u = as_writer id q s h at in
      let stop : ℕ = get_or s.words 1 0 in
      let q' : WriterView = record q { place = Joined r } in
      let was : get_elem? s.views other ≡ some (Reads r) = sym (set_else s.views id other (Writes q') apart) ∙ there in
      let k : (other ≡ h.2) × (q.place ≡ Away) × (stop ≡ flag r.stops) × Agrees q r = u.each_seat other (Reads r) was in
      let agrees : Agrees q' r = record { same_table = k.3.same_table; copied = k.3.copied; within = k.3.within; published = k.3.published; whole = k.3.whole } in
      let vs : List View = set s.views id (Writes q') in (
        q',
        id,
        h.2,
        record {
          writes = set_else vs other id Spent (λ e. apart (sym e)) ∙ set_at s.views id (Writes q') (Writes q) at;
          wide = u.wide;
          fits = u.fits;
          filled = u.filled;
          front = u.front;
          count = u.count;
          whole = u.whole;
          stop = u.stop;
          found = u.found;
          place = (k.2, agrees);
          each_seat = seats_set (Knows q' id h.2 stop) vs other Spent tt
              (λ j v away e. ⊎_elim
              (λ (t : (j ≡ id) × (Writes q' ≡ v)). subst (λ (x : ℕ × View). Knows q' id h.2 stop x.0 x.1) (λ i. (sym t.0 i, t.1 i)) (refl, refl))
              (λ (t : (j ≢ id) × (get_elem? s.views j ≡ some v)). gone q r id h.2 stop j t.0 (λ f. away (f ∙ sym k.0)) v (u.each_seat j v t.1))
              (at_set s.views id j (Writes q') v e));
        },
      )

  -- the same, at a seat that is known

  pub births_as : (id : ℕ) (v : View) (q : WriterView) → v ≡ Writes q → q.place ≡ Unsplit → Splits Rule id v (without_reader v) (new_reader v)
  births_as id v q e inside = subst (λ (w : View). Splits Rule id w (without_reader w) (new_reader w)) (sym e) (births id q inside)

  pub notes_as : (id : ℕ) (v : View) (q : WriterView) → v ≡ Writes q → Splits Rule id v v (note_of v)
  notes_as id v q e = subst (λ (w : View). Splits Rule id w w (note_of w)) (sym e) (notes id q)

  pub learns_as : (id other front : ℕ) (v w : View) (r : ReaderView) → v ≡ Reads r → w ≡ Notes front → Joins Rule id v other w (learnt v w) Spent
  learns_as id other front v w r e f = subst (λ (x : View × View). Joins Rule id x.0 other x.1 (learnt x.0 x.1) Spent) (λ i. (sym e i, sym f i)) (learns id other front r)

  pub returns_as : (id other : ℕ) (v w : View) (q : WriterView) (r : ReaderView) → v ≡ Writes q → w ≡ Reads r → Joins Rule id v other w (taken_back v w) Spent
  returns_as id other v w q r e f = subst (λ (x : View × View). Joins Rule id x.0 other x.1 (taken_back x.0 x.1) Spent) (λ i. (sym e i, sym f i)) (returns id other q r)
