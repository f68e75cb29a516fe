-- The rule of a new table, and what the last state tells.
use Rattle.std.proofs.Common.{◌≡◌, ℕ, zero, suc, ◌+◌, ◌<◌, ◌≤◌, Bool, true, true≢false, replicate, List, [], ◌∷◌, ◌++◌, length, drop, get_or, refl, sym, ap, ◌∙◌, subst, arith, le_refl}
use mathlib.Core.Option.{some, some-injective, some-ne-none}
use mathlib.Core.List.{IsPrefix}
use lib.ListN.{get_elem?}
use Rattle.std.proofs.lemmas.List.{length-replicate, take-append-drop}
use Rattle.atomic_table.specs.Table.{State, opening, Final, Seen}
use Rattle.css_log.specs.declared.view.ReaderView.{ReaderView}
use Rattle.css_log.specs.declared.view.WriterView.{WriterView}
use Rattle.css_log.specs.declared.view.ReaderPlace.TheVariants.{Away, Joined}
use Rattle.css_log.specs.declared.view.View.{View}
use Rattle.css_log.specs.declared.view.View.TheVariants.{Writes, Reads}
use Rattle.css_log.specs.Agreement.{newborn, Agrees, Knows, Kept}
use Rattle.css_log.specs.Told.{taken_back}
use Rattle.css_domain.proofs.Whole.{whole_none}
use Rattle.css_log.proofs.Lists.{get_or-zeros}
use Rattle.css_log.proofs.OtherSeats.{flag_true, as_writer}

module _ {S : Type 0} where
  abbrev Rule : State S View → Type 0
  Rule = Kept

  -- the rule of a new table
  pub opens : (size : ℕ) (words : List ℕ) → words ≡ replicate size 0 → 2 ≤ size → Rule (opening words [] (Writes (newborn size)))
  opens size words are two = (
    newborn size,
    0,
    0,
    record {
      writes = refl;
      wide = ap length are ∙ length-replicate size 0;
      fits = omega arith;
      filled = λ i l. absurd (omega arith);
      front = le_refl 0;
      count = zeros 0;
      whole = whole_none;
      stop = let z : get_or words 1 0 ≡ 0 = zeros 1 in omega arith;
      found = λ f. absurd (true≢false (sym f));
      place = zeros 1;
      each_seat = one;
    },
  )
    where
      zeros : (i : ℕ) → get_or words i 0 ≡ 0
      zeros i = ap (λ (l : List ℕ). get_or l i 0) are ∙ get_or-zeros size i

      one : (j : ℕ) (v : View) → get_elem? (Writes (newborn size) ∷ []) j ≡ some v → Knows (newborn size) 0 0 (get_or words 1 0) j v
      one zero v e = subst (Knows (newborn size) 0 0 (get_or words 1 0) 0) (some-injective (Writes (newborn size)) v e) (refl, refl)
      one (suc j) v e = absurd (some-ne-none v (sym e))

  -- what the last state of the table says, once the reader is taken back
  pub ends : (id : ℕ) (ws : List ℕ) (xs : List S) (v : View) (q : WriterView) (r : ReaderView) → v ≡ Writes (record q { place = Joined r }) → Final (Seen Rule id v) ws xs
      → ((i : ℕ) → i < length q.list → get_or ws (i + 2) 0 ≡ get_or q.list i 0) × IsPrefix r.copy q.list × (r.seen ≤ q.front) × (q.found ≡ true → r.stops ≡ true)
  ends id ws xs v q r e f =
      let s : State S View = f.0 in
      let q' : WriterView = record q { place = Joined r } in
      let u = as_writer id q' s f.1.0 (f.1.1 ∙ ap some e) in
      let a : Agrees q' r = u.place.1 in (
        (λ i l. ap (λ (m : List ℕ). get_or m (i + 2) 0) (sym f.2) ∙ u.filled i l),
        (drop (length r.copy) q.list, ap (λ (m : List ℕ). m ++ drop (length r.copy) q.list) a.copied ∙ take-append-drop (length r.copy) q.list),
        a.published,
        λ found. flag_true r.stops (sym u.place.0 ∙ u.found found),
      )

  -- the same, at a seat that is known

  pub ends_as : (id : ℕ) (ws : List ℕ) (xs : List S) (v : View) (m n : ℕ) (list : List ℕ) (front : ℕ) (is_found : Bool) (copy : List ℕ) (seen : ℕ) (stops : Bool)
      → v ≡ taken_back (Writes (record { size = m; list = list; front = front; place = Away; found = is_found })) (Reads (record { size = n; seen = seen; copy = copy; stops = stops })) → Final (Seen Rule id v) ws xs
      → ((i : ℕ) → i < length list → get_or ws (i + 2) 0 ≡ get_or list i 0) × IsPrefix copy list × (seen ≤ front) × (is_found ≡ true → stops ≡ true)
  ends_as id ws xs v m n list front is_found copy seen stops e f =
      ends id ws xs v record { size = m; list = list; front = front; place = Away; found = is_found } record { size = n; seen = seen; copy = copy; stops = stops } e f
