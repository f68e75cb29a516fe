-- What the other seats know stays true while one of them steps.
use Rattle.std.proofs.Common.{◌≡◌, ◌≢◌, ℕ, ◌≤◌, Bool, true, false, true≢false, List, length, take, set, refl, sym, ap, ◌∙◌, subst, ⊎_elim, arith}
use mathlib.Core.Option.{Option, some, some-injective}
use lib.ListN.{get_elem?}
use Rattle.atomic_table.specs.Table.{State}
use Rattle.atomic_table.proofs.Lists.{at_set}
use Rattle.css_domain.specs.WholeRecords.{IsWhole}
use Rattle.css_log.specs.declared.view.ReaderView.{ReaderView}
use Rattle.css_log.specs.declared.view.WriterView.{WriterView}
use Rattle.css_log.specs.declared.view.ReaderPlace.{ReaderPlace}
use Rattle.css_log.specs.declared.view.ReaderPlace.TheVariants.{Unsplit, Away, Joined}
use Rattle.css_log.specs.declared.view.View.{View}
use Rattle.css_log.specs.declared.view.View.TheVariants.{Spent, Writes, Reads, Notes}
use Rattle.css_log.specs.Agreement.{flag, Agrees, Knows, Beside, Ruled, Kept}

abbrev reads_it : View → Bool
reads_it (Reads r) = true
reads_it _ = false

pub not_both : (o : Option View) (r : ReaderView) (q : WriterView) → o ≡ some (Reads r) → o ≡ some (Writes q) → ⊥
not_both o r q e f = true≢false (ap reads_it (some-injective (Reads r) (Writes q) (sym e ∙ f)))

pub seats_set : (K : ℕ → View → Type 0) (vs : List View) (me : ℕ) (w : View) → K me w → ((j : ℕ) (v : View) → j ≢ me → get_elem? vs j ≡ some v → K j v) → (j : ℕ) (v : View)
    → get_elem? (set vs me w) j ≡ some v → K j v
seats_set K vs me w mine others j v e =
    ⊎_elim
    (λ (t : (j ≡ me) × (w ≡ v)). subst (λ (x : ℕ × View). K x.0 x.1) (λ i. (sym t.0 i, t.1 i)) mine)
    (λ (t : (j ≢ me) × (get_elem? vs j ≡ some v)). others j v t.0 t.1)
    (at_set vs me j w v e)

-- the writer's view goes from q to q', and what others know stays true
pub record Grows (q q' : WriterView) : Type 0 where
  pub further : q.front ≤ q'.front
  pub kept : (n : ℕ) → n ≤ q.front → take n q'.list ≡ take n q.list
  pub place : q'.place ≡ q.place
  pub size : q'.size ≡ q.size

pub agrees_on : (q q' : WriterView) (r : ReaderView) → Grows q q' → Agrees q r → Agrees q' r
agrees_on q q' r g a =
    let w = a.within in
    let p = a.published in
    let f = g.further in
    record {
      same_table = a.same_table ∙ sym g.size;
      copied = a.copied ∙ sym (g.kept (length r.copy) (omega arith));
      within = w;
      published = omega arith;
      whole = subst IsWhole (sym (g.kept r.seen p)) a.whole;
    }

pub others_on : (q q' : WriterView) (writer reader stop j : ℕ) → Grows q q' → j ≢ writer → (v : View) → Knows q writer reader stop j v → Knows q' writer reader stop j v
others_on q q' writer reader stop j g other Spent k = tt
others_on q q' writer reader stop j g other (Writes p) k = absurd (other k.0)
others_on q q' writer reader stop j g other (Reads r) k = (k.0, g.place ∙ k.1, k.2, agrees_on q q' r g k.3)
others_on q q' writer reader stop j g other (Notes front) k = let f = g.further in let p = k.0 in (omega arith, subst IsWhole (sym (g.kept front p)) k.1)

pub beside_on : (q q' : WriterView) (stop : ℕ) → Grows q q' → (place : ReaderPlace) → Beside q stop place → Beside q' stop place
beside_on q q' stop g Unsplit b = b
beside_on q q' stop g Away b = tt
beside_on q q' stop g (Joined r) b = (b.0, agrees_on q q' r g b.1)

abbrev notes_it : View → Bool
notes_it (Notes front) = true
notes_it _ = false

pub not_note : (o : Option View) (front : ℕ) (q : WriterView) → o ≡ some (Notes front) → o ≡ some (Writes q) → ⊥
not_note o front q e f = true≢false (ap notes_it (some-injective (Notes front) (Writes q) (sym e ∙ f)))

abbrev is_inside : ReaderPlace → Bool
is_inside Unsplit = true
is_inside _ = false

-- a change of the stop word concerns the reader alone
pub stop_changes : (q : WriterView) (writer reader stop stop' j : ℕ) → j ≢ reader → (v : View) → Knows q writer reader stop j v → Knows q writer reader stop' j v
stop_changes q writer reader stop stop' j other Spent k = tt
stop_changes q writer reader stop stop' j other (Writes p) k = k
stop_changes q writer reader stop stop' j other (Reads r) k = absurd (other k.0)
stop_changes q writer reader stop stop' j other (Notes front) k = k

-- before the reader is split off no view is the reader's
pub not_yet : (q : WriterView) (writer reader reader' stop j : ℕ) → q.place ≡ Unsplit → j ≢ writer → (v : View) → Knows q writer reader stop j v → Knows (record q { place = Away }) writer reader' stop j v
not_yet q writer reader reader' stop j inside other Spent k = tt
not_yet q writer reader reader' stop j inside other (Writes p) k = absurd (other k.0)
not_yet q writer reader reader' stop j inside other (Reads r) k = absurd (true≢false (ap is_inside (sym inside ∙ k.1)))
not_yet q writer reader reader' stop j inside other (Notes front) k = k

-- once the reader is taken back no view is the reader's
pub gone : (q : WriterView) (b : ReaderView) (writer reader stop j : ℕ) → j ≢ writer → j ≢ reader → (v : View) → Knows q writer reader stop j v → Knows (record q { place = Joined b }) writer reader stop j v
gone q b writer reader stop j other apart Spent k = tt
gone q b writer reader stop j other apart (Writes p) k = absurd (other k.0)
gone q b writer reader stop j other apart (Reads r) k = absurd (apart k.0)
gone q b writer reader stop j other apart (Notes front) k = k

pub flag_true : (b : Bool) → flag b ≡ 1 → b ≡ true
flag_true true e = refl
flag_true false e = absurd (omega arith)

module _ {S : Type 0} where
  abbrev pub Rule : State S View → Type 0
  Rule = Kept

  -- the seat is the writer's
  pub as_writer : (id : ℕ) (q : WriterView) (s : State S View) (h : Kept s) → get_elem? s.views id ≡ some (Writes q) → Ruled q id h.2 s
  as_writer id q s h at =
      let k : (id ≡ h.1) × (q ≡ h.0) = h.3.each_seat id (Writes q) at in
      subst (λ (z : WriterView × ℕ). Ruled z.0 z.1 h.2 s) (λ i. (sym k.1 i, sym k.0 i)) h.3

  -- the seat is the reader's
  pub as_reader : (id : ℕ) (r : ReaderView) (s : State S View) (h : Kept s) → get_elem? s.views id ≡ some (Reads r) → Ruled h.0 h.1 id s
  as_reader id r s h at = subst (λ n. Ruled h.0 h.1 n s) (sym (h.3.each_seat id (Reads r) at).0) h.3
