-- A reader that takes the value of a line.
use Rattle.std.proofs.Common.{◌≡◌, ◌+◌, ◌≤◌, ℕ, Bool, true, false, List, [], ◌∷◌, ◌++◌, refl, sym, ap, subst, ◌∙◌, arith, true≢false}
use Rattle.std.specs.Prelude.{Option, Some, None, is_some}
use Rattle.spec_lines.specs.Lines.{Text}
use Rattle.spec_lines.specs.Forms.{Line}
use Rattle.spec_lines.specs.Follows.{Place, after}
use Rattle.spec_lines.specs.Ranges.{is_in_range}
use Rattle.spec_lines.specs.Readings.{line_at}
use Rattle.spec_lines.proofs.LineSpelling.{read_in_form}
use Rattle.spec_reader.specs.declared.places.Jump.{Jump}
use Rattle.spec_reader.specs.declared.values.LineValue.{LineValue}
use Rattle.spec_reader.specs.declared.reader.Reading.{Reading}
use Rattle.spec_reader.specs.Drafts.{drafted, seen_of, is_child, taken}
use Rattle.spec_reader.specs.Kept.{IsSound, IsKept}
use Rattle.spec_reader.specs.Positions.{IsPlaced, IsJumpOf, place_of, jumped}
use Rattle.spec_reader.specs.States.{state_of, noted_limit, MayTake, Advances}
use Rattle.spec_reader.specs.Values.{value_of, HasValue, IsBeyond}
use Rattle.spec_reader.specs.Walks.{ReaderState, Noted, HasRead}
use Rattle.spec_reader.proofs.Jumps.{jump_is}
use Rattle.spec_reader.proofs.Onward.{on, beyond}
use Rattle.spec_reader.proofs.Walked.{read_on}

abbrev pub IsKeptReading : Reading → Type 0
IsKeptReading r = IsKept r.position r.lines r.limit r.draft

some_of : {X : Type 0} (o : Option X) → is_some o ≡ true → (x : X) × (o ≡ Some x)
some_of None e = absurd (true≢false (sym e))
some_of (Some x) e = (x, refl)

-- a jump over a line that leads on leads where the line leads
leads_there : (p q : Place) (l : Line) (j : Jump) → is_some (after p l) ≡ true → IsJumpOf l j → q ≡ jumped p j → after p l ≡ Some q
leads_there p q l j some says there =
    let w = some_of (after p l) some in
    w.1 ∙ ap Some (sym (there ∙ jump_is p l j w.0 w.1 says))

-- a value that is built
pub goes : (r s : Reading) (v : LineValue) (j : Jump) → IsKeptReading r → MayTake (state_of r) (value_of v) → r.limit ≡ None → is_in_range (seen_of r.draft) (value_of v) ≡ true
    → IsJumpOf (value_of v) j → place_of s.position ≡ jumped (place_of r.position) j → IsPlaced s.position → s.position.number ≤ r.position.number + 1 → s.lines ≡ r.lines + 1 → s.limit ≡ r.limit
    → s.draft ≡ taken v (is_child (place_of s.position)) r.draft → IsKeptReading s × Advances (state_of r) (value_of v) (state_of s)
goes r s v j kept may none range says place placed number lines limit draft =
    let q = place_of s.position in
    let leads = leads_there (place_of r.position) q (value_of v) j may.leads says place in
    let k = on (place_of r.position) q v r.draft leads may.form range (kept.sound none) in (
      record {
        placed = placed;
        numbers = let a = kept.numbers in omega (arith, a, number, lines);
        sound = λ still. subst (IsSound q) (sym draft) k.sound;
      },
      record {
        leads = leads;
        counted = lines;
        noted =
            subst (λ b. Noted (state_of r) (value_of v) (state_of s) r.limit b) (sym range)
            (subst (λ o. Noted (state_of r) (value_of v) (state_of s) o true) (sym none)
            (limit ∙ none, ap seen_of draft ∙ k.seen, ap (drafted q) draft ∙ k.lines));
      },
    )

passed_noted : (s t : ReaderState) (l : Line) (o : Option ℕ) (b : Bool) → t.limit ≡ noted_limit o (s.lines + 1) → (o ≡ None → b ≡ false) → Noted s l t o b
passed_noted s t l (Some k) b e h = e
passed_noted s t l None true e h = absurd (true≢false (h refl))
passed_noted s t l None false e h = e

-- a line that is passed over
pub passes : (r s : ReaderState) (l : Line) (j : Jump) → is_some (after r.place l) ≡ true → IsJumpOf l j → s.place ≡ jumped r.place j → s.lines ≡ r.lines + 1 → s.limit ≡ noted_limit r.limit (r.lines + 1)
    → (r.limit ≡ None → is_in_range r.seen l ≡ false) → Advances r l s
passes r s l j leads says place lines limit out = record {
  leads = leads_there r.place s.place l j leads says place;
  counted = lines;
  noted = passed_noted r s l r.limit (is_in_range r.seen l) limit out;
}

pub may_take : (r : Reading) (t : Text) (v : LineValue) → HasValue (place_of r.position) t v → MayTake (state_of r) (value_of v)
may_take r t v h = record { leads = h.2; form = read_in_form (place_of r.position) t (value_of v) h.0; alone = h.1 }

pub read_further : (r s : ReaderState) (t : Text) (l : Line) → line_at r.place t ≡ Some l → Advances r l s → (lines : List Text) → HasRead lines r → HasRead (lines ++ t ∷ []) s
read_further r s t l read k lines h = read_on lines t r s h (record { value = l; read = read; leads = k.leads; counted = k.counted; noted = k.noted })

-- a line out of any range that is passed over
pub passes_beyond : (r s : Reading) (t : Text) (j : Jump) → IsKeptReading r → IsBeyond (place_of r.position) t j → place_of s.position ≡ jumped (place_of r.position) j → s.lines ≡ r.lines + 1 → s.limit ≡ noted_limit r.limit (r.lines + 1)
    → (lines : List Text) → HasRead lines (state_of r) → HasRead (lines ++ t ∷ []) (state_of s)
passes_beyond r s t j kept h place lines limit =
    read_further (state_of r) (state_of s) t h.0 h.1
    (passes (state_of r) (state_of s) h.0 j h.3 h.4 place lines limit (λ none. beyond (place_of r.position) h.0 r.draft h.3 (kept.sound none) h.2))
