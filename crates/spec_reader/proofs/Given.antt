-- What is answered for a line, from what its reader answered.
use Rattle.std.proofs.Common.{◌≡◌, ◌==◌, ℕ, Bool, true, false, refl, sym, ap, ◌∙◌, subst, arith, true≢false}
use Rattle.std.specs.Prelude.{⊤, nat_eq, if◌then◌else◌, Option, Some, None, is_some, option_and_then}
use Rattle.std.proofs.lemmas.Option.{none-some}
use Rattle.rule_kinds.specs.declared.kind.Kind.{Kind as RuleKind}
use Rattle.spec_lines.specs.Lines.{Text}
use Rattle.spec_lines.specs.Forms.{Line}
use Rattle.spec_lines.specs.Forms.Line.{First, Basis, Root, Entry, Grid, Obstructions, Requirements, Rule, Child, Terms, End}
use Rattle.spec_lines.specs.Follows.{Place, after, stands_at, arity}
use Rattle.spec_lines.specs.Follows.Place.{AtFirst, AtBasis, AtRoot, AtCount, AtEntry, AtGrid, AtObstructions, AtRequirements, AtRule, AtChild, AtTerms, AtEnd, Done}
use Rattle.spec_lines.specs.Readings.{line_at}
use Rattle.spec_lines.specs.Machine.{step}
use Rattle.spec_lines.specs.Items.{keep_if}
use Rattle.spec_lines.proofs.LineSpelling.{read_stands}
use Rattle.spec_lines.proofs.Taking.{kept, bound}
use Rattle.std.proofs.lemmas.Grind.{common_steps}
use Rattle.spec_reader.specs.declared.places.Jump.{Jump}
use Rattle.spec_reader.specs.declared.places.Jump.TheVariants.{Plain, Children}
use Rattle.line_readers.specs.declared.fault.ItemFault.{ItemFault}
use Rattle.line_readers.specs.declared.fault.ItemFault.TheVariants.{Form, Range, Memory}
use Rattle.spec_lines.specs.Ranges.{is_in_range}
use Rattle.line_readers.specs.Answers.{nothing_else, is_numbered}
use Rattle.line_readers.specs.Kept.{where_it}
use Rattle.spec_reader.specs.Positions.{IsJumpOf}
use Rattle.spec_reader.specs.Values.{IsReading, read_without}

-- why a line gave no value
abbrev pub IsLineFault : Option Line → ItemFault → Type 0
IsLineFault read Form = read ≡ None
IsLineFault read Range = (l : Line) × (read ≡ Some l) × (is_in_range nothing_else l ≡ false)
IsLineFault read Memory = ⊤

-- a line that leads on, and says so much of those after it
abbrev pub LeadsBy : Place → Jump → Line → Type 0
LeadsBy p j l = (is_some (after p l) ≡ true) × IsJumpOf l j

abbrev pub no_step : (p : Place) (t : Text) → line_at p t ≡ None → step p t ≡ None
no_step p t h = ap (option_and_then (after p)) h

pub without : (p : Place) (t : Text) (f : ItemFault) (j : Jump) → IsLineFault (line_at p t) f → ((l : Line) → line_at p t ≡ Some l → LeadsBy p j l) → IsReading p t (read_without f j)
without p t Form j h each = no_step p t h
without p t Range j h each = (h.0, h.1, h.2, (each h.0 h.1).0, (each h.0 h.1).1)
without p t Memory j h each = tt

-- a place after whose line comes always the same
abbrev pub is_plain : Place → Bool
is_plain AtCount = false
is_plain (AtEntry i left) = false
is_plain (AtRule i left) = false
is_plain Done = false
is_plain _ = true

leads_plainly : (p : Place) (l : Line) → is_plain p ≡ true → stands_at p l ≡ true → LeadsBy p Plain l
leads_plainly AtFirst First plain h = (refl, tt)
leads_plainly AtBasis (Basis words) plain h = (refl, tt)
leads_plainly AtRoot (Root trace) plain h = (refl, tt)
leads_plainly AtCount l plain h = absurd (true≢false (sym plain))
leads_plainly (AtEntry i left) l plain h = absurd (true≢false (sym plain))
leads_plainly (AtGrid i left) (Grid width height) plain h = (refl, tt)
leads_plainly (AtObstructions i left) (Obstructions patterns) plain h = (refl, tt)
leads_plainly (AtRequirements i left) (Requirements lists) plain h = (refl, tt)
leads_plainly (AtRule i left) l plain h = absurd (true≢false (sym plain))
leads_plainly (AtChild i left more) (Child child trace) plain h = (refl, tt)
leads_plainly AtTerms (Terms terms) plain h = (refl, tt)
leads_plainly AtEnd End plain h = (refl, tt)
leads_plainly p l plain h = absurd (true≢false (sym h))

pub plainly : (p : Place) (t : Text) (f : ItemFault) → is_plain p ≡ true → IsLineFault (line_at p t) f → IsReading p t (read_without f Plain)
plainly p t f plain h = without p t f Plain h (λ l read. leads_plainly p l plain (read_stands p t l read))

leads_to_children : (i left children : ℕ) (l : Line) → stands_at (AtRule i left) l ≡ true → ((k : RuleKind) → l ≡ Rule k → children ≡ arity k) → LeadsBy (AtRule i left) (Children children) l
leads_to_children i left children (Rule k) h many = (refl, ap Children (many k refl))
leads_to_children i left children l h many = absurd (true≢false (sym h))

pub with_children : (i left children : ℕ) (t : Text) (f : ItemFault) → IsLineFault (line_at (AtRule i left) t) f → ((k : RuleKind) → line_at (AtRule i left) t ≡ Some (Rule k) → children ≡ arity k) → IsReading (AtRule i left) t (read_without f (Children children))
with_children i left children t f h many =
    without (AtRule i left) t f (Children children) h (λ l read. leads_to_children i left children l (read_stands (AtRule i left) t l read) (λ k e. many k (read ∙ ap Some e)))

-- ====== the line of an entry ======
not_kept : (b : Bool) (l : Line) → keep_if b l ≡ None → b ≡ false
not_kept true l h = absurd (none-some l (sym h))
not_kept false l h = refl

other_number : (n number : ℕ) → nat_eq number n ≡ false → (n == number) ≡ false
other_number n number h = grind (arith, common_steps, h)

this_number : (n number : ℕ) → nat_eq number n ≡ true → (n == number) ≡ true
this_number n number h = grind (arith, common_steps, h)

pub same_number : (n : ℕ) → (n == n) ≡ true
same_number n = grind (arith, common_steps)

not_numbered : (n left : ℕ) (l : Line) → keep_if (is_numbered n l) l ≡ None → after (AtEntry n left) l ≡ None
not_numbered n left (Entry number rank) h = ap (λ b. if b then Some (AtGrid n left) else None) (other_number n number (not_kept (nat_eq number n) (Entry number rank) h))
not_numbered n left l h = refl

entry_form : (n left : ℕ) (o : Option Line) → where_it (is_numbered n) o ≡ None → option_and_then (after (AtEntry n left)) o ≡ None
entry_form n left None h = refl
entry_form n left (Some l) h = not_numbered n left l h

entry_leads : (n left : ℕ) (l : Line) → stands_at (AtEntry n left) l ≡ true → is_numbered n l ≡ true → LeadsBy (AtEntry n left) Plain l
entry_leads n left (Entry number rank) h same = (ap (λ b. is_some (if b then Some (AtGrid n left) else None)) (this_number n number same), tt)
entry_leads n left l h same = absurd (true≢false (sym h))

pub entry_told : (n left : ℕ) (t : Text) (l : Line) → where_it (is_numbered n) (line_at (AtEntry n 0) t) ≡ Some l → (line_at (AtEntry n left) t ≡ Some l) × LeadsBy (AtEntry n left) Plain l
entry_told n left t l h =
    let whole = bound (λ x. keep_if (is_numbered n x) x) (line_at (AtEntry n 0) t) l h in
    let both = kept (is_numbered n whole.0) whole.0 l whole.2 in
    let read : line_at (AtEntry n left) t ≡ Some l = whole.1 ∙ ap Some both.1 in
    (read, entry_leads n left l (read_stands (AtEntry n left) t l read) (subst (λ x. is_numbered n x ≡ true) both.1 both.0))

pub entry_without : (n left : ℕ) (t : Text) (f : ItemFault) → IsLineFault (where_it (is_numbered n) (line_at (AtEntry n 0) t)) f → IsReading (AtEntry n left) t (read_without f Plain)
entry_without n left t Form h = entry_form n left (line_at (AtEntry n 0) t) h
entry_without n left t Range h = let told = entry_told n left t h.0 h.1 in (h.0, told.0, h.2, told.1.0, told.1.1)
entry_without n left t Memory h = tt
