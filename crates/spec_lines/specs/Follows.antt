-- Which line may follow which, and the texts of the form.
use Rattle.std.specs.Prelude.{◌≡◌, ℕ, zero, suc, Bool, true, false, ◌==◌, List, [], ◌∷◌, length, flat_map, Option, Some, None, option_and_then, IsTrue, if◌then◌else◌}
use Rattle.std.specs.List.{list_all}
use Rattle.rule_kinds.specs.declared.kind.Kind.{Kind}
use Rattle.rule_kinds.specs.declared.kind.Kind.TheVariants as kind
use Rattle.spec_lines.specs.Lines.{Text}
use Rattle.spec_lines.specs.Forms.{Line, line_text, is_line}
use Rattle.spec_lines.specs.Forms.Line.{First, Basis, Root, Count, Entry, Grid, Obstructions, Requirements, Rule, Child, Terms, End}

-- The line that is to come. Within an entry a place has the entry's number and how many entries come after it, and that of a child how
-- many children come after it.
pub data Place : Type 0 where
  AtFirst : Place
  AtBasis : Place
  AtRoot : Place
  AtCount : Place
  AtEntry : ℕ → ℕ → Place
  AtGrid : ℕ → ℕ → Place
  AtObstructions : ℕ → ℕ → Place
  AtRequirements : ℕ → ℕ → Place
  AtRule : ℕ → ℕ → Place
  AtChild : ℕ → ℕ → ℕ → Place
  AtTerms : Place
  AtEnd : Place
  Done : Place

-- whether the line is of the kind that stands at the place
abbrev pub stands_at : Place → Line → Bool
stands_at AtFirst First = true
stands_at AtBasis (Basis words) = true
stands_at AtRoot (Root trace) = true
stands_at AtCount (Count entries) = true
stands_at (AtEntry i left) (Entry number rank) = true
stands_at (AtGrid i left) (Grid width height) = true
stands_at (AtObstructions i left) (Obstructions patterns) = true
stands_at (AtRequirements i left) (Requirements lists) = true
stands_at (AtRule i left) (Rule k) = true
stands_at (AtChild i left more) (Child child trace) = true
stands_at AtTerms (Terms terms) = true
stands_at AtEnd End = true
stands_at _ _ = false

-- how many children a rule of the kind has
abbrev pub arity : Kind → ℕ
arity (kind.Insert r) = 2
arity (kind.Place qs d) = suc (length qs)
arity (kind.RowCut y set) = 1
arity (kind.ColumnCut x set) = 1
arity (kind.Factor sets) = length sets
arity (kind.Infer patterns) = 1
arity _ = 0

-- the next entry, or the terms where none is left
abbrev pub entry_or_terms : ℕ → ℕ → Place
entry_or_terms number zero = AtTerms
entry_or_terms number (suc left) = AtEntry number left

-- the next child of an entry, or what comes after the entry where none is left
abbrev pub child_or_next : ℕ → ℕ → ℕ → Place
child_or_next number left zero = entry_or_terms (suc number) left
child_or_next number left (suc more) = AtChild number left more

-- the place after a line, where the line may stand at this one
abbrev pub after : Place → Line → Option Place
after AtFirst First = Some AtBasis
after AtBasis (Basis words) = Some AtRoot
after AtRoot (Root trace) = Some AtCount
after AtCount (Count entries) = Some (entry_or_terms 0 entries)
after (AtEntry i left) (Entry number rank) = if i == number then Some (AtGrid i left) else None
after (AtGrid i left) (Grid width height) = Some (AtObstructions i left)
after (AtObstructions i left) (Obstructions patterns) = Some (AtRequirements i left)
after (AtRequirements i left) (Requirements lists) = Some (AtRule i left)
after (AtRule i left) (Rule k) = Some (child_or_next i left (arity k))
after (AtChild i left more) (Child child trace) = Some (child_or_next i left more)
after AtTerms (Terms terms) = Some AtEnd
after AtEnd End = Some Done
after _ _ = None

abbrev pub place_after : Place → List Line → Option Place
place_after p [] = Some p
place_after p (l ∷ lines) = option_and_then (λ q. place_after q lines) (after p l)

-- the bytes are a text of the form, with these lines; the ranges are another matter
pub record IsForm (bytes : Text) (lines : List Line) : Type 0 where
  pub text : bytes ≡ flat_map line_text lines
  pub each : IsTrue (list_all is_line lines)
  pub whole : place_after AtFirst lines ≡ Some Done
