-- Reading items and lines, as functions on texts: None where the text isn't of the form.
use Rattle.std.specs.Prelude.{ℕ, Bool, cond, not, ◌&&◌, ◌||◌, ◌-◌, ◌+◌, ◌*◌, nat_le, nat_eq, List, [], ◌∷◌, length, get_or, codes, Option, Some, None, option_map, option_and_then}
use Rattle.std.specs.List.{list_all}
use Rattle.gridded.specs.declared.cell.Cell.{Cell}
use Rattle.gridded.specs.Grids.{Point, points}
use Rattle.steps.specs.declared.step.Step.{Step}
use Rattle.steps.specs.declared.step.Step.TheVariants as steps
use Rattle.css_terms.specs.declared.term.Term.{Term}
use Rattle.css_terms.specs.declared.term.Term.TheVariants.{Exact, Big}
use Rattle.rule_kinds.specs.Pointeds.{PointedPattern}
use Rattle.rule_kinds.specs.declared.kind.Direction.{Direction}
use Rattle.rule_kinds.specs.declared.kind.Direction.TheVariants.{North, South, East, West}
use Rattle.rule_kinds.specs.declared.kind.Kind.{Kind}
use Rattle.rule_kinds.specs.declared.kind.Kind.TheVariants as kind
use Rattle.spec_lines.specs.Lines.{Text}
use Rattle.spec_lines.specs.Forms.{Line, is_line, is_word, is_pattern}
use Rattle.spec_lines.specs.Forms.Line.{First, Basis, Root, Count, Entry, Grid, Obstructions, Requirements, Rule, Child, Terms, End}
use Rattle.spec_lines.specs.Follows.{Place}
use Rattle.spec_lines.specs.Follows.Place.{AtFirst, AtBasis, AtRoot, AtCount, AtEntry, AtGrid, AtObstructions, AtRequirements, AtRule, AtChild, AtTerms, AtEnd, Done}
use Rattle.spec_lines.specs.Items.{keep_if, same, items, read_all, dashed, behind}

abbrev pub is_digit_byte : ℕ → Bool
is_digit_byte b = nat_le 48 b && nat_le b 57

abbrev pub digit_at : ℕ → Option ℕ
digit_at b = keep_if (is_digit_byte b) (b - 48)

-- the number that digits spell when they follow those of n
abbrev pub value_after : ℕ → Text → ℕ
value_after n [] = n
value_after n (b ∷ t) = value_after (n * 10 + (b - 48)) t

-- 1 to 39 bytes, of which the first is no zero unless it is alone
abbrev pub is_led : Text → Bool
is_led t = nat_le 1 (length t) && nat_le (length t) 39 && (nat_eq (length t) 1 || not (nat_eq (get_or t 0 0) 48))

abbrev pub number_at : Text → Option ℕ
number_at t = keep_if (is_led t && list_all is_digit_byte t) (value_after 0 t)

abbrev pub letters_at : Text → Option (List ℕ)
letters_at [] = Some []
letters_at (b ∷ t) = option_and_then (λ x. option_map (λ xs. x ∷ xs) (letters_at t)) (digit_at b)

abbrev pub word_at : Text → Option (List ℕ)
word_at t = option_and_then (λ w. keep_if (is_word w) w) (letters_at t)

abbrev pub cell_at : Text → Option Cell
cell_at (a ∷ b ∷ []) = option_and_then (λ x. option_map (λ y. record { x = x; y = y }) (digit_at b)) (digit_at a)
cell_at _ = None

abbrev pub gridded_at : List Text → Option (List Point)
gridded_at (w ∷ c ∷ []) = option_and_then (λ letters. option_and_then (λ cells. keep_if (nat_eq (length letters) (length cells) && is_pattern (points letters cells)) (points letters cells)) (read_all cell_at (items 46 c))) (word_at w)
gridded_at _ = None

abbrev pub pattern_at : Text → Option (List Point)
pattern_at t = cond (same t (codes "e")) (Some []) (gridded_at (items 58 t))

abbrev pub list_at : Text → Option (List (List Point))
list_at t = cond (same t (codes "x")) (Some []) (read_all pattern_at (items 124 t))

abbrev pub step_at : Text → Option Step
step_at (k ∷ []) = cond (nat_eq k 86) (Some steps.Void) (cond (nat_eq k 77) (Some steps.Min) (cond (nat_eq k 76) (Some steps.Lists) None))
step_at (k ∷ a ∷ []) = option_and_then (λ x. cond (nat_eq k 67) (Some (steps.Column x)) (cond (nat_eq k 82) (Some (steps.Row x)) None)) (digit_at a)
step_at (k ∷ a ∷ b ∷ []) = cond (nat_eq k 75) (option_map steps.Clean (cell_at (a ∷ b ∷ []))) None
step_at _ = None

abbrev pub pointed_of : List Text → Option PointedPattern
pointed_of (g ∷ (d ∷ []) ∷ []) = option_and_then (λ pattern. option_map (λ index. record { pattern = pattern; index = index }) (digit_at d)) (pattern_at g)
pointed_of _ = None

abbrev pub pointed_at : Text → Option PointedPattern
pointed_at t = pointed_of (items 94 t)

abbrev pub set_at : Text → Option (List Cell)
set_at t = read_all cell_at (items 46 t)

abbrev pub direction_at : Text → Option Direction
direction_at t = cond (same t (codes "N")) (Some North) (cond (same t (codes "S")) (Some South) (cond (same t (codes "E")) (Some East) (cond (same t (codes "W")) (Some West) None)))

abbrev pub alone : Kind → List Text → Option Kind
alone k [] = Some k
alone k (t ∷ ts) = None

abbrev pub insert_at : List Text → Option Kind
insert_at (t ∷ []) = option_map kind.Insert (pattern_at t)
insert_at _ = None

abbrev pub place_at : List Text → Option Kind
place_at [] = None
place_at (t ∷ ts) = option_and_then (λ d. option_map (λ qs. kind.Place qs d) (read_all pointed_at ts)) (direction_at t)

abbrev pub cut_at : (ℕ → List Cell → Kind) → List Text → Option Kind
cut_at cut (n ∷ set ∷ []) = option_and_then (λ y. option_map (cut y) (set_at set)) (number_at n)
cut_at cut _ = None

abbrev pub kind_at : List Text → Option Kind
kind_at [] = None
kind_at (w ∷ ts) =
    cond (same w (codes "unit")) (alone kind.Unit ts)
    (cond (same w (codes "point")) (alone kind.Point ts)
    (cond (same w (codes "void")) (alone kind.Void ts)
    (cond (same w (codes "insert")) (insert_at ts)
    (cond (same w (codes "place")) (place_at ts)
    (cond (same w (codes "rowcut")) (cut_at kind.RowCut ts)
    (cond (same w (codes "colcut")) (cut_at kind.ColumnCut ts)
    (cond (same w (codes "factor")) (option_map kind.Factor (read_all set_at ts))
    (cond (same w (codes "infer")) (option_map kind.Infer (read_all pattern_at ts)) None))))))))

abbrev pub term_at : Text → Option Term
term_at t = cond (same t (codes "big")) (Some Big) (option_map Exact (number_at t))

abbrev pub terms_at : List Text → Option (List Term)
terms_at ts = read_all term_at ts

abbrev pub basis_of : List Text → Option Line
basis_of (t ∷ []) = option_map Basis (read_all word_at (items 44 t))
basis_of _ = None

abbrev pub count_of : List Text → Option Line
count_of (t ∷ []) = option_map Count (number_at t)
count_of _ = None

abbrev pub entry_of : List Text → Option Line
entry_of (i ∷ w ∷ r ∷ []) = option_and_then (λ number. option_and_then (λ rank. cond (same w (codes "rank")) (Some (Entry number rank)) None) (number_at r)) (number_at i)
entry_of _ = None

abbrev pub grid_of : List Text → Option Line
grid_of (w ∷ h ∷ []) = option_and_then (λ width. option_map (λ height. Grid width height) (number_at h)) (number_at w)
grid_of _ = None

abbrev pub child_of : List Text → Option Line
child_of [] = None
child_of (c ∷ ts) = option_and_then (λ child. option_map (Child child) (dashed step_at ts)) (number_at c)

-- the value of a line that stands at a place, its conditions aside
abbrev pub value_at : Place → Text → Option Line
value_at AtFirst t = cond (same t (codes "tilescope 1")) (Some First) None
value_at AtBasis t = option_and_then basis_of (behind (codes "basis") (items 32 t))
value_at AtRoot t = option_and_then (λ ts. option_map Root (dashed step_at ts)) (behind (codes "root") (items 32 t))
value_at AtCount t = option_and_then count_of (behind (codes "entries") (items 32 t))
value_at (AtEntry i left) t = option_and_then entry_of (behind (codes "entry") (items 32 t))
value_at (AtGrid i left) t = option_and_then grid_of (behind (codes "grid") (items 32 t))
value_at (AtObstructions i left) t = option_and_then (λ ts. option_map Obstructions (dashed pattern_at ts)) (behind (codes "obs") (items 32 t))
value_at (AtRequirements i left) t = option_and_then (λ ts. option_map Requirements (dashed list_at ts)) (behind (codes "req") (items 32 t))
value_at (AtRule i left) t = option_and_then (λ ts. option_map Rule (kind_at ts)) (behind (codes "rule") (items 32 t))
value_at (AtChild i left more) t = option_and_then child_of (behind (codes "to") (items 32 t))
value_at AtTerms t = option_and_then (λ ts. option_map Terms (terms_at ts)) (behind (codes "terms") (items 32 t))
value_at AtEnd t = cond (same t (codes "end")) (Some End) None
value_at Done t = None

abbrev pub line_at : Place → Text → Option Line
line_at p t = option_and_then (λ l. keep_if (is_line l) l) (value_at p t)
