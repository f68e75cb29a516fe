-- Answers for kinds.
use Rattle.std.proofs.Common.{◌≡◌, ℕ, Bool, true, false, List, [], ◌∷◌, refl, ap, sym, ◌∙◌}
use Rattle.std.specs.Prelude.{◌&&◌, nat_le, Option, Some, None, option_map, Result, Ok, Err}
use Rattle.std.specs.List.{list_all}
use Rattle.gridded.specs.declared.cell.Cell.{Cell}
use Rattle.gridded.specs.Grids.{Point}
use Rattle.gridded.specs.Orders.{cells_of}
use Rattle.rule_kinds.specs.declared.kind.Kind.{Kind}
use Rattle.spec_lines.specs.Forms.Line.{Rule}
use Rattle.spec_lines.specs.Ranges.{is_short, is_small, is_small_pattern, is_kind_in_range}
use Rattle.line_readers.specs.Answers.{IsAnswer, IsLineAnswer}
use Rattle.line_readers.specs.declared.fault.ItemFault.{ItemFault}
use Rattle.line_readers.specs.declared.fault.ItemFault.TheVariants.{Form, Range, Memory}
use Rattle.rule_kinds.specs.declared.kind.Kind.TheVariants as kind
use Rattle.line_readers.specs.KindItems.{is_cut_in_range}

shuffled : (a b c d : Bool) → ((a && b) && (c && d)) ≡ ((a && c) && (b && d))
shuffled true true c d = refl
shuffled true false true d = refl
shuffled true false false d = refl
shuffled false b c d = refl

pub all_small : (gs : List (List Point)) → list_all is_small_pattern gs ≡ (list_all is_short gs && list_all (λ g. is_small (cells_of g)) gs)
all_small [] = refl
all_small (g ∷ gs) = ap (λ b. is_small_pattern g && b) (all_small gs) ∙ shuffled (is_short g) (is_small (cells_of g)) (list_all is_short gs) (list_all (λ h. is_small (cells_of h)) gs)

-- an answer for a kind is one for its line
pub line_answer : (o : Option Kind) (result : Result Kind ItemFault) → IsAnswer o is_kind_in_range (λ k. k) result → IsLineAnswer (option_map Rule o) (λ k. Rule k) result
line_answer o (Ok k) h = (ap (option_map Rule) (h.0), h.1)
line_answer o (Err Form) h = ap (option_map Rule) h
line_answer o (Err Range) h = (Rule (h.0), ap (option_map Rule) (h.1), h.2)
line_answer o (Err Memory) h = h

pub row_fault : (o : Option (ℕ × List Cell)) (fault : ItemFault) → IsAnswer {R = ℕ × List Cell} o is_cut_in_range (λ p. p) (Err fault) → IsAnswer {R = Kind} (option_map (λ (p : ℕ × List Cell). kind.RowCut p.0 p.1) o) is_kind_in_range (λ k. k) (Err fault)
row_fault o Form h = ap (option_map (λ (p : ℕ × List Cell). kind.RowCut p.0 p.1)) h
row_fault o Range h = (kind.RowCut ((h.0).0) ((h.0).1), ap (option_map (λ (p : ℕ × List Cell). kind.RowCut p.0 p.1)) (h.1), h.2)
row_fault o Memory h = h

pub column_fault : (o : Option (ℕ × List Cell)) (fault : ItemFault) → IsAnswer {R = ℕ × List Cell} o is_cut_in_range (λ p. p) (Err fault) → IsAnswer {R = Kind} (option_map (λ (p : ℕ × List Cell). kind.ColumnCut p.0 p.1) o) is_kind_in_range (λ k. k) (Err fault)
column_fault o Form h = ap (option_map (λ (p : ℕ × List Cell). kind.ColumnCut p.0 p.1)) h
column_fault o Range h = (kind.ColumnCut ((h.0).0) ((h.0).1), ap (option_map (λ (p : ℕ × List Cell). kind.ColumnCut p.0 p.1)) (h.1), h.2)
column_fault o Memory h = h
