-- Kinds, by what the items behind their words are read as.
use Rattle.std.specs.Prelude.{ℕ, Bool, nat_le, cond, ◌&&◌, List, [], ◌∷◌, codes, Option, Some, None, option_map, option_and_then}
use Rattle.gridded.specs.declared.cell.Cell.{Cell}
use Rattle.gridded.specs.Orders.{gridded_cmp}
use Rattle.rule_kinds.specs.declared.kind.Kind.{Kind}
use Rattle.rule_kinds.specs.declared.kind.Kind.TheVariants as kind
use Rattle.spec_lines.specs.Lines.{Text}
use Rattle.spec_lines.specs.Forms.{has_items, ascending, is_pointed, is_set}
use Rattle.spec_lines.specs.Items.{same, read_all}
use Rattle.spec_lines.specs.Ranges.{is_small}
use Rattle.spec_lines.specs.Readings.{number_at, pattern_at, pointed_at, set_at, direction_at, alone}
use Rattle.line_readers.specs.Kept.{where_it}
use Rattle.line_readers.specs.declared.kinds.KindWord.{KindWord}
use Rattle.line_readers.specs.declared.kinds.KindWord.TheVariants as word

-- the kind that a word begins
abbrev pub word_of_kind : Text → Option KindWord
word_of_kind w =
    cond (same w (codes "unit")) (Some word.Unit)
    (cond (same w (codes "point")) (Some word.Point)
    (cond (same w (codes "void")) (Some word.Void)
    (cond (same w (codes "insert")) (Some word.Insert)
    (cond (same w (codes "place")) (Some word.Place)
    (cond (same w (codes "rowcut")) (Some word.RowCut)
    (cond (same w (codes "colcut")) (Some word.ColumnCut)
    (cond (same w (codes "factor")) (Some word.Factor)
    (cond (same w (codes "infer")) (Some word.Infer) None))))))))

-- the only item
abbrev pub sole : List Text → Option Text
sole (t ∷ []) = Some t
sole _ = None

abbrev pub insert_read : List Text → Option Kind
insert_read ts = option_and_then (λ t. option_map kind.Insert (pattern_at t)) (sole ts)

abbrev pub place_read : List Text → Option Kind
place_read [] = None
place_read (t ∷ ts) = option_and_then (λ d. option_map (λ qs. kind.Place qs d) (read_all (λ u. where_it is_pointed (pointed_at u)) ts)) (direction_at t)

abbrev pub cut_read : List Text → Option (ℕ × List Cell)
cut_read (n ∷ set ∷ []) = option_and_then (λ y. option_map (λ cells. (y, cells)) (where_it is_set (set_at set))) (number_at n)
cut_read _ = None

abbrev pub is_cut_in_range : ℕ × List Cell → Bool
is_cut_in_range cut = nat_le cut.0 7 && is_small cut.1

abbrev pub factor_read : List Text → Option Kind
factor_read ts = option_map kind.Factor (where_it has_items (read_all (λ u. where_it is_set (set_at u)) ts))

abbrev pub infer_read : List Text → Option Kind
infer_read ts = option_map kind.Infer (where_it (λ gs. has_items gs && ascending gridded_cmp gs) (read_all pattern_at ts))

abbrev pub kind_read : KindWord → List Text → Option Kind
kind_read word.Unit ts = alone kind.Unit ts
kind_read word.Point ts = alone kind.Point ts
kind_read word.Void ts = alone kind.Void ts
kind_read word.Insert ts = insert_read ts
kind_read word.Place ts = place_read ts
kind_read word.RowCut ts = option_map (λ (p : ℕ × List Cell). kind.RowCut p.0 p.1) (cut_read ts)
kind_read word.ColumnCut ts = option_map (λ (p : ℕ × List Cell). kind.ColumnCut p.0 p.1) (cut_read ts)
kind_read word.Factor ts = factor_read ts
kind_read word.Infer ts = infer_read ts

-- the kind of a rule's items
abbrev pub rule_read : List Text → Option Kind
rule_read [] = None
rule_read (w ∷ ts) = option_and_then (λ n. kind_read n ts) (word_of_kind w)
