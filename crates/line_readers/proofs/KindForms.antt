-- A rule's line, by what its items are read as.
use Rattle.std.proofs.Common.{◌≡◌, ℕ, Bool, true, false, cond, List, [], ◌∷◌, refl, ap, sym, ◌∙◌}
use Rattle.std.specs.Prelude.{◌&&◌, codes, Option, Some, None, option_map, option_and_then}
use Rattle.std.specs.List.{list_all}
use Rattle.gridded.specs.declared.cell.Cell.{Cell}
use Rattle.gridded.specs.Grids.{Point}
use Rattle.gridded.specs.Orders.{gridded_cmp}
use Rattle.rule_kinds.specs.Pointeds.{PointedPattern}
use Rattle.rule_kinds.specs.declared.kind.Direction.{Direction}
use Rattle.rule_kinds.specs.declared.kind.Kind.{Kind}
use Rattle.rule_kinds.specs.declared.kind.Kind.TheVariants as kind
use Rattle.spec_lines.specs.Lines.{Text}
use Rattle.spec_lines.specs.Forms.{Line, is_line, has_items, ascending, is_kind, is_number, is_pattern, is_pointed, is_set}
use Rattle.spec_lines.specs.Forms.Line.{Rule}
use Rattle.spec_lines.specs.Follows.Place.{AtRule}
use Rattle.spec_lines.specs.Items.{keep_if, same, items, read_all, behind}
use Rattle.spec_lines.specs.Readings.{number_at, pattern_at, pointed_at, set_at, direction_at, alone, insert_at, place_at, cut_at, kind_at, line_at}
use Rattle.line_readers.specs.Kept.{where_it}
use Rattle.line_readers.specs.declared.kinds.KindWord.TheVariants as word
use Rattle.line_readers.specs.KindItems.{word_of_kind, insert_read, place_read, cut_read, factor_read, infer_read, kind_read, rule_read}
use Rattle.line_readers.proofs.Wide.{all_kept}
use Rattle.line_readers.proofs.LineForms.{number_small}
use Rattle.line_readers.proofs.ListForms.{kept_all, pattern_fits}

both : (a b : Bool) → a ≡ true → (a && b) ≡ b
both a b h = rw h refl

alone_by : (k : Kind) → is_kind k ≡ true → (ts : List Text) → where_it is_kind (alone k ts) ≡ alone k ts
alone_by k h [] = ap (λ b. keep_if b k) h
alone_by k h (t ∷ ts) = refl

insert_by : (ts : List Text) → where_it is_kind (insert_at ts) ≡ insert_read ts
insert_by [] = refl
insert_by (t ∷ u ∷ ts) = refl
insert_by (t ∷ []) = split (pattern_at t) (λ g e. pattern_fits t g e)
  where
    split : (o : Option (List Point)) → ((g : List Point) → o ≡ Some g → is_pattern g ≡ true) → where_it is_kind (option_map kind.Insert o) ≡ option_map kind.Insert o
    split None f = refl
    split (Some g) f = ap (λ b. keep_if b (kind.Insert g)) (f g refl)

place_by : (ts : List Text) → where_it is_kind (place_at ts) ≡ place_read ts
place_by [] = refl
place_by (t ∷ ts) = split (direction_at t) (read_all pointed_at ts) ∙ ap (λ o. option_and_then (λ d. option_map (λ qs. kind.Place qs d) o) (direction_at t)) (sym (kept_all pointed_at is_pointed ts))
  where
    test : (d : Direction) (qs : List PointedPattern) (b : Bool) → keep_if b (kind.Place qs d) ≡ option_map (λ xs. kind.Place xs d) (keep_if b qs)
    test d qs true = refl
    test d qs false = refl

    split : (o : Option Direction) (q : Option (List PointedPattern)) → where_it is_kind (option_and_then (λ d. option_map (λ qs. kind.Place qs d) q) o) ≡ option_and_then (λ d. option_map (λ qs. kind.Place qs d) (where_it (list_all is_pointed) q)) o
    split None q = refl
    split (Some d) None = refl
    split (Some d) (Some qs) = test d qs (list_all is_pointed qs)

cut_by : (cut : ℕ → List Cell → Kind) → ((y : ℕ) (set : List Cell) → is_kind (cut y set) ≡ (is_number y && is_set set)) → (ts : List Text) → where_it is_kind (cut_at cut ts) ≡ option_map (λ (p : ℕ × List Cell). cut p.0 p.1) (cut_read ts)
cut_by cut h [] = refl
cut_by cut h (n ∷ []) = refl
cut_by cut h (n ∷ set ∷ t ∷ ts) = refl
cut_by cut h (n ∷ set ∷ []) = split (number_at n) (set_at set) (λ y e. number_small n y e)
  where
    test : (y : ℕ) (cells : List Cell) (b : Bool) → keep_if b (cut y cells) ≡ option_map (λ (p : ℕ × List Cell). cut p.0 p.1) (option_map (λ xs. (y, xs)) (keep_if b cells))
    test y cells true = refl
    test y cells false = refl

    split : (o : Option ℕ) (q : Option (List Cell)) → ((y : ℕ) → o ≡ Some y → is_number y ≡ true) → where_it is_kind (option_and_then (λ y. option_map (cut y) q) o) ≡ option_map (λ (p : ℕ × List Cell). cut p.0 p.1) (option_and_then (λ y. option_map (λ cells. (y, cells)) (where_it is_set q)) o)
    split None q f = refl
    split (Some y) None f = refl
    split (Some y) (Some cells) f = ap (λ b. keep_if b (cut y cells)) (h y cells ∙ both (is_number y) (is_set cells) (f y refl)) ∙ test y cells (is_set cells)

factor_by : (ts : List Text) → where_it is_kind (option_map kind.Factor (read_all set_at ts)) ≡ factor_read ts
factor_by ts = split (read_all set_at ts) ∙ ap (λ o. option_map kind.Factor (where_it has_items o)) (sym (kept_all set_at is_set ts))
  where
    test : (sets : List (List Cell)) (a b : Bool) → has_items sets ≡ a → keep_if (a && b) (kind.Factor sets) ≡ option_map kind.Factor (where_it has_items (keep_if b sets))
    test sets true true e = ap (λ c. option_map kind.Factor (keep_if c sets)) (sym e)
    test sets true false e = refl
    test sets false true e = ap (λ c. option_map kind.Factor (keep_if c sets)) (sym e)
    test sets false false e = refl

    split : (o : Option (List (List Cell))) → where_it is_kind (option_map kind.Factor o) ≡ option_map kind.Factor (where_it has_items (where_it (list_all is_set) o))
    split None = refl
    split (Some sets) = test sets (has_items sets) (list_all is_set sets) refl

infer_by : (ts : List Text) → where_it is_kind (option_map kind.Infer (read_all pattern_at ts)) ≡ infer_read ts
infer_by ts = split (read_all pattern_at ts) (λ gs e. all_kept pattern_at is_pattern pattern_fits ts gs e)
  where
    test : (gs : List (List Point)) (b : Bool) → keep_if b (kind.Infer gs) ≡ option_map kind.Infer (keep_if b gs)
    test gs true = refl
    test gs false = refl

    split : (o : Option (List (List Point))) → ((gs : List (List Point)) → o ≡ Some gs → list_all is_pattern gs ≡ true) → where_it is_kind (option_map kind.Infer o) ≡ option_map kind.Infer (where_it (λ gs. has_items gs && ascending gridded_cmp gs) o)
    split None f = refl
    split (Some gs) f =
        ap (λ b. keep_if b (kind.Infer gs)) (ap (λ b. has_items gs && b) (both (list_all is_pattern gs) (ascending gridded_cmp gs) (f gs refl)))
        ∙ test gs (has_items gs && ascending gridded_cmp gs)

rule_by : (ts : List Text) → where_it is_kind (kind_at ts) ≡ rule_read ts
rule_by [] = refl
rule_by (w ∷ ts) = split (same w (codes "unit")) (same w (codes "point")) (same w (codes "void")) (same w (codes "insert")) (same w (codes "place")) (same w (codes "rowcut")) (same w (codes "colcut")) (same w (codes "factor")) (same w (codes "infer"))
  where
    split : (a b c d e f g h i : Bool) → where_it is_kind (cond a (alone kind.Unit ts) (cond b (alone kind.Point ts) (cond c (alone kind.Void ts) (cond d (insert_at ts) (cond e (place_at ts) (cond f (cut_at kind.RowCut ts) (cond g (cut_at kind.ColumnCut ts) (cond h (option_map kind.Factor (read_all set_at ts)) (cond i (option_map kind.Infer (read_all pattern_at ts)) None))))))))) ≡ option_and_then (λ n. kind_read n ts) (cond a (Some word.Unit) (cond b (Some word.Point) (cond c (Some word.Void) (cond d (Some word.Insert) (cond e (Some word.Place) (cond f (Some word.RowCut) (cond g (Some word.ColumnCut) (cond h (Some word.Factor) (cond i (Some word.Infer) None)))))))))
    split true b c d e f g h i = alone_by kind.Unit refl ts
    split false true c d e f g h i = alone_by kind.Point refl ts
    split false false true d e f g h i = alone_by kind.Void refl ts
    split false false false true e f g h i = insert_by ts
    split false false false false true f g h i = place_by ts
    split false false false false false true g h i = cut_by kind.RowCut (λ y set. refl) ts
    split false false false false false false true h i = cut_by kind.ColumnCut (λ y set. refl) ts
    split false false false false false false false true i = factor_by ts
    split false false false false false false false false true = infer_by ts
    split false false false false false false false false false = refl

-- the line of a rule
pub rule_line_by : (t : Text) → line_at (AtRule 0 0) t ≡ option_map Rule (option_and_then rule_read (behind (codes "rule") (items 32 t)))
rule_line_by t = split (behind (codes "rule") (items 32 t))
  where
    test : (o : Option Kind) → where_it is_line (option_map Rule o) ≡ option_map Rule (where_it is_kind o)
    test None = refl
    test (Some k) = moved k (is_kind k)
      where
        moved : (k : Kind) (b : Bool) → keep_if b (Rule k) ≡ option_map Rule (keep_if b k)
        moved k true = refl
        moved k false = refl

    split : (o : Option (List Text)) → where_it is_line (option_and_then (λ ts. option_map Rule (kind_at ts)) o) ≡ option_map Rule (option_and_then rule_read o)
    split None = refl
    split (Some ts) = test (kind_at ts) ∙ ap (λ o. option_map Rule o) (rule_by ts)
