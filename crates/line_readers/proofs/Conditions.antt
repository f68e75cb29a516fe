-- What is read, where a condition holds of it.
use Rattle.std.proofs.Common.{◌≡◌, ℕ, Bool, true, false, List, [], ◌∷◌, refl, ap, sym, ◌∙◌}
use Rattle.std.specs.Prelude.{◌&&◌, Option, Some, None, option_map, option_and_then}
use Rattle.std.specs.List.{list_all}
use Rattle.std.proofs.lemmas.Option.{none-some, same_Some}
use Rattle.gridded.specs.declared.cell.Cell.{Cell}
use Rattle.gridded.specs.Orders.{cell_cmp}
use Rattle.spec_lines.specs.Lines.{Text}
use Rattle.spec_lines.specs.Forms.{has_items, ascending, is_cell, is_set}
use Rattle.spec_lines.specs.Items.{keep_if, items, read_all}
use Rattle.spec_lines.specs.Readings.{cell_at, set_at}
use Rattle.line_readers.specs.Kept.{where_it}
use Rattle.line_readers.proofs.Cutting.{some_items}
use Rattle.line_readers.proofs.Wide.{cells_digits}

pub kept_none : {X : Type 0} (test : X → Bool) (o : Option X) → o ≡ None → where_it test o ≡ None
kept_none test o e = ap (where_it test) e

pub kept_out : {X : Type 0} (test : X → Bool) (o : Option X) (x : X) → o ≡ Some x → test x ≡ false → where_it test o ≡ None
kept_out test o x e h = ap (where_it test) e ∙ ap (λ b. keep_if b x) h

pub kept_in : {X : Type 0} (test : X → Bool) (o : Option X) (x : X) → o ≡ Some x → test x ≡ true → where_it test o ≡ Some x
kept_in test o x e h = ap (where_it test) e ∙ ap (λ b. keep_if b x) h

pub some_read : {X : Type 0} (read : Text → Option X) (ts : List Text) (xs : List X) → read_all read ts ≡ Some xs → has_items xs ≡ has_items ts
some_read read [] xs h = ap has_items (sym (same_Some [] xs h))
some_read {X = X} read (t ∷ ts) xs h = split (read t) (read_all read ts) h
  where
    split : (o : Option X) (rest : Option (List X)) → option_and_then (λ x. option_map (λ ys. x ∷ ys) rest) o ≡ Some xs → has_items xs ≡ true
    split None rest e = absurd (none-some xs e)
    split (Some x) None e = absurd (none-some xs e)
    split (Some x) (Some ys) e = ap has_items (sym (same_Some (x ∷ ys) xs e))

-- ---- sets
three : (a b c : Bool) → a ≡ true → b ≡ true → (a && b && c) ≡ c
three a b c h k = rw (h, k) refl

set_by : (t : Text) (cells : List Cell) → set_at t ≡ Some cells → is_set cells ≡ ascending cell_cmp cells
set_by t cells h = three (has_items cells) (list_all is_cell cells) (ascending cell_cmp cells) (some_read cell_at (items 46 t) cells h ∙ some_items 46 t) (cells_digits (items 46 t) cells h)

pub set_fits : (t : Text) (cells : List Cell) → set_at t ≡ Some cells → ascending cell_cmp cells ≡ true → is_set cells ≡ true
set_fits t cells h up = set_by t cells h ∙ up

pub set_unfit : (t : Text) (cells : List Cell) → set_at t ≡ Some cells → ascending cell_cmp cells ≡ false → is_set cells ≡ false
set_unfit t cells h down = set_by t cells h ∙ down
