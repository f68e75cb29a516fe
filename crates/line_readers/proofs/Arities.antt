-- A rule has as many children as its line's items say.
use Rattle.std.proofs.Common.{◌≡◌, ◌+◌, ℕ, suc, Bool, true, List, [], ◌∷◌, length, refl, sym, ap, ◌∙◌}
use Rattle.std.specs.Prelude.{◌&&◌, nat_eq, codes, Option, Some, None, option_map, option_and_then, MatchOption}
use Rattle.std.specs.List.{count_by}
use Rattle.std.proofs.lemmas.Option.{none-some, same_Some}
use Rattle.std.proofs.lemmas.List.Splits.{length-slice_split}
use Rattle.gridded.specs.declared.cell.Cell.{Cell}
use Rattle.gridded.specs.Orders.{gridded_cmp}
use Rattle.rule_kinds.specs.declared.kind.Kind.{Kind}
use Rattle.rule_kinds.specs.declared.kind.Kind.TheVariants as kind
use Rattle.spec_lines.specs.Lines.{Text}
use Rattle.spec_lines.specs.Forms.{Line, has_items, ascending, is_pointed, is_set}
use Rattle.spec_lines.specs.Forms.Line.{Count, Rule}
use Rattle.spec_lines.specs.Follows.{arity}
use Rattle.spec_lines.specs.Follows.Place.{AtCount, AtRule}
use Rattle.spec_lines.specs.Items.{keep_if, items, read_all, behind}
use Rattle.spec_lines.specs.Readings.{pattern_at, pointed_at, set_at, direction_at, alone, line_at}
use Rattle.spec_lines.proofs.Taking.{kept, bound}
use Rattle.line_readers.specs.Arities.{children_by, children_of_word, children_in}
use Rattle.line_readers.specs.Kept.{where_it}
use Rattle.line_readers.specs.KindItems.{word_of_kind, sole, cut_read, kind_read, rule_read}
use Rattle.line_readers.specs.LineItems.{one_number}
use Rattle.line_readers.specs.declared.kinds.KindWord.{KindWord}
use Rattle.line_readers.specs.declared.kinds.KindWord.TheVariants as word
use Rattle.line_readers.proofs.KindForms.{rule_line_by}
use Rattle.line_readers.proofs.LineForms.{count_by as count_line_by}

pub how_many : (byte : ℕ) (t : Text) → length (items byte t) ≡ count_by (λ b. nat_eq b byte) t + 1
how_many byte t = length-slice_split (λ b. nat_eq b byte) t

mapped : {X Y : Type 0} (f : X → Y) (o : Option X) (y : Y) → option_map f o ≡ Some y → (x : X) × (o ≡ Some x) × (f x ≡ y)
mapped f None y h = absurd (none-some y h)
mapped f (Some x) y h = (x, refl, same_Some (f x) y h)

read_long : {X : Type 0} (read : Text → Option X) (ts : List Text) (xs : List X) → read_all read ts ≡ Some xs → length xs ≡ length ts
read_long read [] xs h = ap length (sym (same_Some [] xs h))
read_long read (t ∷ ts) xs h =
    let one = bound (λ x. option_map (λ ys. x ∷ ys) (read_all read ts)) (read t) xs h in
    let others = mapped (λ ys. one.0 ∷ ys) (read_all read ts) xs one.2 in
    ap length (sym others.2) ∙ ap suc (read_long read ts others.0 others.1)

lone : (k kind : Kind) (ts : List Text) → alone k ts ≡ Some kind → k ≡ kind
lone k kind [] h = same_Some k kind h
lone k kind (t ∷ ts) h = absurd (none-some kind h)

place_has : (ts : List Text) (k : Kind) → kind_read word.Place ts ≡ Some k → arity k ≡ length ts
place_has [] k h = absurd (none-some k h)
place_has (t ∷ ts) k h =
    let read = λ (u : Text). where_it is_pointed (pointed_at u) in
    let d = bound (λ d. option_map (λ qs. kind.Place qs d) (read_all read ts)) (direction_at t) k h in
    let qs = mapped (λ qs. kind.Place qs d.0) (read_all read ts) k d.2 in
    ap arity (sym qs.2) ∙ ap suc (read_long read ts qs.0 qs.1)

pub kind_has : (w : KindWord) (ts : List Text) (k : Kind) → kind_read w ts ≡ Some k → arity k ≡ children_by w (length ts)
kind_has word.Unit ts k h = ap arity (sym (lone kind.Unit k ts h))
kind_has word.Point ts k h = ap arity (sym (lone kind.Point k ts h))
kind_has word.Void ts k h = ap arity (sym (lone kind.Void k ts h))
kind_has word.Insert ts k h =
    let t = bound (λ t. option_map kind.Insert (pattern_at t)) (sole ts) k h in
    let r = mapped kind.Insert (pattern_at t.0) k t.2 in
    ap arity (sym r.2)
kind_has word.Place ts k h = place_has ts k h
kind_has word.RowCut ts k h = let r = mapped (λ (p : ℕ × List Cell). kind.RowCut p.0 p.1) (cut_read ts) k h in ap arity (sym r.2)
kind_has word.ColumnCut ts k h = let r = mapped (λ (p : ℕ × List Cell). kind.ColumnCut p.0 p.1) (cut_read ts) k h in ap arity (sym r.2)
kind_has word.Factor ts k h =
    let read = λ (u : Text). where_it is_set (set_at u) in
    let sets = mapped kind.Factor (where_it has_items (read_all read ts)) k h in
    let all = bound (λ x. keep_if (has_items x) x) (read_all read ts) sets.0 sets.1 in
    let same = kept (has_items all.0) all.0 sets.0 all.2 in
    ap arity (sym sets.2) ∙ ap length (sym same.1) ∙ read_long read ts all.0 all.1
kind_has word.Infer ts k h = let r = mapped kind.Infer (where_it (λ gs. has_items gs && ascending gridded_cmp gs) (read_all pattern_at ts)) k h in ap arity (sym r.2)

kind_in : Line → Kind
kind_in (Rule k) = k
kind_in l = kind.Unit

same_kind : (k m : Kind) → Rule k ≡ Rule m → k ≡ m
unfolding kind_in
same_kind k m e = ap kind_in e

children_are : (o : Option (List Text)) (k : Kind) → option_map Rule (option_and_then rule_read o) ≡ Some (Rule k) → children_in o ≡ arity k
children_are None k h = absurd (none-some (Rule k) h)
children_are (Some []) k h = absurd (none-some (Rule k) h)
children_are (Some (t ∷ ts)) k h =
    let m = mapped Rule (rule_read (t ∷ ts)) (Rule k) h in
    let w = bound (λ n. kind_read n ts) (word_of_kind t) m.0 m.1 in
    ap (λ o. children_of_word o (length ts)) w.1 ∙ sym (kind_has w.0 ts m.0 w.2) ∙ ap arity (same_kind m.0 k m.2)

-- the children of a rule by its line
pub line_has : (t : Text) (k : Kind) → line_at (AtRule 0 0) t ≡ Some (Rule k) → children_in (behind (codes "rule") (items 32 t)) ≡ arity k
line_has t k h = children_are (behind (codes "rule") (items 32 t)) k (sym (rule_line_by t) ∙ h)

-- the number of a line of the count
pub announced_by : (t : Text) (o : Option ℕ) → o ≡ option_and_then one_number (behind (codes "entries") (items 32 t)) → MatchOption o (line_at AtCount t ≡ None) (λ n. line_at AtCount t ≡ Some (Count n))
announced_by t None e = count_line_by t ∙ ap (option_map Count) (sym e)
announced_by t (Some n) e = count_line_by t ∙ ap (option_map Count) (sym e)
