-- Where no line is at fault the bytes have the form, by the values that are read.
use Rattle.std.proofs.Common.{◌≡◌, true, List, [], ◌∷◌, ◌++◌, refl, ap, sym, subst, ◌∙◌, append-nil}
use Rattle.std.specs.Prelude.{◌&&◌, Some, option_and_then, flat_map}
use Rattle.std.specs.List.{list_all}
use Rattle.spec_lines.specs.Lines.{Text}
use Rattle.spec_lines.specs.Forms.{Line, line_text, is_line}
use Rattle.spec_lines.specs.Follows.{Place, after, place_after, IsForm}
use Rattle.spec_lines.specs.Items.{with_feeds, lines_of, tail_of}
use Rattle.spec_lines.specs.Readings.{line_at}
use Rattle.spec_lines.specs.Machine.{step, run, gone, gone_on, gone_to, with_front}
use Rattle.spec_lines.specs.Follows.Place.{AtFirst, Done}
use Rattle.spec_lines.proofs.Feeds.{bytes_of}
use Rattle.spec_lines.proofs.Taking.{bound}
use Rattle.spec_lines.proofs.LineSpelling.{line_takes, read_in_form}

-- these values have these lines, and lead from a place to another
pub record Spells (p q : Place) (ts : List Text) (values : List Line) : Type 0 where
  pub text : with_feeds ts ≡ flat_map line_text values
  pub each : list_all is_line values ≡ true
  pub leads : place_after p values ≡ Some q

pub spelled : (ts : List Text) (p q : Place) → run p ts ≡ Some q → Spells p q ts ((gone p ts).values)
spelled [] p q h = record { text = refl; each = refl; leads = h }
spelled (t ∷ ts) p q h =
    let m = bound (λ q. run q ts) (step p t) q h in
    let l = bound (after p) (line_at p t) (m.0) (m.1) in
    let others = spelled ts (m.0) q (m.2) in
    let same : with_front (l.0) (gone (m.0) ts) ≡ gone p (t ∷ ts) = sym (ap (gone_on (λ l q. with_front l (gone q ts)) p) (l.1) ∙ ap (gone_to (λ q. with_front (l.0) (gone q ts)) p) (l.2)) in
    subst (λ g. Spells p q (t ∷ ts) (g.values)) same (record {
      text = ap (λ u. u ++ with_feeds ts) (line_takes p t (l.0) (l.1)) ∙ ap (λ u. line_text (l.0) ++ u) others.text;
      each = ap (λ b. b && list_all is_line ((gone (m.0) ts).values)) (read_in_form p t (l.0) (l.1)) ∙ others.each;
      leads = ap (option_and_then (λ q. place_after q ((gone (m.0) ts).values))) (l.2) ∙ others.leads;
    })

-- lines that lead to the end are the bytes of their values
pub lines_are : (ts : List Text) → run AtFirst ts ≡ Some Done → IsForm (with_feeds ts) ((gone AtFirst ts).values)
lines_are ts whole = let s = spelled ts AtFirst Done whole in record { text = s.text; each = s.each; whole = s.leads }

-- with nothing behind them
pub form_is : (bytes : Text) → run AtFirst (lines_of bytes) ≡ Some Done → tail_of bytes ≡ [] → IsForm bytes ((gone AtFirst (lines_of bytes)).values)
form_is bytes whole none =
    let alone : with_feeds (lines_of bytes) ≡ bytes = sym (append-nil (with_feeds (lines_of bytes))) ∙ ap (λ rest. with_feeds (lines_of bytes) ++ rest) (sym none) ∙ bytes_of bytes in
    subst (λ b. IsForm b ((gone AtFirst (lines_of bytes)).values)) alone (lines_are (lines_of bytes) whole)
