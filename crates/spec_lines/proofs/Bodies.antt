-- The lines of a text of the form are cut at its line feeds, and read as the values that they spell.
use Rattle.std.proofs.Common.{◌≡◌, true, List, [], ◌∷◌, ◌++◌, map, refl, ap, sym, ◌∙◌, append-nil}
use Rattle.std.specs.Prelude.{Option, Some, None, option_and_then, codes, flat_map}
use Rattle.std.specs.List.{list_all}
use Rattle.std.specs.Cmp.{first_so, second_so}
use Rattle.std.proofs.lemmas.Bool.{and_from}
use Rattle.std.proofs.lemmas.Option.{none-some, same_Some}
use Rattle.spec_lines.specs.Lines.{Text, separated}
use Rattle.spec_lines.specs.Forms.{Line, line_text, is_line}
use Rattle.spec_lines.specs.Forms.Line.{First, Basis, Root, Count, Entry, Grid, Obstructions, Requirements, Rule, Child, Terms, End}
use Rattle.spec_lines.specs.Follows.{Place, stands_at, after, place_after, IsForm}
use Rattle.spec_lines.specs.Follows.Place.{AtFirst, AtBasis, AtRoot, AtCount, AtEntry, AtGrid, AtObstructions, AtRequirements, AtRule, AtChild, AtTerms, AtEnd, Done}
use Rattle.spec_lines.specs.Items.{with_feeds, lines_of, tail_of}
use Rattle.spec_lines.specs.Machine.{run, Gone, gone, gone_on, gone_to, with_front}
use Rattle.spec_lines.proofs.Bytes.{is_free}
use Rattle.spec_lines.proofs.Feeds.{lines_first, tail_after}
use Rattle.spec_lines.proofs.LinesAgain.{line_parts, parts_text, body_is_free, line_again}

-- the text of a line without its line feed
abbrev pub body : Line → Text
body l = separated 32 (line_parts l)

body_text : (l : Line) → body l ++ codes "\n" ≡ line_text l
body_text l = sym (parts_text l)

bodies_text : (lines : List Line) → flat_map line_text lines ≡ with_feeds (map body lines)
bodies_text [] = refl
bodies_text (l ∷ lines) = ap (λ t. t ++ flat_map line_text lines) (parts_text l) ∙ ap (λ t. (body l ++ codes "\n") ++ t) (bodies_text lines)

bodies_free : (lines : List Line) → list_all is_line lines ≡ true → list_all (is_free 10) (map body lines) ≡ true
bodies_free [] h = refl
bodies_free (l ∷ lines) h =
    and_from (is_free 10 (body l)) (list_all (is_free 10) (map body lines)) (body_is_free (body l) l (first_so (is_line l) (list_all is_line lines) h) (body_text l)) (bodies_free lines (second_so (is_line l) (list_all is_line lines) h))

-- a text of the form is cut into its lines, and nothing is behind them
form_text : (bytes : Text) (lines : List Line) → IsForm bytes lines → bytes ≡ with_feeds (map body lines) ++ []
form_text bytes lines form = form.text ∙ bodies_text lines ∙ sym (append-nil (with_feeds (map body lines)))

pub form_lines : (bytes : Text) (lines : List Line) → IsForm bytes lines → lines_of bytes ≡ map body lines
form_lines bytes lines form = ap lines_of (form_text bytes lines form) ∙ lines_first (map body lines) [] (bodies_free lines form.each) ∙ append-nil (map body lines)

pub form_tail : (bytes : Text) (lines : List Line) → IsForm bytes lines → tail_of bytes ≡ []
form_tail bytes lines form = ap tail_of (form_text bytes lines form) ∙ tail_after (map body lines) [] (bodies_free lines form.each)

-- a line that leads on is of the kind that stands there
after_stands : (p : Place) (l : Line) (q : Place) → after p l ≡ Some q → stands_at p l ≡ true
after_stands AtFirst First q h = refl
after_stands AtBasis (Basis words) q h = refl
after_stands AtRoot (Root trace) q h = refl
after_stands AtCount (Count entries) q h = refl
after_stands (AtEntry i left) (Entry number rank) q h = refl
after_stands (AtGrid i left) (Grid width height) q h = refl
after_stands (AtObstructions i left) (Obstructions patterns) q h = refl
after_stands (AtRequirements i left) (Requirements lists) q h = refl
after_stands (AtRule i left) (Rule k) q h = refl
after_stands (AtChild i left more) (Child child trace) q h = refl
after_stands AtTerms (Terms terms) q h = refl
after_stands AtEnd End q h = refl
after_stands p l q h = absurd (none-some q h)

-- what leads from a place, apart
leads_on : (lines : List Line) (o : Option Place) (q : Place) → option_and_then (λ m. place_after m lines) o ≡ Some q → (m : Place) × (o ≡ Some m) × (place_after m lines ≡ Some q)
leads_on lines None q h = absurd (none-some q h)
leads_on lines (Some m) q h = (m, refl, h)

-- lines that lead from a place to another are gone through, and read as they are
pub gone_bodies : (lines : List Line) (p q : Place) → list_all is_line lines ≡ true → place_after p lines ≡ Some q → gone p (map body lines) ≡ record { values = lines; place = q }
gone_bodies [] p q each leads = ap (λ m. record { values = []; place = m }) (same_Some p q leads)
gone_bodies (l ∷ lines) p q each leads =
    let on = leads_on lines (after p l) q leads in
    let read = line_again p (body l) l (after_stands p l (on.0) (on.1)) (first_so (is_line l) (list_all is_line lines) each) (body_text l) in
    ap (gone_on (λ k m. with_front k (gone m (map body lines))) p) read
    ∙ ap (gone_to (λ m. with_front l (gone m (map body lines))) p) (on.1)
    ∙ ap (with_front l) (gone_bodies lines (on.0) q (second_so (is_line l) (list_all is_line lines) each) (on.2))

pub run_bodies : (lines : List Line) (p q : Place) → list_all is_line lines ≡ true → place_after p lines ≡ Some q → run p (map body lines) ≡ Some q
run_bodies [] p q each leads = leads
run_bodies (l ∷ lines) p q each leads =
    let on = leads_on lines (after p l) q leads in
    let read = line_again p (body l) l (after_stands p l (on.0) (on.1)) (first_so (is_line l) (list_all is_line lines) each) (body_text l) in
    ap (λ o. option_and_then (λ m. run m (map body lines)) (option_and_then (after p) o)) read
    ∙ ap (option_and_then (λ m. run m (map body lines))) (on.1)
    ∙ run_bodies lines (on.0) q (second_so (is_line l) (list_all is_line lines) each) (on.2)

-- what is gone through of a text of the form is the whole of it
pub gone_form : (bytes : Text) (lines : List Line) → IsForm bytes lines → gone AtFirst (lines_of bytes) ≡ record { values = lines; place = Done }
gone_form bytes lines form = ap (gone AtFirst) (form_lines bytes lines form) ∙ gone_bodies lines AtFirst Done form.each form.whole

pub run_form : (bytes : Text) (lines : List Line) → IsForm bytes lines → run AtFirst (lines_of bytes) ≡ Some Done
run_form bytes lines form = ap (run AtFirst) (form_lines bytes lines form) ∙ run_bodies lines AtFirst Done form.each form.whole

-- bytes have at most one reading
pub one_reading : (bytes : Text) (lines others : List Line) → IsForm bytes lines → IsForm bytes others → lines ≡ others
one_reading bytes lines others form other = ap (λ (g : Gone). g.values) (sym (gone_form bytes lines form) ∙ gone_form bytes others other)
