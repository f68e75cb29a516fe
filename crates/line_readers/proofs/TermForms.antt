-- The line of terms, by what its items are read as.
use Rattle.std.proofs.Common.{◌≡◌, ◌≤◌, ◌<◌, ◌+◌, ◌-◌, ℕ, Bool, true, false, cond, List, [], ◌∷◌, length, drop, get_or, refl, ap, sym, ◌∙◌, arith, length-drop}
use Rattle.std.specs.Prelude.{◌&&◌, not, codes, Option, Some, None, option_map, option_and_then}
use Rattle.std.specs.Cmp.{first_so, second_so}
use Rattle.std.specs.List.{list_all}
use Rattle.std.proofs.lemmas.List.{drop_more}
use Rattle.std.proofs.lemmas.Option.{none-some, same_Some}
use Rattle.css_terms.specs.declared.term.Term.{Term}
use Rattle.css_terms.specs.declared.term.Term.TheVariants.{Exact, Big}
use Rattle.spec_lines.specs.Lines.{Text}
use Rattle.spec_lines.specs.Forms.{Line, is_line, has_items, is_number, are_terms}
use Rattle.spec_lines.specs.Forms.Line.{Terms}
use Rattle.spec_lines.specs.Follows.Place.{AtTerms}
use Rattle.spec_lines.specs.Items.{keep_if, same, items, read_all, behind}
use Rattle.spec_lines.specs.Readings.{number_at, term_at, line_at}
use Rattle.line_readers.specs.Kept.{where_it}
use Rattle.line_readers.specs.Terms.{is_big, is_big_last}
use Rattle.line_readers.proofs.Wide.{all_kept}
use Rattle.line_readers.proofs.LineForms.{number_small}

from_place : (terms : List Term) (i : ℕ) (x : Term) → 1 ≤ i → i < length terms → x ≡ get_or terms (i - 1) x → drop (i - 1) terms ≡ x ∷ drop i terms
from_place terms i x some within stands =
    let next : i - 1 + 1 ≡ i = omega (arith, some) in
    drop_more terms (i - 1) x (omega (arith, some, within)) ∙ ap (λ z. z ∷ drop (i - 1 + 1) terms) (sym stands) ∙ ap (λ n. x ∷ drop n terms) next

before_more : (x : Term) (ts : List Term) → has_items ts ≡ true → is_big x ≡ true → is_big_last (x ∷ ts) ≡ false
before_more (Exact n) ts more big = absurd cc
before_more Big ts more big = ap not more

number_first : (x : Term) (ts : List Term) → is_big x ≡ false → is_big_last (x ∷ ts) ≡ is_big_last ts
number_first (Exact n) ts small = refl
number_first Big ts small = absurd cc

some_left : (ts : List Term) (i : ℕ) → i < length ts → has_items (drop i ts) ≡ true
some_left ts i within = ap has_items (drop_more ts i Big within)

pub big_inside : (terms : List Term) (i : ℕ) (x : Term) → 1 ≤ i → i < length terms → x ≡ get_or terms (i - 1) x → is_big x ≡ true → is_big_last (drop (i - 1) terms) ≡ false
big_inside terms i x some within stands big = ap is_big_last (from_place terms i x some within stands) ∙ before_more x (drop i terms) (some_left terms i within) big

pub number_inside : (terms : List Term) (i : ℕ) (x : Term) → 1 ≤ i → i < length terms → x ≡ get_or terms (i - 1) x → is_big x ≡ false → is_big_last (drop (i - 1) terms) ≡ is_big_last (drop i terms)
number_inside terms i x some within stands small = ap is_big_last (from_place terms i x some within stands) ∙ number_first x (drop i terms) small

short : (ts : List Term) → length ts ≤ 1 → is_big_last ts ≡ true
short [] few = refl
short (Exact n ∷ []) few = refl
short (Big ∷ []) few = refl
short (x ∷ y ∷ ts) few = absurd (omega (arith, few))

pub few_left : (terms : List Term) (i : ℕ) → length terms ≤ i → is_big_last (drop (i - 1) terms) ≡ true
few_left terms i few = short (drop (i - 1) terms) (omega (arith, few, length-drop (i - 1) terms))

-- ---- the line
abbrev is_small : Term → Bool
is_small (Exact n) = is_number n
is_small Big = true

term_fits : (t : Text) (x : Term) → term_at t ≡ Some x → is_small x ≡ true
term_fits t x h = split (same t (codes "big")) (number_at t) (λ n e. number_small t n e) h
  where
    split : (b : Bool) (o : Option ℕ) → ((n : ℕ) → o ≡ Some n → is_number n ≡ true) → cond b (Some Big) (option_map Exact o) ≡ Some x → is_small x ≡ true
    split true o f e = ap is_small (sym (same_Some Big x e))
    split false None f e = absurd (none-some x e)
    split false (Some n) f e = ap is_small (sym (same_Some (Exact n) x e)) ∙ f n refl

terms_test : (terms : List Term) → list_all is_small terms ≡ true → are_terms terms ≡ is_big_last terms
terms_test [] h = refl
terms_test (Exact n ∷ terms) h = one (is_number n) (are_terms terms) (first_so (is_number n) (list_all is_small terms) h) ∙ terms_test terms (second_so (is_number n) (list_all is_small terms) h)
  where
    one : (a b : Bool) → a ≡ true → (a && b) ≡ b
    one a b e = rw e refl
terms_test (Big ∷ terms) h = refl

pub terms_by : (t : Text) → line_at AtTerms t ≡ option_map Terms (where_it (λ ts. has_items ts && is_big_last ts) (option_and_then (read_all term_at) (behind (codes "terms") (items 32 t))))
terms_by t = split (behind (codes "terms") (items 32 t))
  where
    moved : (xs : List Term) (b : Bool) → keep_if b (Terms xs) ≡ option_map Terms (keep_if b xs)
    moved xs true = refl
    moved xs false = refl

    terms : (o : Option (List Term)) → ((xs : List Term) → o ≡ Some xs → list_all is_small xs ≡ true) → where_it is_line (option_map Terms o) ≡ option_map Terms (where_it (λ ts. has_items ts && is_big_last ts) o)
    terms None f = refl
    terms (Some xs) f = ap (λ b. keep_if (has_items xs && b) (Terms xs)) (terms_test xs (f xs refl)) ∙ moved xs (has_items xs && is_big_last xs)

    split : (o : Option (List Text)) → where_it is_line (option_and_then (λ ts. option_map Terms (read_all term_at ts)) o) ≡ option_map Terms (where_it (λ ts. has_items ts && is_big_last ts) (option_and_then (read_all term_at) o))
    split None = refl
    split (Some ts) = terms (read_all term_at ts) (λ xs e. all_kept term_at is_small term_fits ts xs e)

pub terms_some : (t : Text) (terms : List Term) → where_it (λ ts. has_items ts && is_big_last ts) (option_and_then (read_all term_at) (behind (codes "terms") (items 32 t))) ≡ Some terms → 1 ≤ length terms
terms_some t terms h = split (option_and_then (read_all term_at) (behind (codes "terms") (items 32 t))) h
  where
    some_length : (xs : List Term) → has_items xs ≡ true → 1 ≤ length xs
    some_length [] e = absurd cc
    some_length (x ∷ xs) e = omega arith

    kept : (b : Bool) (xs : List Term) → keep_if b xs ≡ Some terms → (b ≡ true) × (xs ≡ terms)
    kept true xs e = (refl, same_Some xs terms e)
    kept false xs e = absurd (none-some terms e)

    split : (o : Option (List Term)) → where_it (λ ts. has_items ts && is_big_last ts) o ≡ Some terms → 1 ≤ length terms
    split None e = absurd (none-some terms e)
    split (Some xs) e =
        let both = kept (has_items xs && is_big_last xs) xs e in
        some_length terms (ap has_items (sym (both.1)) ∙ first_so (has_items xs) (is_big_last xs) (both.0))
