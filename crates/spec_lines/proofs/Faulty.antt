-- What is answered for bytes is so: the lines of a text in range, the line that is no grammar, or that passes a limit.
use Rattle.std.proofs.Common.{◌≡◌, ◌≤◌, ◌<◌, ℕ, suc, Bool, true, false, cond, List, [], ◌∷◌, ◌++◌, length, take, sym, ap, subst, ◌∙◌, arith, refl, true≢false}
use Rattle.std.specs.Prelude.{◌↔◌, Option, Some, None, option_map, option_and_then, unwrap_or, nat_eq, nat_lt, not, ◌&&◌}
use Rattle.std.specs.List.{list_all}
use Rattle.std.specs.Cmp.{first_so, second_so}
use Rattle.std.proofs.lemmas.List.{length-map}
use Rattle.std.proofs.lemmas.Grind.{common_steps}
use Rattle.std.proofs.lemmas.Option.{none-some}
use Rattle.std.proofs.Math.Nat.{lt_of_not-le}
use Rattle.spec_lines.specs.Lines.{Text}
use Rattle.spec_lines.specs.Forms.{Line, has_items}
use Rattle.spec_lines.specs.Follows.{Place, after, IsForm}
use Rattle.spec_lines.specs.Follows.Place.{AtFirst, AtBasis, AtRoot, AtCount, AtEntry, AtGrid, AtObstructions, AtRequirements, AtRule, AtChild, AtTerms, AtEnd, Done}
use Rattle.spec_lines.specs.Ranges.{Seen, nothing_seen, seen_with, is_in_range, are_in_range, in_range_before}
use Rattle.spec_lines.specs.Items.{with_feeds, lines_of, tail_of}
use Rattle.spec_lines.specs.Readings.{line_at}
use Rattle.spec_lines.specs.Machine.{run, gone_through, Gone, gone, gone_on, gone_to, with_front}
use Rattle.spec_lines.specs.Faults.{IsOfForm, CanBegin, IsGrammarFault, IsLimitFault, IsSpelled, Answer, is_done, by_ranges, answer}
use Rattle.spec_lines.specs.Faults.Answer.{Spelled, Grammar, Limit}
use Rattle.spec_lines.proofs.Taking.{equal_tests, equal_numbers}
use Rattle.spec_lines.proofs.Bytes.{is_free}
use Rattle.spec_lines.proofs.Feeds.{feeds_append, lines_free, all_taken, lines_first}
use Rattle.spec_lines.proofs.Reached.{completable, run_more, run_within, run_gone, stops, gone_there}
use Rattle.spec_lines.proofs.SpelledLines.{lines_are, form_is}
use Rattle.spec_lines.proofs.Bodies.{body, form_lines, form_tail, gone_form, run_form}

-- ====== lines that a text begins with ======
-- lines that are gone through begin a text of the form
begins : (ls : List Text) (q : Place) → run AtFirst ls ≡ Some q → CanBegin (with_feeds ls)
begins ls q h =
    let more = completable q (run_within AtFirst q ls tt h) in
    let whole : run AtFirst (ls ++ more.0) ≡ Some Done = run_more AtFirst ls (more.0) ∙ ap (option_and_then (λ m. run m (more.0))) h ∙ more.1 in
    (with_feeds (more.0), ((gone AtFirst (ls ++ more.0)).values, subst (λ b. IsForm b ((gone AtFirst (ls ++ more.0)).values)) (feeds_append ls (more.0)) (lines_are (ls ++ more.0) whole)))

-- lines that aren't gone through begin none
none_begins : (ls : List Text) → list_all (is_free 10) ls ≡ true → run AtFirst ls ≡ None → CanBegin (with_feeds ls) → ⊥
none_begins ls free stopped begun =
    let more = begun.0 in
    let whole = run_form (with_feeds ls ++ more) (begun.1.0) (begun.1.1) in
    none-some Done (sym (ap (option_and_then (λ q. run q (lines_of more))) stopped) ∙ sym (run_more AtFirst ls (lines_of more)) ∙ sym (ap (run AtFirst) (lines_first ls more free)) ∙ whole)

goes : (ls : List Text) (k : ℕ) → k ≤ gone_through AtFirst ls → CanBegin (with_feeds (take k ls))
goes ls k h = let reached = run_gone AtFirst ls k h in begins (take k ls) (reached.0) (reached.1)

-- where bytes are no text, the line after those that are gone through is at fault
pub fault : (bytes : Text) → (IsOfForm bytes → ⊥) → IsGrammarFault bytes (suc (gone_through AtFirst (lines_of bytes)))
fault bytes none =
    let ls = lines_of bytes in
    record {
      no_text = none;
      from_one = omega arith;
      there = let few = gone_there AtFirst ls in omega (arith, few);
      before = λ k h. goes ls k (omega (arith, h));
      not_on = λ h begun. none_begins (take (suc (gone_through AtFirst ls)) ls) (all_taken (is_free 10) (suc (gone_through AtFirst ls)) ls (lines_free bytes)) (stops AtFirst ls (omega (arith, h))) begun;
    }

le_unless : (a b : ℕ) → (b < a → ⊥) → a ≤ b
le_unless a b no_less = let below : a < suc b = lt_of_not-le {n = suc b} {m = a} (λ h. no_less (omega (arith, h))) in omega (arith, below)

no_later : (bytes : Text) (a b : ℕ) → IsGrammarFault bytes a → IsGrammarFault bytes b → a ≤ b
no_later bytes a b first other = le_unless a b (λ h. other.not_on (let there = first.there in omega (arith, h, there)) (first.before b h))

-- and no other one is
pub only_fault : (bytes : Text) (a b : ℕ) → IsGrammarFault bytes a → IsGrammarFault bytes b → a ≡ b
only_fault bytes a b first other = let le = no_later bytes a b first other in let ge = no_later bytes b a other first in omega (arith, le, ge)

-- ====== what is gone through ======
onward : (ts : List Text) (l : Line) (p : Place) (o : Option Place) → ((q : Place) → length ((gone q ts).values) ≡ gone_through q ts)
    → length ((gone_to (λ q. with_front l (gone q ts)) p o).values) ≡ unwrap_or (option_map (λ q. suc (gone_through q ts)) o) 0
onward ts l p None each = refl
onward ts l p (Some q) each = ap suc (each q)

counted_by : (ts : List Text) (p : Place) (o : Option Line) → ((q : Place) → length ((gone q ts).values) ≡ gone_through q ts)
    → length ((gone_on (λ l q. with_front l (gone q ts)) p o).values) ≡ unwrap_or (option_map (λ q. suc (gone_through q ts)) (option_and_then (after p) o)) 0
counted_by ts p None each = refl
counted_by ts p (Some l) each = onward ts l p (after p l) each

counted : (ts : List Text) (p : Place) → length ((gone p ts).values) ≡ gone_through p ts
counted [] p = refl
counted (t ∷ ts) p = counted_by ts p (line_at p t) (counted ts)

wholly_to : (ts : List Text) (l : Line) (p : Place) (o : Option Place) → ((q : Place) → length ((gone q ts).values) ≡ length ts → run q ts ≡ Some ((gone q ts).place))
    → length ((gone_to (λ q. with_front l (gone q ts)) p o).values) ≡ suc (length ts) → option_and_then (λ q. run q ts) o ≡ Some ((gone_to (λ q. with_front l (gone q ts)) p o).place)
wholly_to ts l p None each h = absurd (omega (arith, h))
wholly_to ts l p (Some q) each h = each q (omega (arith, h))

wholly_by : (ts : List Text) (p : Place) (o : Option Line) → ((q : Place) → length ((gone q ts).values) ≡ length ts → run q ts ≡ Some ((gone q ts).place))
    → length ((gone_on (λ l q. with_front l (gone q ts)) p o).values) ≡ suc (length ts) → option_and_then (λ q. run q ts) (option_and_then (after p) o) ≡ Some ((gone_on (λ l q. with_front l (gone q ts)) p o).place)
wholly_by ts p None each h = absurd (omega (arith, h))
wholly_by ts p (Some l) each h = wholly_to ts l p (after p l) each h

-- where all lines are gone through
wholly : (ts : List Text) (p : Place) → length ((gone p ts).values) ≡ length ts → run p ts ≡ Some ((gone p ts).place)
wholly [] p h = refl
wholly (t ∷ ts) p h = wholly_by ts p (line_at p t) (wholly ts) h

-- ====== whether bytes are of the form ======
abbrev is_whole : Text → Bool
is_whole bytes = nat_eq (length ((gone AtFirst (lines_of bytes)).values)) (length (lines_of bytes)) && is_done ((gone AtFirst (lines_of bytes)).place) && not (has_items (tail_of bytes))

done_is : (p : Place) → is_done p ≡ true → p ≡ Done
done_is Done h = refl
done_is AtFirst h = absurd (true≢false (sym h))
done_is AtBasis h = absurd (true≢false (sym h))
done_is AtRoot h = absurd (true≢false (sym h))
done_is AtCount h = absurd (true≢false (sym h))
done_is (AtEntry i left) h = absurd (true≢false (sym h))
done_is (AtGrid i left) h = absurd (true≢false (sym h))
done_is (AtObstructions i left) h = absurd (true≢false (sym h))
done_is (AtRequirements i left) h = absurd (true≢false (sym h))
done_is (AtRule i left) h = absurd (true≢false (sym h))
done_is (AtChild i left more) h = absurd (true≢false (sym h))
done_is AtTerms h = absurd (true≢false (sym h))
done_is AtEnd h = absurd (true≢false (sym h))

no_items : (t : Text) → not (has_items t) ≡ true → t ≡ []
no_items [] h = refl
no_items (b ∷ t) h = absurd (true≢false (sym h))

whole_form : (bytes : Text) → is_whole bytes ≡ true → IsForm bytes ((gone AtFirst (lines_of bytes)).values)
whole_form bytes h =
    let g = gone AtFirst (lines_of bytes) in
    let all = nat_eq (length g.values) (length (lines_of bytes)) in
    let both = first_so (all && is_done g.place) (not (has_items (tail_of bytes))) h in
    let many = equal_numbers (length g.values) (length (lines_of bytes)) (first_so all (is_done g.place) both) in
    let done = done_is g.place (second_so all (is_done g.place) both) in
    form_is bytes (wholly (lines_of bytes) AtFirst many ∙ ap (λ q. Some q) done) (no_items (tail_of bytes) (second_so (all && is_done g.place) (not (has_items (tail_of bytes))) h))

form_whole : (bytes : Text) (lines : List Line) → IsForm bytes lines → is_whole bytes ≡ true
form_whole bytes lines form =
    let g = gone_form bytes lines form in
    let many : length lines ≡ length (lines_of bytes) = sym (length-map lines body) ∙ sym (ap (λ (ts : List Text). length ts) (form_lines bytes lines form)) in
    ap (λ (x : Gone). nat_eq (length x.values) (length (lines_of bytes)) && is_done x.place && not (has_items (tail_of bytes))) g
    ∙ ap (λ b. b && true && not (has_items (tail_of bytes))) (equal_tests (length lines) (length (lines_of bytes)) many)
    ∙ ap (λ t. not (has_items t)) (form_tail bytes lines form)

-- ====== ranges ======
all_in_range : (s : Seen) (lines : List Line) → are_in_range s lines ≡ true → in_range_before s lines ≡ length lines
all_in_range s [] h = refl
all_in_range s (l ∷ lines) h =
    ap (λ b. cond b (suc (in_range_before (seen_with s l) lines)) 0) (first_so (is_in_range s l) (are_in_range (seen_with s l) lines) h)
    ∙ ap suc (all_in_range (seen_with s l) lines (second_so (is_in_range s l) (are_in_range (seen_with s l) lines) h))

few_on : (b : Bool) (n m : ℕ) → n ≤ m → cond b (suc n) 0 ≤ suc m
few_on true n m h = omega (arith, h)
few_on false n m h = omega arith

few_in_range : (s : Seen) (lines : List Line) → in_range_before s lines ≤ length lines
few_in_range s [] = omega arith
few_in_range s (l ∷ lines) = few_on (is_in_range s l) (in_range_before (seen_with s l) lines) (length lines) (few_in_range (seen_with s l) lines)

range_on : (b c : Bool) (n m : ℕ) → cond b (suc n) 0 ≡ suc m → (n ≡ m → c ≡ true) → b && c ≡ true
range_on true c n m h each = each (omega (arith, h))
range_on false c n m h each = absurd (omega (arith, h))

in_range_all : (s : Seen) (lines : List Line) → in_range_before s lines ≡ length lines → are_in_range s lines ≡ true
in_range_all s [] h = refl
in_range_all s (l ∷ lines) h = range_on (is_in_range s l) (are_in_range (seen_with s l) lines) (in_range_before (seen_with s l) lines) (length lines) h (in_range_all (seen_with s l) lines)

abbrev before : List Line → ℕ
before lines = in_range_before nothing_seen lines

spelled_by : (lines : List Line) → are_in_range nothing_seen lines ≡ true → by_ranges lines ≡ Spelled lines
spelled_by lines h =
    let all = all_in_range nothing_seen lines h in
    let none : nat_lt (before lines) (length lines) ≡ false = grind (arith, common_steps, all) in
    ap (λ b. cond b (Limit (suc (before lines))) (Spelled lines)) none

limit_by : (lines : List Line) (k : ℕ) → k ≡ suc (before lines) → k ≤ length lines → by_ranges lines ≡ Limit k
limit_by lines k first there =
    let some : nat_lt (before lines) (length lines) ≡ true = grind (arith, common_steps, first, there) in
    ap (λ b. cond b (Limit (suc (before lines))) (Spelled lines)) some ∙ ap Limit (sym first)

-- ====== what an answer means ======
abbrev pub Meaning : Text → Answer → Type 0
Meaning bytes (Spelled lines) = IsSpelled bytes lines
Meaning bytes (Grammar number) = IsGrammarFault bytes number
Meaning bytes (Limit number) = IsLimitFault bytes number

ranges_on : (bytes : Text) (lines : List Line) (b : Bool) → IsForm bytes lines → nat_lt (before lines) (length lines) ≡ b → Meaning bytes (cond b (Limit (suc (before lines))) (Spelled lines))
ranges_on bytes lines true form e = record { lines = lines; form = form; first = refl; there = grind (arith, common_steps, e) }
ranges_on bytes lines false form e =
    let few = few_in_range nothing_seen lines in
    let all : before lines ≡ length lines = grind (arith, common_steps, e, few) in
    record { form = form; ranges = in_range_all nothing_seen lines all }

meant : (bytes : Text) (b : Bool) → is_whole bytes ≡ b → Meaning bytes (cond b (by_ranges ((gone AtFirst (lines_of bytes)).values)) (Grammar (suc (length ((gone AtFirst (lines_of bytes)).values)))))
meant bytes true e = let lines = (gone AtFirst (lines_of bytes)).values in ranges_on bytes lines (nat_lt (before lines) (length lines)) (whole_form bytes e) refl
meant bytes false e =
    subst (λ n. IsGrammarFault bytes (suc n)) (sym (counted (lines_of bytes) AtFirst)) (fault bytes (λ other. true≢false (sym (form_whole bytes (other.0) (other.1)) ∙ e)))

pub meaning : (bytes : Text) → Meaning bytes (answer bytes)
meaning bytes = meant bytes (is_whole bytes) refl

form_answered : (bytes : Text) (lines : List Line) → IsForm bytes lines → answer bytes ≡ by_ranges lines
form_answered bytes lines form =
    let g = gone AtFirst (lines_of bytes) in
    ap (λ b. cond b (by_ranges g.values) (Grammar (suc (length g.values)))) (form_whole bytes lines form) ∙ ap (λ (x : Gone). by_ranges x.values) (gone_form bytes lines form)

grammar_on : (bytes : Text) (number : ℕ) → IsGrammarFault bytes number → (a : Answer) → Meaning bytes a → a ≡ Grammar number
grammar_on bytes number f (Spelled lines) m = absurd (f.no_text (lines, m.form))
grammar_on bytes number f (Limit k) m = absurd (f.no_text (m.lines, m.form))
grammar_on bytes number f (Grammar k) m = ap Grammar (only_fault bytes k number m f)

-- ====== the laws ======
pub spelled_is_answered : (bytes : Text) (lines : List Line) → IsSpelled bytes lines ↔ (answer bytes ≡ Spelled lines)
spelled_is_answered bytes lines = (λ s. form_answered bytes lines s.form ∙ spelled_by lines s.ranges, λ h. subst (Meaning bytes) h (meaning bytes))

pub grammar_is_answered : (bytes : Text) (number : ℕ) → IsGrammarFault bytes number ↔ (answer bytes ≡ Grammar number)
grammar_is_answered bytes number = (λ f. grammar_on bytes number f (answer bytes) (meaning bytes), λ h. subst (Meaning bytes) h (meaning bytes))

pub limit_is_answered : (bytes : Text) (number : ℕ) → IsLimitFault bytes number ↔ (answer bytes ≡ Limit number)
limit_is_answered bytes number = (λ f. form_answered bytes f.lines f.form ∙ limit_by f.lines number f.first f.there, λ h. subst (Meaning bytes) h (meaning bytes))
