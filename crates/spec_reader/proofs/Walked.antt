-- A reader that takes lines one after the other answers for the whole text.
use Rattle.std.proofs.Common.{◌≡◌, ◌+◌, ◌<◌, ℕ, suc, Bool, true, false, cond, List, [], ◌∷◌, ◌++◌, length, refl, sym, ap, subst, ◌∙◌, arith, true≢false, append_assoc, append-nil}
use Rattle.std.specs.Prelude.{Option, Some, None, option_and_then, nat_eq, not, ◌&&◌, if◌then◌else◌}
use Rattle.std.specs.Cmp.{first_so, second_so}
use Rattle.std.proofs.lemmas.Bool.{and_from}
use Rattle.std.proofs.lemmas.List.{length-append}
use Rattle.std.proofs.lemmas.Grind.{common_steps}
use Rattle.spec_lines.specs.Lines.{Text}
use Rattle.spec_lines.specs.Forms.{Line, has_items}
use Rattle.spec_lines.specs.Follows.{Place, after}
use Rattle.spec_lines.specs.Follows.Place.{AtFirst}
use Rattle.spec_lines.specs.Ranges.{Seen, nothing_seen, seen_with, is_in_range, are_in_range, in_range_before}
use Rattle.spec_lines.specs.Readings.{line_at}
use Rattle.spec_lines.specs.Items.{lines_of, tail_of}
use Rattle.spec_lines.specs.Machine.{step, Gone, gone, gone_on, gone_to, with_front}
use Rattle.spec_lines.specs.Faults.{answer, answer_by, by_ranges, is_done}
use Rattle.spec_lines.specs.Faults.Answer.{Grammar}
use Rattle.spec_reader.specs.Walks.{ReaderState, Noted, Takes, led, seen_after, IsNoted, HasRead}

-- ====== one line ======
-- a line that leads on is gone through
pub goes_through : (p q : Place) (t : Text) (l : Line) (more : List Text) → line_at p t ≡ Some l → after p l ≡ Some q → gone p (t ∷ more) ≡ with_front l (gone q more)
goes_through p q t l more read leads =
    ap (gone_on (λ k m. with_front k (gone m more)) p) read ∙ ap (gone_to (λ m. with_front l (gone m more)) p) leads

stops_by : (further : Line → Place → Gone) (p : Place) (o : Option Line) → option_and_then (after p) o ≡ None → gone_on further p o ≡ record { values = []; place = p }
stops_by further p None h = refl
stops_by further p (Some l) h = ap (gone_to (further l) p) h

-- and one that does not stops it
pub stops_here : (p : Place) (t : Text) (more : List Text) → step p t ≡ None → gone p (t ∷ more) ≡ record { values = []; place = p }
stops_here p t more h = stops_by (λ k m. with_front k (gone m more)) p (line_at p t) h

-- ====== ranges ======
in_range_more : (s : Seen) (vs : List Line) (l : Line) → are_in_range s vs ≡ true → is_in_range (seen_after s vs) l ≡ true → are_in_range s (vs ++ l ∷ []) ≡ true
in_range_more s [] l h k = and_from (is_in_range s l) true k refl
in_range_more s (v ∷ vs) l h k =
    and_from (is_in_range s v) (are_in_range (seen_with s v) (vs ++ l ∷ [])) (first_so (is_in_range s v) (are_in_range (seen_with s v) vs) h)
    (in_range_more (seen_with s v) vs l (second_so (is_in_range s v) (are_in_range (seen_with s v) vs) h) k)

seen_more : (s : Seen) (vs : List Line) (l : Line) → seen_after s (vs ++ l ∷ []) ≡ seen_with (seen_after s vs) l
seen_more s [] l = refl
seen_more s (v ∷ vs) l = seen_more (seen_with s v) vs l

if_true : (b : Bool) (x y : ℕ) → b ≡ true → (if b then x else y) ≡ x
if_true b x y h = ap (λ c. if c then x else y) h

-- the first line out of range comes after lines in range
first_out : (s : Seen) (vs : List Line) (l : Line) → are_in_range s vs ≡ true → is_in_range (seen_after s vs) l ≡ false → in_range_before s (vs ++ l ∷ []) ≡ length vs
first_out s [] l h k = ap (λ b. if b then 1 else 0) k
first_out s (v ∷ vs) l h k =
    if_true (is_in_range s v) (suc (in_range_before (seen_with s v) (vs ++ l ∷ []))) 0 (first_so (is_in_range s v) (are_in_range (seen_with s v) vs) h)
    ∙ ap suc (first_out (seen_with s v) vs l (second_so (is_in_range s v) (are_in_range (seen_with s v) vs) h) k)

still_by : (b : Bool) (m n k : ℕ) → (if b then suc m else 0) < suc k → (m < k → n ≡ m) → (if b then suc n else 0) ≡ (if b then suc m else 0)
still_by true m n k h same = ap suc (same (omega (arith, h)))
still_by false m n k h same = refl

-- and stays the first one
still_first : (s : Seen) (vs : List Line) (l : Line) → in_range_before s vs < length vs → in_range_before s (vs ++ l ∷ []) ≡ in_range_before s vs
still_first s [] l h = absurd (omega (arith, h))
still_first s (v ∷ vs) l h = still_by (is_in_range s v) (in_range_before (seen_with s v) vs) (in_range_before (seen_with s v) (vs ++ l ∷ [])) (length vs) h (still_first (seen_with s v) vs l)

all_by : (b : Bool) (c : Bool) (m n : ℕ) → b && c ≡ true → (c ≡ true → m ≡ n) → (if b then suc m else 0) ≡ suc n
all_by true c m n h same = ap suc (same h)
all_by false c m n h same = absurd (true≢false (sym h))

-- lines that are all in range
pub all_before : (s : Seen) (vs : List Line) → are_in_range s vs ≡ true → in_range_before s vs ≡ length vs
all_before s [] h = refl
all_before s (v ∷ vs) h = all_by (is_in_range s v) (are_in_range (seen_with s v) vs) (in_range_before (seen_with s v) vs) (length vs) h (all_before (seen_with s v) vs)

-- ====== what is noted ======
noted_by : (vs : List Line) (l : Line) (s t : ReaderState) (o : Option ℕ) (b : Bool) → length vs ≡ s.lines → IsNoted vs s o → is_in_range s.seen l ≡ b → Noted s l t o b → IsNoted (vs ++ l ∷ []) t t.limit
noted_by vs l s t (Some k) b many h e noted =
    let same = still_first nothing_seen vs l h.1 in
    subst (IsNoted (vs ++ l ∷ []) t) (sym noted) (h.0 ∙ ap suc (sym same), omega (arith, same, h.1, length-append vs (l ∷ [])))
noted_by vs l s t None true many h e noted =
    subst (IsNoted (vs ++ l ∷ []) t) (sym (noted.0)) (in_range_more nothing_seen vs l h.0 (ap (λ x. is_in_range x l) h.1 ∙ e), seen_more nothing_seen vs l ∙ ap (λ x. seen_with x l) h.1 ∙ sym (noted.1), noted.2 ∙ ap (λ ls. ls ++ l ∷ []) h.2)
noted_by vs l s t None false many h e noted =
    let first = first_out nothing_seen vs l h.0 (ap (λ x. is_in_range x l) h.1 ∙ e) in
    subst (IsNoted (vs ++ l ∷ []) t) (sym noted) (omega (arith, first, many), omega (arith, first, length-append vs (l ∷ [])))

led_more : (vs : List Line) (l : Line) (g : Gone) → led vs (with_front l g) ≡ led (vs ++ l ∷ []) g
led_more vs l g = ap (λ ls. record g { values = ls }) (sym (append_assoc vs (l ∷ []) g.values))

-- ====== line after line ======
pub read_on : (lines : List Text) (t : Text) (s u : ReaderState) → HasRead lines s → Takes s t u → HasRead (lines ++ t ∷ []) u
read_on lines t s u h takes = record {
  values = h.values ++ takes.value ∷ [];
  run = λ more. ap (gone AtFirst) (append_assoc lines (t ∷ []) more) ∙ h.run (t ∷ more) ∙ ap (led h.values) (goes_through s.place u.place t takes.value more takes.read takes.leads) ∙ led_more h.values takes.value (gone u.place more);
  many = length-append h.values (takes.value ∷ []) ∙ ap (λ n. n + 1) h.many ∙ sym (length-append lines (t ∷ []));
  counted = takes.counted ∙ ap (λ n. n + 1) h.counted ∙ sym (length-append lines (t ∷ []));
  noted = noted_by h.values takes.value s u s.limit (is_in_range s.seen takes.value) (h.many ∙ sym h.counted) h.noted refl takes.noted;
}

-- ====== the answer ======
unequal : (m n : ℕ) → m < n → nat_eq m n ≡ false
unequal m n h = grind (arith, common_steps, h)

-- a line that may not stand where it does
pub stuck : (bytes : Text) (lines more : List Text) (t : Text) (s : ReaderState) → HasRead lines s → step s.place t ≡ None → lines_of bytes ≡ lines ++ t ∷ more → answer bytes ≡ Grammar (s.lines + 1)
stuck bytes lines more t s h none whole =
    let there : gone AtFirst (lines_of bytes) ≡ record { values = h.values ++ []; place = s.place } = ap (gone AtFirst) whole ∙ h.run (t ∷ more) ∙ ap (led h.values) (stops_here s.place t more none) in
    let few : length (h.values ++ []) ≡ length lines = ap length (append-nil h.values) ∙ h.many in
    let more_lines : length (lines_of bytes) ≡ length lines + suc (length more) = ap length whole ∙ length-append lines (t ∷ more) in
    ap (answer_by (length (lines_of bytes)) (tail_of bytes)) there
    ∙ ap (λ b. cond (b && is_done s.place && not (has_items (tail_of bytes))) (by_ranges (h.values ++ [])) (Grammar (suc (length (h.values ++ []))))) (unequal (length (h.values ++ [])) (length (lines_of bytes)) (omega (arith, few, more_lines)))
    ∙ ap Grammar (omega (arith, few, h.counted))
