-- What a reader that has read all lines of a text answers for it.
use Rattle.std.proofs.Common.{◌≡◌, ◌+◌, ◌<◌, ℕ, suc, Bool, true, false, cond, List, [], length, sym, ap, subst, ◌∙◌, arith, append-nil}
use Rattle.std.specs.Prelude.{Option, Some, None, nat_eq, nat_lt, not, ◌&&◌}
use Rattle.std.proofs.lemmas.Grind.{common_steps}
use Rattle.spec_lines.specs.Lines.{Text}
use Rattle.spec_lines.specs.Forms.{Line, has_items}
use Rattle.spec_lines.specs.Follows.Place.{AtFirst}
use Rattle.spec_lines.specs.Ranges.{nothing_seen, in_range_before}
use Rattle.spec_lines.specs.Items.{lines_of, tail_of}
use Rattle.spec_lines.specs.Machine.{gone}
use Rattle.spec_lines.specs.Faults.{answer, answer_by, by_ranges, is_done}
use Rattle.spec_lines.specs.Faults.Answer.{Spelled, Grammar, Limit}
use Rattle.spec_reader.specs.Walks.{ReaderState, IsNoted, HasRead}
use Rattle.spec_reader.proofs.Walked.{all_before}

-- no line is missing, and nothing stands behind the last line
abbrev pub is_whole : Text → ReaderState → Bool
is_whole bytes s = is_done s.place && not (has_items (tail_of bytes))

equal_test : (m n : ℕ) → m ≡ n → nat_eq m n ≡ true
equal_test m n h = grind (arith, common_steps, h)

less_test : (m n : ℕ) → m < n → nat_lt m n ≡ true
less_test m n h = grind (arith, common_steps, h)

not_less : (m n : ℕ) → m ≡ n → nat_lt m n ≡ false
not_less m n h = grind (arith, common_steps, h)

all_gone : (bytes : Text) (s : ReaderState) (h : HasRead (lines_of bytes) s) → gone AtFirst (lines_of bytes) ≡ record { values = h.values; place = s.place }
all_gone bytes s h = ap (gone AtFirst) (sym (append-nil (lines_of bytes))) ∙ h.run [] ∙ ap (λ vs. record { values = vs; place = s.place }) (append-nil h.values)

by_test : (values : List Line) (count : ℕ) (a : Bool) → nat_eq (length values) count ≡ true → (b c d : Bool) → c && d ≡ b → cond (nat_eq (length values) count && c && d) (by_ranges values) (Grammar (suc (length values))) ≡ cond b (by_ranges values) (Grammar (suc (length values)))
by_test values count a same b true d h = ap (λ x. cond (x && true && d) (by_ranges values) (Grammar (suc (length values)))) same ∙ ap (λ x. cond x (by_ranges values) (Grammar (suc (length values)))) h
by_test values count a same b false d h = ap (λ x. cond (x && false && d) (by_ranges values) (Grammar (suc (length values)))) same ∙ ap (λ x. cond x (by_ranges values) (Grammar (suc (length values)))) h

pub answer_is : (bytes : Text) (s : ReaderState) (h : HasRead (lines_of bytes) s) (b : Bool) → is_whole bytes s ≡ b → answer bytes ≡ cond b (by_ranges h.values) (Grammar (suc (length h.values)))
answer_is bytes s h b whole =
    ap (answer_by (length (lines_of bytes)) (tail_of bytes)) (all_gone bytes s h)
    ∙ by_test h.values (length (lines_of bytes)) b (equal_test (length h.values) (length (lines_of bytes)) h.many) b (is_done s.place) (not (has_items (tail_of bytes))) whole

pub answers_grammar : (bytes : Text) (s : ReaderState) → HasRead (lines_of bytes) s → is_whole bytes s ≡ false → answer bytes ≡ Grammar (s.lines + 1)
answers_grammar bytes s h whole = answer_is bytes s h false whole ∙ ap Grammar (omega (arith, h.many, h.counted))

limit_by : (values : List Line) (s : ReaderState) (o : Option ℕ) (k : ℕ) → o ≡ Some k → IsNoted values s o → by_ranges values ≡ Limit k
limit_by values s o k e noted =
    let told = subst (IsNoted values s) e noted in
    ap (λ b. cond b (Limit (suc (in_range_before nothing_seen values))) (Spelled values)) (less_test (in_range_before nothing_seen values) (length values) (told.1)) ∙ ap Limit (sym (told.0))

spelled_by : (values : List Line) (s : ReaderState) (o : Option ℕ) → o ≡ None → IsNoted values s o → by_ranges values ≡ Spelled s.values
spelled_by values s o e noted =
    let told = subst (IsNoted values s) e noted in
    ap (λ b. cond b (Limit (suc (in_range_before nothing_seen values))) (Spelled values)) (not_less (in_range_before nothing_seen values) (length values) (all_before nothing_seen values (told.0))) ∙ ap Spelled (sym (told.2))

pub answers_limit : (bytes : Text) (s : ReaderState) (k : ℕ) → HasRead (lines_of bytes) s → is_whole bytes s ≡ true → s.limit ≡ Some k → answer bytes ≡ Limit k
answers_limit bytes s k h whole e = answer_is bytes s h true whole ∙ limit_by h.values s s.limit k e h.noted

pub answers_spelled : (bytes : Text) (s : ReaderState) → HasRead (lines_of bytes) s → is_whole bytes s ≡ true → s.limit ≡ None → answer bytes ≡ Spelled s.values
answers_spelled bytes s h whole e = answer_is bytes s h true whole ∙ spelled_by h.values s s.limit e h.noted
