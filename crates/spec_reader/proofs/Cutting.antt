-- A text that is cut at its line feeds, one after the other.
use Rattle.std.proofs.Common.{◌≡◌, ◌+◌, ℕ, true, List, [], ◌∷◌, ◌++◌, length, refl, sym, ap, ◌∙◌, true≢false, append_assoc, append-nil, subst, arith}
use Rattle.std.specs.Prelude.{nat_eq, None, Result, Ok, Err}
use Rattle.std.proofs.lemmas.List.Splits.{length-slice_split}
use Rattle.spec_lines.specs.Lines.{Text}
use Rattle.spec_lines.specs.Items.{items, finished, rest_of, lines_of, tail_of}
use Rattle.spec_lines.specs.Forms.{has_items}
use Rattle.spec_lines.specs.Machine.{step}
use Rattle.spec_lines.specs.Faults.{answer, IsSpelled, IsGrammarFault}
use Rattle.spec_lines.proofs.Faulty.{spelled_is_answered, grammar_is_answered, limit_is_answered}
use Rattle.spec_lines.specs.Faults.Answer.{Grammar}
use Rattle.spec_reader.specs.Walks.{ReaderState, HasRead}
use Rattle.spec_reader.specs.Pieces.{IsOnItsWay, IsStuck}
use Rattle.spec_reader.specs.Ends.{ends, IsEnd, IsAnswered}
use Rattle.spec_reader.specs.declared.files.SpecText.{SpecText}
use Rattle.spec_reader.specs.declared.files.TextFault.{TextFault}
use Rattle.spec_reader.specs.declared.files.TextFault.TheVariants as fault
use Rattle.spec_reader.proofs.Walked.{stuck}
use Rattle.spec_reader.proofs.Answering.{answers_grammar, answers_limit, answers_spelled}

pub finished_more : (t : Text) (us : List Text) → has_items us ≡ true → (finished (t ∷ us) ≡ t ∷ finished us) × (rest_of (t ∷ us) ≡ rest_of us)
finished_more t [] h = absurd (true≢false (sym h))
finished_more t (u ∷ us) h = (refl, refl)

has_some : (n : ℕ) (ts : List Text) → length ts ≡ n + 1 → has_items ts ≡ true
has_some n [] h = absurd (omega (arith, h))
has_some n (t ∷ ts) h = refl

pub some_items : (byte : ℕ) (text : Text) → has_items (items byte text) ≡ true
some_items byte text = has_some _ (items byte text) (length-slice_split (λ b. nat_eq b byte) text)

-- the first line is cut off
pub line_off : (text line rest : Text) → items 10 text ≡ line ∷ items 10 rest → (lines_of text ≡ line ∷ lines_of rest) × (tail_of text ≡ tail_of rest)
line_off text line rest h =
    let more = finished_more line (items 10 rest) (some_items 10 rest) in
    (ap finished h ∙ more.0, ap rest_of h ∙ more.1)

-- there is no line feed
pub no_line : (text line : Text) → items 10 text ≡ line ∷ [] → (lines_of text ≡ []) × (tail_of text ≡ line)
no_line text line h = (ap finished h, ap rest_of h)

pub way_on : (bytes text line rest : Text) (s t : ReaderState) → IsOnItsWay bytes text s → items 10 text ≡ line ∷ items 10 rest → ((lines : List Text) → HasRead lines s → HasRead (lines ++ line ∷ []) t) → IsOnItsWay bytes rest t
way_on bytes text line rest s t w cut on =
    let off = line_off text line rest cut in
    record {
      before = w.before ++ line ∷ [];
      read = on w.before w.read;
      lines = w.lines ∙ ap (λ ls. w.before ++ ls) (off.0) ∙ sym (append_assoc w.before (line ∷ []) (lines_of rest));
      tail = w.tail ∙ off.1;
    }

pub stuck_here : (bytes text line rest : Text) (s : ReaderState) → IsOnItsWay bytes text s → items 10 text ≡ line ∷ items 10 rest → step s.place line ≡ None → IsStuck bytes s
stuck_here bytes text line rest s w cut none = record {
  before = w.before;
  line = line;
  more = lines_of rest;
  read = w.read;
  wrong = none;
  lines = w.lines ∙ ap (λ ls. w.before ++ ls) ((line_off text line rest cut).0);
}

pub stuck_is_answered : (bytes : Text) (s : ReaderState) (number : ℕ) → IsStuck bytes s → number ≡ s.lines + 1 → IsGrammarFault bytes number
stuck_is_answered bytes s number k e = (grammar_is_answered bytes number).1 (stuck bytes k.before k.more k.line s k.read k.wrong k.lines ∙ ap Grammar (sym e))

ended_by : (bytes line : Text) (s : ReaderState) (r : Result SpecText TextFault) → HasRead (lines_of bytes) s → tail_of bytes ≡ line → IsEnd s line r → IsAnswered bytes r
ended_by bytes line s (Ok f) h tail e = record {
  spelled = subst (IsSpelled bytes) e.1.lines ((spelled_is_answered bytes s.values).1 (answers_spelled bytes s h (ap (ends s) tail ∙ e.0) e.1.none));
  traces = e.1.traces;
}
ended_by bytes line s (Err (fault.Grammar number)) h tail e = (grammar_is_answered bytes number).1 (answers_grammar bytes s h (ap (ends s) tail ∙ e.0) ∙ ap Grammar (sym e.1))
ended_by bytes line s (Err (fault.Limit number)) h tail e = (limit_is_answered bytes number).1 (answers_limit bytes s number h (ap (ends s) tail ∙ e.0) e.1)
ended_by bytes line s (Err fault.Memory) h tail e = tt

pub ended : (bytes text line : Text) (s : ReaderState) (r : Result SpecText TextFault) → IsOnItsWay bytes text s → items 10 text ≡ line ∷ [] → IsEnd s line r → IsAnswered bytes r
ended bytes text line s r w cut e =
    let last = no_line text line cut in
    let all : w.before ≡ lines_of bytes = sym (w.lines ∙ ap (λ ls. w.before ++ ls) (last.0) ∙ append-nil w.before) in
    ended_by bytes line s r (subst (λ ls. HasRead ls s) all w.read) (w.tail ∙ last.1) e
