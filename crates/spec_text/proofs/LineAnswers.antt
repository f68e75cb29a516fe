-- What the readers of single lines answer, in terms of the text of lines.
use Rattle.std.proofs.Common.{◌≡◌, ℕ, Bool, true, false, refl, sym, ◌∙◌, subst, ap, arith, true≢false}
use Rattle.std.specs.Prelude.{Result, Ok, Err, Option, Some, None, nat_eq}
use Rattle.std.proofs.lemmas.Grind.{common_steps}
use Rattle.std.proofs.lemmas.Option.{same_Some, none-some}
use Rattle.spec_lines.specs.Lines.{Text}
use Rattle.spec_lines.specs.Forms.{Line}
use Rattle.spec_lines.specs.Forms.Line.{First, Basis, Root, Count, Entry, Grid, Obstructions, Requirements, Rule, Child, Terms, End}
use Rattle.spec_lines.specs.Follows.{Place, stands_at}
use Rattle.spec_lines.specs.Follows.Place.{AtEntry}
use Rattle.spec_lines.specs.Items.{keep_if}
use Rattle.spec_lines.specs.Ranges.{is_in_range}
use Rattle.spec_lines.specs.Readings.{line_at}
use Rattle.spec_lines.specs.Laws.{SpellsLine}
use Rattle.spec_lines.proofs.LineSpelling.{line_takes, read_in_form, read_stands}
use Rattle.spec_lines.proofs.LinesAgain.{line_again}
use Rattle.line_readers.specs.Answers.{IsLineAnswer, nothing_else, is_numbered}
use Rattle.line_readers.specs.Kept.{where_it}
use Rattle.line_readers.specs.declared.fault.ItemFault.{ItemFault}
use Rattle.line_readers.specs.declared.fault.ItemFault.TheVariants.{Form, Range, Memory}
use Rattle.spec_text.specs.LineAnswers.{IsSpelledAnswer, SpellsEntry, IsSpelledEntry}

read : (p : Place) (t : Text) (l : Line) → SpellsLine p t l → line_at p t ≡ Some l
read p t l s = line_again p t l s.stands s.form s.text

spells : (p : Place) (t : Text) (l : Line) → line_at p t ≡ Some l → SpellsLine p t l
spells p t l h = record { text = line_takes p t l h; form = read_in_form p t l h; stands = read_stands p t l h }

pub one_value : (p : Place) (t : Text) (l k : Line) → SpellsLine p t l → SpellsLine p t k → l ≡ k
one_value p t l k a b = same_Some l k (sym (read p t l a) ∙ read p t k b)

-- nothing is read where no line is spelled
unread : (p : Place) (t : Text) (o : Option Line) → line_at p t ≡ o → ((l : Line) → SpellsLine p t l → ⊥) → o ≡ None
unread p t None h none = refl
unread p t (Some l) h none = absurd (none l (spells p t l h))

pub answered : {R : Type 0} (p : Place) (t : Text) (line_of : R → Line) (result : Result R ItemFault) → IsLineAnswer (line_at p t) line_of result → IsSpelledAnswer p t line_of result
answered p t line_of (Ok r) h = (spells p t (line_of r) (h.0), h.1)
answered p t line_of (Err Form) h = λ l s. none-some l (sym h ∙ read p t l s)
answered p t line_of (Err Range) h = (h.0, spells p t (h.0) (h.1), h.2)
answered p t line_of (Err Memory) h = h

pub answered_back : {R : Type 0} (p : Place) (t : Text) (line_of : R → Line) (result : Result R ItemFault) → IsSpelledAnswer p t line_of result → IsLineAnswer (line_at p t) line_of result
answered_back p t line_of (Ok r) h = (read p t (line_of r) (h.0), h.1)
answered_back p t line_of (Err Form) h = unread p t (line_at p t) refl h
answered_back p t line_of (Err Range) h = (h.0, read p t (h.0) (h.1), h.2)
answered_back p t line_of (Err Memory) h = h

-- ====== the first line of an entry ======
same_number : (m n : ℕ) → nat_eq m n ≡ true → m ≡ n
same_number m n h = grind (arith, common_steps, h)

own_number : (n : ℕ) → nat_eq n n ≡ true
own_number n = grind (arith, common_steps)

-- what is kept was read, and passes the test
kept_by : (test : Line → Bool) (k l : Line) (b : Bool) → test k ≡ b → keep_if b k ≡ Some l → (k ≡ l) × (test k ≡ true)
kept_by test k l true h e = (same_Some k l e, h)
kept_by test k l false h e = absurd (none-some l e)

kept : (test : Line → Bool) (o : Option Line) (l : Line) → where_it test o ≡ Some l → (o ≡ Some l) × (test l ≡ true)
kept test None l h = absurd (none-some l h)
kept test (Some k) l h = let by_test = kept_by test k l (test k) refl h in (ap Some (by_test.0), subst (λ x. test x ≡ true) (by_test.0) (by_test.1))

keeps : (number rank : ℕ) (t : Text) → SpellsEntry number t rank → where_it (is_numbered number) (line_at (AtEntry number 0) t) ≡ Some (Entry number rank)
keeps number rank t s = ap (where_it (is_numbered number)) (read (AtEntry number 0) t (Entry number rank) s) ∙ ap (λ b. keep_if b (Entry number rank)) (own_number number)

-- a line that stands there and passes is the entry's
abbrev pub IsOwn : ℕ → Line → Type 0
IsOwn number l = (rank : ℕ) × (l ≡ Entry number rank)

own : (number : ℕ) (l : Line) → stands_at (AtEntry number 0) l ≡ true → is_numbered number l ≡ true → IsOwn number l
own number (Entry m rank) h k = (rank, ap (λ n. Entry n rank) (same_number m number k))
own number First h k = absurd (true≢false (sym h))
own number (Basis words) h k = absurd (true≢false (sym h))
own number (Root trace) h k = absurd (true≢false (sym h))
own number (Count n) h k = absurd (true≢false (sym h))
own number (Grid width height) h k = absurd (true≢false (sym h))
own number (Obstructions patterns) h k = absurd (true≢false (sym h))
own number (Requirements lists) h k = absurd (true≢false (sym h))
own number (Rule kind) h k = absurd (true≢false (sym h))
own number (Child child trace) h k = absurd (true≢false (sym h))
own number (Terms terms) h k = absurd (true≢false (sym h))
own number End h k = absurd (true≢false (sym h))

pub entry_answered : (number : ℕ) (t : Text) (result : Result ℕ ItemFault) → IsLineAnswer (where_it (is_numbered number) (line_at (AtEntry number 0) t)) (λ rank. Entry number rank) result → IsSpelledEntry number t result
entry_answered number t (Ok rank) h = (spells (AtEntry number 0) t (Entry number rank) ((kept (is_numbered number) (line_at (AtEntry number 0) t) (Entry number rank) (h.0)).0), h.1)
entry_answered number t (Err Form) h = λ rank s. none-some (Entry number rank) (sym h ∙ keeps number rank t s)
entry_answered number t (Err Range) h =
    let found = kept (is_numbered number) (line_at (AtEntry number 0) t) (h.0) (h.1) in
    let its = own number (h.0) (read_stands (AtEntry number 0) t (h.0) (found.0)) (found.1) in
    (its.0, subst (λ l. SpellsLine (AtEntry number 0) t l) (its.1) (spells (AtEntry number 0) t (h.0) (found.0)), subst (λ l. is_in_range nothing_else l ≡ false) (its.1) (h.2))
entry_answered number t (Err Memory) h = h

none_kept : (number : ℕ) (t : Text) (o : Option Line) → line_at (AtEntry number 0) t ≡ o → ((rank : ℕ) → SpellsEntry number t rank → ⊥) → where_it (is_numbered number) o ≡ None
none_kept number t None h none = refl
none_kept number t (Some l) h none = by_test (is_numbered number l) refl where
  by_test : (b : Bool) → is_numbered number l ≡ b → keep_if b l ≡ None
  by_test false k = refl
  by_test true k =
      let its = own number l (read_stands (AtEntry number 0) t l h) k in
      absurd (none (its.0) (subst (λ x. SpellsLine (AtEntry number 0) t x) (its.1) (spells (AtEntry number 0) t l h)))

pub entry_answered_back : (number : ℕ) (t : Text) (result : Result ℕ ItemFault) → IsSpelledEntry number t result → IsLineAnswer (where_it (is_numbered number) (line_at (AtEntry number 0) t)) (λ rank. Entry number rank) result
entry_answered_back number t (Ok rank) h = (keeps number rank t (h.0), h.1)
entry_answered_back number t (Err Form) h = none_kept number t (line_at (AtEntry number 0) t) refl h
entry_answered_back number t (Err Range) h = (Entry number (h.0), keeps number (h.0) t (h.1), h.2)
entry_answered_back number t (Err Memory) h = h
