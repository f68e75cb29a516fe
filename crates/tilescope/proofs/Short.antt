-- The line that a command writes of an accepted text is never too long: that of terms is a line of the text, and
-- the other has two numbers.
use Rattle.std.proofs.Common.{◌≤◌, ℕ, List, [], ◌∷◌, ◌++◌, length, sym, subst, arith, length-append}
use Rattle.std.specs.Prelude.{codes, decimal, flat_map}
use Rattle.std.proofs.lemmas.Fmt.{length-decimal-le}
use Rattle.css_terms.specs.declared.term.Term.{Term}
use Rattle.spec_lines.specs.Lines.{Text}
use Rattle.spec_lines.specs.Terms.{terms_line}
use Rattle.spec_lines.specs.Forms.{line_text}
use Rattle.spec_lines.specs.Forms.Line.{First, Basis, Root, Count, Terms, End}
use Rattle.spec_lines.specs.Files.{lines_of_entries}
use Rattle.spec_text.specs.declared.file.SpecFile.{SpecFile}
use Rattle.spec_text.specs.Joined.{IsReadSpec, file_of_spec}
use Rattle.spec_checker.specs.Accepting.{IsAccepted}
use Rattle.command_words.specs.declared.command.Command.{Command}
use Rattle.command_words.specs.declared.command.Command.TheVariants as command
use Rattle.tilescope.specs.Verdicts.{most_bytes, accepted_line, checked_line}

-- a part is no longer than the whole
item_short : {X : Type 0} (f : X → Text) (front : List X) (x : X) (rest : List X) → length (f x) ≤ length (flat_map f (front ++ x ∷ rest))
item_short f [] x rest = rw (length-append (f x) (flat_map f rest)) (omega arith)
item_short f (y ∷ front) x rest =
    let h = item_short f front x rest in
    rw (length-append (f y) (flat_map f (front ++ x ∷ rest))) (omega (arith, h))

terms_short : (bytes : Text) (f : SpecFile) → IsReadSpec bytes f → length (terms_line f.terms) ≤ length bytes
terms_short bytes f r =
    subst (λ (b : Text). length (terms_line f.terms) ≤ length b) (sym r.text.spelled.form.text)
    (item_short line_text (First ∷ Basis f.basis ∷ Root f.root_trace ∷ Count (length (file_of_spec f).entries) ∷ lines_of_entries 0 (file_of_spec f).entries) (Terms f.terms) (End ∷ []))

sum_short : (a d b t c : Text) → length a ≤ 9 → length d ≤ 20 → length b ≤ 1 → length t ≤ 20 → length c ≤ 1 → length (a ++ d ++ (b ++ t) ++ c) ≤ 268435456
sum_short a d b t c = grind (arith, length-append)

number_short : (n : ℕ) → n ≤ 100000 → length (decimal n) ≤ 20
number_short n h = length-decimal-le 20 n (omega arith) (omega (arith, h)) (omega (arith, h))

accepted_short : (entries terms : ℕ) → entries ≤ 100000 → terms ≤ 201 → length (accepted_line entries terms) ≤ most_bytes
accepted_short entries terms e t =
    sum_short (codes "accepted ") (decimal entries) (codes " ") (decimal terms) (codes "\n") (omega arith) (number_short entries e) (omega arith) (number_short terms (omega (arith, t))) (omega arith)

line_short : (c : Command) (entries : ℕ) (terms : List Term) → entries ≤ 100000 → length terms ≤ 201 → length (terms_line terms) ≤ most_bytes → length (checked_line c entries terms) ≤ most_bytes
line_short command.Terms entries terms e t h = h
line_short command.Check entries terms e t h = accepted_short entries (length terms) e t
line_short command.Search entries terms e t h = accepted_short entries (length terms) e t
line_short command.Count entries terms e t h = accepted_short entries (length terms) e t
line_short command.Sample entries terms e t h = accepted_short entries (length terms) e t

pub checked_short : (c : Command) (basis : List (List ℕ)) (bytes : Text) (entries : ℕ) (terms : List Term) → length bytes ≤ most_bytes → IsAccepted basis bytes entries terms → length (checked_line c entries terms) ≤ most_bytes
checked_short c basis bytes entries terms few is =
    let read = is.accepted.specified.own.read in
    let short = terms_short bytes is.file read in
    rw (is.many, is.items)
    (line_short c (length is.file.entries) is.file.terms read.few_entries read.few_terms (omega (arith, short, few)))
