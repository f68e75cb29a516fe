use Rattle.std.proofs.Common.{rules, ◌≡◌, ◌∙◌, ap, sym, arith, length, false, Bor, List, ℕ}
use Rattle.std.proofs.lemmas.List.{length-map}
use Rattle.perm_core.specs.Basis.{words_of, has_empty_word, NoneIsWrong, is_no_digit, is_repeated, is_past_nine}
use Rattle.perm_core.proofs.BasisLaws.{basis_text}
use Rattle.perm_core.proofs.basis.fault_of.Goals as goal

pub returns : goal.returns
returns c =
    let empty : has_empty_word c.args.text.now ≡ false = search rules in
    let digits : NoneIsWrong is_no_digit c.args.text.now = c.in_default.ensures in
    let new : NoneIsWrong is_repeated c.args.text.now = c.in_default-first_flaw.ensures in
    let short : NoneIsWrong is_past_nine c.args.text.now = c.in_default-first_flaw-2.ensures in
    let count : length (words_of c.args.text.now) ≡ length c.args.words.now = sym (ap (λ (l : List (List ℕ)). length l) c.requires) ∙ length-map c.args.words.now (λ (w : Bor (List ℕ)). w.now) in
    basis_text c.args.text.now empty digits new short (omega arith)
