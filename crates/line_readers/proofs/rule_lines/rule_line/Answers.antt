use Rattle.std.proofs.Common.{◌≡◌, sym, ap, subst, ◌∙◌, rules}
use Rattle.std.specs.Prelude.{codes, Option, Some, None, option_and_then, option_map}
use Rattle.spec_lines.specs.Forms.Line.{Rule}
use Rattle.spec_lines.specs.Items.{behind, items}
use Rattle.line_readers.specs.Answers.{IsLineAnswer}
use Rattle.line_readers.specs.KindItems.{rule_read}
use Rattle.line_readers.proofs.KindAnswers.{line_answer}
use Rattle.line_readers.proofs.KindForms.{rule_line_by}
use Rattle.line_readers.proofs.rule_lines.rule_line.Goals as goal

pub returns : goal.returns
returns c =
    let parse : behind (codes "rule") (items 32 c.args.line.now) ≡ Some c.in-Some.items = search rules in
    subst (λ o. IsLineAnswer o (λ k. Rule k) c.read_kind.result) (sym (rule_line_by c.args.line.now ∙ ap (λ o. option_map Rule (option_and_then rule_read o)) parse)) (line_answer (rule_read c.in-Some.items) c.read_kind.result c.read_kind.ensures)
