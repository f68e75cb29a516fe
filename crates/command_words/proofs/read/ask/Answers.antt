use Rattle.std.proofs.Common.{sym, ap, map, ◌∙◌}
use Rattle.std.specs.Prelude.{string_bytes, is_some}
use Rattle.command_words.specs.Parts.{plain_parts}
use Rattle.command_words.proofs.Asking.{sliced, no_word, no_command, not_plain, plain_asks}
use Rattle.command_words.proofs.read.ask.Goals as goal

pub returns-in_default-clause-refused : goal.returns-in_default-clause-refused
returns-in_default-clause-refused c = no_word string_bytes c.args.words.now c.in_default.ensures.value

pub returns-in_default-command_of-clause-refused : goal.returns-in_default-command_of-clause-refused
returns-in_default-command_of-clause-refused c =
    no_command string_bytes c.args.words.now c.in-Some.first.now c.as_str.result.now c.in-Some.ensures.value c.as_str.ensures.value c.in_default-command_of.ensures

pub returns-then-not-plain-clause-refused : goal.returns-then-not-plain-clause-refused
returns-then-not-plain-clause-refused c =
    not_plain string_bytes c.args.words.now c.in-Some.first.now c.as_str.result.now c.in-Some.ensures.value c.as_str.ensures.value c.in-Some-command_of.command c.in-Some-command_of.ensures (ap (λ ws. is_some (plain_parts c.in-Some-command_of.command (map string_bytes ws))) (sym (sliced c.args.words.now)) ∙ sym c.in-Ok.ensures ∙ c.if-not-plain.true)

pub returns-clause-ok : goal.returns-clause-ok
returns-clause-ok c =
    plain_asks string_bytes c.args.words.now c.in-Some.first.now c.as_str.result.now c.in-Some.ensures.value c.as_str.ensures.value c.in-Some-command_of.command c.in-Ok-find.texts c.in-Some-command_of.ensures (ap (λ ws. is_some (plain_parts c.in-Some-command_of.command (map string_bytes ws))) (sym (sliced c.args.words.now)) ∙ sym c.in-Ok.ensures ∙ c.if-not-plain.false) c.in-Ok-find.ensures
