-- Commands that are built, as the parser of words sees them.
use Rattle.std.proofs.Common.{◌≡◌, false, Result, Ok, Err, ap₂, ◌∙◌}
use Rattle.std.specs.Prelude.{IfOk}
use Rattle.clap.specs.Words.{App, Rule, AddsArg, app_of, rule_of, with_rule}
use Rattle.clap.specs.declared.builder.arg.Arg.{Arg}
use Rattle.clap.specs.declared.builder.command.Command.{Command as Built}

-- one more argument
pub one_added : {E : Type 0} (old : Built) (a : Arg) (app : App) (rule : Rule) (r : Result Built E) → IfOk r (λ new. AddsArg old a new) → a.global ≡ false → app_of old ≡ app → rule_of a ≡ rule → IfOk r (λ new. app_of new ≡ with_rule app rule)
one_added old a app rule (Ok new) h g o k = h.shape g ∙ ap₂ with_rule o k
one_added old a app rule (Err e) h g o k = tt

-- what holds of a result, in other words
pub if_ok-by : {A E : Type 0} (P Q : A → Type 0) → ((a : A) → P a → Q a) → (r : Result A E) → IfOk r P → IfOk r Q
if_ok-by P Q w (Ok a) h = w a h
if_ok-by P Q w (Err e) h = tt
