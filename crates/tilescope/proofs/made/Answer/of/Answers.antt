use Rattle.std.proofs.Common.{Some, sym, subst, arith}
use Rattle.tilescope.specs.Answers.{IsMade}
use Rattle.tilescope.specs.Answers.IsMade.{whole, long}
use Rattle.tilescope.specs.Words.{Text}
use Rattle.tilescope.proofs.made.Answer.of.Goals as goal

pub returns-then-len-gt-MOST_BYTES : goal.returns-then-len-gt-MOST_BYTES
returns-then-len-gt-MOST_BYTES c = long (omega (arith, c.len.ensures, c.args.text.ok, c.if-len-gt-MOST_BYTES.true))

pub returns : goal.returns
returns c =
    subst (λ (text : Text). IsMade c.args.status c.args.text.items c.args.ledger c.args.status (Some text) c.args.ledger) (sym c.of.ensures)
    (whole (omega (arith, c.len.ensures, c.args.text.ok, c.if-len-gt-MOST_BYTES.false)))
