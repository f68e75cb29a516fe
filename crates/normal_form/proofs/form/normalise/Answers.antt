use Rattle.std.proofs.lemmas.Result.{IfOk-weaker}
use Rattle.normal_form.proofs.Reached.{reached_itself}
use Rattle.normal_form.proofs.form.normalise.Goals as goal

pub returns-clause-members : goal.returns-clause-members
returns-clause-members c =
    IfOk-weaker c.reduce.result _ _
    (λ made k. c.replays_keep_members.ensures.members made.1.items c.args.tiling made.0 c.width.ensures.kept (k c.args.tiling (rw c.new.ensures.items (reached_itself c.args.tiling))))
    c.reduce.ensures.replayed
