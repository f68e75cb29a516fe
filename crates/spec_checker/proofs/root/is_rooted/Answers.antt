use Rattle.steps.specs.Refused.{IsFirstRefused, IsReplayRefused}
use Rattle.tiling_core.specs.Roots.{root_of}
use Rattle.spec_checker.proofs.Roots.{no_root}
use Rattle.spec_checker.proofs.root.is_rooted.Goals as goal

pub returns-in-Err-NotApplicable-clause-exact : goal.returns-in-Err-NotApplicable-clause-exact
returns-in-Err-NotApplicable-clause-exact c =
    let r : IsReplayRefused c.in_ok-raw.raw c.args.trace.now c.in-Err-NotApplicable.field-0 = c.in-Err-NotApplicable.ensures.refused in
    let k : IsFirstRefused c.in_ok-raw.raw c.args.trace.now c.in-Err-NotApplicable.field-0-0 = rw c.in-Err-NotApplicable.field-0-is at r in
    let own : IsFirstRefused (root_of c.args.basis.now) c.args.trace.now c.in-Err-NotApplicable.field-0-0 = rw c.in_ok-raw.ensures.made at k in
    no_root (root_of c.args.basis.now) c.args.trace.now c.in-Err-NotApplicable.field-0-0 c.args.entries.now c.requires.some own
