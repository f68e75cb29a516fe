use Rattle.std.specs.Prelude.{Err}
use Rattle.spec_checker.proofs.Verdicts.{accepted_of, refused_of, counts_judged, found_out}
use Rattle.spec_checker.proofs.checking.judge_read.Goals as goal

pub returns-in-Ok : goal.returns-in-Ok
returns-in-Ok c = λ bytes has_read.
    let read = c.in-Ok.ensures bytes has_read in
    found_out c.verdicts_are_one.ensures.both c.verdicts_are_one.ensures.refused c.args.basis.now bytes c.judge.result
    (accepted_of c.args.basis.now bytes c.in-Ok.file read c.judge.result c.judge.ensures)
    (refused_of c.args.basis.now bytes c.in-Ok.file read c.judge.result c.judge.ensures)
    (counts_judged c.args.basis.now bytes c.in-Ok.file read c.exact_terms_are_avoiders.ensures c.judge.result c.judge.ensures)

pub returns-in-Err : goal.returns-in-Err
returns-in-Err c = λ bytes has_read.
    found_out c.verdicts_are_one.ensures.both c.verdicts_are_one.ensures.refused c.args.basis.now bytes (Err c.unread.result) tt
    (c.unread.ensures c.args.basis.now bytes (c.in-Err.ensures bytes has_read)) tt
