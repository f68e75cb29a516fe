use Rattle.std.proofs.Common.{arith}
use Rattle.tilescope.specs.Answers.IsTextAnswer.{unread, too_many, told}
use Rattle.tilescope.proofs.Streaming.{told_accepted, told_rejected, short_accepted, refused_by, rose_of, took_of}
use Rattle.tilescope.proofs.verdict.ask.Goals as goal

pub returns-in_ok-accept-in-Ok-clause-answer : goal.returns-in_ok-accept-in-Ok-clause-answer
returns-in_ok-accept-in-Ok-clause-answer g c =
    let v = c.in_ok-accept-in-Ok.field-0 in
    rw c.answered.ensures
    (told v.status v.line.items
    (told_accepted c.args.request.now c.as_slice.result.now _ _ c.in-Ok.found c.as_slice.ensures c.in-Ok.ensures.answer v.status v.line.items c.in_ok-accept-in-Ok.ensures.0 c.in_ok-accept-in-Ok.ensures.1)
    (short_accepted c.args.request.now c.as_slice.result.now _ _ c.in-Ok.found c.in-Ok.ensures.answer v.line.items c.in_ok-accept-in-Ok.ensures.1))

pub returns-in_ok-reject-in-Err-Check-clause-answer : goal.returns-in_ok-reject-in-Err-Check-clause-answer
returns-in_ok-reject-in-Err-Check-clause-answer g c =
    let v = c.in_ok-reject-in-Err-Check.field-0 in
    rw c.answered-in-Err-Check.ensures
    (told v.status v.line.items
    (told_rejected c.args.request.now c.as_slice.result.now _ _ c.in-Err-Check.fault c.as_slice.ensures (refused_by _ _ _ _ _ c.in-Err-Check.field-0 c.in-Err-Check.fault c.in-Err-Check.field-0-is c.in-Err-Check.ensures.answer) v.status v.line.items c.in_ok-reject-in-Err-Check.ensures.says)
    (omega (arith, c.in_ok-reject-in-Err-Check.ensures.short)))

pub returns-in-Err-Read-clause-answer : goal.returns-in-Err-Read-clause-answer
returns-in-Err-Read-clause-answer g c = rw c.silent.ensures (unread (rose_of _ _ _ _ _ c.in-Err-Read.field-0 c.in-Err-Read.field-0-is c.in-Err-Read.ensures.answer))

pub returns-in-Err-TooLong-clause-answer : goal.returns-in-Err-TooLong-clause-answer
returns-in-Err-TooLong-clause-answer g c = rw c.silent-in-Err-TooLong.ensures (too_many (took_of _ _ _ _ _ _ c.in-Err-TooLong.field-0 c.in-Err-TooLong.field-0-is c.in-Err-TooLong.ensures.answer))
