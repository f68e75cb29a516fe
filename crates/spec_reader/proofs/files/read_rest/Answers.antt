use Rattle.std.proofs.Common.{Err, refl, sym, subst}
use Rattle.spec_reader.specs.Ends.{IsAnswered}
use Rattle.spec_reader.specs.Pieces.{IsTaken}
use Rattle.spec_reader.proofs.Cutting.{ended, stuck_is_answered}
use Rattle.spec_reader.proofs.files.read_rest.Goals as goal

pub returns-in-Unfinished : goal.returns-in-Unfinished
returns-in-Unfinished c = λ text w.
    let rest = c.take_lines-stop.result.0.now in
    let taken = subst (IsTaken text rest c.take_lines-stop.new.reader) c.in-Unfinished.is (c.take_lines-stop.ensures.taken text w) in
    ended text rest rest c.take_lines-stop.new.reader c.finish.result taken.0 taken.1 c.finish.ensures

pub returns-in-Stuck : goal.returns-in-Stuck
returns-in-Stuck c = λ text w.
    let taken = subst (IsTaken text c.take_lines-stop.result.0.now c.take_lines-stop.new.reader) c.in-Stuck.is (c.take_lines-stop.ensures.taken text w) in
    subst (λ f. IsAnswered text (Err f)) (sym c.next_line_is_wrong.ensures) (stuck_is_answered text c.take_lines-stop.new.reader _ taken refl)
