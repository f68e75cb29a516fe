use Rattle.std.proofs.Common.{rules, sym, subst}
use Rattle.spec_reader.specs.Pieces.{IsStuck}
use Rattle.spec_reader.proofs.Cutting.{way_on, stuck_here}
use Rattle.spec_reader.proofs.Feeding.{ends_further, alone}
use Rattle.spec_reader.proofs.taking.take_lines.Goals as goal

pub returns-in_default-clause-taken : goal.returns-in_default-clause-taken
returns-in_default-clause-taken c = λ text w. (c.loop-behind.invariant.way text w, alone c.loop-behind.rest.now c.cut.result.0.now (search rules))

pub loop-behind-preserved : goal.loop-behind-preserved
loop-behind-preserved c = record {
  way = λ text w. way_on text c.loop-behind.rest.now c.cut.result.0.now c.in-Some.behind.now c.loop-behind.reader c.take_line.new.self (c.loop-behind.invariant.way text w) (search rules) (search rules);
  left = ends_further _ c.loop-behind.rest.now c.cut.result.0.now c.in-Some.behind.now c.loop-behind.invariant.left (search rules);
  few = search rules;
}

pub returns-in-Err-Form-clause-taken : goal.returns-in-Err-Form-clause-taken
returns-in-Err-Form-clause-taken c = λ text w.
    subst (IsStuck text) (sym c.in-Err-Form.ensures.stays)
    (stuck_here text c.loop-behind.rest.now c.cut.result.0.now c.in-Some.behind.now c.loop-behind.reader (c.loop-behind.invariant.way text w) (search rules) (c.in-Err-Form.ensures.form c.in-Err-Form.field-0-is))
