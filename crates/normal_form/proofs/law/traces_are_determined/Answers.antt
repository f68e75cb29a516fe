use Rattle.normal_form.proofs.Tracing.{total, functional, normal_where_none}
use Rattle.normal_form.proofs.Tilings.{traces_end}
use Rattle.normal_form.proofs.law.traces_are_determined.Goals as goal

pub returns : goal.returns
returns c = record { total = total; functional = functional; ends = traces_end; normal = normal_where_none }
