use Rattle.std.proofs.Common.{refl, sym, ap, ◌∙◌, arith}
use Rattle.std.specs.Prelude.{slice_get}
use Rattle.gridded.specs.CellSets.{cells_with_bits}
use Rattle.gridded.proofs.CellSets.{none_of_bits, least_of_bits, least_by_bits, least_empty, set_of_bits}
use Rattle.gridded.proofs.cell_set.CellSet.least.Goals as goal

pub returns-then-self-eq0 : goal.returns-then-self-eq0
returns-then-self-eq0 c =
    let none = sym c.self.view_is ∙ ap (λ bits. cells_with_bits bits) c.if-self-eq0.true ∙ none_of_bits in
    record { value = ap (λ set. slice_get set 0) (sym none); least = tt; empty = ((λ e. none), (λ e. refl)); set = set_of_bits c.self.inside.bits c.args.self c.self.view_is }

pub returns : goal.returns
returns c =
    let least = sym (least_of_bits c.self.inside.bits (omega (arith, c.if-self-eq0.false)) c.self.invariant) ∙ ap (λ set. slice_get set 0) c.self.view_is in
    record { value = least; least = least_by_bits c.self.inside.bits c.args.self c.self.view_is (omega (arith, c.if-self-eq0.false)) c.self.invariant; empty = ((λ e. absurd cc), (λ e. absurd (least_empty c.args.self _ (sym least) e))); set = set_of_bits c.self.inside.bits c.args.self c.self.view_is }
