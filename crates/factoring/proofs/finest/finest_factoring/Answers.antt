use Rattle.std.proofs.Common.{◌≡◌, ℕ, List, subst, arith}
use Rattle.gridded.specs.declared.cell.Cell.{Cell}
use Rattle.gridded.specs.CellSets.{IsCellSet}
use Rattle.factoring.proofs.Found.{IsFound, nothing_found, one_more_found, all_found}
use Rattle.factoring.proofs.finest.finest_factoring.Goals as goal

pub loop-number-init : goal.loop-number-init
loop-number-init c = nothing_found c.args.tiling.now _ c.new-sets.ensures.items

pub loop-number-preserved : goal.loop-number-preserved
loop-number-preserved c =
    one_more_found c.args.tiling.now (subst (λ (cells : List Cell). IsCellSet cells) c.active-active.ensures.value c.count.ensures.set) c.loop-number.number c.loop-number.sets.items c.add_closure.new.sets.items c.cell_of.result c.loop-number-test.true c.cell_of.ensures c.loop-number.invariant c.in_ok-add_closure.ensures

pub returns : goal.returns
returns c =
    let done : c.loop-number.number ≡ 64 = omega arith in
    all_found c.args.tiling.now (subst (λ (cells : List Cell). IsCellSet cells) c.active-active.ensures.value c.count.ensures.set) c.loop-number.sets.items
    (subst (λ (n : ℕ). IsFound c.args.tiling.now n c.loop-number.sets.items) done c.loop-number.invariant)
