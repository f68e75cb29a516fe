-- A cell that isn't required alone can't be cleaned.
use Rattle.std.proofs.Common.{◌≡◌, ◌<◌, false, [], ◌∷◌, ap, sym, ◌∙◌}
use Rattle.std.specs.Prelude.{Bool, ◌&&◌, not, List}
use Rattle.std.proofs.Math.Bool.{and-false}
use Rattle.std.specs.List.{list_any}
use Rattle.gridded.specs.declared.cell.Cell.{Cell}
use Rattle.gridded.specs.Axes.{shares_line}
use Rattle.gridded.specs.CellSets.{cells_that, is_among}
use Rattle.gridded.specs.Orders.{cell_eq}
use Rattle.gridded.specs.Small.{point_at, rising, falling}
use Rattle.gridded.proofs.CellSets.{is_among-cells_that}
use Rattle.tiling_core.specs.Tiles.{Tiles}
use Rattle.tiling_core.specs.Patterns.{forbids, active_cells, requires_list}
use Rattle.steps.specs.declared.Step.TheVariants.{Clean}
use Rattle.steps.specs.Steps as S
use Rattle.steps.specs.Steps.{step_applies, is_isolated, can_be_cleaned}

not_required : (a b c d e : Bool) → c ≡ false → false ≡ ((a && (b && (c && d))) && e)
not_required a b c d e f = rw f (ap (λ x. x && e) (sym (ap (λ x. a && x) (and-false b) ∙ and-false a)))

pub cleaning : (t : Tiles) (required : List Cell) (c : Cell) → required ≡ cells_that (λ d. requires_list t (point_at d ∷ [])) → c.x < 8 → c.y < 8 → is_among required c ≡ false → false ≡ step_applies (Clean c) t
unfolding S.step_applies
cleaning t required c is left low out =
    let none : requires_list t (point_at c ∷ []) ≡ false = sym (is_among-cells_that (λ d. requires_list t (point_at d ∷ [])) c (left, low)) ∙ ap (λ set. is_among set c) (sym is) ∙ out in
    not_required (forbids t (rising c c)) (forbids t (falling c c)) (requires_list t (point_at c ∷ [])) (not (list_any (λ d. shares_line d c && not (cell_eq d c)) (active_cells t))) (can_be_cleaned t c) none
