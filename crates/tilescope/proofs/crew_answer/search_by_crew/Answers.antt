use Rattle.std.proofs.Common.{List, ℕ, ap, ◌∙◌, subst}
use Rattle.normal_form.specs.TraceLaws.{trace}
use Rattle.tiling_core.specs.Roots.{root_of}
use Rattle.tilescope.specs.Searches.{IsReducedRoot}
use Rattle.tilescope.proofs.Solving.{solved_for}
use Rattle.tilescope.proofs.crew_answer.search_by_crew.Goals as goal

pub say-requires-clause-solved : goal.say-requires-clause-solved
say-requires-clause-solved g c =
    let reduced = subst (λ (basis : List (List ℕ)). IsReducedRoot basis c.in_ok-root.field-0.root) c.as_slice.ensures c.in_ok-root.ensures.root in
    solved_for c.args.request.now c.in_ok-root.field-0.root reduced c.in_ok-solved.solved.ledger _ _ c.in_ok-solved.ensures.ledger c.in_ok-solved.ensures.filled c.in_ok-solved.ensures.alone c.in_ok-solved.ensures.reason c.in_ok-solved.ensures.spec c.in_ok-solved.ensures.filed

pub say-requires-clause-trace : goal.say-requires-clause-trace
say-requires-clause-trace g c = c.as_slice-2.ensures.value ∙ c.in_ok-root.ensures.trace ∙ ap (λ (basis : List (List ℕ)). trace (root_of basis)) c.as_slice.ensures
