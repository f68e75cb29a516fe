-- The reduced root of a basis, from what the calls say that make it.
use Rattle.std.proofs.Common.{◌≡◌, List, ◌∙◌, subst, Some, ℕ}
use Rattle.steps.specs.declared.step.Step.{Step}
use Rattle.steps.specs.Traces.{replay, IsTrace, IsNormal}
use Rattle.steps.specs.Kept.{KeepsMembers, rename_all}
use Rattle.normal_form.specs.TraceLaws.{trace, TraceIsTotal, TraceIsFunctional}
use Rattle.tiling_core.specs.Tiles.{Tiles, IsTiling}
use Rattle.tiling_core.specs.Roots.{root_of}
use Rattle.tile_rules.specs.Avoiding.{CountsAvoiders}
use Rattle.tilescope.specs.Searches.{IsReducedRoot}

-- the steps are the trace of the tiling of the basis
pub the_trace : (basis : List (List ℕ)) (raw : Tiles) (steps : List Step) → raw ≡ root_of basis → IsTiling raw → IsTrace raw steps → TraceIsTotal → TraceIsFunctional → steps ≡ trace (root_of basis)
the_trace basis raw steps made tiling traced total functional =
    functional (root_of basis) steps (trace (root_of basis)) (subst (λ t. IsTrace t steps) made traced) (total (root_of basis) (subst (λ t. IsTiling t) made tiling))

-- what they lead to is the reduced root
pub reduced_root : (basis : List (List ℕ)) (raw root : Tiles) (steps : List Step) → raw ≡ root_of basis → CountsAvoiders basis raw → replay raw steps ≡ Some root → IsNormal root → KeepsMembers (rename_all steps) raw root → steps ≡ trace (root_of basis) → IsReducedRoot basis root
reduced_root basis raw root steps made avoiders replayed normal members same =
    record {
      reduced = subst (λ s. replay (root_of basis) s ≡ Some root) same (subst (λ t. replay t steps ≡ Some root) made replayed);
      normal = normal;
      counts = λ n. members.counts n ∙ avoiders n;
    }
