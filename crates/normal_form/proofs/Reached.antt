-- Laws of what the steps so far have led to.
use Rattle.std.proofs.Common.{◌≡◌, ◌<◌, Bool, true, false, List, [], ◌∷◌, ◌++◌, refl, sym, subst, append_assoc, append-nil}
use Rattle.std.specs.Prelude.{Some, None, if◌then◌else◌}
use Rattle.tiling_core.specs.Tiles.{Tiles, IsTiling}
use Rattle.steps.specs.declared.Step.{Step}
use Rattle.steps.specs.Steps.{step_applies, step_result}
use Rattle.steps.specs.Traces.{first_step, replay, IsTrace, IsNormal}
use Rattle.steps.specs.Traces.IsTrace.{ended, then_step}
use Rattle.normal_form.specs.Measure.{size}
use Rattle.normal_form.specs.Reached.{IsReached}
use Rattle.normal_form.proofs.Shrinking.{steps_shrink}
use Rattle.normal_form.proofs.Tracing.{first_applies, normal_where_none}

-- ---- replay
replay_then : (t : Tiles) (steps : List Step) (u : Tiles) (s : Step) → replay t steps ≡ Some u → step_applies s u ≡ true → replay t (steps ++ s ∷ []) ≡ Some (step_result s u)
replay_then t [] u s e f =
    let same : u ≡ t = cc in
    let g : step_applies s t ≡ true = rw (← same) f in
    rw (same, g) refl
replay_then t (r ∷ steps) u s e f = go (step_applies r t) (λ h. replay_then (step_result r t) steps u s h f) e
  where
    go : (b : Bool) → (replay (step_result r t) steps ≡ Some u → replay (step_result r t) (steps ++ s ∷ []) ≡ Some (step_result s u))
        → (if b then replay (step_result r t) steps else None) ≡ Some u → (if b then replay (step_result r t) (steps ++ s ∷ []) else None) ≡ Some (step_result s u)
    go true ih h = ih h
    go false ih h = absurd cc

-- ---- so far
pub reached_itself : (t : Tiles) → IsReached t [] t
reached_itself t = record { traced = λ rest m. m; replayed = refl }

pub reached_next : (t : Tiles) (steps : List Step) (u v : Tiles) (s : Step) → IsReached t steps u → first_step u ≡ Some s → v ≡ step_result s u → IsReached t (steps ++ s ∷ []) v
reached_next t steps u v s r e same = rw same (record {
  traced = λ rest m. subst (λ (all : List Step). IsTrace t all) (sym (append_assoc steps (s ∷ []) rest)) (r.traced (s ∷ rest) (then_step e m));
  replayed = replay_then t steps u s r.replayed (first_applies u s e);
})

pub reached_end : (t : Tiles) (steps : List Step) (u : Tiles) → IsReached t steps u → first_step u ≡ None → IsTrace t steps
reached_end t steps u r e = subst (λ (all : List Step). IsTrace t all) (append-nil steps) (r.traced [] (ended e))

pub reached_normal : (u : Tiles) → IsTiling u → first_step u ≡ None → IsNormal u
reached_normal u k e = (normal_where_none u k).0 e

pub next_is_smaller : (t u : Tiles) (s : Step) → IsTiling t → first_step t ≡ Some s → u ≡ step_result s t → size u < size t
next_is_smaller t u s k e same = rw same (steps_shrink s t k (first_applies t s e))
