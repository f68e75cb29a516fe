-- Line by line.
use Rattle.std.proofs.Common.{◌≡◌, ◌≤◌, ◌+◌, ◌++◌, ◌∷◌, [], ℕ, List, Fits, w32, Vec, take, length, ap, sym, ◌∙◌, subst, arith, add-one}
use Rattle.std.proofs.lemmas.List.{take_all}
use Rattle.lists.proofs.Places.{take_next, some_at}
use Rattle.spec_lines.specs.Lines.{Text}
use Rattle.tilescope.specs.Samples.{IsSearchLine, AreSearchLines}
use Rattle.tilescope.specs.Samples.AreSearchLines.{none}
use Rattle.tilescope.proofs.Sampling.{at_most_one, line_more}
use Rattle.tilescope.proofs.sample.search_all.Goals as goal

pub loop-basis-init : goal.loop-basis-init
loop-basis-init c = (subst (λ (t : Text). AreSearchLines [] 0 t) (sym c.new-text.ensures.items) none, omega arith)

pub overflow_add-found : goal.overflow_add-found
overflow_add-found c = omega (arith, c.loop-basis.invariant.1, c.requires.few, c.loop-basis-test.true, at_most_one _ _ _ c.in_ok-line.ensures)

pub loop-basis-preserved : goal.loop-basis-preserved
loop-basis-preserved c =
    let bases = c.args.bases.now in
    let so_far = c.loop-basis.text.items in
    let this = c.in_ok-line.line.text.items in
    let next : take (c.loop-basis.basis-index + 1) bases ≡ take c.loop-basis.basis-index bases ++ c.basis-item.result ∷ [] = rw add-one (take_next bases c.loop-basis.basis-index c.basis-item.result (some_at bases c.loop-basis.basis-index c.basis-item.result c.loop-basis-test.true c.basis-item.is)) in
    let here : IsSearchLine c.basis-item.result c.in_ok-line.line.found this = subst (λ (basis : List (List ℕ)). IsSearchLine basis c.in_ok-line.line.found this) c.as_slice-in-loop-basis.ensures c.in_ok-line.ensures in
    let grown : c.extend_from_slice.new.self.items ≡ so_far ++ this = c.in_ok-extend_from_slice.ensures.items ∙ ap (λ (t : Text). so_far ++ t) c.as_slice-in-loop-basis-2.ensures.value in
    let more = line_more (take c.loop-basis.basis-index bases) c.basis-item.result c.loop-basis.found c.in_ok-line.line.found so_far this c.loop-basis.invariant.0 here in (
      subst (λ (t : Text). AreSearchLines (take (c.loop-basis.basis-index + 1) bases) (c.loop-basis.found + c.in_ok-line.line.found) t) (sym grown)
          (subst (λ (list : List (List (List ℕ))). AreSearchLines list (c.loop-basis.found + c.in_ok-line.line.found) (so_far ++ this)) (sym next) more),
      omega (arith, c.loop-basis.invariant.1, at_most_one _ _ _ here),
    )

pub returns : goal.returns
returns c = subst (λ (bases : List (List (List ℕ))). AreSearchLines bases c.loop-basis.found c.loop-basis.text.items) (take_all c.loop-basis.basis-index c.args.bases.now c.loop-basis-test.false) c.loop-basis.invariant.0
