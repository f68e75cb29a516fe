-- Class by class.
use Rattle.std.proofs.Common.{◌≡◌, ◌+◌, ◌++◌, ◌∷◌, [], ℕ, List, suc, take, get_or, sym, ap, subst, ◌∙◌, arith}
use Rattle.std.specs.Prelude.{slice_get, Some}
use Rattle.std.specs.List.{AllZip}
use Rattle.css_domain.specs.Entries.{Entry, IsPickOf}
use Rattle.css_prune.specs.Pruning.{kept}
use Rattle.css_prune.proofs.Supports.{in_at_slot}
use Rattle.css_prune.proofs.FirstFaults.{number_at}
use Rattle.css_prune.proofs.Extracting.{zip_push}
use Rattle.css_prune.proofs.picked.entries_of.Goals as goal
use Rattle.lists.proofs.Places.{take_next}
use Rattle.lists.specs.Members.{IsIn}

pub entry_of-requires-clause-ready : goal.entry_of-requires-clause-ready
entry_of-requires-clause-ready g c =
    let x = get_or c.as_slice-numbers.result.now c.loop-number.number-index 0 in
    λ κs l. c.requires.ready x (subst (λ (xs : List ℕ). IsIn x xs) c.as_slice-numbers.ensures.value (in_at_slot c.as_slice-numbers.result.now c.loop-number.number-index c.loop-number-test.true))

pub loop-number-preserved : goal.loop-number-preserved
loop-number-preserved g c =
    let i = c.loop-number.number-index in
    let order = c.args.made.now.order.items in
    let x = get_or c.as_slice-numbers.result.now i 0 in
    let P : ℕ → Entry g.row.D-Class.Denot g.row.D-Rule.Denot → Type 0 = λ n e. IsPickOf g.D.Domain.meaning c.args.ledger.now (kept c.args.pruned.now.keep) order n e in
    let at : slice_get order i ≡ Some x = ap (λ (xs : List ℕ). slice_get xs i) (sym c.as_slice-numbers.ensures.value) ∙ number_at c.as_slice-numbers.result.now i c.loop-number-test.true in
    let next : i + 1 ≡ suc i = omega arith in
    let more : take (i + 1) order ≡ take i order ++ x ∷ [] = ap (λ n. take n order) next ∙ take_next order i x at in
    subst (λ (xs : List ℕ). AllZip P xs c.push.new.self.items) (sym more)
    (subst (λ (ys : List (Entry g.row.D-Class.Denot g.row.D-Rule.Denot)). AllZip P (take i order ++ x ∷ []) ys) (sym c.in_ok-push.ensures.items) (zip_push P (take i order) c.loop-number.entries.items x _ c.loop-number.invariant c.in_ok-entry_of.ensures))
