-- The chain is longer by one slot.
use Rattle.std.proofs.Common.{suc, length, ◌≡◌, arith, refl}
use Rattle.std.specs.Prelude.{slice_index}
use Rattle.css_prune.specs.declared.waiting.Slot.{Slot}
use Rattle.css_prune.proofs.Chains.{chain_more, waits_still, waits_now}
use Rattle.css_prune.proofs.waiting.wait.Goals as goal

pub returns-clause-chained : goal.returns-clause-chained
returns-clause-chained c =
    λ count place a.
    let x : Slot = record { class = c.args.class; place = c.args.place; before = slice_index c.args.last.now c.args.class } in
    let many : c.len.result ≡ suc (length c.args.slots.now.items) = omega (arith, c.len.ensures, c.in_ok-push.ensures.len, c.args.slots.now.ok) in
    rw c.in_ok-push.ensures.items (chain_more count c.args.last.now c.args.slots.now.items x c.len.result many place c.requires.within refl a)

pub returns-clause-old : goal.returns-clause-old
returns-clause-old c =
    λ d p w.
    let x : Slot = record { class = c.args.class; place = c.args.place; before = slice_index c.args.last.now c.args.class } in
    rw c.in_ok-push.ensures.items (waits_still c.args.slots.now.items x d p w)

pub returns-clause-waits : goal.returns-clause-waits
returns-clause-waits c =
    let x : Slot = record { class = c.args.class; place = c.args.place; before = slice_index c.args.last.now c.args.class } in
    rw c.in_ok-push.ensures.items (waits_now c.args.slots.now.items x)
