-- The class goes last, and its place is known.
use Rattle.std.proofs.Common.{◌≡◌, ◌+◌, suc, length, arith}
use Rattle.css_prune.proofs.Placed.{no_longer, placed}
use Rattle.css_prune.proofs.order.add_child.Goals as goal

pub overflow_cast-place : goal.overflow_cast-place
overflow_cast-place c = let n = no_longer c.args.order.now.items c.args.places.now c.requires.places in omega (arith, n, c.len.ensures, c.args.order.now.ok, c.requires.few)

pub overflow_add-place : goal.overflow_add-place
overflow_add-place c = let n = no_longer c.args.order.now.items c.args.places.now c.requires.places in omega (arith, n, c.len.ensures, c.args.order.now.ok, c.requires.few)

pub returns-clause-places : goal.returns-clause-places
returns-clause-places c =
    let z = c.if-places-class-ne0.false in
    let p = placed c.args.order.now.items c.args.places.now c.args.class c.requires.places c.requires.below z in
    let e : c.len.result + 1 ≡ suc (length c.args.order.now.items) = omega (arith, c.len.ensures, c.args.order.now.ok) in
    rw (c.in_ok-push.ensures.items, e) p.1
