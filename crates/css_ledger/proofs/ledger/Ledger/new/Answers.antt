-- The first books.
use Rattle.std.proofs.Common.{◌≡◌, ◌∙◌, refl, [], ◌∷◌, arith}
use Rattle.css_ledger.specs.Stages.{outs}
use Rattle.css_ledger.proofs.Claims.{opened}
use Rattle.css_ledger.proofs.ledger.Ledger.new.Goals as goal

pub invariant_of-result : goal.invariant_of-result
unfolding outs
invariant_of-result g c =
    let keys : c.insert.new.self.keys ≡ (c.args.root ∷ []) = c.in_ok-insert.ensures.keys ∙ rw (c.new-classes.ensures.empty, c.in_ok-copy.ensures) refl in
    rw (keys, c.in_ok-stages.ensures.items, c.new-2.ensures.items, c.new.ensures.items, c.in_ok-journal.ensures.items)
    (opened g.D.Domain.meaning c.args.root c.args.budget c.args.rulebook c.requires.some c.requires.few, λ n h. absurd (omega (arith, h)))

pub returns : goal.returns
unfolding outs
returns g c = rw (c.in_ok-stages.ensures.items, c.in_ok-journal.ensures.items, c.new.ensures.items) refl
