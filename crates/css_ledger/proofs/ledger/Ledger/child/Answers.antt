-- By the rule's record.
use Rattle.std.proofs.Common.{◌≡◌, ℕ, Bool, false, length, get_or, Some, ◌∙◌, refl, ap, subst, arith}
use Rattle.std.specs.Prelude.{slice_get}
use Rattle.css_domain.specs.Ledgers.{Books, classes}
use Rattle.css_ledger.proofs.Places.{child_at, as_many_children}
use Rattle.css_ledger.proofs.ledger.Ledger.child.Goals as goal
use Rattle.lists.proofs.Places.{at_place}

pub bounds-as_slice-slot : goal.bounds-as_slice-slot
bounds-as_slice-slot g c =
    let laws = g.met.D.Domain g.world.𝓛 g.world.𝓜 g.world.𝓡 ((λ s x. x), (λ x. x), (λ x. x), λ x. x) in
    let r = at_place c.args.self.now.rules c.args.position c.requires.position in
    let at = ap (λ (b : Books g.row.D-Class.Denot g.row.D-Rule.Denot). slice_get b.rules c.args.position) c.self.view_is ∙ r.1 in
    let many = as_many_children g.D.Domain.meaning g.D.Class.PartialEq.eq g.met.D.Class.Eq.laws laws.same laws.exact _ _ _ _ _ c.self.invariant.0 refl c.args.position c.index.result.now r.0 at in
    let here : length c.as_slice.result.now ≡ length (g.D.Domain.meaning.children r.0) = ap length c.as_slice.ensures ∙ ap (λ d. length d.children) c.index.ensures ∙ many in
    omega (arith, here, c.requires.slot r.0 r.1)

pub returns : goal.returns
returns g c =
    let laws = g.met.D.Domain g.world.𝓛 g.world.𝓜 g.world.𝓡 ((λ s x. x), (λ x. x), (λ x. x), λ x. x) in
    λ r d at child.
    let here = ap (λ (b : Books g.row.D-Class.Denot g.row.D-Rule.Denot). slice_get b.rules c.args.position) c.self.view_is ∙ at in
    let k = child_at g.D.Domain.meaning g.D.Class.PartialEq.eq g.met.D.Class.Eq.laws laws.same laws.exact _ _ _ _ _ c.self.invariant.0 refl c.args.position c.args.slot c.index.result.now r d here child in
    subst (λ (b : Books g.row.D-Class.Denot g.row.D-Rule.Denot). slice_get (classes g.D.Domain.meaning b) (get_or {A = ℕ × Bool} c.as_slice.result.now c.args.slot (0, false)).0 ≡ Some d) c.self.view_is
    (rw (c.as_slice.ensures ∙ ap (λ e. e.children) c.index.ensures) k)
