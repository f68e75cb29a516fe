use Rattle.std.proofs.Common.{List, ℕ, refl, sym, ap, subst, ◌∙◌, arith}
use Rattle.css_domain.specs.Entries.{Entry}
use Rattle.css_prune.proofs.FirstFaults.{before_more, never, not_both, from_any, any_from}
use Rattle.css_prune.proofs.faults.is_called.Goals as goal
use Rattle.lists.proofs.Places.{some_at}
use Rattle.lists.specs.Members.{IsIn}

pub returns-then-contains : goal.returns-then-contains
returns-then-contains g c = (
  λ t.
      record {
        j = c.loop-j.j;
        earlier = c.loop-j-test.true;
        by = c.index-entries-j.result;
        there = some_at c.args.entries.now c.loop-j.j c.index-entries-j.result (omega (arith, c.loop-j-test.true, c.requires)) c.index-entries-j.is;
        names = subst (λ (xs : List ℕ). IsIn c.args.place xs) (c.as_slice.ensures ∙ ap (λ (e : Entry g.row.D-Class.Denot g.row.D-Rule.Denot). e.children) c.earlier.view_is) (from_any c.args.place c.as_slice.result.now (sym c.contains.ensures.value ∙ c.if-contains.true));
      },
  λ r. refl,
)

pub loop-j-preserved : goal.loop-j-preserved
loop-j-preserved g c =
    before_more (λ k d. IsIn c.args.place d.children → ⊥) c.args.entries.now c.loop-j.j c.index-entries-j.result
    (some_at c.args.entries.now c.loop-j.j c.index-entries-j.result (omega (arith, c.loop-j-test.true, c.requires)) c.index-entries-j.is)
    (λ i.
    let there = subst (λ (xs : List ℕ). IsIn c.args.place xs) (sym (c.as_slice.ensures ∙ ap (λ (e : Entry g.row.D-Class.Denot g.row.D-Rule.Denot). e.children) c.earlier.view_is)) i in
    not_both c.contains.result c.if-contains.false (c.contains.ensures.value ∙ any_from c.args.place c.as_slice.result.now there))
    c.loop-j.invariant

pub returns : goal.returns
returns g c = (never, λ r. absurd (c.loop-j.invariant r.j r.by (omega (arith, r.earlier, c.loop-j-test.false)) r.there r.names))
