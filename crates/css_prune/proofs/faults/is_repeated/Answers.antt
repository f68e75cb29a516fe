use Rattle.std.proofs.Common.{◌≡◌, refl, sym, ap, ◌∙◌, arith}
use Rattle.css_domain.specs.Entries.{Entry}
use Rattle.css_prune.proofs.FirstFaults.{before_more, never, not_both}
use Rattle.css_prune.proofs.faults.is_repeated.Goals as goal
use Rattle.lists.proofs.Places.{some_at}

pub returns-then-is_same : goal.returns-then-is_same
returns-then-is_same g c = (
  λ t.
      record {
        j = c.loop-j.j;
        earlier = c.loop-j-test.true;
        by = c.index-entries-j.result;
        there = some_at c.args.entries.now c.loop-j.j c.index-entries-j.result (omega (arith, c.loop-j-test.true, c.requires)) c.index-entries-j.is;
        class = sym (ap (λ (e : Entry g.row.D-Class.Denot g.row.D-Rule.Denot). e.class) c.earlier.view_is) ∙ c.is_same.ensures.0 c.if-is_same.true;
      },
  λ r. refl,
)

pub loop-j-preserved : goal.loop-j-preserved
loop-j-preserved g c =
    before_more (λ k d. d.class ≡ c.args.class.now → ⊥) c.args.entries.now c.loop-j.j c.index-entries-j.result
    (some_at c.args.entries.now c.loop-j.j c.index-entries-j.result (omega (arith, c.loop-j-test.true, c.requires)) c.index-entries-j.is)
    (λ e. not_both c.is_same.result c.if-is_same.false (c.is_same.ensures.1 (ap (λ (d : Entry g.row.D-Class.Denot g.row.D-Rule.Denot). d.class) c.earlier.view_is ∙ e)))
    c.loop-j.invariant

pub returns : goal.returns
returns g c = (never, λ r. absurd (c.loop-j.invariant r.j r.by (omega (arith, r.earlier, c.loop-j-test.false)) r.there r.class))
