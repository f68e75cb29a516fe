use Rattle.std.proofs.Common.{◌≡◌, ◌∙◌, sym, ap, length, true}
use Rattle.std.specs.Prelude.{IsTrue, ◌↔◌, All}
use Rattle.std.proofs.lemmas.Result.{IfOk-weaker}
use Rattle.tiling_core.specs.Tiles.{IsTiling}
use Rattle.rule_kinds.specs.Replayed.{AreReplays}
use Rattle.rule_kinds.specs.Kinds.{IsKept}
use Rattle.rule_kinds.specs.Children.{raw_children}
use Rattle.rule_kinds.specs.Conditions.{applies}
use Rattle.rule_kinds.specs.Follows.{Follows}
use Rattle.tile_rules.proofs.Checked.{other_children, decided}
use Rattle.tile_rules.proofs.check.check_rule.Goals as goal

pub returns-then-children-len : goal.returns-then-children-len
returns-then-children-len c =
    let made : c.in-Ok.raw.items ≡ raw_children c.args.rule.now.parent c.args.rule.now.kind = rw (sym c.parent.ensures.value, sym c.kind.ensures.value) c.in-Ok.ensures.made in
    record { exact = other_children c.args.rule.now (λ e. c.if-children-len.true (ap (λ ts. length ts) c.children-children.ensures.value ∙ e ∙ sym (ap (λ ts. length ts) made) ∙ sym c.in-Ok.raw.ok.0 ∙ sym c.len-2.ensures)) }

pub returns : goal.returns
returns c =
    let made : c.in-Ok.raw.items ≡ raw_children c.args.rule.now.parent c.args.rule.now.kind = rw (sym c.parent.ensures.value, sym c.kind.ensures.value) c.in-Ok.ensures.made in
    let applicable : applies c.args.rule.now.parent c.args.rule.now.kind ≡ true = rw (sym c.parent.ensures.value, sym c.kind.ensures.value) c.in-Ok.ensures.applicable in
    let many : length c.args.rule.now.traces ≡ length c.in-Ok.raw.items = sym (ap (λ ts. length ts) c.traces-traces.ensures.value) ∙ c.if-traces-len.false ∙ c.len.ensures ∙ c.in-Ok.raw.ok.0 in
    let parent : IsTiling c.args.rule.now.parent = rw (sym c.parent-2.ensures.value) c.width.ensures.kept in
    let kind : IsKept c.args.rule.now.kind = rw (sym c.kind-2.ensures.value) c.read_kind.ensures in
    let tilings : All (λ t. IsTiling t) c.in-Ok.raw.items = rw (sym c.deref.ensures.value) c.read_tilings.ensures in
    record {
      exact = IfOk-weaker c.lead_to.result (λ b. IsTrue b ↔ AreReplays c.in-Ok.raw.items c.traces-traces.result.now c.children-children.result.now) (λ b. IsTrue b ↔ Follows c.args.rule.now)
          (λ b h. decided c.args.rule.now c.in-Ok.raw.items b made applicable many parent kind tilings (rw (sym c.traces-traces.ensures.value, sym c.children-children.ensures.value) h)) c.lead_to.ensures;
    }
