use Rattle.std.proofs.Common.{length, ap, arith}
use Rattle.tiling_core.specs.Tiles.{Tiles}
use Rattle.css_domain.specs.Entries.{Entry}
use Rattle.css_prune.specs.Faults.{IsRankRight}
use Rattle.css_prune.proofs.FirstFaults.{not_both}
use Rattle.lists.proofs.Numbers.{up_to_next}
use Rattle.rule_kinds.specs.Rules.{TilingRule}
use Rattle.tile_rules.specs.Meaning.{tile_meaning}
use Rattle.spec_checker.proofs.ranks.first_wrong_slot.Goals as goal

pub returns-then-not-is_rank_right-clause-some : goal.returns-then-not-is_rank_right-clause-some
returns-then-not-is_rank_right-clause-some c =
    let many = ap (λ (e : Entry Tiles TilingRule). length e.children) c.entry.view_is in
    record {
      within = omega (arith, c.loop-slot-test.true, c.len-slot-end.ensures, many);
      wrong = λ r. not_both c.is_rank_right.result c.if-not-is_rank_right.true (c.is_rank_right.ensures.1 r);
      before = c.loop-slot.invariant;
    }

pub loop-slot-preserved : goal.loop-slot-preserved
loop-slot-preserved c = up_to_next (IsRankRight tile_meaning c.args.entries.now c.args.entry.now) c.loop-slot.slot c.loop-slot.invariant (c.is_rank_right.ensures.0 c.if-not-is_rank_right.false)

pub returns-clause-none : goal.returns-clause-none
returns-clause-none c =
    let many = ap (λ (e : Entry Tiles TilingRule). length e.children) c.entry.view_is in
    λ s h. c.loop-slot.invariant s (omega (arith, h, c.loop-slot-test.false, c.len-slot-end.ensures, many))
