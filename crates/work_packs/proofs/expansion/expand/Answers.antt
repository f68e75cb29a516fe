use Rattle.work_packs.proofs.Tried.{all_tried}
use Rattle.work_packs.proofs.RuleSteps.{filing_complete, filing_small}
use Rattle.work_packs.proofs.Rulebooks.{complete_for}
use Rattle.work_packs.proofs.expansion.expand.Goals as goal

pub rules_by-requires : goal.rules_by-requires
rules_by-requires c = all_tried c.args.tiling.now c.args.packs c.in_ok-kinds.kinds.items c.width.ensures.kept c.in_ok-kinds.ensures

pub returns-clause-complete : goal.returns-clause-complete
returns-clause-complete c = rw c.of.ensures (filing_complete c.args.tiling.now c.args.packs c.in_ok-kinds.kinds.items c.in_ok-rules_by.field-0.items c.in_ok-kinds.ensures c.in_ok-rules_by.ensures)

pub returns-clause-for_rulebook : goal.returns-clause-for_rulebook
returns-clause-for_rulebook c = complete_for c.args.tiling.now c.of.result c.args.packs (rw c.of.ensures (filing_complete c.args.tiling.now c.args.packs c.in_ok-kinds.kinds.items c.in_ok-rules_by.field-0.items c.in_ok-kinds.ensures c.in_ok-rules_by.ensures))

pub returns-clause-words : goal.returns-clause-words
returns-clause-words c = rw c.of.ensures (filing_small c.args.tiling.now c.args.packs c.in_ok-kinds.kinds.items c.in_ok-rules_by.field-0.items c.width.ensures.kept c.in_ok-kinds.ensures c.in_ok-rules_by.ensures)
