use Rattle.std.proofs.Common.{◌≡◌, length, sym, ◌∙◌, map-id}
use Rattle.std.specs.Prelude.{slice_index_or}
use Rattle.std.proofs.lemmas.Iterator.Adapters.{YieldsList-from_vec}
use Rattle.std.proofs.lemmas.Iterator.Consumers.{YieldsList-turn, YieldsList-end}
use Rattle.tile_rules.proofs.Checked.{is_no, one_misses, every_one_leads}
use Rattle.tile_rules.proofs.check.lead_to.Goals as goal

pub returns-then-not-branch : goal.returns-then-not-branch
returns-then-not-branch c =
    let first = c.into_iter-tiling-iterator.ensures.into_iter_gives in
    let turn = YieldsList-turn (YieldsList-from_vec {s = c.into_iter-tiling-iterator.result} c.args.raw.items first.0 (first.1 ∙ c.args.raw.ok.0)) c.loop-tiling.yielded c.loop-tiling.tiling-iterator c.loop-tiling.yielded_by c.next.result c.next.new.self c.in-Some.tiling c.in-Some.is c.next.ensures.steps in
    let trace : c.index-traces-at.result ≡ slice_index_or c.args.traces.now (length c.loop-tiling.yielded) c.index-traces-at.result = rw (sym c.loop-tiling.invariant.counted) c.index-traces-at.is in
    let child : c.index-children-at.result ≡ slice_index_or c.args.children.now (length c.loop-tiling.yielded) c.index-children-at.result = rw (sym c.loop-tiling.invariant.counted) c.index-children-at.is in
    one_misses c.args.raw.items c.args.traces.now c.args.children.now c.requires.as_many_traces c.requires.as_many_children (length c.loop-tiling.yielded) turn.0
    c.in-Some.tiling c.index-traces-at.result c.index-children-at.result turn.1 trace child (λ h. is_no c.in_ok-leads_to.field-0 c.if-not-branch.true (c.in_ok-leads_to.ensures.1 (rw c.as_slice.ensures h)))

pub returns : goal.returns
returns c =
    let first = c.into_iter-tiling-iterator.ensures.into_iter_gives in
    let end = YieldsList-end (YieldsList-from_vec {s = c.into_iter-tiling-iterator.result} c.args.raw.items first.0 (first.1 ∙ c.args.raw.ok.0)) c.loop-tiling.yielded c.loop-tiling.tiling-iterator c.loop-tiling.yielded_by c.next.result c.next.new.self c.in-None.is c.next.ensures.steps in
    let all : c.loop-tiling.yielded ≡ c.args.raw.items = sym (map-id c.loop-tiling.yielded) ∙ end.0 in
    every_one_leads c.args.raw.items c.args.traces.now c.args.children.now c.requires.as_many_traces c.requires.as_many_children (rw all at c.loop-tiling.invariant.so_far)
