use Rattle.std.proofs.Common.{rules, map, sym, ap, ◌∙◌, map-id}
use Rattle.std.specs.Iterator.Adapters.{zip_first, zip_second}
use Rattle.std.proofs.lemmas.Iterator.{YieldsList-from_zip}
use Rattle.std.proofs.lemmas.Iterator.Adapters.{YieldsList-from_vec}
use Rattle.std.proofs.lemmas.Iterator.Consumers.{YieldsList-end}
use Rattle.spec_text.proofs.Joining.{pair_entry}
use Rattle.spec_text.proofs.families.joined_all.Goals as goal

pub returns : goal.returns
returns c =
    let all = YieldsList-from_zip {s = c.into_iter-draft-iterator.result} (YieldsList-from_vec {s = zip_first c.into_iter-draft-iterator.result} c.args.drafts.items (search rules) (search rules)) (YieldsList-from_vec {s = zip_second c.into_iter-draft-iterator.result} c.args.families.items (search rules) (search rules)) in
    let end = YieldsList-end all c.loop-draft.yielded c.loop-draft.draft-iterator c.loop-draft.yielded_by c.next.result c.next.new.self c.in-None.is c.next.ensures.steps in
    c.loop-draft.invariant ∙ ap (map pair_entry) (sym (map-id c.loop-draft.yielded) ∙ end.0)
