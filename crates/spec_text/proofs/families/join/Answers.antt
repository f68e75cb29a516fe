use Rattle.std.proofs.Common.{rules, ◌≡◌, map}
use Rattle.std.specs.List.{zip}
use Rattle.std.proofs.lemmas.Result.{IfOk-weaker}
use Rattle.spec_text.specs.Joining.{IsJoining}
use Rattle.spec_text.proofs.Joining.{built_are_joined, pair_entry}
use Rattle.spec_text.proofs.families.join.Goals as goal

pub returns : goal.returns
returns c =
    let drafts = c.args.drafts.items in
    let families = c.in_ok-families.families.items in
    IfOk-weaker c.joined_all.result (λ entries. entries.items ≡ map pair_entry (zip drafts families)) (λ entries. IsJoining drafts entries.items) (λ entries e. built_are_joined drafts families (search rules) entries.items e) c.joined_all.ensures
