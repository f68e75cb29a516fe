use Rattle.std.proofs.Common.{◌≡◌, ◌+◌, rules, [], ◌∷◌, ◌++◌, length, map, take, refl, subst}
use Rattle.std.specs.Prelude.{Some}
use Rattle.std.proofs.lemmas.Option.{slice_get-get_or, slice_get_read}
use Rattle.spec_text.specs.Joining.{family_of}
use Rattle.spec_text.proofs.Joining.{one_more_child}
use Rattle.spec_text.proofs.families.family.Goals as goal

pub loop-number-preserved : goal.loop-number-preserved
loop-number-preserved c =
    let there = slice_get_read c.args.drafts.now (length c.args.drafts.now) _ c.index-drafts-number.result refl (search rules) c.index-drafts-number.is in
    let more = one_more_child c.args.drafts.now c.args.numbers.now c.loop-number.family.items c.loop-number.number-index _ c.index-drafts-number.result c.loop-number.invariant
    (slice_get-get_or c.args.numbers.now c.loop-number.number-index 0 c.loop-number-test.true) there in
    let pushed : c.loop-number.family.items ++ c.index-drafts-number.result.class ∷ [] ≡ c.push.new.self.items = search rules in
    subst (λ family. map Some family ≡ family_of c.args.drafts.now (take (c.loop-number.number-index + 1) c.args.numbers.now)) pushed more
