use Rattle.std.proofs.Common.{◌≡◌, ◌≤◌, ◌+◌, rules, refl, ap, ◌∙◌, arith}
use Rattle.outside.proofs.Taken.{took_no_more, took_more, took_most_more}
use Rattle.tilescope.proofs.Streaming.{fed_more}
use Rattle.tilescope.proofs.stream.feed_all.Goals as goal

pub returns-in_default-clause-refused : goal.returns-in_default-clause-refused
returns-in_default-clause-refused g c =
    let fed = c.loop-count.invariant.fed in
    let few = c.loop-count.invariant.within in
    (search rules, took_no_more _ _ _ fed.bytes _ fed.took c.in_default.ensures.content (omega (arith, fed.counted, few)))

pub returns-then-count-room-clause-refused : goal.returns-then-count-room-clause-refused
returns-then-count-room-clause-refused g c =
    let fed = c.loop-count.invariant.fed in
    let many : c.loop-count.many + c.in-Ok.count ≡ c.args.limit + 1 = search rules in
    (refl, took_more _ _ _ fed.bytes c.read.new.into c.in-Ok.count _ fed.took c.in-Ok.ensures.content c.in-Ok.ensures.bound (ap (λ n. n + c.in-Ok.count) fed.counted ∙ many))

pub returns-in_default-feed-clause-refused : goal.returns-in_default-feed-clause-refused
returns-in_default-feed-clause-refused g c =
    let fed = c.loop-count.invariant.fed in
    let few : c.loop-count.many + c.in-Ok.count ≤ c.args.limit = search rules in
    took_most_more _ _ _ fed.bytes c.read.new.into c.in-Ok.count _ fed.took c.in-Ok.ensures.content c.in-Ok.ensures.bound (omega (arith, fed.counted, few))

pub loop-count-preserved : goal.loop-count-preserved
loop-count-preserved g c = record {
  within = search rules;
  counted = search rules;
  fed = fed_more _ c.in-Ok.count _ _ _ c.read.new.into _ _ _ _ c.loop-count.invariant.fed c.in-Ok.ensures.content c.in-Ok.ensures.bound c.in-Ok-feed.ensures.read;
  later = search rules;
  calls = search rules;
}
