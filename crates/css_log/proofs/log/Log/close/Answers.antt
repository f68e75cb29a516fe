use Rattle.std.proofs.Common.{rules, ◌≡◌, ◌<◌, ◌∙◌, arith, length, vec_len, vec_capacity}
use Rattle.css_log.specs.Told.{taken_back}
use Rattle.css_log.proofs.SplitsAndJoins.{returns_as}
use Rattle.css_log.proofs.Ends.{ends_as}
use Rattle.css_log.proofs.Lists.{copied_out}
use Rattle.css_log.proofs.log.Log.close.Goals as goal

pub join_seat-requires : goal.join_seat-requires
join_seat-requires c = (search rules, search rules, search rules, search rules, returns_as _ _ _ _ _ _ (λ i. (c.into_seat-seat.ensures.1 i).0) (λ i. (c.into_seat.ensures.1 i).0))

pub returns-clause-ok : goal.returns-clause-ok
returns-clause-ok c =
    let e = ends_as _ _ _ _ _ _ _ _ _ _ _ _ ((λ i. (c.join_seat.ensures.2 i).0) ∙ (λ i. taken_back (c.into_seat-seat.ensures.1 i).0 (c.into_seat.ensures.1 i).0)) c.close_with.ensures.values.2 in
    let room : vec_capacity c.in-Ok.words ≡ length c.args.writer.list = search rules in
    let len : length c.taken.result.items ≡ vec_len c.taken.result = search rules in
    let count : vec_len c.taken.result ≡ vec_capacity c.in-Ok.words = c.taken.ensures.count in
    copied_out _ _ _ (len ∙ count ∙ room) (λ i l. let inside : i < vec_capacity c.in-Ok.words = omega arith in c.taken.ensures.each i inside) e.0

pub returns-clause-copied : goal.returns-clause-copied
returns-clause-copied c =
    (ends_as _ _ _ _ _ _ _ _ _ _ _ _ ((λ i. (c.join_seat.ensures.2 i).0) ∙ (λ i. taken_back (c.into_seat-seat.ensures.1 i).0 (c.into_seat.ensures.1 i).0)) c.close_with.ensures.values.2).1

pub returns-clause-shown : goal.returns-clause-shown
returns-clause-shown c =
    (ends_as _ _ _ _ _ _ _ _ _ _ _ _ ((λ i. (c.join_seat.ensures.2 i).0) ∙ (λ i. taken_back (c.into_seat-seat.ensures.1 i).0 (c.into_seat.ensures.1 i).0)) c.close_with.ensures.values.2).2

pub returns-clause-asked : goal.returns-clause-asked
returns-clause-asked c =
    (ends_as _ _ _ _ _ _ _ _ _ _ _ _ ((λ i. (c.join_seat.ensures.2 i).0) ∙ (λ i. taken_back (c.into_seat-seat.ensures.1 i).0 (c.into_seat.ensures.1 i).0)) c.close_with.ensures.values.2).3
