use Rattle.std.proofs.Common.{ap, inl, inr}
use Rattle.command_words.specs.Requests.{takes_basis}
use Rattle.tilescope.specs.Words.IsRefusedFor.{by_words}
use Rattle.tilescope.proofs.Answering.{if_ok-weaker, if_ok-both, sound_as, basis_by, basis_of_text, letter_by, refused_as, searched_as, told_as, listed_as}
use Rattle.tilescope.proofs.crew_answer.answer_by_crew.Goals as goal

pub returns-in-Err-clause-answer : goal.returns-in-Err-clause-answer
returns-in-Err-clause-answer g c = if_ok-weaker _ _ (λ a h. refused_as _ _ _ _ _ c.in-Err.fault (by_words c.in-Err.fault c.in-Err.ensures.refused) a.status a.text a.ledger h) c.refuse.result c.refuse.ensures

pub search_by_crew-requires-clause-basis : goal.search_by_crew-requires-clause-basis
search_by_crew-requires-clause-basis g c = λ κs lives. basis_by c.words_mean_one_thing.ensures _ c.in-Ok.request c.in-Ok.ensures.ok (ap takes_basis c.in-Search.is)

pub search_by_crew-requires-clause-short : goal.search_by_crew-requires-clause-short
search_by_crew-requires-clause-short g c = λ κs lives. (sound_as c.words_mean_one_thing.ensures _ c.in-Ok.request c.in-Ok.ensures.ok).terms

pub search_by_crew-requires-clause-some : goal.search_by_crew-requires-clause-some
search_by_crew-requires-clause-some g c = λ κs lives. (sound_as c.words_mean_one_thing.ensures _ c.in-Ok.request c.in-Ok.ensures.ok).budget.0

pub search_by_crew-requires-clause-few : goal.search_by_crew-requires-clause-few
search_by_crew-requires-clause-few g c = λ κs lives. (sound_as c.words_mean_one_thing.ensures _ c.in-Ok.request c.in-Ok.ensures.ok).budget.1

pub search_by_crew-requires-clause-letter : goal.search_by_crew-requires-clause-letter
search_by_crew-requires-clause-letter g c = λ κs lives. letter_by c.words_mean_one_thing.ensures _ c.in-Ok.request c.in-Ok.ensures.ok

pub ask-requires : goal.ask-requires
ask-requires g c = record { basis = basis_of_text c.words_mean_one_thing.ensures _ c.in-Ok.request c.in-Ok.ensures.ok c.in-Check.is }

pub returns-in-Check-clause-answer : goal.returns-in-Check-clause-answer
returns-in-Check-clause-answer g c =
    if_ok-both _ _ _ (λ a h alone. told_as _ _ _ _ _ c.in-Ok.request (record { reads = c.in-Ok.ensures.ok; command = c.in-Check.is }) a.status a.text a.ledger h alone) c.ask.result c.ask.ensures.answer c.ask.ensures.no_ledger

pub count-requires-clause-short : goal.count-requires-clause-short
count-requires-clause-short g c = (sound_as c.words_mean_one_thing.ensures _ c.in-Ok.request c.in-Ok.ensures.ok).counted c.in-Count.is

pub sample-requires-clause-small : goal.sample-requires-clause-small
sample-requires-clause-small g c = (sound_as c.words_mean_one_thing.ensures _ c.in-Ok.request c.in-Ok.ensures.ok).number

pub returns-in-Count-clause-answer : goal.returns-in-Count-clause-answer
returns-in-Count-clause-answer g c =
    if_ok-both _ _ _ (λ a h alone. listed_as _ _ _ _ _ c.in-Ok.request (record { reads = c.in-Ok.ensures.ok; command = inl c.in-Count.is }) a.status a.text a.ledger h alone) c.count.result c.count.ensures.answer c.count.ensures.no_ledger

pub returns-clause-answer : goal.returns-clause-answer
returns-clause-answer g c =
    if_ok-both _ _ _ (λ a h alone. listed_as _ _ _ _ _ c.in-Ok.request (record { reads = c.in-Ok.ensures.ok; command = inr c.in-Sample.is }) a.status a.text a.ledger h alone) c.sample.result c.sample.ensures.answer c.sample.ensures.no_ledger

pub returns-in-Search-clause-answer : goal.returns-in-Search-clause-answer
returns-in-Search-clause-answer g c =
    if_ok-weaker _ _ (λ a h. searched_as _ _ _ _ _ c.in-Ok.request (record { reads = c.in-Ok.ensures.ok; command = c.in-Search.is; few = (sound_as c.words_mean_one_thing.ensures _ c.in-Ok.request c.in-Ok.ensures.ok).workers.1 }) a.status a.text a.ledger h) c.search_by_crew.result c.search_by_crew.ensures

pub search_by_crew-requires-clause-worker : goal.search_by_crew-requires-clause-worker
search_by_crew-requires-clause-worker g c = λ κs lives. (sound_as c.words_mean_one_thing.ensures _ c.in-Ok.request c.in-Ok.ensures.ok).workers.0

pub search_by_crew-requires-clause-few_workers : goal.search_by_crew-requires-clause-few_workers
search_by_crew-requires-clause-few_workers g c = λ κs lives. (sound_as c.words_mean_one_thing.ensures _ c.in-Ok.request c.in-Ok.ensures.ok).workers.1
