use Rattle.std.proofs.Common.{◌∙◌, sym}
use Rattle.gridded.proofs.Keys.{first-cmp, second-cmp, third-cmp, last-cmp, by_words, stopped, went_on}
use Rattle.gridded.proofs.key.compare.Goals as goal

pub returns-in_default : goal.returns-in_default
returns-in_default c =
    let one = c.cmp.ensures ∙ first-cmp c.args.g.now c.args.h.now _ _ c.first_word.ensures.word c.first_word-2.ensures.word in
    one ∙ sym (stopped _ _ (λ e. c.in_default.not-Equal (one ∙ e))) ∙ by_words c.args.g.now c.args.h.now c.first_word.ensures.short c.first_word-2.ensures.short

pub returns-in_default-cmp : goal.returns-in_default-cmp
returns-in_default-cmp c =
    let one = c.cmp.ensures ∙ first-cmp c.args.g.now c.args.h.now _ _ c.first_word.ensures.word c.first_word-2.ensures.word in
    let two = c.cmp-in-Equal.ensures ∙ second-cmp c.args.g.now c.args.h.now _ _ c.second_word.ensures c.second_word-in-Equal.ensures in
    two ∙ sym (stopped _ _ (λ e. c.in_default-cmp.not-Equal (two ∙ e))) ∙ sym (went_on _ _ (sym one ∙ c.in-Equal.is)) ∙ by_words c.args.g.now c.args.h.now c.first_word.ensures.short c.first_word-2.ensures.short

pub returns-in_default-cmp-2 : goal.returns-in_default-cmp-2
returns-in_default-cmp-2 c =
    let one = c.cmp.ensures ∙ first-cmp c.args.g.now c.args.h.now _ _ c.first_word.ensures.word c.first_word-2.ensures.word in
    let two = c.cmp-in-Equal.ensures ∙ second-cmp c.args.g.now c.args.h.now _ _ c.second_word.ensures c.second_word-in-Equal.ensures in
    let three = c.cmp-in-Equal-cmp.ensures ∙ third-cmp c.args.g.now c.args.h.now _ _ c.third_word.ensures c.third_word-in-Equal-cmp.ensures in
    three ∙ sym (stopped _ _ (λ e. c.in_default-cmp-2.not-Equal (three ∙ e))) ∙ sym (went_on _ _ (sym two ∙ c.in-Equal-cmp.is)) ∙ sym (went_on _ _ (sym one ∙ c.in-Equal.is))
    ∙ by_words c.args.g.now c.args.h.now c.first_word.ensures.short c.first_word-2.ensures.short

pub returns-in-Equal-cmp-2 : goal.returns-in-Equal-cmp-2
returns-in-Equal-cmp-2 c =
    let one = c.cmp.ensures ∙ first-cmp c.args.g.now c.args.h.now _ _ c.first_word.ensures.word c.first_word-2.ensures.word in
    let two = c.cmp-in-Equal.ensures ∙ second-cmp c.args.g.now c.args.h.now _ _ c.second_word.ensures c.second_word-in-Equal.ensures in
    let three = c.cmp-in-Equal-cmp.ensures ∙ third-cmp c.args.g.now c.args.h.now _ _ c.third_word.ensures c.third_word-in-Equal-cmp.ensures in
    let four = c.cmp-in-Equal-cmp-2.ensures ∙ last-cmp c.args.g.now c.args.h.now _ _ c.last_word.ensures c.last_word-in-Equal-cmp-2.ensures in
    four ∙ sym (went_on _ _ (sym three ∙ c.in-Equal-cmp-2.is)) ∙ sym (went_on _ _ (sym two ∙ c.in-Equal-cmp.is)) ∙ sym (went_on _ _ (sym one ∙ c.in-Equal.is))
    ∙ by_words c.args.g.now c.args.h.now c.first_word.ensures.short c.first_word-2.ensures.short
