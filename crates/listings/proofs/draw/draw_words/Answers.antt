use Rattle.std.proofs.Common.{◌∙◌}
use Rattle.listings.proofs.Drawing.{word_more, number_more, words_end, number_ends}
use Rattle.listings.proofs.draw.draw_words.Goals as goal

pub loop-left-preserved : goal.loop-left-preserved
loop-left-preserved c = record {
  words = word_more c.loop-left.left c.loop-left.x c.next_number-x.result c.loop-left-test.true c.next_number-x.ensures.value c.loop-left.words.items _ _ c.in-Ok.word c.in_ok-push.ensures.items (c.in-Ok.ensures.ok ∙ c.as_slice.ensures ∙ c.letters_of.ensures) c.loop-left.invariant.words;
  number = number_more c.loop-left.left c.loop-left.x c.next_number-x.result c.loop-left-test.true c.next_number-x.ensures.value _ c.loop-left.invariant.number;
  small = c.next_number-x.ensures.small;
}

pub returns-clause-words : goal.returns-clause-words
returns-clause-words c = words_end c.loop-left.left c.loop-left.x c.loop-left-test.false c.loop-left.words.items _ c.loop-left.invariant.words

pub returns-clause-number : goal.returns-clause-number
returns-clause-number c = number_ends c.loop-left.left c.loop-left.x c.loop-left-test.false _ c.loop-left.invariant.number
