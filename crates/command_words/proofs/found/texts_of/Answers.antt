use Rattle.command_words.specs.Apps.{texts_by}
use Rattle.command_words.proofs.found.texts_of.Goals as goal

pub returns : goal.returns
unfolding texts_by
returns c = λ i. record {
  basis = c.get_str.ensures i;
  number = c.get_str-2.ensures i;
  workers = c.get_str-3.ensures i;
  budget = c.get_str-4.ensures i;
  terms = c.get_str-5.ensures i;
  pack = c.get_str-6.ensures i;
}
