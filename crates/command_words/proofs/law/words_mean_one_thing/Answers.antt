use Rattle.command_words.proofs.Soundness.{one_thing}
use Rattle.command_words.proofs.law.words_mean_one_thing.Goals as goal

pub returns : goal.returns
returns c = one_thing
