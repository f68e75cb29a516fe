use Rattle.std.proofs.Common.{sym}
use Rattle.line_readers.proofs.Letters.{long_word}
use Rattle.line_readers.proofs.words.Word.of.Goals as goal

pub returns-then-text-gt10 : goal.returns-then-text-gt10
returns-then-text-gt10 c = sym (long_word c.args.text.now c.if-text-gt10.true)
