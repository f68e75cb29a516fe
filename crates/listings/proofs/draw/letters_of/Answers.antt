use Rattle.listings.proofs.Drawing.{word_at_rest}
use Rattle.listings.proofs.draw.letters_of.Goals as goal

pub returns : goal.returns
returns c = word_at_rest c.args.x _
