use Rattle.lists.proofs.Products.{length-choices}
use Rattle.lists.proofs.laws.choices_are_counted.Goals as goal

pub returns : goal.returns
returns c = λ collections n. length-choices collections n
