use Rattle.gridded.proofs.GriddedLists.{IsIn-gridded_of, from_IsIn-gridded_of, NoRepeats-gridded_of}
use Rattle.gridded.proofs.laws.gridded_permutations_are_listed_once.Goals as goal

pub returns : goal.returns
returns c = record { listed = λ w h n g. (from_IsIn-gridded_of w h n g, IsIn-gridded_of w h n g); once = NoRepeats-gridded_of }
