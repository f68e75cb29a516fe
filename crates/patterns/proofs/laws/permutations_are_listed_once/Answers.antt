use Rattle.patterns.proofs.NoRepeat.{NoRepeats-all_perms, perm_is_listed, listed_is_perm}
use Rattle.patterns.proofs.laws.permutations_are_listed_once.Goals as goal

pub returns : goal.returns
returns c = record { listed = λ n w. (listed_is_perm n w, perm_is_listed n w); once = NoRepeats-all_perms }
