use Rattle.perm_core.proofs.Repeats.{listed_perm, perm_listed}
use Rattle.perm_core.proofs.law.perms_are_those_listed.Goals as goal

pub returns : goal.returns
returns c = λ w. (listed_perm w, perm_listed w)
