use Rattle.insertion_law.proofs.Inserting.{insertions_carry_members}
use Rattle.insertion_law.proofs.insertions_carry_members.Goals as goal

pub returns : goal.returns
returns c = insertions_carry_members
