use Rattle.spec_text.proofs.Joined.{joined_are_told, joined_as_many, joined_child}
use Rattle.spec_text.proofs.ReadSpecs.{read_specs_are_told}
use Rattle.spec_text.proofs.law.joined_entries_are_told.Goals as goal

pub returns : goal.returns
returns c = record { told = joined_are_told; named = λ entries e joined. (joined_as_many entries e joined, joined_child entries e joined); files = read_specs_are_told }
