use Rattle.basis_terms.proofs.ExactTerms.{exact_terms_are_avoiders}
use Rattle.basis_terms.proofs.laws.exact_terms_are_avoiders.Goals as goal

pub returns : goal.returns
returns c = exact_terms_are_avoiders
