-- What is kept stands.
use Rattle.std.proofs.Common.{◌≡◌, Bool, true, false, List, subst}
use Rattle.std.specs.Prelude.{slice_index_or}
use Rattle.css_prune.proofs.spec_tests.extracted.Goals as goal

pub extract-requires-clause-kept : goal.extract-requires-clause-kept
extract-requires-clause-kept c = λ lives. subst (λ (keep : List Bool). slice_index_or keep c.args.root false ≡ true) c.as_slice-keep.ensures c.if-not-stands.false
