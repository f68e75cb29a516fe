use Rattle.std.proofs.Common.{sym, subst}
use Rattle.spec_reader.specs.Ends.{file_of}
use Rattle.spec_text.specs.Joined.{IsReadSpec}
use Rattle.spec_text.specs.Joining.{AreNumbers, IsJoining}
use Rattle.spec_text.proofs.FileRanges.{has_ranges}
use Rattle.spec_text.proofs.ReadSpecs.{read_as}
use Rattle.spec_text.proofs.file.join_text.Goals as goal

pub join-requires : goal.join-requires
join-requires c = subst (λ drafts. AreNumbers drafts) (sym c.into_vec.ensures) (has_ranges (file_of c.args.text) c.requires.1.spelled.ranges).numbers

pub returns : goal.returns
returns c =
    let text = c.args.text in
    let joining = subst (λ drafts. IsJoining drafts c.in-Ok.entries.items) c.into_vec.ensures c.in-Ok.ensures in
    λ bytes read.
    subst (λ entries. IsReadSpec bytes (record { basis = text.basis; root_trace = text.root_trace; entries = entries; terms = text.terms })) (sym c.of.ensures)
    (read_as bytes text.basis text.root_trace text.entries text.terms c.in-Ok.entries.items read joining)
