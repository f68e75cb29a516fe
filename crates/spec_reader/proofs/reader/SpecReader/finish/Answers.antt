use Rattle.std.proofs.Common.{◌≡◌, ◌∙◌, true, rules, sym, subst}
use Rattle.std.specs.Prelude.{None, not, All}
use Rattle.std.proofs.lemmas.Bool.{and_from}
use Rattle.spec_lines.specs.Forms.{has_items}
use Rattle.spec_lines.specs.Faults.{is_done}
use Rattle.spec_reader.specs.Drafts.{Built, IsMakeable}
use Rattle.spec_reader.specs.Ends.{ends, IsFileRead}
use Rattle.spec_reader.specs.States.{state_of}
use Rattle.spec_reader.specs.Positions.{place_of}
use Rattle.spec_reader.proofs.Finished.{finished, file_built, makeable}
use Rattle.spec_reader.proofs.reader.SpecReader.finish.Goals as goal

pub all_made-requires : goal.all_made-requires
all_made-requires c =
    let none : c.self.inside.reading.limit ≡ None = search rules in
    subst (λ (b : Built). All (λ e. IsMakeable e) b.entries) (sym c.draft.view_is) (makeable c.self.inside.reading c.self.invariant none)

pub returns : goal.returns
returns c =
    let r = c.self.inside.reading in
    let d = c.draft.inside in
    let done : is_done (place_of r.position) ≡ true = search rules in
    let none : r.limit ≡ None = search rules in
    let nothing : not (has_items c.args.rest.now) ≡ true = search rules in
    let read : IsFileRead (state_of r) (file_built r.draft) = finished r c.self.invariant done none in (
      subst (λ s. ends s c.args.rest.now ≡ true) c.self.view_is (and_from (is_done (place_of r.position)) (not (has_items c.args.rest.now)) done nothing),
      subst (λ s. IsFileRead s (record { basis = d.basis; root_trace = d.root_trace; entries = c.of.result; terms = d.terms })) c.self.view_is
          (subst (λ es. IsFileRead (state_of r) (record { basis = d.basis; root_trace = d.root_trace; entries = es; terms = d.terms })) (sym (c.of.ensures ∙ c.in-Ok.ensures))
          (subst (λ b. IsFileRead (state_of r) (file_built b)) (sym c.draft.view_is) read)),
    )
