-- The lines of the searches of a sample, from what is said of each search.
use Rattle.std.proofs.Common.{◌≡◌, ◌<◌, ℕ, List, ◌∷◌, refl, sym, ap, ◌∙◌, subst, arith}
use Rattle.std.specs.Prelude.{◌≢◌, Option, None, IsNone, map, length, codes, decimal}
use Rattle.patterns.specs.Occurs.{avoiders}
use Rattle.css_domain.specs.Entries.{Picked, class_counts}
use Rattle.css_domain.specs.FiledSpecs.{IsFiledSpec, FiledSpecsStand}
use Rattle.css_domain.specs.Reasons.{Reason, RootStands}
use Rattle.css_domain.specs.Reasons.Reason.{Found, Exhausted, Budget}
use Rattle.css_terms.specs.Terms.{terms_to}
use Rattle.css_terms.specs.declared.term.Term.{Term}
use Rattle.basis_terms.specs.BasisTerms.{terms_of}
use Rattle.tile_rules.specs.Complete.{rulebook_of}
use Rattle.tile_rules.specs.Meaning.{tile_meaning}
use Rattle.pack_law.specs.Tried.{ClassesAreNormal, NoSpec, FiledAreTried}
use Rattle.spec_lines.specs.Lines.{Text, line}
use Rattle.spec_lines.specs.Terms.{term_text}
use Rattle.tilescope.specs.Answers.{IsSolvedFor, IsMade, IsListingAnswer}
use Rattle.tilescope.specs.Answers.IsMade.{whole as made_whole, long as made_long}
use Rattle.tilescope.specs.Answers.IsListingAnswer.{listed, long as long_listing}
use Rattle.command_words.specs.declared.command.Command.{Command}
use Rattle.command_words.specs.declared.command.Command.TheVariants as command
use Rattle.command_words.specs.declared.request.Request.{Request}
use Rattle.listings.specs.Counts.{count_line}
use Rattle.tilescope.specs.Searches.{TileBooks, TileEntries, IsSpecOf}
use Rattle.tilescope.specs.Samples.{sample_letters, sample_request, basis_text, found_line, lost_line, IsSampled, IsSearchLine, IsListing, IsListingBy, IsSampleText}
use Rattle.tilescope.specs.Samples.IsSearchLine.{found, exhausted, budget}
use Rattle.tilescope.proofs.Solving.{same_terms, root_counts, not_found, stands, explored, found_as}

some_letters : 0 < rulebook_of sample_letters
some_letters = omega arith

lost_by : (basis : List (List ℕ)) (l : TileBooks) (why : Reason) → why ≢ Found → IsSampled basis l why → (text : Text) → text ≡ lost_line basis why l → IsSearchLine basis 0 text
lost_by basis l Found ne is text e = absurd (ne refl)
lost_by basis l Exhausted ne is text e = subst (λ (t : Text). IsSearchLine basis 0 t) (sym e) (exhausted l is)
lost_by basis l Budget ne is text e = subst (λ (t : Text). IsSearchLine basis 0 t) (sym e) (budget l is)

module _ (stand : FiledSpecsStand tile_meaning) (classes_normal : ClassesAreNormal) (no_spec : NoSpec) (are_tried : FiledAreTried) (basis : List (List ℕ)) (l : TileBooks) (why : Reason) (spec : Option TileEntries) (solved : IsSolvedFor (sample_request basis) l why spec) where
  sampled : IsSampled basis l why
  sampled = record { explored = explored stand classes_normal no_spec are_tried (sample_request basis) some_letters l why spec solved; alone = solved.alone refl }

  pub search_lost : (text : Text) → (RootStands tile_meaning l → ⊥) → text ≡ lost_line basis why l → IsSearchLine basis 0 text
  search_lost text unsettled e = lost_by basis l why (not_found l why solved.ends unsettled) sampled text e

  pub search_found : (entries : TileEntries) (terms : List Term) (text : Text) → Picked tile_meaning l 0 entries → IsFiledSpec tile_meaning l entries → terms ≡ terms_to 6 (class_counts tile_meaning entries 0) → text ≡ line (basis_text basis) (codes "found" ∷ decimal (length entries) ∷ map term_text terms) → IsSearchLine basis 1 text
  search_found entries terms text picked filed computed e =
      let of_basis : terms ≡ terms_of basis 6 = computed ∙ same_terms 6 (class_counts tile_meaning entries 0) (avoiders basis) (root_counts basis l entries solved.root filed.valid) in
      let own : IsSpecOf l entries = record { picked = picked; valid = filed.valid; filed = filed.filed } in
      let whole : text ≡ found_line basis entries = e ∙ ap (λ (ts : List Term). line (basis_text basis) (codes "found" ∷ decimal (length entries) ∷ map term_text ts)) of_basis in
      let here : IsSampled basis l Found = record { explored = found_as stand classes_normal no_spec are_tried (sample_request basis) some_letters l why spec solved why (stands l entries picked) sampled.explored; alone = sampled.alone } in
      subst (λ (t : Text). IsSearchLine basis 1 t) (sym whole) (found l entries here own)

-- ---- a listing that is made
made_listing : (request : Request) (line : Text) → IsListing request line → (s : ℕ) (t : Option Text) (b given : Option TileBooks) → IsMade 0 line given s t b → IsListingAnswer request s t
made_listing request line is _ _ _ given (made_whole short) = listed line is short
made_listing request line is _ _ _ given (made_long over) = long_listing line is over

pub made_count : (request : Request) (line : Text) → request.command ≡ command.Count → line ≡ count_line request.basis request.terms → (s : ℕ) (t : Option Text) (b given : Option TileBooks) → IsMade 0 line given s t b → IsListingAnswer request s t
made_count request line e is s t b given made = made_listing request line (subst (λ (c : Command). IsListingBy c request line) (sym e) is) s t b given made

pub made_sample : (request : Request) (line : Text) → request.command ≡ command.Sample → IsSampleText request.number line → (s : ℕ) (t : Option Text) (b given : Option TileBooks) → IsMade 0 line given s t b → IsListingAnswer request s t
made_sample request line e is s t b given made = made_listing request line (subst (λ (c : Command). IsListingBy c request line) (sym e) is) s t b given made

-- it comes without a ledger
pub made_alone : (status : ℕ) (line : Text) (s : ℕ) (t : Option Text) (b : Option TileBooks) → IsMade status line None s t b → IsNone b
made_alone status line _ _ _ (made_whole short) = refl
made_alone status line _ _ _ (made_long over) = refl
