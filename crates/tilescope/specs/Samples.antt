-- What `count` and `sample` list.
use Rattle.std.specs.Prelude.{◌≡◌, ℕ, true, false, List, [], ◌∷◌, ◌++◌, ◌+◌, map, length, codes, decimal}
use Rattle.css_domain.specs.Ledgers.{counts}
use Rattle.css_domain.specs.Reasons.{Reason, Alone}
use Rattle.css_domain.specs.Reasons.Reason.{Found, Exhausted, Budget}
use Rattle.basis_terms.specs.BasisTerms.{terms_of}
use Rattle.rule_kinds.specs.Choices.{Packs}
use Rattle.tile_rules.specs.Complete.{rulebook_of}
use Rattle.tile_rules.specs.Meaning.{tile_meaning}
use Rattle.spec_lines.specs.Lines.{Text, line, separated}
use Rattle.spec_lines.specs.Patterns.{word_text}
use Rattle.spec_lines.specs.Terms.{term_text}
use Rattle.command_words.specs.declared.command.Command.{Command}
use Rattle.command_words.specs.declared.command.Command.TheVariants as command
use Rattle.command_words.specs.declared.request.Request.{Request}
use Rattle.listings.specs.Counts.{count_line}
use Rattle.listings.specs.Draws.{bases_of_number}
use Rattle.tilescope.specs.Searches.{TileBooks, TileEntries, IsExplored, IsSpecOf, none_line}

-- the letters of the searches
abbrev pub sample_letters : Packs
sample_letters = record { i = false; r = true; c = false; p = false; f = true; s = true; n = false }

-- what each search goes by: one worker, 30 classes to expand, and terms to length 6
abbrev pub sample_request : List (List ℕ) → Request
sample_request basis = record { command = command.Search; basis = basis; workers = 1; budget = 30; terms = 6; packs = sample_letters; number = 0 }

-- the words of a basis in letters, joined by commas
abbrev pub basis_text : List (List ℕ) → Text
basis_text basis = separated 44 (map word_text basis)

-- a search found this specification: its entries in number, and the terms to length 6
abbrev pub found_line : List (List ℕ) → TileEntries → Text
found_line basis entries = line (basis_text basis) (codes "found" ∷ decimal (length entries) ∷ map term_text (terms_of basis 6))

-- a search found none
abbrev pub lost_line : List (List ℕ) → Reason → TileBooks → Text
lost_line basis why ledger = basis_text basis ++ codes " " ++ none_line why (counts tile_meaning ledger)

-- the ledger is the one that one worker fills alone, from the class of the basis by these letters, with 30 classes to expand; it ended for this reason
pub record IsSampled (basis : List (List ℕ)) (ledger : TileBooks) (why : Reason) : Type 0 where
  pub explored : IsExplored basis 30 sample_letters ledger why
  pub alone : Alone tile_meaning ledger.root 30 (rulebook_of sample_letters) ledger

-- the line of a basis, by how its search ended, and 1 where that found a specification
pub data IsSearchLine (basis : List (List ℕ)) : ℕ → Text → Type 0 where
  found : (ledger : TileBooks) (entries : TileEntries) → IsSampled basis ledger Found → IsSpecOf ledger entries → IsSearchLine basis 1 (found_line basis entries)
  exhausted : (ledger : TileBooks) → IsSampled basis ledger Exhausted → IsSearchLine basis 0 (lost_line basis Exhausted ledger)
  budget : (ledger : TileBooks) → IsSampled basis ledger Budget → IsSearchLine basis 0 (lost_line basis Budget ledger)

-- the lines of some bases, and how many searches found a specification
pub data AreSearchLines : List (List (List ℕ)) → ℕ → Text → Type 0 where
  none : AreSearchLines [] 0 []
  one_more : (basis : List (List ℕ)) (bases : List (List (List ℕ))) (n others : ℕ) (this rest : Text) → IsSearchLine basis n this → AreSearchLines bases others rest → AreSearchLines (basis ∷ bases) (n + others) (this ++ rest)

-- the line after them
abbrev pub total_line : ℕ → Text
total_line n = line (codes "total") (decimal n ∷ decimal 40 ∷ [])

-- the text of a sample: a line for each of the forty bases of the number, and how many searches found a specification
pub record IsSampleText (number : ℕ) (text : Text) : Type 0 where
  pub successes : ℕ
  pub lines : Text
  pub searches : AreSearchLines (bases_of_number number) successes lines
  pub are : text ≡ lines ++ total_line successes

-- the text of a listing, by the command: the numbers of the avoiders of the basis, or the searches of a sample
abbrev pub IsListingBy : Command → Request → Text → Type 0
IsListingBy command.Count request text = text ≡ count_line request.basis request.terms
IsListingBy command.Sample request text = IsSampleText request.number text
IsListingBy command.Search request text = ⊥
IsListingBy command.Check request text = ⊥
IsListingBy command.Terms request text = ⊥

abbrev pub IsListing : Request → Text → Type 0
IsListing request text = IsListingBy request.command request text
