-- What the words of a command ask for: a search, whether a text is accepted, or a listing.
use Rattle.std.specs.Prelude.{◌≡◌, ◌≤◌, ◌<◌, ◌⊎◌, ℕ, List}
use Rattle.command_words.specs.declared.command.Command.TheVariants as command
use Rattle.command_words.specs.declared.request.OptName.TheVariants.{Workers}
use Rattle.command_words.specs.declared.request.Request.{Request}
use Rattle.command_words.specs.declared.request.WordFault.{WordFault}
use Rattle.command_words.specs.declared.request.WordFault.TheVariants.{Opt}
use Rattle.command_words.specs.Requests.{Reads, IsRefused}

abbrev pub Text : Type 0
Text = List ℕ

-- the words ask for this search, by at most so many workers
pub record ReadsSearch (most : ℕ) (words : List Text) (request : Request) : Type 0 where
  pub reads : Reads words request
  pub command : request.command ≡ command.Search
  pub few : request.workers ≤ most

-- the words ask of a text, by a command, whether it is accepted for this basis
pub record ReadsText (words : List Text) (request : Request) : Type 0 where
  pub reads : Reads words request
  pub command : (request.command ≡ command.Check) ⊎ (request.command ≡ command.Terms)

-- the words ask for this listing, which follows from them alone
pub record ReadsListing (words : List Text) (request : Request) : Type 0 where
  pub reads : Reads words request
  pub command : (request.command ≡ command.Count) ⊎ (request.command ≡ command.Sample)

-- the words ask for a search by more workers
pub record AskForMore (most : ℕ) (words : List Text) : Type 0 where
  pub request : Request
  pub reads : Reads words request
  pub command : request.command ≡ command.Search
  pub more : most < request.workers

-- when words are refused where so many workers are there; want of memory has no cause here
pub data IsRefusedFor (most : ℕ) (words : List Text) : WordFault → Type 0 where
  by_words : (fault : WordFault) → IsRefused words fault → IsRefusedFor most words fault
  by_workers : AskForMore most words → IsRefusedFor most words (Opt Workers)
