-- What a command answers, before it is written, and what it has written then.
use Rattle.std.specs.Prelude.{IfSome, ◌≡◌, ◌≢◌, ◌≤◌, ◌<◌, ◌+◌, ◌⊎◌, Some, None, ℕ, Option, List, [], ◌∷◌, true, length}
use Rattle.lists.specs.Members.{IsIn}
use Rattle.outside.specs.Bytes.{GrewBy, GrewByPrefix}
use Rattle.outside.specs.Reading.{IsWhole, Took}
use Rattle.tiling_core.specs.Tiles.{Tiles}
use Rattle.steps.specs.Traces.{IsNormal}
use Rattle.css_domain.specs.Entries.{Entry, ValidSpec}
use Rattle.css_domain.specs.FiledSpecs.{IsFiledSpec}
use Rattle.css_domain.specs.LedgerFacts.{IsLedger}
use Rattle.css_domain.specs.Ledgers.{classes, done, is_all_done}
use Rattle.css_crew.specs.Crews.{IsFilled}
use Rattle.css_crew.specs.Ways.{GoesWith}
use Rattle.css_domain.specs.Reasons.{Reason, RootStands, AreFilingsComplete, Alone, EndsFor}
use Rattle.css_domain.specs.Reasons.Reason.{Found}
use Rattle.rule_kinds.specs.Rules.{TilingRule}
use Rattle.tile_rules.specs.Complete.{rulebook_of}
use Rattle.tile_rules.specs.Meaning.{tile_meaning}
use Rattle.pack_law.specs.Tried.{AreTried}
use Rattle.command_words.specs.declared.request.Request.{Request}
use Rattle.command_words.specs.declared.request.WordFault.{WordFault}
use Rattle.command_words.specs.declared.request.WordFault.TheVariants.{Memory}
use Rattle.tilescope.specs.Words.{Text, ReadsSearch, ReadsText, ReadsListing, IsRefusedFor}
use Rattle.spec_checker.specs.declared.verdict.CheckFault.{CheckFault}
use Rattle.spec_checker.specs.declared.verdict.CheckFault.TheVariants as fault
use Rattle.spec_checker.specs.Accepting.{Accepts, IsAccepted, AreCounts}
use Rattle.spec_checker.specs.Refusing.{IsRefused as IsRejected}
use Rattle.css_terms.specs.declared.term.Term.{Term}
use Rattle.tilescope.specs.Verdicts.{most_bytes, checked_line, rejected_line, IsVerdict}
use Rattle.tilescope.specs.Usage.{usage_line}
use Rattle.tilescope.specs.Samples.{IsListing}
use Rattle.tilescope.specs.Searches.{TileBooks, TileEntries, IsReducedRoot, IsExplored, IsSpecOf, IsWithout, AreRulesOfPack, IsAnswerText}

-- the words are refused where `most` workers are there, and not for want of memory
pub record AreRefused (most : ℕ) (words : List Text) : Type 0 where
  pub fault : WordFault
  pub refused : IsRefusedFor most words fault
  pub not_memory : fault ≢ Memory

-- the words ask for a search by at most so many workers
pub record AskForSearch (most : ℕ) (words : List Text) : Type 0 where
  pub request : Request
  pub read : ReadsSearch most words request

-- the words ask whether a text is accepted
pub record AskOfText (words : List Text) : Type 0 where
  pub request : Request
  pub read : ReadsText words request

-- the words ask for a listing
pub record AskForListing (words : List Text) : Type 0 where
  pub request : Request
  pub read : ReadsListing words request

-- ---- a search that is solved
-- the ledger explores the class of the basis by the pack, with one worker alone; it ended for this reason, and this is the specification of its picks, where its root stands
pub record IsSolvedFor (request : Request) (l : TileBooks) (why : Reason) (spec : Option TileEntries) : Type 0 where
  pub root : IsReducedRoot request.basis l.root
  pub ledger : IsLedger tile_meaning l
  pub filled : IsFilled tile_meaning l.root request.budget (rulebook_of request.packs) l
  pub alone : request.workers ≡ 1 → Alone tile_meaning l.root request.budget (rulebook_of request.packs) l
  pub ends : EndsFor tile_meaning l why
  pub goes : GoesWith tile_meaning l spec
  pub filed : IfSome spec (λ entries. IsFiledSpec tile_meaning l entries)

-- ---- answers before they are written; where there is no text, nothing is written
-- the answer that says why words are refused, unless memory ran out
pub record IsUsageAnswer (fault : WordFault) (status : ℕ) (text : Option Text) (ledger : Option TileBooks) : Type 0 where
  pub not_memory : fault ≢ Memory
  pub ends : status ≡ 2
  pub says : text ≡ Some (usage_line fault)
  pub no_ledger : ledger ≡ None

-- an answer ends with this status and this text, unless that is too long
pub data IsMade (status : ℕ) (text : Text) (ledger : Option TileBooks) : ℕ → Option Text → Option TileBooks → Type 0 where
  whole : length text ≤ most_bytes → IsMade status text ledger status (Some text) ledger
  long : most_bytes < length text → IsMade status text ledger 7 None ledger

-- the ledger is that of the search that is asked for, with one worker the one that it fills alone; it ended for this reason, and the text is its answer; specifications by its rules are of the pack, and there is none where none was found
pub record IsSearched (request : Request) (ledger : TileBooks) (why : Reason) (text : Text) : Type 0 where
  pub explored : IsExplored request.basis request.budget request.packs ledger why
  pub alone : request.workers ≡ 1 → Alone tile_meaning ledger.root request.budget (rulebook_of request.packs) ledger
  pub says : IsAnswerText request.basis request.terms ledger why text
  pub by_pack : AreRulesOfPack request.packs ledger
  pub without : why ≢ Found → IsWithout request.packs ledger

-- the answer of a search: a specification, or none where every class was expanded or the budget is spent, or none of them where its text is too long
pub data IsSearchAnswer (request : Request) : ℕ → Option Text → Option TileBooks → Type 0 where
  found : (ledger : TileBooks) (text : Text) → IsSearched request ledger Found text → length text ≤ most_bytes → IsSearchAnswer request 0 (Some text) (Some ledger)
  none : (ledger : TileBooks) (why : Reason) (text : Text) → why ≢ Found → IsSearched request ledger why text → length text ≤ most_bytes → IsSearchAnswer request 1 (Some text) (Some ledger)
  long : (ledger : TileBooks) (why : Reason) (text : Text) → IsSearched request ledger why text → most_bytes < length text → IsSearchAnswer request 7 None (Some ledger)

-- the bytes are all that the source had left, not too many, and the line is the verdict on them
pub record IsTold (request : Request) (before after : Option Text) (status : ℕ) (text : Text) : Type 0 where
  pub bytes : Text
  pub whole : IsWhole before after bytes
  pub few : length bytes ≤ most_bytes
  pub verdict : IsVerdict request bytes status text

-- the answer of a command that reads a text, given that the source's count of faults rose where it failed, and what the source had and has left; the line of a verdict is never too long
pub data IsTextAnswer (request : Request) (Rose : Type 0) (before after : Option Text) : ℕ → Option Text → Type 0 where
  unread : Rose → IsTextAnswer request Rose before after 4 None
  too_many : Took before after (most_bytes + 1) → IsTextAnswer request Rose before after 7 None
  told : (status : ℕ) (text : Text) → IsTold request before after status text → length text ≤ most_bytes → IsTextAnswer request Rose before after status (Some text)

-- the answer of a command that lists, which is none where it is too long
pub data IsListingAnswer (request : Request) : ℕ → Option Text → Type 0 where
  listed : (text : Text) → IsListing request text → length text ≤ most_bytes → IsListingAnswer request 0 (Some text)
  long : (text : Text) → IsListing request text → most_bytes < length text → IsListingAnswer request 7 None

-- the status, the text and the ledger of an answer, where `most` workers are there
pub data IsAnswer (most : ℕ) (words : List Text) (Rose : Type 0) (before after : Option Text) : ℕ → Option Text → Option TileBooks → Type 0 where
  usage : (refused : AreRefused most words) → IsAnswer most words Rose before after 2 (Some (usage_line refused.fault)) None
  search : (asks : AskForSearch most words) (status : ℕ) (text : Option Text) (ledger : Option TileBooks) → IsSearchAnswer asks.request status text ledger → IsAnswer most words Rose before after status text ledger
  text : (asks : AskOfText words) (status : ℕ) (text : Option Text) → IsTextAnswer asks.request Rose before after status text → IsAnswer most words Rose before after status text None
  listing : (asks : AskForListing words) (status : ℕ) (text : Option Text) → IsListingAnswer asks.request status text → IsAnswer most words Rose before after status text None

-- ---- what is left after a command

-- the number is in the list
abbrev pub IsOneOf : ℕ → List ℕ → Type 0
IsOneOf n numbers = IsIn n numbers

-- the statuses: 0 done, 1 none found, 2 the words are refused, 3 the text is refused, 4 a read failed, 5 a write failed, 6 out of memory, 7 too long
abbrev pub IsStatus : ℕ → Type 0
IsStatus status = IsOneOf status (0 ∷ 1 ∷ 2 ∷ 3 ∷ 4 ∷ 5 ∷ 6 ∷ 7 ∷ [])

-- those with which nothing is written
abbrev pub IsSilent : ℕ → Type 0
IsSilent status = IsOneOf status (4 ∷ 6 ∷ 7 ∷ [])

-- the words are refused, and a sink that held `before` holds the line that says why
pub record IsUsage (most : ℕ) (words : List Text) (before now : Option (List ℕ)) : Type 0 where
  pub refused : AreRefused most words
  pub written : GrewBy before now (usage_line refused.fault)

-- the words are refused, and a sink that held `before` holds a prefix of the line that says why
pub record IsUsagePrefix (most : ℕ) (words : List Text) (before now : Option (List ℕ)) : Type 0 where
  pub refused : AreRefused most words
  pub written : GrewByPrefix before now (usage_line refused.fault)

-- the words ask for a search, and this is its ledger, which ended for this reason and gives this text
pub record IsSearchOf (most : ℕ) (words : List Text) (ledger : Option TileBooks) (why : Reason) (text : Text) : Type 0 where
  pub asks : AskForSearch most words
  pub books : TileBooks
  pub kept : ledger ≡ Some books
  pub searched : IsSearched asks.request books why text

-- a sink that held `before` holds the text of the search, which found a specification
pub record IsFoundWritten (most : ℕ) (words : List Text) (ledger : Option TileBooks) (before now : Option (List ℕ)) : Type 0 where
  pub text : Text
  pub search : IsSearchOf most words ledger Found text
  pub short : length text ≤ most_bytes
  pub written : GrewBy before now text

-- and the checker accepts that text for the basis of the search
pub record IsAcceptedText (most : ℕ) (words : List Text) (ledger : Option TileBooks) (before now : Option (List ℕ)) : Type 0 where
  pub found : IsFoundWritten most words ledger before now
  pub accepted : Accepts found.search.asks.request.basis found.text

-- a sink that held `before` holds the line of the search, which found none
pub record IsNoneWritten (most : ℕ) (words : List Text) (ledger : Option TileBooks) (before now : Option (List ℕ)) : Type 0 where
  pub text : Text
  pub why : Reason
  pub not_found : why ≢ Found
  pub search : IsSearchOf most words ledger why text
  pub short : length text ≤ most_bytes
  pub written : GrewBy before now text

-- a sink that held `before` holds a prefix of the text of the search
pub record IsSearchPrefix (most : ℕ) (words : List Text) (ledger : Option TileBooks) (before now : Option (List ℕ)) : Type 0 where
  pub why : Reason
  pub text : Text
  pub search : IsSearchOf most words ledger why text
  pub short : length text ≤ most_bytes
  pub written : GrewByPrefix before now text

-- the ledger is that of the search which the words ask for
pub record IsSolved (most : ℕ) (words : List Text) (ledger : Option TileBooks) : Type 0 where
  pub why : Reason
  pub text : Text
  pub search : IsSearchOf most words ledger why text

-- the words ask for a search, and the ledger explores the class of the basis by the pack, which they name
pub record IsLedgerOf (most : ℕ) (words : List Text) (ledger : Option TileBooks) : Type 0 where
  pub asks : AskForSearch most words
  pub books : TileBooks
  pub kept : ledger ≡ Some books
  pub root : IsReducedRoot asks.request.basis books.root
  pub of_pack : books.rulebook ≡ rulebook_of asks.request.packs

-- the picks of the ledger are a valid specification of its root, by rules of the ledger
pub record HasSpecification (most : ℕ) (words : List Text) (ledger : Option TileBooks) : Type 0 where
  pub own : IsLedgerOf most words ledger
  pub entries : TileEntries
  pub spec : IsSpecOf own.books entries

-- the rules of each specification by the ledger's rules are of the pack
pub record IsByPack (most : ℕ) (words : List Text) (ledger : Option TileBooks) : Type 0 where
  pub own : IsLedgerOf most words ledger
  pub tried : AreRulesOfPack own.asks.request.packs own.books

-- the root stands nowhere among the rules filed, and no valid specification of it has all its rules among them
pub record HasNoSpecification (most : ℕ) (words : List Text) (ledger : Option TileBooks) : Type 0 where
  pub own : IsLedgerOf most words ledger
  pub none : RootStands tile_meaning own.books → ⊥
  pub none_filed : (entries : TileEntries) → ValidSpec tile_meaning entries own.books.root → ((e : Entry Tiles TilingRule) → IsIn e entries → IsIn e.rule own.books.rules) → ⊥

-- where every class was expanded, no valid specification of the root has all its rules among those of the pack
pub record IsBeyondPack (most : ℕ) (words : List Text) (ledger : Option TileBooks) : Type 0 where
  pub own : IsLedgerOf most words ledger
  pub beyond : is_all_done tile_meaning own.books ≡ true → (entries : TileEntries) → ValidSpec tile_meaning entries own.books.root → AreTried own.asks.request.packs entries → ⊥

-- every class was expanded, or the budget is spent; each class is normal, and the one filing of each done one is complete
pub record HasEnded (most : ℕ) (words : List Text) (ledger : Option TileBooks) : Type 0 where
  pub own : IsLedgerOf most words ledger
  pub why : (is_all_done tile_meaning own.books ≡ true) ⊎ ((is_all_done tile_meaning own.books ≡ true → ⊥) × (length (done own.books) ≡ own.books.budget))
  pub normal : (c : Tiles) → IsIn c (classes tile_meaning own.books) → IsNormal c
  pub complete : AreFilingsComplete tile_meaning own.books

-- ---- commands that read a text; a source that had `before` left has `after` left
-- the words ask of a text, which is all that the source had left and is accepted for the basis; a sink that held `held` holds the line of the command
pub record IsCheckedWritten (words : List Text) (before after held now : Option (List ℕ)) : Type 0 where
  pub asks : AskOfText words
  pub bytes : Text
  pub whole : IsWhole before after bytes
  pub few : length bytes ≤ most_bytes
  pub entries : ℕ
  pub terms : List Term
  pub accepted : IsAccepted asks.request.basis bytes entries terms
  pub counts : AreCounts asks.request.basis terms
  pub short : length (checked_line asks.request.command entries terms) ≤ most_bytes
  pub written : GrewBy held now (checked_line asks.request.command entries terms)

-- the words ask of a text, which is all that the source had left and is refused for the basis; a sink that held `held` holds the line of the refusal
pub record IsRejectedWritten (words : List Text) (before after held now : Option (List ℕ)) : Type 0 where
  pub asks : AskOfText words
  pub bytes : Text
  pub whole : IsWhole before after bytes
  pub few : length bytes ≤ most_bytes
  pub why : CheckFault
  pub not_memory : why ≢ fault.Memory
  pub refused : IsRejected asks.request.basis bytes why
  pub not_accepted : Accepts asks.request.basis bytes → ⊥
  pub short : length (rejected_line why) ≤ most_bytes
  pub written : GrewBy held now (rejected_line why)

-- the words ask of a text, and a sink that held `held` holds a prefix of the line that is the verdict on all that the source had left
pub record IsVerdictPrefix (words : List Text) (before after held now : Option (List ℕ)) : Type 0 where
  pub asks : AskOfText words
  pub status : ℕ
  pub text : Text
  pub told : IsTold asks.request before after status text
  pub short : length text ≤ most_bytes
  pub written : GrewByPrefix held now text

-- the words ask of a text, and the source failed
pub record IsUnread (words : List Text) (Rose : Type 0) : Type 0 where
  pub asks : AskOfText words
  pub rose : Rose

-- what was read is too long, or what a search or a listing is to write; a line that is the verdict on a text never is
pub data IsTooLong (most : ℕ) (words : List Text) (before after : Option (List ℕ)) (ledger : Option TileBooks) : Type 0 where
  read : AskOfText words → Took before after (most_bytes + 1) → IsTooLong most words before after ledger
  search : (why : Reason) (text : Text) → IsSearchOf most words ledger why text → most_bytes < length text → IsTooLong most words before after ledger
  listing : (asks : AskForListing words) (text : Text) → IsListing asks.request text → most_bytes < length text → IsTooLong most words before after ledger

-- ---- commands that list
-- the words ask for a listing, and a sink that held `held` holds it
pub record IsListingWritten (words : List Text) (held now : Option (List ℕ)) : Type 0 where
  pub asks : AskForListing words
  pub text : Text
  pub listing : IsListing asks.request text
  pub short : length text ≤ most_bytes
  pub written : GrewBy held now text

-- the words ask for a listing, and a sink that held `held` holds a prefix of it
pub record IsListingPrefix (words : List Text) (held now : Option (List ℕ)) : Type 0 where
  pub asks : AskForListing words
  pub text : Text
  pub listing : IsListing asks.request text
  pub short : length text ≤ most_bytes
  pub written : GrewByPrefix held now text

-- ---- where nothing fails
-- a source that had `before` left tells it, and that isn't too long
pub record IsWithin (before : Option Text) : Type 0 where
  pub bytes : Text
  pub told : before ≡ Some bytes
  pub few : length bytes ≤ most_bytes

-- the words ask of a text, and the status says whether it is accepted for the basis, or that memory ran out
pub data IsDecided (words : List Text) (bytes : Text) : ℕ → Type 0 where
  accepted : (asks : AskOfText words) → Accepts asks.request.basis bytes → IsDecided words bytes 0
  rejected : (asks : AskOfText words) → (Accepts asks.request.basis bytes → ⊥) → IsDecided words bytes 3
  memory : IsDecided words bytes 6

-- no text that the search of this ledger gives is too long
abbrev pub AreTextsShort : ℕ → List Text → Option TileBooks → Type 0
AreTextsShort most words ledger = (why : Reason) (text : Text) → IsSearchOf most words ledger why text → length text ≤ most_bytes

-- no listing that the words ask for is too long
abbrev pub AreListingsShort : List Text → Type 0
AreListingsShort words = (asks : AskForListing words) (text : Text) → IsListing asks.request text → length text ≤ most_bytes
