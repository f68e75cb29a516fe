-- What a search answers: its ledger, why that ended, and the text that it gives.
use Rattle.std.specs.Prelude.{◌≡◌, ℕ, true, Some, List, [], ◌∷◌, codes, decimal}
use Rattle.lists.specs.Members.{IsIn}
use Rattle.tiling_core.specs.Tiles.{Tiles}
use Rattle.tiling_core.specs.Roots.{root_of}
use Rattle.steps.specs.Traces.{IsNormal, replay}
use Rattle.normal_form.specs.TraceLaws.{trace}
use Rattle.css_domain.specs.Ledgers.{Books, Counts, classes, counts, is_all_done}
use Rattle.css_domain.specs.Entries.{Entry, ValidSpec, Picked}
use Rattle.css_domain.specs.FiledSpecs.{IsFiledSpec}
use Rattle.css_domain.specs.LedgerFacts.{IsLedger}
use Rattle.css_domain.specs.Reasons.{Reason, RootStands, EndsFor}
use Rattle.css_domain.specs.Reasons.Reason.{Found, Exhausted, Budget}
use Rattle.css_crew.specs.Crews.{IsFilled}
use Rattle.basis_terms.specs.BasisTerms.{terms_of}
use Rattle.tile_rules.specs.Avoiding.{CountsAvoiders}
use Rattle.rule_kinds.specs.Choices.{Packs}
use Rattle.tile_rules.specs.Complete.{rulebook_of}
use Rattle.rule_kinds.specs.Rules.{TilingRule}
use Rattle.tile_rules.specs.Meaning.{tile_meaning}
use Rattle.pack_law.specs.Tried.{AreTried}
use Rattle.spec_lines.specs.Lines.{Text, line}
use Rattle.spec_text.specs.Texts.{spec_text}
use Rattle.spec_checker.specs.Accepting.{Accepts}

abbrev pub TileBooks : Type 0
TileBooks = Books Tiles TilingRule

abbrev pub TileEntries : Type 0
TileEntries = List (Entry Tiles TilingRule)

-- the word for why a ledger ended without a specification
abbrev pub reason_text : Reason → Text
reason_text Found = codes "found"
reason_text Exhausted = codes "exhausted"
reason_text Budget = codes "budget"

-- why no specification is written, how many classes were expanded, and how many classes and rules there are
abbrev pub none_line : Reason → Counts → Text
none_line why c = line (codes "none") (reason_text why ∷ decimal c.expanded ∷ decimal c.classes ∷ decimal c.rules ∷ [])

-- the tiling is that of the basis after its trace; it is normal, and counts the avoiders
pub record IsReducedRoot (basis : List (List ℕ)) (root : Tiles) : Type 0 where
  pub reduced : replay (root_of basis) (trace (root_of basis)) ≡ Some root
  pub normal : IsNormal root
  pub counts : CountsAvoiders basis root

-- the ledger explores the class of the basis by a pack: what is done is filed completely; and why it ended
pub record IsExplored (basis : List (List ℕ)) (budget : ℕ) (packs : Packs) (l : TileBooks) (why : Reason) : Type 0 where
  pub root : IsReducedRoot basis l.root
  pub ledger : IsLedger tile_meaning l
  pub filled : IsFilled tile_meaning l.root budget (rulebook_of packs) l
  pub normal : (c : Tiles) → IsIn c (classes tile_meaning l) → IsNormal c
  pub ends : EndsFor tile_meaning l why

-- the picks of the ledger, which are a valid specification of its root by rules of the ledger
pub record IsSpecOf (l : TileBooks) (entries : TileEntries) : Type 0 where
  pub picked : Picked tile_meaning l 0 entries
  pub valid : ValidSpec tile_meaning entries l.root
  pub filed : (e : Entry Tiles TilingRule) → IsIn e entries → IsIn e.rule l.rules

-- the text of that specification, with the capped numbers of the permutations that avoid the basis; the checker accepts it
pub record IsSpecText (basis : List (List ℕ)) (last : ℕ) (l : TileBooks) (text : Text) : Type 0 where
  pub entries : TileEntries
  pub spec : IsSpecOf l entries
  pub written : text ≡ spec_text basis (trace (root_of basis)) entries (terms_of basis last)
  pub accepted : Accepts basis text

-- the root stands nowhere among the rules filed; so no valid specification of it has all its rules among them, nor, where every class was expanded, among the rules of the pack
pub record IsWithout (packs : Packs) (l : TileBooks) : Type 0 where
  pub none : RootStands tile_meaning l → ⊥
  pub none_filed : (entries : TileEntries) → ValidSpec tile_meaning entries l.root → ((e : Entry Tiles TilingRule) → IsIn e entries → IsIn e.rule l.rules) → ⊥
  pub beyond : is_all_done tile_meaning l ≡ true → (entries : TileEntries) → ValidSpec tile_meaning entries l.root → AreTried packs entries → ⊥

-- a specification by the ledger's rules is one by rules of the pack
abbrev pub AreRulesOfPack : Packs → TileBooks → Type 0
AreRulesOfPack packs l = (entries : TileEntries) → IsFiledSpec tile_meaning l entries → AreTried packs entries

-- the text that says how the search of a ledger ended
abbrev pub IsAnswerText : List (List ℕ) → ℕ → TileBooks → Reason → Text → Type 0
IsAnswerText basis last l Found text = IsSpecText basis last l text
IsAnswerText basis last l Exhausted text = text ≡ none_line Exhausted (counts tile_meaning l)
IsAnswerText basis last l Budget text = text ≡ none_line Budget (counts tile_meaning l)
