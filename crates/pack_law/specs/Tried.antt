-- Rules that some packs try, and ledgers that are filed for them.
use Rattle.std.specs.Prelude.{◌≡◌, ◌<◌, ℕ, true, List, map}
use Rattle.css_domain.specs.Ledgers.{Books, classes, is_all_done}
use Rattle.css_domain.specs.LedgerFacts.{IsLedger}
use Rattle.css_domain.specs.Reasons.{Alone, AreFilingsComplete, EndsFor}
use Rattle.css_domain.specs.Reasons.Reason.{Exhausted}
use Rattle.css_domain.specs.Entries.{Entry, ValidSpec}
use Rattle.css_domain.specs.FiledSpecs.{IsFiledSpec}
use Rattle.tiling_core.specs.Tiles.{Tiles}
use Rattle.steps.specs.Traces.{IsNormal}
use Rattle.rule_kinds.specs.Rules.{TilingRule}
use Rattle.normal_form.specs.TraceLaws.{trace}
use Rattle.rule_kinds.specs.Children.{raw_children}
use Rattle.rule_kinds.specs.Choices.{Packs, kinds_of}
use Rattle.tile_rules.specs.Complete.{IsComplete, rulebook_of}
use Rattle.tile_rules.specs.Meaning.{tile_meaning}
use Rattle.lists.specs.Members.{IsIn}

-- the complete filing of a tiling is determined
abbrev pub CompleteIsDetermined : Type 0
CompleteIsDetermined = (t : Tiles) (packs : Packs) (f g : List TilingRule) → IsComplete f t packs → IsComplete g t packs → f ≡ g

-- the packs try the rule on its class, and each child is reduced to the end
pub record IsTried (packs : Packs) (r : TilingRule) : Type 0 where
  pub kind : IsIn r.kind (kinds_of r.parent packs)
  pub traced : r.traces ≡ map trace (raw_children r.parent r.kind)

abbrev pub AreTried : Packs → List (Entry Tiles TilingRule) → Type 0
AreTried packs entries = (e : Entry Tiles TilingRule) → IsIn e entries → IsTried packs e.rule

-- each rule is one of a complete filing of its class
abbrev pub AreByPacks : Packs → List (Entry Tiles TilingRule) → Type 0
AreByPacks packs entries = (e : Entry Tiles TilingRule) → IsIn e entries → (rules : List TilingRule) × IsComplete rules e.class packs × IsIn e.rule rules

-- these are rules that the packs try
abbrev pub CompleteAreTried : Type 0
CompleteAreTried = (packs : Packs) (entries : List (Entry Tiles TilingRule)) → AreByPacks packs entries → AreTried packs entries

-- the classes from a normal root on are filed for these packs, as far as they are filed
pub record IsFiledFor (packs : Packs) (l : Books Tiles TilingRule) : Type 0 where
  pub ledger : IsLedger tile_meaning l
  pub normal : IsNormal l.root
  pub complete : AreFilingsComplete tile_meaning l
  pub of_packs : l.rulebook ≡ rulebook_of packs
  pub some_pack : 0 < l.rulebook

-- where all classes are done, a specification by rules that the packs try is one by rules of the ledger
abbrev pub SpecIsFiled : Type 0
SpecIsFiled = (packs : Packs) (l : Books Tiles TilingRule) (entries : List (Entry Tiles TilingRule)) → IsFiledFor packs l → is_all_done tile_meaning l ≡ true → ValidSpec tile_meaning entries l.root → AreTried packs entries → (e : Entry Tiles TilingRule) → IsIn e entries → IsIn e.rule l.rules

-- of a ledger that is exhausted the root has no specification by rules that the packs try
abbrev pub NoSpec : Type 0
NoSpec = (packs : Packs) (l : Books Tiles TilingRule) (entries : List (Entry Tiles TilingRule)) → IsFiledFor packs l → EndsFor tile_meaning l Exhausted → ValidSpec tile_meaning entries l.root → AreTried packs entries → ⊥

-- all classes of such a ledger are normal
abbrev pub ClassesAreNormal : Type 0
ClassesAreNormal = (packs : Packs) (l : Books Tiles TilingRule) → IsFiledFor packs l → (c : Tiles) → IsIn c (classes tile_meaning l) → IsNormal c

-- a specification by such a ledger's rules is one by rules that the packs try
abbrev pub FiledAreTried : Type 0
FiledAreTried = (packs : Packs) (l : Books Tiles TilingRule) (entries : List (Entry Tiles TilingRule)) → IsFiledFor packs l → IsFiledSpec tile_meaning l entries → AreTried packs entries

-- the ledger of one worker from a normal root, for packs with a letter, is filed for them
abbrev pub AloneIsFiled : Type 0
AloneIsFiled = (packs : Packs) (root : Tiles) (budget : ℕ) (l : Books Tiles TilingRule) → IsLedger tile_meaning l → Alone tile_meaning root budget (rulebook_of packs) l → IsNormal root → 0 < rulebook_of packs → IsFiledFor packs l
