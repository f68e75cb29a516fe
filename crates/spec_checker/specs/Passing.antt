-- What the passes over the entries know, and what is found of a file apart from its bytes.
use Rattle.std.specs.Prelude.{◌≡◌, ◌≢◌, ◌<◌, ◌↔◌, ℕ, Bool, IsTrue, false, true, List, length, slice_get, slice_index_or, Some, Result, Ok, Err, ⊤}
use Rattle.patterns.specs.Occurs.{avoiders}
use Rattle.tiling_core.specs.Tiles.{Tiles}
use Rattle.css_domain.specs.Entries.{Entry, class_counts}
use Rattle.css_prune.specs.Faults.{EachBefore, AreRanksRight, IsFirstWrongRank}
use Rattle.lists.specs.Members.{IsIn}
use Rattle.rule_kinds.specs.Rules.{TilingRule}
use Rattle.tile_rules.specs.Meaning.{tile_meaning}
use Rattle.spec_text.specs.declared.file.SpecFile.{SpecFile}
use Rattle.spec_checker.specs.declared.verdict.Checked.{Checked}
use Rattle.spec_checker.specs.declared.verdict.CheckFault.{CheckFault}
use Rattle.spec_checker.specs.declared.verdict.CheckFault.TheVariants as fault
use Rattle.spec_checker.specs.Accepting.{capped_counts}
use Rattle.spec_checker.specs.Refusing.{IsRooted, IsRuleRight, AreRulesRight, IsFirstWrongRule, IsFirstDifference}

-- one of the first k entries names entry i as a child
pub record IsNamedBefore (entries : List (Entry Tiles TilingRule)) (k i : ℕ) : Type 0 where
  pub j : ℕ
  pub earlier : j < k
  pub by : Entry Tiles TilingRule
  pub there : slice_get entries j ≡ Some by
  pub names : IsIn i by.children

-- the marks are those of the entries that the first k name
pub record AreMarked (entries : List (Entry Tiles TilingRule)) (k : ℕ) (marks : List Bool) : Type 0 where
  pub many : length marks ≡ length entries
  pub right : (i : ℕ) → i < length entries → (slice_index_or marks i false ≡ true) ↔ IsNamedBefore entries k i

-- it is told whether nothing but a rank can be wrong in the entry at a place
abbrev pub TellsRule : List (Entry Tiles TilingRule) → ℕ → Bool → Type 0
TellsRule entries place right = (e : Entry Tiles TilingRule) → slice_get entries place ≡ Some e → IsTrue right ↔ IsRuleRight entries place e

abbrev pub HaveRightRanks : List (Entry Tiles TilingRule) → Type 0
HaveRightRanks entries = EachBefore (AreRanksRight tile_meaning entries) entries (length entries)

-- the file is of the basis, and its root is right
pub record IsRightAtRoot (basis : List (List ℕ)) (f : SpecFile) : Type 0 where
  pub words : f.basis ≡ basis
  pub rooted : IsRooted basis f

-- and all its rules are
pub record IsRightInRules (basis : List (List ℕ)) (f : SpecFile) : Type 0 where
  pub start : IsRightAtRoot basis f
  pub rules : AreRulesRight f.entries

-- and all its ranks are
pub record IsRightInRanks (basis : List (List ℕ)) (f : SpecFile) : Type 0 where
  pub before : IsRightInRules basis f
  pub ranks : HaveRightRanks f.entries

-- and its terms are, and so many entries and these terms are told; entry 0 counts the avoiders
pub record IsRightWhole (basis : List (List ℕ)) (f : SpecFile) (c : Checked) : Type 0 where
  pub before : IsRightInRanks basis f
  pub right : f.terms ≡ capped_counts f.entries (length f.terms)
  pub many : c.entries ≡ length f.entries
  pub items : c.terms.items ≡ f.terms
  pub counts : (n : ℕ) → class_counts tile_meaning f.entries 0 n ≡ avoiders basis n

-- what is answered for a file
abbrev pub IsJudged : List (List ℕ) → SpecFile → Result Checked CheckFault → Type 0
IsJudged basis f (Ok c) = IsRightWhole basis f c
IsJudged basis f (Err (fault.Grammar line)) = ⊥
IsJudged basis f (Err (fault.Limit line)) = ⊥
IsJudged basis f (Err fault.OtherBasis) = f.basis ≢ basis
IsJudged basis f (Err fault.Root) = (f.basis ≡ basis) × (IsRooted basis f → ⊥)
IsJudged basis f (Err (fault.Rule entry)) = IsRightAtRoot basis f × IsFirstWrongRule f.entries entry
IsJudged basis f (Err (fault.Rank entry child)) = IsRightInRules basis f × IsFirstWrongRank tile_meaning f.entries entry child
IsJudged basis f (Err (fault.Terms n)) = IsRightInRanks basis f × IsFirstDifference f.terms (capped_counts f.entries (length f.terms)) n
IsJudged basis f (Err fault.Memory) = ⊤
