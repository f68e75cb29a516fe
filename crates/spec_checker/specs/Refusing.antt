-- Which texts are refused for a basis, and with which fault: the first that applies, at its first place.
use Rattle.std.specs.Prelude.{◌≡◌, ◌≢◌, ◌<◌, ℕ, List, length, slice_get, Some, Result, Ok, Err, ⊤}
use Rattle.tiling_core.specs.Tiles.{Tiles}
use Rattle.tiling_core.specs.Roots.{root_of}
use Rattle.steps.specs.Traces.{replay}
use Rattle.css_domain.specs.Entries.{Entry, IsCalled}
use Rattle.css_prune.specs.Faults.{EachBefore, IsRepeated, IsFirstWrongRank}
use Rattle.css_terms.specs.declared.term.Term.{Term}
use Rattle.rule_kinds.specs.Rules.{TilingRule}
use Rattle.rule_kinds.specs.Follows.{Follows}
use Rattle.tile_rules.specs.Meaning.{tile_meaning}
use Rattle.spec_lines.specs.Lines.{Text}
use Rattle.spec_lines.specs.Faults.{IsGrammarFault, IsLimitFault}
use Rattle.spec_text.specs.declared.file.SpecFile.{SpecFile}
use Rattle.spec_text.specs.Joined.{class_at, IsReadSpec}
use Rattle.spec_checker.specs.declared.verdict.CheckFault.{CheckFault}
use Rattle.spec_checker.specs.declared.verdict.CheckFault.TheVariants as fault
use Rattle.spec_checker.specs.Accepting.{IsOfBasis, IsSpecified, capped_counts}

-- the root's trace leads from the 1x1 tiling of the basis to the tiling of entry 0
abbrev pub IsRooted : List (List ℕ) → SpecFile → Type 0
IsRooted basis f = replay (root_of basis) f.root_trace ≡ class_at f.entries 0

-- nothing but a rank can be wrong in entry i: no earlier entry has its tiling, its rule follows, and, but for entry 0, an earlier entry names it
pub record IsRuleRight (entries : List (Entry Tiles TilingRule)) (i : ℕ) (e : Entry Tiles TilingRule) : Type 0 where
  pub new : IsRepeated tile_meaning entries i e.class → ⊥
  pub follows : Follows e.rule
  pub called : 0 < i → IsCalled tile_meaning entries i

abbrev pub AreRulesRight : List (Entry Tiles TilingRule) → Type 0
AreRulesRight entries = EachBefore (IsRuleRight entries) entries (length entries)

-- entry i is the first where more than a rank is wrong
pub record IsFirstWrongRule (entries : List (Entry Tiles TilingRule)) (i : ℕ) : Type 0 where
  pub entry : Entry Tiles TilingRule
  pub at : slice_get entries i ≡ Some entry
  pub wrong : IsRuleRight entries i entry → ⊥
  pub before : EachBefore (IsRuleRight entries) entries i

-- the lists differ at n, where one may have no item, and nowhere before
pub record IsFirstDifference (items others : List Term) (n : ℕ) : Type 0 where
  pub same : (m : ℕ) → m < n → slice_get items m ≡ slice_get others m
  pub differ : slice_get items n ≢ slice_get others n

pub record HasOtherBasis (basis : List (List ℕ)) (bytes : Text) : Type 0 where
  pub file : SpecFile
  pub read : IsReadSpec bytes file
  pub other : file.basis ≢ basis

pub record HasWrongRoot (basis : List (List ℕ)) (bytes : Text) : Type 0 where
  pub file : SpecFile
  pub own : IsOfBasis basis bytes file
  pub wrong : IsRooted basis file → ⊥

pub record HasWrongRule (basis : List (List ℕ)) (bytes : Text) (i : ℕ) : Type 0 where
  pub file : SpecFile
  pub own : IsOfBasis basis bytes file
  pub rooted : IsRooted basis file
  pub first : IsFirstWrongRule file.entries i

-- the first entry with a wrong rank is i, in the first such slot, which names entry k
pub record HasWrongRank (basis : List (List ℕ)) (bytes : Text) (i k : ℕ) : Type 0 where
  pub file : SpecFile
  pub own : IsOfBasis basis bytes file
  pub rooted : IsRooted basis file
  pub rules : AreRulesRight file.entries
  pub first : IsFirstWrongRank tile_meaning file.entries i k

pub record HasWrongTerm (basis : List (List ℕ)) (bytes : Text) (n : ℕ) : Type 0 where
  pub file : SpecFile
  pub specified : IsSpecified basis bytes file
  pub first : IsFirstDifference file.terms (capped_counts file.entries (length file.terms)) n

-- the text is refused for the basis with the fault; want of memory is told at any time
abbrev pub IsRefused : List (List ℕ) → Text → CheckFault → Type 0
IsRefused basis bytes (fault.Grammar line) = IsGrammarFault bytes line
IsRefused basis bytes (fault.Limit line) = IsLimitFault bytes line
IsRefused basis bytes fault.OtherBasis = HasOtherBasis basis bytes
IsRefused basis bytes fault.Root = HasWrongRoot basis bytes
IsRefused basis bytes (fault.Rule entry) = HasWrongRule basis bytes entry
IsRefused basis bytes (fault.Rank entry child) = HasWrongRank basis bytes entry child
IsRefused basis bytes (fault.Terms n) = HasWrongTerm basis bytes n
IsRefused basis bytes fault.Memory = ⊤

-- P, unless memory ran out
abbrev pub UnlessMemory : {X : Type 0} → Result X CheckFault → Type 0 → Type 0
UnlessMemory (Err fault.Memory) P = ⊤
UnlessMemory (Ok x) P = P
UnlessMemory (Err _) P = P
