-- The file that a specification with its basis, trace and terms is.
use Rattle.std.specs.Prelude.{◌≡◌, ◌≤◌, ◌<◌, ◌^◌, ℕ, Bool, true, not, List, [], ◌∷◌, length, map, All, Some, IsTrue}
use Rattle.perm_core.specs.Basis.{IsBasis}
use Rattle.tiling_core.specs.Tiles.{Tiles}
use Rattle.tiling_core.specs.Roots.{root_of}
use Rattle.steps.specs.declared.step.Step.{Step}
use Rattle.steps.specs.Traces.{replay}
use Rattle.css_domain.specs.Entries.{Entry, IsSpec, AllHold}
use Rattle.css_terms.specs.declared.term.Term.{Term}
use Rattle.css_terms.specs.declared.term.Term.TheVariants.{Exact, Big}
use Rattle.rule_kinds.specs.Rules.{TilingRule}
use Rattle.tile_rules.specs.Meaning.{tile_meaning}
use Rattle.spec_lines.specs.Forms.{has_items}
use Rattle.spec_lines.specs.Ranges.{is_term_in_range}
use Rattle.spec_lines.specs.Files.{FileEntry, File, file_text, IsFileText, IsWritable}
use Rattle.spec_text.specs.Texts.{spec_text}

abbrev pub file_entry : Entry Tiles TilingRule → FileEntry
file_entry e = record { class = e.class; rank = e.rank; kind = e.rule.kind; children = e.children; traces = e.rule.traces }

abbrev pub file_of : List (List ℕ) → List Step → List (Entry Tiles TilingRule) → List Term → File
file_of basis trace entries terms = record { basis = basis; root_trace = trace; entries = map file_entry entries; terms = terms }

-- the text of a specification is that of its file
abbrev pub SpecTextsAreFileTexts : Type 0
SpecTextsAreFileTexts = (basis : List (List ℕ)) (trace : List Step) (entries : List (Entry Tiles TilingRule)) (terms : List Term) → spec_text basis trace entries terms ≡ file_text (file_of basis trace entries terms)

-- where the values have lines in range, it spells them
abbrev pub WritableSpecsAreSpelled : Type 0
WritableSpecsAreSpelled = (basis : List (List ℕ)) (trace : List Step) (entries : List (Entry Tiles TilingRule)) (terms : List Term) → IsWritable (file_of basis trace entries terms) → IsFileText (spec_text basis trace entries terms) (file_of basis trace entries terms)

-- Big stands at the end alone
abbrev pub ends_at_big : List Term → Bool
ends_at_big [] = true
ends_at_big (Exact n ∷ terms) = ends_at_big terms
ends_at_big (Big ∷ terms) = not (has_items terms)

-- a specification whose rules follow, of at most 100,000 entries, with a basis, a trace that replays on its 1x1 tiling, and 1 to 201
-- terms; what the types keep of ranks and terms is said too
pub record IsKeptSpec (words : List (List ℕ)) (trace : List Step) (entries : List (Entry Tiles TilingRule)) (terms : List Term) : Type 0 where
  pub basis : IsBasis words
  pub root : Tiles
  pub replayed : replay (root_of words) trace ≡ Some root
  pub few : length entries ≤ 100000
  pub spec : IsSpec tile_meaning entries
  pub hold : AllHold tile_meaning entries
  pub ranks : All (λ e. e.rank < 2 ^ 32) entries
  pub some : 1 ≤ length terms
  pub most : length terms ≤ 201
  pub capped : All (λ x. IsTrue (is_term_in_range x)) terms
  pub last : IsTrue (ends_at_big terms)

-- its text spells it
abbrev pub KeptSpecsAreSpelled : Type 0
KeptSpecsAreSpelled = (words : List (List ℕ)) (trace : List Step) (entries : List (Entry Tiles TilingRule)) (terms : List Term) → IsKeptSpec words trace entries terms → IsFileText (spec_text words trace entries terms) (file_of words trace entries terms)
