-- Which texts are accepted for a basis.
use Rattle.std.specs.Prelude.{◌≡◌, ◌≤◌, ◌^◌, ℕ, suc, List, length, map, slice_get, Some}
use Rattle.std.specs.List.{range_with_len}
use Rattle.patterns.specs.Occurs.{avoiders}
use Rattle.tiling_core.specs.Tiles.{Tiles}
use Rattle.tiling_core.specs.Roots.{root_of}
use Rattle.steps.specs.Traces.{replay}
use Rattle.css_domain.specs.Entries.{Entry, ValidSpec, class_counts}
use Rattle.css_terms.specs.declared.term.Term.{Term}
use Rattle.css_terms.specs.declared.term.Term.TheVariants.{Exact, Big}
use Rattle.css_terms.specs.Terms.{capped, cut}
use Rattle.rule_kinds.specs.Rules.{TilingRule}
use Rattle.tile_rules.specs.Meaning.{tile_meaning}
use Rattle.spec_lines.specs.Lines.{Text}
use Rattle.spec_text.specs.declared.file.SpecFile.{SpecFile}
use Rattle.spec_text.specs.Joined.{IsReadSpec}

-- the capped counts of entry 0 for so many lengths from 0 on, as far as the first Big
abbrev pub capped_counts : List (Entry Tiles TilingRule) → ℕ → List Term
capped_counts entries many = cut (map (λ n. capped (class_counts tile_meaning entries 0 n)) (range_with_len 0 many))

-- the bytes are the text of the file, whose basis is the given one
pub record IsOfBasis (basis : List (List ℕ)) (bytes : Text) (f : SpecFile) : Type 0 where
  pub read : IsReadSpec bytes f
  pub words : f.basis ≡ basis

-- the file's entries are a specification, whose rules follow, of the tiling to which the root's trace leads from the 1x1 tiling of the basis
pub record IsSpecified (basis : List (List ℕ)) (bytes : Text) (f : SpecFile) : Type 0 where
  pub own : IsOfBasis basis bytes f
  pub root : Tiles
  pub replayed : replay (root_of basis) f.root_trace ≡ Some root
  pub valid : ValidSpec tile_meaning f.entries root

-- and the file's terms are the capped counts of entry 0, for as many lengths as it has terms
pub record IsAcceptedAs (basis : List (List ℕ)) (bytes : Text) (f : SpecFile) : Type 0 where
  pub specified : IsSpecified basis bytes f
  pub terms : f.terms ≡ capped_counts f.entries (length f.terms)

-- the text is accepted for the basis
abbrev pub Accepts : List (List ℕ) → Text → Type 0
Accepts basis bytes = (f : SpecFile) × IsAcceptedAs basis bytes f

-- the text is accepted, with so many entries and these terms
pub record IsAccepted (basis : List (List ℕ)) (bytes : Text) (entries : ℕ) (terms : List Term) : Type 0 where
  pub file : SpecFile
  pub accepted : IsAcceptedAs basis bytes file
  pub many : entries ≡ length file.entries
  pub items : terms ≡ file.terms

-- an exact term is the number of permutations of its length that avoid the basis; Big stands last alone, where that number is 2^128 or more
pub record AreCounts (basis : List (List ℕ)) (terms : List Term) : Type 0 where
  pub exact : (n x : ℕ) → slice_get terms n ≡ Some (Exact x) → x ≡ avoiders basis n
  pub big : (n : ℕ) → slice_get terms n ≡ Some Big → (length terms ≡ suc n) × (2 ^ 128 ≤ avoiders basis n)
