-- What a reader keeps, from line to line.
use Rattle.std.specs.Prelude.{◌≡◌, ◌≤◌, ◌<◌, ◌+◌, ℕ, suc, List, [], length, All, Option, None}
use Rattle.steps.specs.declared.step.Step.{Step}
use Rattle.spec_lines.specs.Files.{FileEntry}
use Rattle.spec_lines.specs.Follows.{Place}
use Rattle.spec_lines.specs.Follows.Place.{AtFirst, AtBasis, AtRoot, AtCount, AtEntry, AtGrid, AtObstructions, AtRequirements, AtRule, AtChild, AtTerms, AtEnd, Done}
use Rattle.spec_reader.specs.Positions.{IsPlaced, place_of}
use Rattle.spec_reader.specs.Drafts.{Built, AreParts, IsMakeable}
use Rattle.spec_reader.specs.declared.places.Position.{Position}

-- children of this many entries, with a trace each
pub record AreChildren (count : ℕ) (children : List ℕ) (traces : List (List Step)) : Type 0 where
  pub as_many : length traces ≡ length children
  pub below : All (λ child. child < count) children

-- an entry that has been read to its end
abbrev pub IsWhole : ℕ → FileEntry → Type 0
IsWhole count e = AreChildren count e.children e.traces × IsMakeable e

-- so many entries have been read to their end, and so many come after the next one
pub record IsCounted (number left : ℕ) (b : Built) : Type 0 where
  pub many : length b.entries ≡ number
  pub count : b.count ≡ number + suc left

pub record HasParts (number left : ℕ) (b : Built) : Type 0 where
  pub counted : IsCounted number left b
  pub parts : AreParts b.width b.height b.obstructions b.requirements

-- as much of the entry that has begun as has been read makes a tiling as it stands
abbrev pub IsBuilt : Place → Built → Type 0
IsBuilt AtFirst b = b.entries ≡ []
IsBuilt AtBasis b = b.entries ≡ []
IsBuilt AtRoot b = b.entries ≡ []
IsBuilt AtCount b = b.entries ≡ []
IsBuilt (AtEntry i left) b = IsCounted i left b
IsBuilt (AtGrid i left) b = IsCounted i left b
IsBuilt (AtObstructions i left) b = IsCounted i left b × AreParts b.width b.height [] []
IsBuilt (AtRequirements i left) b = IsCounted i left b × AreParts b.width b.height b.obstructions []
IsBuilt (AtRule i left) b = HasParts i left b
IsBuilt (AtChild i left more) b = HasParts i left b × AreChildren b.count b.children b.traces
IsBuilt AtTerms b = length b.entries ≡ b.count
IsBuilt AtEnd b = length b.entries ≡ b.count
IsBuilt Done b = length b.entries ≡ b.count

pub record IsSound (p : Place) (b : Built) : Type 0 where
  pub built : IsBuilt p b
  pub each : All (λ e. IsWhole b.count e) b.entries
  pub few : b.count ≤ 4294967296

pub record IsKept (p : Position) (lines : ℕ) (limit : Option ℕ) (b : Built) : Type 0 where
  pub placed : IsPlaced p
  pub numbers : p.number ≤ lines
  pub sound : limit ≡ None → IsSound (place_of p) b
