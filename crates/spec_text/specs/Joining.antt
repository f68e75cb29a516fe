-- How entries are joined that name others by their numbers.
use Rattle.std.specs.Prelude.{◌≡◌, ◌<◌, ℕ, List, length, map, All, slice_get, Option, option_map}
use Rattle.tiling_core.specs.Tiles.{Tiles}
use Rattle.css_domain.specs.Entries.{Entry}
use Rattle.rule_kinds.specs.Rules.{TilingRule}
use Rattle.spec_lines.specs.Files.{FileEntry}
use Rattle.spec_text.specs.Files.{file_entry}
use Rattle.spec_text.specs.Joined.{AreJoined}

-- the class of the draft of a number, where there is one
abbrev pub class_of : List FileEntry → ℕ → Option Tiles
class_of drafts number = option_map (λ d. d.class) (slice_get drafts number)

-- the classes of the drafts of these numbers
abbrev pub family_of : List FileEntry → List ℕ → List (Option Tiles)
family_of drafts numbers = map (class_of drafts) numbers

-- the entry of a draft, whose rule has these children
abbrev pub with_children : FileEntry → List Tiles → Entry Tiles TilingRule
with_children d family = record { class = d.class; rule = record { kind = d.kind; parent = d.class; children = family; traces = d.traces }; children = d.children; rank = d.rank }

-- children are numbers of drafts
abbrev pub AreNumbers : List FileEntry → Type 0
AreNumbers drafts = All (λ d. All (λ number. number < length drafts) d.children) drafts

-- joined entries that tell what the drafts tell
pub record IsJoining (drafts : List FileEntry) (entries : List (Entry Tiles TilingRule)) : Type 0 where
  pub same : map file_entry entries ≡ drafts
  pub joined : AreJoined entries
