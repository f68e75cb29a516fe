-- What pruning answers.
use Rattle.std.specs.Prelude.{◌≡◌, ℕ, Bool, false, List, length, slice_index, slice_index_or}
use Rattle.css_domain.specs.declared.record.Record.{Record}
use Rattle.css_domain.specs.Standing.{rank_of, pick_of, TellsStanding}
use Rattle.css_prune.specs.declared.pruned.Pruned.{Pruned}

-- the classes that are kept
abbrev pub kept : List Bool → ℕ → Bool
kept keep c = slice_index_or keep c false

-- whether it is kept, a rank and a pick for each class
pub record HasLength (classes : ℕ) (pruned : Pruned) : Type 0 where
  pub keep : length pruned.keep ≡ classes
  pub rank : length pruned.rank ≡ classes
  pub pick : length pruned.pick ≡ classes

-- what stands among the records is kept and what is kept stands, with the ranks and picks
pub record IsPruned (records : List Record) (classes : ℕ) (pruned : Pruned) : Type 0 where
  pub as_many : HasLength classes pruned
  pub standing : TellsStanding records (kept pruned.keep)
  pub ranked : (c : ℕ) → slice_index pruned.rank c ≡ rank_of (kept pruned.keep) records c
  pub picked : (c : ℕ) → slice_index pruned.pick c ≡ pick_of (kept pruned.keep) records c
