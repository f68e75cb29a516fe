use Rattle.std.proofs.Common.{◌≡◌, ◌++◌, length}
use Rattle.std.specs.Prelude.{option_map}
use Rattle.spec_lines.specs.Items.{read_all}
use Rattle.line_readers.proofs.spelt.read_all.Given as goal

-- the values so far, before those of the items that are left, are all
abbrev pub invariant-loop-item : goal.invariant-loop-item
invariant-loop-item g l = record {
  told : option_map (λ xs. l.values.items ++ xs) (read_all g.T.Spelt.spelt l.items) ≡ read_all g.T.Spelt.spelt l.initial.items;
}

abbrev pub decreases-loop-item : goal.decreases-loop-item
decreases-loop-item g l = length l.items
