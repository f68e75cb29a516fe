use Rattle.std.proofs.Common.{◌≡◌, drop, take, map, true}
use Rattle.std.specs.List.{list_all}
use Rattle.line_readers.proofs.narrow.narrow_all.Given as goal

-- the items so far are in range
abbrev pub invariant-loop-item : goal.invariant-loop-item
invariant-loop-item g l = record {
  told : list_all g.T.Wide.fits (drop l.item-index l.items) ≡ list_all g.T.Wide.fits l.items;
  same : map g.T.Wide.wide l.values.items ≡ take l.item-index l.items;
}
