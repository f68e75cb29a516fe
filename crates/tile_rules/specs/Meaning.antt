-- Tilings and their rules as a domain.
use Rattle.tiling_core.specs.Tiles.{Tiles, count}
use Rattle.tiling_core.specs.Measures.{is_positive}
use Rattle.tiling_core.specs.Same.{tiles_eq}
use Rattle.css_domain.specs.Meanings.{Meaning}
use Rattle.rule_kinds.specs.Rules.{TilingRule}
use Rattle.rule_kinds.specs.Kinds.{shape_of}
use Rattle.rule_kinds.specs.Follows.{Follows}
use Rattle.tile_rules.specs.Complete.{IsCompleteFor}

abbrev pub tile_meaning : Meaning Tiles TilingRule
tile_meaning = record {
  same = tiles_eq;
  positive = is_positive;
  count = count;
  parent = λ r. r.parent;
  children = λ r. r.children;
  shape = λ r. shape_of r.kind;
  holds = Follows;
  complete = IsCompleteFor;
}
