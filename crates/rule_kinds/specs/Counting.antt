-- What a rule says of counts, as facts that clauses can name.
use Rattle.std.specs.Prelude.{◌≡◌, ℕ, map}
use Rattle.css_domain.specs.Shapes.{combine}
use Rattle.tiling_core.specs.Tiles.{count}
use Rattle.rule_kinds.specs.Rules.{TilingRule}
use Rattle.rule_kinds.specs.Kinds.{shape_of}
use Rattle.rule_kinds.specs.Follows.{Follows}

-- the count of the parent combines those of the children, at each length
abbrev pub CountsCombine : TilingRule → Type 0
CountsCombine r = (n : ℕ) → count r.parent n ≡ combine (shape_of r.kind) (map count r.children) n

-- so does each rule that follows
abbrev pub RulesCount : Type 0
RulesCount = (r : TilingRule) → Follows r → CountsCombine r
