-- Complete filings.
use Rattle.std.specs.Prelude.{◌≡◌, ◌<◌, ◌+◌, ℕ, cond, List, map, All}
use Rattle.tiling_core.specs.Tiles.{Tiles}
use Rattle.steps.specs.Traces.{IsNormal}
use Rattle.normal_form.specs.TraceLaws.{trace}
use Rattle.rule_kinds.specs.Rules.{TilingRule}
use Rattle.rule_kinds.specs.Children.{raw_children}
use Rattle.rule_kinds.specs.Choices.{Packs, kinds_of}
use Rattle.rule_kinds.specs.Follows.{Follows}

-- the rules have exactly the kinds of the class in order, each follows, and each trace is that of its raw child
pub record IsComplete (rules : List TilingRule) (t : Tiles) (packs : Packs) : Type 0 where
  pub kinds : map (λ (r : TilingRule). r.kind) rules ≡ kinds_of t packs
  pub of_parent : All (λ (r : TilingRule). r.parent ≡ t) rules
  pub follow : All Follows rules
  pub traced : All (λ (r : TilingRule). r.traces ≡ map trace (raw_children t r.kind)) rules

-- the number of a pack: 1 for i, 2 for r, 4 for c, 8 for p, 16 for f, 32 for s and 64 for n
abbrev pub rulebook_of : Packs → ℕ
rulebook_of packs =
    cond packs.i 1 0 + cond packs.r 2 0 + cond packs.c 4 0 + cond packs.p 8 0 + cond packs.f 16 0 + cond packs.s 32 0 + cond packs.n 64 0

-- rulebook 0 asks nothing; that of a pack with a letter asks for the complete filing of each normal class
abbrev pub IsCompleteFor : ℕ → Tiles → List TilingRule → Type 0
IsCompleteFor rulebook t rules = 0 < rulebook → IsNormal t → (packs : Packs) → rulebook_of packs ≡ rulebook → IsComplete rules t packs
