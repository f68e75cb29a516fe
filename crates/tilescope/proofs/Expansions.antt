-- What is filed for a tiling by a pack.
use Rattle.std.proofs.Common.{◌≡◌, ◌≤◌, ℕ, List, [], refl, arith, Result, Ok, Err}
use Rattle.std.specs.Prelude.{IfOk}
use Rattle.steps.specs.declared.step.Step.{Step}
use Rattle.steps.specs.Traces.{IsTrace, IsNormal}
use Rattle.steps.specs.Traces.IsTrace.{ended}
use Rattle.normal_form.specs.TraceLaws.{TraceIsFunctional, NormalWhereNoneIsFirst}
use Rattle.tiling_core.specs.Tiles.{Tiles, IsTiling}
use Rattle.css_domain.specs.LedgerFacts.{filing_words}
use Rattle.css_crew.specs.Ways.{IsExpansion}
use Rattle.rule_kinds.specs.Choices.{Packs}
use Rattle.rule_kinds.specs.Follows.{Follows}
use Rattle.rule_kinds.specs.Rules.{TilingRule}
use Rattle.tile_rules.specs.Complete.{IsComplete, IsCompleteFor, rulebook_of}
use Rattle.tile_rules.specs.Meaning.{tile_meaning}
use Rattle.tiling_core.proofs.Minimal.{each_of}

-- a normal tiling has no steps in its trace
pub no_steps : (t : Tiles) (steps : List Step) → IsTiling t → IsNormal t → IsTrace t steps → NormalWhereNoneIsFirst → TraceIsFunctional → steps ≡ []
no_steps t steps tiling normal traced where_none functional = functional t steps [] traced (ended ((where_none t tiling).1 normal))

-- of the filing of a tiling that is not normal nothing is asked
pub none_filed : (rulebook : ℕ) (t : Tiles) → (IsNormal t → ⊥) → IsExpansion tile_meaning rulebook t []
none_filed rulebook t not_normal =
    record {
      filing = record { hold = λ r h. elim h [ ]; own = λ r h. elim h [ ]; complete = λ some. absurd (some refl); small = omega arith };
      whole = λ some normal packs same. absurd (not_normal normal);
    }

-- the complete filing by a pack
pub some_filed : (packs : Packs) (t : Tiles) (rules : List TilingRule) → IsComplete rules t packs → IsCompleteFor (rulebook_of packs) t rules → filing_words tile_meaning rules ≤ 2048 → IsExpansion tile_meaning (rulebook_of packs) t rules
some_filed packs t rules whole complete small =
    record {
      filing = record { hold = λ r h. each_of Follows h whole.follow; own = λ r h. each_of (λ (rule : TilingRule). rule.parent ≡ t) h whole.of_parent; complete = λ some. complete; small = small };
      whole = complete;
    }

-- the same of an answer
pub all_filed : {E : Type 0} (packs : Packs) (t : Tiles) (r : Result (List TilingRule) E) → IfOk r (λ rules. IsComplete rules t packs) → IfOk r (λ rules. IsCompleteFor (rulebook_of packs) t rules) → IfOk r (λ rules. filing_words tile_meaning rules ≤ 2048) → IfOk r (λ rules. IsExpansion tile_meaning (rulebook_of packs) t rules)
all_filed packs t (Ok rules) whole complete small = some_filed packs t rules whole complete small
all_filed packs t (Err e) whole complete small = tt
