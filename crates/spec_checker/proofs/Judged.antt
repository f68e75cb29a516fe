-- What the passes find, put together.
use Rattle.std.proofs.Common.{◌≡◌, ℕ, List, length, sym, ap, ◌∙◌, subst}
use Rattle.std.specs.Prelude.{Option, IfNone, Some, None}
use Rattle.patterns.specs.Occurs.{avoiders}
use Rattle.tiling_core.specs.Tiles.{Tiles}
use Rattle.tiling_core.specs.Roots.{root_of}
use Rattle.steps.specs.declared.step.Step.{Step}
use Rattle.steps.specs.Traces.{replay}
use Rattle.css_domain.specs.Entries.{Entry, class_counts}
use Rattle.css_terms.specs.declared.term.Term.{Term}
use Rattle.rule_kinds.specs.Rules.{TilingRule}
use Rattle.tile_rules.specs.Meaning.{tile_meaning}
use Rattle.spec_text.specs.declared.file.SpecFile.{SpecFile}
use Rattle.spec_text.specs.Joined.{class_at}
use Rattle.spec_checker.specs.Accepting.{capped_counts}
use Rattle.spec_checker.specs.Refusing.{AreRulesRight, IsFirstDifference}
use Rattle.spec_checker.specs.Passing.{HaveRightRanks, IsRightAtRoot, IsRightInRules, IsRightInRanks}

pub if_none : {X : Type 0} (o : Option X) (P : Type 0) → IfNone o P → o ≡ None → P
if_none None P h e = h
if_none (Some x) P h e = absurd cc

pub at_root : (basis : List (List ℕ)) (f : SpecFile) (words : List (List ℕ)) (trace : List Step) (entries : List (Entry Tiles TilingRule)) → words ≡ f.basis → trace ≡ f.root_trace → entries ≡ f.entries → words ≡ basis → replay (root_of basis) trace ≡ class_at entries 0 → IsRightAtRoot basis f
at_root basis f words trace entries a b c same rooted =
    record { words = sym a ∙ same; rooted = ap (replay (root_of basis)) (sym b) ∙ rooted ∙ ap (λ (es : List (Entry Tiles TilingRule)). class_at es 0) c }

pub in_rules : (basis : List (List ℕ)) (f : SpecFile) (entries : List (Entry Tiles TilingRule)) → entries ≡ f.entries → IsRightAtRoot basis f → AreRulesRight entries → IsRightInRules basis f
in_rules basis f entries e start rules = record { start = start; rules = subst AreRulesRight e rules }

pub in_ranks : (basis : List (List ℕ)) (f : SpecFile) (entries : List (Entry Tiles TilingRule)) → entries ≡ f.entries → IsRightInRules basis f → HaveRightRanks entries → IsRightInRanks basis f
in_ranks basis f entries e before ranks = record { before = before; ranks = subst HaveRightRanks e ranks }

-- the counts that were evaluated
pub counts_for : (told items : List Term) (entries others : List (Entry Tiles TilingRule)) (many length : ℕ) → told ≡ items → items ≡ capped_counts entries many → entries ≡ others → many ≡ length → told ≡ capped_counts others length
counts_for told items entries others many length a b c d = a ∙ b ∙ (λ i. capped_counts (c i) (d i))

pub differ_of : (items terms others counts : List Term) (n : ℕ) → items ≡ terms → others ≡ counts → IsFirstDifference items others n → IsFirstDifference terms counts n
differ_of items terms others counts n e f d = subst (λ (ts : List Term). IsFirstDifference ts counts n) e (subst (λ (us : List Term). IsFirstDifference items us n) f d)

pub avoiders_of : (basis : List (List ℕ)) (entries others : List (Entry Tiles TilingRule)) → entries ≡ others → ((n : ℕ) → class_counts tile_meaning entries 0 n ≡ avoiders basis n) → (n : ℕ) → class_counts tile_meaning others 0 n ≡ avoiders basis n
avoiders_of basis entries others e h = subst (λ (es : List (Entry Tiles TilingRule)). (n : ℕ) → class_counts tile_meaning es 0 n ≡ avoiders basis n) e h
