use Rattle.std.proofs.Common.{rules, tests, ◌∙◌, sym, Bor, List, ℕ, length}
use Rattle.std.specs.Prelude.{◌==◌}
use Rattle.std.proofs.lemmas.Iterator.{YieldsList-from_slice}
use Rattle.std.proofs.lemmas.Iterator.Search.{any_from_yields_List}
use Rattle.lists.proofs.Tests.{list_any-map}
use Rattle.perm_core.proofs.basis.has_empty_word.Goals as goal

pub returns : goal.returns
returns c =
    any_from_yields_List (λ (w : Bor (List ℕ)). length w.now == 0) _ _ _ c.any.ensures.ran (YieldsList-from_slice c.args.words.now cc) (λ x r q k. search (rules, tests))
    ∙ sym (list_any-map (λ (w : List ℕ). length w == 0) (λ (w : Bor (List ℕ)). w.now) c.args.words.now)
