-- One rule, which makes the number.
use Rattle.std.proofs.Common.{◌≡◌, ◌*◌, ℕ, List, [], ◌∷◌, length, refl, ap, sym, subst, ◌∙◌, arith}
use Rattle.std.specs.Prelude.{sum_by}
use Rattle.std.proofs.lemmas.List.Sums.{sum_by-cons}
use Rattle.lists.specs.Members.{IsIn}
use Rattle.lists.proofs.Members.{only_in}
use Rattle.css_domain.specs.Shapes.{combine}
use Rattle.css_prune.specs.declared.spec_tests.Pair.{Pair}
use Rattle.css_prune.proofs.spec_tests.filing_of.Goals as goal

-- the words of rules with two children
four_each : (rules : List Pair) → sum_by (λ (r : Pair). 4) rules ≡ 4 * length rules
four_each [] = refl
four_each (r ∷ rules) = let e = sum_by-cons (λ (p : Pair). 4) r rules in omega (arith, e, four_each rules)

pub returns : goal.returns
returns c =
    let e : c.of.result ≡ (c.rule_of.result ∷ []) = c.of.ensures ∙ c.in_ok-rules.ensures.items in
    λ book. record {
      hold = λ r i. subst (λ (x : Pair). (n : ℕ) → 0 ≡ combine x.shape ((λ m. 0) ∷ (λ m. 0) ∷ []) n) (sym (only_in (subst (λ (xs : List Pair). IsIn r xs) e i))) c.rule_of.ensures.holds;
      own = λ r i. ap (λ (x : Pair). x.parent) (only_in (subst (λ (xs : List Pair). IsIn r xs) e i)) ∙ c.rule_of.ensures.own;
      complete = λ some. tt;
      small = let w = four_each c.of.result in omega (arith, w, ap (λ (xs : List Pair). length xs) e);
    }
