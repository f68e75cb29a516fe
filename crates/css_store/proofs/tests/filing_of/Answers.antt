-- The rules make the number, and are few.
use Rattle.std.proofs.Common.{◌≡◌, ◌*◌, List, [], ◌∷◌, length, refl, ap, subst, ◌∙◌, ⊎_elim, arith}
use Rattle.std.specs.Prelude.{sum_by}
use Rattle.std.proofs.lemmas.List.Sums.{sum_by-cons}
use Rattle.std.proofs.lemmas.List.{length-append}
use Rattle.lists.specs.Members.{IsIn}
use Rattle.lists.proofs.Members.{IsIn-append_cases, only_in}
use Rattle.css_store.specs.declared.tests.Pair.{Pair}
use Rattle.css_store.proofs.tests.filing_of.Goals as goal

pub loop-pair-preserved : goal.loop-pair-preserved
loop-pair-preserved c =
    let e = c.in_ok-push.ensures.items in
    let k = ap (λ (xs : List Pair). length xs) e ∙ length-append c.loop-pair.rules.items _ in (
      λ r i. ⊎_elim {C = r.parent ≡ c.args.parent} (λ old. c.loop-pair.invariant.0 r old) (λ new. ap (λ (x : Pair). x.parent) (only_in new)) (IsIn-append_cases c.loop-pair.rules.items _ (subst (λ (xs : List Pair). IsIn r xs) e i)),
      omega (arith, k, c.loop-pair.invariant.1),
    )

-- the words of rules with two children
four_each : (rules : List Pair) → sum_by (λ (r : Pair). 4) rules ≡ 4 * length rules
four_each [] = refl
four_each (r ∷ rules) = let e = sum_by-cons (λ (p : Pair). 4) r rules in omega (arith, e, four_each rules)

pub returns : goal.returns
returns c = λ book. (
  c.args.parent,
  record {
    hold = λ r i. tt;
    own = λ r i. c.loop-pair.invariant.0 r (subst (λ (xs : List Pair). IsIn r xs) c.of.ensures i);
    complete = λ some. tt;
    small = let w = four_each c.of.result in omega (arith, w, ap length c.of.ensures, c.loop-pair.invariant.1, c.requires);
  },
)
