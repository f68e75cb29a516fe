-- One rule, which makes its number from at most two.
use Rattle.std.proofs.Common.{◌≡◌, ◌+◌, ◌≤◌, ℕ, Bool, true, false, List, [], ◌∷◌, length, sym, subst, ◌∙◌, arith}
use Rattle.std.specs.Prelude.{if◌then◌else◌, ◌==◌, sum_by}
use Rattle.std.proofs.lemmas.List.Sums.{sum_by-cons}
use Rattle.lists.specs.Members.{IsIn}
use Rattle.lists.proofs.Members.{only_in}
use Rattle.css_store.specs.contracts.shapes_tests.FiveDomain.TheImpl.{ghosts}
use Rattle.css_store.proofs.shapes_tests.filing_of.Goals as goal

few : (a b : Bool) → length {A = ℕ} (if a then 7 ∷ 11 ∷ [] else (if b then 10 ∷ 21 ∷ [] else [])) ≤ 2
few true b = omega arith
few false true = omega arith
few false false = omega arith

pub returns : goal.returns
returns c =
    let class : ℕ = c.args.class in
    let e : c.of.result ≡ (class ∷ []) = c.of.ensures ∙ c.in_ok-rules.ensures.items in
    λ book. (
      class,
      record {
        hold = λ r i. subst (λ (x : ℕ). ghosts.meaning.holds x) (sym (only_in (subst (λ (xs : List ℕ). IsIn r xs) e i))) c.requires;
        own = λ r i. only_in (subst (λ (xs : List ℕ). IsIn r xs) e i);
        complete = λ some. tt;
        small =
            let words = sum_by-cons (λ (r : ℕ). 2 + length (ghosts.meaning.children r)) class [] in
            let two = few (class == 5) (class == 7) in
            subst (λ (xs : List ℕ). sum_by (λ (r : ℕ). 2 + length (ghosts.meaning.children r)) xs ≤ 2048) (sym e) (omega (arith, words, two));
      },
    )
