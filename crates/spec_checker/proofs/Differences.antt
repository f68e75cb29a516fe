-- The first place where two lists of terms differ.
use Rattle.std.proofs.Common.{◌≡◌, ◌<◌, ◌≤◌, ◌+◌, ℕ, zero, suc, Bool, true, false, List, [], ◌∷◌, length, get_or, refl, sym, ◌∙◌, subst, ⊎_elim, arith}
use Rattle.std.specs.Prelude.{slice_get, Some, IsTrue}
use Rattle.std.proofs.lemmas.Option.{slice_get_past}
use Rattle.lists.proofs.Places.{at_place}
use Rattle.lists.proofs.Numbers.{less_or_whole}
use Rattle.css_prune.proofs.FirstFaults.{not_both}
use Rattle.css_terms.specs.declared.term.Term.{Term}
use Rattle.spec_checker.specs.Refusing.{IsFirstDifference}

pub get_some : {X : Type 0} (xs : List X) (i : ℕ) (d : X) → i < length xs → slice_get xs i ≡ Some (get_or xs i d)
get_some [] i d l = absurd (omega (arith, l))
get_some (x ∷ xs) zero d l = refl
get_some (x ∷ xs) (suc i) d l = get_some xs i d (omega (arith, l))

-- the lists agree before a place
abbrev pub AgreeBefore : List Term → List Term → ℕ → Type 0
AgreeBefore items others k = (m : ℕ) → m < k → slice_get items m ≡ slice_get others m

pub agree_more : (items others : List Term) (k : ℕ) (d : Term) (told : Bool) → k < length items → told ≡ true → (IsTrue told → slice_get others k ≡ Some (get_or items k d)) → AgreeBefore items others k → AgreeBefore items others (k + 1)
agree_more items others k d told l e h a m less =
    ⊎_elim {C = slice_get items m ≡ slice_get others m} (a m) (λ same. subst (λ j. slice_get items j ≡ slice_get others j) (sym same) (get_some items k d l ∙ sym (h e))) (less_or_whole m k (omega (arith, less)))

pub differ_here : (items others : List Term) (k : ℕ) (d : Term) (told : Bool) → k < length items → told ≡ false → (slice_get others k ≡ Some (get_or items k d) → IsTrue told) → AgreeBefore items others k → IsFirstDifference items others k
differ_here items others k d told l e h a = record { same = a; differ = λ s. not_both told e (h (sym s ∙ get_some items k d l)) }

pub differ_past : (items others : List Term) (k : ℕ) → k ≡ length items → k < length others → AgreeBefore items others k → IsFirstDifference items others k
differ_past items others k e l a =
    let none = slice_get_past items k (omega (arith, e)) in
    let some = at_place others k l in
    record { same = a; differ = λ s. absurd cc }

pub same_lists : (items others : List Term) → length others ≤ length items → AgreeBefore items others (length items) → items ≡ others
same_lists [] [] l a = refl
same_lists [] (y ∷ others) l a = absurd (omega (arith, l))
same_lists (x ∷ items) [] l a = let e = a 0 (omega arith) in absurd cc
same_lists (x ∷ items) (y ∷ others) l a =
    let e = a 0 (omega arith) in
    let first : x ≡ y = cc in
    let rest : items ≡ others = same_lists items others (omega (arith, l)) (λ m less. a (suc m) (omega (arith, less))) in
    λ i. first i ∷ rest i
