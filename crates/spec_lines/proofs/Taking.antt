-- What is read, taken apart: tests, options and items that are read one by one.
use Rattle.std.proofs.Common.{◌≡◌, ℕ, Bool, true, false, cond, List, [], ◌∷◌, map, arith, refl, ap, sym, ◌∙◌}
use Rattle.std.specs.Prelude.{nat_eq, Option, Some, None, option_map, option_and_then}
use Rattle.std.specs.List.{list_all}
use Rattle.std.specs.Cmp.{first_so, second_so}
use Rattle.std.proofs.lemmas.Grind.{common_steps}
use Rattle.std.proofs.lemmas.Option.{none-some, same_Some}
use Rattle.sequences.specs.Ascending.{exact_sequences}
use Rattle.spec_lines.specs.Lines.{Text}
use Rattle.spec_lines.specs.Items.{keep_if, same, read_all}

pub kept : {X : Type 0} (b : Bool) (x y : X) → keep_if b x ≡ Some y → (b ≡ true) × (x ≡ y)
kept true x y h = (refl, same_Some x y h)
kept false x y h = absurd (none-some y h)

pub mapped : {A B : Type 0} (f : A → B) (o : Option A) (y : B) → option_map f o ≡ Some y → (x : A) × (o ≡ Some x) × (f x ≡ y)
mapped f None y e = absurd (none-some y e)
mapped f (Some x) y e = (x, refl, same_Some (f x) y e)

pub bound : {A B : Type 0} (f : A → Option B) (o : Option A) (y : B) → option_and_then f o ≡ Some y → (x : A) × (o ≡ Some x) × (f x ≡ Some y)
bound f None y e = absurd (none-some y e)
bound f (Some x) y e = (x, refl, e)

-- items that are read are spelled so, and items that are spelled are read
pub all_take : {X : Type 0} (read : Text → Option X) (text : X → Text) → ((t : Text) (x : X) → read t ≡ Some x → t ≡ text x) → (ts : List Text) (xs : List X) → read_all read ts ≡ Some xs → ts ≡ map text xs
all_take read text takes [] xs h = ap (map text) (same_Some [] xs h)
all_take read text takes (t ∷ ts) xs h =
    let first = bound (λ x. option_map (λ xs. x ∷ xs) (read_all read ts)) (read t) xs h in
    let others = mapped (λ xs. first.0 ∷ xs) (read_all read ts) xs (first.2) in
    ap (λ u. u ∷ ts) (takes t (first.0) (first.1)) ∙ ap (λ us. text (first.0) ∷ us) (all_take read text takes ts (others.0) (others.1)) ∙ ap (map text) (others.2)

pub all_again : {X : Type 0} (read : Text → Option X) (text : X → Text) (good : X → Bool) → ((x : X) → good x ≡ true → read (text x) ≡ Some x) → (xs : List X) → list_all good xs ≡ true → read_all read (map text xs) ≡ Some xs
all_again read text good again [] h = refl
all_again read text good again (x ∷ xs) h =
    ap (option_and_then (λ x. option_map (λ xs. x ∷ xs) (read_all read (map text xs)))) (again x (first_so (good x) (list_all good xs) h))
    ∙ ap (option_map (λ xs. x ∷ xs)) (all_again read text good again xs (second_so (good x) (list_all good xs) h))

pub choose : {X P : Type 0} (b : Bool) (x y : Option X) (z : X) → cond b x y ≡ Some z → (b ≡ true → x ≡ Some z → P) → (y ≡ Some z → P) → P
choose true x y z h first other = first refl h
choose false x y z h first other = other h

pub equal_tests : (m n : ℕ) → m ≡ n → nat_eq m n ≡ true
equal_tests m n h = grind (arith, common_steps, h)

pub equal_numbers : (m n : ℕ) → nat_eq m n ≡ true → m ≡ n
equal_numbers m n h = grind (arith, common_steps, h)

pub same_text : (a b : Text) → same a b ≡ true → a ≡ b
same_text = exact_sequences equal_numbers

-- a text that is read isn't one that can't be read
pub differs : {X : Type 0} (read : Text → Option X) (t w : Text) (x : X) → read t ≡ Some x → read w ≡ None → same t w ≡ false
differs read t w x h none = by_test (same t w) (same_text t w) where
  by_test : (b : Bool) → (b ≡ true → t ≡ w) → b ≡ false
  by_test true e = absurd (none-some x (sym none ∙ sym (ap read (e refl)) ∙ h))
  by_test false e = refl
