-- Room for preimages, taken pattern by pattern and list by list.
use Rattle.std.proofs.Common.{◌≡◌, ◌<◌, ◌≤◌, ◌+◌, ◌-◌, ℕ, Bool, true, false, List, [], ◌∷◌, length, get_or, take, refl, sym, ap, ◌∙◌, arith}
use Rattle.std.specs.Prelude.{nat_le, sum_by, Option, Some, None, if◌then◌else◌}
use Rattle.std.proofs.lemmas.Bool.Decides.{nat_tests}
use Rattle.std.proofs.lemmas.List.{take_all}
use Rattle.std.proofs.lemmas.List.Sums.{sum_by-append, sum_by-cons, sum_by_more_le}
use Rattle.gridded.specs.Grids.{Point}
use Rattle.coord_maps.specs.declared.grid_map.GridMap.{GridMap}
use Rattle.rule_kinds.specs.Conditions.{all_of, preimages_in}
use Rattle.separation.specs.Rooms.{room_left}

fits : (n room : ℕ) → n ≤ room → nat_le n room ≡ true
fits n room l = grind (arith, nat_tests)

exceeds : (n room : ℕ) → room < n → nat_le n room ≡ false
exceeds n room l = grind (arith, nat_tests)

-- ---- what is left
none_cases : (room n : ℕ) (b : Bool) → nat_le n room ≡ b → (answer : Option ℕ) → answer ≡ (if b then Some (room - n) else None) → answer ≡ None → room < n
none_cases room n true e answer f g = absurd (clash (room - n) (sym g ∙ f))
  where
    clash : (l : ℕ) → None ≡ Some l → ⊥
    clash l s = cc
none_cases room n false e answer f g = grind (arith, nat_tests)

pub none_left : (room n : ℕ) (answer : Option ℕ) → answer ≡ room_left room n → answer ≡ None → room < n
none_left room n answer e f = none_cases room n (nat_le n room) refl answer e f

-- ---- item by item
module _ {X : Type 0} (f : X → ℕ) (xs : List X) (i : ℕ) (d : X) (room left count : ℕ) (within : i < length xs) (so_far : left + sum_by f (take i xs) ≡ room) (is : count ≡ f (get_or xs i d)) where
  pub one_too_many : left < count → room < sum_by f xs
  one_too_many l = let a = sum_by_more_le f xs i d within in omega arith

pub all_fit : {X : Type 0} (f : X → ℕ) (xs : List X) (i room left : ℕ) → length xs ≤ i → left + sum_by f (take i xs) ≡ room → left + sum_by f xs ≡ room
all_fit f xs i room left l e = rw (take_all i xs l) at e

-- ---- lists
pub in_lists : (m : GridMap) (lists : List (List (List Point))) → preimages_in m (all_of lists) ≡ sum_by (λ patterns. preimages_in m patterns) lists
in_lists m [] = refl
in_lists m (patterns ∷ lists) = sum_by-append _ patterns (all_of lists) ∙ ap (λ n. preimages_in m patterns + n) (in_lists m lists) ∙ sym (sum_by-cons (λ patterns. preimages_in m patterns) patterns lists)

pub lists_too_many : (m : GridMap) (lists : List (List (List Point))) (room : ℕ) → room < sum_by (λ patterns. preimages_in m patterns) lists → false ≡ nat_le (preimages_in m (all_of lists)) room
lists_too_many m lists room l = sym (ap (λ n. nat_le n room) (in_lists m lists) ∙ exceeds (sum_by (λ patterns. preimages_in m patterns) lists) room l)

pub lists_enough : (m : GridMap) (lists : List (List (List Point))) (room left : ℕ) → left + sum_by (λ patterns. preimages_in m patterns) lists ≡ room → true ≡ nat_le (preimages_in m (all_of lists)) room
lists_enough m lists room left e = sym (ap (λ n. nat_le n room) (in_lists m lists) ∙ fits (sum_by (λ patterns. preimages_in m patterns) lists) room (omega arith))
