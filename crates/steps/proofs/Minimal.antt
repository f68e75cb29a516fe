-- The patterns of a list that hold no other of it say as much as the list.
use Rattle.std.proofs.Common.{◌≡◌, ℕ, zero, suc, ◌<◌, ◌≤◌, Bool, true, false, List, length, refl, sym, ap, ◌∙◌, arith}
use Rattle.std.specs.Prelude.{◌&&◌, not, nat_lt}
use Rattle.std.specs.List.{list_any, list_all}
use Rattle.std.proofs.lemmas.Bool.Decides.{nat_tests}
use Rattle.std.proofs.lemmas.Bool.{and_parts as and_true, and_from as both_true, not-true as not_true, not_from_false as not_false}
use Rattle.gridded.specs.Grids.{Point, holds, IsGridded}
use Rattle.gridded.specs.Orders.{gridded_eq}
use Rattle.gridded.specs.OrderLaws.{gridded_eq_decides}
use Rattle.tiling_core.specs.Patterns.{holds_another, minimal}
use Rattle.steps.proofs.ListTests.{some_passes, which_passes, none-not_any}
use Rattle.gridded.proofs.Holding.{holds_trans, holds_itself, holds_as_long}
use Rattle.lists.proofs.Tests.{same_test}
use Rattle.lists.proofs.Members.{from_IsIn-filter, IsIn-filter}
use Rattle.lists.specs.Members.{IsIn}

-- each pattern of a list is gridded
abbrev pub EachGridded : List (List Point) → Type 0
EachGridded patterns = (g : List Point) → IsIn g patterns → IsGridded g

-- another pattern that is held is shorter
pub other_is_shorter : (g p : List Point) → IsGridded g → IsGridded p → (not (gridded_eq g p) && holds g p) ≡ true → length p < length g
other_is_shorter g p k l e = go (nat_lt (length p) (length g)) refl
  where
    a : (not (gridded_eq g p) ≡ true) × (holds g p ≡ true)
    a = and_true (not (gridded_eq g p)) (holds g p) e

    go : (t : Bool) → nat_lt (length p) (length g) ≡ t → length p < length g
    go true f = grind (arith, nat_tests)
    go false f =
        let b : length g ≤ length p = grind (arith, nat_tests) in
        let same = (gridded_eq_decides g p).1 (holds_as_long g p k l a.1 b) in
        let other = not_true (gridded_eq g p) a.0 in
        absurd cc

-- a pattern holds another exactly where it holds a shorter one
pub shorter_and_held : (g p : List Point) → IsGridded g → IsGridded p → (nat_lt (length p) (length g) && holds g p) ≡ (not (gridded_eq g p) && holds g p)
shorter_and_held g p k l = same_test (nat_lt (length p) (length g) && holds g p) (not (gridded_eq g p) && holds g p)
    (λ e. let a = and_true (nat_lt (length p) (length g)) (holds g p) e in both_true (not (gridded_eq g p)) (holds g p) (not_false (gridded_eq g p) (apart (gridded_eq g p) refl a.0)) a.1)
    (λ e. let s = other_is_shorter g p k l e in both_true (nat_lt (length p) (length g)) (holds g p) (grind (arith, nat_tests)) (and_true (not (gridded_eq g p)) (holds g p) e).1)
  where
    apart : (t : Bool) → gridded_eq g p ≡ t → nat_lt (length p) (length g) ≡ true → gridded_eq g p ≡ false
    apart false e f = e
    apart true e f = let same = ap (λ (q : List Point). length q) ((gridded_eq_decides g p).0 e) in absurd (grind (arith, nat_tests))

-- some pattern that holds no other, and that is held
abbrev Least : List (List Point) → List Point → Type 0
Least patterns g = (p : List Point) × IsIn p (minimal patterns) × (holds g p ≡ true)

least_within : (patterns : List (List Point)) → EachGridded patterns → (n : ℕ) (g : List Point) → length g ≤ n → IsIn g patterns → Least patterns g
least_within patterns k zero g b m = go (holds_another patterns g) refl
  where
    go : (t : Bool) → holds_another patterns g ≡ t → Least patterns g
    go false e = (g, IsIn-filter (λ h. not (holds_another patterns h)) m (not_false (holds_another patterns g) e), holds_itself g)
    go true e =
        let w = which_passes (λ p. not (gridded_eq g p) && holds g p) patterns e in
        let s = other_is_shorter g w.0 (k g m) (k w.0 w.1) w.2 in
        absurd (omega arith)
least_within patterns k (suc n) g b m = go (holds_another patterns g) refl (least_within patterns k n)
  where
    go : (t : Bool) → holds_another patterns g ≡ t → ((p : List Point) → length p ≤ n → IsIn p patterns → Least patterns p) → Least patterns g
    go false e ih = (g, IsIn-filter (λ h. not (holds_another patterns h)) m (not_false (holds_another patterns g) e), holds_itself g)
    go true e ih =
        let w = which_passes (λ p. not (gridded_eq g p) && holds g p) patterns e in
        let s = other_is_shorter g w.0 (k g m) (k w.0 w.1) w.2 in
        let l = ih w.0 (omega arith) w.1 in
        (l.0, l.1, holds_trans g w.0 l.0 (and_true (not (gridded_eq g w.0)) (holds g w.0) w.2).1 l.2)

pub holds_least : (patterns : List (List Point)) → EachGridded patterns → (g : List Point) → IsIn g patterns → Least patterns g
holds_least patterns k g m = least_within patterns k (length g) g (omega arith) m

-- what holds a pattern of the list holds one that stays
pub holds_one_minimal : (patterns : List (List Point)) → EachGridded patterns → (g : List Point) → list_any (holds g) (minimal patterns) ≡ list_any (holds g) patterns
holds_one_minimal patterns k g = same_test (list_any (holds g) (minimal patterns)) (list_any (holds g) patterns)
    (λ e. let w = which_passes (holds g) (minimal patterns) e in some_passes (holds g) (from_IsIn-filter (λ h. not (holds_another patterns h)) patterns w.1).0 w.2)
    (λ e. let w = which_passes (holds g) patterns e in let l = holds_least patterns k w.0 w.1 in some_passes (holds g) l.1 (holds_trans g w.0 l.0 w.2 l.2))

pub holds_none_minimal : (patterns : List (List Point)) → EachGridded patterns → (g : List Point) → list_all (λ p. not (holds g p)) (minimal patterns) ≡ list_all (λ p. not (holds g p)) patterns
holds_none_minimal patterns k g =
    none-not_any (holds g) (minimal patterns) ∙ ap not (holds_one_minimal patterns k g) ∙ sym (none-not_any (holds g) patterns)

-- two patterns of those that stay are one where one holds the other
pub minimal_apart : (patterns : List (List Point)) → (g p : List Point) → IsIn g (minimal patterns) → IsIn p patterns → holds g p ≡ true → g ≡ p
minimal_apart patterns g p m i e =
    let f = not_true (holds_another patterns g) (from_IsIn-filter (λ h. not (holds_another patterns h)) patterns m).1 in
    go (gridded_eq g p) refl f
  where
    go : (t : Bool) → gridded_eq g p ≡ t → holds_another patterns g ≡ false → g ≡ p
    go true h f = (gridded_eq_decides g p).0 h
    go false h f =
        let s = some_passes (λ q. not (gridded_eq g q) && holds g q) i (rw (h, e)) in
        absurd cc
