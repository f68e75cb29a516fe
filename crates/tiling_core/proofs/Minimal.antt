-- Obstructions that hold another one can go.
use Rattle.std.proofs.Common.{◌≡◌, ◌<◌, ◌≤◌, ℕ, zero, suc, Bool, true, false, List, length, refl, ap, ◌∙◌, arith}
use Rattle.std.specs.Prelude.{◌&&◌, not, nat_lt, All}
use Rattle.std.specs.List.{list_all}
use Rattle.std.proofs.lemmas.Bool.Decides.{nat_tests}
use Rattle.std.proofs.lemmas.List.Elements.{All-head, All-tail}
use Rattle.std.proofs.lemmas.Bool.{false_from_ne_true, and_parts, not-true, not_from_false}
use Rattle.lists.specs.Members.IsIn.{here, later}
use Rattle.lists.proofs.Tests.{which_passes, each_passes, all_pass, same_test}
use Rattle.lists.specs.Members.{IsIn}
use Rattle.lists.proofs.Members.{IsIn-filter, from_IsIn-filter}
use Rattle.gridded.specs.Grids.{Point, Holds, IsGridded, holds}
use Rattle.gridded.specs.Orders.{gridded_eq}
use Rattle.gridded.specs.OrderLaws.{gridded_eq_decides}
use Rattle.tiling_core.specs.Tiles.{AreGridded}
use Rattle.gridded.specs.Places.{fits_grid}
use Rattle.tiling_core.specs.Patterns.{holds_another, minimal, with_minimal}
use Rattle.tiling_core.specs.Counts.{MinimalKeepsMembers, MinimalKeepsCounts}
use Rattle.tiling_core.proofs.Deciding.{not_held}
use Rattle.gridded.proofs.Holding.{holds_decides, Holds-itself, Holds-trans, Holds-as_long}
use Rattle.tiling_core.proofs.Ordered.{holds_each, is_member-tiling_of}
use Rattle.tiling_core.proofs.Counted.{same_members_count}

pub each_of : {X : Type 0} (P : X → Type 0) {x : X} {xs : List X} → IsIn x xs → All P xs → P x
each_of P {x = x} (here {xs = xs}) a = All-head P x xs a
each_of P (later {xs = xs} y m) a = each_of P m (All-tail P y xs a)

-- ---- what is held is shorter, or the same
held_shorter : (g p : List Point) → IsGridded g → IsGridded p → Holds g p → gridded_eq g p ≡ false → length p < length g
held_shorter g p a b h d = go (nat_lt (length p) (length g)) refl
  where
    differ : (t : Bool) → t ≡ false → t ≡ true → ⊥
    differ true e f = cc
    differ false e f = cc

    go : (t : Bool) → nat_lt (length p) (length g) ≡ t → length p < length g
    go true e = grind (arith, nat_tests)
    go false e =
        let long : length g ≤ length p = grind (arith, nat_tests) in
        absurd (differ (gridded_eq g p) d ((gridded_eq_decides g p).1 (Holds-as_long g p a b h long)))

-- ---- each pattern holds a minimal one
pub holds_minimal : (patterns : List (List Point)) → AreGridded patterns → (k : ℕ) (p : List Point) → length p < k → IsIn p patterns → (q : List Point) × IsIn q (minimal patterns) × Holds p q
holds_minimal patterns a zero p l m = absurd (omega arith)
holds_minimal patterns a (suc k) p l m = go (holds_another patterns p) refl (λ q s n. holds_minimal patterns a k q s n)
  where
    go : (b : Bool) → holds_another patterns p ≡ b → ((q : List Point) → length q < k → IsIn q patterns → (r : List Point) × IsIn r (minimal patterns) × Holds q r) → (q : List Point) × IsIn q (minimal patterns) × Holds p q
    go false e ih = (p, IsIn-filter (λ g. not (holds_another patterns g)) m (not_from_false (holds_another patterns p) e), Holds-itself p)
    go true e ih =
        let other = which_passes (λ q. not (gridded_eq p q) && holds p q) patterns e in
        let tests = and_parts (not (gridded_eq p other.0)) (holds p other.0) other.2 in
        let held = (holds_decides p other.0).0 tests.1 in
        let shorter = held_shorter p other.0 (each_of (λ g. IsGridded g) m a) (each_of (λ g. IsGridded g) other.1 a) held (not-true (gridded_eq p other.0) tests.0) in
        let least = ih other.0 (omega arith) other.1 in
        (least.0, least.1, Holds-trans p other.0 least.0 held least.2)

-- ---- members
none_of_minimal : (patterns : List (List Point)) → AreGridded patterns → (g : List Point) → list_all (λ p. not (holds g p)) (minimal patterns) ≡ list_all (λ p. not (holds g p)) patterns
none_of_minimal patterns a g = same_test (list_all test (minimal patterns)) (list_all test patterns)
    (λ e. all_pass test patterns (λ p m. not_from_false (holds g p) (false_from_ne_true (holds g p) (λ h.
    let least = holds_minimal patterns a (suc (length p)) p (omega arith) m in
    not_held (holds g least.0) (each_passes test e least.1) ((holds_decides g least.0).1 (Holds-trans g p least.0 ((holds_decides g p).0 h) least.2))))))
    (λ e. all_pass test (minimal patterns) (λ p m. each_passes test e (from_IsIn-filter (λ h. not (holds_another patterns h)) patterns m).0))
  where
    test : List Point → Bool
    test p = not (holds g p)

pub minimal_keeps_members : MinimalKeepsMembers
minimal_keeps_members t k g =
    is_member-tiling_of t.width t.height (minimal t.obstructions) t.requirements g
    ∙ ap (λ b. fits_grid t.width t.height g && (b && holds_each g t.requirements)) (none_of_minimal t.obstructions k.obstructions_gridded g)

pub minimal_keeps_counts : MinimalKeepsCounts
minimal_keeps_counts t k n = same_members_count (with_minimal t) t refl refl (minimal_keeps_members t k) n
