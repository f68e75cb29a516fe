-- Inferrals, and rules of tilings without members, carry members one to one.
use Rattle.std.proofs.Common.{◌≡◌, ◌<◌, ℕ, zero, suc, true, List, [], ◌∷◌, refl, ap, arith}
use Rattle.std.specs.Prelude.{not, slice_index_or}
use Rattle.std.specs.List.{list_all}
use Rattle.std.proofs.lemmas.Bool.{false_from_ne_true, and_parts, not_from_false}
use Rattle.gridded.specs.Grids.{Point, holds}
use Rattle.tiling_core.specs.Tiles.{Tiles}
use Rattle.tiling_core.specs.Carried.{MemberOf}
use Rattle.tiling_core.specs.Patterns.{also}
use Rattle.tiling_core.proofs.Further.{holding_none, holding_one, from_further, none_counted}
use Rattle.emptiness.specs.Emptiness.{MembersWithinWeight}
use Rattle.rule_kinds.specs.Children as C
use Rattle.rule_kinds.specs.Conditions as D
use Rattle.emptiness.specs.Inferable.{has_no_member, is_inferable}
use Rattle.emptiness.proofs.NoMembers.{none_of_any_length}
use Rattle.inferral_law.specs.Inferring.{InferralsCarryMembers, VoidsCarryMembers}
use Rattle.inferral_law.proofs.Unheld.{none_holds}
use Rattle.lists.proofs.Tests.{all_pass, some_passes}

held_by_none : MembersWithinWeight → (t : Tiles) (patterns : List (List Point)) → list_all (is_inferable t) patterns ≡ true → (n : ℕ) (g : List Point) → MemberOf t n g → list_all (λ p. not (holds g p)) patterns ≡ true
held_by_none within t patterns e n g m =
    all_pass (λ p. not (holds g p)) patterns
    (λ p i. not_from_false (holds g p) (false_from_ne_true (holds g p)
    (λ h. none_counted (also t [] (patterns ∷ [])) n (none_holds within t patterns e n) g (holding_one t patterns n g m (some_passes (λ q. holds g q) i h)))))

only_child : (t : Tiles) (patterns : List (List Point)) (n i : ℕ) (h : List Point) → i < 1 → MemberOf (slice_index_or (also t patterns [] ∷ []) i t) n h → MemberOf t n h × (0 ≡ i)
only_child t patterns n zero h s m = ((from_further t patterns [] n h m).0, refl)
only_child t patterns n (suc i) h s m = absurd (omega arith)

pub inferrals_carry_members : MembersWithinWeight → InferralsCarryMembers
unfolding C.raw_children D.applies
inferrals_carry_members within t patterns e =
    let inferable : list_all (is_inferable t) patterns ≡ true = (and_parts _ (list_all (is_inferable t) patterns) e).1 in
    record {
      to_child = λ n g m. omega arith;
      carried = λ n g m. holding_none t patterns n g m (held_by_none within t patterns inferable n g m);
      undone = λ n g m. refl;
      brought = λ n i h s m. (only_child t patterns n i h s m).0;
      redone = λ n i h s m. ap (λ (c : ℕ). (c, h)) (only_child t patterns n i h s m).1;
    }

pub voids_carry_members : MembersWithinWeight → VoidsCarryMembers
unfolding C.raw_children D.applies
voids_carry_members within t e =
    let none = none_of_any_length within t (and_parts _ (has_no_member t) e).1 in
    record {
      to_child = λ n g m. absurd (none_counted t n (none n) g m);
      carried = λ n g m. absurd (none_counted t n (none n) g m);
      undone = λ n g m. refl;
      brought = λ n i h s m. absurd (omega arith);
      redone = λ n i h s m. absurd (omega arith);
    }
