-- The laws that make tilings and their rules a domain.
use Rattle.std.proofs.Common.{◌≡◌, true, List, [], ◌∷◌, length, refl, arith, suc, subst}
use Rattle.patterns.specs.Occurs.{occurs}
use Rattle.gridded.specs.Grids.{Point, holds}
use Rattle.tiling_core.specs.Tiles.{Tiles, count}
use Rattle.tiling_core.specs.Measures.{Positive, is_positive}
use Rattle.tiling_core.specs.Carried.{MemberOf}
use Rattle.tiling_core.proofs.Counted.{counts_add_up, renaming_keeps_counts}
use Rattle.gridded.proofs.Holding.{holds_decides}
use Rattle.tiling_core.proofs.Deciding.{is_positive_decides}
use Rattle.tiling_core.proofs.Single.{count_without_members, unit_has_one_member, point_has_one_member}
use Rattle.steps.proofs.Renamed.{steps_keep_members}
use Rattle.normal_form.proofs.Tilings.{replays_keep_members}
use Rattle.emptiness.proofs.Counted.{members_within_weight}
use Rattle.insertion_law.proofs.Inserting.{insertions_carry_members}
use Rattle.inferral_law.proofs.Inferring.{inferrals_carry_members, voids_carry_members}
use Rattle.gridded.specs.Laws.{GriddedAreListed}
use Rattle.gridded.proofs.GriddedLists.{IsIn-gridded_of, from_IsIn-gridded_of}
use Rattle.coord_maps.proofs.Memberships.{preimages_are_listed, collapse_is_gridded}
use Rattle.coord_maps.proofs.Stretched.{stretch_keeps_members}
use Rattle.placement_law.proofs.Carrying.{placements_carry_members}
use Rattle.cut_law.proofs.Cutting.{cuts_carry}
use Rattle.factoring_law.proofs.Ruled.{factor_rules_count}
use Rattle.rule_kinds.specs.Carried.{MembersAreCarried}
use Rattle.rule_kinds.specs.Counting.{RulesCount}
use Rattle.tile_rules.specs.Laws.Carrying.{members_are_carried}
use Rattle.tile_rules.specs.Laws.RuleCounts.{rules_count}
use Rattle.lists.specs.Members.{IsIn}

do_list : GriddedAreListed
do_list w h n g = (from_IsIn-gridded_of w h n g, IsIn-gridded_of w h n g)

do_carry : MembersAreCarried
do_carry = members_are_carried (record {
  inserting = insertions_carry_members;
  inferring = inferrals_carry_members members_within_weight;
  voiding = voids_carry_members members_within_weight;
  placing = placements_carry_members (preimages_are_listed do_list) (stretch_keeps_members do_list) collapse_is_gridded;
  cutting = cuts_carry;
})

pub rules_do_count : RulesCount
rules_do_count = rules_count unit_has_one_member point_has_one_member members_within_weight counts_add_up (replays_keep_members (steps_keep_members renaming_keeps_counts)) do_carry factor_rules_count

-- the gridded permutation without points holds the empty pattern alone
held_by_none : (p : List Point) → holds [] p ≡ true → p ≡ []
unfolding occurs
held_by_none [] e = refl
held_by_none (q ∷ p) e = absurd cc

pub none_of_length_0 : (t : Tiles) → is_positive t ≡ true → count t 0 ≡ 0
none_of_length_0 t e = count_without_members t 0 (λ g k. refuted g k ((is_positive_decides t).0 e))
  where
    refuted : (g : List Point) → MemberOf t 0 g → Positive t → ⊥
    refuted (q ∷ g) k p = let long : suc (length g) ≡ 0 = k.gridded.as_long in absurd (omega arith)
    refuted [] k p =
        let one = k.member.each_list p.patterns p.listed in
        p.none_empty (subst (λ (q : List Point). IsIn q p.patterns) (held_by_none one.pattern ((holds_decides [] one.pattern).1 one.held)) one.listed)
