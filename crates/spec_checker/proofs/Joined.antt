-- Joined entries, slot by slot.
use Rattle.std.proofs.Common.{◌≡◌, ◌<◌, ℕ, List, length, refl, sym, ap, ◌∙◌, subst}
use Rattle.std.specs.Prelude.{Option, option_map, All, map, slice_get, slice_index, Some, None}
use Rattle.std.proofs.lemmas.List.{length-map}
use Rattle.std.proofs.lemmas.Option.{slice_get_within}
use Rattle.lists.specs.Members.{IsIn}
use Rattle.lists.proofs.Members.{of_all, all_in}
use Rattle.lists.proofs.Places.{at_place, get-map, from_get-map, index_is, place_of, IsIn-slice_get}
use Rattle.tiling_core.specs.Tiles.{Tiles}
use Rattle.css_domain.specs.Entries.{Entry, IsSpec, AllHold}
use Rattle.css_prune.specs.Faults as fault
use Rattle.css_prune.proofs.FirstFaults.{is_spec}
use Rattle.rule_kinds.specs.Rules.{TilingRule}
use Rattle.tile_rules.specs.Meaning.{tile_meaning}
use Rattle.spec_text.specs.Joined.{class_at, IsJoined, AreJoined, IsNamedChild}
use Rattle.spec_checker.specs.Refusing.{IsRuleRight, AreRulesRight}
use Rattle.spec_checker.specs.Passing.{HaveRightRanks}

class_there : (o : Option (Entry Tiles TilingRule)) (t : Tiles) → option_map (λ (e : Entry Tiles TilingRule). e.class) o ≡ Some t → (named : Entry Tiles TilingRule) × (o ≡ Some named) × (t ≡ named.class)
class_there None t h = absurd cc
class_there (Some named) t h = let same : t ≡ named.class = cc in (named, refl, same)

module _ (entries : List (Entry Tiles TilingRule)) (e : Entry Tiles TilingRule) (j : IsJoined entries e) where
  -- as many entries are named as the rule has children
  pub as_many : length e.children ≡ length e.rule.children
  as_many = sym (length-map e.children (class_at entries)) ∙ sym (ap length j.children) ∙ length-map e.rule.children Some

  -- and each is of the child's class
  pub named_child : (slot : ℕ) → slot < length e.children → IsNamedChild entries e slot
  named_child slot l =
      let k = at_place e.children slot l in
      let image : slice_get (map Some e.rule.children) slot ≡ Some (class_at entries k.0) = ap (λ (ys : List (Option Tiles)). slice_get ys slot) j.children ∙ get-map (class_at entries) e.children slot k.0 k.1 in
      let t = from_get-map Some e.rule.children slot (class_at entries k.0) image in
      let n = class_there (slice_get entries k.0) t.0 t.2 in
      record { named = n.0; there = ap (slice_get entries) (index_is e.children slot k.0 k.1) ∙ n.1; class = t.1 ∙ ap Some n.2 }

  -- an entry is named in each slot
  pub named_within : (slot : ℕ) → slot < length e.children → slice_index e.children slot < length entries
  named_within slot l = let n = named_child slot l in slice_get_within entries (slice_index e.children slot) n.named n.there

  -- so each number is that of an entry
  pub all_within : All (λ child. child < length entries) e.children
  all_within = all_in (λ child. child < length entries) e.children (λ child i. let p = place_of e.children child i in subst (λ n. n < length entries) (index_is e.children p.0 child p.1) (named_within p.0 (slice_get_within e.children p.0 child p.1)))

-- the entry at a place is joined
pub joined_at : (entries : List (Entry Tiles TilingRule)) (i : ℕ) (e : Entry Tiles TilingRule) → AreJoined entries → slice_get entries i ≡ Some e → IsJoined entries e
joined_at entries i e all at = of_all (λ d. IsJoined entries d) all (IsIn-slice_get entries i e at)

-- each entry names as many entries as its rule has children
pub as_many_each : (entries : List (Entry Tiles TilingRule)) → AreJoined entries → (e : Entry Tiles TilingRule) → IsIn e entries → length e.children ≡ length e.rule.children
as_many_each entries all e i = as_many entries e (of_all (λ d. IsJoined entries d) all i)

module _ (entries : List (Entry Tiles TilingRule)) (all : AreJoined entries) where
  rule_right : (i : ℕ) (e : Entry Tiles TilingRule) → slice_get entries i ≡ Some e → IsRuleRight entries i e → fault.IsRuleRight tile_meaning entries i e
  rule_right i e at r =
      let j = joined_at entries i e all at in
      record {
        own = j.own;
        as_many = as_many entries e j;
        child = λ slot l. let n = named_child entries e j slot l in record { named = n.named; there = n.there; class = n.class };
        new = r.new;
        called = r.called;
      }

  -- right rules and ranks make joined entries a specification
  pub spec_by_rules : 0 < length entries → AreRulesRight entries → HaveRightRanks entries → IsSpec tile_meaning entries
  spec_by_rules some rules ranks = is_spec tile_meaning entries some (λ i e l at. rule_right i e at (rules i e l at)) ranks

  -- and the rules hold
  pub hold_by_rules : AreRulesRight entries → AllHold tile_meaning entries
  hold_by_rules rules e i = let p = place_of entries e i in (rules p.0 e (slice_get_within entries p.0 e p.1) p.1).follows
