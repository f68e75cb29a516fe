-- What the pass over the rules finds at a place.
use Rattle.std.proofs.Common.{◌≡◌, ◌<◌, ℕ, zero, suc, Bool, true, false, List, [], ◌∷◌, length, get_or, take, sym, subst, arith}
use Rattle.std.specs.Prelude.{◌↔◌, IsTrue, map, slice_get, Some}
use Rattle.lists.specs.Members.{IsIn}
use Rattle.lists.proofs.Members.{IsIn-map, from_IsIn-map}
use Rattle.lists.proofs.Places.{place_of, IsIn-slice_get}
use Rattle.tiling_core.specs.Tiles.{Tiles}
use Rattle.css_domain.specs.Entries.{Entry}
use Rattle.css_prune.specs.Faults.{IsRepeated}
use Rattle.css_prune.proofs.FirstFaults.{never, not_both, same_some}
use Rattle.rule_kinds.specs.Rules.{TilingRule}
use Rattle.rule_kinds.specs.Follows.{Follows}
use Rattle.tile_rules.specs.Meaning.{tile_meaning}
use Rattle.spec_checker.specs.Passing.{AreMarked, TellsRule}

-- what stands before place k stands among the first k
pub get_taken : {X : Type 0} (xs : List X) (k j : ℕ) (x : X) → j < k → slice_get xs j ≡ Some x → slice_get (take k xs) j ≡ Some x
get_taken [] k j x l h = absurd cc
get_taken (y ∷ xs) zero j x l h = absurd (omega (arith, l))
get_taken (y ∷ xs) (suc k) zero x l h = h
get_taken (y ∷ xs) (suc k) (suc j) x l h = get_taken xs k j x (omega (arith, l)) h

-- and the other way round
pub from_taken : {X : Type 0} (xs : List X) (k j : ℕ) (x : X) → slice_get (take k xs) j ≡ Some x → (j < k) × (slice_get xs j ≡ Some x)
from_taken [] zero j x h = absurd cc
from_taken [] (suc k) j x h = absurd cc
from_taken (y ∷ xs) zero j x h = absurd cc
from_taken (y ∷ xs) (suc k) zero x h = (omega arith, h)
from_taken (y ∷ xs) (suc k) (suc j) x h = let r = from_taken xs k j x h in (omega (arith, r.0), r.1)

abbrev class_of : Entry Tiles TilingRule → Tiles
class_of e = e.class

module _ (entries : List (Entry Tiles TilingRule)) (place : ℕ) where
  -- a class of the first entries is one of an earlier entry
  from_seen : (c : Tiles) → IsIn c (map class_of (take place entries)) → IsRepeated tile_meaning entries place c
  from_seen c i =
      let e = from_IsIn-map class_of (take place entries) i in
      let p = place_of (take place entries) e.0 e.1 in
      let t = from_taken entries place p.0 e.0 p.1 in
      record { j = p.0; earlier = t.0; by = e.0; there = t.1; class = sym e.2 }

  to_seen : (c : Tiles) → IsRepeated tile_meaning entries place c → IsIn c (map class_of (take place entries))
  to_seen c r = subst (λ d. IsIn d (map class_of (take place entries))) r.class (IsIn-map class_of (IsIn-slice_get (take place entries) r.j r.by (get_taken entries place r.j r.by r.earlier r.there)))

  module _ (d : Entry Tiles TilingRule) (at : slice_get entries place ≡ Some d) (c : Tiles) (own : c ≡ d.class) (keys : List Tiles) (seen : keys ≡ map class_of (take place entries)) where
    -- an entry whose class was seen is wrong
    pub tell_repeated : (new : Bool) → new ≡ false → ((IsIn c keys → ⊥) → IsTrue new) → TellsRule entries place false
    tell_repeated new e h d' at' =
        let same : d ≡ d' = same_some at at' in
        (never, λ r. not_both new e (h (λ i. r.new (subst (λ (z : Entry Tiles TilingRule). IsRepeated tile_meaning entries place z.class) same (subst (IsRepeated tile_meaning entries place) own (from_seen c (subst (IsIn c) seen i)))))))

    module _ (marks : List Bool) (marked : AreMarked entries place marks) (within : place < length entries) where
      -- an entry that no earlier one names is wrong
      pub tell_uncalled : (called : Bool) → called ≡ false → ((0 < place → get_or marks place false ≡ true) → IsTrue called) → TellsRule entries place false
      tell_uncalled called e h d' at' =
          (never, λ r. not_both called e (h (λ l. let n = r.called l in (marked.right place within).1 (record { j = n.j; earlier = n.earlier; by = n.by; there = n.there; names = n.names }))))

      -- else it is right where its rule follows
      pub tell_right : (new called right : Bool) → new ≡ true → (IsTrue new → IsIn c keys → ⊥) → called ≡ true → (IsTrue called → 0 < place → get_or marks place false ≡ true) → (IsTrue right ↔ Follows d.rule) → TellsRule entries place right
      tell_right new called right a n b m f d' at' =
          let same : d ≡ d' = same_some at at' in (
            λ t. record {
              new = λ r. n a (subst (IsIn c) (sym seen) (to_seen c (subst (IsRepeated tile_meaning entries place) (sym own) (subst (λ (z : Entry Tiles TilingRule). IsRepeated tile_meaning entries place z.class) (sym same) r))));
              follows = subst (λ (z : Entry Tiles TilingRule). Follows z.rule) same (f.0 t);
              called = λ l. let k = (marked.right place within).0 (m b l) in record { j = k.j; earlier = k.earlier; by = k.by; there = k.there; names = k.names };
            },
            λ r. f.1 (subst (λ (z : Entry Tiles TilingRule). Follows z.rule) (sym same) r.follows),
          )
