-- Tilings that were seen.
use Rattle.std.proofs.Common.{◌≡◌, Bool, true, false, List, refl, sym, subst}
use Rattle.std.specs.Prelude.{◌↔◌, not, map, IsTrue}
use Rattle.std.specs.List.{list_any}
use Rattle.lists.specs.Members.{IsIn}
use Rattle.lists.proofs.Members.{IsIn-map, from_IsIn-map}
use Rattle.lists.proofs.Tests.{which_passes, some_passes}
use Rattle.tiling_core.specs.Tiles.{Tiles}
use Rattle.tiling_core.specs.Same.{tiles_eq, tiles_eq_decides}

module _ {K : Type 0} (tiling_of : K → Tiles) (t : Tiles) (keys : List K) where
  among : list_any (λ k. tiles_eq t (tiling_of k)) keys ≡ true → IsIn t (map tiling_of keys)
  among h = let p = which_passes (λ k. tiles_eq t (tiling_of k)) keys h in subst (λ u. IsIn u (map tiling_of keys)) (sym ((tiles_eq_decides t (tiling_of p.0)).0 p.2)) (IsIn-map tiling_of p.1)

  found : IsIn t (map tiling_of keys) → list_any (λ k. tiles_eq t (tiling_of k)) keys ≡ true
  found h = let p = from_IsIn-map tiling_of keys h in some_passes (λ k. tiles_eq t (tiling_of k)) p.1 ((tiles_eq_decides t (tiling_of p.0)).1 p.2)

  -- it is new exactly where it wasn't seen
  pub new_tells : (new : Bool) → new ≡ not (list_any (λ k. tiles_eq t (tiling_of k)) keys) → IsTrue new ↔ (IsIn t (map tiling_of keys) → ⊥)
  new_tells new e = go (list_any (λ k. tiles_eq t (tiling_of k)) keys) refl e
    where
      go : (b : Bool) → list_any (λ k. tiles_eq t (tiling_of k)) keys ≡ b → new ≡ not b → IsTrue new ↔ (IsIn t (map tiling_of keys) → ⊥)
      go true a f = (λ n i. absurd cc, λ n. absurd (n (among a)))
      go false a f = (λ n i. let s = found i in absurd cc, λ n. f)
