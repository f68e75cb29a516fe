-- In an ascending list what a pattern may hold stands before the first that is at least as long.
use Rattle.std.proofs.Common.{◌≡◌, ◌≤◌, Bool, true, false, List, [], ◌∷◌, length, refl, sym, arith}
use Rattle.std.specs.Prelude.{◌&&◌, not, nat_lt, cond}
use Rattle.std.specs.List.{list_any, take_while, AllByRecursion}
use Rattle.std.specs.List.Sorted.{IsStrictlySortedBy}
use Rattle.std.specs.Ordering.{nat_cmp}
use Rattle.std.specs.declared.cmp.Ordering.{Ordering}
use Rattle.std.specs.declared.cmp.Ordering.TheVariants.{Less, Equal, Greater}
use Rattle.std.proofs.lemmas.Bool.Decides.{nat_tests}
use Rattle.std.proofs.lemmas.List.Sums.{take_while-cons}
use Rattle.lists.specs.Members.IsIn.{here, later}
use Rattle.lists.specs.Members.{IsIn}
use Rattle.gridded.specs.Grids.{Point, holds, IsGridded}
use Rattle.gridded.specs.Orders.{gridded_eq, gridded_cmp}
use Rattle.tiling_core.specs.Tiles.{AreGridded}
use Rattle.tiling_core.specs.Patterns.{holds_another}
use Rattle.steps.proofs.ListTests.{at_each, list_any-none_passes}
use Rattle.steps.proofs.Minimal.{EachGridded, other_is_shorter, shorter_and_held}

-- a later pattern is at least as long
pub as_long : (p q : List Point) → gridded_cmp p q ≡ Less → length p ≤ length q
as_long p q e = go (nat_cmp (length p) (length q)) refl
  where
    go : (o : Ordering) → nat_cmp (length p) (length q) ≡ o → length p ≤ length q
    go Less f = grind (arith, nat_tests)
    go Equal f = grind (arith, nat_tests)
    go Greater f = absurd cc

pub in_all : {X : Type 0} (P : X → Type 0) {x : X} (xs : List X) → AllByRecursion P xs → IsIn x xs → P x
in_all P [] h m = elim m [ ]
in_all P (y ∷ xs) h here = h.0
in_all P (y ∷ xs) h (later _ m) = in_all P xs h.1 m

abbrev is_shorter : List Point → List Point → Bool
is_shorter g p = nat_lt (length p) (length g)

-- none from the first on that is as long as g
none_later : (g p : List Point) (patterns : List (List Point)) → IsGridded g → EachGridded (p ∷ patterns) → AllByRecursion (λ q. gridded_cmp p q ≡ Less) patterns → is_shorter g p ≡ false → holds_another (p ∷ patterns) g ≡ false
none_later g p patterns k l s e = list_any-none_passes (λ q. not (gridded_eq g q) && holds g q) (p ∷ patterns) (λ q m f.
    let short = other_is_shorter g q k (l q m) f in
    let long = no_shorter q m in
    let first : length g ≤ length p = grind (arith, nat_tests) in
    absurd (omega arith))
  where
    no_shorter : (q : List Point) → IsIn q (p ∷ patterns) → length p ≤ length q
    no_shorter _ here = omega arith
    no_shorter q (later _ m) = as_long p q (in_all (λ r. gridded_cmp p r ≡ Less) patterns s m)

held_first : (g : List Point) (patterns : List (List Point)) → IsGridded g → EachGridded patterns → IsStrictlySortedBy gridded_cmp patterns → list_any (holds g) (take_while (is_shorter g) patterns) ≡ holds_another patterns g
unfolding IsStrictlySortedBy
held_first g [] k l s = refl
held_first g (p ∷ patterns) k l s = rw (take_while-cons (is_shorter g) p patterns) (go (is_shorter g p) refl (held_first g patterns k (λ q m. l q (later p m)) s.1))
  where
    go : (t : Bool) → is_shorter g p ≡ t → list_any (holds g) (take_while (is_shorter g) patterns) ≡ holds_another patterns g → list_any (holds g) (cond t (p ∷ take_while (is_shorter g) patterns) []) ≡ holds_another (p ∷ patterns) g
    go false e ih = sym (none_later g p patterns k l s.0 e)
    go true e ih =
        let same : holds g p ≡ (not (gridded_eq g p) && holds g p) = rw e at (shorter_and_held g p k (l p here)) in
        rw (ih, ← same) refl

pub held_among_shorter : (g : List Point) (patterns : List (List Point)) → IsGridded g → AreGridded patterns → IsStrictlySortedBy gridded_cmp patterns → list_any (holds g) (take_while (λ p. nat_lt (length p) (length g)) patterns) ≡ holds_another patterns g
held_among_shorter g patterns k l s = held_first g patterns k (λ q m. at_each (λ r. IsGridded r) l m) s
