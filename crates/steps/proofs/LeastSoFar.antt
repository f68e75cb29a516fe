-- A pattern of an ascending list holds another exactly where it holds one that stays and stands before it.
use Rattle.std.proofs.Common.{◌≡◌, ℕ, zero, suc, ◌+◌, ◌<◌, Bool, true, false, List, [], ◌∷◌, ◌++◌, length, take, drop, get_or, refl, sym, ◌∙◌, subst, append-nil, arith}
use Rattle.std.specs.Prelude.{◌&&◌, not, nat_lt, All}
use Rattle.std.specs.List.{filter, AllByRecursion}
use Rattle.std.specs.List.Sorted.{IsStrictlySortedBy}
use Rattle.std.proofs.lemmas.Bool.Decides.{nat_tests}
use Rattle.std.proofs.lemmas.List.{take-append-drop, take_more}
use Rattle.std.proofs.lemmas.List.Elements.{All-filter, All-take, filter-append}
use Rattle.std.proofs.lemmas.List.Kept.{IsStrictlySortedBy-filter}
use Rattle.std.specs.declared.cmp.Ordering.{Ordering}
use Rattle.std.specs.declared.cmp.Ordering.TheVariants.{Less}
use Rattle.std.proofs.lemmas.Bool.{and_parts as and_true, and_from as both_true}
use Rattle.lists.specs.Members.IsIn.{here, later}
use Rattle.lists.specs.Members.{IsIn}
use Rattle.lists.proofs.Tests.{same_test}
use Rattle.lists.proofs.Members.{IsIn-filter, from_IsIn-filter, IsIn-append_left}
use Rattle.gridded.specs.Grids.{Point, holds, IsGridded}
use Rattle.gridded.specs.Orders.{gridded_eq, gridded_cmp}
use Rattle.tiling_core.specs.Tiles.{AreGridded}
use Rattle.tiling_core.specs.Patterns.{holds_another}
use Rattle.steps.proofs.ListTests.{at_each, some_passes, which_passes}
use Rattle.gridded.proofs.Holding.{holds_trans, holds_shorter}
use Rattle.steps.proofs.Minimal.{EachGridded, other_is_shorter, shorter_and_held, holds_least}
use Rattle.steps.proofs.Shorter.{as_long, in_all}

-- those of some patterns that hold no other of a list
abbrev pub staying : List (List Point) → List (List Point) → List (List Point)
staying patterns some = filter (λ g. not (holds_another patterns g)) some

-- ---- the first patterns of a list
take_all_less : (p : List Point) (i : ℕ) (xs : List (List Point)) → AllByRecursion (λ q. gridded_cmp p q ≡ Less) xs → AllByRecursion (λ q. gridded_cmp p q ≡ Less) (take i xs)
take_all_less p zero xs h = tt
take_all_less p (suc i) [] h = tt
take_all_less p (suc i) (x ∷ xs) h = (h.0, take_all_less p i xs h.1)

take_ascends : (i : ℕ) (xs : List (List Point)) → IsStrictlySortedBy gridded_cmp xs → IsStrictlySortedBy gridded_cmp (take i xs)
unfolding IsStrictlySortedBy
take_ascends zero xs h = tt
take_ascends (suc i) [] h = tt
take_ascends (suc i) (x ∷ xs) h = (take_all_less x i xs h.0, take_ascends i xs h.1)

pub at_is_in : (i : ℕ) (xs : List (List Point)) (d : List Point) → i < length xs → IsIn (get_or xs i d) xs
at_is_in i [] d b = absurd (omega arith)
at_is_in zero (x ∷ xs) d b = here
at_is_in (suc i) (x ∷ xs) d b = later x (at_is_in i xs d (omega arith))

-- what is shorter than the pattern at a place stands before it
before : (i : ℕ) (xs : List (List Point)) (d l : List Point) → IsStrictlySortedBy gridded_cmp xs → i < length xs → IsIn l xs → length l < length (get_or xs i d) → IsIn l (take i xs)
unfolding IsStrictlySortedBy
before i [] d l s b m e = elim m [ ]
before zero (x ∷ xs) d _ s b here e = absurd (omega (arith, e))
before zero (x ∷ xs) d l s b (later _ m) e = absurd (omega (arith, e, as_long x l (in_all (λ q. gridded_cmp x q ≡ Less) xs s.0 m)))
before (suc i) (x ∷ xs) d _ s b here e = here
before (suc i) (x ∷ xs) d l s b (later _ m) e = later x (before i xs d l s.1 (omega arith) m e)

module _ (patterns : List (List Point)) (are : AreGridded patterns) (s : IsStrictlySortedBy gridded_cmp patterns) where
  pub staying_are_gridded : (i : ℕ) → AreGridded (staying patterns (take i patterns))
  staying_are_gridded i = All-filter (λ g. not (holds_another patterns g)) (λ g. IsGridded g) (take i patterns) (All-take (λ g. IsGridded g) i patterns are)

  pub staying_ascend : (i : ℕ) → IsStrictlySortedBy gridded_cmp (staying patterns (take i patterns))
  staying_ascend i = IsStrictlySortedBy-filter gridded_cmp (λ g. not (holds_another patterns g)) (take i patterns) (take_ascends i patterns s)

  each : EachGridded patterns
  each g m = at_each (λ (p : List Point). IsGridded p) are m

  pub held_among_staying : (i : ℕ) (d : List Point) → i < length patterns → holds_another (staying patterns (take i patterns)) (get_or patterns i d) ≡ holds_another patterns (get_or patterns i d)
  held_among_staying i d b =
      same_test (holds_another (staying patterns (take i patterns)) g) (holds_another patterns g)
      (λ e. let w = which_passes other (staying patterns (take i patterns)) e in
      some_passes other (subst (λ (xs : List (List Point)). IsIn w.0 xs) (take-append-drop i patterns) (IsIn-append_left (drop i patterns) (from_IsIn-filter (λ h. not (holds_another patterns h)) (take i patterns) w.1).0)) w.2)
      (λ e. let w = which_passes other patterns e in
      let l = holds_least patterns each w.0 w.1 in
      let stays = from_IsIn-filter (λ h. not (holds_another patterns h)) patterns l.1 in
      let shorter = other_is_shorter g w.0 (each g in_list) (each w.0 w.1) w.2 in
      let short : length l.0 < length g = omega (arith, shorter, holds_shorter w.0 l.0 l.2) in
      some_passes other (IsIn-filter (λ h. not (holds_another patterns h)) (before i patterns d l.0 s b stays.0 short) stays.1)
      (other_held l.0 stays.0 short (holds_trans g w.0 l.0 (and_true (not (gridded_eq g w.0)) (holds g w.0) w.2).1 l.2)))
    where
      g : List Point
      g = get_or patterns i d

      in_list : IsIn g patterns
      in_list = at_is_in i patterns d b

      other : List Point → Bool
      other p = not (gridded_eq g p) && holds g p

      other_held : (p : List Point) → IsIn p patterns → length p < length g → holds g p ≡ true → other p ≡ true
      other_held p m l e = rw (← shorter_and_held g p (each g in_list) (each p m)) (both_true (nat_lt (length p) (length g)) (holds g p) (grind (arith, nat_tests)) e)

  -- one pattern further
  module _ (i : ℕ) (g : List Point) (b : i < length patterns) (at : get_or patterns i g ≡ g) where
    abbrev test : List Point → Bool
    test h = not (holds_another patterns h)

    more : staying patterns (take (i + 1) patterns) ≡ staying patterns (take i patterns) ++ staying patterns (g ∷ [])
    more = rw (take_more patterns i g b, filter-append test (take i patterns) (get_or patterns i g ∷ []), at) refl

    held : (r : Bool) → holds_another (staying patterns (take i patterns)) g ≡ r → holds_another patterns g ≡ r
    held r e = let h = rw at at (held_among_staying i g b) in sym h ∙ e

    pub so_far : holds_another patterns g ≡ true → holds_another (staying patterns (take i patterns)) g ≡ true
    so_far e = let h = rw at at (held_among_staying i g b) in h ∙ e

    pub goes : holds_another (staying patterns (take i patterns)) g ≡ true → staying patterns (take i patterns) ≡ staying patterns (take (i + 1) patterns)
    goes e = rw (more, held true e) (sym (append-nil (staying patterns (take i patterns))))

    pub stays : holds_another (staying patterns (take i patterns)) g ≡ false → staying patterns (take i patterns) ++ g ∷ [] ≡ staying patterns (take (i + 1) patterns)
    stays e = rw (more, held false e) refl
