-- A member that holds a pattern is reached from the pattern.
use Rattle.std.proofs.Common.{◌≡◌, ℕ, ◌<◌, ◌≤◌, true, List, [], ◌∷◌, length, sym, ◌∙◌, subst, arith}
use Rattle.std.specs.Prelude.{◌&&◌, map}
use Rattle.std.specs.List.{AllByRecursion}
use Rattle.std.proofs.lemmas.List.{length-map}
use Rattle.std.proofs.lemmas.List.Elements.{All-from_recursion}
use Rattle.std.proofs.lemmas.Bool.{and_parts as and_true}
use Rattle.lists.specs.Members.IsIn.{here, later}
use Rattle.lists.specs.Parts.{IsPart}
use Rattle.lists.specs.Members.{IsIn}
use Rattle.lists.proofs.Members.{IsIn-map}
use Rattle.lists.proofs.Parts.{IsPart-itself, IsPart-map}
use Rattle.patterns.specs.Words.{has_no_repeats}
use Rattle.patterns.proofs.Occurrences.{match_from}
use Rattle.patterns.proofs.Standard.{rank-lt-length}
use Rattle.gridded.specs.Grids.{Point, letter_of, same_cell, is_consistent, is_gridded, Holds, IsGridded}
use Rattle.gridded.specs.Orders.{letters_of}
use Rattle.gridded.specs.Parts.{closed_up}
use Rattle.gridded.proofs.ClosedUp.{ranks_below, length-closed_up, match-closed_up, closed_up-Holds, consistent-closed_up}
use Rattle.gridded.proofs.Consistent.{consistent_part, distinct_part, distinct_alike}
use Rattle.gridded.proofs.Holding.{Holds-trans, Holds-as_long}
use Rattle.tiling_core.specs.Tiles.{Tiles, is_member}
use Rattle.emptiness.specs.Glueing.{reaches}
use Rattle.emptiness.proofs.Complete.{reached-part}

-- a short part of a gridded permutation of any length, closed up, is gridded
gridded-part : (c m : List Point) → IsPart c m → is_gridded m ≡ true → length c ≤ 9 → IsGridded (closed_up c)
gridded-part c m k e few =
    let d = and_true (has_no_repeats (letters_of m)) (is_consistent m) e in
    let size : length (letters_of c) ≡ length (closed_up c) = length-map c letter_of ∙ sym (length-closed_up c) in
    record {
      short = omega (arith, length-closed_up c);
      below = All-from_recursion (λ (p : Point). p.letter < length (closed_up c)) (closed_up c) (subst (λ n. AllByRecursion (λ (p : Point). p.letter < n) (closed_up c)) size (ranks_below (letters_of c) c (λ q i. IsIn-map letter_of i)));
      distinct = distinct_alike c (closed_up c) (match-closed_up c) (distinct_part (IsPart-map letter_of k) d.0);
      consistent = consistent-closed_up c ∙ consistent_part k d.1;
    }

-- the occurrence of a pattern, closed up, is the pattern
occurrence-closed : (m p : List Point) (h : Holds m p) → is_gridded m ≡ true → IsGridded p → closed_up h.points ≡ p
occurrence-closed m p h e k =
    let as_many : length h.points ≡ length p = sym (length-map h.points letter_of) ∙ h.order.as_many ∙ length-map p letter_of in
    let few = k.short in
    Holds-as_long (closed_up h.points) p (gridded-part h.points m h.chosen e (omega arith)) k
    (Holds-trans (closed_up h.points) h.points p (closed_up-Holds h.points) (record { points = h.points; chosen = IsPart-itself h.points; order = h.order; fit = h.fit }))
    (omega (arith, length-closed_up h.points))

pub reached-from_held : (t : Tiles) (m p : List Point) → is_gridded m ≡ true → is_member t m ≡ true → IsGridded p → Holds m p → reaches t t.requirements p ≡ true
reached-from_held t m p e b k h = subst (λ q. reaches t t.requirements q ≡ true) (occurrence-closed m p h e k) (reached-part t m e b h.points h.chosen)
