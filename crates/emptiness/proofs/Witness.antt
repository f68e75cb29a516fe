-- What a member holds needs no search.
use Rattle.std.proofs.Common.{◌≡◌, Bool, true, false, List, [], ◌∷◌, ◌++◌, refl, sym, ap, ◌∙◌, subst, ⊎_elim}
use Rattle.std.specs.Prelude.{◌&&◌, not}
use Rattle.std.specs.List.{list_any}
use Rattle.std.proofs.lemmas.Bool.{and_from as both_true}
use Rattle.std.proofs.Math.Bool.{and-false as and_none}
use Rattle.lists.specs.Members.{IsIn}
use Rattle.lists.proofs.Members.{IsIn-append_cases, only_in, none_in}
use Rattle.lists.proofs.Tests.{which_passes}
use Rattle.patterns.specs.Words.{has_no_repeats}
use Rattle.gridded.specs.Grids.{Point, holds, IsGridded, is_gridded, is_consistent}
use Rattle.gridded.specs.Orders.{letters_of}
use Rattle.gridded.proofs.Holding.{holds_decides}
use Rattle.tiling_core.specs.Tiles.{Tiles, is_member}
use Rattle.emptiness.specs.Candidates.{is_unheld, AreMembers}
use Rattle.emptiness.proofs.Held.{reached-from_held}

tested : (m : List Point) → IsGridded m → is_gridded m ≡ true
tested m k = both_true (has_no_repeats (letters_of m)) (is_consistent m) k.distinct k.consistent

pub ruled_out : (t : Tiles) (members : List (List Point)) (p : List Point) → AreMembers t members → IsGridded p → list_any (λ m. holds m p) members ≡ true → false ≡ is_unheld t p
ruled_out t members p are k e =
    let w = which_passes (λ m. holds m p) members e in
    let m = are w.0 w.1 in
    let reached = reached-from_held t w.0 p (tested w.0 m.0) m.1 k ((holds_decides w.0 p).0 w.2) in
    sym (ap (λ b. not (list_any (λ o. holds p o) t.obstructions) && not b) reached ∙ and_none (not (list_any (λ o. holds p o) t.obstructions)))

pub no_members : (t : Tiles) → AreMembers t []
no_members t m i = absurd (none_in i)

pub one_more_member : (t : Tiles) (members : List (List Point)) (m : List Point) → AreMembers t members → IsGridded m → is_member t m ≡ true → AreMembers t (members ++ m ∷ [])
one_more_member t members m are k e h i =
    ⊎_elim {C = IsGridded h × (is_member t h ≡ true)} (are h) (λ j. subst (λ (g : List Point). IsGridded g × (is_member t g ≡ true)) (sym (only_in j)) (k, e)) (IsIn-append_cases members (m ∷ []) i)
