-- What a longer permutation holds without its new point, the shorter one holds.
use Rattle.std.proofs.Common.{◌≡◌, ℕ, zero, suc, Bool, true, false, List, [], ◌∷◌, length, refl, sym, ap, ◌∙◌, subst, arith}
use Rattle.std.specs.Prelude.{◌&&◌, ◌||◌, not, map, filter, nat_le, All, ◌≤◌, ◌<◌}
use Rattle.std.specs.List.{list_all, list_any, AllZip}
use Rattle.std.proofs.lemmas.Bool.Decides.{nat_tests}
use Rattle.std.proofs.lemmas.List.{length-map}
use Rattle.std.proofs.lemmas.List.Elements.{All-get_or}
use Rattle.std.proofs.lemmas.Bool.{false_from_ne_true as false_from, and_parts as and_true, and_from as both_true, not_from_false as not_false}
use Rattle.std.proofs.Math.Bool.{or-true as or_all}
use Rattle.lists.specs.Members.IsIn.{here, later}
use Rattle.lists.specs.Parts.IsPart.{none, kept, left_out}
use Rattle.patterns.specs.Occurs.{IsSameOrder}
use Rattle.patterns.proofs.Occurrences.{occurs_decides, match_tells}
use Rattle.gridded.specs.declared.cell.Cell.{Cell}
use Rattle.gridded.specs.Grids.{Point, letter_of, same_cell, holds, Holds}
use Rattle.gridded.specs.Orders.{cells_of, cell_eq}
use Rattle.gridded.specs.OrderLaws.{cell_eq_decides}
use Rattle.tiling_core.specs.Tiles.{Tiles, is_member}
use Rattle.gridded.specs.Places.{fits_grid}
use Rattle.emptiness.specs.Insertion.{put_in, raised, inserted}
use Rattle.emptiness.specs.ByCell.{has_point_in}
use Rattle.emptiness.proofs.Inserted.{match-raised}
use Rattle.gridded.proofs.Holding.{Holds-trans, holds_decides, holds_shorter}
use Rattle.gridded.proofs.ClosedUp.{turned}
use Rattle.lists.proofs.Tests.{which_passes, some_passes, each_passes, all_pass, same_test}
use Rattle.lists.specs.Parts.{IsPart}
use Rattle.lists.specs.Members.{IsIn}
use Rattle.lists.proofs.Members.{IsIn-filter, from_IsIn-filter}
use Rattle.lists.proofs.Parts.{IsPart-itself, length-IsPart}
use Rattle.tiling_core.proofs.Deciding.{not_held as not_both}

-- ---- parts without the new point
part-put_in : {X : Type 0} (i : ℕ) (x : X) (ys : List X) {os : List X} → IsPart os (put_in i x ys) → (IsIn x os → ⊥) → IsPart os ys
part-put_in zero x ys (kept _ h) out = absurd (out here)
part-put_in zero x ys (left_out _ h) out = h
part-put_in (suc i) x [] (kept _ h) out = absurd (out here)
part-put_in (suc i) x [] (left_out _ h) out = h
part-put_in (suc i) x (y ∷ ys) (kept _ h) out = kept y (part-put_in i x ys h (λ m. out (later y m)))
part-put_in (suc i) x (y ∷ ys) (left_out _ h) out = left_out y (part-put_in i x ys h out)

-- the cell of a chosen point is a cell of the pattern
cell-chosen : (x : Point) (os p : List Point) → AllZip (λ y a. same_cell y a ≡ true) os p → IsIn x os → has_point_in x.cell p ≡ true
cell-chosen x [] p f m = elim m [ ]
cell-chosen x (_ ∷ os) [] f m = absurd f
cell-chosen x (_ ∷ os) (a ∷ p) f here = rw f.0 refl
cell-chosen x (y ∷ os) (a ∷ p) f (later _ m) = rw (cell-chosen x os p f.1 m) (or_all (cell_eq x.cell a.cell))

fit-raised : (l : ℕ) (g : List Point) → AllZip (λ x a. same_cell x a ≡ true) g (map (raised l) g)
fit-raised l [] = tt
fit-raised l (p ∷ g) = ((cell_eq_decides p.cell p.cell).1 refl, fit-raised l g)

Holds-raised : (l : ℕ) (g : List Point) → Holds g (map (raised l) g)
Holds-raised l g = record { points = g; chosen = IsPart-itself g; order = turned (match_tells letter_of same_cell (map (raised l) g) g (match-raised l g)).order; fit = fit-raised l g }

held-without : (i l : ℕ) (c : Cell) (g p : List Point) → has_point_in c p ≡ false → Holds (inserted i l c g) p → Holds g p
held-without i l c g p e h =
    let x : Point = record { letter = l; cell = c } in
    let out : IsIn x h.points → ⊥ = λ m. let k = cell-chosen x h.points p h.fit m in cc in
    Holds-trans g (map (raised l) g) p (Holds-raised l g) (record { points = h.points; chosen = part-put_in i x (map (raised l) g) h.chosen out; order = h.order; fit = h.fit })

-- ---- tests of lists
-- where a test passes no element that a filter drops, the filter can go first
pub any-filtered : {X : Type 0} (test keep : X → Bool) (xs : List X) → ((x : X) → IsIn x xs → test x ≡ true → keep x ≡ true) → list_any test (filter keep xs) ≡ list_any test xs
any-filtered test keep xs f =
    same_test (list_any test (filter keep xs)) (list_any test xs)
    (λ e. let w = which_passes test (filter keep xs) e in some_passes test (from_IsIn-filter keep xs w.1).0 w.2)
    (λ e. let w = which_passes test xs e in some_passes test (IsIn-filter keep w.1 (f w.0 w.1 w.2)) w.2)

both-ways : (b : Bool) → (b ≡ false → ⊥) → b ≡ true
both-ways true f = refl
both-ways false f = absurd (f refl)

-- a longer permutation of one that holds none of the patterns holds only such as have a point in the new cell
pub any-there : (i l : ℕ) (c : Cell) (g h : List Point) (patterns : List (List Point)) → h ≡ inserted i l c g → list_any (λ p. holds g p) patterns ≡ false → list_any (λ p. holds h p) (filter (has_point_in c) patterns) ≡ list_any (λ p. holds h p) patterns
any-there i l c g h patterns same e =
    any-filtered (λ p. holds h p) (has_point_in c) patterns
    (λ p m k. both-ways (has_point_in c p) (λ f.
    let long = (occurs_decides letter_of same_cell (inserted i l c g) p).0 (rw (sym same) k) in
    let held = some_passes (λ q. holds g q) m ((occurs_decides letter_of same_cell g p).1 (held-without i l c g p f long)) in cc))

-- what is held is no longer
pub too_long : (g p : List Point) → length g < length p → holds g p ≡ false
too_long g p l = false_from (holds g p) (λ k. let m = holds_shorter g p k in omega arith)

pub ruleset measuring = (too_long)

-- a short pattern holds only short ones
pub any-short : (p : List Point) (patterns : List (List Point)) → length p ≤ 2 → list_any (λ o. holds p o) (filter (λ o. nat_le (length o) 2) patterns) ≡ list_any (λ o. holds p o) patterns
any-short p patterns small = any-filtered (λ o. holds p o) (λ o. nat_le (length o) 2) patterns (λ o m k. let l = holds_shorter p o k in grind (arith, nat_tests))

-- where none is held, the rest of the test tells a member
none-held : (g : List Point) (patterns : List (List Point)) → list_any (λ p. holds g p) patterns ≡ false → list_all (λ p. not (holds g p)) patterns ≡ true
none-held g patterns e = all_pass (λ p. not (holds g p)) patterns (λ p m. not_false (holds g p) (false_from (holds g p) (λ k. let s = some_passes (λ q. holds g q) m k in cc)))

pub member-avoiding : (t : Tiles) (g : List Point) → list_any (λ p. holds g p) t.obstructions ≡ false → is_member t g ≡ (fits_grid t.width t.height g && list_all (λ patterns. list_any (λ p. holds g p) patterns) t.requirements)
member-avoiding t g e = rw (none-held g t.obstructions e) refl

pub ruleset avoiding = (member-avoiding)
