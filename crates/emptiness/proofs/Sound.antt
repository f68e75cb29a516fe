-- What the search reaches is a member, no longer than the weight allows.
use Rattle.std.proofs.Common.{◌≡◌, ℕ, suc, ◌+◌, ◌-◌, ◌≤◌, Bool, true, false, cond, List, [], ◌∷◌, length, refl, arith, ⊎_elim}
use Rattle.std.specs.Prelude.{◌&&◌, not, ◌==◌, fold, max}
use Rattle.std.specs.List.{list_any, range_with_len, AllZip}
use Rattle.std.proofs.lemmas.List.{length-map}
use Rattle.std.proofs.lemmas.List.Sums.{sum_by-cons}
use Rattle.std.proofs.lemmas.Bool.Decides.{Decides-eqb}
use Rattle.std.proofs.lemmas.Bool.{false_from_ne_true as false_from, and_parts as and_true, and_from as both_true, or_cases as or_true}
use Rattle.lists.specs.Members.IsIn.{here, later}
use Rattle.patterns.proofs.Occurrences.{occurs_decides}
use Rattle.gridded.specs.declared.cell.Cell.{Cell}
use Rattle.gridded.specs.Grids.{Point, letter_of, cell_of, same_cell, holds, Holds}
use Rattle.gridded.specs.Orders.{cells_of}
use Rattle.tiling_core.specs.Tiles.{Tiles, is_member}
use Rattle.tiling_core.specs.Measures.{longest}
use Rattle.emptiness.specs.Insertion.{fits_at, inserted}
use Rattle.emptiness.specs.Glueing.{weight_of, stands_in, joins, joins_at, falls_on, glues_at, glues, reaches}
use Rattle.emptiness.proofs.Inserted.{IsPlaced, IsPlaced-inserted, length-inserted, Holds-inserted}
use Rattle.gridded.proofs.Holding.{Holds-trans}
use Rattle.lists.proofs.Tests.{which_passes, some_passes, each_passes, all_pass}
use Rattle.lists.specs.Members.{IsIn}
use Rattle.lists.proofs.Ranges.{IsIn-range_with_len}
use Rattle.lists.proofs.Parts.{IsPart-itself}
use Rattle.tiling_core.proofs.Deciding.{not_held as not_both}

-- ---- a gridded permutation holds itself
fit-itself : (g : List Point) → AllZip (λ x a. same_cell x a ≡ true) g g
fit-itself [] = tt
fit-itself (p ∷ g) = (both_true (p.cell.x == p.cell.x) (p.cell.y == p.cell.y) ((Decides-eqb p.cell.x p.cell.x).1 refl) ((Decides-eqb p.cell.y p.cell.y).1 refl), fit-itself g)

Holds-itself : (g : List Point) → Holds g g
Holds-itself g = record { points = g; chosen = IsPart-itself g; order = record { as_many = refl; alike = λ i j h k. ((λ l. l), (λ l. l)) }; fit = fit-itself g }

longest_from : (patterns : List (List Point)) (a : ℕ) → a ≤ fold (λ most p. max most (length p)) a patterns
longest_from [] a = omega arith
longest_from (p ∷ patterns) a = let k = longest_from patterns (max a (length p)) in omega arith

longest_in : {p : List Point} (a : ℕ) {patterns : List (List Point)} → IsIn p patterns → length p ≤ fold (λ most q. max most (length q)) a patterns
longest_in {p} a (here {xs = patterns}) = let k = longest_from patterns (max a (length p)) in omega arith
longest_in a (later q h) = longest_in (max a (length q)) h

-- a member that holds g, of length n at most
pub record Found (t : Tiles) (g : List Point) (n : ℕ) : Type 0 where
  pub found : List Point
  pub placed : IsPlaced found
  pub belongs : is_member t found ≡ true
  pub held : Holds found g
  pub short : length found ≤ n

abbrev longer : {t : Tiles} {g : List Point} (m n : ℕ) → m ≤ n → Found t g m → Found t g n
longer m n h f = record { found = f.found; placed = f.placed; belongs = f.belongs; held = f.held; short = omega (arith, f.short) }

module _ (t : Tiles) (p : List Point) (next : List Point → Bool) (w : ℕ) (sound : (g : List Point) → IsPlaced g → next g ≡ true → Found t g (length g + w)) where
  abbrev Next : List Cell → Type 0
  Next cells = (from : ℕ) (g : List Point) → IsPlaced g → glues t.obstructions p next cells from g ≡ true → Found t g (length g + length cells + w)

  step : (c : Cell) (cells : List Cell) → Next cells → (g : List Point) → IsPlaced g → (i : ℕ) → glues_at t.obstructions (λ place h. glues t.obstructions p next cells place h) c g i ≡ true → Found t g (length g + suc (length cells) + w)
  step c cells ih g h i e =
      ⊎_elim {C = Found t g (length g + suc (length cells) + w)} fallen joined (or_true (falls_on (λ place k. glues t.obstructions p next cells place k) c g i) (joins_at t.obstructions (λ place k. glues t.obstructions p next cells place k) c g i) e)
    where
      more : ℕ → List Point → Bool
      more place k = glues t.obstructions p next cells place k

      fallen : falls_on (λ place k. glues t.obstructions p next cells place k) c g i ≡ true → Found t g (length g + suc (length cells) + w)
      fallen f =
          longer (length g + length cells + w) (length g + suc (length cells) + w) (omega arith) (ih (i + 1) g h (and_true (stands_in i c g) (glues t.obstructions p next cells (i + 1) g) f).1)

      joined : joins_at t.obstructions (λ place k. glues t.obstructions p next cells place k) c g i ≡ true → Found t g (length g + suc (length cells) + w)
      joined f =
          let one = which_passes (λ l. joins t.obstructions (λ place k. glues t.obstructions p next cells place k) c g i l) (range_with_len 0 (length g + 1)) f in
          let l = one.0 in
          let low = (IsIn-range_with_len 0 (length g + 1) l one.1).1 in
          let a = and_true (fits_at i l c g) (not (list_any (λ q. holds (inserted i l c g) q) t.obstructions) && glues t.obstructions p next cells (i + 1) (inserted i l c g)) one.2 in
          let b = and_true (not (list_any (λ q. holds (inserted i l c g) q) t.obstructions)) (glues t.obstructions p next cells (i + 1) (inserted i l c g)) a.1 in
          let k = ih (i + 1) (inserted i l c g) (IsPlaced-inserted i l c g h (omega arith) a.0) b.1 in
          let long = length-inserted i l c g in
          record { found = k.found; placed = k.placed; belongs = k.belongs; held = Holds-trans k.found (inserted i l c g) g k.held (Holds-inserted i l c g); short = omega (arith, k.short) }

  pub glues-sound : (cells : List Cell) → Next cells
  unfolding glues
  glues-sound [] from g h e =
      longer (length g + w) (length g + 0 + w) (omega arith) (sound g h (and_true (holds g p) (next g) e).1)
  glues-sound (c ∷ cells) from g h e =
      let one = which_passes (λ i. glues_at t.obstructions (λ place k. glues t.obstructions p next cells place k) c g i) (range_with_len from (length g + 1 - from)) e in
      step c cells (glues-sound cells) g h one.0 one.2

pub reaches-sound : (t : Tiles) (lists : List (List (List Point))) (g : List Point) → IsPlaced g → reaches t lists g ≡ true → Found t g (length g + weight_of lists)
unfolding reaches
reaches-sound t [] g h e = record { found = g; placed = h; belongs = e; held = Holds-itself g; short = omega arith }
reaches-sound t (ps ∷ lists) g h e = go (list_any (λ p. holds g p) ps) (λ k i f. reaches-sound t lists k i f) e
  where
    sum : weight_of (ps ∷ lists) ≡ longest ps + weight_of lists
    sum = sum_by-cons (λ qs. longest qs) ps lists

    go : (b : Bool) → ((k : List Point) → IsPlaced k → reaches t lists k ≡ true → Found t k (length k + weight_of lists))
        → cond b (reaches t lists g) (list_any (λ p. glues t.obstructions p (λ k. reaches t lists k) (cells_of p) 0 g) ps) ≡ true → Found t g (length g + weight_of (ps ∷ lists))
    go true ih f = longer (length g + weight_of lists) (length g + weight_of (ps ∷ lists)) (omega (arith, sum)) (ih g h f)
    go false ih f =
        let one = which_passes (λ p. glues t.obstructions p (λ k. reaches t lists k) (cells_of p) 0 g) ps f in
        let k = glues-sound t one.0 (λ q. reaches t lists q) (weight_of lists) ih (cells_of one.0) 0 g h one.2 in
        let small : length one.0 ≤ longest ps = longest_in 0 one.1 in
        longer (length g + length (cells_of one.0) + weight_of lists) (length g + weight_of (ps ∷ lists)) (omega (arith, sum, length-map one.0 cell_of)) k
