-- Cells that are bound to a set of cells of a line, and what grows.
use Rattle.std.proofs.Common.{◌≡◌, ◌<◌, ◌≤◌, ◌+◌, ◌-◌, ℕ, zero, suc, Bool, true, false, List, [], ◌∷◌, length, refl, sym, ap, ◌∙◌, arith}
use Rattle.std.specs.Prelude.{◌&&◌, ◌||◌}
use Rattle.std.specs.List.{list_any}
use Rattle.std.proofs.lemmas.Bool.{and_parts, and_from}
use Rattle.lists.proofs.Tests.{some_passes, no_pass, list_any-agree}
use Rattle.gridded.specs.declared.axis.Axis.{Axis}
use Rattle.gridded.specs.declared.cell.Cell.{Cell}
use Rattle.gridded.specs.Axes.{is_on, cell_on}
use Rattle.gridded.specs.Orders.{cell_eq}
use Rattle.gridded.specs.OrderLaws.{cell_equiv}
use Rattle.gridded.specs.CellSets.{cells_that, is_among as has_cell}
use Rattle.gridded.proofs.CellSets.{in_set, has_in}
use Rattle.tiling_core.specs.Tiles.{Tiles}
use Rattle.rule_kinds.specs.Choices.{is_bound, grown, grown_times, closure}
use Rattle.separation.specs.OnLines.{IsOfLine}
use Rattle.separation.proofs.OnLines.{place_in_line, of_line_filter}

-- ---- which cells are reached
-- whether the cell at a place is in the set and binds another cell
abbrev pub binds_at : Axis → ℕ → Tiles → List Cell → Cell → ℕ → Bool
binds_at a i t set other k = has_cell set (cell_on a i k) && is_bound a t (cell_on a i k) other

pub reached : (a : Axis) (t : Tiles) (set : List Cell) (cell other : Cell) (answer : Bool) → answer ≡ (has_cell set cell && is_bound a t cell other) → answer ≡ true → list_any (λ c. is_bound a t c other) set ≡ true
reached a t set cell other answer e f =
    let p = and_parts (has_cell set cell) (is_bound a t cell other) (sym e ∙ f) in some_passes (λ c. is_bound a t c other) (in_set set cell p.0) p.1

pub none_reached : (a : Axis) (i : ℕ) (t : Tiles) (set : List Cell) (other : Cell) → IsOfLine a i set → ((k : ℕ) → k < 8 → binds_at a i t set other k ≡ false) → list_any (λ c. is_bound a t c other) set ≡ false
none_reached a i t set other s f =
    no_pass (λ c. is_bound a t c other) set (λ c m e. let p = place_in_line a i set c s m in
    clash (sym (f p.0 p.1) ∙ ap (λ d. has_cell set d && is_bound a t d other) (sym p.2) ∙ and_from (has_cell set c) (is_bound a t c other) (has_in set c m) e))
  where
    clash : false ≡ true → ⊥
    clash e = cc

-- the places so far, and one more
pub none_at : (a : Axis) (i : ℕ) (t : Tiles) (set : List Cell) (cell other : Cell) (answer : Bool) (k n : ℕ) → answer ≡ (has_cell set cell && is_bound a t cell other) → answer ≡ false → cell ≡ cell_on a i n → k < n + 1 → ((m : ℕ) → m < n → binds_at a i t set other m ≡ false) → binds_at a i t set other k ≡ false
none_at a i t set cell other answer k n e f at l so_far = go (n - k) refl
  where
    go : (d : ℕ) → n - k ≡ d → binds_at a i t set other k ≡ false
    go zero g = let same : k ≡ n = omega arith in (λ j. has_cell set (cell_on a i (same j)) && is_bound a t (cell_on a i (same j)) other) ∙ ap (λ c. has_cell set c && is_bound a t c other) (sym at) ∙ sym e ∙ f
    go (suc d) g = so_far k (omega arith)

-- ---- those of the set, and those that are bound
any-or : {X : Type 0} (p q : X → Bool) (xs : List X) → list_any (λ x. p x || q x) xs ≡ (list_any p xs || list_any q xs)
any-or p q [] = refl
any-or p q (x ∷ xs) = go (p x) (q x) (list_any p xs) (list_any q xs) (any-or p q xs)
  where
    go : (s t u v : Bool) → list_any (λ y. p y || q y) xs ≡ (u || v) → ((s || t) || list_any (λ y. p y || q y) xs) ≡ ((s || u) || (t || v))
    go true t u v e = refl
    go false true true v e = refl
    go false true false v e = refl
    go false false u v e = e

pub either : (link : Cell → Cell → Bool) (set : List Cell) (other : Cell) → (has_cell set other || list_any (λ c. link c other) set) ≡ list_any (λ c. cell_eq c other || link c other) set
either link set other =
    ap (λ b. b || list_any (λ c. link c other) set) (list_any-agree (λ c. cell_eq other c) (λ c. cell_eq c other) set (λ c m. cell_equiv.symm other c))
    ∙ sym (any-or (λ c. cell_eq c other) (λ c. link c other) set)

pub grown_is : (a : Axis) (i : ℕ) (link : Cell → Cell → Bool) (whole set larger : List Cell) → IsOfLine a i whole → larger ≡ cells_that (λ d. is_on a i d && (has_cell whole d && list_any (λ c. cell_eq c d || link c d) set)) → larger ≡ grown link whole set
grown_is a i link whole set larger w e = e ∙ sym (of_line_filter a i whole (λ d. list_any (λ c. cell_eq c d || link c d) set) w)

-- ---- rounds
more_rounds : (link : Cell → Cell → Bool) (cells set : List Cell) (n : ℕ) → grown_times (suc n) link cells set ≡ grown link cells (grown_times n link cells set)
more_rounds link cells set zero = refl
more_rounds link cells set (suc n) = more_rounds link cells (grown link cells set) n

pub next_round : (link : Cell → Cell → Bool) (cells start set larger : List Cell) (n : ℕ) → set ≡ grown_times n link cells start → larger ≡ grown link cells set → larger ≡ grown_times (n + 1) link cells start
next_round link cells start set larger n e f =
    let up : suc n ≡ n + 1 = omega arith in f ∙ ap (grown link cells) e ∙ sym (more_rounds link cells start n) ∙ ap (λ m. grown_times m link cells start) up

stays : (link : Cell → Cell → Bool) (cells set : List Cell) → grown link cells set ≡ set → (n : ℕ) → grown_times n link cells set ≡ set
stays link cells set e zero = refl
stays link cells set e (suc n) = ap (grown_times n link cells) e ∙ stays link cells set e n

rounds_together : (link : Cell → Cell → Bool) (cells : List Cell) (n m : ℕ) (set : List Cell) → grown_times (n + m) link cells set ≡ grown_times m link cells (grown_times n link cells set)
rounds_together link cells zero m set = let e : 0 + m ≡ m = omega arith in ap (λ k. grown_times k link cells set) e
rounds_together link cells (suc n) m set = let e : suc n + m ≡ suc (n + m) = omega arith in ap (λ k. grown_times k link cells set) e ∙ rounds_together link cells n m (grown link cells set)

-- what doesn't grow any more is the closure
pub closed_early : (link : Cell → Cell → Bool) (cells set larger : List Cell) (cell : Cell) (n : ℕ) → n ≤ length cells → set ≡ grown_times n link cells (cell ∷ []) → larger ≡ grown link cells set → larger ≡ set → set ≡ closure link cells cell
closed_early link cells set larger cell n l e f g =
    let rest : n + (length cells - n) ≡ length cells = omega arith in
    sym (ap (λ k. grown_times k link cells (cell ∷ [])) (sym rest) ∙ rounds_together link cells n (length cells - n) (cell ∷ []) ∙ ap (grown_times (length cells - n) link cells) (sym e) ∙ stays link cells set (sym f ∙ g) (length cells - n))

pub closed_late : (link : Cell → Cell → Bool) (cells set : List Cell) (cell : Cell) (n : ℕ) → n ≡ length cells → set ≡ grown_times n link cells (cell ∷ []) → set ≡ closure link cells cell
closed_late link cells set cell n l e = e ∙ ap (λ k. grown_times k link cells (cell ∷ [])) l

pub grown_first : (link : Cell → Cell → Bool) (set : List Cell) (other : Cell) (answer : Bool) → answer ≡ has_cell set other → answer ≡ true → answer ≡ list_any (λ c. cell_eq c other || link c other) set
grown_first link set other answer e f = f ∙ sym (ap (λ b. b || list_any (λ c. link c other) set) (sym e ∙ f)) ∙ either link set other

pub grown_then : (link : Cell → Cell → Bool) (set : List Cell) (other : Cell) (has answer : Bool) → has ≡ has_cell set other → has ≡ false → answer ≡ list_any (λ c. link c other) set → answer ≡ list_any (λ c. cell_eq c other || link c other) set
grown_then link set other has answer e f g = g ∙ sym (ap (λ b. b || list_any (λ c. link c other) set) (sym e ∙ f)) ∙ either link set other
