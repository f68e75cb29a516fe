-- A line without points goes, and the lines above it move down by one.
use Rattle.std.proofs.Common.{◌≡◌, ℕ, ◌+◌, ◌-◌, ◌<◌, Bool, true, false, List, [], ◌∷◌, refl, arith}
use Rattle.std.specs.Prelude.{◌==◌, not, nat_lt, if◌then◌else◌}
use Rattle.std.proofs.lemmas.Bool.Decides.{nat_tests}
use Rattle.lists.specs.Members.IsIn.{here, later}
use Rattle.lists.specs.Members.{IsIn}
use Rattle.gridded.specs.declared.axis.Axis.{Axis}
use Rattle.gridded.specs.declared.axis.Axis.TheVariants.{Column, Row}
use Rattle.gridded.specs.declared.cell.Cell.{Cell}
use Rattle.gridded.specs.Axes.{line_of, with_line, is_on}
use Rattle.gridded.specs.Grids.{Point}
use Rattle.gridded.specs.Moved.{move_cells}
use Rattle.steps.specs.Steps.{closed_line, close_cell, close_up}
use Rattle.steps.proofs.Moved.{KeepsOrder}

-- ---- numbers
-- the lines from i on move up by one
abbrev pub opened : ℕ → ℕ → ℕ
opened i k = if nat_lt k i then k else k + 1

abbrev is_off : ℕ → ℕ → Bool
is_off i k = not (k == i)

closed_order : (i k l : ℕ) → is_off i k ≡ true → is_off i l ≡ true → nat_lt (closed_line i k) (closed_line i l) ≡ nat_lt k l
closed_order i k l h m = go (nat_lt i k) (nat_lt i l) refl refl
  where
    go : (a b : Bool) → nat_lt i k ≡ a → nat_lt i l ≡ b → nat_lt (if a then k - 1 else k) (if b then l - 1 else l) ≡ nat_lt k l
    go true true e f = grind (arith, nat_tests)
    go true false e f = grind (arith, nat_tests)
    go false true e f = grind (arith, nat_tests)
    go false false e f = refl

pub closed_below : (i k n : ℕ) → is_off i k ≡ true → i < n → nat_lt (closed_line i k) (n - 1) ≡ nat_lt k n
closed_below i k n h b = go (nat_lt i k) refl
  where
    go : (a : Bool) → nat_lt i k ≡ a → nat_lt (if a then k - 1 else k) (n - 1) ≡ nat_lt k n
    go true e = grind (arith, nat_tests)
    go false e = grind (arith, nat_tests)

closed_opened : (i k : ℕ) → closed_line i (opened i k) ≡ k
closed_opened i k = go (nat_lt k i) refl
  where
    go : (a : Bool) → nat_lt k i ≡ a → closed_line i (if a then k else k + 1) ≡ k
    go true e = let f : nat_lt i k ≡ false = grind (arith, nat_tests) in rw f
    go false e = let f : nat_lt i (k + 1) ≡ true = grind (arith, nat_tests) in rw f (omega arith)

opened_closed : (i k : ℕ) → is_off i k ≡ true → opened i (closed_line i k) ≡ k
opened_closed i k h = go (nat_lt i k) refl
  where
    go : (a : Bool) → nat_lt i k ≡ a → opened i (if a then k - 1 else k) ≡ k
    go true e = let f : nat_lt (k - 1) i ≡ false = grind (arith, nat_tests) in rw f (grind (arith, nat_tests))
    go false e = let f : nat_lt k i ≡ true = grind (arith, nat_tests) in rw f

opened_off : (i k : ℕ) → is_off i (opened i k) ≡ true
opened_off i k = go (nat_lt k i) refl
  where
    go : (a : Bool) → nat_lt k i ≡ a → is_off i (if a then k else k + 1) ≡ true
    go true e = grind (arith, nat_tests)
    go false e = grind (arith, nat_tests)

-- ---- cells and patterns
abbrev pub is_off_line : Axis → ℕ → Cell → Bool
is_off_line a i c = not (is_on a i c)

pub closing_keeps : (a : Axis) (i : ℕ) → KeepsOrder (close_cell a i) (is_off_line a i)
closing_keeps Column i = record { columns = λ c d h k. closed_order i c.x d.x h k; rows = λ c d h k. refl }
closing_keeps Row i = record { columns = λ c d h k. refl; rows = λ c d h k. closed_order i c.y d.y h k }

abbrev pub open_cell : Axis → ℕ → Cell → Cell
open_cell a i c = with_line a (opened i (line_of a c)) c

abbrev pub open_up : Axis → ℕ → List Point → List Point
open_up a i g = move_cells (open_cell a i) g

pub close_open_cell : (a : Axis) (i : ℕ) (c : Cell) → close_cell a i (open_cell a i c) ≡ c
close_open_cell Column i c = let e = closed_opened i c.x in λ j. record { x = e j; y = c.y }
close_open_cell Row i c = let e = closed_opened i c.y in λ j. record { x = c.x; y = e j }

open_close_cell : (a : Axis) (i : ℕ) (c : Cell) → is_off_line a i c ≡ true → open_cell a i (close_cell a i c) ≡ c
open_close_cell Column i c h = let e = opened_closed i c.x h in λ j. record { x = e j; y = c.y }
open_close_cell Row i c h = let e = opened_closed i c.y h in λ j. record { x = c.x; y = e j }

pub open_off : (a : Axis) (i : ℕ) (c : Cell) → is_off_line a i (open_cell a i c) ≡ true
open_off Column i c = opened_off i c.x
open_off Row i c = opened_off i c.y

-- no point lies on the line
abbrev pub IsOff : Axis → ℕ → List Point → Type 0
IsOff a i g = (p : Point) → IsIn p g → is_off_line a i p.cell ≡ true

pub close_open : (a : Axis) (i : ℕ) (g : List Point) → close_up a i (open_up a i g) ≡ g
close_open a i [] = refl
close_open a i (p ∷ g) = let e = close_open_cell a i p.cell in let ih = close_open a i g in λ j. record { letter = p.letter; cell = e j } ∷ ih j

pub open_close : (a : Axis) (i : ℕ) (g : List Point) → IsOff a i g → open_up a i (close_up a i g) ≡ g
open_close a i [] h = refl
open_close a i (p ∷ g) h =
    let e = open_close_cell a i p.cell (h p here) in
    let ih = open_close a i g (λ q m. h q (later p m)) in
    λ j. record { letter = p.letter; cell = e j } ∷ ih j

pub opened_is_off : (a : Axis) (i : ℕ) (g : List Point) → IsOff a i (open_up a i g)
opened_is_off a i [] p m = elim m [ ]
opened_is_off a i (q ∷ g) _ here = open_off a i q.cell
opened_is_off a i (q ∷ g) p (later _ m) = opened_is_off a i g p m
