-- An ascending list of cells with digits up to 7 is the set of its cells.
use Rattle.std.proofs.Common.{◌≡◌, ◌≢◌, ◌<◌, ◌≤◌, ◌+◌, ◌*◌, ℕ, zero, suc, Bool, true, false, cond, List, [], ◌∷◌, ◌++◌, length, map, take, get_or, refl, sym, ap, subst, ◌∙◌, ⊎_elim, arith}
use Rattle.std.specs.Prelude.{◌&&◌, ◌||◌, filter, nat_le}
use Rattle.std.specs.declared.cmp.Ordering.{Ordering}
use Rattle.std.specs.declared.cmp.Ordering.TheVariants.{Less, Equal, Greater}
use Rattle.std.specs.Ordering.{nat_cmp, is_lt, ordering_then}
use Rattle.std.specs.Cmp.{first_so, second_so}
use Rattle.std.specs.List.{range_with_len, list_any, list_all}
use Rattle.std.proofs.lemmas.Bool.{cases_lt}
use Rattle.std.proofs.lemmas.Cmp.{ranked}
use Rattle.std.proofs.lemmas.Grind.{common_steps}
use Rattle.std.proofs.lemmas.List.{take_all, take_more}
use Rattle.std.proofs.lemmas.List.Folds.{list_any-append}
use Rattle.lists.specs.Members.{IsIn}
use Rattle.lists.specs.Members.IsIn.{here, later}
use Rattle.gridded.specs.declared.cell.Cell.{Cell}
use Rattle.gridded.specs.Grids.{cells_in}
use Rattle.gridded.specs.Laws.{IsCellOf}
use Rattle.gridded.specs.Orders.{cell_eq, cell_cmp}
use Rattle.gridded.specs.OrderLaws.{cell_eq_decides}
use Rattle.gridded.specs.CellSets.{cells_that, is_among, with_cell, bit_of}
use Rattle.gridded.proofs.CellSets.{agree_on_cells, is_among-cells_that}
use Rattle.gridded.proofs.GriddedLists.{from_IsIn-cells_in}
use Rattle.spec_lines.specs.Forms.{ascending, is_cell, is_set}
use Rattle.spec_lines.specs.Ranges.{is_small}

-- ---- one cell more
swapped : (a b : Bool) → (a || b) ≡ (b || (a || false))
swapped true true = refl
swapped true false = refl
swapped false true = refl
swapped false false = refl

pub one_cell : (front : List Cell) (cell : Cell) → with_cell (cells_that (λ c. is_among front c)) cell ≡ cells_that (λ c. is_among (front ++ cell ∷ []) c)
unfolding cells_that
one_cell front cell = agree_on_cells (λ c. cell_eq c cell || is_among (cells_that (λ d. is_among front d)) c) (λ c. is_among (front ++ cell ∷ []) c) (cells_in 8 8) each
  where
    each : (c : Cell) → IsIn c (cells_in 8 8) → (cell_eq c cell || is_among (cells_that (λ d. is_among front d)) c) ≡ is_among (front ++ cell ∷ []) c
    each c k =
        ap (λ b. cell_eq c cell || b) (is_among-cells_that (λ d. is_among front d) c (from_IsIn-cells_in 8 8 c k))
        ∙ swapped (cell_eq c cell) (is_among front c)
        ∙ sym (list_any-append (λ d. cell_eq c d) front (cell ∷ []))

pub no_cell : [] ≡ cells_that (λ c. is_among [] c)
unfolding cells_that
no_cell = refl

-- ---- bits rise
-- the cells have digits up to 7, and their bits rise from n on
abbrev Rises : ℕ → List Cell → Type 0
Rises n [] = Unit {0}
Rises n (c ∷ cells) = (n ≤ bit_of c) × (c.x ≤ 7) × (c.y ≤ 7) × Rises ((bit_of c + 1)) cells

bit_less : (c d : Cell) → c.y ≤ 7 → is_lt (cell_cmp c d) ≡ true → bit_of c < bit_of d
bit_less c d low less = columns (nat_cmp c.x d.x) (nat_cmp c.y d.y) refl refl less
  where
    columns : (o q : Ordering) → o ≡ nat_cmp c.x d.x → q ≡ nat_cmp c.y d.y → is_lt (ordering_then o q) ≡ true → bit_of c < bit_of d
    columns Less q e f h = let left = ranked c.x d.x Less e in omega (arith, left, low)
    columns Equal Less e f h = let same = ranked c.x d.x Equal e in let below = ranked c.y d.y Less f in omega (arith, same, below)
    columns Equal Equal e f h = absurd cc
    columns Equal Greater e f h = absurd cc
    columns Greater q e f h = absurd cc

digits : (c : Cell) → (nat_le c.x 7 && nat_le c.y 7) ≡ true → (c.x ≤ 7) × (c.y ≤ 7)
digits c h =
    let left = first_so (nat_le c.x 7) (nat_le c.y 7) h in
    let low = second_so (nat_le c.x 7) (nat_le c.y 7) h in
    (grind (arith, common_steps, left), grind (arith, common_steps, low))

rises : (n : ℕ) (c : Cell) (cells : List Cell) → n ≤ bit_of c → ascending cell_cmp (c ∷ cells) ≡ true → is_small (c ∷ cells) ≡ true → Rises n (c ∷ cells)
rises n c [] from up small = let d = digits c (first_so (nat_le c.x 7 && nat_le c.y 7) true small) in (from, d.0, d.1, tt)
rises n c (e ∷ cells) from up small =
    let d = digits c (first_so (nat_le c.x 7 && nat_le c.y 7) (is_small (e ∷ cells)) small) in
    let next = bit_less c e (d.1) (first_so (is_lt (cell_cmp c e)) (ascending cell_cmp (e ∷ cells)) up) in
    (from, d.0, d.1, rises ((bit_of c + 1)) e cells (omega (arith, next)) (second_so (is_lt (cell_cmp c e)) (ascending cell_cmp (e ∷ cells)) up) (second_so (nat_le c.x 7 && nat_le c.y 7) (is_small (e ∷ cells)) small))

same_cell : (c d : Cell) → c.y ≤ 7 → d.y ≤ 7 → bit_of c ≡ bit_of d → c ≡ d
same_cell c d low low' e =
    let columns : c.x ≡ d.x = omega (arith, low, low', e) in
    let rows : c.y ≡ d.y = omega (arith, low, low', e) in
    λ i. record { x = columns i; y = rows i }

other_bit : (c d : Cell) → bit_of c ≢ bit_of d → cell_eq c d ≡ false
other_bit c d differ = go (cell_eq c d) refl
  where
    go : (b : Bool) → cell_eq c d ≡ b → cell_eq c d ≡ false
    go true e = absurd (differ (ap bit_of ((cell_eq_decides c d).0 e)))
    go false e = e

-- a cell before them isn't among them
none_before : (n : ℕ) (cells : List Cell) (c : Cell) → Rises n cells → bit_of c < n → is_among cells c ≡ false
none_before n [] c up before = refl
none_before n (d ∷ cells) c up before =
    let from = up.0 in
    let apart = other_bit c d (λ e. absurd (omega (arith, from, before, e))) in
    let rest = none_before ((bit_of d + 1)) cells c (up.3) (omega (arith, from, before)) in
    rw (apart, rest) refl

bits_from : (all : List Cell) (a : ℕ) (c : Cell) → map bit_of all ≡ range_with_len a (length all) → IsIn c all → a ≤ bit_of c
bits_from [] a c e k = elim k [ ]
bits_from (d ∷ all) a _ e here = let same : bit_of d ≡ a = cc in omega (arith, same)
bits_from (d ∷ all) a c e (later _ k) = let rest : map bit_of all ≡ range_with_len (a + 1) (length all) = cc in let more = bits_from all (a + 1) c rest k in omega (arith, more)

-- with a further cell that is none of them
skips : (a : ℕ) (d : Cell) (all cells : List Cell) → bit_of d ≡ a → Rises (a + 1) cells → filter (λ e. is_among cells e) all ≡ cells → filter (λ e. is_among cells e) (d ∷ all) ≡ cells
skips a d all cells first up more = let not_here = none_before (a + 1) cells d up (omega (arith, first)) in rw not_here more

-- with a further cell that is the first of them
takes : (a : ℕ) (d c : Cell) (all cells : List Cell) → bit_of d ≡ a → bit_of c ≡ a → d.y ≤ 7 → c.y ≤ 7 → map bit_of all ≡ range_with_len (a + 1) (length all) → filter (λ e. is_among cells e) all ≡ cells → filter (λ e. is_among (c ∷ cells) e) (d ∷ all) ≡ c ∷ cells
takes a d c all cells first stands low_d low_c rest more =
    let same : d ≡ c = same_cell d c low_d low_c (first ∙ sym stands) in
    let itself : cell_eq c c ≡ true = (cell_eq_decides c c).1 refl in
    let among : is_among (c ∷ cells) c ≡ true = ap (λ b. b || is_among cells c) itself in
    let there : is_among (c ∷ cells) d ≡ true = ap (λ z. is_among (c ∷ cells) z) same ∙ among in
    let behind : filter (λ z. is_among (c ∷ cells) z) all ≡ filter (λ z. is_among cells z) all = agree_on_cells (λ z. is_among (c ∷ cells) z) (λ z. is_among cells z) all (λ z k. let from = bits_from all (a + 1) z rest k in ap (λ b. b || is_among cells z) (other_bit z c (λ f. absurd (omega (arith, from, f, stands))))) in
    ap (λ b. cond b (d ∷ filter (λ z. is_among (c ∷ cells) z) all) (filter (λ z. is_among (c ∷ cells) z) all)) there
    ∙ ap (λ xs. d ∷ xs) (behind ∙ more) ∙ ap (λ z. z ∷ cells) same

-- those of all cells, in the order of their bits, that are among some are these
listed : (all : List Cell) (a : ℕ) → map bit_of all ≡ range_with_len a (length all) → a + length all ≡ 64 → ((c : Cell) → IsIn c all → IsCellOf 8 8 c) → (cells : List Cell) → Rises a cells → filter (λ c. is_among cells c) all ≡ cells
listed [] a bits whole small [] up = refl
listed [] a bits whole small (c ∷ cells) up = let from = up.0 in let left = up.1 in let low = up.2 in absurd (omega (arith, whole, from, left, low))
listed (d ∷ all) a bits whole small [] up =
    let rest : map bit_of all ≡ range_with_len (a + 1) (length all) = cc in
    listed all (a + 1) rest (omega (arith, whole)) (λ c k. small c (later d k)) [] tt
listed (d ∷ all) a bits whole small (c ∷ cells) up =
    let rest : map bit_of all ≡ range_with_len (a + 1) (length all) = cc in
    let first : bit_of d ≡ a = cc in
    let from = up.0 in
    let low = up.2 in
    let inside = small d here in
    let below = inside.1 in
    ⊎_elim {C = filter (λ e. is_among (c ∷ cells) e) (d ∷ all) ≡ c ∷ cells}
    (λ above. let onward : Rises (a + 1) (c ∷ cells) = (omega (arith, above), up.1, up.2, up.3) in skips a d all (c ∷ cells) first onward (listed all (a + 1) rest (omega (arith, whole)) (λ e k. small e (later d k)) (c ∷ cells) onward))
    (λ at_most. let there : bit_of c ≡ a = omega (arith, at_most, from) in takes a d c all cells first there (omega (arith, below)) low rest (listed all (a + 1) rest (omega (arith, whole)) (λ e k. small e (later d k)) cells (subst (λ n. Rises (n + 1) cells) there (up.3))))
    (cases_lt a (bit_of c))

pub whole_set : (cells : List Cell) → is_set cells ≡ true → is_small cells ≡ true → cells_that (λ c. is_among cells c) ≡ cells
unfolding cells_that
whole_set [] set small = absurd cc
whole_set (c ∷ cells) set small =
    listed (cells_in 8 8) 0 refl refl (λ d k. from_IsIn-cells_in 8 8 d k) (c ∷ cells) (rises 0 c cells (omega arith) (second_so (list_all is_cell (c ∷ cells)) (ascending cell_cmp (c ∷ cells)) set) small)

-- ---- the cells up to a place
pub set_step : (cells : List Cell) (i : ℕ) (cell d : Cell) (set larger : List Cell) → set ≡ cells_that (λ c. is_among (take i cells) c) → larger ≡ with_cell set cell → i < length cells → cell ≡ get_or cells i d → larger ≡ cells_that (λ c. is_among (take (i + 1) cells) c)
set_step cells i cell d set larger so_far more within stands =
    more ∙ ap (λ s. with_cell s cell) so_far ∙ one_cell (take i cells) cell
    ∙ ap (λ xs. cells_that (λ c. is_among xs c)) (ap (λ z. take i cells ++ z ∷ []) stands ∙ sym (take_more cells i d within))

pub set_end : (cells set : List Cell) (i : ℕ) → set ≡ cells_that (λ c. is_among (take i cells) c) → length cells ≤ i → is_set cells ≡ true → is_small cells ≡ true → set ≡ cells
set_end cells set i so_far past is_one small =
    so_far ∙ ap (λ xs. cells_that (λ c. is_among xs c)) (take_all i cells past) ∙ whole_set cells is_one small
