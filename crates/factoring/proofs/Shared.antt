-- Sets that share out some cells.
use Rattle.std.proofs.Common.{◌≡◌, ℕ, zero, suc, ◌+◌, ◌-◌, ◌<◌, ◌≤◌, Bool, true, false, cond, List, [], ◌∷◌, length, take, get_or, refl, sym, ap, ◌∙◌, subst, arith}
use Rattle.std.specs.Prelude.{◌==◌, ◌&&◌, not, All, sum_by, slice_get, Some}
use Rattle.std.specs.List.{list_all, list_any}
use Rattle.std.specs.List.Sorted.{IsStrictlySortedBy}
use Rattle.std.specs.Ordering.{ordering_then}
use Rattle.std.specs.declared.cmp.Ordering.{Ordering}
use Rattle.std.specs.declared.cmp.Ordering.TheVariants.{Less, Equal, Greater}
use Rattle.std.specs.Cmp.Lexicographic.{pointwise_decides, slice_cmp, lists_total}
use Rattle.std.proofs.lemmas.Bool.Decides.{Decides-eqb, nat_tests}
use Rattle.std.proofs.lemmas.Bool.{not-true, not_from_false, false_from_ne_true}
use Rattle.std.proofs.lemmas.List.{take_all}
use Rattle.std.proofs.lemmas.List.Sums.{sum_by_more, sum_by_more_le}
use Rattle.std.proofs.lemmas.List.Concat.{length-flat_map}
use Rattle.std.proofs.lemmas.List.Kept.{IsStrictlySortedBy-filter}
use Rattle.lists.specs.Members.{IsIn, NoRepeats, is_nil}
use Rattle.lists.specs.Members.IsIn.{here}
use Rattle.lists.proofs.Members.{of_all, contained, is_in, from_IsIn-flat_map, IsIn-flat_map, IsIn-append_left}
use Rattle.lists.proofs.Places.{some_at, IsIn-slice_get}
use Rattle.lists.proofs.Repeats.{apart_append, rest_append}
use Rattle.lists.proofs.Tests.{same_test, each_passes, all_pass, which_passes, some_passes, none_passes}
use Rattle.sequences.specs.Ascending.{in_order}
use Rattle.sequences.proofs.InOrder.{in_order_ascends, in_order-is, list_any-in_order}
use Rattle.sequences.proofs.Adjacent.{ascending_itself}
use Rattle.gridded.specs.declared.cell.Cell.{Cell}
use Rattle.gridded.specs.CellSets.{is_among, cells_that, IsCellSet}
use Rattle.gridded.specs.CellSetOrder.{set_eq_decides}
use Rattle.gridded.specs.Grids.{cells_in}
use Rattle.gridded.specs.Orders.{cell_eq, cell_cmp}
use Rattle.gridded.specs.OrderLaws.{cell_total}
use Rattle.gridded.proofs.CellSets.{in_set, has_in}
use Rattle.rule_kinds.specs.Conditions.{all_of, shares_out}
use Rattle.factoring_law.proofs.Factored.{cells_exact}
use Rattle.factoring_law.proofs.Finest.{sets_exact}
use Rattle.factoring_law.proofs.Homes.{once_each}
use Rattle.factoring.specs.Shares.{have_cells, are_as_many, is_covered, agrees, sets_ascend, is_less, starts_before}
use Rattle.factoring.proofs.Numbers.{in_eight}
use Rattle.factoring.proofs.Rounds.{set_once}

pub clash : {b : Bool} → b ≡ true → b ≡ false → ⊥
clash {b = true} e f = cc
clash {b = false} e f = cc

-- ---- a set ascends
in_order_64 : in_order cell_cmp (cells_in 8 8) ≡ cells_in 8 8
in_order_64 = refl

pub all_sorted : IsStrictlySortedBy cell_cmp (cells_in 8 8)
all_sorted = subst (λ cells. IsStrictlySortedBy cell_cmp cells) in_order_64 (in_order_ascends cell_cmp cell_total cells_exact (cells_in 8 8))

pub set_sorted : (set : List Cell) → IsCellSet set → IsStrictlySortedBy cell_cmp set
unfolding cells_that
set_sorted set s = subst (λ cells. IsStrictlySortedBy cell_cmp cells) (sym s) (IsStrictlySortedBy-filter cell_cmp (is_among set) (cells_in 8 8) all_sorted)

-- ---- the cells of all sets
covered_in : (sets : List (List Cell)) (c : Cell) → is_covered sets c ≡ true → IsIn c (all_of sets)
covered_in sets c e = let k = which_passes (λ (set : List Cell). is_among set c) sets e in IsIn-flat_map (λ (set : List Cell). set) k.1 (in_set k.0 c k.2)

in_covered : (sets : List (List Cell)) (c : Cell) → IsIn c (all_of sets) → is_covered sets c ≡ true
in_covered sets c m = let k = from_IsIn-flat_map (λ (set : List Cell). set) sets m in some_passes (λ (set : List Cell). is_among set c) k.1 (has_in k.0 c k.2)

have_means : (sets : List (List Cell)) (cells : List Cell) → have_cells sets cells ≡ true → in_order cell_cmp (all_of sets) ≡ cells
have_means sets cells e = (set_eq_decides (in_order cell_cmp (all_of sets)) cells).0 e

same_cells : (sets : List (List Cell)) (cells : List Cell) → have_cells sets cells ≡ true → (c : Cell) → is_among cells c ≡ is_among (all_of sets) c
same_cells sets cells e c = ap (λ l. is_among l c) (sym (have_means sets cells e)) ∙ list_any-in_order cell_cmp cell_total cells_exact (cell_eq c) (all_of sets)

pub agreeing : (sets : List (List Cell)) (cells : List Cell) → IsCellSet cells → All (λ set. IsCellSet set) sets → list_all (agrees sets cells) (cells_in 8 8) ≡ have_cells sets cells
agreeing sets cells s each = same_test (list_all (agrees sets cells) (cells_in 8 8)) (have_cells sets cells) to from
  where
    to : list_all (agrees sets cells) (cells_in 8 8) ≡ true → have_cells sets cells ≡ true
    to e = (set_eq_decides (in_order cell_cmp (all_of sets)) cells).1 (sym (in_order-is cell_cmp cell_total cells_exact cells (all_of sets) (record {
      ascends = set_sorted cells s;
      keeps = λ c h. contained (kept c (is_in (all_of sets) c h));
      adds_none = λ c h. contained (there c (is_in cells c h));
    })))
      where
        kept : (c : Cell) → IsIn c (all_of sets) → IsIn c cells
        kept c m =
            let k = from_IsIn-flat_map (λ (set : List Cell). set) sets m in
            let a = each_passes (agrees sets cells) e (in_eight k.0 c (of_all (λ (set : List Cell). IsCellSet set) each k.1) k.2) in
            go (is_among cells c) refl a
          where
            go : (b : Bool) → is_among cells c ≡ b → cond b (is_covered sets c) (not (is_covered sets c)) ≡ true → IsIn c cells
            go true f a = in_set cells c f
            go false f a = absurd (clash (in_covered sets c m) (not-true (is_covered sets c) a))

        there : (c : Cell) → IsIn c cells → IsIn c (all_of sets)
        there c m =
            let a = each_passes (agrees sets cells) e (in_eight cells c s m) in
            let among = has_in cells c m in
            covered_in sets c (ap (λ b. cond b (is_covered sets c) (not (is_covered sets c))) (sym among) ∙ a)

    from : have_cells sets cells ≡ true → list_all (agrees sets cells) (cells_in 8 8) ≡ true
    from e = all_pass (agrees sets cells) (cells_in 8 8) (λ c m. go c (is_among cells c) refl)
      where
        go : (c : Cell) (b : Bool) → is_among cells c ≡ b → cond (is_among cells c) (is_covered sets c) (not (is_covered sets c)) ≡ true
        go c true f =
            ap (λ b. cond b (is_covered sets c) (not (is_covered sets c))) f ∙ in_covered sets c (in_set (all_of sets) c (sym (same_cells sets cells e c) ∙ f))
        go c false f =
            ap (λ b. cond b (is_covered sets c) (not (is_covered sets c))) f
            ∙ not_from_false (is_covered sets c) (false_from_ne_true (is_covered sets c) (λ h. clash (same_cells sets cells e c ∙ has_in (all_of sets) c (covered_in sets c h)) f))

-- ---- how many
abbrev size : List Cell → ℕ
size set = length set

all_size : (sets : List (List Cell)) → length (all_of sets) ≡ sum_by size sets
all_size sets = length-flat_map (λ (set : List Cell). set) sets

pub none_counted : (sets : List (List Cell)) (cells : List Cell) (left : ℕ) → left ≡ length cells → left + sum_by size (take 0 sets) ≡ length cells
none_counted sets cells left e = omega arith

pub too_many : (sets : List (List Cell)) (cells : List Cell) (i left : ℕ) (item : List Cell) (count : ℕ) → i < length sets → item ≡ get_or sets i item → count ≡ length item → left < count → left + sum_by size (take i sets) ≡ length cells → false ≡ are_as_many sets cells
too_many sets cells i left item count b is n more e =
    let most = sum_by_more_le size sets i item b in
    let whole = all_size sets in
    let long : length (get_or sets i item) ≡ count = sym (n ∙ ap size is) in
    let far : length cells < length (all_of sets) = omega arith in
    sym (grind (arith, nat_tests, far))

pub one_set_more : (sets : List (List Cell)) (cells : List Cell) (i left : ℕ) (item : List Cell) (count : ℕ) → i < length sets → item ≡ get_or sets i item → count ≡ length item → count ≤ left → left + sum_by size (take i sets) ≡ length cells → left - count + sum_by size (take (i + 1) sets) ≡ length cells
one_set_more sets cells i left item count b is n few e =
    let more = sum_by_more size sets i item b in
    let long : length (get_or sets i item) ≡ count = sym (n ∙ ap size is) in
    omega arith

pub all_counted : (sets : List (List Cell)) (cells : List Cell) (i left : ℕ) → length sets ≤ i → left + sum_by size (take i sets) ≡ length cells → (left == 0) ≡ are_as_many sets cells
all_counted sets cells i left b e =
    let whole = all_size sets in
    let f : left + sum_by size sets ≡ length cells = ap (λ (some : List (List Cell)). left + sum_by size some) (sym (take_all i sets b)) ∙ e in
    same_test (left == 0) (are_as_many sets cells)
    (λ h. let z = (Decides-eqb left 0).0 h in (Decides-eqb (length (all_of sets)) (length cells)).1 (omega arith))
    (λ h. let z = (Decides-eqb (length (all_of sets)) (length cells)).0 h in (Decides-eqb left 0).1 (omega arith))

-- ---- their order
pub before_is_less : (a b : List Cell) → starts_before a b ≡ true → slice_cmp cell_cmp a b ≡ Less
before_is_less [] b e = absurd cc
before_is_less (c ∷ a) [] e = absurd cc
before_is_less (c ∷ a) (d ∷ b) e = go (cell_cmp c d) e
  where
    go : (o : Ordering) → is_less o ≡ true → ordering_then o (slice_cmp cell_cmp a b) ≡ Less
    go Less f = refl
    go Equal f = absurd cc
    go Greater f = absurd cc

less_is_before : (a b : List Cell) → is_nil a ≡ false → is_nil b ≡ false → ((c : Cell) → IsIn c a → IsIn c b → ⊥) → slice_cmp cell_cmp a b ≡ Less → starts_before a b ≡ true
less_is_before [] b n m apart e = absurd cc
less_is_before (c ∷ a) [] n m apart e = absurd cc
less_is_before (c ∷ a) (d ∷ b) n m apart e = go (cell_cmp c d) refl e
  where
    go : (o : Ordering) → cell_cmp c d ≡ o → ordering_then o (slice_cmp cell_cmp a b) ≡ Less → is_less o ≡ true
    go Less h f = refl
    go Equal h f = absurd (apart c here (subst (λ (x : Cell). IsIn x (d ∷ b)) (sym (cells_exact c d h)) here))
    go Greater h f = absurd cc

-- neighbours have no cell in common, and ascend where all do
neighbours_apart : (sets : List (List Cell)) (i : ℕ) (a b : List Cell) → slice_get sets i ≡ Some a → slice_get sets (suc i) ≡ Some b → NoRepeats (all_of sets) → (c : Cell) → IsIn c a → IsIn c b → ⊥
neighbours_apart [] i a b e f r c m n = cc
neighbours_apart (s ∷ []) zero a b e f r c m n = cc
neighbours_apart (s ∷ u ∷ sets) zero a b e f r c m n =
    let first : s ≡ a = cc in
    let second : u ≡ b = cc in
    apart_append (subst (λ (x : List Cell). IsIn c x) (sym first) m) r (IsIn-append_left (all_of sets) (subst (λ (x : List Cell). IsIn c x) (sym second) n))
neighbours_apart (s ∷ sets) (suc i) a b e f r c m n = neighbours_apart sets i a b e f (rest_append s r) c m n

neighbours_ascend : (sets : List (List Cell)) (i : ℕ) (a b : List Cell) → slice_get sets i ≡ Some a → slice_get sets (suc i) ≡ Some b → IsStrictlySortedBy (slice_cmp cell_cmp) sets → slice_cmp cell_cmp a b ≡ Less
unfolding IsStrictlySortedBy
neighbours_ascend [] i a b e f s = absurd cc
neighbours_ascend (x ∷ []) zero a b e f s = absurd cc
neighbours_ascend (x ∷ y ∷ sets) zero a b e f s =
    let first : x ≡ a = cc in
    let second : y ≡ b = cc in
    ap (λ (z : List Cell). slice_cmp cell_cmp z b) (sym first) ∙ ap (slice_cmp cell_cmp x) (sym second) ∙ s.0.0
neighbours_ascend (x ∷ sets) (suc i) a b e f s = neighbours_ascend sets i a b e f s.1

in_itself : (sets : List (List Cell)) → sets_ascend sets ≡ true → IsStrictlySortedBy (slice_cmp cell_cmp) sets
in_itself sets e =
    subst (λ (l : List (List Cell)). IsStrictlySortedBy (slice_cmp cell_cmp) l) ((pointwise_decides set_eq_decides (in_order (slice_cmp cell_cmp) sets) sets).0 e) (in_order_ascends (slice_cmp cell_cmp) (lists_total cell_total) sets_exact sets)

pub ascending_sets : (sets : List (List Cell)) → IsStrictlySortedBy (slice_cmp cell_cmp) sets → true ≡ sets_ascend sets
ascending_sets sets s =
    sym ((pointwise_decides set_eq_decides (in_order (slice_cmp cell_cmp) sets) sets).1 (sym (in_order-is (slice_cmp cell_cmp) (lists_total cell_total) sets_exact sets sets (ascending_itself (slice_cmp cell_cmp) sets s))))

pub out_of_order : (sets : List (List Cell)) (place : ℕ) (a b : List Cell) → 1 ≤ place → place < length sets → a ≡ get_or sets (place - 1) a → b ≡ get_or sets place b → starts_before a b ≡ false → list_any is_nil sets ≡ false → NoRepeats (all_of sets) → false ≡ sets_ascend sets
out_of_order sets zero a b one below at next fails some apart = absurd (omega arith)
out_of_order sets (suc i) a b one below at next fails some apart = sym (false_from_ne_true (sets_ascend sets) (λ e. clash (ordered e) fails))
  where
    prior : suc i - 1 ≡ i
    prior = omega arith

    first : slice_get sets i ≡ Some a
    first = some_at sets i a (omega arith) (at ∙ ap (λ k. get_or sets k a) prior)

    second : slice_get sets (suc i) ≡ Some b
    second = some_at sets (suc i) b below next

    ordered : sets_ascend sets ≡ true → starts_before a b ≡ true
    ordered e =
        less_is_before a b (none_passes is_nil sets some (IsIn-slice_get sets i a first)) (none_passes is_nil sets some (IsIn-slice_get sets (suc i) b second)) (neighbours_apart sets i a b first second apart)
        (neighbours_ascend sets i a b first second (in_itself sets e))

-- ---- all together
pub sets_apart : (sets : List (List Cell)) (cells : List Cell) → IsCellSet cells → have_cells sets cells ≡ true → are_as_many sets cells ≡ true → NoRepeats (all_of sets)
sets_apart sets cells s e n =
    let long = (Decides-eqb (length (all_of sets)) (length cells)).0 n in
    once_each (all_of sets) cells (set_once cells s) (λ c m. in_set (all_of sets) c (sym (same_cells sets cells e c) ∙ has_in cells c m)) (omega (arith, long))

pub some_nil : (sets : List (List Cell)) (cells : List Cell) → list_any is_nil sets ≡ true → false ≡ shares_out sets cells
some_nil sets cells e = ap (λ b. not b && have_cells sets cells && are_as_many sets cells && sets_ascend sets) (sym e)

pub other_cells : (sets : List (List Cell)) (cells : List Cell) → list_any is_nil sets ≡ false → have_cells sets cells ≡ false → false ≡ shares_out sets cells
other_cells sets cells e f = λ i. not (sym e i) && sym f i && are_as_many sets cells && sets_ascend sets

pub other_number : (sets : List (List Cell)) (cells : List Cell) → list_any is_nil sets ≡ false → have_cells sets cells ≡ true → are_as_many sets cells ≡ false → false ≡ shares_out sets cells
other_number sets cells e f g = λ i. not (sym e i) && sym f i && sym g i && sets_ascend sets

pub all_shared : (sets : List (List Cell)) (cells : List Cell) (answer : Bool) → list_any is_nil sets ≡ false → have_cells sets cells ≡ true → are_as_many sets cells ≡ true → answer ≡ sets_ascend sets → answer ≡ shares_out sets cells
all_shared sets cells answer e f g h = h ∙ (λ i. not (sym e i) && sym f i && sym g i && sets_ascend sets)
