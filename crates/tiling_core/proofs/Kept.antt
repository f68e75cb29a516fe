-- What a sort without repeats keeps.
use Rattle.std.proofs.Common.{◌≡◌, ◌≤◌, ℕ, List, true, ap, ◌∙◌, map}
use Rattle.std.specs.Ordering.{is_eq}
use Rattle.std.specs.declared.cmp.Ordering.TheVariants.{Equal}
use Rattle.std.specs.Prelude.{All}
use Rattle.std.specs.List.Sorted.{IsStrictlySortedBy}
use Rattle.std.specs.Cmp.Lexicographic.{slice_cmp, lists_total, lists_ties}
use Rattle.std.proofs.lemmas.List.Elements.{All-map, All-weaker}
use Rattle.gridded.specs.Grids.{Point, IsGridded}
use Rattle.gridded.specs.Orders.{gridded_cmp}
use Rattle.gridded.specs.OrderLaws.{gridded_total, gridded_exact, gridded_ties, gridded_eq_decides}
use Rattle.sequences.specs.Ascending.{in_order, exact_sequences}
use Rattle.sequences.proofs.InOrder.{All-in_order, in_order_ascends}
use Rattle.tiling_core.specs.Tiles.{AreGridded, IsInGrid, IsKept, IsTiling}
use Rattle.gridded.specs.Places.{fits_grid}

pub IsInGrid-in_order : (w h : ℕ) (patterns : List (List Point)) → IsInGrid w h patterns → IsInGrid w h (in_order gridded_cmp patterns)
IsInGrid-in_order w h patterns k = All-in_order gridded_cmp gridded_total gridded_exact (λ g. fits_grid w h g ≡ true) patterns k

pub AreGridded-in_order : (patterns : List (List Point)) → AreGridded patterns → AreGridded (in_order gridded_cmp patterns)
AreGridded-in_order patterns k = All-in_order gridded_cmp gridded_total gridded_exact (λ g. IsGridded g) patterns k

pub lists_exact : (a b : List (List Point)) → slice_cmp gridded_cmp a b ≡ Equal → a ≡ b
lists_exact a b e = exact_sequences (λ x y h. (gridded_eq_decides x y).0 h) a b (lists_ties gridded_cmp gridded_ties a b ∙ ap is_eq e)

pub All-lists : (P : List (List Point) → Type 0) (lists : List (List (List Point))) → All P lists → All P (in_order (slice_cmp gridded_cmp) lists)
All-lists P lists h = All-in_order (slice_cmp gridded_cmp) (lists_total gridded_total) lists_exact P lists h

pub patterns_ascend : (patterns : List (List Point)) → IsStrictlySortedBy gridded_cmp (in_order gridded_cmp patterns)
patterns_ascend patterns = in_order_ascends gridded_cmp gridded_total gridded_exact patterns

pub lists_ascend : (lists : List (List (List Point))) → IsStrictlySortedBy (slice_cmp gridded_cmp) (in_order (slice_cmp gridded_cmp) lists)
lists_ascend lists = in_order_ascends (slice_cmp gridded_cmp) (lists_total gridded_total) lists_exact lists

-- what each list that is put in order has
pub All-ordered : (P Q : List (List Point) → Type 0) → ((patterns : List (List Point)) → P patterns → Q (in_order gridded_cmp patterns)) → (lists : List (List (List Point))) → All P lists → All Q (map (λ patterns. in_order gridded_cmp patterns) lists)
All-ordered P Q keeps lists h = All-map Q (λ patterns. in_order gridded_cmp patterns) lists (All-weaker P (λ patterns. Q (in_order gridded_cmp patterns)) keeps lists h)

-- patterns in a grid, in order, make a tiling
pub IsTiling-in_order : (w h : ℕ) (obstructions o : List (List Point)) (requirements lists r : List (List (List Point)))
    → o ≡ in_order gridded_cmp obstructions → lists ≡ map (λ patterns. in_order gridded_cmp patterns) requirements → r ≡ in_order (slice_cmp gridded_cmp) lists
    → AreGridded obstructions → All (λ patterns. AreGridded patterns) requirements → w ≤ 8 → h ≤ 8 → IsInGrid w h obstructions → All (λ patterns. IsInGrid w h patterns) requirements → IsKept o → All (λ patterns. IsKept patterns) lists → IsKept r
    → IsTiling (record { width = w; height = h; obstructions = o; requirements = r })
IsTiling-in_order w h obstructions o requirements lists r e f g a b n l i j few each many = record {
  narrow = n;
  low = l;
  obstructions_gridded = rw e (AreGridded-in_order obstructions a);
  requirements_gridded = rw (g, f) (All-lists (λ patterns. AreGridded patterns) (map (λ patterns. in_order gridded_cmp patterns) requirements) (All-ordered (λ patterns. AreGridded patterns) (λ patterns. AreGridded patterns) AreGridded-in_order requirements b));
  obstructions_in = rw e (IsInGrid-in_order w h obstructions i);
  requirements_in = rw (g, f) (All-lists (λ patterns. IsInGrid w h patterns) (map (λ patterns. in_order gridded_cmp patterns) requirements) (All-ordered (λ patterns. IsInGrid w h patterns) (λ patterns. IsInGrid w h patterns) (λ patterns k. IsInGrid-in_order w h patterns k) requirements j));
  obstructions_ascend = rw e (patterns_ascend obstructions);
  each_ascends = rw (g, f) (All-lists (λ patterns. IsStrictlySortedBy gridded_cmp patterns) (map (λ patterns. in_order gridded_cmp patterns) requirements) (All-ordered (λ patterns. IsInGrid w h patterns) (λ patterns. IsStrictlySortedBy gridded_cmp patterns) (λ patterns _. patterns_ascend patterns) requirements j));
  requirements_ascend = rw g (lists_ascend lists);
  few_obstructions = few;
  few_each = rw g (All-lists (λ patterns. IsKept patterns) lists each);
  few_requirements = many;
}
