-- Moving cells by a map that keeps their order keeps the order of patterns.
use Rattle.std.proofs.Common.{◌≡◌, ℕ, suc, true, List, [], ◌∷◌, length, refl, sym, ap, ◌∙◌, arith}
use Rattle.std.specs.Prelude.{◌==◌, Bool, map, nat_lt}
use Rattle.std.specs.List.{AllByRecursion}
use Rattle.std.specs.List.Sorted.{IsStrictlySortedBy}
use Rattle.std.specs.Ordering.{nat_cmp, is_eq}
use Rattle.std.specs.declared.cmp.Ordering.{Ordering}
use Rattle.std.specs.declared.cmp.Ordering.TheVariants.{Less, Equal, Greater}
use Rattle.std.specs.Cmp.Lexicographic.{slice_cmp}
use Rattle.std.proofs.lemmas.Bool.Decides.{nat_tests}
use Rattle.lists.specs.Members.IsIn.{here, later}
use Rattle.lists.specs.Members.{IsIn}
use Rattle.lists.proofs.Members.{from_IsIn-map}
use Rattle.gridded.specs.declared.Cell.{Cell}
use Rattle.gridded.specs.Grids.{Point, cell_of}
use Rattle.gridded.specs.Orders.{cell_cmp, cell_eq, gridded_cmp, gridded_eq, cells_of}
use Rattle.gridded.specs.OrderLaws.{gridded_ties}
use Rattle.gridded.specs.Moved.{move_cells}
use Rattle.gridded.specs.Axes.{shares_line}
use Rattle.gridded.proofs.Moved.{letters_moved, length-moved}
use Rattle.steps.proofs.Moved.{KeepsOrder, AllOk, eq_by_lt}

-- ---- lists that are mapped
module _ {A B : Type 0} (f : A → B) (R : A → A → Ordering) (S : B → B → Ordering) where
  pub slice_cmp-map : (xs ys : List A) → ((x y : A) → IsIn x xs → IsIn y ys → S (f x) (f y) ≡ R x y) → slice_cmp S (map f xs) (map f ys) ≡ slice_cmp R xs ys
  slice_cmp-map [] [] h = refl
  slice_cmp-map [] (y ∷ ys) h = refl
  slice_cmp-map (x ∷ xs) [] h = refl
  slice_cmp-map (x ∷ xs) (y ∷ ys) h = rw (h x y here here, slice_cmp-map xs ys (λ u v m n. h u v (later x m) (later y n))) refl

  all_less-map : (x : A) (xs : List A) → ((y : A) → IsIn y xs → S (f x) (f y) ≡ R x y) → AllByRecursion (λ y. R x y ≡ Less) xs → AllByRecursion (λ y. S (f x) y ≡ Less) (map f xs)
  all_less-map x [] h k = tt
  all_less-map x (y ∷ ys) h k = (h y here ∙ k.0, all_less-map x ys (λ z m. h z (later y m)) k.1)

  pub sorted-map : (xs : List A) → ((x y : A) → IsIn x xs → IsIn y xs → S (f x) (f y) ≡ R x y) → IsStrictlySortedBy R xs → IsStrictlySortedBy S (map f xs)
  unfolding IsStrictlySortedBy
  sorted-map [] h s = tt
  sorted-map (x ∷ xs) h s = (all_less-map x xs (λ y m. h x y here (later x m)) s.0, sorted-map xs (λ y z m n. h y z (later x m) (later x n)) s.1)

-- ---- numbers
nat_cmp_same : (a b c d : ℕ) → nat_lt a b ≡ nat_lt c d → nat_lt b a ≡ nat_lt d c → nat_cmp a b ≡ nat_cmp c d
nat_cmp_same a b c d e f = go (nat_cmp a b) (nat_cmp c d) refl refl
  where
    go : (o p : Ordering) → nat_cmp a b ≡ o → nat_cmp c d ≡ p → o ≡ p
    go Less Less g h = refl
    go Equal Equal g h = refl
    go Greater Greater g h = refl
    go Less Equal g h = absurd (grind (arith, nat_tests))
    go Less Greater g h = absurd (grind (arith, nat_tests))
    go Equal Less g h = absurd (grind (arith, nat_tests))
    go Equal Greater g h = absurd (grind (arith, nat_tests))
    go Greater Less g h = absurd (grind (arith, nat_tests))
    go Greater Equal g h = absurd (grind (arith, nat_tests))

-- ---- cells and patterns
module _ (f : Cell → Cell) (ok : Cell → Bool) (keeps : KeepsOrder f ok) where
  pub cell_cmp-moved : (c d : Cell) → ok c ≡ true → ok d ≡ true → cell_cmp (f c) (f d) ≡ cell_cmp c d
  cell_cmp-moved c d h k =
      rw (nat_cmp_same (f c).x (f d).x c.x d.x (keeps.columns c d h k) (keeps.columns d c k h), nat_cmp_same (f c).y (f d).y c.y d.y (keeps.rows c d h k) (keeps.rows d c k h)) refl

  column_eq-moved : (c d : Cell) → ok c ≡ true → ok d ≡ true → ((f c).x == (f d).x) ≡ (c.x == d.x)
  column_eq-moved c d h k = rw (eq_by_lt (f c).x (f d).x, keeps.columns c d h k, keeps.columns d c k h, ← eq_by_lt c.x d.x) refl

  row_eq-moved : (c d : Cell) → ok c ≡ true → ok d ≡ true → ((f c).y == (f d).y) ≡ (c.y == d.y)
  row_eq-moved c d h k = rw (eq_by_lt (f c).y (f d).y, keeps.rows c d h k, keeps.rows d c k h, ← eq_by_lt c.y d.y) refl

  pub cell_eq-moved : (c d : Cell) → ok c ≡ true → ok d ≡ true → cell_eq (f c) (f d) ≡ cell_eq c d
  cell_eq-moved c d h k = rw (column_eq-moved c d h k, row_eq-moved c d h k) refl

  pub shares_line-moved : (c d : Cell) → ok c ≡ true → ok d ≡ true → shares_line (f c) (f d) ≡ shares_line c d
  shares_line-moved c d h k = rw (column_eq-moved c d h k, row_eq-moved c d h k) refl

  cells-moved : (g : List Point) → cells_of (move_cells f g) ≡ map f (cells_of g)
  cells-moved [] = refl
  cells-moved (p ∷ g) = ap (λ (cells : List Cell). f p.cell ∷ cells) (cells-moved g)

  cell_ok : (g : List Point) → AllOk f ok keeps g → (c : Cell) → IsIn c (cells_of g) → ok c ≡ true
  cell_ok g h c m = let w = from_IsIn-map cell_of g m in rw w.2 (h w.0 w.1)

  pub gridded_cmp-moved : (g h : List Point) → AllOk f ok keeps g → AllOk f ok keeps h → gridded_cmp (move_cells f g) (move_cells f h) ≡ gridded_cmp g h
  gridded_cmp-moved g h j k =
      let cells = slice_cmp-map f cell_cmp cell_cmp (cells_of g) (cells_of h) (λ c d m n. cell_cmp-moved c d (cell_ok g j c m) (cell_ok h k d n)) in
      rw (length-moved f g, length-moved f h, letters_moved f g, letters_moved f h, cells-moved g, cells-moved h, cells) refl

  pub gridded_eq-moved : (g h : List Point) → AllOk f ok keeps g → AllOk f ok keeps h → gridded_eq (move_cells f g) (move_cells f h) ≡ gridded_eq g h
  gridded_eq-moved g h j k = gridded_ties (move_cells f g) (move_cells f h) ∙ ap is_eq (gridded_cmp-moved g h j k) ∙ sym (gridded_ties g h)
