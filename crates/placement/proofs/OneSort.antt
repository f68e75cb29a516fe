-- One sort serves for lists of which a part was sorted before.
use Rattle.std.proofs.Common.{◌≡◌, ℕ, List, ◌++◌, sym, ap, ◌∙◌, ⊎_elim}
use Rattle.std.specs.Prelude.{map}
use Rattle.std.specs.declared.cmp.Ordering.{Ordering}
use Rattle.std.specs.declared.cmp.Ordering.TheVariants.{Equal}
use Rattle.std.specs.Cmp.{IsTotalOrder}
use Rattle.std.specs.Cmp.Lexicographic.{slice_cmp, lists_total}
use Rattle.std.proofs.lemmas.List.{map-append}
use Rattle.lists.specs.Members.{IsIn}
use Rattle.lists.proofs.Members.{is_in, contained, IsIn-append_left, IsIn-append_right, IsIn-append_cases, from_IsIn-map}
use Rattle.lists.proofs.Maps.{map_itself}
use Rattle.sequences.specs.Ascending.{in_order}
use Rattle.sequences.proofs.InOrder.{in_order_ascends, in_order-same_items, in_order-is}
use Rattle.gridded.specs.Grids.{Point}
use Rattle.gridded.specs.Orders.{gridded_cmp}
use Rattle.gridded.specs.OrderLaws.{gridded_total, gridded_exact}
use Rattle.tiling_core.specs.Tiles.{tiling_of}
use Rattle.tiling_core.specs.Patterns.{also}
use Rattle.tiling_core.proofs.Kept.{lists_exact}

module _ {K : Type 0} (cmp : K → K → Ordering) (total : IsTotalOrder cmp) (exact : (x y : K) → cmp x y ≡ Equal → x ≡ y) where
  -- lists with the same items are the same in order
  same_in_order : (xs ys : List K) → ((x : K) → IsIn x xs → IsIn x ys) → ((x : K) → IsIn x ys → IsIn x xs) → in_order cmp xs ≡ in_order cmp ys
  same_in_order xs ys f g =
      let same = in_order-same_items cmp total exact xs in
      in_order-is cmp total exact (in_order cmp xs) ys (record {
        ascends = in_order_ascends cmp total exact xs;
        keeps = λ x m. (same x).0 (contained (g x (is_in ys x m)));
        adds_none = λ x m. contained (f x (is_in xs x ((same x).1 m)));
      })

  into_order : (xs : List K) (x : K) → IsIn x xs → IsIn x (in_order cmp xs)
  into_order xs x m = is_in (in_order cmp xs) x ((in_order-same_items cmp total exact xs x).0 (contained m))

  out_of_order : (xs : List K) (x : K) → IsIn x (in_order cmp xs) → IsIn x xs
  out_of_order xs x m = is_in xs x ((in_order-same_items cmp total exact xs x).1 (contained m))

  -- what is in order stays so
  in_order_again : (xs : List K) → in_order cmp (in_order cmp xs) ≡ in_order cmp xs
  in_order_again xs = same_in_order (in_order cmp xs) xs (out_of_order xs) (into_order xs)

  -- a later part that was sorted before
  sorted_before : (xs ys : List K) → in_order cmp (xs ++ in_order cmp ys) ≡ in_order cmp (xs ++ ys)
  sorted_before xs ys =
      same_in_order (xs ++ in_order cmp ys) (xs ++ ys)
      (λ x m. ⊎_elim {C = IsIn x (xs ++ ys)} (λ i. IsIn-append_left ys i) (λ i. IsIn-append_right xs (out_of_order ys x i)) (IsIn-append_cases xs (in_order cmp ys) m))
      (λ x m. ⊎_elim {C = IsIn x (xs ++ in_order cmp ys)} (λ i. IsIn-append_left (in_order cmp ys) i) (λ i. IsIn-append_right xs (into_order ys x i)) (IsIn-append_cases xs ys m))

  -- two parts may change places
  exchanged : (xs ys : List K) → in_order cmp (xs ++ ys) ≡ in_order cmp (ys ++ xs)
  exchanged xs ys = same_in_order (xs ++ ys) (ys ++ xs) (turned xs ys) (turned ys xs)
    where
      turned : (left right : List K) (x : K) → IsIn x (left ++ right) → IsIn x (right ++ left)
      turned left right x m = ⊎_elim {C = IsIn x (right ++ left)} (λ i. IsIn-append_right right i) (λ i. IsIn-append_left left i) (IsIn-append_cases left right m)

abbrev ordered : List (List Point) → List (List Point)
ordered patterns = in_order gridded_cmp patterns

abbrev ordered_lists : List (List (List Point)) → List (List (List Point))
ordered_lists lists = in_order (slice_cmp gridded_cmp) lists

-- lists that are each in order are left as they are
each_again : (lists : List (List (List Point))) → map ordered (ordered_lists (map ordered lists)) ≡ ordered_lists (map ordered lists)
each_again lists =
    map_itself ordered (ordered_lists (map ordered lists))
    (λ patterns m. let at = from_IsIn-map ordered lists (out_of_order (slice_cmp gridded_cmp) (lists_total gridded_total) lists_exact (map ordered lists) patterns m) in
    rw at.2 (in_order_again gridded_cmp gridded_total gridded_exact at.0))

further_lists : (lists more : List (List (List Point))) → ordered_lists (map ordered (lists ++ ordered_lists (map ordered more))) ≡ ordered_lists (map ordered (lists ++ more))
further_lists lists more =
    ap ordered_lists (map-append ordered lists (ordered_lists (map ordered more)) ∙ ap (λ (rest : List (List (List Point))). map ordered lists ++ rest) (each_again more))
    ∙ sorted_before (slice_cmp gridded_cmp) (lists_total gridded_total) lists_exact (map ordered lists) (map ordered more)
    ∙ ap ordered_lists (sym (map-append ordered lists more))

-- a tiling with further patterns is that of all of them
pub also_at_once : (w h : ℕ) (obstructions further : List (List Point)) (lists more : List (List (List Point))) → also (tiling_of w h obstructions lists) further more ≡ tiling_of w h (obstructions ++ further) (more ++ lists)
also_at_once w h obstructions further lists more =
    let o : ordered (further ++ ordered obstructions) ≡ ordered (obstructions ++ further) = sorted_before gridded_cmp gridded_total gridded_exact further obstructions ∙ exchanged gridded_cmp gridded_total gridded_exact further obstructions in
    let l = further_lists more lists in
    λ i. record { width = w; height = h; obstructions = o i; requirements = l i }
