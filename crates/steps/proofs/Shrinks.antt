-- The acts on lists change nothing, or leave fewer patterns and lists.
use Rattle.std.proofs.Common.{◌≡◌, ◌<◌, ◌≤◌, ◌+◌, ℕ, suc, Bool, true, false, cond, List, [], ◌∷◌, refl, sym, ap, ◌∙◌, arith, subst, ⊎_elim}
use Rattle.std.specs.Prelude.{not, map}
use Rattle.std.specs.List.{filter, list_any}
use Rattle.std.specs.List.Sorted.{IsStrictlySortedBy}
use Rattle.std.specs.Ordering.{match_ordering}
use Rattle.std.specs.declared.cmp.Ordering.{Ordering}
use Rattle.std.specs.declared.cmp.Ordering.TheVariants.{Less, Equal, Greater}
use Rattle.std.specs.Cmp.Lexicographic.{slice_cmp, lists_total}
use Rattle.std.proofs.lemmas.Bool.{or_cases as or_true, or_parts as or_false, not_from_false as not_false}
use Rattle.lists.specs.Members.IsIn.{here, later}
use Rattle.lists.specs.Members.{IsIn}
use Rattle.lists.proofs.Members.{IsIn-map}
use Rattle.gridded.specs.Grids.{Point, holds}
use Rattle.gridded.specs.Orders.{gridded_cmp}
use Rattle.gridded.specs.OrderLaws.{gridded_total, gridded_exact}
use Rattle.sequences.specs.Ascending.{insert_new, in_order}
use Rattle.sequences.proofs.InOrder.{in_order-is}
use Rattle.tiling_core.specs.Tiles.{Tiles, IsTiling, tiling_of}
use Rattle.tiling_core.specs.Same.{tiles_eq, tiles_eq_decides}
use Rattle.tiling_core.specs.Patterns.{is_among, holds_another}
use Rattle.steps.specs.declared.step.Step.TheVariants.{Lists}
use Rattle.steps.specs.Steps.{step_applies, useful, is_implied, tidied, tidy_lists, is_useless, is_untidy, are_untidy}
use Rattle.steps.proofs.ListTests.{which_passes, none_passes, all_pass, at_each}
use Rattle.tiling_core.proofs.Kept.{lists_exact}
use Rattle.steps.proofs.Tidied.{is_possible, remaining}
use Rattle.steps.proofs.OnLine.{filter-all}

-- ---- what a list weighs
module _ {X : Type 0} (weight : X → ℕ) where
  abbrev pub total : List X → ℕ
  total [] = 0
  total (x ∷ xs) = weight x + total xs

  total-filter : (p : X → Bool) (xs : List X) → total (filter p xs) ≤ total xs
  total-filter p [] = omega arith
  total-filter p (x ∷ xs) = go (p x) (total-filter p xs)
    where
      go : (b : Bool) → total (filter p xs) ≤ total xs → total (cond b (x ∷ filter p xs) (filter p xs)) ≤ weight x + total xs
      go true h = omega arith
      go false h = omega arith

  total-filter_less : (p : X → Bool) {x : X} {xs : List X} → IsIn x xs → p x ≡ false → 0 < weight x → total (filter p xs) < total xs
  total-filter_less p (here {xs = xs}) e h = let k = total-filter p xs in rw e (omega arith)
  total-filter_less p (later {xs = xs} y m) e h = go (p y) (total-filter_less p m e h)
    where
      go : (b : Bool) → total (filter p xs) < total xs → total (cond b (y ∷ filter p xs) (filter p xs)) < weight y + total xs
      go true k = omega arith
      go false k = omega arith

  total-map : (f : X → X) → ((x : X) → weight (f x) ≤ weight x) → (xs : List X) → total (map f xs) ≤ total xs
  total-map f h [] = omega arith
  total-map f h (x ∷ xs) = omega (arith, h x, total-map f h xs)

  total-map_less : (f : X → X) → ((x : X) → weight (f x) ≤ weight x) → {x : X} {xs : List X} → IsIn x xs → weight (f x) < weight x → total (map f xs) < total xs
  total-map_less f h (here {xs = xs}) l = omega (arith, total-map f h xs)
  total-map_less f h (later y m) l = omega (arith, h y, total-map_less f h m l)

  module _ (cmp : X → X → Ordering) where
    total-insert : (x : X) (ys : List X) → total (insert_new cmp x ys) ≤ weight x + total ys
    total-insert x [] = omega arith
    total-insert x (y ∷ ys) = go (cmp x y) (total-insert x ys)
      where
        go : (o : Ordering) → total (insert_new cmp x ys) ≤ weight x + total ys → total (match_ordering o (x ∷ y ∷ ys) (y ∷ ys) (y ∷ insert_new cmp x ys)) ≤ weight x + (weight y + total ys)
        go Less h = omega arith
        go Equal h = omega arith
        go Greater h = omega arith

    pub total-in_order : (xs : List X) → total (in_order cmp xs) ≤ total xs
    total-in_order [] = omega arith
    total-in_order (x ∷ xs) = omega (arith, total-insert x (in_order cmp xs), total-in_order xs)

-- a pattern weighs one, and a list one more than its patterns
abbrev one : List Point → ℕ
one g = 1

abbrev patterns_weigh : List (List Point) → ℕ
patterns_weigh patterns = total one patterns

abbrev list_weighs : List (List Point) → ℕ
list_weighs patterns = suc (patterns_weigh patterns)

abbrev lists_weigh : List (List (List Point)) → ℕ
lists_weigh lists = total list_weighs lists

-- ---- the acts
module _ (obstructions : List (List Point)) where
  all_possible : (patterns : List (List Point)) → list_any (λ g. list_any (holds g) obstructions) patterns ≡ false → filter (is_possible obstructions) patterns ≡ patterns
  all_possible patterns e =
      filter-all (is_possible obstructions) patterns (all_pass (is_possible obstructions) patterns (λ g m. not_false (list_any (holds g) obstructions) (none_passes (λ h. list_any (holds h) obstructions) patterns e m)))

  useful_less : (patterns : List (List Point)) → list_any (is_useless obstructions patterns) patterns ≡ true → patterns_weigh (useful obstructions patterns) < patterns_weigh patterns
  useful_less patterns e = go (list_any (λ g. list_any (holds g) obstructions) patterns) refl
    where
      left : List (List Point)
      left = filter (is_possible obstructions) patterns

      go : (b : Bool) → list_any (λ g. list_any (holds g) obstructions) patterns ≡ b → patterns_weigh (useful obstructions patterns) < patterns_weigh patterns
      go true f =
          let w = which_passes (λ g. list_any (holds g) obstructions) patterns f in
          let dropped : is_possible obstructions w.0 ≡ false = rw w.2 refl in
          let a = total-filter_less one (is_possible obstructions) w.1 dropped (omega arith) in
          let b = total-filter one (λ g. not (holds_another (filter (is_possible obstructions) patterns) g)) (filter (is_possible obstructions) patterns) in
          omega arith
      go false f =
          let w = which_passes (is_useless obstructions patterns) patterns e in
          let other : holds_another patterns w.0 ≡ true = ⊎_elim {C = holds_another patterns w.0 ≡ true} (λ h. let n = none_passes (λ g. list_any (holds g) obstructions) patterns f w.1 in absurd cc) (λ h. h) (or_true (list_any (holds w.0) obstructions) (holds_another patterns w.0) w.2) in
          let dropped : not (holds_another patterns w.0) ≡ false = rw other refl in
          rw (all_possible patterns f) (total-filter_less one (λ g. not (holds_another patterns g)) w.1 dropped (omega arith))

  useful_no_more : (patterns : List (List Point)) → list_weighs (useful obstructions patterns) ≤ list_weighs patterns
  useful_no_more patterns =
      let left = filter (is_possible obstructions) patterns in
      omega (arith, total-filter one (is_possible obstructions) patterns, total-filter one (λ g. not (holds_another left g)) left)

  useful_same : (patterns : List (List Point)) → list_any (is_useless obstructions patterns) patterns ≡ false → useful obstructions patterns ≡ patterns
  useful_same patterns e =
      let none_held : list_any (λ g. list_any (holds g) obstructions) patterns ≡ false = none_of patterns (λ g m. (or_false (list_any (holds g) obstructions) (holds_another patterns g) (none_passes (is_useless obstructions patterns) patterns e m)).0) in
      rw (all_possible patterns none_held)
      (filter-all (λ g. not (holds_another patterns g)) patterns (all_pass (λ g. not (holds_another patterns g)) patterns
      (λ g m. not_false (holds_another patterns g) (or_false (list_any (holds g) obstructions) (holds_another patterns g) (none_passes (is_useless obstructions patterns) patterns e m)).1)))
    where
      none_of : (ps : List (List Point)) → ((g : List Point) → IsIn g ps → list_any (holds g) obstructions ≡ false) → list_any (λ g. list_any (holds g) obstructions) ps ≡ false
      none_of [] f = refl
      none_of (p ∷ ps) f = rw (f p here) (none_of ps (λ g m. f g (later p m)))

  remaining_less : (lists : List (List (List Point))) → list_any (is_untidy obstructions) lists ≡ true → lists_weigh (remaining obstructions lists) < lists_weigh lists
  remaining_less lists e = go (list_any (is_useless obstructions w.0) w.0) refl
    where
      w : (a : List (List Point)) × IsIn a lists × (is_untidy obstructions a ≡ true)
      w = which_passes (is_untidy obstructions) lists e

      go : (b : Bool) → list_any (is_useless obstructions w.0) w.0 ≡ b → lists_weigh (remaining obstructions lists) < lists_weigh lists
      go true f =
          let a = total-map_less list_weighs (useful obstructions) useful_no_more w.1 (omega (arith, useful_less w.0 f)) in
          let b = total-filter list_weighs (λ patterns. not (is_among patterns [])) (map (useful obstructions) lists) in
          omega arith
      go false f =
          let same = useful_same w.0 f in
          let has : is_among w.0 [] ≡ true = rw f at w.2 in
          let there : IsIn w.0 (map (useful obstructions) lists) = subst (λ (z : List (List Point)). IsIn z (map (useful obstructions) lists)) same (IsIn-map (useful obstructions) w.1) in
          let dropped : not (is_among w.0 []) ≡ false = rw has refl in
          let a = total-map list_weighs (useful obstructions) useful_no_more lists in
          let b = total-filter_less list_weighs (λ patterns. not (is_among patterns [])) there dropped (omega arith) in
          omega arith

  remaining_same : (lists : List (List (List Point))) → list_any (is_untidy obstructions) lists ≡ false → remaining obstructions lists ≡ lists
  remaining_same lists e =
      rw (mapped lists (λ a m. (parts a m).0)) (filter-all (λ patterns. not (is_among patterns [])) lists (all_pass (λ patterns. not (is_among patterns [])) lists (λ a m. not_false (is_among a []) (parts a m).1)))
    where
      parts : (a : List (List Point)) → IsIn a lists → (list_any (is_useless obstructions a) a ≡ false) × (is_among a [] ≡ false)
      parts a m = or_false (list_any (is_useless obstructions a) a) (is_among a []) (none_passes (is_untidy obstructions) lists e m)

      mapped : (ls : List (List (List Point))) → ((a : List (List Point)) → IsIn a ls → list_any (is_useless obstructions a) a ≡ false) → map (useful obstructions) ls ≡ ls
      mapped [] f = refl
      mapped (a ∷ ls) f = let h = useful_same a (f a here) in let t = mapped ls (λ b m. f b (later a m)) in λ i. h i ∷ t i

  tidied_less : (lists : List (List (List Point))) → are_untidy obstructions lists ≡ true → lists_weigh (tidied obstructions lists) < lists_weigh lists
  tidied_less lists e = go (list_any (is_untidy obstructions) lists) refl
    where
      go : (b : Bool) → list_any (is_untidy obstructions) lists ≡ b → lists_weigh (tidied obstructions lists) < lists_weigh lists
      go true f = let a = remaining_less lists f in let b = total-filter list_weighs (λ others. not (is_implied (remaining obstructions lists) others)) (remaining obstructions lists) in omega arith
      go false f =
          let h : list_any (is_implied lists) lists ≡ true = rw f at e in
          let w = which_passes (is_implied lists) lists h in
          let dropped : not (is_implied lists w.0) ≡ false = rw w.2 refl in
          rw (remaining_same lists f) (total-filter_less list_weighs (λ others. not (is_implied lists others)) w.1 dropped (omega arith))

  tidied_same : (lists : List (List (List Point))) → are_untidy obstructions lists ≡ false → tidied obstructions lists ≡ lists
  tidied_same lists e =
      let k = or_false (list_any (is_untidy obstructions) lists) (list_any (is_implied lists) lists) e in
      rw (remaining_same lists k.0) (filter-all (λ others. not (is_implied lists others)) lists (all_pass (λ others. not (is_implied lists others)) lists (λ a m. not_false (is_implied lists a) (none_passes (is_implied lists) lists k.1 m))))

-- ---- the step
pub ascending_list : (patterns : List (List Point)) → IsStrictlySortedBy gridded_cmp patterns → in_order gridded_cmp patterns ≡ patterns
ascending_list patterns s = sym (in_order-is gridded_cmp gridded_total gridded_exact patterns patterns (record { ascends = s; keeps = λ x k. k; adds_none = λ x k. k }))

each_in_order : (lists : List (List (List Point))) → ((a : List (List Point)) → IsIn a lists → IsStrictlySortedBy gridded_cmp a) → map (λ patterns. in_order gridded_cmp patterns) lists ≡ lists
each_in_order [] f = refl
each_in_order (a ∷ lists) f = let h = ascending_list a (f a here) in let t = each_in_order lists (λ b m. f b (later a m)) in λ i. h i ∷ t i

pub ordered_lists : (lists : List (List (List Point))) → ((a : List (List Point)) → IsIn a lists → IsStrictlySortedBy gridded_cmp a) → IsStrictlySortedBy (slice_cmp gridded_cmp) lists → in_order (slice_cmp gridded_cmp) (map (λ patterns. in_order gridded_cmp patterns) lists) ≡ lists
ordered_lists lists f s =
    ap (λ ls. in_order (slice_cmp gridded_cmp) ls) (each_in_order lists f)
    ∙ sym (in_order-is (slice_cmp gridded_cmp) (lists_total gridded_total) lists_exact lists lists (record { ascends = s; keeps = λ x k. k; adds_none = λ x k. k }))

-- a tiling is that of its patterns
pub tiling_of_itself : (t : Tiles) → IsTiling t → tiling_of t.width t.height t.obstructions t.requirements ≡ t
tiling_of_itself t k =
    let o = ascending_list t.obstructions k.obstructions_ascend in
    let r = ordered_lists t.requirements (λ a m. at_each (λ ps. IsStrictlySortedBy gridded_cmp ps) k.each_ascends m) k.requirements_ascend in
    λ i. record { width = t.width; height = t.height; obstructions = o i; requirements = r i }

in_order_weighs : (lists : List (List (List Point))) → lists_weigh (in_order (slice_cmp gridded_cmp) (map (λ patterns. in_order gridded_cmp patterns) lists)) ≤ lists_weigh lists
in_order_weighs lists =
    let a = total-in_order list_weighs (slice_cmp gridded_cmp) (map (λ patterns. in_order gridded_cmp patterns) lists) in
    let b = total-map list_weighs (λ patterns. in_order gridded_cmp patterns) (λ patterns. omega (arith, total-in_order one gridded_cmp patterns)) lists in
    omega arith

-- the step applies exactly where an act changes something
pub lists_apply : (t : Tiles) → IsTiling t → step_applies Lists t ≡ are_untidy t.obstructions t.requirements
unfolding step_applies
lists_apply t k = go (are_untidy t.obstructions t.requirements) refl
  where
    go : (b : Bool) → are_untidy t.obstructions t.requirements ≡ b → not (tiles_eq (tidy_lists t) t) ≡ b
    go false e =
        let same : tidy_lists t ≡ t = ap (λ ls. tiling_of t.width t.height t.obstructions ls) (tidied_same t.obstructions t.requirements e) ∙ tiling_of_itself t k in
        rw ((tiles_eq_decides (tidy_lists t) t).1 same) refl
    go true e = not_false (tiles_eq (tidy_lists t) t) (differ (tiles_eq (tidy_lists t) t) refl)
      where
        differ : (b : Bool) → tiles_eq (tidy_lists t) t ≡ b → tiles_eq (tidy_lists t) t ≡ false
        differ false f = f
        differ true f =
            let same = (tiles_eq_decides (tidy_lists t) t).0 f in
            let less = tidied_less t.obstructions t.requirements e in
            let few = in_order_weighs (tidied t.obstructions t.requirements) in
            let weighs : lists_weigh (tidy_lists t).requirements ≡ lists_weigh t.requirements = ap (λ (u : Tiles). lists_weigh u.requirements) same in
            absurd (omega arith)
