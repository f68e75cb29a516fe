-- The kinds of a class, line by line.
use Rattle.std.proofs.Common.{◌≡◌, ◌<◌, ◌≤◌, Bool, true, false, List, [], ◌∷◌, ◌++◌, length, refl, ap, ◌∙◌, arith}
use Rattle.std.specs.Prelude.{◌&&◌, not, nat_le, filter}
use Rattle.std.proofs.lemmas.Bool.Decides.{nat_tests}
use Rattle.std.proofs.lemmas.List.Elements.{filter-append}
use Rattle.std.proofs.Math.Bool.{and-false}
use Rattle.lists.proofs.Filters.{filter_all}
use Rattle.lists.specs.Members.{IsIn, is_nil}
use Rattle.lists.proofs.Members.{from_IsIn-map, from_IsIn-filter}
use Rattle.gridded.specs.declared.cell.Cell.{Cell}
use Rattle.gridded.specs.Grids.{Point}
use Rattle.tiling_core.specs.Tiles.{Tiles}
use Rattle.tiling_core.specs.Measures.{weight}
use Rattle.gridded.specs.Small.{point_at}
use Rattle.tiling_core.specs.Patterns.{active_cells, requires_list}
use Rattle.emptiness.proofs.SmallPatterns.{active-in_grid}
use Rattle.rule_kinds.specs.declared.kind.Kind.{Kind}
use Rattle.rule_kinds.specs.declared.kind.Kind.TheVariants as kind
use Rattle.rule_kinds.specs.Conditions as D
use Rattle.rule_kinds.specs.Choices as H
use Rattle.rule_kinds.specs.Conditions.{applies}
use Rattle.rule_kinds.specs.Choices.{Packs, kinds_of, cuts, insertions, placements, when, first_that_is}
use Rattle.emptiness.specs.Inferable.{inferred}
use Rattle.work_packs.specs.KindLines.{or_else, closing_kinds, factors, inferrals, last_kinds, kinds_by_lines}

-- ---- the first list that isn't empty
-- a list with an item isn't empty
pub some_not_nil : {X : Type 0} (x : X) (xs : List X) → is_nil (x ∷ xs) ≡ false
some_not_nil x xs = grind (arith, nat_tests)

first_or_else : {X : Type 0} (xs : List X) (lists : List (List X)) → first_that_is (xs ∷ lists) ≡ or_else xs (first_that_is lists)
first_or_else [] lists = refl
first_or_else (x ∷ xs) lists = rw (some_not_nil x xs) refl

first_of_two : {X : Type 0} (xs ys : List X) (lists : List (List X)) → first_that_is (xs ∷ ys ∷ lists) ≡ or_else (first_that_is (xs ∷ ys ∷ [])) (first_that_is lists)
first_of_two [] [] lists = refl
first_of_two [] (y ∷ ys) lists = rw (some_not_nil y ys) refl
first_of_two (x ∷ xs) ys lists = rw (some_not_nil x xs) refl

first_alone : {X : Type 0} (xs : List X) → first_that_is (xs ∷ []) ≡ xs
first_alone [] = refl
first_alone (x ∷ xs) = refl

-- ---- insertions
insertion_applies : (t : Tiles) (c : Cell) → IsIn c (active_cells t) → applies t (kind.Insert (point_at c)) ≡ true
unfolding D.applies
insertion_applies t c m = rw (active-in_grid t c m) refl

insertions_apply : (t : Tiles) (k : Kind) → IsIn k (insertions t) → applies t k ≡ true
insertions_apply t k m =
    let a = from_IsIn-map (λ c. kind.Insert (point_at c)) (filter (λ c. not (requires_list t (point_at c ∷ []))) (active_cells t)) m in
    rw a.2 (insertion_applies t a.0 (from_IsIn-filter (λ c. not (requires_list t (point_at c ∷ []))) (active_cells t) a.1).0)

pub insertions_kept : (t : Tiles) (on : Bool) → filter (applies t) (when on (insertions t)) ≡ when on (insertions t)
insertions_kept t true = filter_all (applies t) (insertions t) (insertions_apply t)
insertions_kept t false = refl

-- ---- the lines
inferral_line : (t : Tiles) (on : Bool) (xs : List Kind) → when (on && nat_le (weight t) 4 && nat_le (length (active_cells t)) 16) xs ≡ when on (when (nat_le (weight t) 4 && nat_le (length (active_cells t)) 16) xs)
inferral_line t true xs = refl
inferral_line t false xs = refl

last_line : (t : Tiles) (packs : Packs) → first_that_is (filter (applies t) (when packs.i (insertions t) ++ placements t packs) ∷ []) ≡ last_kinds t packs
last_line t packs =
    first_alone (filter (applies t) (when packs.i (insertions t) ++ placements t packs))
    ∙ filter-append (applies t) (when packs.i (insertions t)) (placements t packs)
    ∙ ap (λ xs. xs ++ filter (applies t) (placements t packs)) (insertions_kept t packs.i)

pub by_lines : (t : Tiles) (packs : Packs) → kinds_of t packs ≡ kinds_by_lines t packs
unfolding H.kinds_of
by_lines t packs =
    let infer : List Kind = when (not (is_nil (inferred t))) (kind.Infer (inferred t) ∷ []) in
    let last : List (List Kind) = filter (applies t) (when packs.i (insertions t) ++ placements t packs) ∷ [] in
    let fourth : List (List Kind) = when (packs.n && nat_le (weight t) 4 && nat_le (length (active_cells t)) 16) infer ∷ last in
    let third : List (List Kind) = when packs.s (cuts t) ∷ fourth in
    let second : List (List Kind) = when packs.f (factors t) ∷ third in
    let d : first_that_is fourth ≡ or_else (when packs.n (inferrals t)) (last_kinds t packs) =
    first_or_else (when (packs.n && nat_le (weight t) 4 && nat_le (length (active_cells t)) 16) infer) last ∙ (λ k. or_else (inferral_line t packs.n infer k) (last_line t packs k)) in
    let c : first_that_is third ≡ or_else (when packs.s (cuts t)) (or_else (when packs.n (inferrals t)) (last_kinds t packs)) = first_or_else (when packs.s (cuts t)) fourth ∙ ap (or_else (when packs.s (cuts t))) d in
    first_of_two (filter (applies t) (kind.Unit ∷ kind.Point ∷ [])) (filter (applies t) (kind.Void ∷ [])) second
    ∙ ap (or_else (closing_kinds t)) (first_or_else (when packs.f (factors t)) third ∙ ap (or_else (when packs.f (factors t))) c)

-- ---- the inferral
-- where patterns are refused, there is no inferral
pub no_inferral_heavy : (t : Tiles) → 4 < weight t → [] ≡ inferrals t
no_inferral_heavy t h = let e : nat_le (weight t) 4 ≡ false = grind (arith, nat_tests) in rw e refl

pub no_inferral_wide : (t : Tiles) → 16 < length (active_cells t) → [] ≡ inferrals t
no_inferral_wide t h = let e : nat_le (length (active_cells t)) 16 ≡ false = grind (arith, nat_tests) in rw (e, and-false (nat_le (weight t) 4)) refl

pub inferral_listed : (t : Tiles) (patterns : List (List Point)) (kinds : List Kind) → patterns ≡ inferred t → weight t ≤ 4 → length (active_cells t) ≤ 16 → kinds ≡ when (not (is_nil patterns)) (kind.Infer patterns ∷ []) → kinds ≡ inferrals t
inferral_listed t patterns kinds h light narrow e =
    let a : nat_le (weight t) 4 ≡ true = grind (arith, nat_tests) in
    let b : nat_le (length (active_cells t)) 16 ≡ true = grind (arith, nat_tests) in
    rw (a, b) (e ∙ ap (λ (ps : List (List Point)). when (not (is_nil ps)) (kind.Infer ps ∷ [])) h)

pub ruleset inferring = (no_inferral_heavy, no_inferral_wide, inferral_listed)
