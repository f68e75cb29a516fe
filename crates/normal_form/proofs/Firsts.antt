-- The first of the steps that applies, kind by kind and column by column.
use Rattle.std.proofs.Common.{◌≡◌, ℕ, zero, suc, ◌+◌, ◌<◌, ◌≤◌, Bool, true, false, cond, List, [], ◌∷◌, ◌++◌, refl, ap, ◌∙◌, arith}
use Rattle.std.specs.Prelude.{Option, Some, None, find, map, nat_lt}
use Rattle.std.specs.List.{range_with_len, flat_map}
use Rattle.std.specs.Option.{option_or}
use Rattle.std.proofs.lemmas.Bool.Decides.{nat_tests}
use Rattle.std.proofs.lemmas.List.{map-append}
use Rattle.std.proofs.lemmas.List.Folds.{find-append}
use Rattle.gridded.specs.declared.Cell.{Cell}
use Rattle.gridded.specs.Grids.{cells_in}
use Rattle.tiling_core.specs.Tiles.{Tiles}
use Rattle.steps.specs.declared.Step.{Step}
use Rattle.steps.specs.declared.Step.TheVariants.{Min, Clean, Lists, Void}
use Rattle.steps.specs.Steps.{step_applies}
use Rattle.steps.specs.Traces.{first_step}
use Rattle.normal_form.proofs.Tracing.{cleanings, columns, rows}

abbrev applying : Tiles → Step → Bool
applying t s = step_applies s t

-- ---- kind by kind
pub by_kind : (t : Tiles) → first_step t
    ≡ cond (step_applies Void t) (Some Void) (cond (step_applies Min t) (Some Min)
    (option_or (find (λ s. step_applies s t) (cleanings t)) (cond (step_applies Lists t) (Some Lists) (option_or (find (λ s. step_applies s t) (columns t)) (find (λ s. step_applies s t) (rows t))))))
by_kind t =
    ap (λ (o : Option Step). cond (step_applies Void t) (Some Void) (cond (step_applies Min t) (Some Min) o))
    (find-append (applying t) (cleanings t ++ Lists ∷ columns t) (rows t)
    ∙ ap (λ (o : Option Step). option_or o (find (applying t) (rows t))) (find-append (applying t) (cleanings t) (Lists ∷ columns t))
    ∙ regroup (find (applying t) (cleanings t)) (step_applies Lists t))
  where
    regroup : (o : Option Step) (b : Bool) → option_or (option_or o (cond b (Some Lists) (find (applying t) (columns t)))) (find (applying t) (rows t)) ≡ option_or o (cond b (Some Lists) (option_or (find (applying t) (columns t)) (find (applying t) (rows t))))
    regroup None true = refl
    regroup None false = refl
    regroup (Some s) b = refl

-- ---- column by column
abbrev column : ℕ → ℕ → List Cell
column h x = map (λ y. record { x = x; y = y }) (range_with_len 0 h)

abbrev pub cleanings_of : ℕ → ℕ → List Step
cleanings_of h x = map (λ y. Clean (record { x = x; y = y })) (range_with_len 0 h)

as_steps : (x : ℕ) (ys : List ℕ) → map (λ c. Clean c) (map (λ y. record { x = x; y = y }) ys) ≡ map (λ y. Clean (record { x = x; y = y })) ys
as_steps x [] = refl
as_steps x (y ∷ ys) = ap (λ (steps : List Step). Clean (record { x = x; y = y }) ∷ steps) (as_steps x ys)

module _ (p : Step → Bool) (h : ℕ) where
  abbrev within : ℕ → ℕ → Option Step
  within a n = find p (map (λ c. Clean c) (flat_map (column h) (range_with_len a n)))

  one_column : (a n : ℕ) → within a (suc n) ≡ option_or (find p (cleanings_of h a)) (within (a + 1) n)
  one_column a n =
      let more = flat_map (column h) (range_with_len (a + 1) n) in
      ap (find p) (map-append (λ c. Clean c) (column h a) more ∙ ap (λ (steps : List Step). steps ++ map (λ c. Clean c) more) (as_steps a (range_with_len 0 h)))
      ∙ find-append p (cleanings_of h a) (map (λ c. Clean c) more)

  none_within : (a n : ℕ) → ((k : ℕ) → a ≤ k → k < a + n → find p (cleanings_of h k) ≡ None) → within a n ≡ None
  none_within a zero all = refl
  none_within a (suc n) all =
      one_column a n ∙ ap (λ (o : Option Step). option_or o (within (a + 1) n)) (all a (omega arith) (omega arith))
      ∙ none_within (a + 1) n (λ k u v. all k (omega (arith, u)) (omega (arith, v)))

  found_within : (a n x : ℕ) (s : Step) → a ≤ x → x < a + n → ((k : ℕ) → a ≤ k → k < x → find p (cleanings_of h k) ≡ None) → find p (cleanings_of h x) ≡ Some s → within a n ≡ Some s
  found_within a zero x s l m before here = absurd (omega (arith, l, m))
  found_within a (suc n) x s l m before here = go (nat_lt a x) refl (λ u v b. found_within (a + 1) n x s u v b here)
    where
      go : (b : Bool) → nat_lt a x ≡ b → (a + 1 ≤ x → x < a + 1 + n → ((k : ℕ) → a + 1 ≤ k → k < x → find p (cleanings_of h k) ≡ None) → within (a + 1) n ≡ Some s) → within a (suc n) ≡ Some s
      go true e ih =
          let below : a < x = grind (arith, nat_tests) in
          one_column a n ∙ ap (λ (o : Option Step). option_or o (within (a + 1) n)) (before a (omega arith) below)
          ∙ ih (omega (arith, below)) (omega (arith, m)) (λ k u v. before k (omega (arith, u)) v)
      go false e ih =
          let same : x ≡ a = grind (arith, nat_tests, l) in
          let first : find p (cleanings_of h a) ≡ Some s = rw (← same) here in
          one_column a n ∙ ap (λ (o : Option Step). option_or o (within (a + 1) n)) first

pub no_cell : (p : Step → Bool) (w h : ℕ) → ((k : ℕ) → k < w → find p (cleanings_of h k) ≡ None) → find p (map (λ c. Clean c) (cells_in w h)) ≡ None
no_cell p w h all = none_within p h 0 w (λ k u v. all k (omega (arith, v)))

pub some_cell : (p : Step → Bool) (w h x : ℕ) (s : Step) → x < w → ((k : ℕ) → k < x → find p (cleanings_of h k) ≡ None) → find p (cleanings_of h x) ≡ Some s → find p (map (λ c. Clean c) (cells_in w h)) ≡ Some s
some_cell p w h x s l before here = found_within p h 0 w x s (omega arith) (omega (arith, l)) (λ k u v. before k v) here
