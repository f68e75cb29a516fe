-- The kinds of a class apply, and give few children.
use Rattle.std.proofs.Common.{◌≡◌, Bool, true, false, List, [], ◌∷◌, ◌++◌, cond, length, ⊎_elim, refl, sym, ◌∙◌, subst, arith}
use Rattle.std.specs.Prelude.{◌&&◌, not, nat_le, filter, All}
use Rattle.std.specs.List.{list_all}
use Rattle.std.specs.Cmp.Lexicographic.{pointwise_decides}
use Rattle.std.proofs.lemmas.Bool.{and_parts, and_from}
use Rattle.lists.specs.Members.IsIn.{here, later}
use Rattle.lists.specs.Members.{IsIn, is_nil}
use Rattle.lists.proofs.Members.{from_IsIn-filter, IsIn-append_cases, all_in}
use Rattle.lists.proofs.Counts.{in_sum}
use Rattle.gridded.specs.Grids.{Point, gridded_of}
use Rattle.gridded.specs.Orders.{gridded_cmp}
use Rattle.gridded.specs.OrderLaws.{gridded_total, gridded_exact, gridded_eq_decides}
use Rattle.sequences.specs.Ascending.{in_order}
use Rattle.sequences.proofs.InOrder.{in_order_ascends, in_order-is, list_all-in_order}
use Rattle.gridded.specs.declared.axis.Axis.TheVariants as axis
use Rattle.tiling_core.specs.Tiles.{Tiles, IsTiling}
use Rattle.tiling_core.specs.Measures.{weight}
use Rattle.tiling_core.specs.Patterns.{active_cells}
use Rattle.rule_kinds.specs.declared.kind.Kind.{Kind}
use Rattle.rule_kinds.specs.declared.kind.Kind.TheVariants as kind
use Rattle.rule_kinds.specs.Conditions as D
use Rattle.rule_kinds.specs.Conditions.{applies, ascends}
use Rattle.emptiness.specs.Inferable.{is_inferable, inferred}
use Rattle.rule_kinds.specs.Choices.{Packs, kinds_of, cuts, cuts_along, insertions, placements, when, first_that_is, finest_factoring}
use Rattle.work_packs.specs.KindLines.{or_else, closing_kinds, factors, inferrals, last_kinds, words_of_kind}
use Rattle.work_packs.specs.RulesMade.{IsTried}
use Rattle.work_packs.proofs.KindLists.{some_not_nil, by_lines, insertions_kept}
use Rattle.work_packs.proofs.Words.{few_words}

-- ---- lists
abbrev Each : {X : Type 0} → (X → Type 0) → List X → Type 0
Each {X} P xs = (x : X) → IsIn x xs → P x

each_or_else : {X : Type 0} (P : X → Type 0) (xs ys : List X) → Each P xs → Each P ys → Each P (or_else xs ys)
each_or_else P [] ys f g = g
each_or_else P (x ∷ xs) ys f g = rw (some_not_nil x xs) f

each_when : {X : Type 0} (P : X → Type 0) (b : Bool) (xs : List X) → (b ≡ true → Each P xs) → Each P (when b xs)
each_when P true xs f = f refl
each_when P false xs f = λ x m. elim m [ ]

each_filtered : {X : Type 0} (p : X → Bool) (xs : List X) → Each (λ x. p x ≡ true) (filter p xs)
each_filtered p xs x m = (from_IsIn-filter p xs m).1

each_append : {X : Type 0} (P : X → Type 0) (xs ys : List X) → Each P xs → Each P ys → Each P (xs ++ ys)
each_append P xs ys f g x m = ⊎_elim {C = P x} (f x) (g x) (IsIn-append_cases xs ys m)

two : {X : Type 0} (xs ys : List X) → or_else xs ys ≡ first_that_is (xs ∷ ys ∷ [])
two [] [] = refl
two [] (y ∷ ys) = refl
two (x ∷ xs) ys = rw (some_not_nil x xs) refl

-- ---- the inferral
in_order_ascending : (patterns : List (List Point)) → ascends (in_order gridded_cmp patterns) ≡ true
in_order_ascending patterns =
    (pointwise_decides gridded_eq_decides (in_order gridded_cmp (in_order gridded_cmp patterns)) (in_order gridded_cmp patterns)).1
    (sym (in_order-is gridded_cmp gridded_total gridded_exact (in_order gridded_cmp patterns) (in_order gridded_cmp patterns) (record { ascends = in_order_ascends gridded_cmp gridded_total gridded_exact patterns; keeps = λ g m. m; adds_none = λ g m. m })))

all_pass_filter : {X : Type 0} (p : X → Bool) (xs : List X) → list_all p (filter p xs) ≡ true
all_pass_filter p [] = refl
all_pass_filter p (x ∷ xs) = go (p x) refl (all_pass_filter p xs)
  where
    go : (b : Bool) → p x ≡ b → list_all p (filter p xs) ≡ true → list_all p (cond b (x ∷ filter p xs) (filter p xs)) ≡ true
    go true e ih = rw e ih
    go false e ih = ih

inferral_applies : (t : Tiles) → nat_le (weight t) 4 ≡ true → not (is_nil (inferred t)) ≡ true → applies t (kind.Infer (inferred t)) ≡ true
unfolding D.applies
inferral_applies t light some =
    and_from _ _ (and_from _ _ (and_from _ _ some (in_order_ascending (filter (is_inferable t) (gridded_of t.width t.height 1 ++ gridded_of t.width t.height 2)))) light)
    (list_all-in_order gridded_cmp gridded_total gridded_exact (is_inferable t) (filter (is_inferable t) (gridded_of t.width t.height 1 ++ gridded_of t.width t.height 2))
    ∙ all_pass_filter (is_inferable t) (gridded_of t.width t.height 1 ++ gridded_of t.width t.height 2))

inferrals_apply : (t : Tiles) → Each (λ k. applies t k ≡ true) (inferrals t)
inferrals_apply t =
    each_when (λ k. applies t k ≡ true) (nat_le (weight t) 4 && nat_le (length (active_cells t)) 16) (when (not (is_nil (inferred t))) (kind.Infer (inferred t) ∷ []))
    (λ e. each_when (λ k. applies t k ≡ true) (not (is_nil (inferred t))) (kind.Infer (inferred t) ∷ []) (λ f k m. alone k m (inferral_applies t (and_parts (nat_le (weight t) 4) _ e).0 f)))
  where
    alone : (k : Kind) → IsIn k (kind.Infer (inferred t) ∷ []) → applies t (kind.Infer (inferred t)) ≡ true → applies t k ≡ true
    alone _ here h = h
    alone k (later _ m) h = elim m [ ]

-- ---- all of them
closing_apply : (t : Tiles) → Each (λ k. applies t k ≡ true) (closing_kinds t)
closing_apply t = subst (λ (kinds : List Kind). Each (λ k. applies t k ≡ true) kinds) (two (filter (applies t) (kind.Unit ∷ kind.Point ∷ [])) (filter (applies t) (kind.Void ∷ [])))
    (each_or_else (λ k. applies t k ≡ true) (filter (applies t) (kind.Unit ∷ kind.Point ∷ [])) (filter (applies t) (kind.Void ∷ [])) (each_filtered (applies t) (kind.Unit ∷ kind.Point ∷ [])) (each_filtered (applies t) (kind.Void ∷ [])))

last_apply : (t : Tiles) (packs : Packs) → Each (λ k. applies t k ≡ true) (last_kinds t packs)
last_apply t packs =
    each_append (λ k. applies t k ≡ true) (when packs.i (insertions t)) (filter (applies t) (placements t packs))
    (subst (λ (kinds : List Kind). Each (λ k. applies t k ≡ true) kinds) (insertions_kept t packs.i) (each_filtered (applies t) (when packs.i (insertions t)))) (each_filtered (applies t) (placements t packs))

cuts_apply : (t : Tiles) → Each (λ k. applies t k ≡ true) (cuts t)
cuts_apply t k m = ⊎_elim {C = applies t k ≡ true} (λ a. (from_IsIn-filter (applies t) _ a).1) (λ a. (from_IsIn-filter (applies t) _ a).1) (IsIn-append_cases (cuts_along axis.Row t) (cuts_along axis.Column t) m)

kinds_apply : (t : Tiles) (packs : Packs) → Each (λ k. applies t k ≡ true) (kinds_of t packs)
kinds_apply t packs =
    let Applying : Kind → Type 0 = λ k. applies t k ≡ true in
    subst (λ (kinds : List Kind). Each Applying kinds) (sym (by_lines t packs))
    (each_or_else Applying (closing_kinds t) _ (closing_apply t)
    (each_or_else Applying (when packs.f (factors t)) _ (each_when Applying packs.f (factors t) (λ e. each_filtered (applies t) (kind.Factor (finest_factoring t) ∷ [])))
    (each_or_else Applying (when packs.s (cuts t)) _ (each_when Applying packs.s (cuts t) (λ e. cuts_apply t))
    (each_or_else Applying (when packs.n (inferrals t)) _ (each_when Applying packs.n (inferrals t) (λ e. inferrals_apply t)) (last_apply t packs)))))

pub all_tried : (t : Tiles) (packs : Packs) (kinds : List Kind) → IsTiling t → kinds ≡ kinds_of t packs → All (λ kind. IsTried t kind) kinds
all_tried t packs kinds k e = all_in (λ kind. IsTried t kind) kinds (subst (λ (ks : List Kind). Each (IsTried t) ks) (sym e)
    (λ j m. record { applies = kinds_apply t packs j m; few = let a = in_sum (words_of_kind t) m in let b = few_words t packs k in omega arith }))
