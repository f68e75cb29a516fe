-- What follows where a placement applies, and its children one after another.
use Rattle.std.proofs.Common.{◌≡◌, ◌<◌, ◌≤◌, ◌+◌, ℕ, Bool, true, false, subst, refl, List, [], ◌∷◌, ◌++◌, length, get_or, take, sym, ap, ◌∙◌, arith}
use Rattle.std.specs.Prelude.{◌&&◌, map, nat_le, All}
use Rattle.std.specs.List.{list_all, AllZip}
use Rattle.std.proofs.lemmas.List.Elements.{All-append, All-from_recursion}
use Rattle.std.proofs.lemmas.Bool.Decides.{nat_tests}
use Rattle.std.proofs.lemmas.Bool.{and_parts}
use Rattle.std.proofs.lemmas.List.{map-append, take_all, take_more}
use Rattle.tiling_core.specs.Tiles.{Tiles, IsTiling}
use Rattle.tiling_core.specs.Patterns.{also, minimal}
use Rattle.normal_form.specs.Thinned.{IsThinned}
use Rattle.rule_kinds.specs.Pointeds.{PointedPattern}
use Rattle.rule_kinds.specs.Lines.{in_grid}
use Rattle.rule_kinds.specs.declared.kind.Direction.{Direction}
use Rattle.rule_kinds.specs.declared.kind.Kind.TheVariants as kind
use Rattle.rule_kinds.specs.Kinds.{axis_of, pointed_cell}
use Rattle.rule_kinds.specs.Children as C
use Rattle.rule_kinds.specs.Children.{raw_children, patterns_pointed, placed, around}
use Rattle.rule_kinds.specs.Conditions.{can_place, all_distinct, on_one_line, preimage_sum, most_preimages}
use Rattle.placement.specs.Placing.{is_small}
use Rattle.placement.proofs.Lined.{along}
use Rattle.placement.proofs.Inside.{passes_at}

pub record IsAllowed (t : Tiles) (qs : List PointedPattern) : Type 0 where
  pub narrow : t.width ≤ 6
  pub low : t.height ≤ 6
  pub inside : list_all (λ q. in_grid t q.pattern) qs ≡ true
  pub few : list_all (λ q. nat_le (preimage_sum (around t (pointed_cell q)) t) most_preimages) qs ≡ true

pub allowed : (t : Tiles) (qs : List PointedPattern) (d : Direction) → can_place t qs d ≡ true → IsAllowed t qs
allowed t qs d e =
    let few = and_parts (is_small t qs && list_all (λ q. in_grid t q.pattern) qs && all_distinct (map pointed_cell qs) && on_one_line (axis_of d) (map pointed_cell qs)) _ (sym (along t qs d) ∙ e) in
    let line = and_parts (is_small t qs && list_all (λ q. in_grid t q.pattern) qs && all_distinct (map pointed_cell qs)) _ few.0 in
    let apart = and_parts (is_small t qs && list_all (λ q. in_grid t q.pattern) qs) _ line.0 in
    let inside = and_parts (is_small t qs) _ apart.0 in
    let height = and_parts (nat_le 1 (length qs) && nat_le (length qs) 8 && nat_le t.width 6) (nat_le t.height 6) inside.0 in
    let width = and_parts (nat_le 1 (length qs) && nat_le (length qs) 8) (nat_le t.width 6) height.0 in
    record { narrow = grind (arith, nat_tests, width.1); low = grind (arith, nat_tests, height.1); inside = inside.1; few = few.1 }

pub few_at : (t : Tiles) (qs : List PointedPattern) (i : ℕ) (q : PointedPattern) → list_all (λ q. nat_le (preimage_sum (around t (pointed_cell q)) t) most_preimages) qs ≡ true → i < length qs → q ≡ get_or qs i q → preimage_sum (around t (pointed_cell q)) t ≤ 131072
few_at t qs i q e below is = let at = passes_at (λ (r : PointedPattern). nat_le (preimage_sum (around t (pointed_cell r)) t) most_preimages) qs i q e below is in grind (arith, nat_tests, at)

-- ---- children
pub one_more_child : (t : Tiles) (qs : List PointedPattern) (d : Direction) (i : ℕ) (q : PointedPattern) (without child : Tiles) (before after : List Tiles) → i < length qs → q ≡ get_or qs i q
    → before ≡ without ∷ map (placed t qs d) (take i qs) → after ≡ before ++ child ∷ [] → child ≡ placed t qs d q → after ≡ without ∷ map (placed t qs d) (take (i + 1) qs)
one_more_child t qs d i q without child before after below is e f g =
    f ∙ (λ j. e j ++ g j ∷ [])
    ∙ ap (λ (rest : List Tiles). without ∷ rest) (sym (map-append (placed t qs d) (take i qs) (q ∷ []))
    ∙ ap (map (placed t qs d)) (ap (λ (r : PointedPattern). take i qs ++ r ∷ []) is ∙ sym (take_more qs i q below)))

pub all_children : (t : Tiles) (qs : List PointedPattern) (d : Direction) (i : ℕ) (children : List Tiles) → length qs ≤ i → children ≡ also t (patterns_pointed qs) [] ∷ map (placed t qs d) (take i qs) → children ≡ raw_children t (kind.Place qs d)
unfolding C.raw_children
all_children t qs d i children whole e = e ∙ ap (λ (all : List PointedPattern). also t (patterns_pointed qs) [] ∷ map (placed t qs d) all) (take_all i qs whole)

-- ---- children that are thinned
abbrev AreThin : List Tiles → List (Tiles × Bool) → Type 0
AreThin raws children = AllZip (λ (raw : Tiles) (u : Tiles × Bool). IsThinned raw u.0 u.1) raws children

-- they are the raw children without what is left out, and these are tilings
pub record AreThinnedSoFar (raws : List Tiles) (children : List (Tiles × Bool)) : Type 0 where
  pub thinned : AreThin raws children
  pub tilings : All (λ (raw : Tiles). IsTiling raw) raws

whole_itself : (t u : Tiles) → u ≡ t → IsThinned t u false
whole_itself t u e = record {
  width = ap (λ (v : Tiles). v.width) e;
  height = ap (λ (v : Tiles). v.height) e;
  requirements = ap (λ (v : Tiles). v.requirements) e;
  least = ap (λ (v : Tiles). minimal v.obstructions) e;
  some = λ f. absurd cc;
  none = λ _. e;
}

thin_push : (raws : List Tiles) (children : List (Tiles × Bool)) (raw u : Tiles) (b : Bool) → AreThin raws children → IsThinned raw u b → AreThin (raws ++ raw ∷ []) (children ++ (u, b) ∷ [])
thin_push [] [] raw u b h k = (k, tt)
thin_push [] (c ∷ children) raw u b h k = absurd h
thin_push (r ∷ raws) [] raw u b h k = absurd h
thin_push (r ∷ raws) (c ∷ children) raw u b h k = (h.0, thin_push raws children raw u b h.1 k)

pub first_thinned : (t : Tiles) (qs : List PointedPattern) (d : Direction) (u : Tiles) (start children : List (Tiles × Bool)) → start ≡ [] → IsTiling u → u ≡ also t (patterns_pointed qs) [] → children ≡ start ++ (u, false) ∷ [] → AreThinnedSoFar (also t (patterns_pointed qs) [] ∷ map (placed t qs d) (take 0 qs)) children
first_thinned t qs d u start children none k e f =
    let whole : Tiles = also t (patterns_pointed qs) [] in
    let one : children ≡ (u, false) ∷ [] = f ∙ ap (λ (before : List (Tiles × Bool)). before ++ (u, false) ∷ []) none in
    record {
      thinned = subst (λ (after : List (Tiles × Bool)). AreThin (whole ∷ []) after) (sym one) (whole_itself whole u e, tt);
      tilings = All-from_recursion (λ (raw : Tiles). IsTiling raw) (whole ∷ []) (subst (λ (v : Tiles). IsTiling v) e k, tt);
    }

pub one_more_thinned : (t : Tiles) (qs : List PointedPattern) (d : Direction) (i : ℕ) (q : PointedPattern) (without u : Tiles) (b : Bool) (before after : List (Tiles × Bool)) → i < length qs → q ≡ get_or qs i q
    → AreThinnedSoFar (without ∷ map (placed t qs d) (take i qs)) before → after ≡ before ++ (u, b) ∷ [] → IsThinned (placed t qs d q) u b → IsTiling (placed t qs d q) → AreThinnedSoFar (without ∷ map (placed t qs d) (take (i + 1) qs)) after
one_more_thinned t qs d i q without u b before after below is h e k tiling =
    let raws : List Tiles = without ∷ map (placed t qs d) (take i qs) in
    let longer : raws ++ placed t qs d q ∷ [] ≡ without ∷ map (placed t qs d) (take (i + 1) qs) =
    one_more_child t qs d i q without (placed t qs d q) raws (raws ++ placed t qs d q ∷ []) below is refl refl refl in
    subst (λ (all : List Tiles). AreThinnedSoFar all after) longer (record {
      thinned = subst (λ (all : List (Tiles × Bool)). AreThin (raws ++ placed t qs d q ∷ []) all) (sym e) (thin_push raws before (placed t qs d q) u b h.thinned k);
      tilings = All-append (λ (raw : Tiles). IsTiling raw) raws (placed t qs d q ∷ []) h.tilings (All-from_recursion (λ (raw : Tiles). IsTiling raw) (placed t qs d q ∷ []) (tiling, tt));
    })

pub all_thinned : (t : Tiles) (qs : List PointedPattern) (d : Direction) (i : ℕ) (children : List (Tiles × Bool)) → length qs ≤ i → AreThinnedSoFar (also t (patterns_pointed qs) [] ∷ map (placed t qs d) (take i qs)) children → AreThinnedSoFar (raw_children t (kind.Place qs d)) children
all_thinned t qs d i children whole h =
    subst (λ (raws : List Tiles). AreThinnedSoFar raws children) (all_children t qs d i (also t (patterns_pointed qs) [] ∷ map (placed t qs d) (take i qs)) whole refl) h
