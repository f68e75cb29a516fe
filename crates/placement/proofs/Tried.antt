-- The placements that are tried, where they apply.
use Rattle.std.proofs.Common.{◌≡◌, ◌+◌, ℕ, Bool, true, false, cond, List, [], ◌∷◌, ◌++◌, length, take, drop, refl, sym, ap, ◌∙◌, arith, append_assoc, append-nil}
use Rattle.std.specs.Prelude.{map, filter, ◌==◌}
use Rattle.std.specs.List.{flat_map}
use Rattle.std.proofs.Math.Seq.{take-append_seam}
use Rattle.std.proofs.lemmas.List.{map-append, take-append-drop}
use Rattle.std.proofs.lemmas.List.Elements.{filter-append}
use Rattle.std.proofs.lemmas.Grind.{flat_map-append}
use Rattle.std.proofs.lemmas.Bool.Decides.{nat_tests}
use Rattle.lists.specs.Members.{is_nil}
use Rattle.lists.proofs.Ranges.{range_next}
use Rattle.gridded.specs.declared.axis.Axis.{Axis}
use Rattle.gridded.specs.Axes.{line_of}
use Rattle.gridded.specs.declared.cell.Cell.{Cell}
use Rattle.gridded.specs.Grids.{Point}
use Rattle.tiling_core.specs.Patterns.{active_cells}
use Rattle.tiling_core.specs.Tiles.{Tiles}
use Rattle.rule_kinds.specs.Pointeds.{PointedPattern}
use Rattle.rule_kinds.specs.Lines.{numbers_below}
use Rattle.rule_kinds.specs.declared.kind.Direction.{Direction}
use Rattle.rule_kinds.specs.declared.kind.Direction.TheVariants.{North, South, East, West}
use Rattle.rule_kinds.specs.declared.kind.Kind.{Kind}
use Rattle.rule_kinds.specs.declared.kind.Kind.TheVariants as kind
use Rattle.rule_kinds.specs.Kinds.{axis_of}
use Rattle.rule_kinds.specs.Conditions as D
use Rattle.rule_kinds.specs.Conditions.{can_place, applies}
use Rattle.rule_kinds.specs.Choices.{points_on}
use Rattle.placement.specs.Placing.{can_place_along, cell_point, place_kind, applying, in_both, in_all, kinds_in_all}
use Rattle.placement.proofs.Lined.{along}

applies_place : (t : Tiles) (qs : List PointedPattern) (d : Direction) → applies t (kind.Place qs d) ≡ can_place t qs d
unfolding D.applies
applies_place t qs d = refl

pub applying-append : (t : Tiles) (xs ys : List (List PointedPattern × Direction)) → applying t (xs ++ ys) ≡ applying t xs ++ applying t ys
applying-append t xs ys = ap (filter (applies t)) (map-append place_kind xs ys) ∙ filter-append (applies t) (map place_kind xs) (map place_kind ys)

-- ---- two directions that compare the same lines

applying_both : (t : Tiles) (qs : List PointedPattern) (d e : Direction) (b : Bool) → applies t (kind.Place qs d) ≡ b → applies t (kind.Place qs e) ≡ b → applying t ((qs, d) ∷ (qs, e) ∷ []) ≡ cond b (kind.Place qs d ∷ kind.Place qs e ∷ []) []
applying_both t qs d e true f g = rw (f, g) refl
applying_both t qs d e false f g = rw (f, g) refl

told : (t : Tiles) (qs : List PointedPattern) (d e : Direction) (a : Axis) (b : Bool) → a ≡ axis_of d → axis_of e ≡ axis_of d → b ≡ can_place_along t qs a → applying t ((qs, d) ∷ (qs, e) ∷ []) ≡ cond b (kind.Place qs d ∷ kind.Place qs e ∷ []) []
told t qs d e a b is same f =
    let first : applies t (kind.Place qs d) ≡ b = applies_place t qs d ∙ along t qs d ∙ ap (can_place_along t qs) (sym is) ∙ sym f in
    let second : applies t (kind.Place qs e) ≡ b = applies_place t qs e ∙ along t qs e ∙ ap (can_place_along t qs) (same ∙ sym is) ∙ sym f in
    applying_both t qs d e b first second

pub both_added : (t : Tiles) (qs : List PointedPattern) (d e : Direction) (a : Axis) (b : Bool) (old one two : List Kind) (k l : Kind) → a ≡ axis_of d → axis_of e ≡ axis_of d → b ≡ can_place_along t qs a → b ≡ true
    → one ≡ old ++ k ∷ [] → k ≡ kind.Place qs d → two ≡ one ++ l ∷ [] → l ≡ kind.Place qs e → two ≡ old ++ applying t ((qs, d) ∷ (qs, e) ∷ [])
both_added t qs d e a b old one two k l is same f placed g h i j =
    i ∙ (λ n. (g n) ++ l ∷ []) ∙ append_assoc old (k ∷ []) (l ∷ [])
    ∙ (λ n. old ++ (h n ∷ j n ∷ []))
    ∙ ap (λ (kinds : List Kind). old ++ kinds) (ap (λ c. cond c (kind.Place qs d ∷ kind.Place qs e ∷ []) []) (sym placed) ∙ sym (told t qs d e a b is same f))

pub none_added : (t : Tiles) (qs : List PointedPattern) (d e : Direction) (a : Axis) (b : Bool) (old : List Kind) → a ≡ axis_of d → axis_of e ≡ axis_of d → b ≡ can_place_along t qs a → b ≡ false → old ≡ old ++ applying t ((qs, d) ∷ (qs, e) ∷ [])
none_added t qs d e a b old is same f refused =
    sym (append-nil old) ∙ ap (λ (kinds : List Kind). old ++ kinds) (ap (λ c. cond c (kind.Place qs d ∷ kind.Place qs e ∷ []) []) (sym refused) ∙ sym (told t qs d e a b is same f))

-- ---- line after line
not_nil : {X : Type 0} (x : X) (xs : List X) → is_nil (x ∷ xs) ≡ false
not_nil x xs = grind (arith, nat_tests)

-- where there is no pattern, nothing applies
in_both_applying : (t : Tiles) (d e : Direction) (qs : List PointedPattern) → applying t (in_both d e qs) ≡ applying t ((qs, d) ∷ (qs, e) ∷ [])
in_both_applying t d e [] = sym (applying_both t [] d e false (applies_place t [] d) (applies_place t [] e))
in_both_applying t d e (q ∷ qs) = rw (not_nil q qs) refl

pub points_are : (t : Tiles) (a b : Axis) (line : ℕ) (cells items set : List Cell) (points : List PointedPattern) → a ≡ b → cells ≡ items → items ≡ set → set ≡ active_cells t
    → points ≡ map cell_point (filter (λ c. line_of a c == line) cells) → points ≡ points_on b line t
points_are t a b line cells items set points is e f g h = h ∙ (λ i. map cell_point (filter (λ c. line_of (is i) c == line) ((e ∙ f ∙ g) i)))

pub lines_step : (t : Tiles) (a : Axis) (d e : Direction) (line : ℕ) (qs : List PointedPattern) (before after : List Kind) → qs ≡ points_on a line t
    → before ≡ applying t (flat_map (in_both d e) (map (λ i. points_on a i t) (numbers_below line))) → after ≡ before ++ applying t ((qs, d) ∷ (qs, e) ∷ [])
    → after ≡ applying t (flat_map (in_both d e) (map (λ i. points_on a i t) (numbers_below (line + 1))))
lines_step t a d e line qs before after is f g =
    g ∙ (λ n. f n ++ applying t ((is n, d) ∷ (is n, e) ∷ []))
    ∙ ap (λ (kinds : List Kind). applying t (flat_map (in_both d e) (map (λ i. points_on a i t) (numbers_below line))) ++ kinds) (sym (in_both_applying t d e (points_on a line t)))
    ∙ sym (applying-append t (flat_map (in_both d e) (map (λ i. points_on a i t) (numbers_below line))) (in_both d e (points_on a line t)))
    ∙ ap (applying t) (ap (λ (rest : List (List PointedPattern × Direction)). flat_map (in_both d e) (map (λ i. points_on a i t) (numbers_below line)) ++ rest) (sym (append-nil (in_both d e (points_on a line t))))
    ∙ sym (flat_map-append (in_both d e) (map (λ i. points_on a i t) (numbers_below line)) (points_on a line t ∷ []))
    ∙ ap (flat_map (in_both d e)) (sym (map-append (λ i. points_on a i t) (numbers_below line) (line ∷ [])) ∙ ap (map (λ i. points_on a i t)) (sym (range_next line))))

-- ---- place after place
pub kinds_in_all-append : (t : Tiles) (xs ys : List PointedPattern) → kinds_in_all t (xs ++ ys) ≡ kinds_in_all t xs ++ kinds_in_all t ys
kinds_in_all-append t xs ys = ap (applying t) (flat_map-append in_all xs ys) ∙ applying-append t (flat_map in_all xs) (flat_map in_all ys)

abbrev pointing : List Point → ℕ → PointedPattern
pointing g index = record { pattern = g; index = index }

pub places_step : (t : Tiles) (g : List Point) (index : ℕ) (q : PointedPattern) (old before one after : List Kind) → q ≡ pointing g index → before ≡ old ++ kinds_in_all t (map (pointing g) (numbers_below index))
    → one ≡ before ++ applying t ((q ∷ [], North) ∷ (q ∷ [], South) ∷ []) → after ≡ one ++ applying t ((q ∷ [], East) ∷ (q ∷ [], West) ∷ []) → after ≡ old ++ kinds_in_all t (map (pointing g) (numbers_below (index + 1)))
places_step t g index q old before one after is e f h =
    h ∙ ap (λ (kinds : List Kind). kinds ++ applying t ((q ∷ [], East) ∷ (q ∷ [], West) ∷ [])) f
    ∙ append_assoc before (applying t ((q ∷ [], North) ∷ (q ∷ [], South) ∷ [])) (applying t ((q ∷ [], East) ∷ (q ∷ [], West) ∷ []))
    ∙ ap (λ (kinds : List Kind). before ++ kinds) (sym (applying-append t ((q ∷ [], North) ∷ (q ∷ [], South) ∷ []) ((q ∷ [], East) ∷ (q ∷ [], West) ∷ [])))
    ∙ (λ n. e n ++ kinds_in_all t (is n ∷ []))
    ∙ append_assoc old (kinds_in_all t (map (pointing g) (numbers_below index))) (kinds_in_all t (pointing g index ∷ []))
    ∙ ap (λ (kinds : List Kind). old ++ kinds) (sym (kinds_in_all-append t (map (pointing g) (numbers_below index)) (pointing g index ∷ []))
    ∙ ap (kinds_in_all t) (sym (map-append (pointing g) (numbers_below index) (index ∷ [])) ∙ ap (map (pointing g)) (sym (range_next index))))

-- ---- the first lists
pub enough : {X Y : Type 0} (f : X → List Y) (xs : List X) (i n : ℕ) (found : List Y) → found ≡ flat_map f (take i xs) → length found ≡ n → found ≡ take n (flat_map f xs)
enough {X} {Y} f xs i n found e l =
    sym (take-append_seam found (flat_map f (drop i xs)))
    ∙ (λ j. take (l j) (e j ++ flat_map f (drop i xs)))
    ∙ ap (take n) (sym (flat_map-append f (take i xs) (drop i xs)) ∙ ap (flat_map f) (take-append-drop i xs))
