-- Distinct letters and consistent cells go down to parts, and over to points that stand alike.
use Rattle.std.proofs.Common.{◌≡◌, ℕ, Bool, true, false, List, [], ◌∷◌, refl, subst, arith}
use Rattle.std.specs.Prelude.{◌&&◌, not, nat_lt, nat_le, ◌==◌}
use Rattle.std.specs.Bool.{beq}
use Rattle.std.specs.List.{list_all, list_any}
use Rattle.std.proofs.lemmas.Bool.Decides.{nat_tests}
use Rattle.std.proofs.lemmas.Bool.{and_parts, and_from, or_parts, not-true, not_from_false}
use Rattle.lists.specs.Parts.IsPart.{none, kept, left_out}
use Rattle.lists.specs.Parts.{IsPart}
use Rattle.lists.proofs.Parts.{list_all-IsPart}
use Rattle.patterns.specs.Occurs.{stand_alike, stands_as, is_match}
use Rattle.patterns.specs.Words.{has_no_repeats}
use Rattle.gridded.specs.Grids.{Point, same_cell, may_follow, is_consistent, letter_of}
use Rattle.gridded.specs.Orders.{letters_of}
use Rattle.gridded.proofs.Holding.{same_cell_tells}

-- ---- parts
pub consistent_part : {c g : List Point} → IsPart c g → is_consistent g ≡ true → is_consistent c ≡ true
consistent_part none h = h
consistent_part (kept {part} {whole} x k) h = let m = and_parts (list_all (λ y. may_follow x y) whole) (is_consistent whole) h in and_from _ _ (list_all-IsPart (λ y. may_follow x y) k m.0) (consistent_part k m.1)
consistent_part (left_out {whole = whole} x k) h = consistent_part k (and_parts (list_all (λ y. may_follow x y) whole) (is_consistent whole) h).1

any_in_part : (test : ℕ → Bool) {c g : List ℕ} → IsPart c g → list_any test g ≡ false → list_any test c ≡ false
any_in_part test none h = h
any_in_part test (kept {part} {whole} x k) h = let m = or_parts (test x) (list_any test whole) h in rw (m.0, any_in_part test k m.1) refl
any_in_part test (left_out {whole = whole} x k) h = any_in_part test k (or_parts (test x) (list_any test whole) h).1

pub distinct_part : {c g : List ℕ} → IsPart c g → has_no_repeats g ≡ true → has_no_repeats c ≡ true
distinct_part none h = h
distinct_part (kept {part} {whole} x k) h =
    let m = and_parts (not (list_any (λ y. x == y) whole)) (has_no_repeats whole) h in
    and_from _ _ (not_from_false _ (any_in_part (λ y. x == y) k (not-true _ m.0))) (distinct_part k m.1)
distinct_part (left_out {whole = whole} x k) h = distinct_part k (and_parts (not (list_any (λ y. x == y) whole)) (has_no_repeats whole) h).1

-- ---- points that stand alike
pub follows_alike : (x y : Point) (a b : ℕ) → stand_alike x.letter a y.letter b ≡ true → may_follow x y ≡ true → may_follow (record { letter = a; cell = x.cell }) (record { letter = b; cell = y.cell }) ≡ true
follows_alike x y a b e h = same (nat_lt x.letter y.letter) (nat_lt a b) (nat_lt y.letter x.letter) (nat_lt b a) (nat_le x.cell.x y.cell.x) (nat_lt y.cell.y x.cell.y) (nat_lt x.cell.y y.cell.y) e h
  where
    same : (p q r s t u v : Bool) → (beq p q && beq r s) ≡ true → (t && (not (p && u) && not (r && v))) ≡ true → (t && (not (q && u) && not (s && v))) ≡ true
    same true true true true t u v e h = h
    same true true false false t u v e h = h
    same false false true true t u v e h = h
    same false false false false t u v e h = h
    same true true true false t u v e h = absurd cc
    same true true false true t u v e h = absurd cc
    same false false true false t u v e h = absurd cc
    same false false false true t u v e h = absurd cc
    same true false r s t u v e h = absurd cc
    same false true r s t u v e h = absurd cc

follows_matched : (x y a b : Point) → same_cell x a ≡ true → same_cell y b ≡ true → stand_alike x.letter a.letter y.letter b.letter ≡ true → may_follow x y ≡ true → may_follow a b ≡ true
follows_matched x y a b e f s h =
    let moved : may_follow (record { letter = a.letter; cell = x.cell }) (record { letter = b.letter; cell = y.cell }) ≡ true = follows_alike x y a.letter b.letter s h in
    let first : may_follow a (record { letter = b.letter; cell = y.cell }) ≡ true = subst (λ c. may_follow (record { letter = a.letter; cell = c }) (record { letter = b.letter; cell = y.cell }) ≡ true) (same_cell_tells x a e) moved in
    subst (λ c. may_follow a (record { letter = b.letter; cell = c }) ≡ true) (same_cell_tells y b f) first

all_follow_matched : (x a : Point) (xs ps : List Point) → same_cell x a ≡ true → is_match letter_of same_cell xs ps ≡ true → stands_as letter_of same_cell x a xs ps ≡ true → list_all (λ y. may_follow x y) xs ≡ true → list_all (λ b. may_follow a b) ps ≡ true
all_follow_matched x a [] [] e m s h = refl
all_follow_matched x a (y ∷ xs) [] e m s h = absurd cc
all_follow_matched x a [] (b ∷ ps) e m s h = absurd cc
all_follow_matched x a (y ∷ xs) (b ∷ ps) e m s h =
    let k = and_parts (same_cell y b) (stands_as letter_of same_cell y b xs ps && is_match letter_of same_cell xs ps) m in
    let l = and_parts (stands_as letter_of same_cell y b xs ps) (is_match letter_of same_cell xs ps) k.1 in
    let t = and_parts (stand_alike x.letter a.letter y.letter b.letter) (stands_as letter_of same_cell x a xs ps) s in
    let f = and_parts (may_follow x y) (list_all (λ z. may_follow x z) xs) h in
    and_from _ _ (follows_matched x y a b e k.0 t.0 f.0) (all_follow_matched x a xs ps e l.1 t.1 f.1)

pub consistent_alike : (xs ps : List Point) → is_match letter_of same_cell xs ps ≡ true → is_consistent xs ≡ true → is_consistent ps ≡ true
consistent_alike [] [] m h = refl
consistent_alike (x ∷ xs) [] m h = absurd cc
consistent_alike [] (a ∷ ps) m h = absurd cc
consistent_alike (x ∷ xs) (a ∷ ps) m h =
    let k = and_parts (same_cell x a) (stands_as letter_of same_cell x a xs ps && is_match letter_of same_cell xs ps) m in
    let l = and_parts (stands_as letter_of same_cell x a xs ps) (is_match letter_of same_cell xs ps) k.1 in
    let f = and_parts (list_all (λ z. may_follow x z) xs) (is_consistent xs) h in
    and_from _ _ (all_follow_matched x a xs ps k.0 l.1 l.0 f.0) (consistent_alike xs ps l.1 f.1)

apart_alike : (x a y b : ℕ) → stand_alike x a y b ≡ true → (x == y) ≡ false → (a == b) ≡ false
apart_alike x a y b s e =
    let k = and_parts (beq (nat_lt x y) (nat_lt a b)) (beq (nat_lt y x) (nat_lt b a)) s in
    go (nat_lt x y) (nat_lt a b) (nat_lt y x) (nat_lt b a) refl refl refl refl k.0 k.1
  where
    go : (p q r t : Bool) → nat_lt x y ≡ p → nat_lt a b ≡ q → nat_lt y x ≡ r → nat_lt b a ≡ t → beq p q ≡ true → beq r t ≡ true → (a == b) ≡ false
    go true true r t f g h i u v = grind (arith, nat_tests)
    go p q true true f g h i u v = grind (arith, nat_tests)
    go false false false false f g h i u v = absurd (grind (arith, nat_tests))
    go true false r t f g h i u v = absurd cc
    go false true r t f g h i u v = absurd cc
    go false false true false f g h i u v = absurd cc
    go false false false true f g h i u v = absurd cc

nowhere_alike : (x a : Point) (xs ps : List Point) → stands_as letter_of same_cell x a xs ps ≡ true → list_any (λ y. x.letter == y) (letters_of xs) ≡ false → list_any (λ b. a.letter == b) (letters_of ps) ≡ false
nowhere_alike x a [] [] s h = refl
nowhere_alike x a (y ∷ xs) [] s h = absurd cc
nowhere_alike x a [] (b ∷ ps) s h = absurd cc
nowhere_alike x a (y ∷ xs) (b ∷ ps) s h =
    let t = and_parts (stand_alike x.letter a.letter y.letter b.letter) (stands_as letter_of same_cell x a xs ps) s in
    let f = or_parts (x.letter == y.letter) (list_any (λ z. x.letter == z) (letters_of xs)) h in
    rw (apart_alike x.letter a.letter y.letter b.letter t.0 f.0, nowhere_alike x a xs ps t.1 f.1) refl

pub distinct_alike : (xs ps : List Point) → is_match letter_of same_cell xs ps ≡ true → has_no_repeats (letters_of xs) ≡ true → has_no_repeats (letters_of ps) ≡ true
distinct_alike [] [] m h = refl
distinct_alike (x ∷ xs) [] m h = absurd cc
distinct_alike [] (a ∷ ps) m h = absurd cc
distinct_alike (x ∷ xs) (a ∷ ps) m h =
    let k = and_parts (same_cell x a) (stands_as letter_of same_cell x a xs ps && is_match letter_of same_cell xs ps) m in
    let l = and_parts (stands_as letter_of same_cell x a xs ps) (is_match letter_of same_cell xs ps) k.1 in
    let f = and_parts (not (list_any (λ z. x.letter == z) (letters_of xs))) (has_no_repeats (letters_of xs)) h in
    and_from _ _ (not_from_false _ (nowhere_alike x a xs ps l.0 (not-true _ f.0))) (distinct_alike xs ps l.1 f.1)
