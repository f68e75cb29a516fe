-- Letters and cells that no refusal meets make a gridded permutation, and the other way round.
use Rattle.std.proofs.Common.{◌≡◌, ℕ, zero, suc, ◌+◌, ◌-◌, ◌<◌, ◌≤◌, Bool, true, false, List, [], ◌∷◌, length, get_or, refl, subst, inl, inr, ⊎_elim, arith}
use Rattle.std.specs.Prelude.{◌&&◌, not, ◌≢◌, ◌==◌, nat_lt, nat_le}
use Rattle.std.specs.List.{list_all, list_any, AllByRecursion}
use Rattle.std.proofs.lemmas.List.Elements.{All-from_recursion}
use Rattle.std.proofs.lemmas.Bool.Decides.{nat_tests, Decides-eqb}
use Rattle.std.proofs.lemmas.Bool.{and_parts, and_from, or_parts, not-true, not_from_false}
use Rattle.patterns.specs.Words.{has_no_repeats}
use Rattle.gridded.specs.declared.cell.Cell.{Cell}
use Rattle.gridded.specs.Grids.{Point, points, corner, may_follow, is_consistent, FitTogether}
use Rattle.gridded.specs.Refused.{column_at, Opposed, IsAccepted, IsRefused}
use Rattle.gridded.specs.declared.fault.GriddedFault.{GriddedFault}
use Rattle.gridded.specs.declared.fault.GriddedFault.TheVariants.{Lengths, NotPerm, Columns, Rows, Memory}
use Rattle.gridded.specs.PointLaws.{letters_of-points, length-points}

below : (n : ℕ) (letters : List ℕ) (cells : List Cell) → ((k : ℕ) → k < length letters → get_or letters k 0 < n) → AllByRecursion (λ (p : Point). p.letter < n) (points letters cells)
below n [] cells h = tt
below n (l ∷ letters) [] h = tt
below n (l ∷ letters) (c ∷ cells) h = (h zero (omega arith), below n letters cells (λ k m. h (suc k) (omega arith)))

nowhere : (x : ℕ) (letters : List ℕ) → ((k : ℕ) → k < length letters → x ≢ get_or letters k 0) → list_any (λ y. x == y) letters ≡ false
nowhere x [] h = refl
nowhere x (l ∷ letters) h =
    let out = h zero (omega arith) in
    let other : (x == l) ≡ false = grind (arith, nat_tests) in
    rw other (nowhere x letters (λ k m. h (suc k) (omega arith)))

distinct : (letters : List ℕ) → ((j k : ℕ) → j < k → k < length letters → get_or letters j 0 ≢ get_or letters k 0) → has_no_repeats letters ≡ true
distinct [] h = refl
distinct (l ∷ letters) h =
    and_from _ _ (not_from_false _ (nowhere l letters (λ k m. h zero (suc k) (omega arith) (omega arith)))) (distinct letters (λ j k m n. h (suc j) (suc k) (omega arith) (omega arith)))

abbrev point_at : List ℕ → List Cell → ℕ → Point
point_at letters cells k = record { letter = get_or letters k 0; cell = get_or cells k corner }

all_follow : (p : Point) (letters : List ℕ) (cells : List Cell) → ((k : ℕ) → k < length letters → may_follow p (point_at letters cells k) ≡ true) → list_all (λ q. may_follow p q) (points letters cells) ≡ true
all_follow p [] cells h = refl
all_follow p (l ∷ letters) [] h = refl
all_follow p (l ∷ letters) (c ∷ cells) h = and_from _ _ (h zero (omega arith)) (all_follow p letters cells (λ k m. h (suc k) (omega arith)))

consistent : (letters : List ℕ) (cells : List Cell) → ((j k : ℕ) → j < k → k < length letters → may_follow (point_at letters cells j) (point_at letters cells k) ≡ true) → is_consistent (points letters cells) ≡ true
consistent [] cells h = refl
consistent (l ∷ letters) [] h = refl
consistent (l ∷ letters) (c ∷ cells) h =
    and_from _ _ (all_follow (record { letter = l; cell = c }) letters cells (λ k m. h zero (suc k) (omega arith) (omega arith))) (consistent letters cells (λ j k m n. h (suc j) (suc k) (omega arith) (omega arith)))

-- columns that never fall from one place to the next never fall
columns_rise : (cells : List Cell) → ((k : ℕ) → k < length cells → 0 < k → column_at cells (k - 1) ≤ column_at cells k) → (j d : ℕ) → j + d < length cells → column_at cells j ≤ column_at cells (j + d)
columns_rise cells h j zero m = let e : j + 0 ≡ j = omega arith in rw e (omega arith)
columns_rise cells h j (suc d) m =
    let ih = columns_rise cells h j d (omega arith) in
    let step : column_at cells (j + d) ≤ column_at cells (j + suc d) = subst (λ i. column_at cells i ≤ column_at cells (j + suc d)) (omega arith) (h (j + suc d) m (omega arith)) in
    omega arith

not_both : (a b : Bool) → (a ≡ true → b ≡ true → ⊥) → not (a && b) ≡ true
not_both true true h = absurd (h refl refl)
not_both true false h = refl
not_both false b h = refl

is_lower : (a b : ℕ) → nat_lt a b ≡ true → a < b
is_lower a b e = grind (arith, nat_tests)

follows : (p q : Point) → p.cell.x ≤ q.cell.x → (Opposed p.letter p.cell.y q.letter q.cell.y → ⊥) → may_follow p q ≡ true
follows p q c r =
    and_from (nat_le p.cell.x q.cell.x) _ (grind (arith, nat_tests))
    (and_from _ _ (not_both _ _ (λ e f. r (inl (is_lower p.letter q.letter e, is_lower q.cell.y p.cell.y f)))) (not_both _ _ (λ e f. r (inr (is_lower q.letter p.letter e, is_lower p.cell.y q.cell.y f)))))

pub accepted_fits : (letters : List ℕ) (cells : List Cell) → length letters ≤ 9 → IsAccepted letters cells → FitTogether letters cells
accepted_fits letters cells short h = record {
  as_many = h.as_many;
  gridded = record {
    short = rw (length-points letters cells h.as_many) short;
    below = All-from_recursion (λ (p : Point). p.letter < length (points letters cells)) (points letters cells) (below (length (points letters cells)) letters cells (λ k m. rw (length-points letters cells h.as_many) (h.permutation k m).below));
    distinct = rw (letters_of-points letters cells h.as_many) (distinct letters (λ j k m n. (h.permutation k n).new j m));
    consistent = consistent letters cells (λ j k m n. follows (point_at letters cells j) (point_at letters cells k) (rises j k m n) (h.rows k (omega (arith, h.as_many)) j m));
  };
}
  where
    rises : (j k : ℕ) → j < k → k < length letters → column_at cells j ≤ column_at cells k
    rises j k m n = subst (λ i. column_at cells j ≤ column_at cells i) (omega arith) (columns_rise cells h.columns j (k - j) (omega (arith, h.as_many)))

-- ---- the other way round
point_is : (letters : List ℕ) (cells : List Cell) (k : ℕ) (d : Point) → k < length letters → length letters ≡ length cells → get_or (points letters cells) k d ≡ point_at letters cells k
point_is [] cells k d h e = absurd (omega arith)
point_is (l ∷ letters) [] k d h e = absurd (omega arith)
point_is (l ∷ letters) (c ∷ cells) zero d h e = refl
point_is (l ∷ letters) (c ∷ cells) (suc k) d h e = point_is letters cells k d (omega arith) (omega arith)

elsewhere : (x : ℕ) (letters : List ℕ) (k : ℕ) → list_any (λ y. x == y) letters ≡ false → k < length letters → x ≢ get_or letters k 0
elsewhere x [] k h m e = omega arith
elsewhere x (l ∷ letters) zero h m e = let out = or_parts (x == l) (list_any (λ y. x == y) letters) h in let same : (x == l) ≡ true = (Decides-eqb x l).1 e in absurd cc
elsewhere x (l ∷ letters) (suc k) h m e = elsewhere x letters k (or_parts (x == l) (list_any (λ y. x == y) letters) h).1 (omega arith) e

apart : (letters : List ℕ) (j k : ℕ) → has_no_repeats letters ≡ true → j < k → k < length letters → get_or letters j 0 ≢ get_or letters k 0
apart [] j k h l m e = absurd (omega arith)
apart (x ∷ letters) j zero h l m e = absurd (omega arith)
apart (x ∷ letters) zero (suc k) h l m e = elsewhere x letters k (not-true _ (and_parts (not (list_any (λ y. x == y) letters)) (has_no_repeats letters) h).0) (omega arith) e
apart (x ∷ letters) (suc j) (suc k) h l m e = apart letters j k (and_parts (not (list_any (λ y. x == y) letters)) (has_no_repeats letters) h).1 (omega arith) (omega arith) e

follow_at : (p : Point) (letters : List ℕ) (cells : List Cell) (k : ℕ) → list_all (λ q. may_follow p q) (points letters cells) ≡ true → k < length letters → length letters ≡ length cells → may_follow p (point_at letters cells k) ≡ true
follow_at p [] cells k h m e = absurd (omega arith)
follow_at p (l ∷ letters) [] k h m e = absurd (omega arith)
follow_at p (l ∷ letters) (c ∷ cells) zero h m e = (and_parts (may_follow p (record { letter = l; cell = c })) (list_all (λ q. may_follow p q) (points letters cells)) h).0
follow_at p (l ∷ letters) (c ∷ cells) (suc k) h m e =
    follow_at p letters cells k (and_parts (may_follow p (record { letter = l; cell = c })) (list_all (λ q. may_follow p q) (points letters cells)) h).1 (omega arith) (omega arith)

pair_at : (letters : List ℕ) (cells : List Cell) (j k : ℕ) → is_consistent (points letters cells) ≡ true → j < k → k < length letters → length letters ≡ length cells → may_follow (point_at letters cells j) (point_at letters cells k) ≡ true
pair_at [] cells j k h l m e = absurd (omega arith)
pair_at (x ∷ letters) [] j k h l m e = absurd (omega arith)
pair_at (x ∷ letters) (c ∷ cells) j zero h l m e = absurd (omega arith)
pair_at (x ∷ letters) (c ∷ cells) zero (suc k) h l m e =
    follow_at (record { letter = x; cell = c }) letters cells k (and_parts (list_all (λ q. may_follow (record { letter = x; cell = c }) q) (points letters cells)) (is_consistent (points letters cells)) h).0 (omega arith) (omega arith)
pair_at (x ∷ letters) (c ∷ cells) (suc j) (suc k) h l m e =
    pair_at letters cells j k (and_parts (list_all (λ q. may_follow (record { letter = x; cell = c }) q) (points letters cells)) (is_consistent (points letters cells)) h).1 (omega arith) (omega arith) (omega arith)

not_opposed : (p q : Point) → may_follow p q ≡ true → (p.cell.x ≤ q.cell.x) × (Opposed p.letter p.cell.y q.letter q.cell.y → ⊥)
not_opposed p q e =
    let k = and_parts (nat_le p.cell.x q.cell.x) (not (nat_lt p.letter q.letter && nat_lt q.cell.y p.cell.y) && not (nat_lt q.letter p.letter && nat_lt p.cell.y q.cell.y)) e in
    let l = and_parts (not (nat_lt p.letter q.letter && nat_lt q.cell.y p.cell.y)) (not (nat_lt q.letter p.letter && nat_lt p.cell.y q.cell.y)) k.1 in
    (grind (arith, nat_tests, k.0), (λ o. ⊎_elim (λ a. clash p.letter q.letter q.cell.y p.cell.y (not-true _ l.0) a) (λ b. clash q.letter p.letter p.cell.y q.cell.y (not-true _ l.1) b) o))
  where
    clash : (a b c d : ℕ) → (nat_lt a b && nat_lt c d) ≡ false → (a < b) × (c < d) → ⊥
    clash a b c d f g = let both : (nat_lt a b && nat_lt c d) ≡ true = and_from _ _ (is_lower_test a b g.0) (is_lower_test c d g.1) in absurd cc
      where
        is_lower_test : (m n : ℕ) → m < n → nat_lt m n ≡ true
        is_lower_test m n h = grind (arith, nat_tests)

pub fits_is_accepted : (letters : List ℕ) (cells : List Cell) → FitTogether letters cells → IsAccepted letters cells
fits_is_accepted letters cells h = record {
  as_many = h.as_many;
  permutation = λ k m. record { below = small k m; new = λ j l. apart letters j k distinct_letters l m };
  columns = λ k m s. (not_opposed (point_at letters cells (k - 1)) (point_at letters cells k) (pair_at letters cells (k - 1) k h.gridded.consistent (omega arith) (omega (arith, h.as_many)) h.as_many)).0;
  rows = λ k m j l. (not_opposed (point_at letters cells j) (point_at letters cells k) (pair_at letters cells j k h.gridded.consistent l (omega (arith, h.as_many)) h.as_many)).1;
}
  where
    distinct_letters : has_no_repeats letters ≡ true
    distinct_letters = subst (λ ls. has_no_repeats ls ≡ true) (letters_of-points letters cells h.as_many) h.gridded.distinct

    small : (k : ℕ) → k < length letters → get_or letters k 0 < length letters
    small k m =
        let size = length-points letters cells h.as_many in
        let at = point_is letters cells k (record { letter = 0; cell = corner }) m h.as_many in
        let low : (point_at letters cells k).letter < length (points letters cells) = subst (λ (p : Point). p.letter < length (points letters cells)) at (h.gridded.below k (record { letter = 0; cell = corner }) (omega (arith, size))) in
        omega (arith, size, low)

-- of a gridded permutation only memory can be wanting
pub gridded_not_refused : (letters : List ℕ) (cells : List Cell) (fault : GriddedFault) → FitTogether letters cells → IsRefused letters cells fault → fault ≡ Memory
gridded_not_refused letters cells Lengths h r = absurd (r h.as_many)
gridded_not_refused letters cells (NotPerm index) h r = absurd (r.first.bad ((fits_is_accepted letters cells h).permutation index r.first.within))
gridded_not_refused letters cells (Columns index) h r = absurd (r.first.bad ((fits_is_accepted letters cells h).columns index r.first.within))
gridded_not_refused letters cells (Rows index) h r = absurd (r.first.bad ((fits_is_accepted letters cells h).rows index r.first.within))
gridded_not_refused letters cells Memory h r = refl
