-- Counts of the words that begin with some letters.
use Rattle.std.proofs.Common.{◌≡◌, ℕ, zero, suc, ◌+◌, ◌-◌, ◌*◌, ◌^◌, ◌<◌, ◌≤◌, Bool, true, false, cond, List, [], ◌∷◌, ◌++◌, length, refl, sym, ap, ◌∙◌, arith, length-append, append_assoc, zero-add, add-zero, rules, Fits, w64, ⊎_elim}
use Rattle.std.specs.Prelude.{◌==◌, not, map, count_by, sum_by}
use Rattle.std.specs.List.{range_with_len, flat_map, list_any}
use Rattle.std.proofs.lemmas.List.{map-append, map-id, append-nil, length-map}
use Rattle.std.proofs.lemmas.List.Sums.{sum_by-append, sum_by-cons, count_by-le-length, length-filter}
use Rattle.std.proofs.lemmas.List.FromFn.{length-range_with_len}
use Rattle.std.proofs.Math.Nat.{pow-le-pow_left, pow-le-pow_right, zero-mul, pow-zero, pow-succ'}
use Rattle.std.proofs.lemmas.Bool.{or_cases}
use Rattle.std.proofs.Math.Bool.{or-true, and-false}
use Rattle.patterns.specs.Words.{has_no_repeats}
use Rattle.patterns.specs.Occurs.{avoids, avoiders}
use Rattle.perm_core.proofs.Repeats.{has_no_repeats-push}
use Rattle.perm_core.specs.Tally.{tally_of, passes}
use Rattle.lists.proofs.Filters.{filter-filter}
use Rattle.lists.proofs.Counts.{sum_next}
use Rattle.lists.specs.Words.{words}

map_joined : (start : List ℕ) (x : ℕ) (ws : List (List ℕ)) → map (λ w. start ++ w) (map (λ w. x ∷ w) ws) ≡ map (λ w. (start ++ x ∷ []) ++ w) ws
map_joined start x [] = refl
map_joined start x (w ∷ ws) = rw (append_assoc start (x ∷ []) w, map_joined start x ws)

count_first : (test : List ℕ → Bool) (start : List ℕ) (ws : List (List ℕ)) (alphabet : List ℕ) → count_by test (map (λ w. start ++ w) (flat_map (λ x. map (λ w. x ∷ w) ws) alphabet)) ≡ sum_by (λ x. count_by test (map (λ w. (start ++ x ∷ []) ++ w) ws)) alphabet
count_first test start ws [] = refl
count_first test start ws (x ∷ alphabet) =
    ap (λ l. count_by test l) (map-append (λ w. start ++ w) (map (λ w. x ∷ w) ws) (flat_map (λ y. map (λ w. y ∷ w) ws) alphabet))
    ∙ sum_by-append (λ w. cond (test w) 1 0) (map (λ w. start ++ w) (map (λ w. x ∷ w) ws)) (map (λ w. start ++ w) (flat_map (λ y. map (λ w. y ∷ w) ws) alphabet))
    ∙ ap (λ l. count_by test l + count_by test (map (λ w. start ++ w) (flat_map (λ y. map (λ w. y ∷ w) ws) alphabet))) (map_joined start x ws)
    ∙ ap (λ n. count_by test (map (λ w. (start ++ x ∷ []) ++ w) ws) + n) (count_first test start ws alphabet)
    ∙ sym (sum_by-cons (λ y. count_by test (map (λ w. (start ++ y ∷ []) ++ w) ws)) x alphabet)

pub tally_more : (basis : List (List ℕ)) (n left : ℕ) (start : List ℕ) → 0 < left → tally_of basis n start left ≡ sum_by (λ x. tally_of basis n (start ++ x ∷ []) (left - 1)) (range_with_len 0 n)
tally_more basis n zero start h = absurd (omega arith)
tally_more basis n (suc k) start h =
    let e : suc k - 1 ≡ k = omega arith in
    rw e (count_first (λ w. passes basis w) start (words (range_with_len 0 n) k) (range_with_len 0 n))

pub tally_end : (basis : List (List ℕ)) (n left : ℕ) (start : List ℕ) → left ≡ 0 → has_no_repeats start ≡ true → tally_of basis n start left ≡ cond (avoids basis start) 1 0
tally_end basis n left start e f = rw (e, append-nil start, f) (zero-add (cond (avoids basis start) 1 0))

-- ---- repeats
met_again : (z x : ℕ) (start w : List ℕ) → (z == x) ≡ true → list_any (λ y. z == y) ((start ++ x ∷ []) ++ w) ≡ true
met_again z x [] w e = rw e
met_again z x (y ∷ start) w e = rw (met_again z x start w e) (or-true (z == y))

repeated : (start : List ℕ) (x : ℕ) (w : List ℕ) → list_any (λ y. y == x) start ≡ true → has_no_repeats ((start ++ x ∷ []) ++ w) ≡ false
repeated [] x w e = absurd cc
repeated (z ∷ start) x w e =
    ⊎_elim {C = has_no_repeats (((z ∷ start) ++ x ∷ []) ++ w) ≡ false} (λ h. rw (met_again z x start w h)) (λ h. rw (repeated start x w h) (and-false (not (list_any (λ y. z == y) ((start ++ x ∷ []) ++ w)))))
    (or_cases (z == x) (list_any (λ y. y == x) start) e)

pub fresh-push : (start : List ℕ) (x : ℕ) → has_no_repeats start ≡ true → list_any (λ y. y == x) start ≡ false → has_no_repeats (start ++ x ∷ []) ≡ true
fresh-push start x e f = has_no_repeats-push start x ∙ rw (e, f)

-- words that repeat a letter are not counted
none_counted : (test : List ℕ → Bool) (f : List ℕ → List ℕ) → ((w : List ℕ) → test (f w) ≡ false) → (ws : List (List ℕ)) → count_by test (map f ws) ≡ 0
none_counted test f h [] = refl
none_counted test f h (w ∷ ws) = sum_by-cons (λ v. cond (test v) 1 0) (f w) (map f ws) ∙ rw (h w, none_counted test f h ws)

pub tally_used : (basis : List (List ℕ)) (n left : ℕ) (start : List ℕ) (x : ℕ) → list_any (λ y. y == x) start ≡ true → tally_of basis n (start ++ x ∷ []) left ≡ 0
tally_used basis n left start x e =
    none_counted (λ w. passes basis w) (λ w. (start ++ x ∷ []) ++ w) (λ w. rw (repeated start x w e)) (words (range_with_len 0 n) left)

-- ---- bounds
length-first : (alphabet : List ℕ) (ws : List (List ℕ)) → length (flat_map (λ x. map (λ w. x ∷ w) ws) alphabet) ≡ length alphabet * length ws
length-first [] ws = sym (zero-mul (length ws))
length-first (x ∷ alphabet) ws =
    length-append (map (λ w. x ∷ w) ws) (flat_map (λ y. map (λ w. y ∷ w) ws) alphabet)
    ∙ ap (λ n. n + length (flat_map (λ y. map (λ w. y ∷ w) ws) alphabet)) (length-map ws (λ w. x ∷ w))
    ∙ ap (λ n. length ws + n) (length-first alphabet ws)
    ∙ omega arith

length-words : (alphabet : List ℕ) (k : ℕ) → length (words alphabet k) ≡ length alphabet ^ k
length-words alphabet zero = sym (pow-zero (length alphabet))
length-words alphabet (suc k) = length-first alphabet (words alphabet k) ∙ rw (length-words alphabet k, pow-succ' (length alphabet) k)

pub tally_small : (basis : List (List ℕ)) (n left : ℕ) (start : List ℕ) → n ≤ 9 → left ≤ 9 → tally_of basis n start left ≤ 387420489
tally_small basis n left start h k =
    let a : tally_of basis n start left ≤ length (map (λ w. start ++ w) (words (range_with_len 0 n) left)) = count_by-le-length (λ w. passes basis w) (map (λ w. start ++ w) (words (range_with_len 0 n) left)) in
    let b = length-map (words (range_with_len 0 n) left) (λ w. start ++ w) in
    let c = length-words (range_with_len 0 n) left in
    let d = length-range_with_len 0 n in
    let e : n ^ left ≤ 9 ^ left = pow-le-pow_left h left in
    let f : 9 ^ left ≤ 9 ^ 9 = pow-le-pow_right (omega arith) k in
    let g : length (words (range_with_len 0 n) left) ≡ n ^ left = c ∙ ap (λ m. m ^ left) d in
    omega arith

sum_grows : (F : ℕ → ℕ) (i d : ℕ) → sum_by F (range_with_len 0 i) ≤ sum_by F (range_with_len 0 (i + d))
sum_grows F i zero = rw add-zero (omega arith)
sum_grows F i (suc d) =
    let e : i + suc d ≡ i + d + 1 = omega arith in
    let ih = sum_grows F i d in
    rw (e, sum_next F (i + d)) (omega arith)

pub sum_below : (F : ℕ → ℕ) (i n : ℕ) → i < n → sum_by F (range_with_len 0 i) + F i ≤ sum_by F (range_with_len 0 n)
sum_below F i n h =
    let e : i + 1 + (n - (i + 1)) ≡ n = omega arith in
    let g = sum_grows F (i + 1) (n - (i + 1)) in
    let k = sum_next F i in
    rw (← k) (rw e at g)

-- two numbers below a small sum
pub sum_fits : (a b : ℕ) {s f w t : ℕ} → a ≡ s → b ≡ f → s + f ≤ w → t ≡ w → t ≤ 387420489 → Fits w64 (a + b)
sum_fits a b p q r e l = search rules

pub tally_whole : (basis : List (List ℕ)) (n : ℕ) → tally_of basis n [] (n - 0) ≡ avoiders basis n
tally_whole basis n =
    let e : n - 0 ≡ n = omega arith in
    rw (e, map-id (words (range_with_len 0 n) n), filter-filter (λ w. avoids basis w) has_no_repeats (words (range_with_len 0 n) n)) (sym (length-filter (λ w. passes basis w) (words (range_with_len 0 n) n)))
