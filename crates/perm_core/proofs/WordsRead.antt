-- The word that is read at a place of a text.
use Rattle.std.proofs.Common.{◌≡◌, ℕ, ◌+◌, ◌-◌, ◌<◌, ◌≤◌, Bool, true, false, cond, List, [], ◌∷◌, ◌++◌, length, get_or, take, drop, refl, sym, ap, ◌∙◌, length-drop, arith}
use Rattle.std.specs.Prelude.{◌&&◌, not}
use Rattle.std.specs.List.{slice_range}
use Rattle.std.proofs.lemmas.List.{take_more, get_or-drop}
use Rattle.std.proofs.Math.Bool.{and-false}
use Rattle.perm_core.specs.Basis.{is_separator, last_word, word_before, is_wrong_at}

last_word-push : (w bs : List ℕ) (b : ℕ) → last_word w (bs ++ b ∷ []) ≡ cond (is_separator b) [] (last_word w bs ++ b ∷ [])
last_word-push w [] b = refl
last_word-push w (c ∷ bs) b = go (is_separator c) (last_word-push [] bs b) (last_word-push (w ++ c ∷ []) bs b)
  where
    go : (s : Bool)
        → last_word [] (bs ++ b ∷ []) ≡ cond (is_separator b) [] (last_word [] bs ++ b ∷ [])
        → last_word (w ++ c ∷ []) (bs ++ b ∷ []) ≡ cond (is_separator b) [] (last_word (w ++ c ∷ []) bs ++ b ∷ [])
        → cond s (last_word [] (bs ++ b ∷ [])) (last_word (w ++ c ∷ []) (bs ++ b ∷ [])) ≡ cond (is_separator b) [] (cond s (last_word [] bs) (last_word (w ++ c ∷ []) bs) ++ b ∷ [])
    go true e f = e
    go false e f = f

word_before-more : (text : List ℕ) (k : ℕ) → k < length text → word_before text (k + 1) ≡ cond (is_separator (get_or text k 0)) [] (word_before text k ++ get_or text k 0 ∷ [])
word_before-more text k h = ap (λ l. last_word [] l) (take_more text k 0 h) ∙ last_word-push [] (take k text) (get_or text k 0)

slice_range-more : (xs : List ℕ) (a k : ℕ) → a ≤ k → k < length xs → slice_range xs a (k + 1) ≡ slice_range xs a k ++ get_or xs k 0 ∷ []
slice_range-more xs a k h l =
    let more : k + 1 - a ≡ k - a + 1 = omega arith in
    let back : a + (k - a) ≡ k = omega arith in
    let room : k - a < length (drop a xs) = simp length-drop (omega arith) in
    let item : get_or (drop a xs) (k - a) 0 ≡ get_or xs k 0 = get_or-drop a xs (k - a) 0 ∙ ap (λ j. get_or xs j 0) back in
    rw more (take_more (drop a xs) (k - a) 0 room ∙ ap (λ x. take (k - a) (drop a xs) ++ x ∷ []) item)

pub read_more : (text : List ℕ) (start place : ℕ) → start ≤ place → place < length text → slice_range text start place ≡ word_before text place → is_separator (get_or text place 0) ≡ false → slice_range text start (place + 1) ≡ word_before text (place + 1)
read_more text start place h l e f =
    slice_range-more text start place h l ∙ ap (λ w. w ++ get_or text place 0 ∷ []) e ∙ sym (word_before-more text place l ∙ rw f)

pub read_anew : (text : List ℕ) (place : ℕ) → place < length text → is_separator (get_or text place 0) ≡ true → slice_range text (place + 1) (place + 1) ≡ word_before text (place + 1)
read_anew text place l f =
    let none : place + 1 - (place + 1) ≡ 0 = omega arith in
    rw none (sym (word_before-more text place l ∙ rw f))

pub separator_is_right : (wrong : List ℕ → ℕ → Bool) (text : List ℕ) (k : ℕ) → is_separator (get_or text k 0) ≡ true → is_wrong_at wrong text k ≡ false
separator_is_right wrong text k e = rw e

pub is_right : (wrong : List ℕ → ℕ → Bool) (text w : List ℕ) (k : ℕ) → w ≡ word_before text k → wrong w (get_or text k 0) ≡ false → is_wrong_at wrong text k ≡ false
is_right wrong text w k e f = rw (← e, f) (and-false (not (is_separator (get_or text k 0))))

pub is_wrong : (wrong : List ℕ → ℕ → Bool) (text w : List ℕ) (k : ℕ) → w ≡ word_before text k → is_separator (get_or text k 0) ≡ false → wrong w (get_or text k 0) ≡ true → is_wrong_at wrong text k ≡ false → ⊥
is_wrong wrong text w k e f g h = let now : (not (is_separator (get_or text k 0)) && wrong (word_before text k) (get_or text k 0)) ≡ true = rw (← e, f, g) in let clash : true ≡ false = sym now ∙ h in cc
