-- What no wrong byte says of the words of a text, and the other way round.
use Rattle.std.proofs.Common.{◌≡◌, ℕ, zero, suc, ◌<◌, Bool, true, false, cond, List, [], ◌∷◌, ◌++◌, length, get_or, take, refl, sym, ap, ◌∙◌, subst, append_assoc, arith}
use Rattle.std.specs.Prelude.{◌&&◌, not}
use Rattle.std.specs.List.{onto_first, AllByRecursion}
use Rattle.std.proofs.lemmas.List.{append-nil}
use Rattle.std.proofs.lemmas.List.Splits.{length-slice_split}
use Rattle.perm_core.specs.Basis.{is_separator, words_of, last_word, NoneIsWrong}

-- the words of the rest of a text, where the bytes w of its first word were read
abbrev pub words_after : List ℕ → List ℕ → List (List ℕ)
words_after w [] = w ∷ []
words_after w (b ∷ bs) = cond (is_separator b) (w ∷ words_after [] bs) (words_after (w ++ b ∷ []) bs)

abbrev longer_first : List ℕ → List (List ℕ) → List (List ℕ)
longer_first w [] = w ∷ []
longer_first w (v ∷ vs) = (w ++ v) ∷ vs

no_longer : (text : List ℕ) → longer_first [] (words_of text) ≡ words_of text
no_longer [] = refl
no_longer (b ∷ bs) = go (is_separator b) (words_of bs)
  where
    go : (s : Bool) (vs : List (List ℕ)) → longer_first [] (cond s ([] ∷ vs) (onto_first b vs)) ≡ cond s ([] ∷ vs) (onto_first b vs)
    go true vs = refl
    go false [] = refl
    go false (v ∷ vs) = refl

words_after-is : (w text : List ℕ) → words_after w text ≡ longer_first w (words_of text)
words_after-is w [] = ap (λ v. v ∷ []) (sym (append-nil w))
words_after-is w (b ∷ bs) = go (is_separator b) (words_of bs) (words_after-is [] bs ∙ no_longer bs) (words_after-is (w ++ b ∷ []) bs)
  where
    joined : (vs : List (List ℕ)) → longer_first (w ++ b ∷ []) vs ≡ longer_first w (onto_first b vs)
    joined [] = refl
    joined (v ∷ vs) = ap (λ l. l ∷ vs) (append_assoc w (b ∷ []) v)

    go : (s : Bool) (vs : List (List ℕ)) → words_after [] bs ≡ vs → words_after (w ++ b ∷ []) bs ≡ longer_first (w ++ b ∷ []) vs
        → cond s (w ∷ words_after [] bs) (words_after (w ++ b ∷ []) bs) ≡ longer_first w (cond s ([] ∷ vs) (onto_first b vs))
    go true vs e f = rw e (ap (λ l. l ∷ vs) (sym (append-nil w)))
    go false vs e f = f ∙ joined vs

pub words_from_start : (text : List ℕ) → words_after [] text ≡ words_of text
words_from_start text = words_after-is [] text ∙ no_longer text

pub has_a_word : (text : List ℕ) → 0 < length (words_of text)
has_a_word text = let count = length-slice_split is_separator text in omega arith

-- whether the byte at a place is wrong, where the bytes w of the first word were read
abbrev is_wrong_after : (List ℕ → ℕ → Bool) → List ℕ → List ℕ → ℕ → Bool
is_wrong_after wrong w text k = not (is_separator (get_or text k 0)) && wrong (last_word w (take k text)) (get_or text k 0)

-- a word of which no byte is wrong has P, and only such a word
module _ (wrong : List ℕ → ℕ → Bool) (P : List ℕ → Type 0) (nothing : P []) (push : (w : List ℕ) (b : ℕ) → P w → wrong w b ≡ false → P (w ++ b ∷ [])) (pull : (w : List ℕ) (b : ℕ) → P (w ++ b ∷ []) → P w × (wrong w b ≡ false)) where
  pass_after : (text w : List ℕ) → P w → ((k : ℕ) → k < length text → is_wrong_after wrong w text k ≡ false) → AllByRecursion P (words_after w text)
  pass_after [] w p h = (p, tt)
  pass_after (b ∷ bs) w p h =
      go (is_separator b) (λ e. push w b p e) (pass_after bs [] nothing) (pass_after bs (w ++ b ∷ [])) (h zero (omega arith)) (λ k l. h (suc k) (omega arith))
    where
      go : (s : Bool) → (wrong w b ≡ false → P (w ++ b ∷ []))
          → (((k : ℕ) → k < length bs → is_wrong_after wrong [] bs k ≡ false) → AllByRecursion P (words_after [] bs))
          → (P (w ++ b ∷ []) → ((k : ℕ) → k < length bs → is_wrong_after wrong (w ++ b ∷ []) bs k ≡ false) → AllByRecursion P (words_after (w ++ b ∷ []) bs))
          → (not s && wrong w b) ≡ false
          → ((k : ℕ) → k < length bs → (not (is_separator (get_or bs k 0)) && wrong (cond s (last_word [] (take k bs)) (last_word (w ++ b ∷ []) (take k bs))) (get_or bs k 0)) ≡ false)
          → AllByRecursion P (cond s (w ∷ words_after [] bs) (words_after (w ++ b ∷ []) bs))
      go true one anew more e f = (p, anew f)
      go false one anew more e f = more (one e) f

  first_has : (text w : List ℕ) → AllByRecursion P (words_after w text) → P w
  first_has [] w h = h.0
  first_has (b ∷ bs) w h = go (is_separator b) (first_has bs (w ++ b ∷ [])) h
    where
      go : (s : Bool) → (AllByRecursion P (words_after (w ++ b ∷ []) bs) → P (w ++ b ∷ [])) → AllByRecursion P (cond s (w ∷ words_after [] bs) (words_after (w ++ b ∷ []) bs)) → P w
      go true ih k = k.0
      go false ih k = (pull w b (ih k)).0

  right_after : (text w : List ℕ) → AllByRecursion P (words_after w text) → (k : ℕ) → k < length text → is_wrong_after wrong w text k ≡ false
  right_after [] w h k l = absurd (omega arith)
  right_after (b ∷ bs) w h zero l = go (is_separator b) (first_has bs (w ++ b ∷ [])) h
    where
      go : (s : Bool) → (AllByRecursion P (words_after (w ++ b ∷ []) bs) → P (w ++ b ∷ [])) → AllByRecursion P (cond s (w ∷ words_after [] bs) (words_after (w ++ b ∷ []) bs)) → (not s && wrong w b) ≡ false
      go true ih m = refl
      go false ih m = (pull w b (ih m)).1
  right_after (b ∷ bs) w h (suc k) l = go (is_separator b) (λ m. right_after bs [] m k (omega arith)) (λ m. right_after bs (w ++ b ∷ []) m k (omega arith)) h
    where
      go : (s : Bool) → (AllByRecursion P (words_after [] bs) → is_wrong_after wrong [] bs k ≡ false) → (AllByRecursion P (words_after (w ++ b ∷ []) bs) → is_wrong_after wrong (w ++ b ∷ []) bs k ≡ false)
          → AllByRecursion P (cond s (w ∷ words_after [] bs) (words_after (w ++ b ∷ []) bs))
          → (not (is_separator (get_or bs k 0)) && wrong (cond s (last_word [] (take k bs)) (last_word (w ++ b ∷ []) (take k bs))) (get_or bs k 0)) ≡ false
      go true anew more m = anew m.1
      go false anew more m = more m

  pub each_word_has : (text : List ℕ) → NoneIsWrong wrong text → AllByRecursion P (words_of text)
  each_word_has text h = subst (λ (ws : List (List ℕ)). AllByRecursion P ws) (words_from_start text) (pass_after text [] nothing h)

  pub none_is_wrong : (text : List ℕ) → AllByRecursion P (words_of text) → NoneIsWrong wrong text
  none_is_wrong text h = right_after text [] (subst (λ (ws : List (List ℕ)). AllByRecursion P ws) (sym (words_from_start text)) h)
