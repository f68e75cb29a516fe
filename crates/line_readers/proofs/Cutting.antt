-- A text is cut at the first place of a byte.
use Rattle.std.proofs.Common.{◌≡◌, ◌+◌, ◌<◌, ℕ, zero, suc, List, [], ◌∷◌, length, take, drop, get_or, Bool, true, false, cond, arith, refl, ap, ◌∙◌}
use Rattle.std.specs.Prelude.{nat_eq, Option, Some}
use Rattle.std.specs.List.{onto_first}
use Rattle.line_readers.specs.Cuts.{IsFirstAt, IsNowhere, items_left}
use Rattle.spec_lines.specs.Forms.{has_items}
use Rattle.spec_lines.specs.Items.{items}

later : (byte b : ℕ) (t : List ℕ) (n : ℕ) → IsNowhere byte (b ∷ t) (suc n) → IsNowhere byte t n
later byte b t n h k below = h (suc k) (omega (arith, below))

behind_first : (byte b : ℕ) (t : List ℕ) → nat_eq b byte ≡ false → items byte (b ∷ t) ≡ onto_first b (items byte t)
behind_first byte b t h = ap (λ c. cond c ([] ∷ items byte t) (onto_first b (items byte t))) h

at : (byte : ℕ) (t : List ℕ) (place : ℕ) → place < length t → nat_eq (get_or t place 0) byte ≡ true → IsNowhere byte t place → items byte t ≡ take place t ∷ items byte (drop (suc place) t)
at byte [] place there is before = absurd (omega (arith, there))
at byte (b ∷ t) zero there is before = ap (λ c. cond c ([] ∷ items byte t) (onto_first b (items byte t))) is
at byte (b ∷ t) (suc place) there is before = behind_first byte b t (before 0 (omega arith)) ∙ ap (onto_first b) (at byte t place (omega (arith, there)) is (later byte b t place before))

pub cut_at : (byte : ℕ) (t : List ℕ) (place : ℕ) → IsFirstAt byte t place → items byte t ≡ take place t ∷ items byte (drop (place + 1) t)
cut_at byte t place first = at byte t place first.there first.is_byte first.before ∙ ap (λ n. take place t ∷ items byte (drop n t)) (let e : suc place ≡ place + 1 = omega arith in e)

pub cut_nowhere : (byte : ℕ) (t : List ℕ) → IsNowhere byte t (length t) → items byte t ≡ t ∷ []
cut_nowhere byte [] h = refl
cut_nowhere byte (b ∷ t) h = behind_first byte b t (h 0 (omega arith)) ∙ ap (onto_first b) (cut_nowhere byte t (later byte b t (length t) h))

-- ---- a text has an item
some_on : (b : ℕ) (parts : List (List ℕ)) (c : Bool) → has_items (cond c ([] ∷ parts) (onto_first b parts)) ≡ true
some_on b parts true = refl
some_on b [] false = refl
some_on b (u ∷ us) false = refl

pub some_items : (byte : ℕ) (t : List ℕ) → has_items (items byte t) ≡ true
some_items byte [] = refl
some_items byte (b ∷ t) = some_on b (items byte t) (nat_eq b byte)

pub items_left_some : (byte : ℕ) (rest : Option (List ℕ)) (t : List ℕ) → rest ≡ Some t → has_items (items_left byte rest) ≡ true
items_left_some byte rest t e = ap (λ o. has_items (items_left byte o)) e ∙ some_items byte t
