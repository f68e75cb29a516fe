-- A text is cut into its items, and joined from them.
use Rattle.std.proofs.Common.{◌≡◌, ℕ, List, [], ◌∷◌, ◌++◌, Bool, true, false, cond, refl, ap, sym, ◌∙◌, append-nil, append_assoc, arith}
use Rattle.std.specs.Prelude.{not, nat_eq}
use Rattle.std.specs.Cmp.{first_so, second_so}
use Rattle.std.specs.List.{list_all, onto_first}
use Rattle.std.proofs.lemmas.Grind.{common_steps}
use Rattle.spec_lines.specs.Lines.{Text, separated, each_after}
use Rattle.spec_lines.specs.Forms.{has_items}
use Rattle.spec_lines.specs.Items.{items}
use Rattle.spec_lines.proofs.Taking.{equal_numbers}
use Rattle.spec_lines.proofs.Bytes.{is_free}

same_byte : (byte : ℕ) → nat_eq byte byte ≡ true
same_byte byte = grind (arith, common_steps)

not_true : (b : Bool) → not b ≡ true → b ≡ false
not_true true h = sym h
not_true false h = refl

-- up to a byte, and behind it
pub first_item : (byte : ℕ) (t rest : Text) → is_free byte t ≡ true → items byte (t ++ byte ∷ rest) ≡ t ∷ items byte rest
first_item byte [] rest free = ap (λ b. cond b ([] ∷ items byte rest) (onto_first byte (items byte rest))) (same_byte byte)
first_item byte (b ∷ t) rest free =
    ap (λ c. cond c ([] ∷ items byte (t ++ byte ∷ rest)) (onto_first b (items byte (t ++ byte ∷ rest)))) (not_true (nat_eq b byte) (first_so (not (nat_eq b byte)) (is_free byte t) free))
    ∙ ap (onto_first b) (first_item byte t rest (second_so (not (nat_eq b byte)) (is_free byte t) free))

last_item : (byte : ℕ) (t : Text) → is_free byte t ≡ true → items byte t ≡ t ∷ []
last_item byte [] free = refl
last_item byte (b ∷ t) free =
    ap (λ c. cond c ([] ∷ items byte t) (onto_first b (items byte t))) (not_true (nat_eq b byte) (first_so (not (nat_eq b byte)) (is_free byte t) free))
    ∙ ap (onto_first b) (last_item byte t (second_so (not (nat_eq b byte)) (is_free byte t) free))

-- items without the byte, joined by it, are cut into themselves
pub items_joined : (byte : ℕ) (t : Text) (ts : List Text) → is_free byte t ≡ true → list_all (is_free byte) ts ≡ true → items byte (separated byte (t ∷ ts)) ≡ t ∷ ts
items_joined byte t [] free each = ap (items byte) (append-nil t) ∙ last_item byte t free
items_joined byte t (u ∷ us) free each =
    first_item byte t (u ++ each_after byte us) free
    ∙ ap (λ vs. t ∷ vs) (items_joined byte u us (first_so (is_free byte u) (list_all (is_free byte) us) each) (second_so (is_free byte u) (list_all (is_free byte) us) each))

some_on : (b : ℕ) (parts : List Text) (c : Bool) → has_items (cond c ([] ∷ parts) (onto_first b parts)) ≡ true
some_on b parts true = refl
some_on b [] false = refl
some_on b (u ∷ us) false = refl

pub some_items : (byte : ℕ) (t : Text) → has_items (items byte t) ≡ true
some_items byte [] = refl
some_items byte (b ∷ t) = some_on b (items byte t) (nat_eq b byte)

joined_on : (b byte : ℕ) (t : Text) (parts : List Text) (c : Bool) → (c ≡ true → b ≡ byte) → has_items parts ≡ true → separated byte parts ≡ t → separated byte (cond c ([] ∷ parts) (onto_first b parts)) ≡ b ∷ t
joined_on b byte t [] c e none h = absurd cc
joined_on b byte t (u ∷ us) true e there h = ap (λ rest. byte ∷ rest) h ∙ ap (λ x. x ∷ t) (sym (e refl))
joined_on b byte t (u ∷ us) false e there h = ap (λ rest. b ∷ rest) h

-- a text that is cut, joined again, is itself
pub joined_items : (byte : ℕ) (t : Text) → separated byte (items byte t) ≡ t
joined_items byte [] = refl
joined_items byte (b ∷ t) = joined_on b byte t (items byte t) (nat_eq b byte) (equal_numbers b byte) (some_items byte t) (joined_items byte t)

-- two items
pub joined_two : (byte : ℕ) (a b : Text) → a ++ byte ∷ [] ++ b ≡ separated byte (a ∷ b ∷ [])
joined_two byte a b = append_assoc a (byte ∷ []) b ∙ ap (λ t. a ++ byte ∷ t) (sym (append-nil b))
