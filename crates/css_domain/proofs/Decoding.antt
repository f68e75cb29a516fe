-- Words are those of one list of records alone.
use Rattle.std.proofs.Common.{◌≡◌, ℕ, ◌+◌, ◌*◌, ◌^◌, ◌<◌, Bool, true, false, cond, List, [], ◌∷◌, ◌++◌, length, refl, sym, ap, ◌∙◌, arith, append_assoc}
use Rattle.std.specs.Prelude.{map}
use Rattle.css_domain.specs.declared.shape.Shape.{Shape}
use Rattle.css_domain.specs.declared.shape.Shape.TheVariants.{Union, Product, Atom, Nothing}
use Rattle.css_domain.specs.declared.record.Record.{Record}
use Rattle.css_domain.specs.Records.{shape_code, record_words, words_of}
use Rattle.css_domain.specs.WholeRecords.{IsNarrowShape}
use Rattle.lists.specs.Members.{IsIn}
use Rattle.lists.specs.Members.IsIn.{here, later}

-- no two shapes have one code
pub same_shape : (s t : Shape) → shape_code s ≡ shape_code t → s ≡ t
same_shape Union Union e = refl
same_shape Product Product e = refl
same_shape Nothing Nothing e = refl
same_shape (Atom k) (Atom m) e = let n : k ≡ m = omega arith in ap Atom n
same_shape s t e = absurd (omega (arith, e))

pub code_below : (s : Shape) → IsNarrowShape s → shape_code s < 2 ^ 32
code_below Union n = omega arith
code_below Product n = omega arith
code_below Nothing n = omega arith
code_below (Atom k) n = omega arith

-- the number and the code of a head are told by it
pub same_head : (p q c d : ℕ) → c < 2 ^ 32 → d < 2 ^ 32 → p * 2 ^ 32 + c ≡ q * 2 ^ 32 + d → (p ≡ q) × (c ≡ d)
same_head p q c d small_c small_d e = (omega arith, omega arith)

-- the number and the flag of a child are told by its word
pub same_child : (p q : ℕ) (b c : Bool) → 2 * p + cond b 1 0 ≡ 2 * q + cond c 1 0 → (p ≡ q) × (b ≡ c)
same_child p q true true e = (omega arith, refl)
same_child p q false false e = (omega arith, refl)
same_child p q true false e = absurd (omega arith)
same_child p q false true e = absurd (omega arith)

abbrev word : ℕ × Bool → ℕ
word child = 2 * child.0 + cond child.1 1 0

same_children : (cs ds : List (ℕ × Bool)) (xs ys : List ℕ) → length cs ≡ length ds → map word cs ++ xs ≡ map word ds ++ ys → (cs ≡ ds) × (xs ≡ ys)
same_children [] [] xs ys n e = (refl, e)
same_children [] (d ∷ ds) xs ys n e = absurd (omega arith)
same_children (c ∷ cs) [] xs ys n e = absurd (omega arith)
same_children (c ∷ cs) (d ∷ ds) xs ys n e =
    let first : word c ≡ word d = cc in
    let rest : map word cs ++ xs ≡ map word ds ++ ys = cc in
    let same = same_child c.0 d.0 c.1 d.1 first in
    let tails = same_children cs ds xs ys (omega arith) rest in
    ((λ i. (same.0 i, same.1 i) ∷ tails.0 i), tails.1)

-- the first record is told by the words
pub same_first : (r s : Record) (xs ys : List ℕ) → IsNarrowShape r.shape → IsNarrowShape s.shape → record_words r ++ xs ≡ record_words s ++ ys → (r ≡ s) × (xs ≡ ys)
same_first r s xs ys nr ns e =
    let head : r.parent * 2 ^ 32 + shape_code r.shape ≡ s.parent * 2 ^ 32 + shape_code s.shape = cc in
    let many : length r.children ≡ length s.children = cc in
    let rest : map word r.children ++ xs ≡ map word s.children ++ ys = cc in
    let told = same_head r.parent s.parent (shape_code r.shape) (shape_code s.shape) (code_below r.shape nr) (code_below s.shape ns) head in
    let shape = same_shape r.shape s.shape told.1 in
    let children = same_children r.children s.children xs ys many rest in
    ((λ i. record { parent = told.0 i; shape = shape i; children = children.0 i }), children.1)

-- records whose words begin those of others are the first of these, and the rest of the words are those of the others
pub first_ones : (rs ss : List Record) (rest : List ℕ) → ((r : Record) → IsIn r rs → IsNarrowShape r.shape) → ((s : Record) → IsIn s ss → IsNarrowShape s.shape) → words_of rs ++ rest ≡ words_of ss
    → (more : List Record) × (rs ++ more ≡ ss) × (words_of more ≡ rest)
first_ones [] ss rest nr ns e = (ss, refl, sym e)
first_ones (r ∷ rs) [] rest nr ns e = absurd cc
first_ones (r ∷ rs) (s ∷ ss) rest nr ns e =
    let one = same_first r s (words_of rs ++ rest) (words_of ss) (nr r here) (ns s here) (sym (append_assoc (record_words r) (words_of rs) rest) ∙ e) in
    let others = first_ones rs ss rest (λ t i. nr t (later r i)) (λ t i. ns t (later s i)) one.1 in
    (others.0, (λ i. one.0 i ∷ others.1 i), others.2)
