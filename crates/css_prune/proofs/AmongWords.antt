-- Records among words: where the next one stands, what its words tell, and what is kept with one more.
use Rattle.std.proofs.Common.{◌≡◌, ◌+◌, ◌*◌, ◌/◌, ◌%◌, ◌^◌, ◌<◌, ◌≤◌, ℕ, zero, suc, Bool, true, false, cond, List, [], ◌∷◌, ◌++◌, length, get_or, refl, sym, ap, subst, ◌∙◌, ⊎_elim, arith, append_assoc, append-nil, length-append}
use Rattle.std.specs.Prelude.{map, ◌==◌}
use Rattle.std.proofs.lemmas.Bool.{eq-eqb}
use Rattle.std.proofs.lemmas.Grind.{flat_map-append}
use Rattle.std.proofs.lemmas.List.{get_or-append-add, get_or_append_left, length-map}
use Rattle.std.proofs.lemmas.Option.{get_or_from_slice_get}
use Rattle.lists.specs.Members.{IsIn}
use Rattle.lists.proofs.Places.{at_place, IsIn-slice_get}
use Rattle.lists.specs.Members.IsIn.{here}
use Rattle.lists.proofs.Members.{IsIn-append_cases, IsIn-append_right, only_in}
use Rattle.css_domain.specs.declared.record.Record.{Record}
use Rattle.css_domain.specs.Records.{record_words, words_of}
use Rattle.css_domain.specs.WholeRecords.{IsNarrow, IsNarrowShape, IsWhole}
use Rattle.css_domain.proofs.Decoding.{first_ones}
use Rattle.css_prune.specs.AmongWords.{child_at, StandsAt, AreKept}

abbrev word : ℕ × Bool → ℕ
word child = 2 * child.0 + cond child.1 1 0

-- a child is told by its word
pub child_told : (n p : ℕ) (b : Bool) → n ≡ 2 * p + cond b 1 0 → (n / 2 ≡ p) × ((n % 2 == 1) ≡ b)
child_told n p true e = (omega arith, eq-eqb (n % 2) 1 (omega arith))
child_told n p false e = (omega arith, (let z : n % 2 ≡ 0 = omega arith in ap (λ (m : ℕ). m == 1) z))

-- number and code are told by the head
pub head_told : (n p c : ℕ) → n ≡ p * 2 ^ 32 + c → c < 2 ^ 32 → (n / 4294967296 ≡ p) × (n % 4294967296 ≡ c)
head_told n p c e small = (omega arith, omega arith)

word_at : (children : List (ℕ × Bool)) (i : ℕ) → get_or (map word children) i 0 ≡ word (child_at children i)
word_at [] i = refl
word_at (c ∷ children) zero = refl
word_at (c ∷ children) (suc i) = word_at children i

-- behind some words, those of a record
stands_behind : (xs ys : List ℕ) (r : Record) → IsNarrow r → StandsAt (xs ++ (record_words r ++ ys)) (length xs) r
stands_behind xs ys r narrow = record {
  narrow = narrow;
  head = (let e : length xs ≡ length xs + 0 = omega arith in ap (λ (n : ℕ). get_or (xs ++ (record_words r ++ ys)) n 0) e) ∙ get_or-append-add xs (record_words r ++ ys) 0 0;
  arity = get_or-append-add xs (record_words r ++ ys) 1 0;
  child = λ slot h.
      let e : length xs + 2 + slot ≡ length xs + suc (suc slot) = omega arith in
      let inside : slot < length (map word r.children) = omega (arith, h, length-map r.children word) in
      ap (λ (n : ℕ). get_or (xs ++ (record_words r ++ ys)) n 0) e
      ∙ get_or-append-add xs (record_words r ++ ys) (suc (suc slot)) 0
      ∙ get_or_append_left (map word r.children) ys 0 slot inside
      ∙ word_at r.children slot;
  within =
      let a = length-append xs (record_words r ++ ys) in
      let b = length-append (record_words r) ys in
      let m : length (record_words r) ≡ 2 + length r.children = (let k = length-map r.children word in omega (arith, k)) in
      omega (arith, a, b, m);
}

pub record NextOne (words : List ℕ) (rs ss : List Record) (at : ℕ) : Type 0 where
  pub next : Record
  pub rest : List Record
  pub there : (rs ++ next ∷ []) ++ rest ≡ ss
  pub stands : StandsAt words at next

-- where the words go on, a record stands
pub next_one : (words : List ℕ) (w : IsWhole words) (rs more : List Record) (at : ℕ) → rs ++ more ≡ w.records → at ≡ length (words_of rs) → at < length words → NextOne words rs w.records at
next_one words w rs [] at e n less =
    let all : rs ≡ w.records = sym (append-nil rs) ∙ e in
    let many : length (words_of rs) ≡ length words = ap (λ (l : List Record). length (words_of l)) all ∙ ap (λ (l : List ℕ). length l) w.told in
    absurd (omega (arith, many))
next_one words w rs (r ∷ rest) at e n less =
    let told : words_of rs ++ (record_words r ++ words_of rest) ≡ words = sym (flat_map-append record_words rs (r ∷ rest)) ∙ ap (λ (l : List Record). words_of l) e ∙ w.told in
    let listed : IsIn r w.records = subst (λ (l : List Record). IsIn r l) e (IsIn-append_right rs here) in
    record {
      next = r;
      rest = rest;
      there = append_assoc rs (r ∷ []) rest ∙ e;
      stands = subst (λ (n : ℕ). StandsAt words n r) (sym n) (subst (λ (l : List ℕ). StandsAt l (length (words_of rs)) r) told (stands_behind (words_of rs) (words_of rest) r (w.narrow r listed)));
    }

-- where they end, these are all
pub all_told : (words : List ℕ) (w : IsWhole words) (rs more : List Record) (at : ℕ) → rs ++ more ≡ w.records → at ≡ length (words_of rs) → length words ≤ at → rs ≡ w.records
all_told words w rs [] at e n past = sym (append-nil rs) ∙ e
all_told words w rs (r ∷ rest) at e n past =
    let many : length (words_of (rs ++ r ∷ rest)) ≡ length words = ap (λ (l : List Record). length (words_of l)) e ∙ ap (λ (l : List ℕ). length l) w.told in
    let parts = ap (λ (l : List ℕ). length l) (flat_map-append record_words rs (r ∷ rest)) ∙ length-append (words_of rs) (words_of (r ∷ rest)) in
    let some : length (words_of (r ∷ rest)) ≡ length (record_words r) + length (words_of rest) = length-append (record_words r) (words_of rest) in
    absurd (omega (arith, many, parts, some))

-- two records that stand at one place have as many children
pub as_many : (words : List ℕ) (at : ℕ) (r s : Record) → StandsAt words at r → StandsAt words at s → length r.children ≡ length s.children
as_many words at r s x y = sym x.arity ∙ y.arity

-- one record more
pub kept_more : (rs : List Record) (n : ℕ) (r : Record) → AreKept rs n → IsNarrowShape r.shape → length rs + 1 < 2 ^ 32 → length r.children < 2 ^ 32 → AreKept (rs ++ r ∷ []) (n + (2 + length r.children))
kept_more rs n r k narrow few short = record {
  counted =
      let e = ap (λ (l : List ℕ). length l) (flat_map-append record_words rs (r ∷ [])) ∙ length-append (words_of rs) (words_of (r ∷ [])) in
      let one : words_of (r ∷ []) ≡ record_words r = append-nil (record_words r) in
      let m : length (words_of (r ∷ [])) ≡ 2 + length r.children = ap (λ (l : List ℕ). length l) one ∙ (let j = length-map r.children word in omega (arith, j)) in
      omega (arith, k.counted, e, m);
  coded = λ s i. ⊎_elim {C = IsNarrowShape s.shape} (λ old. k.coded s old) (λ new. subst (λ (x : Record). IsNarrowShape x.shape) (sym (only_in new)) narrow) (IsIn-append_cases rs (r ∷ []) i);
  short = record {
    few = omega (arith, length-append rs (r ∷ []));
    short = λ s i. ⊎_elim {C = length s.children < 2 ^ 32} (λ old. k.short.short s old) (λ new. subst (λ (x : Record). length x.children < 2 ^ 32) (sym (only_in new)) short) (IsIn-append_cases rs (r ∷ []) i);
  };
}

-- the records that were there are the first of the whole
pub first_of : (words : List ℕ) (w : IsWhole words) (rs : List Record) (rest : List ℕ) → ((r : Record) → IsIn r rs → IsNarrowShape r.shape) → words_of rs ++ rest ≡ words → (more : List Record) × (rs ++ more ≡ w.records)
first_of words w rs rest coded e =
    let f = first_ones rs w.records rest coded (λ s i. (w.narrow s i).shape) (e ∙ sym w.told) in
    (f.0, f.1)

-- a child's number is narrow
pub child_narrow : (r : Record) → IsNarrow r → (slot : ℕ) → slot < length r.children → (child_at r.children slot).0 < 2 ^ 32
child_narrow r narrow slot h =
    let there = at_place r.children slot h in
    let same = get_or_from_slice_get {X = ℕ × Bool} r.children slot there.0 (0, false) there.1 in
    subst (λ (d : ℕ × Bool). d.0 < 2 ^ 32) (sym same) (narrow.child there.0 (IsIn-slice_get r.children slot there.0 there.1))
