-- Bytes are cut at line feeds into lines and a rest, and joined from them.
use Rattle.std.proofs.Common.{◌≡◌, ℕ, zero, suc, Bool, true, false, cond, List, [], ◌∷◌, ◌++◌, take, refl, ap, sym, ◌∙◌, true≢false, append-nil, append_assoc}
use Rattle.std.specs.Prelude.{◌&&◌, not, nat_eq, codes}
use Rattle.std.specs.List.{list_all, onto_first}
use Rattle.std.specs.Cmp.{first_so, second_so}
use Rattle.std.proofs.lemmas.Bool.{and_from}
use Rattle.spec_lines.specs.Lines.{Text, separated}
use Rattle.spec_lines.specs.Forms.{has_items}
use Rattle.spec_lines.specs.Items.{items, with_feeds, finished, rest_of, lines_of, tail_of}
use Rattle.spec_lines.proofs.Bytes.{is_free}
use Rattle.spec_lines.proofs.Items.{first_item, joined_items, some_items}

pub feeds_append : (ls more : List Text) → with_feeds (ls ++ more) ≡ with_feeds ls ++ with_feeds more
feeds_append [] more = refl
feeds_append (l ∷ ls) more = ap (λ t. (l ++ codes "\n") ++ t) (feeds_append ls more) ∙ sym (append_assoc (l ++ codes "\n") (with_feeds ls) (with_feeds more))

-- ====== all but the last, and the last ======
finished_on : (ls ts : List Text) → has_items ts ≡ true → finished (ls ++ ts) ≡ ls ++ finished ts
finished_on ls [] h = absurd (true≢false (sym h))
finished_on [] (t ∷ ts) h = refl
finished_on (u ∷ []) (t ∷ ts) h = refl
finished_on (u ∷ v ∷ ls) (t ∷ ts) h = ap (λ us. u ∷ us) (finished_on (v ∷ ls) (t ∷ ts) h)

rest_on : (ls ts : List Text) → has_items ts ≡ true → rest_of (ls ++ ts) ≡ rest_of ts
rest_on ls [] h = absurd (true≢false (sym h))
rest_on [] (t ∷ ts) h = refl
rest_on (u ∷ []) (t ∷ ts) h = refl
rest_on (u ∷ v ∷ ls) (t ∷ ts) h = rest_on (v ∷ ls) (t ∷ ts) h

cut_lines : (parts : List Text) → has_items parts ≡ true → with_feeds (finished parts) ++ rest_of parts ≡ separated 10 parts
cut_lines [] h = absurd (true≢false (sym h))
cut_lines (t ∷ []) h = sym (append-nil t)
cut_lines (t ∷ u ∷ ts) h =
    append_assoc (t ++ codes "\n") (with_feeds (finished (u ∷ ts))) (rest_of (u ∷ ts))
    ∙ ap (λ more. (t ++ codes "\n") ++ more) (cut_lines (u ∷ ts) refl)
    ∙ append_assoc t (codes "\n") (separated 10 (u ∷ ts))

-- the finished lines and the rest are the bytes
pub bytes_of : (bytes : Text) → with_feeds (lines_of bytes) ++ tail_of bytes ≡ bytes
bytes_of bytes = cut_lines (items 10 bytes) (some_items 10 bytes) ∙ joined_items 10 bytes

-- ====== lines without a line feed ======
free_on : (b byte : ℕ) (parts : List Text) (c : Bool) → nat_eq b byte ≡ c → list_all (is_free byte) parts ≡ true → list_all (is_free byte) (cond c ([] ∷ parts) (onto_first b parts)) ≡ true
free_on b byte parts true e h = h
free_on b byte [] false e h = ap (λ c. not c && true && true) e
free_on b byte (t ∷ ts) false e h = ap (λ c. not c && is_free byte t && list_all (is_free byte) ts) e ∙ h

items_free : (byte : ℕ) (t : Text) → list_all (is_free byte) (items byte t) ≡ true
items_free byte [] = refl
items_free byte (b ∷ t) = free_on b byte (items byte t) (nat_eq b byte) refl (items_free byte t)

all_finished : (test : Text → Bool) (ts : List Text) → list_all test ts ≡ true → list_all test (finished ts) ≡ true
all_finished test [] h = refl
all_finished test (t ∷ []) h = refl
all_finished test (t ∷ u ∷ ts) h = and_from (test t) (list_all test (finished (u ∷ ts))) (first_so (test t) (list_all test (u ∷ ts)) h) (all_finished test (u ∷ ts) (second_so (test t) (list_all test (u ∷ ts)) h))

pub all_taken : (test : Text → Bool) (n : ℕ) (ts : List Text) → list_all test ts ≡ true → list_all test (take n ts) ≡ true
all_taken test zero ts h = refl
all_taken test (suc n) [] h = refl
all_taken test (suc n) (t ∷ ts) h = and_from (test t) (list_all test (take n ts)) (first_so (test t) (list_all test ts) h) (all_taken test n ts (second_so (test t) (list_all test ts) h))

pub lines_free : (bytes : Text) → list_all (is_free 10) (lines_of bytes) ≡ true
lines_free bytes = all_finished (is_free 10) (items 10 bytes) (items_free 10 bytes)

cut_feeds : (ls : List Text) (more : Text) → list_all (is_free 10) ls ≡ true → items 10 (with_feeds ls ++ more) ≡ ls ++ items 10 more
cut_feeds [] more h = refl
cut_feeds (l ∷ ls) more h =
    ap (items 10) (append_assoc (l ++ codes "\n") (with_feeds ls) more ∙ append_assoc l (codes "\n") (with_feeds ls ++ more))
    ∙ first_item 10 l (with_feeds ls ++ more) (first_so (is_free 10 l) (list_all (is_free 10) ls) h)
    ∙ ap (λ ts. l ∷ ts) (cut_feeds ls more (second_so (is_free 10 l) (list_all (is_free 10) ls) h))

-- bytes that begin with lines
pub lines_first : (ls : List Text) (more : Text) → list_all (is_free 10) ls ≡ true → lines_of (with_feeds ls ++ more) ≡ ls ++ lines_of more
lines_first ls more h = ap finished (cut_feeds ls more h) ∙ finished_on ls (items 10 more) (some_items 10 more)

pub tail_after : (ls : List Text) (more : Text) → list_all (is_free 10) ls ≡ true → tail_of (with_feeds ls ++ more) ≡ tail_of more
tail_after ls more h = ap rest_of (cut_feeds ls more h) ∙ rest_on ls (items 10 more) (some_items 10 more)
