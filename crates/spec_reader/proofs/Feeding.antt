-- Bytes that grow by a piece.
use Rattle.std.proofs.Common.{◌≡◌, ◌+◌, ◌-◌, ◌≤◌, ℕ, Bool, true, false, cond, List, [], ◌∷◌, ◌++◌, length, take, drop, refl, sym, ap, subst, ◌∙◌, arith, true≢false, append_assoc, append-nil}
use Rattle.std.specs.Prelude.{nat_eq}
use Rattle.std.specs.List.{onto_first, join_with_byte}
use Rattle.std.proofs.lemmas.List.{length-append, length-drop}
use Rattle.std.proofs.lemmas.List.Splits.{join_with_byte-slice_split}
use Rattle.std.proofs.Math.Seq.{drop-append_seam, take-append_seam}
use Rattle.spec_lines.specs.Lines.{Text}
use Rattle.spec_lines.specs.Items.{items, finished, rest_of, lines_of, tail_of}
use Rattle.spec_lines.specs.Forms.{has_items}
use Rattle.spec_reader.specs.Walks.{ReaderState, HasRead}
use Rattle.spec_reader.specs.Pieces.{IsOnItsWay, IsStuck, IsTaken, IsReadUpTo, EndsWith, HasReadBytes, is_stuck}
use Rattle.spec_reader.specs.declared.taking.Stop.{Stop}
use Rattle.spec_reader.specs.declared.taking.Stop.TheVariants.{Unfinished, Refused, Stuck}
use Rattle.spec_reader.proofs.Cutting.{finished_more, some_items}

-- ====== the items of a text that grows ======
items_yes : (x : ℕ) (t : Text) → nat_eq x 10 ≡ true → items 10 (x ∷ t) ≡ [] ∷ items 10 t
items_yes x t h = ap (λ b. cond b ([] ∷ items 10 t) (onto_first x (items 10 t))) h

items_no : (x : ℕ) (t : Text) → nat_eq x 10 ≡ false → items 10 (x ∷ t) ≡ onto_first x (items 10 t)
items_no x t h = ap (λ b. cond b ([] ∷ items 10 t) (onto_first x (items 10 t))) h

-- a byte before a text whose items are known
byte_before : (x : ℕ) (b : Text) (is whole : List Text) → has_items is ≡ true → nat_eq x 10 ≡ false → whole ≡ finished is ++ items 10 (rest_of is ++ b) → onto_first x whole ≡ finished (onto_first x is) ++ items 10 (rest_of (onto_first x is) ++ b)
byte_before x b [] whole some other h = absurd (true≢false (sym some))
byte_before x b (t ∷ []) whole some other h = ap (onto_first x) h ∙ sym (items_no x (t ++ b) other)
byte_before x b (t ∷ u ∷ us) whole some other h = ap (onto_first x) h

feed_before : (b : Text) (is whole : List Text) → has_items is ≡ true → whole ≡ finished is ++ items 10 (rest_of is ++ b) → [] ∷ whole ≡ finished ([] ∷ is) ++ items 10 (rest_of ([] ∷ is) ++ b)
feed_before b is whole some h =
    let more = finished_more [] is some in
    ap (λ ts. [] ∷ ts) h ∙ ap (λ ts. ts ++ items 10 (rest_of is ++ b)) (sym (more.0)) ∙ ap (λ t. finished ([] ∷ is) ++ items 10 (t ++ b)) (sym (more.1))

either_before : (x : ℕ) (a b : Text) (c : Bool) → nat_eq x 10 ≡ c → items 10 (a ++ b) ≡ lines_of a ++ items 10 (tail_of a ++ b) → items 10 (x ∷ a ++ b) ≡ lines_of (x ∷ a) ++ items 10 (tail_of (x ∷ a) ++ b)
either_before x a b true e h =
    items_yes x (a ++ b) e ∙ feed_before b (items 10 a) (items 10 (a ++ b)) (some_items 10 a) h
    ∙ ap (λ is. finished is ++ items 10 (rest_of is ++ b)) (sym (items_yes x a e))
either_before x a b false e h =
    items_no x (a ++ b) e ∙ byte_before x b (items 10 a) (items 10 (a ++ b)) (some_items 10 a) e h
    ∙ ap (λ is. finished is ++ items 10 (rest_of is ++ b)) (sym (items_no x a e))

items_more : (a b : Text) → items 10 (a ++ b) ≡ lines_of a ++ items 10 (tail_of a ++ b)
items_more [] b = refl
items_more (x ∷ a) b = either_before x a b (nat_eq x 10) refl (items_more a b)

some_behind : (ts us : List Text) → has_items us ≡ true → has_items (ts ++ us) ≡ true
some_behind [] us some = some
some_behind (t ∷ ts) us some = refl

finished_behind : (ts us : List Text) → has_items us ≡ true → (finished (ts ++ us) ≡ ts ++ finished us) × (rest_of (ts ++ us) ≡ rest_of us)
finished_behind [] us some = (refl, refl)
finished_behind (t ∷ ts) us some =
    let more = finished_more t (ts ++ us) (some_behind ts us some) in
    let rest = finished_behind ts us some in
    (more.0 ∙ ap (λ ls. t ∷ ls) (rest.0), more.1 ∙ rest.1)

-- the lines of a text and a piece are those of the text, and those of the piece behind what it left unfinished
pub lines_more : (a b : Text) → lines_of (a ++ b) ≡ lines_of a ++ lines_of (tail_of a ++ b)
lines_more a b = ap finished (items_more a b) ∙ (finished_behind (lines_of a) (items 10 (tail_of a ++ b)) (some_items 10 (tail_of a ++ b))).0

pub tail_more : (a b : Text) → tail_of (a ++ b) ≡ tail_of (tail_of a ++ b)
tail_more a b = ap rest_of (items_more a b) ∙ (finished_behind (lines_of a) (items 10 (tail_of a ++ b)) (some_items 10 (tail_of a ++ b))).1

-- ====== readers ======
pub way_more : (bytes rest piece : Text) (s : ReaderState) → IsOnItsWay bytes rest s → IsOnItsWay (bytes ++ piece) (rest ++ piece) s
way_more bytes rest piece s w = record {
  before = w.before;
  read = w.read;
  lines =
      lines_more bytes piece
      ∙ ap (λ ls. ls ++ lines_of (tail_of bytes ++ piece)) w.lines
      ∙ append_assoc w.before (lines_of rest) (lines_of (tail_of bytes ++ piece))
      ∙ ap (λ t. w.before ++ (lines_of rest ++ lines_of (t ++ piece))) w.tail
      ∙ ap (λ ls. w.before ++ ls) (sym (lines_more rest piece));
  tail = tail_more bytes piece ∙ ap (λ t. tail_of (t ++ piece)) w.tail ∙ sym (tail_more rest piece);
}

pub stuck_more : (bytes piece : Text) (s : ReaderState) → IsStuck bytes s → IsStuck (bytes ++ piece) s
stuck_more bytes piece s k = record {
  before = k.before;
  line = k.line;
  more = k.more ++ lines_of (tail_of bytes ++ piece);
  read = k.read;
  wrong = k.wrong;
  lines =
      lines_more bytes piece
      ∙ ap (λ ls. ls ++ lines_of (tail_of bytes ++ piece)) k.lines
      ∙ append_assoc k.before (k.line ∷ k.more) (lines_of (tail_of bytes ++ piece));
}

-- before the first byte
pub way_begins : (bytes : Text) (s : ReaderState) → HasRead [] s → IsOnItsWay bytes bytes s
way_begins bytes s read = record { before = []; read = read; lines = refl; tail = refl }

-- ====== what is left ======
join_front : (line : Text) (is : List Text) → has_items is ≡ true → join_with_byte 10 (line ∷ is) ≡ line ++ 10 ∷ join_with_byte 10 is
join_front line [] some = absurd (true≢false (sym some))
join_front line (t ∷ ts) some = refl

cut_whole : (text line rest : Text) → items 10 text ≡ line ∷ items 10 rest → text ≡ line ++ 10 ∷ rest
cut_whole text line rest h =
    sym (join_with_byte-slice_split 10 text) ∙ ap (join_with_byte 10) h ∙ join_front line (items 10 rest) (some_items 10 rest)
    ∙ ap (λ t. line ++ 10 ∷ t) (join_with_byte-slice_split 10 rest)

-- a text without a line feed is its only item
pub alone : (text line : Text) → items 10 text ≡ line ∷ [] → items 10 text ≡ text ∷ []
alone text line h = h ∙ ap (λ t. t ∷ []) (sym (sym (join_with_byte-slice_split 10 text) ∙ ap (join_with_byte 10) h))

pub ends_all : (bytes : Text) → EndsWith bytes bytes
ends_all bytes = ([], refl)

pub ends_further : (bytes text line rest : Text) → EndsWith bytes text → items 10 text ≡ line ∷ items 10 rest → EndsWith bytes rest
ends_further bytes text line rest e h =
    (e.0 ++ (line ++ 10 ∷ []), e.1 ∙ ap (λ t. e.0 ++ t) (cut_whole text line rest h ∙ sym (append_assoc line (10 ∷ []) rest)) ∙ sym (append_assoc e.0 (line ++ 10 ∷ []) rest))

-- what is left is what is left when the front goes
pub left_is : (bytes rest : Text) → EndsWith bytes rest → drop (length bytes - length rest) bytes ≡ rest
left_is bytes rest e =
    let many : length bytes ≡ length e.0 + length rest = ap length e.1 ∙ length-append e.0 rest in
    let front : length bytes - length rest ≡ length e.0 = omega (arith, many) in
    ap (λ n. drop n bytes) front ∙ ap (drop (length e.0)) e.1 ∙ drop-append_seam e.0 rest

-- ====== a reader of pieces ======
pub stuck_of : (bytes rest : Text) (s : ReaderState) (stop : Stop) → is_stuck stop ≡ true → IsTaken bytes rest s stop → IsStuck bytes s
stuck_of bytes rest s Unfinished h t = absurd (true≢false (sym h))
stuck_of bytes rest s Refused h t = absurd (true≢false (sym h))
stuck_of bytes rest s Stuck h t = t

pub way_of : (bytes rest : Text) (s : ReaderState) (stop : Stop) → is_stuck stop ≡ false → IsTaken bytes rest s stop → IsOnItsWay bytes rest s
way_of bytes rest s Unfinished h t = t.0
way_of bytes rest s Refused h t = t
way_of bytes rest s Stuck h t = absurd (true≢false h)

-- nothing is kept before the piece
pub way_at_once : (bytes rest piece : Text) (s : ReaderState) → rest ≡ [] → IsOnItsWay bytes rest s → IsOnItsWay (bytes ++ piece) piece s
way_at_once bytes rest piece s none w = subst (λ t. IsOnItsWay (bytes ++ piece) t s) (ap (λ t. t ++ piece) none) (way_more bytes rest piece s w)

upto_stuck : (bytes rest piece : Text) (s : ReaderState) (stuck : Bool) → stuck ≡ true → IsReadUpTo stuck bytes rest s → IsReadUpTo stuck (bytes ++ piece) rest s
upto_stuck bytes rest piece s true h r = stuck_more bytes piece s r
upto_stuck bytes rest piece s false h r = absurd (true≢false (sym h))

pub still_stuck : (bytes rest piece : Text) (s : ReaderState) (stuck : Bool) (many : ℕ) → stuck ≡ true → HasReadBytes bytes (record { lines = s; rest = rest; stuck = stuck; many = many }) → HasReadBytes (bytes ++ piece) (record { lines = s; rest = rest; stuck = stuck; many = many + length piece })
still_stuck bytes rest piece s stuck many h r = record {
  upto = upto_stuck bytes rest piece s stuck h r.upto;
  counted = ap (λ n. n + length piece) r.counted ∙ sym (length-append bytes piece);
}

pub goes_on : (bytes rest later piece : Text) (s t : ReaderState) (stuck now : Bool) (many : ℕ) → stuck ≡ false → HasReadBytes bytes (record { lines = s; rest = rest; stuck = stuck; many = many }) → (IsOnItsWay bytes rest s → IsReadUpTo now (bytes ++ piece) later t) → HasReadBytes (bytes ++ piece) (record { lines = t; rest = later; stuck = now; many = many + length piece })
goes_on bytes rest later piece s t stuck now many h r on = record {
  upto = on (subst (λ b. IsReadUpTo b bytes rest s) h r.upto);
  counted = ap (λ n. n + length piece) r.counted ∙ sym (length-append bytes piece);
}
