-- A text as items with a byte between two, and items that are read one by one.
use Rattle.std.specs.Prelude.{ℕ, Bool, true, false, cond, not, ◌&&◌, nat_eq, List, [], ◌∷◌, ◌++◌, flat_map, codes, Option, Some, None, option_map, option_and_then}
use Rattle.std.specs.List.{slice_split}
use Rattle.std.specs.Cmp.Lexicographic.{pointwise}
use Rattle.spec_lines.specs.Lines.{Text}
use Rattle.spec_lines.specs.Forms.{has_items}

-- x where the test holds
abbrev pub keep_if : {X : Type 0} → Bool → X → Option X
keep_if true x = Some x
keep_if false x = None

-- the same bytes
abbrev pub same : Text → Text → Bool
same a b = pointwise nat_eq a b

-- what stands before, between and behind the byte: one item more than there are such bytes
abbrev pub items : ℕ → Text → List Text
items byte text = slice_split (λ b. nat_eq b byte) text

-- each item as it is read, where all can be read
abbrev pub read_all : {X : Type 0} → (Text → Option X) → List Text → Option (List X)
read_all read [] = Some []
read_all read (t ∷ ts) = option_and_then (λ x. option_map (λ xs. x ∷ xs) (read_all read ts)) (read t)

-- the items, at least one, where a lone dash stands for none
abbrev pub dashed : {X : Type 0} → (Text → Option X) → List Text → Option (List X)
dashed read [] = None
dashed read (t ∷ ts) = cond (same t (codes "-") && not (has_items ts)) (Some []) (read_all read (t ∷ ts))

-- the items after a word
abbrev pub behind : Text → List Text → Option (List Text)
behind word [] = None
behind word (t ∷ ts) = cond (same t word) (Some ts) None

-- ====== bytes as lines ======
-- the lines, each with its line feed
abbrev pub with_feeds : List Text → Text
with_feeds lines = flat_map (λ (t : Text). t ++ codes "\n") lines

-- all items but the last
abbrev pub finished : List Text → List Text
finished [] = []
finished (t ∷ []) = []
finished (t ∷ u ∷ ts) = t ∷ finished (u ∷ ts)

-- the last item
abbrev pub rest_of : List Text → Text
rest_of [] = []
rest_of (t ∷ []) = t
rest_of (t ∷ u ∷ ts) = rest_of (u ∷ ts)

-- the lines that have a line feed, without it
abbrev pub lines_of : Text → List Text
lines_of bytes = finished (items 10 bytes)

-- what stands behind the last line feed
abbrev pub tail_of : Text → Text
tail_of bytes = rest_of (items 10 bytes)
