-- Specifications: lists of entries, one for each class, with a rule that makes it from the classes of others.
use Rattle.std.specs.Prelude.{◌≡◌, ◌<◌, ℕ, Bool, IsTrue, List, [], length, map, slice_get, slice_index, Option, Some, None, ◌==◌}
use Rattle.std.specs.List.{AllZip, position_or_len}
use Rattle.css_domain.specs.Shapes.{is_same_length, combine}
use Rattle.css_domain.specs.Added.{order_from}
use Rattle.css_domain.specs.declared.record.Record.{Record}
use Rattle.css_domain.specs.Records.{numbers}
use Rattle.css_domain.specs.Standing.{rank_of, pick_of, TellsStanding}
use Rattle.css_domain.specs.Meanings.{Meaning}
use Rattle.css_domain.specs.Ledgers.{Books, classes, records}
use Rattle.lists.specs.Members.{IsIn, NoRepeats}

-- a class with its rule, the places of the rule's children among the entries, and a rank
pub record Entry (C R : Type 0) : Type 0 where
  pub class : C
  pub rule : R
  pub children : List ℕ
  pub rank : ℕ

abbrev pub children_at : Option Record → List ℕ
children_at None = []
children_at (Some r) = numbers r

module _ {C R : Type 0} (D : Meaning C R) where
  -- whether the child in a slot of the rule is a same-length child
  abbrev pub can_keep_length : R → ℕ → Bool
  can_keep_length r slot = is_same_length (D.shape r) (map D.positive (D.children r)) slot

  -- the child in a slot of the entry is the class of the entry that is named for it, with a smaller rank where lengths can stay
  pub record IsNamed (entries : List (Entry C R)) (e : Entry C R) (slot : ℕ) : Type 0 where
    pub named : Entry C R
    pub there : slice_get entries (slice_index e.children slot) ≡ Some named
    pub class : slice_get (D.children e.rule) slot ≡ Some named.class
    pub rank : IsTrue (can_keep_length e.rule slot) → named.rank < e.rank

  -- the rule makes the entry's class, and an entry is named for each of the rule's children
  pub record IsLinked (entries : List (Entry C R)) (e : Entry C R) : Type 0 where
    pub own : D.parent e.rule ≡ e.class
    pub as_many : length e.children ≡ length (D.children e.rule)
    pub child : (slot : ℕ) → slot < length e.children → IsNamed entries e slot

  -- some earlier entry names entry i as a child
  pub record IsCalled (entries : List (Entry C R)) (i : ℕ) : Type 0 where
    pub j : ℕ
    pub earlier : j < i
    pub by : Entry C R
    pub there : slice_get entries j ≡ Some by
    pub names : IsIn i by.children

  -- the entries are a specification, whether or not their rules hold: there is one at least, their classes are distinct, each is linked, and each but the first is called
  pub record IsSpec (entries : List (Entry C R)) : Type 0 where
    pub some : 0 < length entries
    pub distinct : NoRepeats (map (λ e. e.class) entries)
    pub linked : (e : Entry C R) → IsIn e entries → IsLinked entries e
    pub called : (i : ℕ) → 0 < i → i < length entries → IsCalled entries i

  -- the rules of all entries hold
  abbrev pub AllHold : List (Entry C R) → Type 0
  AllHold entries = (e : Entry C R) → IsIn e entries → D.holds e.rule

  -- a specification of the class c, whose rules hold
  pub record ValidSpec (entries : List (Entry C R)) (c : C) : Type 0 where
    pub spec : IsSpec entries
    pub hold : AllHold entries
    pub first : Entry C R
    pub starts : slice_get entries 0 ≡ Some first
    pub root : first.class ≡ c

  -- the entry has the class's pick and rank, and its children by their places in the order
  pub record IsPickOf (l : Books C R) (K : ℕ → Bool) (order : List ℕ) (c : ℕ) (e : Entry C R) : Type 0 where
    pub class : slice_get (classes D l) c ≡ Some e.class
    pub rule : slice_get l.rules (pick_of K (records D l) c) ≡ Some e.rule
    pub by_record : Record
    pub recorded : slice_get (records D l) (pick_of K (records D l) c) ≡ Some by_record
    pub children : e.children ≡ map (λ d. position_or_len (λ o. d == o) order) (numbers by_record)
    pub rank : e.rank ≡ rank_of K (records D l) c

  -- the numbers of the children of a class's pick
  abbrev pub picked_children : Books C R → (ℕ → Bool) → ℕ → List ℕ
  picked_children l K c = children_at (slice_get (records D l) (pick_of K (records D l) c))

  -- the specification of the picks of a ledger whose root stands, from the root on
  pub record Picked (l : Books C R) (root : ℕ) (entries : List (Entry C R)) : Type 0 where
    pub K : ℕ → Bool
    pub standing : TellsStanding (records D l) K
    pub stands : IsTrue (K root)
    pub picks : AllZip (λ c e. IsPickOf l K (order_from root (picked_children l K) (length (classes D l))) c e) (order_from root (picked_children l K) (length (classes D l))) entries

  -- the counts of each entry come from those of its children
  abbrev pub AreCounts : List (Entry C R) → (ℕ → ℕ → ℕ) → Type 0
  AreCounts entries count = (i n : ℕ) (e : Entry C R) → slice_get entries i ≡ Some e → count i n ≡ combine (D.shape e.rule) (map count e.children) n

  -- no positive class has a member of length 0
  abbrev pub NoneOfLength0 : List (Entry C R) → (ℕ → ℕ → ℕ) → Type 0
  NoneOfLength0 entries count = (i : ℕ) (e : Entry C R) → slice_get entries i ≡ Some e → IsTrue (D.positive e.class) → count i 0 ≡ 0

  -- the counts of a class, where there is one
  abbrev pub count_at : Option (Entry C R) → ℕ → ℕ
  count_at None = λ n. 0
  count_at (Some e) = D.count e.class

  -- the counts of the entries' classes
  abbrev pub class_counts : List (Entry C R) → ℕ → ℕ → ℕ
  class_counts entries i = count_at (slice_get entries i)

  -- two families of numbers that both combine over the entries of a specification are the same, whether or not its rules hold
  abbrev pub CountsAreDetermined : Type 0
  CountsAreDetermined = (entries : List (Entry C R)) → IsSpec entries → (one other : ℕ → ℕ → ℕ) → AreCounts entries one → NoneOfLength0 entries one → AreCounts entries other → NoneOfLength0 entries other → (i n : ℕ) → i < length entries → one i n ≡ other i n

  -- the counts of the entries' classes combine over a specification whose rules hold
  abbrev pub ClassCountsCombine : Type 0
  ClassCountsCombine = (entries : List (Entry C R)) → IsSpec entries → AllHold entries → AreCounts entries (class_counts entries) × NoneOfLength0 entries (class_counts entries)
