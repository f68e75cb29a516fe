-- Rules that wait for a class that is not expanded.
use Rattle.std.specs.Prelude.{◌≡◌, ◌<◌, ◌≤◌, ℕ, length, slice_get, Some}
use Rattle.css_domain.specs.Meanings.{Meaning}
use Rattle.css_domain.specs.Ledgers.{Books, classes}

module _ {C R : Type 0} (D : Meaning C R) where
  -- the rule at a position has a child whose number is none of the first ones, which are those of the expanded classes
  pub record Waits (l : Books C R) (position : ℕ) : Type 0 where
    pub rule : R
    pub there : slice_get l.rules position ≡ Some rule
    pub slot : ℕ
    pub child : C
    pub at : slice_get (D.children rule) slot ≡ Some child
    pub number : ℕ
    pub named : slice_get (classes D l) number ≡ Some child
    pub late : length l.journal ≤ number

  -- each rule from a position on does
  abbrev pub AllWait : Books C R → ℕ → Type 0
  AllWait l from = (position : ℕ) → from ≤ position → position < length l.rules → Waits l position
