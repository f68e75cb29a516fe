-- What an entry is made of.
use Rattle.std.specs.Prelude.{◌≡◌, ◌<◌, ℕ, suc, Bool, nat_eq, List, length, slice_index}
use Rattle.std.specs.List.{position_or_len}
use Rattle.css_domain.specs.Meanings.{Meaning}
use Rattle.css_domain.specs.Ledgers.{Books, classes, records}
use Rattle.css_domain.specs.Entries.{picked_children}
use Rattle.css_domain.specs.Standing.{rank_of, pick_of}
use Rattle.css_prune.specs.declared.pruned.Pruned.{Pruned}
use Rattle.lists.specs.Members.{IsIn}

module _ {C R : Type 0} (D : Meaning C R) where
  -- the class has rank and pick, and its pick's children have places in the order
  pub record IsReady (l : Books C R) (K : ℕ → Bool) (order places : List ℕ) (pruned : Pruned) (c : ℕ) : Type 0 where
    pub small : c < length (classes D l)
    pub within : slice_index pruned.pick c < length (records D l)
    pub rank : slice_index pruned.rank c ≡ rank_of K (records D l) c
    pub pick : slice_index pruned.pick c ≡ pick_of K (records D l) c
    pub child_within : (d : ℕ) → IsIn d (picked_children D l K c) → d < length places
    pub child : (d : ℕ) → IsIn d (picked_children D l K c) → slice_index places d ≡ suc (position_or_len (nat_eq d) order)
