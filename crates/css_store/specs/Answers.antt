-- What the desk answers.
use Rattle.std.specs.Prelude.{Bool, true, false, ◌≡◌, ◌<◌, ◌≤◌, ℕ, List, Option, Some, None, slice_get}
use Rattle.atomic_table.specs.Seated.{TableId}
use Rattle.css_domain.specs.Meanings.{Meaning}
use Rattle.css_domain.specs.Ledgers.{Books, Claimed, classes, claimed, with_work}
use Rattle.css_domain.specs.Ledgers.Claimed.{Work as WorkOn, Spent as IsSpent, Idle as IsIdle, Finished as IsFinished}
use Rattle.css_ledger.specs.declared.pack.Pack.{Pack}
use Rattle.css_store.specs.Desks.{DeskState}
use Rattle.css_store.specs.declared.answers.DeskClaim.{DeskClaim}
use Rattle.css_store.specs.declared.answers.DeskClaim.TheVariants.{Work, Spent, Finished, Idle, Stopped, Memory}
use Rattle.css_store.specs.declared.answers.Unfiled.{Unfiled}
use Rattle.css_store.specs.declared.answers.Unfiled.TheVariants.{NotOut, Memory as NoMemory}
use Rattle.css_store.specs.declared.answers.Growth.{Growth}
use Rattle.css_store.specs.declared.answers.Growth.TheVariants.{Grown, Ended}

-- a note of this log, over what was seen
abbrev pub IsGrowth : TableId → ℕ → Growth → Type 0
IsGrowth log seen (Grown note) = (note.log ≡ log) × (seen < note.front)
IsGrowth log seen Ended = Unit {0}

-- exactly where the published count is over what was seen there is a note of it; else the end comes exactly where no worker is left
abbrev pub Grows : TableId → ℕ → ℕ → ℕ → Option Growth → Type 0
Grows log front workers seen (Some (Grown note)) = (note.log ≡ log) × (note.front ≡ front) × (seen < front)
Grows log front workers seen (Some Ended) = (front ≤ seen) × (workers ≡ 0)
Grows log front workers seen None = (front ≤ seen) × (0 < workers)

abbrev pub IsWork : Claimed → Type 0
IsWork (WorkOn n) = Unit {0}
IsWork _ = ⊥

module _ {X C R : Type 0} (D : Meaning C R) where
  -- the ledger's answer, with the class where there is work; all but work leaves the ledger as it was; memory is wanted only for a copy of a class
  abbrev pub Hands : Books C R → DeskClaim X C R → Books C R → Type 0
  Hands old (Work pack class) new = (claimed D old ≡ WorkOn pack.number) × (slice_get (classes D old) pack.number ≡ Some class) × (new ≡ with_work old (WorkOn pack.number))
  Hands old Spent new = (claimed D old ≡ IsSpent) × (new ≡ old)
  Hands old Finished new = (claimed D old ≡ IsFinished) × (new ≡ old)
  Hands old Idle new = (claimed D old ≡ IsIdle) × (new ≡ old)
  Hands old Memory new = IsWork (claimed D old) × (new ≡ old)
  Hands old Stopped new = ⊥

  -- a stop was found; or none was, and the answer is the ledger's
  abbrev pub Claims : DeskState C R → DeskClaim X C R → DeskState C R → Type 0
  Claims old Stopped new = new ≡ record old { found = true }
  Claims old (Work pack class) new = Hands old.books (Work pack class) new.books × (new ≡ record old { books = new.books; found = false })
  Claims old Spent new = Hands old.books Spent new.books × (new ≡ record old { books = new.books; found = false })
  Claims old Finished new = Hands old.books Finished new.books × (new ≡ record old { books = new.books; found = false })
  Claims old Idle new = Hands old.books Idle new.books × (new ≡ record old { books = new.books; found = false })
  Claims old Memory new = Hands old.books Memory new.books × (new ≡ record old { books = new.books; found = false })

-- the pack and the filing come back, exactly where they may not be filed, or for want of memory
abbrev pub HandsBack : {X C R : Type 0} → Bool → Pack → List R → Unfiled X C R → Type 0
HandsBack may pack rules (NotOut p f) = (may ≡ false) × (p ≡ pack) × (f ≡ rules)
HandsBack may pack rules (NoMemory p f) = (may ≡ true) × (p ≡ pack) × (f ≡ rules)

-- the pack and the filing come back
abbrev pub ComeBack : {X C R : Type 0} → Pack → List R → Unfiled X C R → Type 0
ComeBack pack rules (NotOut p f) = (p ≡ pack) × (f ≡ rules)
ComeBack pack rules (NoMemory p f) = (p ≡ pack) × (f ≡ rules)
