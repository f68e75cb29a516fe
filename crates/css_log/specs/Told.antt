-- What each kind of step tells the seat that makes it: of the seat before, the number found or stored, and the seat after.
use Rattle.std.specs.Prelude.{◌≡◌, ℕ, ◌+◌, ◌≤◌, ◌<◌, true, ◌==◌, max, [], ◌∷◌, ◌++◌, length}
use Rattle.atomic_table.specs.Table.{Me, Step}
use Rattle.css_domain.specs.WholeRecords.{IsWhole}
use Rattle.css_log.specs.declared.view.ReaderPlace.TheVariants.{Away, Joined}
use Rattle.css_log.specs.Agreement.{blank}
use Rattle.css_log.specs.declared.view.View.{View}
use Rattle.css_log.specs.declared.view.View.TheVariants.{Spent, Writes, Reads, Notes}

module _ {S : Type 0} where
  -- a seat with this view, which holds no slot
  abbrev pub seated : View → Me S View
  seated v = (v, [])

  abbrev pub CountedBy : View → ℕ → Me S View → Type 0
  CountedBy (Reads r) n m' = (m' ≡ seated (Reads (record r { seen = n }))) × (r.seen ≤ n) × (n + 2 ≤ r.size)
  CountedBy _ n m' = Unit {0}

  -- the reader has seen the count, which is not below what it had seen
  abbrev pub counted : Step S → Me S View → ℕ → Me S View → Type 0
  counted st m n m' = CountedBy m.0 n m'

  abbrev pub PulledBy : View → ℕ → ℕ → Me S View → Type 0
  PulledBy (Reads r) at n m' = at ≡ length r.copy + 2 → length r.copy < r.seen
      → (m' ≡ seated (Reads (record r { copy = r.copy ++ n ∷ [] }))) × (length r.copy + 1 ≡ r.seen → IsWhole (r.copy ++ n ∷ []))
  PulledBy _ at n m' = Unit {0}

  -- the reader's copy has one word more
  abbrev pub pulled : Step S → Me S View → ℕ → Me S View → Type 0
  pulled st m n m' = PulledBy m.0 st.word n m'

  abbrev pub AppendedBy : View → ℕ → Me S View → Type 0
  AppendedBy (Writes q) n m' = m' ≡ seated (Writes (record q { list = q.list ++ n ∷ [] }))
  AppendedBy _ n m' = Unit {0}

  abbrev pub appended : Step S → Me S View → ℕ → Me S View → Type 0
  appended st m n m' = AppendedBy m.0 n m'

  abbrev pub PublishedBy : View → ℕ → Me S View → Type 0
  PublishedBy (Writes q) n m' = m' ≡ seated (Writes (record q { front = n }))
  PublishedBy _ n m' = Unit {0}

  abbrev pub published : Step S → Me S View → ℕ → Me S View → Type 0
  published st m n m' = PublishedBy m.0 n m'

  abbrev pub AskedBy : View → Me S View → Type 0
  AskedBy (Reads r) m' = m' ≡ seated (Reads (record r { stops = true }))
  AskedBy _ m' = Unit {0}

  -- the reader has asked to stop
  abbrev pub asked : Step S → Me S View → ℕ → Me S View → Type 0
  asked st m n m' = AskedBy m.0 m'

  abbrev pub FoundBy : View → ℕ → Me S View → Type 0
  FoundBy (Writes q) n m' = (m' ≡ seated (Writes (record q { found = n == 1 }))) × (q.found ≡ true → n ≡ 1)
  FoundBy _ n m' = Unit {0}

  -- the writer has found a stop where the word is 1, and it is 1 where it had found one before
  abbrev pub found : Step S → Me S View → ℕ → Me S View → Type 0
  found st m n m' = FoundBy m.0 n m'

-- the writer's view once its reader is away, and the reader's
abbrev pub without_reader : View → View
without_reader (Writes q) = Writes (record q { place = Away })
without_reader v = v

abbrev pub new_reader : View → View
new_reader (Writes q) = Reads (blank q.size)
new_reader _ = Spent

-- a note of the count that the writer has published
abbrev pub note_of : View → View
note_of (Writes q) = Notes q.front
note_of _ = Spent

-- the reader knows what the note knows
abbrev pub learnt : View → View → View
learnt (Reads r) (Notes front) = Reads (record r { seen = max r.seen front })
learnt v _ = v

-- the writer takes the reader's view in
abbrev pub taken_back : View → View → View
taken_back (Writes q) (Reads r) = Writes (record q { place = Joined r })
taken_back v _ = v
