-- The rule of the log: how the words and the views of the seats agree between any two steps.
use Rattle.std.specs.Prelude.{◌≡◌, ℕ, ◌+◌, ◌<◌, ◌≤◌, Bool, true, false, [], length, take, slice_index}
use mathlib.Core.Option.{some}
use lib.ListN.{get_elem?}
use Rattle.atomic_table.specs.Table.{State}
use Rattle.css_domain.specs.WholeRecords.{IsWhole}
use Rattle.css_log.specs.declared.view.ReaderView.{ReaderView}
use Rattle.css_log.specs.declared.view.WriterView.{WriterView}
use Rattle.css_log.specs.declared.view.ReaderPlace.{ReaderPlace}
use Rattle.css_log.specs.declared.view.ReaderPlace.TheVariants.{Unsplit, Away, Joined}
use Rattle.css_log.specs.declared.view.View.{View}
use Rattle.css_log.specs.declared.view.View.TheVariants.{Spent, Writes, Reads, Notes}

-- the writer's view before anything was appended
abbrev pub newborn : ℕ → WriterView
newborn size = record { size = size; list = []; front = 0; place = Unsplit; found = false }

-- the reader's view before anything was read
abbrev pub blank : ℕ → ReaderView
blank size = record { size = size; seen = 0; copy = []; stops = false }

abbrev pub flag : Bool → ℕ
flag true = 1
flag false = 0

-- the reader's copy begins the list, is no longer than what it has seen, and that is published and whole records
pub record Agrees (q : WriterView) (r : ReaderView) : Type 0 where
  pub same_table : r.size ≡ q.size
  pub copied : r.copy ≡ take (length r.copy) q.list
  pub within : length r.copy ≤ r.seen
  pub published : r.seen ≤ q.front
  pub whole : IsWhole (take r.seen q.list)

-- what one view says, beside the writer's view q and the stop word
abbrev pub Knows : WriterView → ℕ → ℕ → ℕ → ℕ → View → Type 0
Knows q writer reader stop seat Spent = Unit {0}
Knows q writer reader stop seat (Writes p) = (seat ≡ writer) × (p ≡ q)
Knows q writer reader stop seat (Reads r) = (seat ≡ reader) × (q.place ≡ Away) × (stop ≡ flag r.stops) × Agrees q r
Knows q writer reader stop seat (Notes front) = (front ≤ q.front) × IsWhole (take front q.list)

-- what the writer's view says of the stop word: nobody could ask before the reader was split off, and a reader that was taken back keeps what it knew
abbrev pub Beside : WriterView → ℕ → ReaderPlace → Type 0
Beside q stop Unsplit = stop ≡ 0
Beside q stop Away = Unit {0}
Beside q stop (Joined r) = (stop ≡ flag r.stops) × Agrees q r

pub record Ruled {S : Type 0} (q : WriterView) (writer reader : ℕ) (s : State S View) : Type 0 where
  pub writes : get_elem? s.views writer ≡ some (Writes q)
  pub wide : length s.words ≡ q.size
  pub fits : length q.list + 2 ≤ q.size
  pub filled : (i : ℕ) → i < length q.list → slice_index s.words (i + 2) ≡ slice_index q.list i
  pub front : q.front ≤ length q.list
  pub count : slice_index s.words 0 ≡ q.front
  pub whole : IsWhole (take q.front q.list)
  pub stop : slice_index s.words 1 < 2
  pub found : q.found ≡ true → slice_index s.words 1 ≡ 1
  pub place : Beside q (slice_index s.words 1) q.place
  pub each_seat : (j : ℕ) (v : View) → get_elem? s.views j ≡ some v → Knows q writer reader (slice_index s.words 1) j v

-- exactly one view is the writer's, and at most one is the reader's
abbrev pub Kept : {S : Type 0} → State S View → Type 0
Kept s = (q : WriterView) × (writer : ℕ) × (reader : ℕ) × Ruled q writer reader s
