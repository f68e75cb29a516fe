-- What contracts see of a log's writer, of its reader and of a note.
use Rattle.std.specs.Prelude.{ℕ, ◌+◌, ◌≤◌, Bool, List, []}
use Rattle.atomic_table.specs.Seated.{TableId}
use Rattle.css_log.specs.declared.view.ReaderPlace.TheVariants.{Away}
use Rattle.css_log.specs.declared.view.View.{View}
use Rattle.css_log.specs.declared.view.View.TheVariants.{Writes, Reads}

-- of which log, the words appended, how many of them are published, and whether a stop was found
pub record WriterState : Type 0 where
  pub log : TableId
  pub list : List ℕ
  pub front : ℕ
  pub found : Bool

-- of which log, the words pulled, the count known, and whether it asked to stop
pub record ReaderState : Type 0 where
  pub log : TableId
  pub copy : List ℕ
  pub seen : ℕ
  pub stops : Bool

-- of which log, and the count that it stands for
pub record NoteState : Type 0 where
  pub log : TableId
  pub front : ℕ

-- how many words of records a log can take
abbrev pub HasRoom : TableId → ℕ → Type 0
HasRoom log words = words + 2 ≤ log.words

-- the words of a writer's view
abbrev pub list_of : View → List ℕ
list_of (Writes q) = q.list
list_of _ = []

-- the view of the seat of a writer whose reader is away
abbrev pub writing : TableId → List ℕ → ℕ → Bool → View
writing log list front found = Writes (record { size = log.words; list = list; front = front; place = Away; found = found })

abbrev pub reading : TableId → List ℕ → ℕ → Bool → View
reading log copy seen stops = Reads (record { size = log.words; seen = seen; copy = copy; stops = stops })
