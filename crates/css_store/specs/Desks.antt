-- What contracts see of a desk.
use Rattle.std.specs.Prelude.{ℕ, ◌*◌, Bool, []}
use Rattle.atomic_table.specs.Seated.{TableId}
use Rattle.css_domain.specs.Ledgers.{Books}
use Rattle.css_log.specs.States.{HasRoom}

-- the name of no log
abbrev pub no_log : TableId
no_log = record { words = 0; slots = 0; views_name = 0; atom = 0; block = 0; offset = 0; slot_names = [] }

-- the ledger, how many workers haven't retired, and whether the last load of the stop word found it set
pub record DeskState (C R : Type 0) : Type 0 where
  pub books : Books C R
  pub workers : ℕ
  pub found : Bool

-- the log has room for 2,048 words for each class of the budget
abbrev pub HasRoomFor : ℕ → TableId → Type 0
HasRoomFor budget log = HasRoom log (2048 * budget)
