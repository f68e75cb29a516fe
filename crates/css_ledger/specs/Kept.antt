-- What a ledger keeps beside its books.
use Rattle.std.specs.Prelude.{◌≡◌, ℕ, List, length}
use Rattle.css_domain.specs.declared.record.Record.{Record}
use Rattle.css_domain.specs.Meanings.{Meaning}
use Rattle.css_domain.specs.Ledgers.{Books, classes, records, done, is_among}
use Rattle.css_domain.specs.LedgerFacts.{IsLedger}
use Rattle.css_ledger.specs.declared.stage.Stage.{Stage}
use Rattle.css_ledger.specs.Stages.{stage_at, is_done}

module _ {C R : Type 0} (D : Meaning C R) where
  -- the classes by number, their stages, the records, and how many are out
  pub record AreKept (l : Books C R) (keys : List C) (stages : List Stage) (items : List Record) (count : ℕ) : Type 0 where
    pub replayed : keys ≡ classes D l
    pub recorded : items ≡ records D l
    pub as_many : length stages ≡ length keys
    pub staged : (n : ℕ) → is_done (stage_at stages n) ≡ is_among n (done l)
    pub counted : count ≡ length l.out
    pub ledger : IsLedger D l
