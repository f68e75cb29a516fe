-- Specifications by the rules that a ledger has.
use Rattle.std.specs.Prelude.{List}
use Rattle.css_domain.specs.Meanings.{Meaning}
use Rattle.css_domain.specs.Ledgers.{Books}
use Rattle.css_domain.specs.LedgerFacts.{IsLedger}
use Rattle.css_domain.specs.Entries.{Entry, ValidSpec}
use Rattle.css_domain.specs.Reasons.{RootStands}
use Rattle.lists.specs.Members.{IsIn}

module _ {C R : Type 0} (D : Meaning C R) where
  -- a specification of the ledger's root, all of whose rules are filed
  pub record IsFiledSpec (l : Books C R) (entries : List (Entry C R)) : Type 0 where
    pub valid : ValidSpec D entries l.root
    pub filed : (e : Entry C R) → IsIn e entries → IsIn e.rule l.rules

  -- where there is one, the root stands
  abbrev pub FiledSpecsStand : Type 0
  FiledSpecsStand = (l : Books C R) (entries : List (Entry C R)) → IsLedger D l → IsFiledSpec l entries → RootStands D l
