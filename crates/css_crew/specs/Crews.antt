-- Ledgers that several workers fill.
use Rattle.std.specs.Prelude.{◌≡◌, ◌↔◌, ℕ, Bool, IsTrue, List, [], slice_get, Option, Some, None}
use Rattle.css_domain.specs.declared.record.Record.{Record}
use Rattle.css_domain.specs.Meanings.{Meaning}
use Rattle.css_domain.specs.Records.{words_of}
use Rattle.css_domain.specs.Ledgers.{Books, filings, classes, claimed, with_filing}
use Rattle.css_domain.specs.Ledgers.Claimed.{Work}
use Rattle.css_domain.specs.Reasons.{AreFilingsComplete}
use Rattle.css_domain.specs.Standing.{Stands}
use Rattle.css_crew.specs.declared.reason.Reason.{Reason as Answer}
use Rattle.css_crew.specs.Ways.{IsExpansion, FilesNone}

module _ {C R : Type 0} (D : Meaning C R) where
  -- a ledger of this root, budget and rulebook: nothing is out, and each done class has one filing, which is complete
  pub record IsFilled (root : C) (budget rulebook : ℕ) (l : Books C R) : Type 0 where
    pub of_root : l.root ≡ root
    pub of_budget : l.budget ≡ budget
    pub of_rulebook : l.rulebook ≡ rulebook
    pub none_out : l.out ≡ []
    pub complete : AreFilingsComplete D l

  -- one more filing, of the class that is to be claimed
  pub record IsMore (l new : Books C R) : Type 0 where
    pub number : ℕ
    pub rules : List R
    pub next : Work number ≡ claimed D l
    pub filed : new ≡ with_filing l number rules
    pub class : C
    pub at : slice_get (classes D l) number ≡ Some class
    pub expansion : IsExpansion D l.rulebook class rules

  -- one more filing, or none and why
  abbrev pub GoesOn : Books C R → Books C R → Option Answer → Type 0
  GoesOn l new None = IsMore l new
  GoesOn l new (Some answer) = (new ≡ l) × FilesNone D l answer

  -- the filing at a place of the journal is the complete one of its class
  abbrev pub IsCompleteAt : Books C R → ℕ → Type 0
  IsCompleteAt l place = (n : ℕ) (rules : List R) (c : C) → slice_get (filings l.rules l.journal) place ≡ Some (n, rules) → slice_get (classes D l) n ≡ Some c → D.complete l.rulebook c rules

-- the records have these words, and it tells whether class 0 stands among them
pub record TellsRoot (words : List ℕ) (stands : Bool) : Type 0 where
  pub records : List Record
  pub told : words_of records ≡ words
  pub tells : IsTrue stands ↔ Stands records 0
