-- A ledger that one worker fills, on its way.
use Rattle.std.specs.Prelude.{◌≡◌, ◌<◌, ℕ, true, List, [], length, slice_get, Option, Some, None}
use Rattle.std.specs.List.{range_with_len}
use Rattle.css_domain.specs.Meanings.{Meaning}
use Rattle.css_domain.specs.Ledgers.{Books, classes, done, is_all_done, after_filings, with_filing}
use Rattle.css_domain.specs.FiledSpecs.{IsFiledSpec}
use Rattle.css_domain.specs.LedgerFacts.{IsLedger, IsFilingOf}
use Rattle.css_domain.specs.Entries.{Entry, Picked}
use Rattle.css_domain.specs.Reasons.{Reason, AreFilingsComplete, RootStands, Stops}
use Rattle.css_domain.specs.Reasons.Reason.{Found, Exhausted, Budget}
use Rattle.css_crew.specs.declared.reason.Reason.{Reason as Answer}
use Rattle.css_crew.specs.declared.reason.Reason.TheVariants.{Found as IsFound, Budget as IsBudget, Exhausted as IsExhausted}

-- the reason that an answer tells
abbrev pub reason_as : Answer → Reason
reason_as IsFound = Found
reason_as IsBudget = Budget
reason_as IsExhausted = Exhausted

module _ {C R : Type 0} (D : Meaning C R) where
  -- the rules may be filed for the class, and are its complete filing
  pub record IsExpansion (rulebook : ℕ) (c : C) (rules : List R) : Type 0 where
    pub filing : IsFilingOf D rulebook c rules
    pub whole : D.complete rulebook c rules

  -- it filed 0, 1, 2 and so on, and could not have stopped before
  pub record IsOnTheWay (root : C) (budget rulebook : ℕ) (l : Books C R) : Type 0 where
    pub of_root : l.root ≡ root
    pub of_budget : l.budget ≡ budget
    pub of_rulebook : l.rulebook ≡ rulebook
    pub none_out : l.out ≡ []
    pub in_turn : done l ≡ range_with_len 0 (length l.journal)
    pub complete : AreFilingsComplete D l
    pub not_before : (k : ℕ) → k < length l.journal → Stops D (after_filings D k l) → ⊥

  -- one more filing, in its turn
  pub record IsNext (l new : Books C R) : Type 0 where
    pub rules : List R
    pub filed : new ≡ with_filing l (length l.journal) rules
    pub open_yet : is_all_done D l ≡ true → ⊥
    pub room : length (done l) ≡ l.budget → ⊥
    pub class : C
    pub at : slice_get (classes D l) (length l.journal) ≡ Some class
    pub expansion : IsExpansion l.rulebook class rules

  -- why nothing is filed, whether or not the root stands
  abbrev pub FilesNone : Books C R → Answer → Type 0
  FilesNone l IsFound = ⊥
  FilesNone l IsExhausted = is_all_done D l ≡ true
  FilesNone l IsBudget = (is_all_done D l ≡ true → ⊥) × (length (done l) ≡ l.budget)

  -- one more filing, or none and why
  abbrev pub Goes : Books C R → Books C R → Option Answer → Type 0
  Goes l new None = IsNext l new
  Goes l new (Some answer) = (new ≡ l) × FilesNone l answer

  -- the picks of a ledger whose first class is its root are a specification of the root by rules that are filed
  abbrev pub PicksAreFiled : Type 0
  PicksAreFiled = (l : Books C R) (entries : List (Entry C R)) → IsLedger D l → slice_get (classes D l) 0 ≡ Some l.root → Picked D l 0 entries → IsFiledSpec D l entries

  -- the specification that goes with a ledger: that of its picks, where its root stands
  abbrev pub GoesWith : Books C R → Option (List (Entry C R)) → Type 0
  GoesWith l None = RootStands D l → ⊥
  GoesWith l (Some entries) = Picked D l 0 entries
