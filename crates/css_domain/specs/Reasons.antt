-- Why a ledger ends.
use Rattle.std.specs.Prelude.{◌≡◌, ◌<◌, ◌⊎◌, ℕ, true, List, [], length, sum_by, slice_get, Some}
use Rattle.std.specs.List.{range_with_len}
use Rattle.css_domain.specs.Standing.{Stands}
use Rattle.css_domain.specs.Meanings.{Meaning}
use Rattle.css_domain.specs.Ledgers.{Books, filings, done, classes, records, is_all_done, after_filings}
use Rattle.lists.specs.Members.{IsIn, NoRepeats}

pub data Reason : Type 0 where
  Found : Reason
  Exhausted : Reason
  Budget : Reason

module _ {C R : Type 0} (D : Meaning C R) where
  abbrev pub RootStands : Books C R → Type 0
  RootStands l = Stands (records D l) 0

  -- each done class has one filing, and a complete one
  pub record AreFilingsComplete (l : Books C R) : Type 0 where
    pub once : NoRepeats (done l)
    pub complete : (n : ℕ) (rules : List R) (c : C) → IsIn (n, rules) (filings l.rules l.journal) → slice_get (classes D l) n ≡ Some c → D.complete l.rulebook c rules

  -- the ledger ends for this reason
  abbrev pub EndsFor : Books C R → Reason → Type 0
  EndsFor l Found = RootStands l
  EndsFor l Exhausted = (RootStands l → ⊥) × (is_all_done D l ≡ true)
  EndsFor l Budget = (RootStands l → ⊥) × (is_all_done D l ≡ true → ⊥) × (length (done l) ≡ l.budget)

  -- nothing is left to do
  abbrev pub Stops : Books C R → Type 0
  Stops l = RootStands l ⊎ ((is_all_done D l ≡ true) ⊎ (length (done l) ≡ l.budget))

  -- the ledger of one worker: it files 0, 1, 2 and so on, and stops as soon as it can
  pub record Alone (root : C) (budget rulebook : ℕ) (l : Books C R) : Type 0 where
    pub of_root : l.root ≡ root
    pub of_budget : l.budget ≡ budget
    pub of_rulebook : l.rulebook ≡ rulebook
    pub none_out : l.out ≡ []
    pub in_turn : done l ≡ range_with_len 0 (length l.journal)
    pub all_rules : length l.rules ≡ sum_by (λ pair. pair.1) l.journal
    pub complete : AreFilingsComplete l
    pub stops : Stops l
    pub not_before : (k : ℕ) → k < length l.journal → Stops (after_filings D k l) → ⊥
