-- What each ledger keeps.
use Rattle.std.specs.Prelude.{◌≡◌, ◌≢◌, ◌<◌, ◌≤◌, ◌+◌, ◌*◌, ℕ, List, [], length, sum_by, slice_get, slice_index, Some}
use Rattle.std.specs.List.Sorted.{IsStrictlySortedBy}
use Rattle.std.specs.Ordering.{nat_cmp}
use Rattle.css_domain.specs.Meanings.{Meaning}
use Rattle.css_domain.specs.Records.{AreWithin, words_of}
use Rattle.css_domain.specs.Ledgers.{Books, Event, new_books, after_all, filings, done, classes, records, after_filings}
use Rattle.lists.specs.Members.{IsIn, NoRepeats}

module _ {C R : Type 0} (D : Meaning C R) where
  -- how many words the records of the rules have
  abbrev pub filing_words : List R → ℕ
  filing_words rules = sum_by (λ r. 2 + length (D.children r)) rules

  -- the rules may be filed for the class c: each holds and makes c, and rules that are there are complete
  pub record IsFilingOf (rulebook : ℕ) (c : C) (rules : List R) : Type 0 where
    pub hold : (r : R) → IsIn r rules → D.holds r
    pub own : (r : R) → IsIn r rules → D.parent r ≡ c
    pub complete : rules ≢ [] → D.complete rulebook c rules
    pub small : filing_words rules ≤ 2048

  pub record IsLedger (l : Books C R) : Type 0 where
    pub some_budget : 1 ≤ l.budget
    pub few_budget : l.budget ≤ 5000
    pub distinct : NoRepeats (classes D l)
    pub once : NoRepeats (done l)
    pub numbered : (k : ℕ) → k < length l.journal → slice_index (done l) k < length (classes D (after_filings D k l))
    pub all_rules : length l.rules ≡ sum_by (λ pair. pair.1) l.journal
    pub out_ascends : IsStrictlySortedBy nat_cmp l.out
    pub out_numbered : (n : ℕ) → IsIn n l.out → n < length (classes D l)
    pub out_not_done : (n : ℕ) → IsIn n l.out → IsIn n (done l) → ⊥
    pub within : length l.out + length l.journal ≤ l.budget
    pub filed : (n : ℕ) (rules : List R) (c : C) → IsIn (n, rules) (filings l.rules l.journal) → slice_get (classes D l) n ≡ Some c → IsFilingOf l.rulebook c rules

  -- the sizes of a ledger, and its numbers, which are those of classes
  pub record HasSizes (l : Books C R) : Type 0 where
    pub root_first : slice_get (classes D l) 0 ≡ Some l.root
    pub few_classes : length (classes D l) ≤ 1 + 2048 * length l.journal
    pub few_rules : length l.rules ≤ 1024 * length l.journal
    pub few_words : length (words_of (records D l)) ≤ 2048 * length l.journal
    pub done_are_classes : (n : ℕ) → IsIn n (done l) → n < length (classes D l)
    pub records_are_within : AreWithin (length (classes D l)) (records D l)

  -- some events lead from the new ledger to this one
  pub record IsReached (root : C) (l : Books C R) : Type 0 where
    pub events : List (Event R)
    pub reached : after_all D (new_books root l.budget l.rulebook) events ≡ l
