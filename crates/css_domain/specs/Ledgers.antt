-- The ledger machine: its state, what follows from the state, and its events.
use Rattle.std.specs.Prelude.{ℕ, ◌+◌, Bool, not, ◌&&◌, if◌then◌else◌, ◌==◌, List, [], ◌∷◌, ◌++◌, map, filter, flat_map, length, take, drop}
use Rattle.std.specs.List.{range_with_len, list_any, list_all, position_or_len}
use Rattle.std.specs.Ordering.{nat_cmp}
use Rattle.sequences.specs.Ascending.{insert_new}
use Rattle.css_domain.specs.declared.record.Record.{Record}
use Rattle.css_domain.specs.Meanings.{Meaning}
use Rattle.lists.specs.Added.{with_all_new}

-- the journal has a class number and a number of rules for each filing; the numbers that are out ascend
pub record Books (C R : Type 0) : Type 0 where
  pub root : C
  pub budget : ℕ
  pub rulebook : ℕ
  pub rules : List R
  pub journal : List (ℕ × ℕ)
  pub out : List ℕ

-- the filings: each number of the journal, with the rules that it takes
abbrev pub filings : {R : Type 0} → List R → List (ℕ × ℕ) → List (ℕ × List R)
filings rules [] = []
filings rules (pair ∷ journal) = (pair.0, take pair.1 rules) ∷ filings (drop pair.1 rules) journal

abbrev pub is_among : ℕ → List ℕ → Bool
is_among n numbers = list_any (λ m. n == m) numbers

abbrev pub done : {C R : Type 0} → Books C R → List ℕ
done l = map (λ pair. pair.0) l.journal

module _ {C R : Type 0} (D : Meaning C R) where
  -- the classes by number: the root, then the children as the filings show them first
  abbrev pub classes : Books C R → List C
  classes l = with_all_new D.same (l.root ∷ []) (flat_map (λ filing. flat_map D.children filing.1) (filings l.rules l.journal))

  abbrev pub all_numbers : Books C R → List ℕ
  all_numbers l = range_with_len 0 (length (classes l))

  abbrev pub is_all_done : Books C R → Bool
  is_all_done l = list_all (λ n. is_among n (done l)) (all_numbers l)

  -- the numbers that are neither done nor out
  abbrev pub fresh : Books C R → List ℕ
  fresh l = filter (λ n. not (is_among n (done l)) && not (is_among n l.out)) (all_numbers l)

  -- a rule by the numbers of its classes
  abbrev pub record_of : List C → R → Record
  record_of classes r = let number : C → ℕ = λ c. position_or_len (D.same c) classes in record { parent = number (D.parent r); shape = D.shape r; children = map (λ c. (number c, D.positive c)) (D.children r) }

  -- one record per rule
  abbrev pub records : Books C R → List Record
  records l = map (λ r. record_of (classes l) r) l.rules

  -- the ledger as it was after k filings, with nothing out
  abbrev pub after_filings : ℕ → Books C R → Books C R
  after_filings k l = record l { rules = flat_map (λ filing. filing.1) (take k (filings l.rules l.journal)); journal = take k l.journal; out = [] }

-- the expanded classes, all classes and the rules, in number
pub record Counts : Type 0 where
  pub expanded : ℕ
  pub classes : ℕ
  pub rules : ℕ

abbrev pub counts : {C R : Type 0} → Meaning C R → Books C R → Counts
counts D l = record { expanded = length l.journal; classes = length (classes D l); rules = length l.rules }

pub data Claimed : Type 0 where
  Finished : Claimed
  Spent : Claimed
  Work : ℕ → Claimed
  Idle : Claimed

pub data Event (R : Type 0) : Type 0 where
  Claim : Event R
  File : ℕ → List R → Event R
  GiveBack : ℕ → Event R
  Recall : Event R

abbrev pub without : ℕ → List ℕ → List ℕ
without n numbers = filter (λ m. not (n == m)) numbers

-- the least fresh number, where there is one
abbrev pub work : List ℕ → Claimed
work [] = Idle
work (n ∷ fresh) = Work n

-- what is claimed is out
abbrev pub with_work : {C R : Type 0} → Books C R → Claimed → Books C R
with_work l (Work n) = record l { out = insert_new nat_cmp n l.out }
with_work l Finished = l
with_work l Spent = l
with_work l Idle = l

-- the ledger with one more filing of a number that was out
abbrev pub with_filing : {C R : Type 0} → Books C R → ℕ → List R → Books C R
with_filing l n rules = record l { rules = l.rules ++ rules; journal = l.journal ++ (n, length rules) ∷ []; out = without n l.out }

abbrev pub given_back : {C R : Type 0} → Books C R → ℕ → Books C R
given_back l n = record l { out = without n l.out }

abbrev pub recalled : {C R : Type 0} → Books C R → Books C R
recalled l = record l { out = [] }

module _ {C R : Type 0} (D : Meaning C R) where
  -- what a claim answers
  abbrev pub claimed : Books C R → Claimed
  claimed l = if is_all_done D l then Finished else (if length l.out + length l.journal == l.budget then Spent else work (fresh D l))

  abbrev pub after : Books C R → Event R → Books C R
  after l Claim = with_work l (claimed l)
  after l (File n rules) = if is_among n l.out then with_filing l n rules else l
  after l (GiveBack n) = given_back l n
  after l Recall = recalled l

  abbrev pub after_all : Books C R → List (Event R) → Books C R
  after_all l [] = l
  after_all l (e ∷ events) = after_all (after l e) events

abbrev pub new_books : {C R : Type 0} → C → ℕ → ℕ → Books C R
new_books root budget rulebook = record { root = root; budget = budget; rulebook = rulebook; rules = []; journal = []; out = [] }
