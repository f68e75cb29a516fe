-- The ledger machine on the records of the first list, whose classes are their own numbers.
use Rattle.std.specs.Prelude.{◌≡◌, ℕ, zero, suc, ◌==◌, ◌<◌, true, false, List, [], ◌∷◌, flat_map, refl, length, slice_index, nat_eq}
use Rattle.std.proofs.Common.{arith, inl, inr}
use Rattle.lists.specs.Members.IsIn.{here, later}
use Rattle.lists.proofs.Members.{none_in}
use Rattle.lists.specs.Members.{IsIn}
use Rattle.css_domain.specs.declared.shape.Shape.TheVariants.{Union, Atom}
use Rattle.css_domain.specs.declared.record.Record.{Record}
use Rattle.css_domain.specs.Records.{numbers, record_words}
use Rattle.css_domain.specs.Meanings.{Meaning}
use Rattle.css_domain.specs.Added.{order_from}
use Rattle.css_domain.specs.Entries.{Entry, Picked, picked_children}
use Rattle.css_domain.specs.Standing.{Stands}
use Rattle.css_domain.specs.Ledgers.{Books, classes, records, counts, new_books, after_all, after, claimed, fresh, after_filings}
use Rattle.css_domain.specs.Ledgers.Claimed.{Finished, Spent, Work, Idle}
use Rattle.css_domain.specs.Ledgers.Event.{Claim, File, GiveBack, Recall}
use Rattle.css_domain.specs.Reasons.{Alone, Stops}
use Rattle.css_domain.proofs.Rows.{rec, records2, below}
use Rattle.css_domain.proofs.StandingLaws.{stands_by}
use Rattle.css_domain.proofs.StandingRows.{stands2, tells2, distinct2}

abbrev pub by_number : Meaning ℕ Record
by_number = record { same = nat_eq; positive = λ c. c == 2; count = λ c n. 0; parent = λ r. r.parent; children = λ r. numbers r; shape = λ r. r.shape; holds = λ r. Unit {0}; complete = λ rulebook c rules. Unit {0} }

abbrev pub insertion : Record
insertion = rec 0 Union ((1, false) ∷ (2, true) ∷ [])

abbrev pub empty_one : Record
empty_one = rec 1 (Atom 0) []

abbrev pub point : Record
point = rec 2 (Atom 1) []

abbrev pub start : Books ℕ Record
start = new_books 0 5 0

abbrev pub end : Books ℕ Record
end = after_all by_number start (Claim ∷ File 0 (insertion ∷ []) ∷ Claim ∷ File 1 (empty_one ∷ []) ∷ Claim ∷ File 2 (point ∷ []) ∷ [])

first_claim : claimed by_number start ≡ Work 0
first_claim = refl

classes2 : classes by_number end ≡ (0 ∷ 1 ∷ 2 ∷ [])
classes2 = refl

counts2 : counts by_number end ≡ record { expanded = 3; classes = 3; rules = 3 }
counts2 = refl

classes_after_root : classes by_number (after_filings by_number 1 end) ≡ (0 ∷ 1 ∷ 2 ∷ [])
classes_after_root = refl

journal2 : end.journal ≡ ((0, 1) ∷ (1, 1) ∷ (2, 1) ∷ [])
journal2 = refl

out2 : end.out ≡ []
out2 = refl

finished : claimed by_number end ≡ Finished
finished = refl

whole : after_filings by_number 3 end ≡ end
whole = refl

-- a filing of a number that isn't out changes nothing
not_out : after by_number end (File 1 (insertion ∷ [])) ≡ end
not_out = refl

given_back : fresh by_number (after_all by_number start (Claim ∷ GiveBack 0 ∷ [])) ≡ (0 ∷ [])
given_back = refl

spent : claimed by_number (after by_number (new_books 0 1 0) Claim) ≡ Spent
spent = refl

idle : claimed by_number (after by_number (new_books 0 2 0) Claim) ≡ Idle
idle = refl

ledger_records : records by_number end ≡ records2
ledger_records = refl

words_after_root : flat_map record_words (records by_number (after_filings by_number 1 end)) ≡ (0 ∷ 2 ∷ 2 ∷ 5 ∷ [])
words_after_root = refl

order2 : order_from 0 (picked_children by_number end (below 3)) 3 ≡ (0 ∷ 1 ∷ 2 ∷ [])
order2 = refl

recalled : (after_all by_number start (Claim ∷ Recall ∷ [])) ≡ start
recalled = refl

-- numbers given back are claimed again, in order
in_order_again : (after_all by_number (record end { journal = (0, 3) ∷ []; budget = 9 }) (Claim ∷ Claim ∷ GiveBack 1 ∷ Claim ∷ [])).out ≡ (1 ∷ 2 ∷ [])
in_order_again = refl

abbrev entry : Record → List ℕ → ℕ → Entry ℕ Record
entry r children rank = record { class = r.parent; rule = r; children = children; rank = rank }

abbrev pub entries2 : List (Entry ℕ Record)
entries2 = entry insertion (1 ∷ 2 ∷ []) 2 ∷ entry empty_one [] 1 ∷ entry point [] 1 ∷ []

pub picked2 : Picked by_number end 0 entries2
picked2 =
    record {
      K = below 3;
      standing = tells2;
      stands = refl;
      picks = (
        record { class = refl; rule = refl; by_record = _; recorded = refl; children = refl; rank = refl },
        (
          record { class = refl; rule = refl; by_record = _; recorded = refl; children = refl; rank = refl },
          (record { class = refl; rule = refl; by_record = _; recorded = refl; children = refl; rank = refl }, tt),
        ),
      );
    }

-- after the first filing the root's children have no record, and after the second its second child has none
no_record : (records : List Record) (c : ℕ) → ((r : Record) → IsIn r records → r.parent ≡ c → ⊥) → Stands records c → ⊥
no_record records c none s = let b = stands_by records c s in none b.by_record b.recorded b.own

not_1 : (r : Record) → IsIn r (insertion ∷ []) → r.parent ≡ 1 → ⊥
not_1 r here e = omega (arith, e)
not_1 r (later x h) e = absurd (none_in h)

by_first : (r : Record) → IsIn r (insertion ∷ []) → ((slot : ℕ) → slot < length (numbers r) → Stands (insertion ∷ []) (slice_index (numbers r) slot)) → Stands (insertion ∷ []) 1
by_first r here f = f 0 (omega arith)
by_first r (later x h) f = absurd (none_in h)

not_2 : (r : Record) → IsIn r (insertion ∷ empty_one ∷ []) → r.parent ≡ 2 → ⊥
not_2 r here e = omega (arith, e)
not_2 r (later x here) e = omega (arith, e)
not_2 r (later x (later y h)) e = absurd (none_in h)

by_second : (r : Record) → IsIn r (insertion ∷ empty_one ∷ []) → r.parent ≡ 0 → ((slot : ℕ) → slot < length (numbers r) → Stands (insertion ∷ empty_one ∷ []) (slice_index (numbers r) slot)) → Stands (insertion ∷ empty_one ∷ []) 2
by_second r here e f = f 1 (omega arith)
by_second r (later x here) e f = absurd (omega (arith, e))
by_second r (later x (later y h)) e f = absurd (none_in h)

not_yet : (k : ℕ) → k < 3 → Stops by_number (after_filings by_number k end) → ⊥
not_yet zero h (inl s) = no_record [] 0 (λ r i e. none_in i) s
not_yet zero h (inr (inl e)) = absurd cc
not_yet zero h (inr (inr e)) = omega (arith, e)
not_yet (suc zero) h (inl s) = let b = stands_by (insertion ∷ []) 0 s in no_record (insertion ∷ []) 1 not_1 (by_first b.by_record b.recorded b.children)
not_yet (suc zero) h (inr (inl e)) = absurd cc
not_yet (suc zero) h (inr (inr e)) = omega (arith, e)
not_yet (suc (suc zero)) h (inl s) = let b = stands_by (insertion ∷ empty_one ∷ []) 0 s in no_record (insertion ∷ empty_one ∷ []) 2 not_2 (by_second b.by_record b.recorded b.own b.children)
not_yet (suc (suc zero)) h (inr (inl e)) = absurd cc
not_yet (suc (suc zero)) h (inr (inr e)) = omega (arith, e)
not_yet (suc (suc (suc n))) h s = omega (arith, h)

pub alone2 : Alone by_number 0 5 0 end
alone2 =
    record {
      of_root = refl;
      of_budget = refl;
      of_rulebook = refl;
      none_out = refl;
      in_turn = refl;
      all_rules = refl;
      complete = record { once = distinct2; complete = λ n rules c h e. tt };
      stops = inl stands2;
      not_before = not_yet;
    }
