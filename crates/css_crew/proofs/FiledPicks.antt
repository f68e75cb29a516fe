-- The rules of the picked specification are filed.
use Rattle.std.proofs.Common.{◌≡◌, true, List, length}
use Rattle.std.specs.Prelude.{slice_get, Some}
use Rattle.css_domain.specs.Meanings.{Meaning}
use Rattle.css_domain.specs.Added.{order_from}
use Rattle.css_domain.specs.Ledgers.{Books, classes}
use Rattle.css_domain.specs.LedgerFacts.{IsLedger}
use Rattle.css_domain.specs.Entries.{Entry, IsPickOf, Picked, picked_children}
use Rattle.css_domain.specs.FiledSpecs.{IsFiledSpec}
use Rattle.css_prune.proofs.Picks.{picked_is_valid}
use Rattle.lists.proofs.Places.{IsIn-slice_get, place_of, zip_back}

pub picked_is_filed : {C R : Type 0} (D : Meaning C R) → ((c : C) → D.same c c ≡ true) → ((a b : C) → D.same a b ≡ true → a ≡ b) → (l : Books C R) (entries : List (Entry C R)) → IsLedger D l → slice_get (classes D l) 0 ≡ Some l.root → Picked D l 0 entries → IsFiledSpec D l entries
picked_is_filed {C} {R} D own exact l entries is first picked =
    record {
      valid = picked_is_valid D own exact l 0 entries l.root is picked first;
      filed = λ e i.
          let p = place_of entries e i in
          let z = zip_back (λ c d. IsPickOf D l picked.K (order_from 0 (picked_children D l picked.K) (length (classes D l))) c d) (order_from 0 (picked_children D l picked.K) (length (classes D l))) entries p.0 e picked.picks p.1 in
          IsIn-slice_get l.rules _ e.rule z.2.rule;
    }
