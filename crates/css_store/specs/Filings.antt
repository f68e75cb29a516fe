-- Which filings a desk takes in.
use Rattle.std.specs.Prelude.{ℕ, Bool, false, ◌&&◌, List, Option, Some, None, slice_get}
use Rattle.std.specs.List.{list_all}
use Rattle.css_domain.specs.Meanings.{Meaning}
use Rattle.css_domain.specs.Ledgers.{Books, classes, is_among}
use Rattle.css_domain.specs.LedgerFacts.{IsFilingOf}

module _ {C R : Type 0} (D : Meaning C R) where
  -- the rules are a filing of some class: each holds and makes it, rules that are there are complete for the rulebook, and they have at most 2,048 words
  abbrev pub IsFiling : ℕ → List R → Type 0
  IsFiling rulebook rules = (c : C) × IsFilingOf D rulebook c rules

  abbrev pub is_class : Option C → C → Bool
  is_class None c = false
  is_class (Some d) c = D.same c d

  -- the class of the number is out, and each rule makes it
  abbrev pub may_file : Books C R → ℕ → List R → Bool
  may_file l n rules = is_among n l.out && list_all (λ r. is_class (slice_get (classes D l) n) (D.parent r)) rules
