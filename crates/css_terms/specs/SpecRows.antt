-- The rows of a specification's entries.
use Rattle.std.specs.Prelude.{List, map, zip}
use Rattle.css_domain.specs.Meanings.{Meaning}
use Rattle.css_domain.specs.Entries.{Entry, IsSpec, AllHold, class_counts}
use Rattle.css_terms.specs.declared.rows.Row.{Row}
use Rattle.css_terms.specs.Rows.{AreGoodRows, AreRowCounts}

module _ {C R : Type 0} (D : Meaning C R) where
  -- the shape of its rule, the places of the children with their positivity, and its rank
  abbrev pub row_of : Entry C R → Row
  row_of e = record { shape = D.shape e.rule; children = zip e.children (map D.positive (D.children e.rule)); rank = e.rank }

  abbrev pub rows_of : List (Entry C R) → List Row
  rows_of entries = map row_of entries

  -- the rows of a specification whose rules hold can be evaluated, and the counts of its classes combine over them
  pub record AreSpecRows (entries : List (Entry C R)) : Type 0 where
    pub good : AreGoodRows (rows_of entries)
    pub counts : AreRowCounts (rows_of entries) (class_counts D entries)

  abbrev pub SpecsHaveRows : Type 0
  SpecsHaveRows = (entries : List (Entry C R)) → IsSpec D entries → AllHold D entries → AreSpecRows entries
