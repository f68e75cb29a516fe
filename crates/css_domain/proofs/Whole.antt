-- Words of whole records, one after another.
use Rattle.std.proofs.Common.{ℕ, List, [], ◌∷◌, ◌++◌, refl, ◌∙◌, append-nil, ⊎_elim}
use Rattle.std.proofs.lemmas.Grind.{flat_map-append}
use Rattle.css_domain.specs.declared.record.Record.{Record}
use Rattle.css_domain.specs.Records.{record_words}
use Rattle.lists.specs.Members.{IsIn}
use Rattle.lists.specs.Members.IsIn.{here, later}
use Rattle.lists.proofs.Members.{IsIn-append_cases}
use Rattle.css_domain.specs.WholeRecords.{IsNarrow, IsWhole}

pub whole_none : IsWhole []
whole_none = record { records = []; narrow = λ r h. elim h [ ]; told = refl }

pub whole_append : (xs ys : List ℕ) → IsWhole xs → IsWhole ys → IsWhole (xs ++ ys)
whole_append xs ys v w = record {
  records = v.records ++ w.records;
  narrow = λ r h. ⊎_elim (λ i. v.narrow r i) (λ i. w.narrow r i) (IsIn-append_cases v.records w.records h);
  told = flat_map-append record_words v.records w.records ∙ (λ i. v.told i ++ w.told i);
}

pub whole_one : (r : Record) → IsNarrow r → IsWhole (record_words r)
whole_one r narrow = record { records = r ∷ []; narrow = λ s h. only s h; told = append-nil (record_words r) }
  where
    only : (s : Record) → IsIn s (r ∷ []) → IsNarrow s
    only _ (here) = narrow
    only s (later _ h) = elim h [ ]
