-- The rows of a specification.
use Rattle.std.proofs.Common.{◌≡◌, ℕ, zero, suc, ◌<◌, Bool, true, List, [], ◌∷◌, length, refl, sym, ap, ◌∙◌, subst}
use Rattle.std.specs.Prelude.{IsTrue, map, zip, slice_get, slice_index, Some}
use Rattle.std.proofs.lemmas.List.{length-map}
use Rattle.std.proofs.lemmas.Option.{slice_get-map, slice_get_within}
use Rattle.std.proofs.lemmas.Slice.Zip.{firsts-zip, seconds-zip}
use Rattle.css_domain.specs.Shapes.{combine, is_same_length}
use Rattle.css_domain.specs.Meanings.{Meaning}
use Rattle.css_domain.specs.Entries.{Entry, IsSpec, AllHold, IsLinked, class_counts, ClassCountsCombine}
use Rattle.css_domain.proofs.Determined.{flag_of}
use Rattle.css_terms.specs.declared.rows.Row.{Row}
use Rattle.css_terms.specs.Rows.{IsGoodRow, AreRowCounts, flags}
use Rattle.css_terms.specs.Series.{places}
use Rattle.css_terms.specs.SpecRows.{row_of, rows_of, AreSpecRows, SpecsHaveRows}
use Rattle.lists.proofs.Places.{IsIn-slice_get, get_index}

same_item : {X : Type 0} (x y : X) → Some x ≡ Some y → x ≡ y
same_item x y h = cc

module _ {C R : Type 0} (D : Meaning C R) where
  -- each row is that of an entry
  record IsRowAt (entries : List (Entry C R)) (i : ℕ) (row : Row) : Type 0 where
    entry : Entry C R
    at : slice_get entries i ≡ Some entry
    same : row_of D entry ≡ row

  row_at : (entries : List (Entry C R)) (i : ℕ) (row : Row) → slice_get (rows_of D entries) i ≡ Some row → IsRowAt entries i row
  row_at [] i row h = absurd cc
  row_at (e ∷ entries) zero row h = record { entry = e; at = refl; same = same_item (row_of D e) row h }
  row_at (e ∷ entries) (suc i) row h = let found = row_at entries i row h in record { entry = found.entry; at = found.at; same = found.same }

  module _ (entries : List (Entry C R)) (spec : IsSpec D entries) where
    module _ (e : Entry C R) (linked : IsLinked D entries e) where
      as_many : length (map D.positive (D.children e.rule)) ≡ length e.children
      as_many = length-map (D.children e.rule) D.positive ∙ sym linked.as_many

      places_are : places (row_of D e).children ≡ e.children
      places_are = firsts-zip e.children (map D.positive (D.children e.rule)) as_many

      flags_are : flags (row_of D e).children ≡ map D.positive (D.children e.rule)
      flags_are = seconds-zip e.children (map D.positive (D.children e.rule)) as_many

      below : (slot : ℕ) → slot < length e.children → slice_index e.children slot < length (rows_of D entries)
      below slot h = let named = linked.child slot h in rw (length-map entries (row_of D)) (slice_get_within entries (slice_index e.children slot) named.named named.there)

      ranks : (slot place : ℕ) (child : Row) → slice_get e.children slot ≡ Some place → slice_get (rows_of D entries) place ≡ Some child → IsTrue (is_same_length (D.shape e.rule) (map D.positive (D.children e.rule)) slot) → child.rank < e.rank
      ranks slot place child at there keeps =
          let p = get_index e.children slot place at in
          let named = linked.child slot p.1 in
          let found = row_at entries place child there in
          let there : slice_get entries place ≡ Some named.named = subst (λ k. slice_get entries k ≡ Some named.named) p.0 named.there in
          let same : found.entry ≡ named.named = same_item found.entry named.named (sym found.at ∙ there) in
          let rank : child.rank ≡ named.named.rank = ap (λ (r : Row). r.rank) (sym found.same) ∙ ap (λ (d : Entry C R). d.rank) same in
          rw rank (named.rank keeps)

      good_row : IsGoodRow (rows_of D entries) (row_of D e)
      good_row =
          record {
            below = subst (λ ks. (slot : ℕ) → slot < length ks → slice_index ks slot < length (rows_of D entries)) (sym places_are) below;
            ranks = λ slot place child at there keeps. ranks slot place child (subst (λ ks. slice_get ks slot ≡ Some place) places_are at) there (subst (λ fs. IsTrue (is_same_length (D.shape e.rule) fs slot)) flags_are keeps);
          }

    module _ (hold : AllHold D entries) (combine_in : ClassCountsCombine D) where
      row_counts : AreRowCounts (rows_of D entries) (class_counts D entries)
      row_counts = record { combined = combined; none_of_length_0 = none }
        where
          combined : (i n : ℕ) (row : Row) → slice_get (rows_of D entries) i ≡ Some row → class_counts D entries i n ≡ combine row.shape (map (class_counts D entries) (places row.children)) n
          combined i n row h =
              let found = row_at entries i row h in
              let good = spec.linked found.entry (IsIn-slice_get entries i found.entry found.at) in
              subst (λ r. class_counts D entries i n ≡ combine r.shape (map (class_counts D entries) (places r.children)) n) found.same
              (subst (λ ks. class_counts D entries i n ≡ combine (D.shape found.entry.rule) (map (class_counts D entries) ks) n) (sym (places_are found.entry good)) ((combine_in entries spec hold).0 i n found.entry found.at))

          none : (i slot place : ℕ) (row : Row) → slice_get (rows_of D entries) i ≡ Some row → slice_get row.children slot ≡ Some (place, true) → class_counts D entries place 0 ≡ 0
          none i slot place row h at =
              let found = row_at entries i row h in
              let e : Entry C R = found.entry in
              let good = spec.linked e (IsIn-slice_get entries i e found.at) in
              let child : slice_get (row_of D e).children slot ≡ Some (place, true) = subst (λ (r : Row). slice_get r.children slot ≡ Some (place, true)) (sym found.same) at in
              let first : slice_get (places (row_of D e).children) slot ≡ Some place = slice_get-map (λ (p : ℕ × Bool). p.0) (row_of D e).children slot ∙ rw child refl in
              let second : slice_get (flags (row_of D e).children) slot ≡ Some true = slice_get-map (λ (p : ℕ × Bool). p.1) (row_of D e).children slot ∙ rw child refl in
              let p = get_index e.children slot place (subst (λ ks. slice_get ks slot ≡ Some place) (places_are e good) first) in
              let named = good.child slot p.1 in
              let there : slice_get entries place ≡ Some named.named = subst (λ k. slice_get entries k ≡ Some named.named) p.0 named.there in
              (combine_in entries spec hold).1 place named.named there (flag_of D entries spec.linked e slot true named (subst (λ fs. slice_get fs slot ≡ Some true) (flags_are e good) second) refl)

      spec_rows : AreSpecRows D entries
      spec_rows =
          record {
            good = λ i row h. let found = row_at entries i row h in subst (λ r. IsGoodRow (rows_of D entries) r) found.same (good_row found.entry (spec.linked found.entry (IsIn-slice_get entries i found.entry found.at)));
            counts = row_counts;
          }

pub specs_have_rows : {C R : Type 0} (D : Meaning C R) → ClassCountsCombine D → SpecsHaveRows D
specs_have_rows D combine_in entries spec hold = spec_rows D entries spec hold combine_in
