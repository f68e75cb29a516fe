-- A class that stands has a record whose children stand.
use Rattle.std.specs.Prelude.{◌≡◌, ◌<◌, ℕ, List, length, slice_index}
use Rattle.std.proofs.Common.{subst, sym, ◌∙◌}
use Rattle.css_domain.specs.declared.record.Record.{Record}
use Rattle.css_domain.specs.Records.{numbers}
use Rattle.css_domain.specs.Standing.{Ranked, Stands}
use Rattle.lists.specs.Members.{IsIn}
use Rattle.lists.proofs.Members.{IsIn-map, from_IsIn-map}

pub record StandsBy (records : List Record) (c : ℕ) : Type 0 where
  pub by_record : Record
  pub recorded : IsIn by_record records
  pub own : by_record.parent ≡ c
  pub children : (slot : ℕ) → slot < length (numbers by_record) → Stands records (slice_index (numbers by_record) slot)

pub stands_of : {records : List Record} {c d : ℕ} (s : Stands records c) (u : Ranked) → IsIn u s.triples → u.class ≡ d → Stands records d
stands_of {records} s u h e = subst (λ n. Stands records n) e (record { triples = s.triples; support = s.support; there = IsIn-map (λ (t : Ranked). t.class) h })

pub stands_by : (records : List Record) (c : ℕ) → Stands records c → StandsBy records c
stands_by records c s =
    let t = from_IsIn-map (λ (u : Ranked). u.class) s.triples s.there in
    record {
      by_record = t.0.by_record;
      recorded = s.support.recorded t.0 t.1;
      own = (s.support.rests t.0 t.1).own ∙ sym t.2;
      children = λ slot h. let u = (s.support.rests t.0 t.1).child slot h in stands_of s u.0 u.1 u.2;
    }
