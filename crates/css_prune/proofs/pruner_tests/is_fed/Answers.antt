-- The words are those of three records, whose numbers are below 3.
use Rattle.std.proofs.Common.{◌≡◌, ◌<◌, ◌^◌, ℕ, zero, suc, Bool, true, false, List, [], ◌∷◌, ◌++◌, length, refl, sym, ap, subst, ◌∙◌, arith}
use Rattle.std.specs.Prelude.{slice_index}
use mathlib.Core.List.{IsPrefix}
use Rattle.css_domain.specs.declared.shape.Shape.TheVariants.{Union, Atom}
use Rattle.css_domain.specs.declared.record.Record.{Record}
use Rattle.css_domain.specs.Records.{numbers, words_of, IsWithin, AreWithin}
use Rattle.css_domain.specs.WholeRecords.{IsNarrow, IsWhole}
use Rattle.lists.specs.Members.{IsIn}
use Rattle.lists.specs.Members.IsIn.{here, later}
use Rattle.css_prune.proofs.pruner_tests.is_fed.Goals as goal

abbrev insertion : Record
insertion = record { parent = 0; shape = Union; children = (1, false) ∷ (2, true) ∷ [] }

abbrev empty : Record
empty = record { parent = 1; shape = Atom 0; children = [] }

abbrev point : Record
point = record { parent = 2; shape = Atom 1; children = [] }

narrow_insertion : IsNarrow insertion
narrow_insertion = record { own = omega arith; shape = tt; child = λ c h. each c h }
  where
    each : (c : ℕ × Bool) → IsIn c ((1, false) ∷ (2, true) ∷ []) → c.0 < 2 ^ 32
    each _ (here) = omega arith
    each _ (later _ (here)) = omega arith
    each c (later _ (later _ h)) = elim h [ ]

narrow_one : (r : Record) → IsIn r (insertion ∷ []) → IsNarrow r
narrow_one _ (here) = narrow_insertion
narrow_one r (later _ h) = elim h [ ]

narrow_all : (r : Record) → IsIn r (insertion ∷ empty ∷ point ∷ []) → IsNarrow r
narrow_all _ (here) = narrow_insertion
narrow_all _ (later _ (here)) = record { own = omega arith; shape = omega arith; child = λ c h. elim h [ ] }
narrow_all _ (later _ (later _ (here))) = record { own = omega arith; shape = omega arith; child = λ c h. elim h [ ] }
narrow_all r (later _ (later _ (later _ h))) = elim h [ ]

abbrev one : IsWhole (0 ∷ 2 ∷ 2 ∷ 5 ∷ [])
one = record { records = insertion ∷ []; narrow = narrow_one; told = refl }

abbrev all : IsWhole (0 ∷ 2 ∷ 2 ∷ 5 ∷ 4294967312 ∷ 0 ∷ 8589934609 ∷ 0 ∷ [])
all = record { records = insertion ∷ empty ∷ point ∷ []; narrow = narrow_all; told = refl }

within_insertion : IsWithin 3 insertion
within_insertion = record { own = omega arith; child = slots }
  where
    slots : (slot : ℕ) → slot < 2 → slice_index (1 ∷ 2 ∷ []) slot < 3
    slots zero h = omega arith
    slots (suc zero) h = omega arith
    slots (suc (suc slot)) h = absurd (omega arith)

within_one : AreWithin 3 (insertion ∷ [])
within_one _ (here) = within_insertion
within_one r (later _ h) = elim h [ ]

within_all : AreWithin 3 (insertion ∷ empty ∷ point ∷ [])
within_all _ (here) = within_insertion
within_all _ (later _ (here)) = record { own = omega arith; child = λ slot h. absurd (omega arith) }
within_all _ (later _ (later _ (here))) = record { own = omega arith; child = λ slot h. absurd (omega arith) }
within_all r (later _ (later _ (later _ h))) = elim h [ ]

pub take_all-requires-clause-whole : goal.take_all-requires-clause-whole
take_all-requires-clause-whole c = one

pub take_all-requires-clause-first : goal.take_all-requires-clause-first
take_all-requires-clause-first c = subst (λ (rs : List Record). IsPrefix (words_of rs) (0 ∷ 2 ∷ 2 ∷ 5 ∷ [])) (sym c.in_ok-pruner.ensures) ((0 ∷ 2 ∷ 2 ∷ 5 ∷ []), refl)

pub prune-requires : goal.prune-requires
prune-requires c = record { within = subst (λ (rs : List Record). AreWithin 3 rs) (sym (c.in_ok-first.ensures one)) within_one }

pub take_all-requires-2-clause-whole : goal.take_all-requires-2-clause-whole
take_all-requires-2-clause-whole c = all

pub take_all-requires-2-clause-first : goal.take_all-requires-2-clause-first
take_all-requires-2-clause-first c =
    subst (λ (rs : List Record). IsPrefix (words_of rs) (0 ∷ 2 ∷ 2 ∷ 5 ∷ 4294967312 ∷ 0 ∷ 8589934609 ∷ 0 ∷ [])) (sym (c.in_ok-first.ensures one)) ((4294967312 ∷ 0 ∷ 8589934609 ∷ 0 ∷ []), refl)

pub prune-requires-2 : goal.prune-requires-2
prune-requires-2 c = record { within = subst (λ (rs : List Record). AreWithin 3 rs) (sym (c.in_ok-second.ensures all)) within_all }
