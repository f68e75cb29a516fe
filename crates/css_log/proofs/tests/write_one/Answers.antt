use Rattle.std.proofs.Common.{ℕ, Bool, true, false, List, [], ◌∷◌, ◌++◌, ◌<◌, arith, ap, sym, subst, ◌∙◌, ◌^◌}
use Rattle.css_domain.specs.declared.shape.Shape.TheVariants.{Union}
use Rattle.css_domain.specs.declared.record.Record.{Record}
use Rattle.lists.specs.Members.{IsIn}
use Rattle.lists.specs.Members.IsIn.{here, later}
use Rattle.css_domain.specs.WholeRecords.{IsNarrow, IsWhole}
use Rattle.css_log.specs.States.{WriterState}
use Rattle.css_domain.proofs.Whole.{whole_one, whole_append}
use Rattle.css_log.proofs.tests.write_one.Goals as goal

abbrev insertion : Record
insertion = record { parent = 0; shape = Union; children = (1, false) ∷ (2, true) ∷ [] }

narrow : IsNarrow insertion
narrow = record { own = omega arith; shape = tt; child = λ c h. each c h }
  where
    each : (c : ℕ × Bool) → IsIn c ((1, false) ∷ (2, true) ∷ []) → c.0 < 2 ^ 32
    each _ (here) = omega arith
    each _ (later _ (here)) = omega arith
    each c (later _ (later _ h)) = elim h [ ]

pub one_more : (words : List ℕ) → IsWhole words → IsWhole (words ++ 0 ∷ 2 ∷ 2 ∷ 5 ∷ [])
one_more words w = whole_append words (0 ∷ 2 ∷ 2 ∷ 5 ∷ []) w (whole_one insertion narrow)

pub publish-requires-clause-whole : goal.publish-requires-clause-whole
publish-requires-clause-whole c = subst IsWhole (sym (ap (λ (w : WriterState). w.list) c.append.ensures)) (one_more _ c.requires.whole)

pub returns-clause-whole : goal.returns-clause-whole
returns-clause-whole c = subst IsWhole (sym (ap (λ (w : WriterState). w.list) c.publish.ensures ∙ ap (λ (w : WriterState). w.list) c.append.ensures)) (one_more _ c.requires.whole)
