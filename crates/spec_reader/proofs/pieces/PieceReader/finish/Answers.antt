use Rattle.std.proofs.Common.{Err, refl, sym, subst}
use Rattle.spec_reader.specs.Ends.{IsAnswered}
use Rattle.spec_reader.specs.Pieces.{IsOnItsWay, IsReadUpTo, HasReadBytes}
use Rattle.spec_reader.proofs.Cutting.{stuck_is_answered}
use Rattle.spec_reader.proofs.pieces.PieceReader.finish.Goals as goal

pub returns-then-self-clause-answered : goal.returns-then-self-clause-answered
returns-then-self-clause-answered c = λ bytes h.
    let r = c.self.inside in
    let read = subst (HasReadBytes bytes) (sym c.self.view_is) h in
    subst (λ f. IsAnswered bytes (Err f)) (sym c.next_line_is_wrong.ensures)
    (stuck_is_answered bytes r.reader _ (subst (λ b. IsReadUpTo b bytes r.rest.items r.reader) c.if-self.true read.upto) refl)

pub returns-then-self-clause-some : goal.returns-then-self-clause-some
returns-then-self-clause-some c =
    let r = c.self.inside in
    let bytes = c.self.invariant.bytes in (
      bytes,
      subst (λ f. IsAnswered bytes (Err f)) (sym c.next_line_is_wrong.ensures)
          (stuck_is_answered bytes r.reader _ (subst (λ b. IsReadUpTo b bytes r.rest.items r.reader) c.if-self.true c.self.invariant.read.upto) refl),
    )

pub returns-clause-some : goal.returns-clause-some
returns-clause-some c =
    let r = c.self.inside in
    let bytes = c.self.invariant.bytes in
    let way = subst (λ b. IsReadUpTo b bytes r.rest.items r.reader) c.if-self.false c.self.invariant.read.upto in
    (bytes, c.read_rest.ensures bytes (subst (λ t. IsOnItsWay bytes t r.reader) (sym c.as_slice.ensures.value) way))
