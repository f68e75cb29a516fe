use Rattle.std.proofs.Common.{◌++◌, rules, sym, subst}
use Rattle.spec_reader.specs.Pieces.{HasReadBytes}
use Rattle.spec_reader.proofs.Feeding.{still_stuck}
use Rattle.spec_reader.proofs.pieces.PieceReader.feed.Goals as goal

pub invariant_of-self : goal.invariant_of-self
invariant_of-self c =
    let r = c.self.inside in
    record {
      kept = search rules;
      few = search rules;
      bytes = c.self.invariant.bytes ++ c.args.piece.now;
      read = still_stuck c.self.invariant.bytes r.rest.items c.args.piece.now r.reader r.is_stuck r.many c.if-self.true c.self.invariant.read;
    }

pub returns-then-self-clause-read : goal.returns-then-self-clause-read
returns-then-self-clause-read c =
    let r = c.self.inside in
    λ bytes h.
    still_stuck bytes r.rest.items c.args.piece.now r.reader r.is_stuck r.many c.if-self.true (subst (HasReadBytes bytes) (sym c.self.view_is) h)
