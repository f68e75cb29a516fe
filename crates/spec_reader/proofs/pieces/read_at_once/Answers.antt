use Rattle.std.proofs.Common.{◌≡◌, ◌++◌, rules, sym, subst, ◌∙◌}
use Rattle.spec_reader.specs.Pieces.{IsOnItsWay}
use Rattle.spec_reader.proofs.Feeding.{stuck_of, way_of, way_at_once}
use Rattle.spec_reader.proofs.pieces.read_at_once.Goals as goal

pub returns-then-is_stuck-clause-read : goal.returns-then-is_stuck-clause-read
returns-then-is_stuck-clause-read c = λ bytes w.
    stuck_of _ _ _ c.take_lines-stop.result.1 (sym c.is_stuck.ensures ∙ c.if-is_stuck.true)
    (c.take_lines-stop.ensures.taken (bytes ++ c.args.piece.now) (way_at_once bytes c.args.rest.now.items c.args.piece.now c.args.reader.now c.requires.nothing w))

pub returns-clause-read : goal.returns-clause-read
returns-clause-read c =
    let left : c.take_lines-stop.result.0.now ≡ c.extend_from_slice.new.self.items = search rules in
    λ bytes w.
    subst (λ t. IsOnItsWay (bytes ++ c.args.piece.now) t c.take_lines-stop.new.reader) left
    (way_of _ _ _ c.take_lines-stop.result.1 (sym c.is_stuck.ensures ∙ c.if-is_stuck.false)
    (c.take_lines-stop.ensures.taken (bytes ++ c.args.piece.now) (way_at_once bytes c.args.rest.now.items c.args.piece.now c.args.reader.now c.requires.nothing w)))
