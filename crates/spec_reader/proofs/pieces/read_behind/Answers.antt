use Rattle.std.proofs.Common.{◌≡◌, ◌++◌, rules, sym, subst, ◌∙◌}
use Rattle.spec_reader.specs.Pieces.{IsOnItsWay}
use Rattle.spec_reader.proofs.Feeding.{stuck_of, way_of, way_more, left_is}
use Rattle.spec_reader.proofs.pieces.read_behind.Goals as goal

pub returns-then-is_stuck-clause-read : goal.returns-then-is_stuck-clause-read
returns-then-is_stuck-clause-read c =
    let kept : c.args.rest.now.items ++ c.args.piece.now ≡ c.as_slice.result.now = search rules in
    λ bytes w.
    stuck_of _ _ _ c.take_lines-stop.result.1 (sym c.is_stuck.ensures ∙ c.if-is_stuck.true)
    (c.take_lines-stop.ensures.taken (bytes ++ c.args.piece.now) (subst (λ t. IsOnItsWay (bytes ++ c.args.piece.now) t c.args.reader.now) kept (way_more bytes c.args.rest.now.items c.args.piece.now c.args.reader.now w)))

pub returns-clause-read : goal.returns-clause-read
returns-clause-read c =
    let kept : c.args.rest.now.items ++ c.args.piece.now ≡ c.as_slice.result.now = search rules in
    let left : c.take_lines-stop.result.0.now ≡ c.drop_front.new.bytes.items = sym (left_is _ _ c.take_lines-stop.ensures.left) ∙ search rules in
    λ bytes w.
    subst (λ t. IsOnItsWay (bytes ++ c.args.piece.now) t c.take_lines-stop.new.reader) left
    (way_of _ _ _ c.take_lines-stop.result.1 (sym c.is_stuck.ensures ∙ c.if-is_stuck.false)
    (c.take_lines-stop.ensures.taken (bytes ++ c.args.piece.now) (subst (λ t. IsOnItsWay (bytes ++ c.args.piece.now) t c.args.reader.now) kept (way_more bytes c.args.rest.now.items c.args.piece.now c.args.reader.now w))))
