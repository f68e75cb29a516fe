-- The words of the children.
use Rattle.std.proofs.Common.{◌<◌, ◌+◌, ℕ, List, length, get_or, ap, ◌∙◌, arith}
use Rattle.css_prune.proofs.AmongWords.{child_told, child_narrow}
use Rattle.css_prune.proofs.reading.read_children.Goals as goal

pub overflow_cast-word : goal.overflow_cast-word
overflow_cast-word c =
    let r = c.requires.there.0 in
    let stands = c.requires.there.1 in
    let slot = c.loop-slot.slot in
    let inside : slot < length r.children = omega (arith, c.requires.there.2, c.loop-slot-test.true) in
    let read = c.word-word.ensures.word ∙ ap (λ (ws : List ℕ). get_or ws (c.args.at + 2 + slot) 0) c.loop-slot.invariant.words ∙ stands.child slot inside in
    let told = child_told c.word-word.result _ _ read in
    omega (arith, told.0, child_narrow r stands.narrow slot inside)
