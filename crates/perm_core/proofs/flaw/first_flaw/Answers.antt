use Rattle.std.proofs.Common.{◌≡◌, ◌∙◌, ◌<◌, true, false, sym, arith, get_or, length}
use Rattle.perm_core.specs.Basis.{is_separator, is_wrong_at}
use Rattle.perm_core.specs.Flaws.{wrong_by}
use Rattle.perm_core.proofs.WordsRead.{read_more, read_anew, separator_is_right, is_right}
use Rattle.perm_core.proofs.flaw.first_flaw.Goals as goal
use Rattle.perm_core.proofs.flaw.first_flaw.Goals.{then-is_separator, else-is_separator+else-has_flaw}
use Rattle.lists.proofs.Numbers.{up_to_next}

pub loop-place-preserved : goal.loop-place-preserved
loop-place-preserved c =
    let within : c.loop-place.place < length c.args.text.now = omega arith in
    elim c.if-is_separator.branch [
      | then-is_separator w ↦
          let between : is_separator (get_or c.args.text.now c.loop-place.place 0) ≡ true = sym c.is_separator.ensures ∙ w.if-is_separator.true in
          record {
            begun = omega (arith, w.start-is);
            read = rw w.start-is (read_anew c.args.text.now c.loop-place.place within between);
            right = up_to_next (λ k. is_wrong_at (wrong_by c.args.flaw) c.args.text.now k ≡ false) c.loop-place.place c.loop-place.invariant.right (separator_is_right (wrong_by c.args.flaw) c.args.text.now c.loop-place.place between);
          }
      | else-is_separator+else-has_flaw w ↦
          let between : is_separator (get_or c.args.text.now c.loop-place.place 0) ≡ false = sym c.is_separator.ensures ∙ w.if-is_separator.false in
          record {
            begun = omega (arith, w.start-is);
            read = rw w.start-is (read_more c.args.text.now c.loop-place.start c.loop-place.place c.loop-place.invariant.begun within c.loop-place.invariant.read between);
            right = up_to_next (λ k. is_wrong_at (wrong_by c.args.flaw) c.args.text.now k ≡ false) c.loop-place.place c.loop-place.invariant.right (is_right (wrong_by c.args.flaw) c.args.text.now _ c.loop-place.place c.loop-place.invariant.read (sym w.has_flaw.ensures ∙ w.if-has_flaw.false));
          }
    ]
