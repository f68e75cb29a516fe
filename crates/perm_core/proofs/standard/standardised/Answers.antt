use Rattle.std.proofs.Common.{◌≡◌, ◌<◌, take, length, length-set, arith, subst, sym, List, ℕ}
use Rattle.patterns.specs.Ranks.{standardised}
use Rattle.perm_core.specs.Perms.{IsPerm}
use Rattle.perm_core.proofs.Standards.{rank_next, ranks_whole, standardised_perm}
use Rattle.perm_core.proofs.standard.standardised.Goals as goal

pub loop-place-preserved : goal.loop-place-preserved
loop-place-preserved c =
    let room : c.loop-place.place < length c.loop-place.letters = omega arith in
    record {
      ranked = rank_next c.loop-place.letters c.args.digits.now c.loop-place.place c.rank.result room (omega arith) c.rank.ensures c.loop-place.invariant.ranked;
      long = simp length-set (c.loop-place.invariant.long);
    }

pub with_letters-requires-clause-perm : goal.with_letters-requires-clause-perm
with_letters-requires-clause-perm c =
    let whole : take (length c.args.digits.now) c.loop-place.letters ≡ standardised c.args.digits.now = ranks_whole c.loop-place.letters c.args.digits.now c.loop-place.place (omega arith) c.loop-place.invariant.ranked in
    subst (λ (l : List ℕ). IsPerm l) (sym whole) (standardised_perm c.args.digits.now c.requires.distinct)
