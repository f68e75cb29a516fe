-- The ledger's records are within its classes.
use Rattle.std.proofs.Common.{◌≡◌, ℕ, List, length, ap, subst}
use Rattle.std.specs.Prelude.{Result, Ok, Err, IfOk, slice_index}
use Rattle.css_domain.specs.declared.record.Record.{Record}
use Rattle.css_domain.specs.Ledgers.{Counts, classes}
use Rattle.css_domain.specs.Standing.{TellsStanding, rank_of, pick_of}
use Rattle.css_prune.specs.declared.pruned.Pruned.{Pruned}
use Rattle.css_prune.specs.Pruning.{IsPruned, HasLength, kept}
use Rattle.css_crew.proofs.alone.standing.Goals as goal

pub prune-requires : goal.prune-requires
prune-requires g c =
    let k = ap (λ (n : Counts). n.classes) c.counts-classes.ensures.answer in
    record { within = rw (c.requires.pushed, k) c.counts-classes.ensures.sizes.records_are_within }

-- the clauses of pruning as one
pruned_of : {E : Type 0} (r : Result Pruned E) (rs : List Record) (n : ℕ) → IfOk r (λ p. HasLength n p) → IfOk r (λ p. TellsStanding rs (kept p.keep)) → IfOk r (λ p. (c : ℕ) → slice_index p.rank c ≡ rank_of (kept p.keep) rs c) → IfOk r (λ p. (c : ℕ) → slice_index p.pick c ≡ pick_of (kept p.keep) rs c) → IfOk r (λ p. IsPruned rs n p)
pruned_of (Ok p) rs n a s k q = record { as_many = a; standing = s; ranked = k; picked = q }
pruned_of (Err e) rs n a s k q = tt

pub returns-clause-pruned : goal.returns-clause-pruned
returns-clause-pruned g c =
    let k = ap (λ (n : Counts). n.classes) c.counts-classes.ensures.answer in
    let p = c.prune.ensures in
    subst (λ (rs : List Record). IfOk c.prune.result (λ p. IsPruned rs (length (classes g.D.Domain.meaning c.args.ledger.now)) p)) c.requires.pushed
    (subst (λ (n : ℕ). IfOk c.prune.result (λ p. IsPruned c.args.pruner.now n p)) k
    (pruned_of c.prune.result c.args.pruner.now _ p.as_many p.standing p.ranked p.picked))
