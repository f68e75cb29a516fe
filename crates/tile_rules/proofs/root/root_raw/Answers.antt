use Rattle.tile_rules.proofs.root.root_raw.Goals as goal

pub returns-clause-counts : goal.returns-clause-counts
returns-clause-counts c = λ n. rw c.in_ok-tiling.ensures (c.root_counts_avoiders.ensures c.args.basis.now n)
