use Rattle.spec_text.proofs.file.read_spec.Goals as goal

pub returns : goal.returns
returns c = c.join_text.ensures c.args.bytes.now c.in_ok-text.ensures
