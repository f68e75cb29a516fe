use Rattle.spec_text.proofs.file.finish_spec.Goals as goal

pub returns : goal.returns
returns c = λ bytes h. c.join_text.ensures bytes (c.in_ok-text.ensures.answered bytes h)
