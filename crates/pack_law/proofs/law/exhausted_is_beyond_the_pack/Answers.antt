use Rattle.pack_law.proofs.Same.{complete_is_determined, complete_are_tried}
use Rattle.pack_law.proofs.Beyond.{spec_is_filed, no_spec, alone_is_filed, classes_are_normal, rules_are_tried}
use Rattle.pack_law.proofs.law.exhausted_is_beyond_the_pack.Goals as goal

pub returns : goal.returns
returns c =
    let total = c.traces_are_determined.ensures.total in
    let ends = c.traces_are_determined.ensures.ends in
    record {
      determined = complete_is_determined;
      tried = λ packs entries by e i. let f = by e i in complete_are_tried e.class packs f.0 f.1 e.rule f.2;
      filed = λ packs l entries x all valid tried. spec_is_filed total ends packs l entries x all valid tried;
      none = λ packs l entries x end valid tried. no_spec total ends packs l entries x end.1 valid tried end.0;
      normal = λ packs l x. classes_are_normal total ends packs l x;
      alone = alone_is_filed;
      found = λ packs l entries x spec e i. rules_are_tried total ends packs l x e.rule (spec.filed e i);
    }
