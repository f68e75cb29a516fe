use Rattle.std.proofs.Common.{◌≡◌, Some, All, map, take}
use Rattle.sequences.specs.Bounds.{IsFew}
use Rattle.spec_text.specs.Joining.{family_of}
use Rattle.spec_text.proofs.families.families.Given as goal

abbrev pub invariant-loop-draft : goal.invariant-loop-draft
invariant-loop-draft l = record {
  classes : map (λ family. map Some family) l.families.items ≡ map (λ d. family_of l.drafts d.children) (take l.draft-index l.drafts);
  few : All (λ family. IsFew family) l.families.items;
}
