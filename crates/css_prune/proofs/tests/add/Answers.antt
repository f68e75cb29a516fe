use Rattle.std.proofs.Common.{◌<◌, ℕ, Bool, List, length, sym, subst, ◌∙◌, arith, ⊎_elim}
use Rattle.std.specs.Prelude.{map, slice_index}
use Rattle.std.proofs.lemmas.List.{length-map}
use Rattle.lists.specs.Members.{IsIn}
use Rattle.lists.proofs.Members.{IsIn-append_cases, only_in}
use Rattle.css_domain.specs.declared.record.Record.{Record}
use Rattle.css_domain.specs.Records.{IsWithin}
use Rattle.css_prune.specs.Marks.{AreBelow}
use Rattle.css_prune.proofs.tests.add.Goals as goal

pub returns : goal.returns
returns c =
    let children = c.of.result in
    let below = subst (λ (xs : List (ℕ × Bool)). AreBelow c.args.classes xs) (sym (c.of.ensures ∙ c.in_ok-copied.ensures.items)) (c.are_below.ensures c.if-not-are_below.false) in
    let item : Record = record { parent = c.args.parent; shape = c.args.shape; children = children } in
    let within : IsWithin c.args.classes item = record { own = c.if-parent-classes.false; child = λ slot h. let many = length-map children (λ (x : ℕ × Bool). x.0) in below slot (omega (arith, h, many)) } in
    λ r i.
    ⊎_elim {C = IsWithin c.args.classes r} (λ old. c.requires r old) (λ new. subst (λ (x : Record). IsWithin c.args.classes x) (sym (only_in new)) within)
    (IsIn-append_cases c.args.records.now.items _ (subst (λ (xs : List Record). IsIn r xs) c.in_ok-push.ensures.items i))
