-- Slot by slot.
use Rattle.std.proofs.Common.{◌≡◌, ℕ, Bool, List, false, length, arith, sym, ap, subst, ◌∙◌}
use Rattle.std.specs.Prelude.{map, slice_index_or}
use Rattle.std.proofs.lemmas.List.{length-map}
use Rattle.css_domain.specs.Records.{has_same_length}
use Rattle.css_domain.specs.Shapes.{is_same_length}
use Rattle.css_prune.specs.Waiting.{IsWaiting}
use Rattle.css_prune.proofs.Children.{child_number}
use Rattle.css_prune.proofs.Chains.{waits_next}
use Rattle.css_prune.proofs.waiting.wait_all.Goals as goal
use Rattle.css_prune.proofs.waiting.wait_all.Goals.{then-same_length+in_ok-wait, else-same_length}

pub wait-requires : goal.wait-requires
wait-requires c =
    let eq : c.as_slice-children.result.now ≡ c.args.item.now.children = c.as_slice-children.ensures in
    let as_many = ap length eq in
    let e = child_number c.args.item.now.children c.loop-slot.slot in
    let many = length-map c.args.item.now.children (λ (d : ℕ × Bool). d.0) in
    let within = c.requires.within.child c.loop-slot.slot (omega (arith, many, c.loop-slot-test.true, c.loop-slot.auto.slot-end, as_many)) in
    rw eq (omega (arith, e, within, c.loop-slot.invariant.as_many))

pub loop-slot-preserved : goal.loop-slot-preserved
loop-slot-preserved c =
    let r = c.args.item.now in
    let i = c.loop-slot.slot in
    let eq : c.as_slice-children.result.now ≡ r.children = c.as_slice-children.ensures in
    let e = child_number r.children i in
    elim c.if-same_length.branch [
      | then-same_length+in_ok-wait w ↦
          let ok = w.in_ok-wait.ensures in
          let own : IsWaiting w.wait.new.slots.items (slice_index_or c.as_slice-children.result.now i (0, false)).0 c.args.place = ok.waits in
          let there = subst (λ (cs : List (ℕ × Bool)). IsWaiting w.wait.new.slots.items (slice_index_or cs i (0, false)).0 c.args.place) eq own in
          rw (w.last-is, w.slots-is)
          (record {
            as_many = omega (arith, w.wait.auto.last, c.loop-slot.invariant.as_many);
            chained = λ count place a. ok.chained count place (c.loop-slot.invariant.chained count place a);
            old = λ d p k. ok.old d p (c.loop-slot.invariant.old d p k);
            waits = waits_next c.loop-slot.slots.items w.wait.new.slots.items c.args.place r i ok.old (λ same. subst (λ d. IsWaiting w.wait.new.slots.items d c.args.place) (sym e) there) c.loop-slot.invariant.waits;
          })
      | else-same_length w ↦
          let told = subst (λ (cs : List (ℕ × Bool)). c.same_length.result ≡ is_same_length r.shape (map (λ (d : ℕ × Bool). d.1) cs) i) eq c.same_length.ensures.tested in
          let no : has_same_length r i ≡ false = sym told ∙ w.if-same_length.false in
          rw (w.last-is, w.slots-is)
          (record {
            as_many = c.loop-slot.invariant.as_many;
            chained = c.loop-slot.invariant.chained;
            old = c.loop-slot.invariant.old;
            waits = waits_next c.loop-slot.slots.items c.loop-slot.slots.items c.args.place r i (λ d p k. k) (λ same. absurd cc) c.loop-slot.invariant.waits;
          })
    ]
