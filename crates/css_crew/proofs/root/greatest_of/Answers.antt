-- Each record so far, and the next one.
use Rattle.std.proofs.Common.{◌+◌, ⊎_elim, subst, arith}
use Rattle.std.proofs.lemmas.Option.{slice_get_within}
use Rattle.lists.proofs.Numbers.{less_or_whole}
use Rattle.lists.proofs.Places.{place_of}
use Rattle.css_domain.specs.declared.record.Record.{Record}
use Rattle.css_domain.specs.Records.{IsWithin}
use Rattle.css_crew.proofs.Numbering.{within_more, item_at}
use Rattle.css_crew.proofs.root.greatest_of.Goals as goal

pub loop-item-preserved : goal.loop-item-preserved
loop-item-preserved c = λ i r h e.
    ⊎_elim {C = IsWithin (c.greatest-most.result + 1) r}
    (λ less. within_more c.loop-item.most c.greatest-most.result r (omega (arith, c.greatest-most.ensures.least)) (c.loop-item.invariant i r less e))
    (λ same.
    let at = item_at c.args.records.now i c.loop-item.item-index c.item-item.result r c.item-item.is same e in
    subst (λ (q : Record). IsWithin (c.greatest-most.result + 1) q) at (record { own = omega (arith, c.greatest-most.ensures.own); child = λ slot s. omega (arith, c.greatest-most.ensures.child slot s) }))
    (less_or_whole i c.loop-item.item-index (omega (arith, h)))

pub returns : goal.returns
returns c = λ r i.
    let p = place_of c.args.records.now r i in
    c.loop-item.invariant p.0 r (let w = slice_get_within c.args.records.now p.0 r p.1 in omega (arith, w, c.loop-item-test.false)) p.1
