-- The ledger takes the filing in, or is as before.
use Rattle.std.proofs.Common.{◌≡◌, length, take, sym, subst, ap, ◌∙◌, refl, arith, length-append}
use Rattle.std.specs.Prelude.{flat_map}
use Rattle.css_domain.specs.Ledgers.{Books, classes, records}
use Rattle.css_ledger.proofs.Numbering.{restored}
use Rattle.css_ledger.proofs.Taken.{sizes, taken, seen_after, classes_stay, records_stay, mark_stays}
use Rattle.css_ledger.proofs.ledger.Ledger.file.Goals as goal

pub added_by-requires-clause-few : goal.added_by-requires-clause-few
added_by-requires-clause-few g c =
    let laws = g.met.D.Domain g.world.𝓛 g.world.𝓜 g.world.𝓡 ((λ s x. x), (λ x. x), (λ x. x), λ x. x) in
    let f = sizes g.D.Domain.meaning g.D.Class.PartialEq.eq g.met.D.Class.Eq.laws laws.same laws.exact _ _ _ _ _ c.self.invariant.0 refl c.args.self.now c.self.view_is c.args.pack.number c.args.filing c.requires.out c.requires.filing in
    λ κs lives. rw c.as_slice.ensures f.0

pub invariant_of-self-then-is_err : goal.invariant_of-self-then-is_err
invariant_of-self-then-is_err g c =
    let back : c.truncate.new.self.keys ≡ c.self.inside.classes.keys = c.truncate.ensures.keys ∙ rw (c.len-before.ensures.len, c.in-Ok.ensures.keys) (restored g.D.Domain.meaning c.self.inside.classes.keys (flat_map g.D.Domain.meaning.children c.as_slice.result.now)) in
    let room = c.make_room-room.ensures in
    rw (room.rules, room.journal, room.stages, room.records, back) c.self.invariant

pub overflow_cast-count : goal.overflow_cast-count
overflow_cast-count g c =
    let laws = g.met.D.Domain g.world.𝓛 g.world.𝓜 g.world.𝓡 ((λ s x. x), (λ x. x), (λ x. x), λ x. x) in
    let f = sizes g.D.Domain.meaning g.D.Class.PartialEq.eq g.met.D.Class.Eq.laws laws.same laws.exact _ _ _ _ _ c.self.invariant.0 refl c.args.self.now c.self.view_is c.args.pack.number c.args.filing c.requires.out c.requires.filing in
    let few = f.1 in rw c.as_slice-count.ensures (omega (arith, few))

pub index_mut-requires : goal.index_mut-requires
index_mut-requires g c =
    let laws = g.met.D.Domain g.world.𝓛 g.world.𝓜 g.world.𝓡 ((λ s x. x), (λ x. x), (λ x. x), λ x. x) in
    let f = sizes g.D.Domain.meaning g.D.Class.PartialEq.eq g.met.D.Class.Eq.laws laws.same laws.exact _ _ _ _ _ c.self.invariant.0 refl c.args.self.now c.self.view_is c.args.pack.number c.args.filing c.requires.out c.requires.filing in
    let small = f.3 in
    let e = ap length c.append_all.ensures in
    let r = ap length c.make_room-room.ensures.stages in
    let n = c.spend-number.ensures in
    let k = c.append_all.new.items.ok.0 in
    omega (arith, small, e, r, n, k, length-append c.make_room-room.new.stages.items c.in-Ok.added.stages.items)

pub overflow_sub-self : goal.overflow_sub-self
overflow_sub-self g c =
    let laws = g.met.D.Domain g.world.𝓛 g.world.𝓜 g.world.𝓡 ((λ s x. x), (λ x. x), (λ x. x), λ x. x) in
    (sizes g.D.Domain.meaning g.D.Class.PartialEq.eq g.met.D.Class.Eq.laws laws.same laws.exact _ _ _ _ _ c.self.invariant.0 refl c.args.self.now c.self.view_is c.args.pack.number c.args.filing c.requires.out c.requires.filing).2

pub invariant_of-self-2 : goal.invariant_of-self-2
invariant_of-self-2 g c =
    let laws = g.met.D.Domain g.world.𝓛 g.world.𝓜 g.world.𝓡 ((λ s x. x), (λ x. x), (λ x. x), λ x. x) in
    let room = c.make_room-room.ensures in
    let added = c.in-Ok.ensures in
    let keys = added.keys ∙ rw c.as_slice.ensures refl in
    let stages = c.append_all.ensures ∙ rw (room.stages, added.stages) refl in
    let rules = c.append_all-3.ensures ∙ rw (room.rules, c.into_vec.ensures) refl in
    let records = c.append_all-2.ensures ∙ rw (room.records, added.records, c.as_slice.ensures, c.number.ensures) refl in
    let journal = c.push_one.ensures ∙ rw (room.journal, c.spend-number.ensures, c.as_slice-count.ensures) refl in
    rw c.spend-number.ensures
    (taken g.D.Domain.meaning g.D.Class.PartialEq.eq g.met.D.Class.Eq.laws laws.same laws.exact _ _ _ _ _ c.self.invariant.0 refl c.args.self.now c.self.view_is c.args.pack.number c.args.filing c.requires.out c.requires.filing _ _ _ _ _ keys stages rules records journal, mark_stays g.D.Domain.meaning g.D.Class.PartialEq.eq g.met.D.Class.Eq.laws laws.same laws.exact _ _ _ _ _ c.self.invariant.0 refl c.args.self.now c.self.view_is c.args.pack.number c.args.filing c.requires.out c.requires.filing _ _ _ c.self.invariant.1 stages)

pub returns-clause-filed : goal.returns-clause-filed
returns-clause-filed g c =
    let laws = g.met.D.Domain g.world.𝓛 g.world.𝓜 g.world.𝓡 ((λ s x. x), (λ x. x), (λ x. x), λ x. x) in
    let room = c.make_room-room.ensures in
    let added = c.in-Ok.ensures in
    let keys = added.keys ∙ rw c.as_slice.ensures refl in
    let stages = c.append_all.ensures ∙ rw (room.stages, added.stages) refl in
    let rules = c.append_all-3.ensures ∙ rw (room.rules, c.into_vec.ensures) refl in
    let records = c.append_all-2.ensures ∙ rw (room.records, added.records, c.as_slice.ensures, c.number.ensures) refl in
    let journal = c.push_one.ensures ∙ rw (room.journal, c.spend-number.ensures, c.as_slice-count.ensures) refl in
    rw c.spend-number.ensures
    (seen_after g.D.Domain.meaning g.D.Class.PartialEq.eq g.met.D.Class.Eq.laws laws.same laws.exact _ _ _ _ _ c.self.invariant.0 refl c.args.self.now c.self.view_is c.args.pack.number c.args.filing c.requires.out c.requires.filing _ _ _ _ _ keys stages rules records journal)

-- what was there stays first
pub returns-clause-old_classes : goal.returns-clause-old_classes
returns-clause-old_classes g c =
    let laws = g.met.D.Domain g.world.𝓛 g.world.𝓜 g.world.𝓡 ((λ s x. x), (λ x. x), (λ x. x), λ x. x) in
    subst (λ (b : Books g.row.D-Class.Denot g.row.D-Rule.Denot). take (length (classes g.D.Domain.meaning c.args.self.now)) (classes g.D.Domain.meaning b) ≡ classes g.D.Domain.meaning c.args.self.now) (sym (returns-clause-filed g c))
    (classes_stay g.D.Domain.meaning g.D.Class.PartialEq.eq g.met.D.Class.Eq.laws laws.same laws.exact _ _ _ _ _ c.self.invariant.0 refl c.args.self.now c.self.view_is c.args.pack.number c.args.filing c.requires.out c.requires.filing)

pub returns-clause-old_records : goal.returns-clause-old_records
returns-clause-old_records g c =
    let laws = g.met.D.Domain g.world.𝓛 g.world.𝓜 g.world.𝓡 ((λ s x. x), (λ x. x), (λ x. x), λ x. x) in
    subst (λ (b : Books g.row.D-Class.Denot g.row.D-Rule.Denot). take (length c.args.self.now.rules) (records g.D.Domain.meaning b) ≡ records g.D.Domain.meaning c.args.self.now) (sym (returns-clause-filed g c))
    (records_stay g.D.Domain.meaning g.D.Class.PartialEq.eq g.met.D.Class.Eq.laws laws.same laws.exact _ _ _ _ _ c.self.invariant.0 refl c.args.self.now c.self.view_is c.args.pack.number c.args.filing c.requires.out c.requires.filing)
