-- Slot by slot.
use Rattle.std.proofs.Common.{◌≡◌, ◌+◌, ◌++◌, ◌∷◌, [], ℕ, Bool, List, suc, length, take, get_or, sym, ap, ◌∙◌, arith}
use Rattle.std.specs.Prelude.{map, zip, slice_get, Some}
use Rattle.css_domain.specs.Entries.{Entry}
use Rattle.css_prune.proofs.FirstFaults.{number_at}
use Rattle.css_terms.proofs.Zipped.{zip_place, zip_taken}
use Rattle.css_terms.proofs.spec_terms.row_of.Goals as goal
use Rattle.lists.proofs.Places.{get-map, take_next}

pub loop-slot-preserved : goal.loop-slot-preserved
loop-slot-preserved g c =
    let e = c.args.entry.now in
    let slot = c.loop-slot.slot in
    let flags = map g.D.Domain.meaning.positive (g.D.Domain.meaning.children e.rule) in
    let zs = zip e.children flags in
    let x : ℕ × Bool = (get_or c.as_slice-places.result.now slot 0, c.positive-positive.result) in
    let named : c.as_slice-places.result.now ≡ e.children = c.as_slice-places.ensures ∙ ap (λ (d : Entry g.row.D-Class.Denot g.row.D-Rule.Denot). d.children) c.entry.view_is in
    let many = ap (λ (d : Entry g.row.D-Class.Denot g.row.D-Rule.Denot). length (g.D.Domain.meaning.children d.rule)) c.entry.view_is in
    let place : slice_get e.children slot ≡ Some (get_or c.as_slice-places.result.now slot 0) = ap (λ (xs : List ℕ). slice_get xs slot) (sym named) ∙ number_at c.as_slice-places.result.now slot (omega (arith, c.loop-slot-test.true, c.arity-slot-end.ensures, many, c.requires, ap length named)) in
    let child : slice_get (g.D.Domain.meaning.children e.rule) slot ≡ Some c.child.result.now = ap (λ (d : Entry g.row.D-Class.Denot g.row.D-Rule.Denot). slice_get (g.D.Domain.meaning.children d.rule) slot) (sym c.entry.view_is) ∙ c.child.ensures in
    let flag : slice_get flags slot ≡ Some c.positive-positive.result = get-map g.D.Domain.meaning.positive (g.D.Domain.meaning.children e.rule) slot c.child.result.now child ∙ ap Some (sym c.positive-positive.ensures) in
    let at : slice_get {X = ℕ × Bool} zs slot ≡ Some x = zip_place e.children flags slot (get_or c.as_slice-places.result.now slot 0) c.positive-positive.result place flag in
    let next : slot + 1 ≡ suc slot = omega arith in
    let more : take {A = ℕ × Bool} (slot + 1) zs ≡ take {A = ℕ × Bool} slot zs ++ x ∷ [] = ap (λ n. take {A = ℕ × Bool} n zs) next ∙ take_next {X = ℕ × Bool} zs slot x at in
    c.in_ok-push.ensures.items ∙ ap (λ (ys : List (ℕ × Bool)). ys ++ x ∷ []) c.loop-slot.invariant ∙ sym more

pub returns : goal.returns
returns g c =
    let e = c.args.entry.now in
    let many = ap (λ (d : Entry g.row.D-Class.Denot g.row.D-Rule.Denot). length (g.D.Domain.meaning.children d.rule)) c.entry.view_is in
    let shape = c.shape.ensures ∙ ap (λ (d : Entry g.row.D-Class.Denot g.row.D-Rule.Denot). g.D.Domain.meaning.shape d.rule) c.entry.view_is in
    let children = c.of.ensures ∙ c.loop-slot.invariant ∙ zip_taken e.children (map g.D.Domain.meaning.positive (g.D.Domain.meaning.children e.rule)) c.loop-slot.slot (omega (arith, c.loop-slot-test.false, c.arity-slot-end.ensures, many, c.requires)) in
    let rank = ap (λ (d : Entry g.row.D-Class.Denot g.row.D-Rule.Denot). d.rank) c.entry.view_is in
    λ m. record { shape = shape m; children = children m; rank = rank m }
