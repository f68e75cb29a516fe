-- The new terms stand at the next length.
use Rattle.std.proofs.Common.{◌≡◌, ◌++◌, ◌∷◌, [], length, ap, sym, ◌∙◌, arith}
use Rattle.std.proofs.lemmas.List.{length-map, map-append}
use Rattle.css_terms.specs.Series.{AreTailsAt, ShowsTails, items_of, places}
use Rattle.css_terms.proofs.Tails.{ShowsTails-push}
use Rattle.css_terms.proofs.evaluate.add_tail.Goals as goal

pub returns-in_ok-push-clause-shown : goal.returns-in_ok-push-clause-shown
returns-in_ok-push-clause-shown c = λ known k p shown back small m less.
    let vectors = c.args.tails.now.items in
    let old = items_of vectors in
    let ks = places c.args.row.now.children in
    let lasts = c.in_ok-lasts.lasts.items in
    let e : c.as_slice.result.now ≡ c.args.row.now.children = c.as_slice.ensures in
    let t : c.as_slice-in-Product.result.now ≡ vectors = c.as_slice-in-Product.ensures.value in
    let long = length-map vectors (λ v. v.items) in
    let new : items_of c.push.new.self.items ≡ old ++ lasts ∷ [] = ap (λ vs. items_of vs) c.in_ok-push.ensures.items ∙ map-append (λ v. v.items) vectors (c.in_ok-lasts.lasts ∷ []) in
    let before : ShowsTails (items_of c.as_slice-in-Product.result.now) (length c.as_slice-in-Product.result.now) (places c.as_slice.result.now) known = rw (e, t) shown in
    let are : AreTailsAt lasts (length old) ks known = rw (long, sym e, sym t) (c.in_ok-lasts.ensures.terms known k before) in
    rw new (ShowsTails-push old lasts ks known (rw long shown) are back small m (omega (arith, less, long)))
