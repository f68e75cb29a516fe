-- The new term is the count of its row.
use Rattle.std.proofs.Common.{◌≡◌, ◌<◌, ◌≤◌, ℕ, Vec, Global, List, ◌++◌, ◌∷◌, [], length, sym, ap, ◌∙◌, subst, arith, get_or}
use Rattle.std.specs.Prelude.{slice_set}
use Rattle.std.proofs.lemmas.List.{length-map, map-set, get_or-map}
use Rattle.css_terms.specs.Series.{items_of, lists_of, places, Knows, ShowsTails}
use Rattle.css_terms.specs.declared.term.Term.{Term}
use Rattle.css_terms.specs.Rows.{IsExtended}
use Rattle.css_terms.proofs.Evaluation.{extended}
use Rattle.css_terms.proofs.evaluate.add_term.Goals as goal
use Rattle.lists.proofs.Places.{some_at}

-- the kept tails are those of the row
kept_items : (tails : List (Vec (Vec Term Global) Global)) (place : ℕ) (v : Vec (Vec Term Global) Global) (kept : List (Vec Term Global)) → place < length tails → v ≡ get_or tails place v → kept ≡ v.items → get_or (lists_of tails) place [] ≡ items_of kept
kept_items tails place v kept inside is same = get_or-map (λ x. items_of x.items) tails place v [] inside ∙ ap (λ x. items_of x.items) (sym is) ∙ ap (λ vs. items_of vs) (sym same)

pub value_of-requires-clause-kept : goal.value_of-requires-clause-kept
value_of-requires-clause-kept c = λ p.
    let place = c.args.place in
    let tails = c.args.tails.now in
    let all = length-map tails (λ v. items_of v.items) in
    let inside : place < length tails = omega (arith, c.requires.within, c.requires.tails.as_many, all) in
    let row = c.index-rows-place.result in
    let at = some_at c.args.rows.now place row c.requires.within c.index-rows-place.is in
    let is = kept_items tails place c.index-tails-place.result c.as_slice-kept.result.now inside c.index-tails-place.is c.as_slice-kept.ensures.value in
    sym (length-map c.as_slice-kept.result.now (λ v. v.items)) ∙ ap length (sym is) ∙ (c.requires.tails.each place row at).long p

pub returns : goal.returns
returns c =
    let vectors = c.args.series.now.items in
    let place = c.args.place in
    let many = length-map vectors (λ v. v.items) in
    let at = some_at c.args.rows.now place c.index-rows-place.result c.requires.within c.index-rows-place.is in
    let inside = c.requires.within in
    let before : get_or (items_of vectors) place [] ≡ c.index.result.now.items = get_or-map (λ v. v.items) vectors place c.index.result.now [] (omega (arith, inside, c.requires.as_many)) ∙ ap (λ v. v.items) (sym c.index.ensures) in
    let here : get_or (items_of vectors) place [] ≡ c.index_mut-at.result.now.items = get_or-map (λ v. v.items) vectors place c.index_mut-at.result.now [] (omega (arith, inside, c.requires.as_many)) ∙ ap (λ v. v.items) (sym c.index_mut-at.ensures.value) in
    let own = c.requires.tails.each place c.index-rows-place.result at in
    let all = length-map c.args.tails.now (λ v. items_of v.items) in
    let kept_is : get_or (lists_of c.args.tails.now) place [] ≡ items_of c.as_slice-kept.result.now = kept_items c.args.tails.now place c.index-tails-place.result c.as_slice-kept.result.now (omega (arith, c.requires.within, c.requires.tails.as_many, all)) c.index-tails-place.is c.as_slice-kept.ensures.value in
    let long : length (get_or (items_of vectors) place []) ≤ c.args.n = rw before (omega (arith, c.index.result.now.ok, c.len.ensures, c.if-len-n.false)) in
    let new : c.push.new.self.items ≡ get_or (items_of vectors) place [] ++ c.in_ok-term.term ∷ [] = c.in_ok-push.ensures.items ∙ ap (λ xs. xs ++ c.in_ok-term.term ∷ []) (sym here) in
    let set_is : items_of (slice_set vectors place c.push.new.self) ≡ slice_set (items_of vectors) place (get_or (items_of vectors) place [] ++ c.in_ok-term.term ∷ []) = map-set (λ v. v.items) vectors place c.push.new.self ∙ ap (λ s. slice_set (items_of vectors) place s) new in
    subst (λ new. IsExtended c.args.rows.now (items_of vectors) new place c.args.n) (sym set_is)
    (extended c.args.rows.now (items_of vectors) place c.args.n c.index-rows-place.result c.in_ok-term.term (omega (arith, many, c.requires.as_many)) c.requires.near (omega (arith, many, inside, c.requires.as_many)) long (get_or (lists_of c.args.tails.now) place []) own at (c.requires.rows place c.index-rows-place.result at) c.requires.lower
    (λ known k shown. c.in_ok-term.ensures known (subst (λ vs. Knows (items_of vs) known) (sym c.as_slice.ensures.value) k) (λ p. subst (λ tails. ShowsTails tails c.args.n (places c.index-rows-place.result.children) known) kept_is (shown p))))
