-- The count of a product is a convolution, child by child.
use Rattle.std.proofs.Common.{◌≡◌, ◌<◌, ◌≤◌, length, get_or, ap, sym, ◌∙◌, arith}
use Rattle.std.specs.Prelude.{map}
use Rattle.std.proofs.lemmas.List.{length-map, get_or_default}
use Rattle.css_domain.proofs.Convolution.{combine-product}
use Rattle.css_domain.specs.Shapes.{combine}
use Rattle.css_terms.specs.Terms.{capped}
use Rattle.css_terms.specs.Series.{ShowsTails, items_of, places, tail_count}
use Rattle.css_terms.specs.declared.term.Term.TheVariants.{Exact}
use Rattle.css_terms.proofs.Tails.{tail_whole}
use Rattle.css_terms.proofs.value.value_of.Goals as goal

pub returns-in_ok-lasts-in-Product : goal.returns-in_ok-lasts-in-Product
returns-in_ok-lasts-in-Product c = λ known k shown.
    let children = c.args.row.now.children in
    let s = c.as_slice-in-Product.result.now in
    let e : s ≡ children = c.as_slice-in-Product.ensures in
    let n = c.args.n in
    let tails = c.args.tails.now in
    let lasts = c.in_ok-lasts-in-Product.lasts.items in
    let kept : length tails ≡ n = c.requires.kept c.in-Product.is in
    let all = length-map children (λ x. x.0) in
    let most : length children ≤ length (places s) = rw e (omega (arith, all)) in
    let as_many = ap length e in
    let within : c.len.result < length lasts = omega (arith, c.len.ensures, c.in_ok-lasts-in-Product.ensures.as_long, as_many) in
    let kept_shown : ShowsTails (items_of tails) (length tails) (places s) known = rw (e, kept) (shown c.in-Product.is) in
    let whole : tail_count known (places s) (length children) (length tails) ≡ combine c.args.row.now.shape (map known (places children)) n = rw (e, kept, c.in-Product.is) (tail_whole children known n ∙ sym (combine-product (map known (places children)) n)) in
    c.index.ensures
    ∙ get_or_default lasts c.len.result c.index.result.now (Exact 0) within
    ∙ ap (λ i. get_or lasts i (Exact 0)) c.len.ensures
    ∙ c.in_ok-lasts-in-Product.ensures.terms known k kept_shown (length children) most
    ∙ ap capped whole
