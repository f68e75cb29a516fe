-- Record by record.
use Rattle.std.proofs.Common.{◌≡◌, ◌+◌, ◌<◌, ℕ, Bool, List, [], ◌∷◌, ◌++◌, length, take, refl, sym, ap, subst, ◌∙◌, arith, length-append}
use Rattle.std.proofs.lemmas.List.{length-take, take-append-le}
use Rattle.css_domain.specs.declared.record.Record.{Record}
use Rattle.css_domain.specs.Records.{words_of}
use Rattle.lists.proofs.Places.{take_whole}
use Rattle.css_prune.specs.AmongWords.{StandsAt, AreKept}
use Rattle.css_prune.proofs.AmongWords.{next_one, all_told, kept_more, first_of}
use Rattle.css_prune.proofs.reading.read_on.Goals as goal

pub loop-at-init : goal.loop-at-init
loop-at-init c =
    let rs = c.args.records.now.items in
    let begun = c.requires.first in
    record {
      words = refl;
      reads = omega arith;
      first = λ w. first_of c.args.view.now.words w rs begun.0 c.requires.kept.coded begun.1;
      kept = c.requires.kept;
      longer = take_whole rs;
      further = omega arith;
      within = omega (arith, c.requires.kept.counted, ap (λ (l : List ℕ). length l) begun.1, length-append (words_of rs) begun.0);
    }

pub read_record-requires-clause-there : goal.read_record-requires-clause-there
read_record-requires-clause-there c =
    let i = c.loop-at.invariant in
    let less : c.loop-at.at < length c.args.view.now.words = omega (arith, c.loop-at-test.true, c.len.ensures, ap (λ (l : List ℕ). length l) i.words) in
    let f = i.first c.requires.whole in
    let n = next_one c.args.view.now.words c.requires.whole c.loop-at.records.items f.0 c.loop-at.at f.1 i.kept.counted less in
    (n.next, subst (λ (ws : List ℕ). StandsAt ws c.loop-at.at n.next) (sym i.words) n.stands)

pub overflow_add-at-in-loop-at : goal.overflow_add-at-in-loop-at
overflow_add-at-in-loop-at c =
    let i = c.loop-at.invariant in
    let less : c.loop-at.at < length c.args.view.now.words = omega (arith, c.loop-at-test.true, c.len.ensures, ap (λ (l : List ℕ). length l) i.words) in
    let f = i.first c.requires.whole in
    let n = next_one c.args.view.now.words c.requires.whole c.loop-at.records.items f.0 c.loop-at.at f.1 i.kept.counted less in
    let item = c.in_ok-item.ensures.made n.next (subst (λ (ws : List ℕ). StandsAt ws c.loop-at.at n.next) (sym i.words) n.stands) in
    let many : length c.as_slice.result.now ≡ length n.next.children = ap (λ (l : List (ℕ × Bool)). length l) c.as_slice.ensures ∙ ap (λ (r : Record). length r.children) item in
    omega (arith, many, n.stands.within, c.requires.few)

pub loop-at-preserved : goal.loop-at-preserved
loop-at-preserved c =
    let i = c.loop-at.invariant in
    let rs = c.loop-at.records.items in
    let r = c.in_ok-item.item in
    let less : c.loop-at.at < length c.args.view.now.words = omega (arith, c.loop-at-test.true, c.len.ensures, ap (λ (l : List ℕ). length l) i.words) in
    let f = i.first c.requires.whole in
    let n = next_one c.args.view.now.words c.requires.whole rs f.0 c.loop-at.at f.1 i.kept.counted less in
    let item = c.in_ok-item.ensures.made n.next (subst (λ (ws : List ℕ). StandsAt ws c.loop-at.at n.next) (sym i.words) n.stands) in
    let here : length c.as_slice.result.now ≡ length r.children = ap (λ (l : List (ℕ × Bool)). length l) c.as_slice.ensures in
    let many : length r.children ≡ length n.next.children = ap (λ (s : Record). length s.children) item in
    let long = ap (λ (l : List Record). length l) i.longer in
    record {
      words = c.in_ok-item.ensures.words ∙ i.words;
      reads = omega (arith, i.reads, c.in_ok-item.ensures.once, here);
      first = λ w.
          let g = i.first w in
          let m = next_one c.args.view.now.words w rs g.0 c.loop-at.at g.1 i.kept.counted less in
          let same = c.in_ok-item.ensures.made m.next (subst (λ (ws : List ℕ). StandsAt ws c.loop-at.at m.next) (sym i.words) m.stands) in
          (m.rest, subst (λ (xs : List Record). xs ++ m.rest ≡ w.records) (sym (c.in_ok-push.ensures.items ∙ ap (λ (s : Record). rs ++ s ∷ []) same)) m.there);
      kept = rw c.in_ok-push.ensures.items
          (subst (λ (k : ℕ). AreKept (rs ++ r ∷ []) (c.loop-at.at + (2 + k))) (sym here)
          (kept_more rs c.loop-at.at r i.kept c.in_ok-item.ensures.narrow (omega (arith, c.if-len.false, c.len-in-loop-at.ensures, c.loop-at.records.ok)) c.in_ok-item.ensures.short));
      longer =
          ap (λ (xs : List Record). take (length c.args.records.now.items) xs) c.in_ok-push.ensures.items
          ∙ take-append-le (length c.args.records.now.items) rs (r ∷ []) (omega (arith, long, length-take (length c.args.records.now.items) rs))
          ∙ i.longer;
      further = omega (arith, i.further);
      within = omega (arith, here, many, n.stands.within);
    }

pub returns-clause-all : goal.returns-clause-all
returns-clause-all c = λ w.
    let i = c.loop-at.invariant in
    let f = i.first w in
    all_told c.args.view.now.words w c.loop-at.records.items f.0 c.loop-at.at f.1 i.kept.counted (omega (arith, c.loop-at-test.false, c.len.ensures, ap (λ (l : List ℕ). length l) i.words))

pub returns-clause-told : goal.returns-clause-told
returns-clause-told c = ap (λ (rs : List Record). words_of rs) (returns-clause-all c c.requires.whole) ∙ c.requires.whole.told
