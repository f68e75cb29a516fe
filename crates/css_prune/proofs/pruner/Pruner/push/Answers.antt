-- What is kept with one record more.
use Rattle.std.proofs.Common.{◌≡◌, ◌+◌, ℕ, Bool, List, [], ◌∷◌, ◌++◌, length, sym, ap, subst, ◌∙◌, arith}
use Rattle.css_domain.specs.declared.record.Record.{Record}
use Rattle.css_prune.specs.AmongWords.{AreKept}
use Rattle.css_prune.proofs.AmongWords.{kept_more}
use Rattle.css_prune.proofs.pruner.Pruner.push.Goals as goal

pub invariant_of-self-2 : goal.invariant_of-self-2
invariant_of-self-2 c =
    let rs = c.self.inside.records.items in
    let r = c.in_ok-copied.copied in
    let arity : length c.as_slice-arity.result.now ≡ length c.args.item.now.children = ap (λ (l : List (ℕ × Bool)). length l) c.as_slice-arity.ensures in
    let same : length r.children ≡ length c.args.item.now.children = ap (λ (s : Record). length s.children) c.in_ok-copied.ensures in
    rw c.in_ok-push.ensures.items
    (subst (λ (k : ℕ). AreKept (rs ++ r ∷ []) (c.self.inside.words + (2 + k))) (same ∙ sym arity)
    (kept_more rs c.self.inside.words r c.self.invariant c.is_coded.ensures (omega (arith, c.if-len.false, c.len.ensures, c.self.inside.records.ok)) (omega (arith, c.if-arity.false, arity, same))))
