-- One more filing.
use Rattle.std.proofs.Common.{◌≡◌, ℕ, zero, suc, ◌≤◌, List, [], ◌∷◌, ◌++◌, length, take, drop, length-append, refl, sym, ap, ◌∙◌, arith}
use Rattle.std.specs.Prelude.{map, flat_map, sum_by}
use Rattle.lists.specs.Members.IsIn.{here, later}
use Rattle.lists.specs.Added.{with_all_new}
use Rattle.lists.proofs.Added.{all_new_append}
use Rattle.lists.proofs.Places.{take_whole}
use Rattle.lists.specs.Members.{IsIn}
use Rattle.std.proofs.lemmas.List.{take-append-drop, take-append-le, drop-append-le, length-drop, length-take}
use Rattle.std.proofs.lemmas.List.Sums.{sum_by-cons, sum_by-append}
use Rattle.std.proofs.lemmas.Grind.{flat_map-append}
use Rattle.css_domain.specs.Meanings.{Meaning}
use Rattle.css_domain.specs.Ledgers.{Books, filings, classes, with_filing, after_filings}

-- ---- filings
pub filings_more : {R : Type 0} (rules more : List R) (journal : List (ℕ × ℕ)) (n : ℕ) → length rules ≡ sum_by (λ (p : ℕ × ℕ). p.1) journal → filings (rules ++ more) (journal ++ (n, length more) ∷ []) ≡ filings rules journal ++ (n, more) ∷ []
filings_more {R} [] more [] n h = ap (λ (xs : List R). (n, xs) ∷ []) (take_whole more)
filings_more (r ∷ rules) more [] n h = absurd (omega (arith, h))
filings_more {R} rules more (p ∷ journal) n h =
    let s = sum_by-cons (λ (q : ℕ × ℕ). q.1) p journal in
    let few : p.1 ≤ length rules = omega (arith, h, s) in
    let left : length (drop p.1 rules) ≡ sum_by (λ (q : ℕ × ℕ). q.1) journal = omega (arith, h, s, length-drop p.1 rules) in
    let e : take p.1 (rules ++ more) ≡ take p.1 rules = take-append-le p.1 rules more few in
    let f : drop p.1 (rules ++ more) ≡ drop p.1 rules ++ more = drop-append-le p.1 rules more few in
    rw (e, f) (ap (λ (fs : List (ℕ × List R)). (p.0, take p.1 rules) ∷ fs) (filings_more (drop p.1 rules) more journal n left))

pub rules_of_filings : {R : Type 0} (rules : List R) (journal : List (ℕ × ℕ)) → length rules ≡ sum_by (λ (p : ℕ × ℕ). p.1) journal → flat_map (λ (f : ℕ × List R). f.1) (filings rules journal) ≡ rules
rules_of_filings [] [] h = refl
rules_of_filings (r ∷ rules) [] h = absurd (omega (arith, h))
rules_of_filings {R} rules (p ∷ journal) h =
    let s = sum_by-cons (λ (q : ℕ × ℕ). q.1) p journal in
    let left : length (drop p.1 rules) ≡ sum_by (λ (q : ℕ × ℕ). q.1) journal = omega (arith, h, s, length-drop p.1 rules) in
    ap (λ (rs : List R). take p.1 rules ++ rs) (rules_of_filings (drop p.1 rules) journal left) ∙ take_drop p.1 rules
  where
    take_drop : (k : ℕ) (xs : List R) → take k xs ++ drop k xs ≡ xs
    take_drop k xs = take-append-drop k xs

pub length-filings : {R : Type 0} (rules : List R) (journal : List (ℕ × ℕ)) → length (filings rules journal) ≡ length journal
length-filings rules [] = refl
length-filings rules (p ∷ journal) = ap suc (length-filings (drop p.1 rules) journal)

-- the filings' numbers are the journal's
pub firsts : {R : Type 0} (rules : List R) (journal : List (ℕ × ℕ)) → map (λ (f : ℕ × List R). f.0) (filings rules journal) ≡ map (λ (p : ℕ × ℕ). p.0) journal
firsts rules [] = refl
firsts rules (p ∷ journal) = ap (λ (xs : List ℕ). p.0 ∷ xs) (firsts (drop p.1 rules) journal)

-- the rules of the first filings are as many as the journal says
pub sizes : {R : Type 0} (rules : List R) (journal : List (ℕ × ℕ)) (k : ℕ) → length rules ≡ sum_by (λ (p : ℕ × ℕ). p.1) journal → length (flat_map (λ (f : ℕ × List R). f.1) (take k (filings rules journal))) ≡ sum_by (λ (p : ℕ × ℕ). p.1) (take k journal)
sizes rules [] zero h = refl
sizes rules [] (suc k) h = refl
sizes rules (p ∷ journal) zero h = refl
sizes {R} rules (p ∷ journal) (suc k) h =
    let s = sum_by-cons (λ (q : ℕ × ℕ). q.1) p journal in
    let t = sum_by-cons (λ (q : ℕ × ℕ). q.1) p (take k journal) in
    let again = sizes (drop p.1 rules) journal k (omega (arith, h, s, length-drop p.1 rules)) in
    omega (arith, again, t, s, h, length-take p.1 rules, length-append (take p.1 rules) (flat_map (λ (f : ℕ × List R). f.1) (take k (filings (drop p.1 rules) journal))))

-- what is done has a block
pub block_there : {R : Type 0} (rules : List R) (journal : List (ℕ × ℕ)) (n : ℕ) → IsIn n (map (λ (p : ℕ × ℕ). p.0) journal) → (block : List R) × IsIn {X = ℕ × List R} (n, block) (filings rules journal)
block_there rules [] n h = elim h [ ]
block_there {R} rules (p ∷ journal) _ (here) = (take p.1 rules, here)
block_there {R} rules (p ∷ journal) n (later _ h) = let b = block_there (drop p.1 rules) journal n h in (b.0, later (p.0, take p.1 rules) b.1)

-- the children in the order of the filings are those of the rules
pub children_of_filings : {C R : Type 0} (children : R → List C) (fs : List (ℕ × List R)) → flat_map (λ (f : ℕ × List R). flat_map children f.1) fs ≡ flat_map children (flat_map (λ (f : ℕ × List R). f.1) fs)
children_of_filings children [] = refl
children_of_filings {C} {R} children (f ∷ fs) = ap (λ (cs : List C). flat_map children f.1 ++ cs) (children_of_filings children fs) ∙ sym (flat_map-append children f.1 (flat_map (λ (f : ℕ × List R). f.1) fs))

module _ {C R : Type 0} (D : Meaning C R) where
  pub classes_by_rules : (l : Books C R) → length l.rules ≡ sum_by (λ (p : ℕ × ℕ). p.1) l.journal → classes D l ≡ with_all_new D.same (l.root ∷ []) (flat_map D.children l.rules)
  classes_by_rules l h = ap (λ cs. with_all_new D.same (l.root ∷ []) cs) (children_of_filings D.children (filings l.rules l.journal) ∙ ap (flat_map D.children) (rules_of_filings l.rules l.journal h))

  pub all_rules_more : (l : Books C R) (n : ℕ) (more : List R) → length l.rules ≡ sum_by (λ (p : ℕ × ℕ). p.1) l.journal → length (l.rules ++ more) ≡ sum_by (λ (p : ℕ × ℕ). p.1) (l.journal ++ (n, length more) ∷ [])
  all_rules_more l n more h = omega (arith, h, length-append l.rules more, sum_by-append (λ (p : ℕ × ℕ). p.1) l.journal ((n, length more) ∷ []), sum_by-cons (λ (p : ℕ × ℕ). p.1) (n, length more) [])

  -- the classes grow by the new children
  pub classes_more : (l : Books C R) (n : ℕ) (more : List R) → length l.rules ≡ sum_by (λ (p : ℕ × ℕ). p.1) l.journal → classes D (with_filing l n more) ≡ with_all_new D.same (classes D l) (flat_map D.children more)
  classes_more l n more h =
      classes_by_rules (with_filing l n more) (all_rules_more l n more h)
      ∙ ap (λ cs. with_all_new D.same (l.root ∷ []) cs) (flat_map-append D.children l.rules more)
      ∙ all_new_append D.same (l.root ∷ []) (flat_map D.children l.rules) (flat_map D.children more)
      ∙ ap (λ cs. with_all_new D.same cs (flat_map D.children more)) (sym (classes_by_rules l h))

  -- as after the first filings, so many as there were
  pub before_more : (l : Books C R) (n : ℕ) (more : List R) (k : ℕ) → length l.rules ≡ sum_by (λ (p : ℕ × ℕ). p.1) l.journal → k ≤ length l.journal → after_filings D k (with_filing l n more) ≡ after_filings D k l
  before_more l n more k h small =
      let e : take k (filings (l.rules ++ more) (l.journal ++ (n, length more) ∷ [])) ≡ take k (filings l.rules l.journal) = ap (take k) (filings_more l.rules more l.journal n h) ∙ take-append-le k (filings l.rules l.journal) ((n, more) ∷ []) (omega (arith, small, length-filings l.rules l.journal)) in
      let f : take k (l.journal ++ (n, length more) ∷ []) ≡ take k l.journal = take-append-le k l.journal ((n, length more) ∷ []) small in
      λ i. record { root = l.root; budget = l.budget; rulebook = l.rulebook; rules = flat_map (λ (g : ℕ × List R). g.1) (e i); journal = f i; out = [] }

  pub at_end : (l : Books C R) → length l.rules ≡ sum_by (λ (p : ℕ × ℕ). p.1) l.journal → classes D (after_filings D (length l.journal) l) ≡ classes D l
  at_end l h =
      let e : take (length l.journal) (filings l.rules l.journal) ≡ filings l.rules l.journal = ap (λ k. take k (filings l.rules l.journal)) (sym (length-filings l.rules l.journal)) ∙ take_whole (filings l.rules l.journal) in
      let f : flat_map (λ (g : ℕ × List R). g.1) (take (length l.journal) (filings l.rules l.journal)) ≡ l.rules = ap (flat_map (λ (g : ℕ × List R). g.1)) e ∙ rules_of_filings l.rules l.journal h in
      let j : take (length l.journal) l.journal ≡ l.journal = take_whole l.journal in
      λ i. classes D (record { root = l.root; budget = l.budget; rulebook = l.rulebook; rules = f i; journal = j i; out = [] })
