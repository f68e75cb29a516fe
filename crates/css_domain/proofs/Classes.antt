-- What goes from a class to the children of its filing holds of all classes of a ledger, by the order of its filings.
use Rattle.std.proofs.Common.{◌≡◌, ℕ, zero, suc, ◌<◌, ◌≤◌, List, [], ◌∷◌, ◌++◌, length, take, drop, sym, ap, subst, ◌∙◌, ⊎_elim, arith, append-nil}
use Rattle.std.specs.Prelude.{flat_map, slice_get, slice_index, Some}
use Rattle.std.proofs.lemmas.List.{take-append-drop}
use Rattle.std.proofs.lemmas.Grind.{flat_map-append}
use Rattle.std.proofs.lemmas.Option.{slice_get_within}
use Rattle.lists.specs.Members.IsIn.{here, later}
use Rattle.lists.specs.Added.{with_all_new}
use Rattle.lists.proofs.Places.{IsIn-slice_get, at_place, get-map, get_left, index_is, place_of, take_next, take_whole}
use Rattle.lists.proofs.Added.{grows, all_new_append, in_grown}
use Rattle.lists.specs.Members.{IsIn}
use Rattle.lists.proofs.Members.{from_IsIn-flat_map}
use Rattle.css_domain.specs.Meanings.{Meaning}
use Rattle.css_domain.specs.Ledgers.{Books, filings, done, classes, after_filings}
use Rattle.css_domain.specs.LedgerFacts.{IsLedger}
use Rattle.css_domain.proofs.Filings.{rules_of_filings, classes_by_rules, children_of_filings, length-filings, firsts, sizes, block_there}

module _ {C R : Type 0} (D : Meaning C R) (l : Books C R) (is : IsLedger D l) where
  abbrev blocks : List (ℕ × List R)
  blocks = filings l.rules l.journal

  abbrev shown : (ℕ × List R) → List C
  shown f = flat_map D.children f.1

  -- the classes after k filings
  abbrev known : ℕ → List C
  known k = with_all_new D.same (l.root ∷ []) (flat_map shown (take k blocks))

  known_is : (k : ℕ) → classes D (after_filings D k l) ≡ known k
  known_is k =
      classes_by_rules D (after_filings D k l) (sizes l.rules l.journal k is.all_rules)
      ∙ ap (λ cs. with_all_new D.same (l.root ∷ []) cs) (sym (children_of_filings D.children (take k blocks)))

  known_next : (k : ℕ) (f : ℕ × List R) → slice_get blocks k ≡ Some f → known (suc k) ≡ with_all_new D.same (known k) (shown f)
  known_next k f at =
      ap (λ fs. with_all_new D.same (l.root ∷ []) (flat_map shown fs)) (take_next blocks k f at)
      ∙ ap (λ cs. with_all_new D.same (l.root ∷ []) cs) (flat_map-append shown (take k blocks) (f ∷ []) ∙ ap (λ cs. flat_map shown (take k blocks) ++ cs) (append-nil (shown f)))
      ∙ all_new_append D.same (l.root ∷ []) (flat_map shown (take k blocks)) (shown f)

  -- the known classes are the first classes
  known_first : (k : ℕ) → (zs : List C) × (classes D l ≡ known k ++ zs)
  known_first k =
      let e : flat_map shown blocks ≡ flat_map shown (take k blocks) ++ flat_map shown (drop k blocks) = ap (flat_map shown) (sym (take-append-drop k blocks)) ∙ flat_map-append shown (take k blocks) (drop k blocks) in
      let g = grows D.same (known k) (flat_map shown (drop k blocks)) in
      (g.0, ap (λ cs. with_all_new D.same (l.root ∷ []) cs) e ∙ all_new_append D.same (l.root ∷ []) (flat_map shown (take k blocks)) (flat_map shown (drop k blocks)) ∙ g.1)

  known_last : known (length l.journal) ≡ classes D l
  known_last = ap (λ fs. with_all_new D.same (l.root ∷ []) (flat_map shown fs)) (ap (λ k. take k blocks) (sym (length-filings l.rules l.journal)) ∙ take_whole blocks)

  -- the class of a block was known before
  pub record HasClass (k : ℕ) (f : ℕ × List R) : Type 0 where
    pub class : C
    pub known_before : IsIn class (known k)
    pub at : slice_get (classes D l) f.0 ≡ Some class

  class_of : (k : ℕ) (f : ℕ × List R) → slice_get blocks k ≡ Some f → HasClass k f
  class_of k f at =
      let small : k < length l.journal = (let w = slice_get_within blocks k f at in omega (arith, w, length-filings l.rules l.journal)) in
      let number : slice_index (done l) k ≡ f.0 = index_is (done l) k f.0 (ap (λ ns. slice_get ns k) (sym (firsts l.rules l.journal)) ∙ get-map (λ (g : ℕ × List R). g.0) blocks k f at) in
      let below : f.0 < length (known k) = (let n = is.numbered k small in let e = ap length (known_is k) in omega (arith, n, e, number)) in
      let c = at_place (known k) f.0 below in
      let z = known_first k in
      record { class = c.0; known_before = IsIn-slice_get (known k) f.0 c.0 c.1; at = ap (λ cs. slice_get cs f.0) z.1 ∙ get_left (known k) z.0 f.0 below ∙ c.1 }

  -- a done number is that of a class
  pub block_class : (n : ℕ) (rules : List R) → IsIn {X = ℕ × List R} (n, rules) blocks → (c : C) × (slice_get (classes D l) n ≡ Some c)
  block_class n rules i = let p = place_of blocks (n, rules) i in let h = class_of p.0 (n, rules) p.1 in (h.class, h.at)

  pub done_within : (n : ℕ) → IsIn n (done l) → n < length (classes D l)
  done_within n i = let b = block_there l.rules l.journal n i in let c = block_class n b.0 b.1 in slice_get_within (classes D l) n c.0 c.1

  module _ (Q : C → Type 0) (Fits : C → List R → Type 0) (fitting : (n : ℕ) (rules : List R) (c : C) → Q c → IsIn (n, rules) (filings l.rules l.journal) → slice_get (classes D l) n ≡ Some c → Fits c rules) (onward : (f : List R) (r : R) (c d : C) → Q c → Fits c f → IsIn r f → IsIn d (D.children r) → Q d) (root : Q l.root) where
    known_hold : (k : ℕ) → k ≤ length l.journal → (c : C) → IsIn c (known k) → Q c
    known_hold zero h c i = only c i
      where
        only : (d : C) → IsIn d (l.root ∷ []) → Q d
        only _ (here) = root
        only d (later _ j) = elim j [ ]
    known_hold (suc k) h c i =
        let f = at_place blocks k (omega (arith, h, length-filings l.rules l.journal)) in
        ⊎_elim {C = Q c} (λ j. known_hold k (omega (arith, h)) c j)
        (λ j.
        let p = class_of k f.0 f.1 in
        let q = known_hold k (omega (arith, h)) p.class p.known_before in
        let r = from_IsIn-flat_map D.children f.0.1 j in
        onward f.0.1 r.0 p.class c q (fitting f.0.0 f.0.1 p.class q (IsIn-slice_get blocks k f.0 f.1) p.at) r.1 r.2)
        (in_grown D.same c (known k) (shown f.0) (subst (λ cs. IsIn c cs) (known_next k f.0 f.1) i))

    pub all_hold : (c : C) → IsIn c (classes D l) → Q c
    all_hold c i = known_hold (length l.journal) (omega arith) c (subst (λ cs. IsIn c cs) (sym known_last) i)

    -- each rule of the ledger is one of a fitting filing
    pub record IsFitting (r : R) : Type 0 where
      pub class : C
      pub block : List R
      pub fits : Fits class block
      pub inside : IsIn r block

    pub rule_fits : (r : R) → IsIn r l.rules → IsFitting r
    rule_fits r i =
        let f = from_IsIn-flat_map (λ (g : ℕ × List R). g.1) blocks (subst (λ rs. IsIn r rs) (sym (rules_of_filings l.rules l.journal is.all_rules)) i) in
        let c = block_class f.0.0 f.0.1 f.1 in
        record { class = c.0; block = f.0.1; fits = fitting f.0.0 f.0.1 c.0 (all_hold c.0 (IsIn-slice_get (classes D l) f.0.0 c.0 c.1)) f.1 c.1; inside = f.2 }
