-- Where each class is filed, and each rule of a specification is in all fitting filings of its class, these rules are filed.
use Rattle.std.proofs.Common.{◌≡◌, ℕ, zero, suc, ◌<◌, true, List, length, sym, ap, subst, ◌∙◌, arith, ⊎_elim}
use Rattle.std.specs.Prelude.{slice_get, Some}
use Rattle.std.specs.List.{list_any}
use Rattle.std.proofs.lemmas.Option.{slice_get_within}
use Rattle.css_domain.specs.Meanings.{Meaning}
use Rattle.css_domain.specs.Ledgers.{Books, filings, done, classes, is_all_done, is_among}
use Rattle.css_domain.specs.LedgerFacts.{IsLedger}
use Rattle.css_domain.specs.Entries.{Entry, ValidSpec}
use Rattle.css_domain.proofs.Filings.{rules_of_filings, block_there}
use Rattle.css_domain.proofs.Finding.{in_from_among}
use Rattle.css_domain.proofs.SpecStands.{number, root_there, born, first_class}
use Rattle.css_domain.proofs.Within.{child_there}
use Rattle.lists.proofs.Places.{IsIn-slice_get, found_at, place_of}
use Rattle.lists.proofs.Numbers.{less_or_whole, zero_or_more}
use Rattle.lists.proofs.Tests.{each_passes}
use Rattle.lists.specs.Members.{IsIn}
use Rattle.lists.proofs.Members.{IsIn-flat_map}
use Rattle.lists.proofs.Ranges.{in_range_with_len}

-- Q is kept from a class to the children of its complete filing, which Fits tells
module _ {C R : Type 0} (D : Meaning C R) (own : (c : C) → D.same c c ≡ true) (exact : (a b : C) → D.same a b ≡ true → a ≡ b) (l : Books C R) (is : IsLedger D l) (all : is_all_done D l ≡ true) (Q : C → Type 0) (Fits : C → List R → Type 0) (fitting : (n : ℕ) (rules : List R) (c : C) → Q c → IsIn (n, rules) (filings l.rules l.journal) → slice_get (classes D l) n ≡ Some c → Fits c rules) (onward : (f : List R) (r : R) (c d : C) → Q c → Fits c f → IsIn r f → IsIn d (D.children r) → Q d) (entries : List (Entry C R)) (valid : ValidSpec D entries l.root) (root : Q l.root) (by : (e : Entry C R) → IsIn e entries → (f : List R) → Fits e.class f → IsIn e.rule f) where
  in_rules : (n : ℕ) (block : List R) (r : R) → IsIn {X = ℕ × List R} (n, block) (filings l.rules l.journal) → IsIn r block → IsIn r l.rules
  in_rules n block r i j = subst (λ rs. IsIn r rs) (rules_of_filings l.rules l.journal is.all_rules) (IsIn-flat_map (λ (f : ℕ × List R). f.1) i j)

  -- a class of the ledger has a block, and the rule of its entry is in it
  pub record IsFiled (e : Entry C R) : Type 0 where
    pub block : List R
    pub fits : Fits e.class block
    pub inside : IsIn e.rule block
    pub filed : IsIn e.rule l.rules

  filed_if_there : (e : Entry C R) → IsIn e entries → Q e.class → list_any (D.same e.class) (classes D l) ≡ true → IsFiled e
  filed_if_there e h q there =
      let n = number D own exact l is e.class in
      let at : slice_get (classes D l) n ≡ Some e.class = found_at D.same exact e.class (classes D l) there in
      let small = slice_get_within (classes D l) n e.class at in
      let among = each_passes (λ m. is_among m (done l)) all (in_range_with_len 0 (length (classes D l)) n (omega arith) (omega (arith, small))) in
      let block = block_there l.rules l.journal n (in_from_among n (done l) among) in
      let fits = fitting n block.0 e.class q block.1 at in
      let inside = by e h block.0 fits in
      record { block = block.0; fits = fits; inside = inside; filed = in_rules n block.0 e.rule block.1 inside }

  -- the entries before place n
  before : (n i : ℕ) → i < n → (e : Entry C R) → slice_get entries i ≡ Some e → Q e.class × (list_any (D.same e.class) (classes D l) ≡ true)
  before zero i h e at = absurd (omega (arith, h))
  before (suc n) i h e at =
      ⊎_elim {C = Q e.class × (list_any (D.same e.class) (classes D l) ≡ true)} (λ less. before n i less e at)
      (λ last.
      ⊎_elim {C = Q e.class × (list_any (D.same e.class) (classes D l) ≡ true)}
      (λ z.
      let c = first_class D own exact l is entries valid e (ap (slice_get entries) (sym z) ∙ at) in
      (subst Q (sym c) root, subst (λ d. list_any (D.same d) (classes D l) ≡ true) (sym c) (root_there D own exact l is)))
      (λ some.
      let b = born D own exact l is entries valid i e some at in
      let p = before n b.j (omega (arith, b.earlier, last)) b.by b.at in
      let there = IsIn-slice_get entries b.j b.by b.at in
      let f = filed_if_there b.by there p.0 p.1 in
      (onward f.block b.by.rule b.by.class e.class p.0 f.fits f.inside b.child, child_there D own exact l is b.by.rule e.class f.filed b.child))
      (zero_or_more i))
      (less_or_whole i n (omega (arith, h)))

  pub all_filed : (e : Entry C R) → IsIn e entries → IsIn e.rule l.rules
  all_filed e h =
      let p = place_of entries e h in
      let b = before (suc p.0) p.0 (omega arith) e p.1 in
      (filed_if_there e h b.0 b.1).filed
