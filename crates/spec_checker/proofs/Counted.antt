-- The capped counts of entry 0.
use Rattle.std.proofs.Common.{◌≡◌, ◌≤◌, ◌+◌, ◌-◌, ◌^◌, ℕ, zero, suc, Bool, true, false, List, ◌∷◌, length, refl, sym, ap, ◌∙◌, subst, arith}
use Rattle.std.specs.Prelude.{map, slice_get, Some, nat_lt, if◌then◌else◌}
use Rattle.std.specs.List.{range_with_len}
use Rattle.std.proofs.lemmas.Bool.Decides.{nat_tests}
use Rattle.patterns.specs.Occurs.{avoiders}
use Rattle.tiling_core.specs.Tiles.{Tiles, count}
use Rattle.css_domain.specs.Entries.{Entry, IsSpec, AllHold, class_counts, CountsAreDetermined, ClassCountsCombine}
use Rattle.css_terms.specs.declared.term.Term.{Term}
use Rattle.css_terms.specs.declared.term.Term.TheVariants.{Exact, Big}
use Rattle.css_terms.specs.Terms.{capped, cut}
use Rattle.css_terms.specs.Rows.{AreTermsOf}
use Rattle.css_terms.specs.SpecRows.{rows_of, SpecsHaveRows}
use Rattle.rule_kinds.specs.Rules.{TilingRule}
use Rattle.tile_rules.specs.Meaning.{tile_meaning}
use Rattle.basis_terms.specs.BasisTerms.{terms_of, ExactTermsAreAvoiders}
use Rattle.spec_checker.specs.Accepting.{capped_counts, AreCounts}
use Rattle.spec_checker.specs.Laws.{CountsAreByRules}

-- numbers that agree have the same capped ones
capped_alike : (f g : ℕ → ℕ) → ((n : ℕ) → f n ≡ g n) → (many a : ℕ) → map (λ n. capped (f n)) (range_with_len a many) ≡ map (λ n. capped (g n)) (range_with_len a many)
capped_alike f g h zero a = refl
capped_alike f g h (suc many) a = let e = capped_alike f g h many (a + 1) in λ i. capped (h a i) ∷ e i

pub counts_by_rules : CountsAreDetermined tile_meaning → ClassCountsCombine tile_meaning → CountsAreByRules
counts_by_rules determined combine entries root many count valid counts none =
    let own = combine entries valid.spec valid.hold in
    ap cut (capped_alike (class_counts tile_meaning entries 0) (count 0) (λ n. determined entries valid.spec (class_counts tile_meaning entries) count own.0 own.1 counts none 0 n valid.spec.some) many 0)

-- what the rows tell
pub from_rows : (entries : List (Entry Tiles TilingRule)) (many : ℕ) (terms : List Term) → SpecsHaveRows tile_meaning → IsSpec tile_meaning entries → AllHold tile_meaning entries → 1 ≤ many → AreTermsOf (rows_of tile_meaning entries) (many - 1) terms → terms ≡ capped_counts entries many
from_rows entries many terms rows spec hold some h =
    let e : suc (many - 1) ≡ many = omega arith in
    h (class_counts tile_meaning entries) (rows entries spec hold).counts ∙ ap (λ m. cut (map (λ n. capped (class_counts tile_meaning entries 0 n)) (range_with_len 0 m))) e

-- ---- what capped counts tell of the numbers
big_of : (v : ℕ) (b : Bool) → nat_lt v (2 ^ 128) ≡ b → (if b then Exact v else Big) ≡ Big → 2 ^ 128 ≤ v
big_of v true e h = absurd cc
big_of v false e h = grind (arith, nat_tests)

module _ (f : ℕ → ℕ) where
  big_after : (a : ℕ) (terms : List Term) → ((n : ℕ) → slice_get (cut terms) n ≡ Some Big → (length (cut terms) ≡ suc n) × (2 ^ 128 ≤ f (a + 1 + n))) → (t : Term) → capped (f a) ≡ t → (n : ℕ) → slice_get (cut (t ∷ terms)) n ≡ Some Big → (length (cut (t ∷ terms)) ≡ suc n) × (2 ^ 128 ≤ f (a + n))
  big_after a terms rest (Exact y) e zero h = absurd cc
  big_after a terms rest (Exact y) e (suc n) h = let r = rest n h in let d : a + suc n ≡ a + 1 + n = omega arith in (ap suc r.0, rw d r.1)
  big_after a terms rest Big e zero h = let d : a + 0 ≡ a = omega arith in (refl, rw d (big_of (f a) (nat_lt (f a) (2 ^ 128)) refl e))
  big_after a terms rest Big e (suc n) h = absurd cc

  big_from : (r a n : ℕ) → slice_get (cut (map (λ m. capped (f m)) (range_with_len a r))) n ≡ Some Big → (length (cut (map (λ m. capped (f m)) (range_with_len a r))) ≡ suc n) × (2 ^ 128 ≤ f (a + n))
  big_from zero a n h = absurd cc
  big_from (suc r) a n h = big_after a (map (λ m. capped (f m)) (range_with_len (a + 1) r)) (λ k. big_from r (a + 1) k) (capped (f a)) refl n h

-- capped counts of a class that counts the avoiders tell how many avoid the basis
pub counts_of_avoiders : (basis : List (List ℕ)) (entries : List (Entry Tiles TilingRule)) (many : ℕ) (terms : List Term) → ExactTermsAreAvoiders → ((n : ℕ) → class_counts tile_meaning entries 0 n ≡ avoiders basis n) → 1 ≤ many → terms ≡ capped_counts entries many → AreCounts basis terms
counts_of_avoiders basis entries many terms law same some e =
    let as_many : many ≡ suc (many - 1) = omega arith in
    let own : terms ≡ terms_of basis (many - 1) = e ∙ ap cut (capped_alike (class_counts tile_meaning entries 0) (avoiders basis) same many 0) ∙ ap (λ m. cut (map (λ n. capped (avoiders basis n)) (range_with_len 0 m))) as_many in
    record {
      exact = λ n x h. law basis (many - 1) n x (ap (λ (ts : List Term). slice_get ts n) (sym own) ∙ h);
      big = λ n h.
          let r = big_from (avoiders basis) (suc (many - 1)) 0 n (ap (λ (ts : List Term). slice_get ts n) (sym own) ∙ h) in
          let d : 0 + n ≡ n = omega arith in
          (ap length own ∙ r.0, subst (λ m. 2 ^ 128 ≤ avoiders basis m) d r.1);
    }
