-- Each place that is reached leads on to a whole text, and where lines stop.
use Rattle.std.proofs.Common.{◌≡◌, ◌+◌, ◌≤◌, ◌<◌, ◌^◌, ℕ, suc, zero, Bool, true, false, cond, List, [], ◌∷◌, ◌++◌, length, take, ap, subst, ◌∙◌, arith, refl}
use Rattle.std.specs.Prelude.{⊤, Option, Some, None, option_map, option_and_then, unwrap_or, codes, decimal, nat_lt, ◌==◌, ◌&&◌}
use Rattle.std.proofs.lemmas.Grind.{common_steps}
use Rattle.std.proofs.lemmas.Option.{none-some, same_Some, option_and_then_some}
use Rattle.spec_lines.specs.Lines.{Text, separated}
use Rattle.spec_lines.proofs.Bytes.{digits_are_free}
use Rattle.spec_lines.proofs.Items.{items_joined}
use Rattle.spec_lines.proofs.LineSpelling.{read_in_form}
use Rattle.spec_lines.proofs.NumberSpelling.{number_again, decimal_digits}
use Rattle.spec_lines.specs.Forms.{Line, is_line, is_number}
use Rattle.spec_lines.specs.Follows.{Place, after, entry_or_terms, child_or_next, arity}
use Rattle.spec_lines.specs.Items.{behind, same as same_text, keep_if}
use Rattle.spec_lines.specs.Readings.{line_at, entry_of, number_at}
use Rattle.spec_lines.specs.Machine.{step, run, gone_through}
use Rattle.spec_lines.specs.Forms.Line.{First, Basis, Root, Count, Entry, Grid, Obstructions, Requirements, Rule, Child, Terms, End}
use Rattle.spec_lines.specs.Follows.Place.{AtFirst, AtBasis, AtRoot, AtCount, AtEntry, AtGrid, AtObstructions, AtRequirements, AtRule, AtChild, AtTerms, AtEnd, Done}

abbrev IsWithin : Place → Type 0
IsWithin (AtEntry i left) = i + suc left < 10 ^ 39
IsWithin (AtGrid i left) = i + suc left < 10 ^ 39
IsWithin (AtObstructions i left) = i + suc left < 10 ^ 39
IsWithin (AtRequirements i left) = i + suc left < 10 ^ 39
IsWithin (AtRule i left) = i + suc left < 10 ^ 39
IsWithin (AtChild i left more) = i + suc left < 10 ^ 39
IsWithin _ = ⊤

abbrev pub Completable : Place → Type 0
Completable p = (more : List Text) × (run p more ≡ Some Done)

by_line : (p q : Place) (l : Text) → step p l ≡ Some q → Completable q → Completable p
by_line p q l e c = (l ∷ c.0, rw e (c.1))

further : (ls more : List Text) (o : Option Place) → ((q : Place) → run q (ls ++ more) ≡ option_and_then (λ q. run q more) (run q ls)) → option_and_then (λ q. run q (ls ++ more)) o ≡ option_and_then (λ q. run q more) (option_and_then (λ q. run q ls) o)
further ls more None h = refl
further ls more (Some q) h = h q

-- lines one after another
pub run_more : (p : Place) (ls more : List Text) → run p (ls ++ more) ≡ option_and_then (λ q. run q more) (run p ls)
run_more p [] more = refl
run_more p (l ∷ ls) more = further ls more (step p l) (λ q. run_more q ls more)

from_end : Completable AtEnd
from_end = by_line AtEnd Done (codes "end") refl ([], refl)

from_terms : Completable AtTerms
from_terms = by_line AtTerms AtEnd (codes "terms 0") refl from_end

from_rule : (i left : ℕ) → Completable (entry_or_terms (suc i) left) → Completable (AtRule i left)
from_rule i left c = by_line (AtRule i left) _ (codes "rule unit") refl c

from_requirements : (i left : ℕ) → Completable (entry_or_terms (suc i) left) → Completable (AtRequirements i left)
from_requirements i left c = by_line (AtRequirements i left) _ (codes "req -") refl (from_rule i left c)

from_obstructions : (i left : ℕ) → Completable (entry_or_terms (suc i) left) → Completable (AtObstructions i left)
from_obstructions i left c = by_line (AtObstructions i left) _ (codes "obs -") refl (from_requirements i left c)

from_grid : (i left : ℕ) → Completable (entry_or_terms (suc i) left) → Completable (AtGrid i left)
from_grid i left c = by_line (AtGrid i left) _ (codes "grid 0 0") refl (from_obstructions i left c)

-- the first line of an entry, with rank 0
abbrev entry_filler : ℕ → Text
entry_filler i = separated 32 (codes "entry" ∷ decimal i ∷ codes "rank" ∷ codes "0" ∷ [])

entry_filled : (i left : ℕ) → i + suc left < 10 ^ 39 → step (AtEntry i left) (entry_filler i) ≡ Some (AtGrid i left)
entry_filled i left h =
    let few : i < 10 ^ 39 = omega (arith, h) in
    let parts = items_joined 32 (codes "entry") (decimal i ∷ codes "rank" ∷ codes "0" ∷ []) refl (ap (λ b. b && true) (digits_are_free 32 (decimal i) refl (decimal_digits i few))) in
    let number = number_again i few in
    let in_form : nat_lt i (10 ^ 39) ≡ true = grind (arith, common_steps, few) in
    let same : (i == i) ≡ true = grind (arith, common_steps) in
    ap (λ ts. option_and_then (after (AtEntry i left)) (option_and_then (λ l. keep_if (is_line l) l) (option_and_then entry_of (behind (codes "entry") ts)))) parts
    ∙ ap (λ o. option_and_then (after (AtEntry i left)) (option_and_then (λ l. keep_if (is_line l) l) (option_and_then (λ number. option_and_then (λ rank. cond (same_text (codes "rank") (codes "rank")) (Some (Entry number rank)) None) (number_at (codes "0"))) o))) number
    ∙ ap (λ b. option_and_then (after (AtEntry i left)) (keep_if (b && is_number 0) (Entry i 0))) in_form
    ∙ ap (λ b. cond b (Some (AtGrid i left)) None) same

from_entries : (left i : ℕ) → i + left < 10 ^ 39 → Completable (entry_or_terms i left)
from_entries zero i h = from_terms
from_entries (suc left) i h = by_line (AtEntry i left) _ (entry_filler i) (entry_filled i left h) (from_grid i left (from_entries left (suc i) (omega (arith, h))))

after_entry : (i left : ℕ) → i + suc left < 10 ^ 39 → Completable (entry_or_terms (suc i) left)
after_entry i left h = from_entries left (suc i) (omega (arith, h))

from_child : (more i left : ℕ) → i + suc left < 10 ^ 39 → Completable (child_or_next i left more)
from_child zero i left h = after_entry i left h
from_child (suc more) i left h = by_line (AtChild i left more) _ (codes "to 0 -") refl (from_child more i left h)

from_count : Completable AtCount
from_count = by_line AtCount _ (codes "entries 0") refl from_terms

from_root : Completable AtRoot
from_root = by_line AtRoot _ (codes "root -") refl from_count

from_basis : Completable AtBasis
from_basis = by_line AtBasis _ (codes "basis 0") refl from_root

-- every place that is reached leads on to a whole text
pub completable : (p : Place) → IsWithin p → Completable p
completable AtFirst h = by_line AtFirst _ (codes "tilescope 1") refl from_basis
completable AtBasis h = from_basis
completable AtRoot h = from_root
completable AtCount h = from_count
completable (AtEntry i left) h = from_entries (suc left) i h
completable (AtGrid i left) h = from_grid i left (after_entry i left h)
completable (AtObstructions i left) h = from_obstructions i left (after_entry i left h)
completable (AtRequirements i left) h = from_requirements i left (after_entry i left h)
completable (AtRule i left) h = from_rule i left (after_entry i left h)
completable (AtChild i left more) h = from_child (suc more) i left h
completable AtTerms h = from_terms
completable AtEnd h = from_end
completable Done h = ([], refl)

entries_within : (i left : ℕ) → i + left < 10 ^ 39 → IsWithin (entry_or_terms i left)
entries_within i zero h = tt
entries_within i (suc left) h = h

children_within : (i left more : ℕ) → i + suc left < 10 ^ 39 → IsWithin (child_or_next i left more)
children_within i left zero h = entries_within (suc i) left (omega (arith, h))
children_within i left (suc more) h = h

tt_at : (p q : Place) → IsWithin p → Some p ≡ Some q → IsWithin q
tt_at p q h e = subst IsWithin (same_Some p q e) h

matched : (b : Bool) (p q : Place) → IsWithin p → cond b (Some p) None ≡ Some q → IsWithin q
matched true p q h e = tt_at p q h e
matched false p q h e = absurd (none-some q e)

counted : (n : ℕ) → nat_lt n (10 ^ 39) ≡ true → 0 + n < 10 ^ 39
counted n h = grind (arith, common_steps, h)

-- a line leads to a place within the bound
after_within : (p : Place) (l : Line) (q : Place) → is_line l ≡ true → IsWithin p → after p l ≡ Some q → IsWithin q
after_within AtFirst First q f h e = tt_at AtBasis q tt e
after_within AtBasis (Basis words) q f h e = tt_at AtRoot q tt e
after_within AtRoot (Root trace) q f h e = tt_at AtCount q tt e
after_within AtCount (Count n) q f h e = tt_at (entry_or_terms 0 n) q (entries_within 0 n (counted n f)) e
after_within (AtEntry i left) (Entry j rank) q f h e = matched (i == j) (AtGrid i left) q h e
after_within (AtGrid i left) (Grid w height) q f h e = tt_at (AtObstructions i left) q h e
after_within (AtObstructions i left) (Obstructions gs) q f h e = tt_at (AtRequirements i left) q h e
after_within (AtRequirements i left) (Requirements lists) q f h e = tt_at (AtRule i left) q h e
after_within (AtRule i left) (Rule k) q f h e = tt_at (child_or_next i left (arity k)) q (children_within i left (arity k) h) e
after_within (AtChild i left more) (Child c trace) q f h e = tt_at (child_or_next i left more) q (children_within i left more h) e
after_within AtTerms (Terms terms) q f h e = tt_at AtEnd q tt e
after_within AtEnd End q f h e = tt_at Done q tt e
after_within p l q f h e = absurd (none-some q e)

step_within : (p q : Place) (l : Text) → IsWithin p → step p l ≡ Some q → IsWithin q
step_within p q l h e = option_and_then_some (after p) (line_at p l) q e (λ v read on. after_within p v q (read_in_form p l v read) h on)

pub run_within : (p q : Place) (ls : List Text) → IsWithin p → run p ls ≡ Some q → IsWithin q
run_within p q [] h e = subst (IsWithin) (same_Some p q e) h
run_within p q (l ∷ ls) h e = option_and_then_some (λ q. run q ls) (step p l) q e (λ m first rest. run_within m q ls (step_within p m l h first) rest)

gone_on : (ls : List Text) (k : ℕ) (o : Option Place) → suc k ≤ unwrap_or (option_map (λ q. suc (gone_through q ls)) o) 0 → ((q : Place) → k ≤ gone_through q ls → (x : Place) × (run q (take k ls) ≡ Some x)) → (x : Place) × (option_and_then (λ q. run q (take k ls)) o ≡ Some x)
gone_on ls k None h each = absurd (omega (arith, h))
gone_on ls k (Some q) h each = each q (omega (arith, h))

pub run_gone : (p : Place) (ls : List Text) (k : ℕ) → k ≤ gone_through p ls → (q : Place) × (run p (take k ls) ≡ Some q)
run_gone p ls zero h = (p, refl)
run_gone p [] (suc k) h = (p, refl)
run_gone p (l ∷ ls) (suc k) h = gone_on ls k (step p l) h (λ q. run_gone q ls k)

stops_on : (ls : List Text) (o : Option Place) → unwrap_or (option_map (λ q. suc (gone_through q ls)) o) 0 < suc (length ls) → ((q : Place) → gone_through q ls < length ls → run q (take (suc (gone_through q ls)) ls) ≡ None) → option_and_then (λ q. run q (take (unwrap_or (option_map (λ q. suc (gone_through q ls)) o) 0) ls)) o ≡ None
stops_on ls None h each = refl
stops_on ls (Some q) h each = each q (omega (arith, h))

pub stops : (p : Place) (ls : List Text) → gone_through p ls < length ls → run p (take (suc (gone_through p ls)) ls) ≡ None
stops p [] h = absurd (omega (arith, h))
stops p (l ∷ ls) h = stops_on ls (step p l) h (λ q. stops q ls)

there_on : (ls : List Text) (o : Option Place) → ((q : Place) → gone_through q ls ≤ length ls) → unwrap_or (option_map (λ q. suc (gone_through q ls)) o) 0 ≤ suc (length ls)
there_on ls None each = omega arith
there_on ls (Some q) each = let few = each q in omega (arith, few)

pub gone_there : (p : Place) (ls : List Text) → gone_through p ls ≤ length ls
gone_there p [] = omega arith
gone_there p (l ∷ ls) = there_on ls (step p l) (λ q. gone_there q ls)
