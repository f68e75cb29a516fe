-- What the ranges of a file's lines say of its entries and terms.
use Rattle.std.proofs.Common.{◌≡◌, ◌≤◌, ◌<◌, ℕ, suc, true, List, [], ◌∷◌, ◌++◌, length, subst, arith, append_assoc}
use Rattle.std.specs.Prelude.{All, ◌&&◌, nat_lt, nat_le}
use Rattle.std.specs.List.{list_all}
use Rattle.std.specs.Cmp.{first_so, second_so}
use Rattle.std.proofs.lemmas.List.Elements.{All-nil, All-cons}
use Rattle.std.proofs.lemmas.Grind.{common_steps}
use Rattle.steps.specs.declared.step.Step.{Step}
use Rattle.spec_lines.specs.Forms.{Line}
use Rattle.spec_lines.specs.Forms.Line.{First, Basis, Root, Count, Entry, Grid, Obstructions, Requirements, Rule, Child, Terms, End}
use Rattle.spec_lines.specs.Ranges.{Seen, nothing_seen, seen_with, is_in_range, are_in_range, is_from_1_to, is_term_in_range}
use Rattle.spec_lines.specs.Files.{File, FileEntry, child_lines_of, lines_of_entry, lines_of_entries, file_lines}
use Rattle.spec_text.specs.Joining.{AreNumbers}

less : (m n : ℕ) → nat_lt m n ≡ true → m < n
less m n h = grind (arith, common_steps, h)

-- the first line, and those after it
rest_in : (s : Seen) (l : Line) (lines : List Line) → are_in_range s (l ∷ lines) ≡ true → are_in_range (seen_with s l) lines ≡ true
rest_in s l lines h = second_so (is_in_range s l) (are_in_range (seen_with s l) lines) h

-- ====== children ======
abbrev pub AreBelow : ℕ → List ℕ → Type 0
AreBelow n children = All (λ child. child < n) children

one_below : (s : Seen) (child : ℕ) (trace : List Step) (children : List ℕ) (lines rest : List Line)
    → (are_in_range s lines ≡ true → AreBelow s.entries children × (are_in_range s rest ≡ true))
    → are_in_range s (Child child trace ∷ lines) ≡ true → AreBelow s.entries (child ∷ children) × (are_in_range s rest ≡ true)
one_below s child trace children lines rest further h =
    let later = further (rest_in s (Child child trace) lines h) in (
      All-cons (λ c. c < s.entries) child children (less child s.entries (first_so (nat_lt child s.entries) (are_in_range s lines) h)) (later.0),
      later.1,
    )

children_below : (s : Seen) (children : List ℕ) (traces : List (List Step)) (rest : List Line) → are_in_range s (child_lines_of children traces ++ rest) ≡ true → AreBelow s.entries children × (are_in_range s rest ≡ true)
children_below s [] traces rest h = (All-nil (λ c. c < s.entries), h)
children_below s (child ∷ children) [] rest h = one_below s child [] children (child_lines_of children [] ++ rest) rest (children_below s children [] rest) h
children_below s (child ∷ children) (trace ∷ traces) rest h = one_below s child trace children (child_lines_of children traces ++ rest) rest (children_below s children traces rest) h

-- ====== entries ======
abbrev pub seen_by : ℕ → ℕ → ℕ → Seen
seen_by entries width height = record { entries = entries; width = width; height = height }

-- the lines are in range after so many entries, in some grid
abbrev pub IsGoodRest : ℕ → List Line → Type 0
IsGoodRest n rest = (width : ℕ) × (height : ℕ) × (are_in_range (seen_by n width height) rest ≡ true)

entry_below : (n i w h : ℕ) (e : FileEntry) (rest : List Line) → are_in_range (seen_by n w h) (lines_of_entry i e ++ rest) ≡ true → AreBelow n e.children × (are_in_range (seen_by n e.class.width e.class.height) rest ≡ true)
entry_below n i w h e rest k =
    let s = seen_by n w h in
    let t = seen_by n e.class.width e.class.height in
    let rule = Rule e.kind ∷ child_lines_of e.children e.traces ++ rest in
    let req = Requirements e.class.requirements ∷ rule in
    let obs = Obstructions e.class.obstructions ∷ req in
    let at_grid = rest_in s (Entry i e.rank) (Grid e.class.width e.class.height ∷ obs) k in
    let at_obs = rest_in s (Grid e.class.width e.class.height) obs at_grid in
    let at_req = rest_in t (Obstructions e.class.obstructions) req at_obs in
    let at_rule = rest_in t (Requirements e.class.requirements) rule at_req in
    children_below t e.children e.traces rest (rest_in t (Rule e.kind) (child_lines_of e.children e.traces ++ rest) at_rule)

entries_below : (n i w h : ℕ) (entries : List FileEntry) (rest : List Line) → are_in_range (seen_by n w h) (lines_of_entries i entries ++ rest) ≡ true → All (λ e. AreBelow n e.children) entries × IsGoodRest n rest
entries_below n i w h [] rest k = (All-nil (λ e. AreBelow n e.children), (w, h, k))
entries_below n i w h (e ∷ entries) rest k =
    let own = entry_below n i w h e (lines_of_entries (suc i) entries ++ rest) (subst (λ lines. are_in_range (seen_by n w h) lines ≡ true) (append_assoc (lines_of_entry i e) (lines_of_entries (suc i) entries) rest) k) in
    let later = entries_below n (suc i) e.class.width e.class.height entries rest (own.1) in
    (All-cons (λ x. AreBelow n x.children) e entries (own.0) (later.0), later.1)

-- ====== the file ======
pub record HasRanges (f : File) : Type 0 where
  pub numbers : AreNumbers f.entries
  pub some_entries : 1 ≤ length f.entries
  pub few_entries : length f.entries ≤ 100000
  pub some_terms : 1 ≤ length f.terms
  pub few_terms : length f.terms ≤ 201

from_1 : (most n : ℕ) → is_from_1_to most n ≡ true → 1 ≤ n
from_1 most n h = let test = first_so (nat_le 1 n) (nat_le n most) h in grind (arith, common_steps, test)

to_most : (most n : ℕ) → is_from_1_to most n ≡ true → n ≤ most
to_most most n h = let test = second_so (nat_le 1 n) (nat_le n most) h in grind (arith, common_steps, test)

pub has_ranges : (f : File) → are_in_range nothing_seen (file_lines f) ≡ true → HasRanges f
has_ranges f h =
    let n = length f.entries in
    let last = Terms f.terms ∷ End ∷ [] in
    let entries = lines_of_entries 0 f.entries ++ last in
    let at_count = rest_in nothing_seen (Basis f.basis) (Root f.root_trace ∷ Count n ∷ entries) (rest_in nothing_seen First (Basis f.basis ∷ Root f.root_trace ∷ Count n ∷ entries) h) in
    let counted = rest_in nothing_seen (Root f.root_trace) (Count n ∷ entries) at_count in
    let count : is_from_1_to 100000 n ≡ true = first_so (is_from_1_to 100000 n) (are_in_range (seen_by n 0 0) entries) counted in
    let below = entries_below n 0 0 0 f.entries last (rest_in nothing_seen (Count n) entries counted) in
    let terms = first_so (is_from_1_to 201 (length f.terms) && list_all is_term_in_range f.terms) true (below.1.2) in
    let many = first_so (is_from_1_to 201 (length f.terms)) (list_all is_term_in_range f.terms) terms in
    record {
      numbers = below.0;
      some_entries = from_1 100000 n count;
      few_entries = to_most 100000 n count;
      some_terms = from_1 201 (length f.terms) many;
      few_terms = to_most 201 (length f.terms) many;
    }
