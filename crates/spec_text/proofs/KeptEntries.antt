-- A file whose values are kept as the types keep them has lines of the form, in range.
use Rattle.std.proofs.Common.{◌≡◌, ◌+◌, ◌≤◌, ◌<◌, ◌^◌, ℕ, suc, true, List, [], ◌∷◌, ◌++◌, length, refl, sym, subst, true≢false, arith, append_assoc}
use Rattle.std.specs.Prelude.{◌&&◌, nat_lt, nat_le, slice_index}
use Rattle.std.specs.List.{list_all}
use Rattle.std.specs.Cmp.{first_so, second_so}
use Rattle.std.proofs.lemmas.Bool.{and_from}
use Rattle.std.proofs.lemmas.Grind.{common_steps}
use Rattle.lists.specs.Members.{IsIn}
use Rattle.lists.specs.Members.IsIn.{here, later}
use Rattle.lists.proofs.Members.{of_all}
use Rattle.lists.proofs.Tests.{all_pass}
use Rattle.perm_core.specs.Orders.{perm_cmp}
use Rattle.perm_core.specs.Basis.{IsBasis, IsBasisPerm}
use Rattle.perm_core.proofs.Repeats.{test_of_distinct}
use Rattle.tiling_core.specs.Tiles.{IsTiling}
use Rattle.steps.specs.declared.step.Step.{Step}
use Rattle.css_terms.specs.declared.term.Term.{Term}
use Rattle.css_terms.specs.declared.term.Term.TheVariants.{Exact, Big}
use Rattle.spec_lines.specs.Forms.{Line, is_line, has_items, ascending, is_number, is_word, is_step, are_terms}
use Rattle.spec_lines.specs.Forms.Line.{Basis, Entry, Grid, Obstructions, Requirements, Rule, Terms, End}
use Rattle.spec_lines.specs.Ranges.{Seen, nothing_seen, is_from_1_to, is_inside, is_term_in_range, is_in_range, are_in_range}
use Rattle.spec_lines.specs.Files.{FileEntry, File, child_lines_of, lines_of_entry, lines_of_entries, has_children, IsWritable}
use Rattle.spec_lines.proofs.Ascents.{sorted_ascends}
use Rattle.spec_text.proofs.KeptLines.{obstructions_kept, obstructions_inside, requirements_kept, requirements_inside, short_word}
use Rattle.spec_text.proofs.KeptKinds.{HasLine}
use Rattle.spec_text.specs.Files.{ends_at_big}

-- what an entry needs so that its lines are of the form, in range, where there are n entries
pub record IsGoodEntry (n : ℕ) (e : FileEntry) : Type 0 where
  pub tiling : IsTiling e.class
  pub rank : e.rank < 2 ^ 32
  pub kind : HasLine e.kind
  pub children : list_all (λ c. nat_lt c n) e.children ≡ true
  pub traces : list_all (list_all is_step) e.traces ≡ true
  pub many : has_children e ≡ true

small_number : (n c : ℕ) → n ≤ 100000 → nat_lt c n ≡ true → is_number c ≡ true
small_number n c few h = grind (arith, common_steps, few, h)

children_form : (n : ℕ) (children : List ℕ) (traces : List (List Step)) (rest : List Line) → n ≤ 100000 → list_all (λ c. nat_lt c n) children ≡ true → list_all (list_all is_step) traces ≡ true → list_all is_line rest ≡ true → list_all is_line (child_lines_of children traces ++ rest) ≡ true
children_form n [] traces rest few cs ts h = h
children_form n (c ∷ children) [] rest few cs ts h =
    let number = small_number n c few (first_so (nat_lt c n) (list_all (λ c. nat_lt c n) children) cs) in
    and_from (is_number c && true) (list_all is_line (child_lines_of children [] ++ rest)) (and_from (is_number c) true number refl) (children_form n children [] rest few (second_so (nat_lt c n) (list_all (λ c. nat_lt c n) children) cs) refl h)
children_form n (c ∷ children) (trace ∷ traces) rest few cs ts h =
    let number = small_number n c few (first_so (nat_lt c n) (list_all (λ c. nat_lt c n) children) cs) in
    and_from (is_number c && list_all is_step trace) (list_all is_line (child_lines_of children traces ++ rest))
    (and_from (is_number c) (list_all is_step trace) number (first_so (list_all is_step trace) (list_all (list_all is_step) traces) ts))
    (children_form n children traces rest few (second_so (nat_lt c n) (list_all (λ c. nat_lt c n) children) cs) (second_so (list_all is_step trace) (list_all (list_all is_step) traces) ts) h)

entry_form : (n i : ℕ) (e : FileEntry) (rest : List Line) → n ≤ 100000 → i < n → IsGoodEntry n e → list_all is_line rest ≡ true → list_all is_line (lines_of_entry i e ++ rest) ≡ true
entry_form n i e rest few below good h =
    let tail = children_form n e.children e.traces rest few good.children good.traces h in
    let rank = good.rank in
    let tiling = good.tiling in
    let narrow = tiling.narrow in
    let low = tiling.low in
    let numbers : is_number i && is_number e.rank ≡ true = and_from (is_number i) (is_number e.rank) (grind (arith, common_steps, few, below)) (grind (arith, common_steps, rank)) in
    let sides : is_number e.class.width && is_number e.class.height ≡ true = and_from (is_number e.class.width) (is_number e.class.height) (grind (arith, common_steps, narrow)) (grind (arith, common_steps, low)) in
    and_from (is_line (Entry i e.rank)) _ numbers (and_from (is_line (Grid e.class.width e.class.height)) _ sides (and_from (is_line (Obstructions e.class.obstructions)) _ (obstructions_kept e.class tiling)
    (and_from (is_line (Requirements e.class.requirements)) _ (requirements_kept e.class tiling) (and_from (is_line (Rule e.kind)) _ good.kind.form tail))))

entries_form : (n i : ℕ) (entries : List FileEntry) (rest : List Line) → n ≤ 100000 → i + length entries ≤ n → ((e : FileEntry) → IsIn e entries → IsGoodEntry n e) → list_all is_line rest ≡ true → list_all is_line (lines_of_entries i entries ++ rest) ≡ true
entries_form n i [] rest few below good h = h
entries_form n i (e ∷ entries) rest few below good h =
    subst (λ ls. list_all is_line ls ≡ true) (sym (append_assoc (lines_of_entry i e) (lines_of_entries (suc i) entries) rest))
    (entry_form n i e (lines_of_entries (suc i) entries ++ rest) few (omega (arith, below)) (good e here) (entries_form n (suc i) entries rest few (omega (arith, below)) (λ f there. good f (later e there)) h))

-- ====== ranges ======
children_range : (s : Seen) (children : List ℕ) (traces : List (List Step)) (rest : List Line) → list_all (λ c. nat_lt c s.entries) children ≡ true → are_in_range s rest ≡ true → are_in_range s (child_lines_of children traces ++ rest) ≡ true
children_range s [] traces rest cs h = h
children_range s (c ∷ children) [] rest cs h =
    and_from (nat_lt c s.entries) (are_in_range s (child_lines_of children [] ++ rest)) (first_so (nat_lt c s.entries) (list_all (λ c. nat_lt c s.entries) children) cs) (children_range s children [] rest (second_so (nat_lt c s.entries) (list_all (λ c. nat_lt c s.entries) children) cs) h)
children_range s (c ∷ children) (trace ∷ traces) rest cs h =
    and_from (nat_lt c s.entries) (are_in_range s (child_lines_of children traces ++ rest)) (first_so (nat_lt c s.entries) (list_all (λ c. nat_lt c s.entries) children) cs) (children_range s children traces rest (second_so (nat_lt c s.entries) (list_all (λ c. nat_lt c s.entries) children) cs) h)

abbrev seen_in : ℕ → FileEntry → Seen
seen_in n e = record { entries = n; width = e.class.width; height = e.class.height }

entry_range : (n i w h : ℕ) (e : FileEntry) (rest : List Line) → IsGoodEntry n e → are_in_range (seen_in n e) rest ≡ true → are_in_range (record { entries = n; width = w; height = h }) (lines_of_entry i e ++ rest) ≡ true
entry_range n i w h e rest good k =
    let rank = good.rank in
    let tiling = good.tiling in
    let narrow = tiling.narrow in
    let low = tiling.low in
    let first : nat_lt e.rank (2 ^ 32) ≡ true = grind (arith, common_steps, rank) in
    let sides : nat_le e.class.width 8 && nat_le e.class.height 8 ≡ true = and_from (nat_le e.class.width 8) (nat_le e.class.height 8) (grind (arith, common_steps, narrow)) (grind (arith, common_steps, low)) in
    and_from (nat_lt e.rank (2 ^ 32)) _ first (and_from (nat_le e.class.width 8 && nat_le e.class.height 8) _ sides
    (and_from (list_all (λ g. is_inside e.class.width e.class.height g) e.class.obstructions) _ (obstructions_inside e.class tiling)
    (and_from (list_all (λ gs. list_all (λ g. is_inside e.class.width e.class.height g) gs) e.class.requirements) _ (requirements_inside e.class tiling)
    (and_from _ (are_in_range (seen_in n e) (child_lines_of e.children e.traces ++ rest)) good.kind.range (children_range (seen_in n e) e.children e.traces rest good.children k)))))

entries_range : (n i w h : ℕ) (entries : List FileEntry) (rest : List Line) → ((e : FileEntry) → IsIn e entries → IsGoodEntry n e) → ((v u : ℕ) → are_in_range (record { entries = n; width = v; height = u }) rest ≡ true) → are_in_range (record { entries = n; width = w; height = h }) (lines_of_entries i entries ++ rest) ≡ true
entries_range n i w h [] rest good k = k w h
entries_range n i w h (e ∷ entries) rest good k =
    subst (λ ls. are_in_range (record { entries = n; width = w; height = h }) ls ≡ true) (sym (append_assoc (lines_of_entry i e) (lines_of_entries (suc i) entries) rest))
    (entry_range n i w h e (lines_of_entries (suc i) entries ++ rest) (good e here) (entries_range n (suc i) e.class.width e.class.height entries rest (λ f there. good f (later e there)) k))

-- ====== the basis and the terms ======
pub letters_below : (w : List ℕ) (n : ℕ) → ((k : ℕ) → k < length w → slice_index w k < n) → list_all (λ x. nat_lt x n) w ≡ true
letters_below [] n each = refl
letters_below (x ∷ w) n each =
    let first : x < n = each 0 (omega arith) in
    and_from (nat_lt x n) (list_all (λ y. nat_lt y n) w) (grind (arith, common_steps, first)) (letters_below w n (λ k h. each (suc k) (omega (arith, h))))

word_kept : (w : List ℕ) → IsBasisPerm w → is_word w ≡ true
word_kept w kept =
    let below : (k : ℕ) → k < length w → slice_index w k < length w = λ k h. (kept.perm k h).below in
    short_word w kept.some kept.short (letters_below w (length w) below) (test_of_distinct w (λ k h. (kept.perm k h).new))

basis_line_kept : (basis : List (List ℕ)) → IsBasis basis → (is_line (Basis basis) ≡ true) × (is_in_range nothing_seen (Basis basis) ≡ true)
basis_line_kept basis kept =
    let some = kept.some in
    let few = kept.few in
    let words = all_pass is_word basis (λ w there. word_kept w (of_all IsBasisPerm kept.perms there)) in
    let short = all_pass (λ w. nat_le (length w) 9) basis (λ w there. let own = (of_all IsBasisPerm kept.perms there).short in grind (arith, common_steps, own)) in
    let many : is_from_1_to 32 (length basis) ≡ true = grind (arith, common_steps, some, few) in (
      and_from (has_items basis && list_all is_word basis) (ascending perm_cmp basis) (and_from (has_items basis) (list_all is_word basis) (not_empty basis some) words) (sorted_ascends perm_cmp basis kept.ascends),
      and_from (is_from_1_to 32 (length basis)) (list_all (λ w. nat_le (length w) 9) basis) many short,
    )
  where
    not_empty : (xs : List (List ℕ)) → 0 < length xs → has_items xs ≡ true
    not_empty [] h = absurd (omega (arith, h))
    not_empty (x ∷ xs) h = refl

terms_kept : (terms : List Term) → list_all is_term_in_range terms ≡ true → ends_at_big terms ≡ true → are_terms terms ≡ true
terms_kept [] h k = refl
terms_kept (Exact n ∷ terms) h k =
    let small = first_so (nat_lt n (2 ^ 128)) (list_all is_term_in_range terms) h in
    and_from (is_number n) (are_terms terms) (grind (arith, common_steps, small)) (terms_kept terms (second_so (nat_lt n (2 ^ 128)) (list_all is_term_in_range terms) h) k)
terms_kept (Big ∷ terms) h k = k

terms_line_kept : (terms : List Term) → is_from_1_to 201 (length terms) ≡ true → list_all is_term_in_range terms ≡ true → ends_at_big terms ≡ true → is_line (Terms terms) ≡ true
terms_line_kept terms many h k = and_from (has_items terms) (are_terms terms) (not_empty terms many) (terms_kept terms h k) where
  not_empty : (xs : List Term) → is_from_1_to 201 (length xs) ≡ true → has_items xs ≡ true
  not_empty [] e = absurd (true≢false (sym e))
  not_empty (x ∷ xs) e = refl

-- ====== the file ======
pub record IsGoodFile (f : File) : Type 0 where
  pub basis : IsBasis f.basis
  pub trace : list_all is_step f.root_trace ≡ true
  pub some : 0 < length f.entries
  pub few : length f.entries ≤ 100000
  pub entries : (e : FileEntry) → IsIn e f.entries → IsGoodEntry (length f.entries) e
  pub many : is_from_1_to 201 (length f.terms) ≡ true
  pub terms : list_all is_term_in_range f.terms ≡ true
  pub last : ends_at_big f.terms ≡ true

pub good_is_writable : (f : File) → IsGoodFile f → IsWritable f
good_is_writable f good =
    let n = length f.entries in
    let rest = Terms f.terms ∷ End ∷ [] in
    let some = good.some in
    let few = good.few in
    let basis = basis_line_kept f.basis good.basis in
    let number : is_number n ≡ true = grind (arith, common_steps, few) in
    let count : is_from_1_to 100000 n ≡ true = grind (arith, common_steps, some, few) in
    let last : list_all is_line rest ≡ true = and_from (is_line (Terms f.terms)) true (terms_line_kept f.terms good.many good.terms good.last) refl in
    let last_range : (v u : ℕ) → are_in_range (record { entries = n; width = v; height = u }) rest ≡ true = λ v u. and_from (is_from_1_to 201 (length f.terms) && list_all is_term_in_range f.terms) true (and_from (is_from_1_to 201 (length f.terms)) (list_all is_term_in_range f.terms) good.many good.terms) refl in
    record {
      each = and_from (is_line (Basis f.basis)) _ (basis.0) (and_from (list_all is_step f.root_trace) _ good.trace (and_from (is_number n) _ number (entries_form n 0 f.entries rest few (omega arith) good.entries last)));
      ranges = and_from (is_in_range nothing_seen (Basis f.basis)) _ (basis.1) (and_from (is_from_1_to 100000 n) _ count (entries_range n 0 0 0 f.entries rest good.entries last_range));
      children = all_pass has_children f.entries (λ e there. (good.entries e there).many);
    }
