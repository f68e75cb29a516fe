-- The lines of a file tell it, and the lines of a text of the form are those of a file.
use Rattle.std.proofs.Common.{◌≡◌, ℕ, suc, Bool, true, false, cond, List, [], ◌∷◌, ◌++◌, length, refl, ap, sym, ◌∙◌, true≢false, append_assoc, arith}
use Rattle.std.specs.Prelude.{◌==◌, nat_eq, Some, None, option_and_then}
use Rattle.std.specs.List.{list_all}
use Rattle.std.specs.Cmp.{first_so, second_so}
use Rattle.std.proofs.lemmas.Bool.{and_from}
use Rattle.std.proofs.lemmas.Grind.{common_steps}
use Rattle.gridded.specs.Grids.{Point}
use Rattle.steps.specs.declared.step.Step.{Step}
use Rattle.css_terms.specs.declared.term.Term.{Term}
use Rattle.rule_kinds.specs.declared.kind.Kind.{Kind}
use Rattle.rule_kinds.specs.declared.kind.Kind.TheVariants as kind
use Rattle.spec_lines.specs.Lines.{Text}
use Rattle.spec_lines.specs.Forms.{Line}
use Rattle.spec_lines.specs.Forms.Line.{First, Basis, Root, Count, Entry, Grid, Obstructions, Requirements, Rule, Child, Terms, End}
use Rattle.spec_lines.specs.Follows.{Place, arity, entry_or_terms, child_or_next, after, place_after}
use Rattle.spec_lines.specs.Follows.Place.{AtEntry, AtGrid, AtTerms}
use Rattle.spec_lines.specs.Files.{FileEntry, File, child_lines_of, lines_of_entry, lines_of_entries, file_lines, file_text, has_traces, has_children, IsFileText, IsWritable}
use Rattle.spec_lines.proofs.Taking.{equal_tests, equal_numbers}
use Rattle.spec_lines.proofs.Bodies.{one_reading}

-- ====== where a file's lines lead ======
steps_on : (p q : Place) (l : Line) (lines : List Line) → after p l ≡ Some q → place_after p (l ∷ lines) ≡ place_after q lines
steps_on p q l lines h = ap (option_and_then (λ m. place_after m lines)) h

children_lead : (i left : ℕ) (children : List ℕ) (traces : List (List Step)) (rest : List Line) → place_after (child_or_next i left (length children)) (child_lines_of children traces ++ rest) ≡ place_after (entry_or_terms (suc i) left) rest
children_lead i left [] traces rest = refl
children_lead i left (child ∷ children) [] rest = children_lead i left children [] rest
children_lead i left (child ∷ children) (trace ∷ traces) rest = children_lead i left children traces rest

same_number : (i : ℕ) → (i == i) ≡ true
same_number i = grind (arith, common_steps)

entry_leads : (i left : ℕ) (e : FileEntry) (rest : List Line) → length e.children ≡ arity e.kind → place_after (AtEntry i left) (lines_of_entry i e ++ rest) ≡ place_after (entry_or_terms (suc i) left) rest
entry_leads i left e rest many =
    steps_on (AtEntry i left) (AtGrid i left) (Entry i e.rank) (Grid e.class.width e.class.height ∷ Obstructions e.class.obstructions ∷ Requirements e.class.requirements ∷ Rule e.kind ∷ child_lines_of e.children e.traces ++ rest) (ap (λ b. cond b (Some (AtGrid i left)) None) (same_number i))
    ∙ ap (λ n. place_after (child_or_next i left n) (child_lines_of e.children e.traces ++ rest)) (sym many)
    ∙ children_lead i left e.children e.traces rest

many_children : (e : FileEntry) → has_children e ≡ true → length e.children ≡ arity e.kind
many_children e h = equal_numbers (length e.children) (arity e.kind) (first_so (nat_eq (length e.children) (arity e.kind)) (nat_eq (length e.traces) (arity e.kind)) h)

entries_lead : (i : ℕ) (entries : List FileEntry) (rest : List Line) → list_all has_children entries ≡ true → place_after (entry_or_terms i (length entries)) (lines_of_entries i entries ++ rest) ≡ place_after AtTerms rest
entries_lead i [] rest h = refl
entries_lead i (e ∷ entries) rest h =
    ap (place_after (AtEntry i (length entries))) (append_assoc (lines_of_entry i e) (lines_of_entries (suc i) entries) rest)
    ∙ entry_leads i (length entries) e (lines_of_entries (suc i) entries ++ rest) (many_children e (first_so (has_children e) (list_all has_children entries) h))
    ∙ entries_lead (suc i) entries rest (second_so (has_children e) (list_all has_children entries) h)

traces_of : (e : FileEntry) → has_children e ≡ true → has_traces e ≡ true
traces_of e h =
    let children = many_children e h in
    let traces = equal_numbers (length e.traces) (arity e.kind) (second_so (nat_eq (length e.children) (arity e.kind)) (nat_eq (length e.traces) (arity e.kind)) h) in
    equal_tests (length e.traces) (length e.children) (traces ∙ sym children)

each_traces : (entries : List FileEntry) → list_all has_children entries ≡ true → list_all has_traces entries ≡ true
each_traces [] h = refl
each_traces (e ∷ entries) h = and_from (has_traces e) (list_all has_traces entries) (traces_of e (first_so (has_children e) (list_all has_children entries) h)) (each_traces entries (second_so (has_children e) (list_all has_children entries) h))

pub writable_is_spelled : (f : File) → IsWritable f → IsFileText (file_text f) f
writable_is_spelled f w = record {
  spelled = record {
    form = record { text = refl; each = w.each; whole = entries_lead 0 f.entries (Terms f.terms ∷ End ∷ []) w.children };
    ranges = w.ranges;
  };
  traces = each_traces f.entries w.children;
}

-- ====== what lines tell ======
abbrev rank_in : List Line → ℕ
rank_in (Entry number rank ∷ lines) = rank
rank_in _ = 0

abbrev sides_in : List Line → ℕ × ℕ
sides_in (Grid width height ∷ lines) = (width, height)
sides_in _ = (0, 0)

abbrev obstructions_in : List Line → List (List Point)
obstructions_in (Obstructions patterns ∷ lines) = patterns
obstructions_in _ = []

abbrev requirements_in : List Line → List (List (List Point))
requirements_in (Requirements lists ∷ lines) = lists
requirements_in _ = []

abbrev kind_in : List Line → Kind
kind_in (Rule k ∷ lines) = k
kind_in _ = kind.Unit

abbrev next : List Line → List Line
next [] = []
next (l ∷ lines) = lines

-- the lines of children in front, and those behind
abbrev children_in : List Line → List ℕ
children_in (Child child trace ∷ lines) = child ∷ children_in lines
children_in _ = []

abbrev traces_in : List Line → List (List Step)
traces_in (Child child trace ∷ lines) = trace ∷ traces_in lines
traces_in _ = []

abbrev past_children : List Line → List Line
past_children (Child child trace ∷ lines) = past_children lines
past_children lines = lines

abbrev no_child : List Line → Bool
no_child (Child child trace ∷ lines) = false
no_child _ = true

none_in_front : (rest : List Line) → no_child rest ≡ true → (children_in rest ≡ []) × (traces_in rest ≡ []) × (past_children rest ≡ rest)
none_in_front [] h = (refl, refl, refl)
none_in_front (Child child trace ∷ lines) h = absurd (true≢false (sym h))
none_in_front (First ∷ lines) h = (refl, refl, refl)
none_in_front (Basis words ∷ lines) h = (refl, refl, refl)
none_in_front (Root trace ∷ lines) h = (refl, refl, refl)
none_in_front (Count entries ∷ lines) h = (refl, refl, refl)
none_in_front (Entry number rank ∷ lines) h = (refl, refl, refl)
none_in_front (Grid width height ∷ lines) h = (refl, refl, refl)
none_in_front (Obstructions patterns ∷ lines) h = (refl, refl, refl)
none_in_front (Requirements lists ∷ lines) h = (refl, refl, refl)
none_in_front (Rule k ∷ lines) h = (refl, refl, refl)
none_in_front (Terms terms ∷ lines) h = (refl, refl, refl)
none_in_front (End ∷ lines) h = (refl, refl, refl)

children_told : (children : List ℕ) (traces : List (List Step)) (rest : List Line) → length traces ≡ length children → no_child rest ≡ true
    → (children_in (child_lines_of children traces ++ rest) ≡ children) × (traces_in (child_lines_of children traces ++ rest) ≡ traces) × (past_children (child_lines_of children traces ++ rest) ≡ rest)
children_told [] [] rest many none = none_in_front rest none
children_told [] (trace ∷ traces) rest many none = absurd (omega (arith, many))
children_told (child ∷ children) [] rest many none = absurd (omega (arith, many))
children_told (child ∷ children) (trace ∷ traces) rest many none =
    let told = children_told children traces rest (omega (arith, many)) none in
    (ap (λ cs. child ∷ cs) (told.0), ap (λ ts. trace ∷ ts) (told.1), told.2)

-- the first entry of lines, and the lines behind it
abbrev entry_in : List Line → FileEntry
entry_in lines = record {
  class = record { width = (sides_in (next lines)).0; height = (sides_in (next lines)).1; obstructions = obstructions_in (next (next lines)); requirements = requirements_in (next (next (next lines))) };
  rank = rank_in lines;
  kind = kind_in (next (next (next (next lines))));
  children = children_in (next (next (next (next (next lines)))));
  traces = traces_in (next (next (next (next (next lines)))));
}

abbrev past_entry : List Line → List Line
past_entry lines = past_children (next (next (next (next (next lines)))))

entry_told : (i : ℕ) (e : FileEntry) (rest : List Line) → has_traces e ≡ true → no_child rest ≡ true → (entry_in (lines_of_entry i e ++ rest) ≡ e) × (past_entry (lines_of_entry i e ++ rest) ≡ rest)
entry_told i e rest many none =
    let told = children_told e.children e.traces rest (equal_numbers (length e.traces) (length e.children) many) none in
    (ap (λ cs. record e { children = cs; traces = traces_in (child_lines_of e.children e.traces ++ rest) }) (told.0) ∙ ap (λ ts. record e { traces = ts }) (told.1), told.2)

abbrev terms_in : List Line → List Term
terms_in (Terms terms ∷ lines) = terms
terms_in _ = []

abbrev is_entry : List Line → Bool
is_entry (Entry number rank ∷ lines) = true
is_entry _ = false

abbrev last_lines : ℕ → List FileEntry → List Term → List Line
last_lines i entries terms = lines_of_entries i entries ++ Terms terms ∷ End ∷ []

no_child_next : (i : ℕ) (entries : List FileEntry) (terms : List Term) → no_child (last_lines i entries terms) ≡ true
no_child_next i [] terms = refl
no_child_next i (e ∷ entries) terms = refl

entries_told : (i : ℕ) (es fs : List FileEntry) (ts us : List Term) → list_all has_traces es ≡ true → list_all has_traces fs ≡ true → last_lines i es ts ≡ last_lines i fs us → (es ≡ fs) × (ts ≡ us)
entries_told i [] [] ts us h k same = (refl, ap terms_in same)
entries_told i [] (f ∷ fs) ts us h k same = absurd (true≢false (sym (ap is_entry same)))
entries_told i (e ∷ es) [] ts us h k same = absurd (true≢false (ap is_entry same))
entries_told i (e ∷ es) (f ∷ fs) ts us h k same =
    let split = append_assoc (lines_of_entry i e) (lines_of_entries (suc i) es) (Terms ts ∷ End ∷ []) in
    let other = append_assoc (lines_of_entry i f) (lines_of_entries (suc i) fs) (Terms us ∷ End ∷ []) in
    let joined : lines_of_entry i e ++ last_lines (suc i) es ts ≡ lines_of_entry i f ++ last_lines (suc i) fs us = sym split ∙ same ∙ other in
    let first = entry_told i e (last_lines (suc i) es ts) (first_so (has_traces e) (list_all has_traces es) h) (no_child_next (suc i) es ts) in
    let second = entry_told i f (last_lines (suc i) fs us) (first_so (has_traces f) (list_all has_traces fs) k) (no_child_next (suc i) fs us) in
    let later = entries_told (suc i) es fs ts us (second_so (has_traces e) (list_all has_traces es) h) (second_so (has_traces f) (list_all has_traces fs) k) (sym (first.1) ∙ ap past_entry joined ∙ second.1) in
    let entry : e ≡ f = sym (first.0) ∙ ap entry_in joined ∙ second.0 in
    (ap (λ x. x ∷ es) entry ∙ ap (λ xs. f ∷ xs) (later.0), later.1)

abbrev basis_in : List Line → List (List ℕ)
basis_in (Basis words ∷ lines) = words
basis_in _ = []

abbrev trace_in : List Line → List Step
trace_in (Root trace ∷ lines) = trace
trace_in _ = []

lines_told : (f g : File) → list_all has_traces f.entries ≡ true → list_all has_traces g.entries ≡ true → file_lines f ≡ file_lines g → f ≡ g
lines_told f g h k same =
    let basis : f.basis ≡ g.basis = ap (λ ls. basis_in (next ls)) same in
    let trace : f.root_trace ≡ g.root_trace = ap (λ ls. trace_in (next (next ls))) same in
    let rest = entries_told 0 f.entries g.entries f.terms g.terms h k (ap (λ ls. next (next (next (next ls)))) same) in
    ap (λ b. record f { basis = b }) basis ∙ ap (λ t. record f { basis = g.basis; root_trace = t }) trace ∙ ap (λ es. record f { basis = g.basis; root_trace = g.root_trace; entries = es }) (rest.0) ∙ ap (λ ts. record g { terms = ts }) (rest.1)

-- a text is that of at most one file
pub one_file : (bytes : Text) (f g : File) → IsFileText bytes f → IsFileText bytes g → f ≡ g
one_file bytes f g a b = lines_told f g a.traces b.traces (one_reading bytes (file_lines f) (file_lines g) a.spelled.form b.spelled.form)
