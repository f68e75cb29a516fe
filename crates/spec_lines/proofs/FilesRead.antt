-- The lines of a text of the form are those of a file.
use Rattle.std.proofs.Common.{◌≡◌, ℕ, zero, suc, Bool, true, false, cond, List, [], ◌∷◌, ◌++◌, length, refl, ap, sym, subst, ◌∙◌, true≢false, append_assoc}
use Rattle.std.specs.Prelude.{◌==◌, Option, Some, None, option_and_then}
use Rattle.std.specs.List.{list_all}
use Rattle.std.proofs.lemmas.Bool.{and_from}
use Rattle.std.proofs.lemmas.Option.{none-some, same_Some}
use Rattle.std.proofs.lemmas.Grind.{common_steps}
use Rattle.std.proofs.Common.{arith}
use Rattle.gridded.specs.Grids.{Point}
use Rattle.steps.specs.declared.step.Step.{Step}
use Rattle.css_terms.specs.declared.term.Term.{Term}
use Rattle.rule_kinds.specs.declared.kind.Kind.{Kind}
use Rattle.spec_lines.specs.Lines.{Text}
use Rattle.spec_lines.specs.Forms.{Line}
use Rattle.spec_lines.specs.Forms.Line.{First, Basis, Root, Count, Entry, Grid, Obstructions, Requirements, Rule, Child, Terms, End}
use Rattle.spec_lines.specs.Follows.{Place, arity, entry_or_terms, child_or_next, after, place_after}
use Rattle.spec_lines.specs.Follows.Place.{AtFirst, AtBasis, AtRoot, AtCount, AtEntry, AtGrid, AtObstructions, AtRequirements, AtRule, AtChild, AtTerms, AtEnd, Done}
use Rattle.spec_lines.specs.Faults.{IsSpelled, is_done}
use Rattle.spec_lines.specs.Files.{FileEntry, File, child_lines_of, lines_of_entry, lines_of_entries, file_lines, has_traces, IsFileText}
use Rattle.spec_lines.proofs.Taking.{equal_tests}

-- ====== the first line from a place ======
record Leads (p : Place) (lines : List Line) : Type 0 where
  line : Line
  later : List Line
  place : Place
  whole : lines ≡ line ∷ later
  leads : after p line ≡ Some place
  on : place_after place later ≡ Some Done

on_from : (p : Place) (l : Line) (lines : List Line) (o : Option Place) → after p l ≡ o → option_and_then (λ m. place_after m lines) o ≡ Some Done → Leads p (l ∷ lines)
on_from p l lines None e h = absurd (none-some Done h)
on_from p l lines (Some m) e h = record { line = l; later = lines; place = m; whole = refl; leads = e; on = h }

leads_from : (p : Place) (lines : List Line) → is_done p ≡ false → place_after p lines ≡ Some Done → Leads p lines
leads_from p [] other h = absurd (true≢false (sym (ap is_done (same_Some p Done h)) ∙ other))
leads_from p (l ∷ lines) other h = on_from p l lines (after p l) refl h

-- ====== which line it is ======
first_is : (l : Line) (q : Place) → after AtFirst l ≡ Some q → (l ≡ First) × (AtBasis ≡ q)
first_is First q h = (refl, same_Some AtBasis q h)
first_is l q h = absurd (none-some q h)

basis_is : (l : Line) (q : Place) → after AtBasis l ≡ Some q → (words : List (List ℕ)) × (l ≡ Basis words) × (AtRoot ≡ q)
basis_is (Basis words) q h = (words, refl, same_Some AtRoot q h)
basis_is l q h = absurd (none-some q h)

root_is : (l : Line) (q : Place) → after AtRoot l ≡ Some q → (trace : List Step) × (l ≡ Root trace) × (AtCount ≡ q)
root_is (Root trace) q h = (trace, refl, same_Some AtCount q h)
root_is l q h = absurd (none-some q h)

count_is : (l : Line) (q : Place) → after AtCount l ≡ Some q → (n : ℕ) × (l ≡ Count n) × (entry_or_terms 0 n ≡ q)
count_is (Count n) q h = (n, refl, same_Some (entry_or_terms 0 n) q h)
count_is l q h = absurd (none-some q h)

matched : (i left number rank : ℕ) (b : Bool) (q : Place) → (i == number) ≡ b → cond b (Some (AtGrid i left)) None ≡ Some q → (Entry number rank ≡ Entry i rank) × (AtGrid i left ≡ q)
matched i left number rank true q e h = let same : number ≡ i = grind (arith, common_steps, e) in (ap (λ n. Entry n rank) same, same_Some (AtGrid i left) q h)
matched i left number rank false q e h = absurd (none-some q h)

entry_is : (i left : ℕ) (l : Line) (q : Place) → after (AtEntry i left) l ≡ Some q → (rank : ℕ) × (l ≡ Entry i rank) × (AtGrid i left ≡ q)
entry_is i left (Entry number rank) q h = let both = matched i left number rank (i == number) q refl h in (rank, both.0, both.1)
entry_is i left l q h = absurd (none-some q h)

grid_is : (i left : ℕ) (l : Line) (q : Place) → after (AtGrid i left) l ≡ Some q → (width height : ℕ) × (l ≡ Grid width height) × (AtObstructions i left ≡ q)
grid_is i left (Grid width height) q h = (width, height, refl, same_Some (AtObstructions i left) q h)
grid_is i left l q h = absurd (none-some q h)

obstructions_is : (i left : ℕ) (l : Line) (q : Place) → after (AtObstructions i left) l ≡ Some q → (patterns : List (List Point)) × (l ≡ Obstructions patterns) × (AtRequirements i left ≡ q)
obstructions_is i left (Obstructions patterns) q h = (patterns, refl, same_Some (AtRequirements i left) q h)
obstructions_is i left l q h = absurd (none-some q h)

requirements_is : (i left : ℕ) (l : Line) (q : Place) → after (AtRequirements i left) l ≡ Some q → (lists : List (List (List Point))) × (l ≡ Requirements lists) × (AtRule i left ≡ q)
requirements_is i left (Requirements lists) q h = (lists, refl, same_Some (AtRule i left) q h)
requirements_is i left l q h = absurd (none-some q h)

rule_is : (i left : ℕ) (l : Line) (q : Place) → after (AtRule i left) l ≡ Some q → (k : Kind) × (l ≡ Rule k) × (child_or_next i left (arity k) ≡ q)
rule_is i left (Rule k) q h = (k, refl, same_Some (child_or_next i left (arity k)) q h)
rule_is i left l q h = absurd (none-some q h)

child_is : (i left more : ℕ) (l : Line) (q : Place) → after (AtChild i left more) l ≡ Some q → (child : ℕ) × (trace : List Step) × (l ≡ Child child trace) × (child_or_next i left more ≡ q)
child_is i left more (Child child trace) q h = (child, trace, refl, same_Some (child_or_next i left more) q h)
child_is i left more l q h = absurd (none-some q h)

terms_is : (l : Line) (q : Place) → after AtTerms l ≡ Some q → (terms : List Term) × (l ≡ Terms terms) × (AtEnd ≡ q)
terms_is (Terms terms) q h = (terms, refl, same_Some AtEnd q h)
terms_is l q h = absurd (none-some q h)

end_is : (l : Line) (q : Place) → after AtEnd l ≡ Some q → (l ≡ End) × (Done ≡ q)
end_is End q h = (refl, same_Some Done q h)
end_is l q h = absurd (none-some q h)

-- nothing follows the end
nothing_after : (lines : List Line) → place_after Done lines ≡ Some Done → lines ≡ []
nothing_after [] h = refl
nothing_after (l ∷ lines) h = absurd (none-some Done h)

-- from the place that is meant
from_place : (q m : Place) (lines : List Line) → q ≡ m → place_after m lines ≡ Some Done → place_after q lines ≡ Some Done
from_place q m lines e h = subst (λ x. place_after x lines ≡ Some Done) (sym e) h

in_front : (lines later : List Line) (l m : Line) → lines ≡ l ∷ later → l ≡ m → lines ≡ m ∷ later
in_front lines later l m whole e = whole ∙ ap (λ x. x ∷ later) e

-- ====== an entry, from its last lines on ======
record Children (i left : ℕ) (lines : List Line) : Type 0 where
  children : List ℕ
  traces : List (List Step)
  later : List Line
  whole : lines ≡ child_lines_of children traces ++ later
  many : length traces ≡ length children
  on : place_after (entry_or_terms (suc i) left) later ≡ Some Done

one_more_child : (i left : ℕ) (child : ℕ) (trace : List Step) (lines later : List Line) → lines ≡ Child child trace ∷ later → Children i left later → Children i left lines
one_more_child i left child trace lines later whole c = record {
  children = child ∷ c.children;
  traces = trace ∷ c.traces;
  later = c.later;
  whole = whole ∙ ap (λ ls. Child child trace ∷ ls) c.whole;
  many = ap suc c.many;
  on = c.on;
}

children_from : (more i left : ℕ) (lines : List Line) → place_after (child_or_next i left more) lines ≡ Some Done → Children i left lines
children_from zero i left lines h = record { children = []; traces = []; later = lines; whole = refl; many = refl; on = h }
children_from (suc more) i left lines h =
    let s = leads_from (AtChild i left more) lines refl h in
    let c = child_is i left more s.line s.place s.leads in
    one_more_child i left (c.0) (c.1) lines s.later (in_front lines s.later s.line (Child (c.0) (c.1)) s.whole (c.2)) (children_from more i left s.later (from_place (child_or_next i left more) s.place s.later (c.3) s.on))

record Ruled (i left : ℕ) (lines : List Line) : Type 0 where
  kind : Kind
  later : List Line
  whole : lines ≡ Rule kind ∷ later
  rest : Children i left later

ruled_from : (i left : ℕ) (lines : List Line) → place_after (AtRule i left) lines ≡ Some Done → Ruled i left lines
ruled_from i left lines h =
    let s = leads_from (AtRule i left) lines refl h in
    let k = rule_is i left s.line s.place s.leads in
    record { kind = k.0; later = s.later; whole = in_front lines s.later s.line (Rule (k.0)) s.whole (k.1); rest = children_from (arity (k.0)) i left s.later (from_place (child_or_next i left (arity (k.0))) s.place s.later (k.2) s.on) }

record Required (i left : ℕ) (lines : List Line) : Type 0 where
  lists : List (List (List Point))
  later : List Line
  whole : lines ≡ Requirements lists ∷ later
  rest : Ruled i left later

required_from : (i left : ℕ) (lines : List Line) → place_after (AtRequirements i left) lines ≡ Some Done → Required i left lines
required_from i left lines h =
    let s = leads_from (AtRequirements i left) lines refl h in
    let x = requirements_is i left s.line s.place s.leads in
    record { lists = x.0; later = s.later; whole = in_front lines s.later s.line (Requirements (x.0)) s.whole (x.1); rest = ruled_from i left s.later (from_place (AtRule i left) s.place s.later (x.2) s.on) }

record Obstructed (i left : ℕ) (lines : List Line) : Type 0 where
  patterns : List (List Point)
  later : List Line
  whole : lines ≡ Obstructions patterns ∷ later
  rest : Required i left later

obstructed_from : (i left : ℕ) (lines : List Line) → place_after (AtObstructions i left) lines ≡ Some Done → Obstructed i left lines
obstructed_from i left lines h =
    let s = leads_from (AtObstructions i left) lines refl h in
    let x = obstructions_is i left s.line s.place s.leads in
    record { patterns = x.0; later = s.later; whole = in_front lines s.later s.line (Obstructions (x.0)) s.whole (x.1); rest = required_from i left s.later (from_place (AtRequirements i left) s.place s.later (x.2) s.on) }

record Sided (i left : ℕ) (lines : List Line) : Type 0 where
  width : ℕ
  height : ℕ
  later : List Line
  whole : lines ≡ Grid width height ∷ later
  rest : Obstructed i left later

sided_from : (i left : ℕ) (lines : List Line) → place_after (AtGrid i left) lines ≡ Some Done → Sided i left lines
sided_from i left lines h =
    let s = leads_from (AtGrid i left) lines refl h in
    let x = grid_is i left s.line s.place s.leads in
    record { width = x.0; height = x.1; later = s.later; whole = in_front lines s.later s.line (Grid (x.0) (x.1)) s.whole (x.2); rest = obstructed_from i left s.later (from_place (AtObstructions i left) s.place s.later (x.3) s.on) }

record Ranked (i left : ℕ) (lines : List Line) : Type 0 where
  rank : ℕ
  later : List Line
  whole : lines ≡ Entry i rank ∷ later
  rest : Sided i left later

ranked_from : (i left : ℕ) (lines : List Line) → place_after (AtEntry i left) lines ≡ Some Done → Ranked i left lines
ranked_from i left lines h =
    let s = leads_from (AtEntry i left) lines refl h in
    let x = entry_is i left s.line s.place s.leads in
    record { rank = x.0; later = s.later; whole = in_front lines s.later s.line (Entry i (x.0)) s.whole (x.1); rest = sided_from i left s.later (from_place (AtGrid i left) s.place s.later (x.2) s.on) }

record OneEntry (i left : ℕ) (lines : List Line) : Type 0 where
  entry : FileEntry
  later : List Line
  whole : lines ≡ lines_of_entry i entry ++ later
  traces : has_traces entry ≡ true
  on : place_after (entry_or_terms (suc i) left) later ≡ Some Done

put_together : (i left : ℕ) (lines : List Line) → Ranked i left lines → OneEntry i left lines
put_together i left lines a =
    let b = a.rest in
    let c = b.rest in
    let d = c.rest in
    let e = d.rest in
    let f = e.rest in
    record {
      entry = record { class = record { width = b.width; height = b.height; obstructions = c.patterns; requirements = d.lists }; rank = a.rank; kind = e.kind; children = f.children; traces = f.traces };
      later = f.later;
      whole = a.whole ∙ ap (λ ls. Entry i a.rank ∷ ls) (b.whole ∙ ap (λ ls. Grid b.width b.height ∷ ls) (c.whole ∙ ap (λ ls. Obstructions c.patterns ∷ ls) (d.whole ∙ ap (λ ls. Requirements d.lists ∷ ls) (e.whole ∙ ap (λ ls. Rule e.kind ∷ ls) f.whole))));
      traces = equal_tests (length f.traces) (length f.children) f.many;
      on = f.on;
    }

-- ====== entries ======
record Entries (i left : ℕ) (lines : List Line) : Type 0 where
  entries : List FileEntry
  terms : List Term
  whole : lines ≡ lines_of_entries i entries ++ Terms terms ∷ End ∷ []
  many : length entries ≡ left
  traces : list_all has_traces entries ≡ true

end_from : (lines : List Line) → place_after AtEnd lines ≡ Some Done → lines ≡ End ∷ []
end_from lines h =
    let s = leads_from AtEnd lines refl h in
    let end = end_is s.line s.place s.leads in
    in_front lines s.later s.line End s.whole (end.0) ∙ ap (λ ls. End ∷ ls) (nothing_after s.later (from_place Done s.place s.later (end.1) s.on))

no_entry : (i : ℕ) (lines : List Line) → place_after AtTerms lines ≡ Some Done → Entries i 0 lines
no_entry i lines h =
    let s = leads_from AtTerms lines refl h in
    let terms = terms_is s.line s.place s.leads in
    record { entries = []; terms = terms.0; whole = in_front lines s.later s.line (Terms (terms.0)) s.whole (terms.1) ∙ ap (λ ls. Terms (terms.0) ∷ ls) (end_from s.later (from_place AtEnd s.place s.later (terms.2) s.on)); many = refl; traces = refl }

one_more_entry : (i left : ℕ) (lines : List Line) (a : OneEntry i left lines) → Entries (suc i) left a.later → Entries i (suc left) lines
one_more_entry i left lines a b = record {
  entries = a.entry ∷ b.entries;
  terms = b.terms;
  whole = a.whole ∙ ap (λ ls. lines_of_entry i a.entry ++ ls) b.whole ∙ sym (append_assoc (lines_of_entry i a.entry) (lines_of_entries (suc i) b.entries) (Terms b.terms ∷ End ∷ []));
  many = ap suc b.many;
  traces = and_from (has_traces a.entry) (list_all has_traces b.entries) a.traces b.traces;
}

entries_from : (left i : ℕ) (lines : List Line) → place_after (entry_or_terms i left) lines ≡ Some Done → Entries i left lines
entries_from zero i lines h = no_entry i lines h
entries_from (suc left) i lines h = let a = put_together i left lines (ranked_from i left lines h) in one_more_entry i left lines a (entries_from left (suc i) a.later a.on)

-- ====== the file, from its last lines on ======
record Counted (lines : List Line) : Type 0 where
  number : ℕ
  later : List Line
  whole : lines ≡ Count number ∷ later
  rest : Entries 0 number later

counted_from : (lines : List Line) → place_after AtCount lines ≡ Some Done → Counted lines
counted_from lines h =
    let s = leads_from AtCount lines refl h in
    let n = count_is s.line s.place s.leads in
    record { number = n.0; later = s.later; whole = in_front lines s.later s.line (Count (n.0)) s.whole (n.1); rest = entries_from (n.0) 0 s.later (from_place (entry_or_terms 0 (n.0)) s.place s.later (n.2) s.on) }

record Rooted (lines : List Line) : Type 0 where
  trace : List Step
  later : List Line
  whole : lines ≡ Root trace ∷ later
  rest : Counted later

rooted_from : (lines : List Line) → place_after AtRoot lines ≡ Some Done → Rooted lines
rooted_from lines h =
    let s = leads_from AtRoot lines refl h in
    let x = root_is s.line s.place s.leads in
    record { trace = x.0; later = s.later; whole = in_front lines s.later s.line (Root (x.0)) s.whole (x.1); rest = counted_from s.later (from_place AtCount s.place s.later (x.2) s.on) }

record Based (lines : List Line) : Type 0 where
  words : List (List ℕ)
  later : List Line
  whole : lines ≡ Basis words ∷ later
  rest : Rooted later

based_from : (lines : List Line) → place_after AtBasis lines ≡ Some Done → Based lines
based_from lines h =
    let s = leads_from AtBasis lines refl h in
    let x = basis_is s.line s.place s.leads in
    record { words = x.0; later = s.later; whole = in_front lines s.later s.line (Basis (x.0)) s.whole (x.1); rest = rooted_from s.later (from_place AtRoot s.place s.later (x.2) s.on) }

record Told (lines : List Line) : Type 0 where
  file : File
  whole : lines ≡ file_lines file
  traces : list_all has_traces file.entries ≡ true

told_by : (lines later : List Line) → lines ≡ First ∷ later → Based later → Told lines
told_by lines later first a =
    let b = a.rest in
    let c = b.rest in
    let d = c.rest in
    record {
      file = record { basis = a.words; root_trace = b.trace; entries = d.entries; terms = d.terms };
      whole = first ∙ ap (λ ls. First ∷ ls) (a.whole ∙ ap (λ ls. Basis a.words ∷ ls) (b.whole ∙ ap (λ ls. Root b.trace ∷ ls) (c.whole ∙ ap (λ n. Count n ∷ c.later) (sym d.many) ∙ ap (λ ls. Count (length d.entries) ∷ ls) d.whole)));
      traces = d.traces;
    }

told_from : (lines : List Line) → place_after AtFirst lines ≡ Some Done → Told lines
told_from lines h =
    let s = leads_from AtFirst lines refl h in
    let first = first_is s.line s.place s.leads in
    told_by lines s.later (in_front lines s.later s.line First s.whole (first.0)) (based_from s.later (from_place AtBasis s.place s.later (first.1) s.on))

-- lines that are spelled are those of a file
pub file_of_text : (bytes : Text) (lines : List Line) → IsSpelled bytes lines → (f : File) × IsFileText bytes f × (file_lines f ≡ lines)
file_of_text bytes lines s =
    let told = told_from lines s.form.whole in
    (told.file, record { spelled = subst (IsSpelled bytes) told.whole s; traces = told.traces }, sym told.whole)
