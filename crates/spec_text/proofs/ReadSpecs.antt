-- What is read of a text is determined by it, and what was written is read back.
use Rattle.std.proofs.Common.{◌≡◌, ◌<◌, ℕ, suc, List, [], ◌∷◌, length, map, refl, sym, ap, subst, ◌∙◌, arith, true, inl, inr}
use Rattle.std.specs.Prelude.{◌⊎◌, Result, Ok, Err, Option, Some, option_map, slice_get, slice_index}
use Rattle.std.proofs.lemmas.List.{length-map}
use Rattle.lists.proofs.Members.{all_in}
use Rattle.tiling_core.specs.Tiles.{Tiles}
use Rattle.steps.specs.declared.step.Step.{Step}
use Rattle.css_domain.specs.Entries.{Entry, IsLinked}
use Rattle.css_terms.specs.declared.term.Term.{Term}
use Rattle.rule_kinds.specs.Rules.{TilingRule}
use Rattle.tile_rules.specs.Meaning.{tile_meaning}
use Rattle.spec_lines.specs.Lines.{Text}
use Rattle.spec_lines.specs.Files.{File, FileEntry, IsFileText, file_lines}
use Rattle.spec_lines.specs.Faults.{IsLimitFault}
use Rattle.spec_lines.specs.Ranges.{nothing_seen, are_in_range, in_range_before}
use Rattle.spec_lines.proofs.Bodies.{one_reading}
use Rattle.spec_lines.proofs.FileLines.{one_file}
use Rattle.spec_reader.specs.declared.files.TextFault.{TextFault}
use Rattle.spec_reader.specs.declared.files.TextFault.TheVariants as fault
use Rattle.spec_reader.proofs.Walked.{all_before}
use Rattle.spec_text.specs.Files.{file_entry, file_of, IsKeptSpec}
use Rattle.spec_text.specs.Texts.{spec_text}
use Rattle.spec_text.specs.Joined.{class_at, IsJoined, AreJoined, IsReadSpec, IsReadAs, file_of_spec}
use Rattle.spec_text.specs.Joining.{IsJoining}
use Rattle.spec_text.specs.declared.file.SpecFile.{SpecFile}
use Rattle.spec_text.proofs.FileRanges.{has_ranges}
use Rattle.spec_text.proofs.Joined.{joined_are_told}
use Rattle.spec_text.proofs.WrittenSpecs.{kept_spec}

-- ====== a specification's entries are joined ======
-- children of these numbers, slot by slot
slots_joined : (entries : List (Entry Tiles TilingRule)) (children : List Tiles) (numbers : List ℕ) → length numbers ≡ length children
    → ((slot : ℕ) → slot < length numbers → class_at entries (slice_index numbers slot) ≡ slice_get children slot) → map Some children ≡ map (class_at entries) numbers
slots_joined entries [] [] many each = refl
slots_joined entries [] (number ∷ numbers) many each = absurd (omega (arith, many))
slots_joined entries (t ∷ children) [] many each = absurd (omega (arith, many))
slots_joined entries (t ∷ children) (number ∷ numbers) many each =
    ap (λ o. o ∷ map Some children) (sym (each 0 (omega arith)))
    ∙ ap (λ os. class_at entries number ∷ os) (slots_joined entries children numbers (omega (arith, many)) (λ slot within. each (suc slot) (omega (arith, within))))

linked_is_joined : (entries : List (Entry Tiles TilingRule)) (e : Entry Tiles TilingRule) → IsLinked tile_meaning entries e → IsJoined entries e
linked_is_joined entries e linked = record {
  own = linked.own;
  children = slots_joined entries e.rule.children e.children linked.as_many (λ slot within.
      let child = linked.child slot within in
      ap (λ o. class_of_entry o) child.there ∙ sym child.class);
}
  where
    class_of_entry : Option (Entry Tiles TilingRule) → Option Tiles
    class_of_entry o = option_map (λ x. x.class) o

pub kept_are_joined : (words : List (List ℕ)) (trace : List Step) (entries : List (Entry Tiles TilingRule)) (terms : List Term) → IsKeptSpec words trace entries terms → AreJoined entries
kept_are_joined words trace entries terms kept = all_in (λ e. IsJoined entries e) entries (λ e there. linked_is_joined entries e (kept.spec.linked e there))

-- ====== what is read ======
file_is : (f : SpecFile) (basis : List (List ℕ)) (trace : List Step) (entries : List (Entry Tiles TilingRule)) (terms : List Term) → f.basis ≡ basis → f.root_trace ≡ trace → f.entries ≡ entries → f.terms ≡ terms
    → f ≡ record { basis = basis; root_trace = trace; entries = entries; terms = terms }
file_is f basis trace entries terms a b c d =
    ap (λ x. record { basis = x; root_trace = f.root_trace; entries = f.entries; terms = f.terms }) a
    ∙ ap (λ x. record { basis = basis; root_trace = x; entries = f.entries; terms = f.terms }) b
    ∙ ap (λ x. record { basis = basis; root_trace = trace; entries = x; terms = f.terms }) c
    ∙ ap (λ x. record { basis = basis; root_trace = trace; entries = entries; terms = x }) d

pub read_specs_are_told : (bytes : Text) (f g : SpecFile) → IsReadSpec bytes f → IsReadSpec bytes g → f ≡ g
read_specs_are_told bytes f g of_f of_g =
    let same = one_file bytes (file_of_spec f) (file_of_spec g) of_f.text of_g.text in
    file_is f g.basis g.root_trace g.entries g.terms (ap (λ (x : File). x.basis) same) (ap (λ (x : File). x.root_trace) same) (joined_are_told f.entries g.entries of_f.joined of_g.joined (ap (λ (x : File). x.entries) same)) (ap (λ (x : File). x.terms) same)

pub written_is_read_back : (words : List (List ℕ)) (trace : List Step) (entries : List (Entry Tiles TilingRule)) (terms : List Term) → IsKeptSpec words trace entries terms → (f : SpecFile) → IsReadSpec (spec_text words trace entries terms) f
    → (f.basis ≡ words) × (f.root_trace ≡ trace) × (f.entries ≡ entries) × (f.terms ≡ terms)
written_is_read_back words trace entries terms kept f read =
    let same = one_file (spec_text words trace entries terms) (file_of_spec f) (file_of words trace entries terms) read.text (kept_spec words trace entries terms kept) in (
      ap (λ (x : File). x.basis) same,
      ap (λ (x : File). x.root_trace) same,
      joined_are_told f.entries entries read.joined (kept_are_joined words trace entries terms kept) (ap (λ (x : File). x.entries) same),
      ap (λ (x : File). x.terms) same,
    )

-- the text of a file is answered with it
abbrev pub IsAnswerOf : File → Result SpecFile TextFault → Type 0
IsAnswerOf file result = ((f : SpecFile) × (result ≡ Ok f) × (file_of_spec f ≡ file)) ⊎ (result ≡ Err fault.Memory)

-- no line of it is out of range
no_limit : (bytes : Text) (file : File) (number : ℕ) → IsFileText bytes file → IsLimitFault bytes number → ⊥
no_limit bytes file number text limit =
    let same = one_reading bytes limit.lines (file_lines file) limit.form text.spelled.form in
    let all : in_range_before nothing_seen limit.lines ≡ length limit.lines = all_before nothing_seen limit.lines (subst (λ lines. are_in_range nothing_seen lines ≡ true) (sym same) text.spelled.ranges) in
    let first = limit.first in
    let there = limit.there in
    absurd (omega (arith, all, first, there))

pub file_is_read : (bytes : Text) (file : File) → IsFileText bytes file → (result : Result SpecFile TextFault) → IsReadAs bytes result → IsAnswerOf file result
file_is_read bytes file text (Ok f) read = inl (f, refl, one_file bytes (file_of_spec f) file read.text text)
file_is_read bytes file text (Err (fault.Grammar number)) read = absurd (read.no_text (file_lines file, text.spelled.form))
file_is_read bytes file text (Err (fault.Limit number)) read = absurd (no_limit bytes file number text read)
file_is_read bytes file text (Err fault.Memory) read = inr refl

abbrev pub IsAnswerFor : SpecFile → Result SpecFile TextFault → Type 0
IsAnswerFor f result = (result ≡ Ok f) ⊎ (result ≡ Err fault.Memory)

pub written_is_answered : (words : List (List ℕ)) (trace : List Step) (entries : List (Entry Tiles TilingRule)) (terms : List Term) → IsKeptSpec words trace entries terms
    → (result : Result SpecFile TextFault) → IsReadAs (spec_text words trace entries terms) result → IsAnswerFor (record { basis = words; root_trace = trace; entries = entries; terms = terms }) result
written_is_answered words trace entries terms kept (Ok f) read =
    let back = written_is_read_back words trace entries terms kept f read in
    inl (ap Ok (file_is f words trace entries terms (back.0) (back.1) (back.2) (back.3)))
written_is_answered words trace entries terms kept (Err (fault.Grammar number)) read = absurd (read.no_text (file_lines (file_of words trace entries terms), (kept_spec words trace entries terms kept).spelled.form))
written_is_answered words trace entries terms kept (Err (fault.Limit number)) read = absurd (no_limit (spec_text words trace entries terms) (file_of words trace entries terms) number (kept_spec words trace entries terms kept) read)
written_is_answered words trace entries terms kept (Err fault.Memory) read = inr refl

pub one_text : (bytes others : Text) (f : File) → IsFileText bytes f → IsFileText others f → bytes ≡ others
one_text bytes others f a b = a.spelled.form.text ∙ sym b.spelled.form.text

-- ====== the answer ======
-- joined entries of drafts that were read of a text
pub read_as : (bytes : Text) (basis : List (List ℕ)) (trace : List Step) (drafts : List FileEntry) (terms : List Term) (entries : List (Entry Tiles TilingRule))
    → IsFileText bytes (record { basis = basis; root_trace = trace; entries = drafts; terms = terms }) → IsJoining drafts entries → IsReadSpec bytes (record { basis = basis; root_trace = trace; entries = entries; terms = terms })
read_as bytes basis trace drafts terms entries text joining =
    let ranges = has_ranges (record { basis = basis; root_trace = trace; entries = drafts; terms = terms }) text.spelled.ranges in
    let some = ranges.some_entries in
    let few = ranges.few_entries in
    let many : length entries ≡ length drafts = sym (length-map entries file_entry) ∙ ap length joining.same in
    record {
      text = subst (λ ds. IsFileText bytes (record { basis = basis; root_trace = trace; entries = ds; terms = terms })) (sym joining.same) text;
      joined = joining.joined;
      some_entries = omega (arith, many, some);
      few_entries = omega (arith, many, few);
      some_terms = ranges.some_terms;
      few_terms = ranges.few_terms;
    }
