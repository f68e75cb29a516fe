-- The text of a specification is that of its file.
use Rattle.std.proofs.Common.{◌≡◌, ℕ, suc, List, [], ◌∷◌, ◌++◌, length, map, refl, sym, ap, subst, ◌∙◌, append_assoc, append-nil}
use Rattle.std.specs.Prelude.{flat_map}
use Rattle.std.proofs.lemmas.Grind.{flat_map-append}
use Rattle.std.proofs.lemmas.List.{length-map}
use Rattle.tiling_core.specs.Tiles.{Tiles}
use Rattle.steps.specs.declared.step.Step.{Step}
use Rattle.css_domain.specs.Entries.{Entry}
use Rattle.css_terms.specs.declared.term.Term.{Term}
use Rattle.rule_kinds.specs.Rules.{TilingRule}
use Rattle.spec_lines.specs.Lines.{Text, numbered}
use Rattle.spec_lines.specs.Numbers.{first_line, number_line, entry_line, sides_line, patterns_line, lists_line, end_line}
use Rattle.spec_lines.specs.Traces.{basis_line, root_line, child_line}
use Rattle.spec_lines.specs.Kinds.{rule_line}
use Rattle.spec_lines.specs.Terms.{terms_line}
use Rattle.spec_lines.specs.Forms.{line_text}
use Rattle.spec_lines.specs.Forms.Line.{Terms, End}
use Rattle.spec_lines.specs.Files.{child_lines_of, lines_of_entry, lines_of_entries, file_text, IsFileText, IsWritable}
use Rattle.spec_lines.proofs.FileLines.{writable_is_spelled}
use Rattle.spec_text.specs.Entries.{child_lines, entry_text, entries_text}
use Rattle.spec_text.specs.Texts.{spec_text}
use Rattle.spec_text.specs.Files.{file_entry, file_of}

children_text : (children : List ℕ) (traces : List (List Step)) → child_lines children traces ≡ flat_map line_text (child_lines_of children traces)
children_text [] traces = refl
children_text (child ∷ children) [] = ap (λ t. child_line child [] ++ t) (children_text children [])
children_text (child ∷ children) (trace ∷ traces) = ap (λ t. child_line child trace ++ t) (children_text children traces)

six : (a b c d e f : Text) → a ++ (b ++ c ++ d) ++ (e ++ f) ≡ a ++ (b ++ (c ++ (d ++ (e ++ f))))
six a b c d e f =
    append_assoc a (b ++ c ++ d) (e ++ f)
    ∙ ap (λ t. a ++ t) (append_assoc (b ++ c) d (e ++ f) ∙ append_assoc b c (d ++ (e ++ f)))

one_entry : (i : ℕ) (e : Entry Tiles TilingRule) → entry_text i e ≡ flat_map line_text (lines_of_entry i (file_entry e))
one_entry i e =
    six (entry_line i e.rank) (sides_line e.class.width e.class.height) (patterns_line e.class.obstructions) (lists_line e.class.requirements) (rule_line e.rule.kind) (child_lines e.children e.rule.traces)
    ∙ ap (λ t. entry_line i e.rank ++ (sides_line e.class.width e.class.height ++ (patterns_line e.class.obstructions ++ (lists_line e.class.requirements ++ (rule_line e.rule.kind ++ t))))) (children_text e.children e.rule.traces)

each_entry : (i : ℕ) (entries : List (Entry Tiles TilingRule)) → numbered entry_text i entries ≡ flat_map line_text (lines_of_entries i (map file_entry entries))
each_entry i [] = refl
each_entry i (e ∷ entries) =
    ap (λ t. t ++ numbered entry_text (suc i) entries) (one_entry i e)
    ∙ ap (λ t. flat_map line_text (lines_of_entry i (file_entry e)) ++ t) (each_entry (suc i) entries)
    ∙ sym (flat_map-append line_text (lines_of_entry i (file_entry e)) (lines_of_entries (suc i) (map file_entry entries)))

seven : (a b c d e f g : Text) → (a ++ (b ++ c) ++ d) ++ e ++ (f ++ g) ≡ a ++ (b ++ (c ++ (d ++ (e ++ (f ++ (g ++ []))))))
seven a b c d e f g =
    append_assoc (a ++ (b ++ c) ++ d) e (f ++ g)
    ∙ append_assoc (a ++ (b ++ c)) d (e ++ (f ++ g))
    ∙ append_assoc a (b ++ c) (d ++ (e ++ (f ++ g)))
    ∙ ap (λ t. a ++ t) (append_assoc b c (d ++ (e ++ (f ++ g))))
    ∙ ap (λ t. a ++ (b ++ (c ++ (d ++ (e ++ (f ++ t)))))) (sym (append-nil g))

pub spec_is_file : (basis : List (List ℕ)) (trace : List Step) (entries : List (Entry Tiles TilingRule)) (terms : List Term) → spec_text basis trace entries terms ≡ file_text (file_of basis trace entries terms)
spec_is_file basis trace entries terms =
    let lines = lines_of_entries 0 (map file_entry entries) in
    let rest = Terms terms ∷ End ∷ [] in
    let front : Text → Text = λ t. first_line ++ (basis_line basis ++ (root_line trace ++ t)) in
    seven first_line (basis_line basis) (root_line trace) (number_line (length entries)) (entries_text entries) (terms_line terms) end_line
    ∙ ap (λ n. front (number_line n ++ (entries_text entries ++ flat_map line_text rest))) (sym (length-map entries file_entry))
    ∙ ap (λ t. front (number_line (length (map file_entry entries)) ++ (t ++ flat_map line_text rest))) (each_entry 0 entries)
    ∙ ap (λ t. front (number_line (length (map file_entry entries)) ++ t)) (sym (flat_map-append line_text lines rest))

pub writable_spec : (basis : List (List ℕ)) (trace : List Step) (entries : List (Entry Tiles TilingRule)) (terms : List Term) → IsWritable (file_of basis trace entries terms) → IsFileText (spec_text basis trace entries terms) (file_of basis trace entries terms)
writable_spec basis trace entries terms w = subst (λ t. IsFileText t (file_of basis trace entries terms)) (sym (spec_is_file basis trace entries terms)) (writable_is_spelled (file_of basis trace entries terms) w)
