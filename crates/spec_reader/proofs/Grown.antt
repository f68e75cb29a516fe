-- Lines of children and of entries that grow at the end.
use Rattle.std.proofs.Common.{◌≡◌, ℕ, suc, ◌+◌, List, [], ◌∷◌, ◌++◌, length, refl, sym, ap, ◌∙◌, arith, append_assoc, append-nil}
use Rattle.steps.specs.declared.step.Step.{Step}
use Rattle.spec_lines.specs.Forms.{Line}
use Rattle.spec_lines.specs.Forms.Line.{Child}
use Rattle.spec_lines.specs.Files.{FileEntry, child_lines_of, lines_of_entry, lines_of_entries}

pub one_more_child : (children : List ℕ) (traces : List (List Step)) (child : ℕ) (trace : List Step) → length traces ≡ length children → child_lines_of (children ++ child ∷ []) (traces ++ trace ∷ []) ≡ child_lines_of children traces ++ Child child trace ∷ []
one_more_child [] [] child trace h = refl
one_more_child [] (t ∷ traces) child trace h = absurd (omega (arith, h))
one_more_child (c ∷ children) [] child trace h = absurd (omega (arith, h))
one_more_child (c ∷ children) (t ∷ traces) child trace h = ap (λ ls. Child c t ∷ ls) (one_more_child children traces child trace (omega (arith, h)))

pub one_more_entry : (number : ℕ) (entries : List FileEntry) (e : FileEntry) → lines_of_entries number (entries ++ e ∷ []) ≡ lines_of_entries number entries ++ lines_of_entry (number + length entries) e
one_more_entry number [] e = let same : number ≡ number + 0 = omega arith in append-nil (lines_of_entry number e) ∙ ap (λ n. lines_of_entry n e) same
one_more_entry number (x ∷ entries) e =
    let later : suc number + length entries ≡ number + length (x ∷ entries) = omega arith in
    ap (λ ls. lines_of_entry number x ++ ls) (one_more_entry (suc number) entries e ∙ ap (λ n. lines_of_entries (suc number) entries ++ lines_of_entry n e) later)
    ∙ sym (append_assoc (lines_of_entry number x) (lines_of_entries (suc number) entries) (lines_of_entry (number + length (x ∷ entries)) e))

pub child_added : (front : List Line) (first grid obstructions requirements rule : Line) (children more : List ℕ) (traces longer : List (List Step)) (child : ℕ) (trace : List Step)
    → more ≡ children ++ child ∷ [] → longer ≡ traces ++ trace ∷ [] → length traces ≡ length children
    → front ++ first ∷ grid ∷ obstructions ∷ requirements ∷ rule ∷ child_lines_of more longer ≡ (front ++ first ∷ grid ∷ obstructions ∷ requirements ∷ rule ∷ child_lines_of children traces) ++ Child child trace ∷ []
child_added front first grid obstructions requirements rule children more traces longer child trace e f h =
    ap (λ ls. front ++ first ∷ grid ∷ obstructions ∷ requirements ∷ rule ∷ ls) (ap (λ cs. child_lines_of cs longer) e ∙ ap (child_lines_of (children ++ child ∷ [])) f ∙ one_more_child children traces child trace h)
    ∙ sym (append_assoc front (first ∷ grid ∷ obstructions ∷ requirements ∷ rule ∷ child_lines_of children traces) (Child child trace ∷ []))
