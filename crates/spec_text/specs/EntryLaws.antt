-- The text of entries grows by one entry at a time.
use Rattle.std.proofs.Common.{◌≡◌, ◌+◌, ℕ, suc, List, [], ◌∷◌, ◌++◌, length, take, sym, ap, ◌∙◌, arith, append_assoc, append-nil, add-zero, zero-add}
use Rattle.std.specs.Prelude.{slice_get, Some}
use Rattle.std.proofs.lemmas.Option.{slice_get_within, get_or_from_slice_get}
use Rattle.std.proofs.Math.Seq.{take-suc}
use Rattle.std.proofs.lemmas.List.{length-take-le}
use Rattle.tiling_core.specs.Tiles.{Tiles}
use Rattle.css_domain.specs.Entries.{Entry}
use Rattle.rule_kinds.specs.Rules.{TilingRule}
use Rattle.spec_lines.specs.Lines.{Text, numbered}
use Rattle.spec_text.specs.Entries.{entry_text, entries_text}

numbered_more : {X : Type 0} (text : ℕ → X → Text) (number : ℕ) (items : List X) (x : X) → numbered text number (items ++ x ∷ []) ≡ numbered text number items ++ text (number + length items) x
numbered_more text number [] x = append-nil (text number x) ∙ ap (λ n. text n x) (sym (add-zero number))
numbered_more text number (y ∷ items) x =
    ap (λ rest. text number y ++ rest) (numbered_more text (suc number) items x)
    ∙ sym (append_assoc (text number y) (numbered text (suc number) items) (text (suc number + length items) x))
    ∙ ap (λ n. text number y ++ numbered text (suc number) items ++ text n x) (let e : suc number + length items ≡ number + suc (length items) = omega arith in e)

-- with one more entry at the end
pub one_more_entry : (entries : List (Entry Tiles TilingRule)) (e : Entry Tiles TilingRule) → entries_text (entries ++ e ∷ []) ≡ entries_text entries ++ entry_text (length entries) e
one_more_entry entries e = numbered_more entry_text 0 entries e ∙ ap (λ n. entries_text entries ++ entry_text n e) (zero-add (length entries))

-- with the next entry of a list
pub entries_taken : (entries : List (Entry Tiles TilingRule)) (i : ℕ) (e : Entry Tiles TilingRule) → slice_get entries i ≡ Some e → entries_text (take (i + 1) entries) ≡ entries_text (take i entries) ++ entry_text i e
entries_taken entries i e there =
    let within = slice_get_within entries i e there in
    let next : i + 1 ≡ suc i = omega arith in
    let taken : take (i + 1) entries ≡ take i entries ++ e ∷ [] = rw (next, sym (get_or_from_slice_get entries i e e there)) (take-suc entries i e within) in
    ap entries_text taken
    ∙ one_more_entry (take i entries) e
    ∙ ap (λ n. entries_text (take i entries) ++ entry_text n e) (length-take-le i entries (omega (arith, within)))
