-- A reader that has read a whole text.
use Rattle.std.proofs.Common.{◌≡◌, ℕ, true, List, [], ◌∷◌, ◌++◌, length, refl, sym, ap, arith, true≢false}
use Rattle.std.specs.Prelude.{nat_eq, None, All}
use Rattle.std.specs.List.{list_all}
use Rattle.std.proofs.lemmas.Bool.{and_from}
use Rattle.std.proofs.lemmas.Grind.{common_steps}
use Rattle.std.proofs.lemmas.List.Elements.{All-head, All-tail, All-weaker}
use Rattle.spec_lines.specs.Forms.Line.{First, Basis, Root, Count, Terms, End}
use Rattle.spec_lines.specs.Follows.{Place}
use Rattle.spec_lines.specs.Follows.Place.{Done}
use Rattle.spec_lines.specs.Faults.{is_done}
use Rattle.spec_lines.specs.Files.{File, FileEntry, file_lines, lines_of_entries, has_traces}
use Rattle.spec_reader.specs.declared.reader.Reading.{Reading}
use Rattle.spec_reader.specs.Drafts.{Built, drafted, IsMakeable}
use Rattle.spec_reader.specs.Ends.{IsFileRead}
use Rattle.spec_reader.specs.Kept.{IsWhole, IsSound}
use Rattle.spec_reader.specs.Positions.{place_of}
use Rattle.spec_reader.specs.States.{state_of}
use Rattle.spec_reader.proofs.Takings.{IsKeptReading}

abbrev pub file_built : Built → File
file_built b = record { basis = b.basis; root_trace = b.root_trace; entries = b.entries; terms = b.terms }

equal_test : (m n : ℕ) → m ≡ n → nat_eq m n ≡ true
equal_test m n h = grind (arith, common_steps, h)

with_traces : (count : ℕ) (es : List FileEntry) → All (λ e. IsWhole count e) es → list_all has_traces es ≡ true
with_traces count [] h = refl
with_traces count (e ∷ es) h =
    and_from (has_traces e) (list_all has_traces es)
    (equal_test (length e.traces) (length e.children) (All-head (λ x. IsWhole count x) e es h).0.as_many)
    (with_traces count es (All-tail (λ x. IsWhole count x) e es h))

at_done : (p : Place) (b : Built) → is_done p ≡ true → IsSound p b → drafted p b ≡ file_lines (file_built b)
at_done Done b e s = ap (λ n. First ∷ Basis b.basis ∷ Root b.root_trace ∷ Count n ∷ lines_of_entries 0 b.entries ++ Terms b.terms ∷ End ∷ []) (sym s.built)
at_done p b e s = absurd (true≢false (sym e))

pub finished : (r : Reading) → IsKeptReading r → is_done (place_of r.position) ≡ true → r.limit ≡ None → IsFileRead (state_of r) (file_built r.draft)
finished r kept done none = record {
  none = none;
  lines = at_done (place_of r.position) r.draft done (kept.sound none);
  traces = with_traces r.draft.count r.draft.entries (kept.sound none).each;
}

-- and the tiling of each entry can be made
pub makeable : (r : Reading) → IsKeptReading r → r.limit ≡ None → All (λ e. IsMakeable e) r.draft.entries
makeable r kept none = All-weaker (λ e. IsWhole r.draft.count e) (λ e. IsMakeable e) (λ e w. w.1) r.draft.entries ((kept.sound none).each)
