use Rattle.std.proofs.Common.{◌≡◌, ◌++◌, drop, length}
use Rattle.std.specs.Prelude.{option_map}
use Rattle.spec_lines.specs.Readings.{letters_at}
use Rattle.line_readers.proofs.words.read_letters.Given as goal

-- the letters so far, before those of the bytes that are left, are all
abbrev pub invariant-loop-byte : goal.invariant-loop-byte
invariant-loop-byte l = record {
  told : option_map (λ xs. l.letters.items ++ xs) (letters_at (drop l.byte-index l.text)) ≡ letters_at l.text;
  as_many : length l.letters.items ≡ l.byte-index;
}
