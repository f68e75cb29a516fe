use Rattle.std.proofs.Common.{◌≡◌, ◌<◌, ◌^◌, drop}
use Rattle.std.specs.List.{list_all}
use Rattle.spec_lines.specs.Readings.{is_digit_byte, value_after}
use Rattle.line_readers.proofs.numbers.few_digits.Given as goal

-- what is read so far, with the digits that are left, is the whole number
abbrev pub invariant-loop-byte : goal.invariant-loop-byte
invariant-loop-byte l = record {
  digits : list_all is_digit_byte (drop l.byte-index l.text) ≡ list_all is_digit_byte l.text;
  told : value_after l.number (drop l.byte-index l.text) ≡ value_after 0 l.text;
  small : l.number < 10 ^ l.byte-index;
}
