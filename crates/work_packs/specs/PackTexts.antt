-- The texts of packs.
use Rattle.std.specs.Prelude.{ℕ, Bool, not, ◌&&◌, ◌==◌, if◌then◌else◌, List, Option, Some, None, codes}
use Rattle.std.specs.List.{list_any, list_all}
use Rattle.patterns.specs.Words.{has_no_repeats}
use Rattle.rule_kinds.specs.Choices.{Packs}
use Rattle.lists.specs.Members.{is_nil}

abbrev pub Text : Type 0
Text = List ℕ

-- whether a text has a letter
abbrev pub has_letter : ℕ → Text → Bool
has_letter letter text = list_any (λ byte. letter == byte) text

abbrev pub is_letter : ℕ → Bool
is_letter byte = has_letter byte (codes "ircpfsn")

-- at least one byte, each a letter, none twice
abbrev pub is_pack_text : Text → Bool
is_pack_text text = not (is_nil text) && (list_all is_letter text && has_no_repeats text)

-- the pack whose letters are those of a text
abbrev pub letters_in : Text → Packs
letters_in text =
    record { i = has_letter 105 text; r = has_letter 114 text; c = has_letter 99 text; p = has_letter 112 text; f = has_letter 102 text; s = has_letter 115 text; n = has_letter 110 text }

-- the pack that a text names
abbrev pub read_packs : Text → Option Packs
read_packs text = if is_pack_text text then Some (letters_in text) else None
