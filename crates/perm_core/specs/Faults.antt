-- What each refusal says.
use Rattle.std.specs.Prelude.{◌<◌, ℕ, List, length, IsTrue}
use Rattle.perm_core.specs.declared.perm.PermFault.{PermFault}
use Rattle.perm_core.specs.declared.perm.PermFault.TheVariants.{NotPerm, Memory as NoMemoryForPerm}
use Rattle.perm_core.specs.declared.standard.DigitFault.{DigitFault}
use Rattle.perm_core.specs.declared.standard.DigitFault.TheVariants.{Repeated as RepeatedDigit, Memory as NoMemoryForDigits}
use Rattle.perm_core.specs.declared.basis.BasisFault.{BasisFault}
use Rattle.perm_core.specs.declared.basis.BasisFault.TheVariants.{Empty, BadByte, Repeated, TooLong, TooMany, Memory}
use Rattle.perm_core.specs.Perms.{IsFirstBadPlace, IsFirstRepeat}
use Rattle.perm_core.specs.Basis.{words_of, has_empty_word, IsFirstWrong, is_no_digit, is_repeated, is_past_nine, NoWordIsEmpty, HasOnlyDigits, HasDistinctDigits, HasShortWords, IsBasisText}

-- `Perm::of` refuses the letters in this way
abbrev pub IsRefusedAsPerm : List ℕ → PermFault → Type 0
IsRefusedAsPerm letters (NotPerm index) = IsFirstBadPlace letters index
IsRefusedAsPerm letters NoMemoryForPerm = Unit {0}

-- `standardise` refuses the digits in this way
abbrev pub IsRefusedAsDigits : List ℕ → DigitFault → Type 0
IsRefusedAsDigits digits (RepeatedDigit index) = IsFirstRepeat digits index
IsRefusedAsDigits digits NoMemoryForDigits = Unit {0}

-- `read_basis` refuses the text in this way: no earlier refusal applies
abbrev pub IsRefusedAsBasis : List ℕ → BasisFault → Type 0
IsRefusedAsBasis text Empty = IsTrue (has_empty_word text)
IsRefusedAsBasis text (BadByte at) = NoWordIsEmpty text × IsFirstWrong is_no_digit text at
IsRefusedAsBasis text (Repeated at) = HasOnlyDigits text × IsFirstWrong is_repeated text at
IsRefusedAsBasis text (TooLong at) = HasDistinctDigits text × IsFirstWrong is_past_nine text at
IsRefusedAsBasis text TooMany = HasShortWords text × (32 < length (words_of text))
IsRefusedAsBasis text Memory = Unit {0}

-- a refusal other than for want of memory comes only of a text that is no basis
abbrev pub IsNoBasis : List ℕ → BasisFault → Type 0
IsNoBasis text Memory = Unit {0}
IsNoBasis text Empty = IsBasisText text → ⊥
IsNoBasis text (BadByte at) = IsBasisText text → ⊥
IsNoBasis text (Repeated at) = IsBasisText text → ⊥
IsNoBasis text (TooLong at) = IsBasisText text → ⊥
IsNoBasis text TooMany = IsBasisText text → ⊥
