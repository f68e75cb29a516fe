-- The lines that say why words are refused.
use Rattle.std.specs.Prelude.{[], ◌++◌, codes, decimal}
use Rattle.perm_core.specs.declared.basis.BasisFault.{BasisFault}
use Rattle.perm_core.specs.declared.basis.BasisFault.TheVariants.{Empty, BadByte, Repeated, TooLong, TooMany, Memory as BasisMemory}
use Rattle.command_words.specs.declared.request.OptName.{OptName}
use Rattle.command_words.specs.declared.request.OptName.TheVariants.{Workers, Budget, Terms, Pack, Number}
use Rattle.command_words.specs.declared.request.WordFault.{WordFault}
use Rattle.command_words.specs.declared.request.WordFault.TheVariants.{Words, Opt, Basis, Memory}
use Rattle.tilescope.specs.Words.{Text}

abbrev pub option_text : OptName → Text
option_text Workers = codes "workers"
option_text Budget = codes "budget"
option_text Terms = codes "terms"
option_text Pack = codes "pack"
option_text Number = codes "number"

abbrev pub basis_fault_text : BasisFault → Text
basis_fault_text Empty = codes "empty"
basis_fault_text (BadByte at) = codes "byte " ++ decimal at
basis_fault_text (Repeated at) = codes "repeated " ++ decimal at
basis_fault_text (TooLong at) = codes "long " ++ decimal at
basis_fault_text TooMany = codes "many"
basis_fault_text BasisMemory = []

-- what is refused; want of memory is said by the status alone
abbrev pub fault_text : WordFault → Text
fault_text Words = codes "words"
fault_text (Opt name) = codes "option " ++ option_text name
fault_text (Basis fault) = codes "basis " ++ basis_fault_text fault
fault_text Memory = []

abbrev pub usage_line : WordFault → Text
usage_line fault = codes "usage " ++ fault_text fault ++ codes "\n"
