-- What the words of a command ask for, and when they are refused.
use Rattle.std.specs.Prelude.{◌≡◌, ◌≢◌, ◌≤◌, ◌⊎◌, ℕ, Bool, true, false, List, [], ◌∷◌, Option, Some, None, option_map, option_and_then, decimal}
use Rattle.lists.specs.Members.{IsIn}
use Rattle.perm_core.specs.Basis.{IsBasis, IsBasisText, basis_of}
use Rattle.perm_core.specs.Faults.{IsRefusedAsBasis, IsNoBasis}
use Rattle.perm_core.specs.declared.basis.BasisFault.{BasisFault}
use Rattle.perm_core.specs.declared.basis.BasisFault.TheVariants.{Memory as NoMemory}
use Rattle.rule_kinds.specs.Choices.{Packs}
use Rattle.work_packs.specs.PackTexts.{read_packs}
use Rattle.command_words.specs.declared.command.Command.{Command}
use Rattle.command_words.specs.declared.command.Command.TheVariants as command
use Rattle.command_words.specs.declared.request.Request.{Request}
use Rattle.command_words.specs.declared.request.OptName.{OptName}
use Rattle.command_words.specs.declared.request.OptName.TheVariants.{Workers, Budget, Terms, Pack, Number}
use Rattle.command_words.specs.declared.request.WordFault.{WordFault}
use Rattle.command_words.specs.declared.request.WordFault.TheVariants.{Words, Opt, Basis, Memory}
use Rattle.command_words.specs.Commands.{Text, command_of}
use Rattle.command_words.specs.Parts.{plain_parts}
use Rattle.command_words.specs.declared.read.Asked.{Asked as CodeAsked}
use Rattle.command_words.specs.declared.read.Values.{Values}
use Rattle.command_words.specs.Apps.{Texts, texts_in, texts_as}

-- ---- plain words
-- a command, and the texts that its words give
pub record Asked : Type 0 where
  pub command : Command
  pub texts : Texts

-- what plain words ask; the first of them is the command's
unfoldable pub asked_by : List Text → Option Asked
asked_by [] = None
asked_by (word ∷ rest) = option_and_then (λ what. option_map (λ parts. record { command = what; texts = texts_in parts }) (plain_parts what rest)) (command_of word)

-- ---- values, or defaults where nothing is given
-- the text is the decimal of a number within a range, without sign or leading zeros
pub record IsNumberIn (least most : ℕ) (text : Text) (n : ℕ) : Type 0 where
  pub spelled : text ≡ decimal n
  pub from : least ≤ n
  pub to : n ≤ most

abbrev pub GivesNumber : ℕ → ℕ → ℕ → Option Text → ℕ → Type 0
GivesNumber least most default None n = n ≡ default
GivesNumber least most default (Some text) n = IsNumberIn least most text n

abbrev pub all_letters : Packs
all_letters = record { i = true; r = true; c = true; p = true; f = true; s = true; n = true }

abbrev pub GivesPacks : Option Text → Packs → Type 0
GivesPacks None packs = packs ≡ all_letters
GivesPacks (Some text) packs = read_packs text ≡ Some packs

-- the text is that of a basis, which is this
pub record IsBasisOf (text : Text) (basis : List (List ℕ)) : Type 0 where
  pub read : IsBasisText text
  pub is : basis ≡ basis_of text
  pub kept : IsBasis basis

abbrev pub GivesBasis : Option Text → List (List ℕ) → Type 0
GivesBasis None basis = basis ≡ []
GivesBasis (Some text) basis = IsBasisOf text basis

-- the greatest last length of terms
abbrev pub most_terms : Command → ℕ
most_terms command.Count = 9
most_terms _ = 200

-- the last length of terms where none is given
abbrev pub default_terms : Command → ℕ
default_terms command.Count = 6
default_terms _ = 10

abbrev pub GivesWorkers : Asked → ℕ → Type 0
GivesWorkers asked n = GivesNumber 1 64 1 asked.texts.workers n

abbrev pub GivesBudget : Asked → ℕ → Type 0
GivesBudget asked n = GivesNumber 1 5000 500 asked.texts.budget n

abbrev pub GivesTerms : Asked → ℕ → Type 0
GivesTerms asked n = GivesNumber 0 (most_terms asked.command) (default_terms asked.command) asked.texts.terms n

abbrev pub GivesSeed : Asked → ℕ → Type 0
GivesSeed asked n = GivesNumber 0 1000000 0 asked.texts.number n

-- ---- what is asked for
pub record Asks (asked : Asked) (request : Request) : Type 0 where
  pub command : request.command ≡ asked.command
  pub workers : GivesWorkers asked request.workers
  pub budget : GivesBudget asked request.budget
  pub terms : GivesTerms asked request.terms
  pub packs : GivesPacks asked.texts.pack request.packs
  pub number : GivesSeed asked request.number
  pub basis : GivesBasis asked.texts.basis request.basis

-- the words are read as this request
pub record Reads (words : List Text) (request : Request) : Type 0 where
  pub asked : Asked
  pub plain : asked_by words ≡ Some asked
  pub asks : Asks asked request

-- ---- refusals
-- what is given to the name is one of its values, or nothing is given
abbrev pub IsGood : Asked → OptName → Type 0
IsGood asked Workers = (n : ℕ) × GivesWorkers asked n
IsGood asked Budget = (n : ℕ) × GivesBudget asked n
IsGood asked Terms = (n : ℕ) × GivesTerms asked n
IsGood asked Pack = (packs : Packs) × GivesPacks asked.texts.pack packs
IsGood asked Number = (n : ℕ) × GivesSeed asked n

-- the names that are looked at before
abbrev pub earlier : OptName → List OptName
earlier Workers = []
earlier Budget = Workers ∷ []
earlier Terms = Workers ∷ Budget ∷ []
earlier Pack = Workers ∷ Budget ∷ Terms ∷ []
earlier Number = Workers ∷ Budget ∷ Terms ∷ Pack ∷ []

-- the first name whose text isn't one of its values
pub record IsFirstBad (asked : Asked) (name : OptName) : Type 0 where
  pub bad : IsGood asked name → ⊥
  pub before : (other : OptName) → IsIn other (earlier name) → IsGood asked other

-- a text is given for a basis, and is refused with this fault
pub record IsNoBasisText (text : Text) (fault : BasisFault) : Type 0 where
  pub refused : IsRefusedAsBasis text fault
  pub no_basis : IsNoBasis text fault

abbrev pub IsGivenNoBasis : Option Text → BasisFault → Type 0
IsGivenNoBasis None fault = ⊥
IsGivenNoBasis (Some text) fault = IsNoBasisText text fault

-- all values are good, and the text of the basis is refused
pub record IsBadBasis (asked : Asked) (fault : BasisFault) : Type 0 where
  pub good : (name : OptName) → IsGood asked name
  pub not_memory : fault ≢ NoMemory
  pub refused : IsGivenNoBasis asked.texts.basis fault

-- when what is asked is refused; want of memory has no cause here
abbrev pub IsRefusedAsked : Asked → WordFault → Type 0
IsRefusedAsked asked Words = ⊥
IsRefusedAsked asked (Opt name) = IsFirstBad asked name
IsRefusedAsked asked (Basis fault) = IsBadBasis asked fault
IsRefusedAsked asked Memory = Unit {0}

-- plain words are refused for what they ask
pub record IsRefusedPlain (words : List Text) (fault : WordFault) : Type 0 where
  pub asked : Asked
  pub plain : asked_by words ≡ Some asked
  pub refused : IsRefusedAsked asked fault

-- when the words are refused
abbrev pub IsRefused : List Text → WordFault → Type 0
IsRefused words Words = asked_by words ≡ None
IsRefused words (Opt name) = IsRefusedPlain words (Opt name)
IsRefused words (Basis fault) = IsRefusedPlain words (Basis fault)
IsRefused words Memory = Unit {0}

-- words are not plain, or memory ran out
abbrev pub IsNotAsked : List Text → WordFault → Type 0
IsNotAsked words Words = asked_by words ≡ None
IsNotAsked words (Opt name) = ⊥
IsNotAsked words (Basis fault) = ⊥
IsNotAsked words Memory = Unit {0}

-- ---- what the code keeps
-- the values that are given
pub record AreValues (asked : Asked) (values : Values) : Type 0 where
  pub workers : GivesWorkers asked values.workers
  pub budget : GivesBudget asked values.budget
  pub terms : GivesTerms asked values.terms
  pub packs : GivesPacks asked.texts.pack values.packs
  pub number : GivesSeed asked values.number

abbrev pub asked_as : CodeAsked → Asked
asked_as asked = record { command = asked.command; texts = texts_as asked.texts }

-- ---- what each request keeps
-- the command takes a basis
abbrev pub takes_basis : Command → Bool
takes_basis command.Sample = false
takes_basis _ = true

-- a pack of all letters, or of those that a text names
abbrev pub IsSomePack : Packs → Type 0
IsSomePack packs = (packs ≡ all_letters) ⊎ ((text : Text) × (read_packs text ≡ Some packs))

pub record IsSound (request : Request) : Type 0 where
  pub basis : takes_basis request.command ≡ true → IsBasis request.basis
  pub workers : (1 ≤ request.workers) × (request.workers ≤ 64)
  pub budget : (1 ≤ request.budget) × (request.budget ≤ 5000)
  pub terms : request.terms ≤ 200
  pub counted : request.command ≡ command.Count → request.terms ≤ 9
  pub packs : IsSomePack request.packs
  pub number : request.number ≤ 1000000

-- ---- words mean one thing
pub record MeanOneThing (words : List Text) : Type 0 where
  pub one_request : (r s : Request) → Reads words r → Reads words s → r ≡ s
  pub one_fault : (f g : WordFault) → IsRefused words f → IsRefused words g → f ≢ Memory → g ≢ Memory → f ≡ g
  pub not_both : (r : Request) (fault : WordFault) → Reads words r → IsRefused words fault → fault ≢ Memory → ⊥
  pub sound : (r : Request) → Reads words r → IsSound r

abbrev pub WordsMeanOneThing : Type 0
WordsMeanOneThing = (words : List Text) → MeanOneThing words
