-- What words ask, by their first word and the rest.
use Rattle.std.proofs.Common.{◌≡◌, ◌-◌, arith, length, take, true, false, List, [], ◌∷◌, map, drop, refl, sym, ap, ◌∙◌}
use Rattle.std.specs.Prelude.{Option, Some, None, is_some, option_map, option_and_then, slice_get}
use Rattle.std.proofs.lemmas.List.{take_all}
use Rattle.command_words.specs.declared.command.Command.{Command}
use Rattle.command_words.specs.declared.found.Texts.{Texts as CodeTexts}
use Rattle.command_words.specs.Commands.{Text, command_of}
use Rattle.command_words.specs.Parts.{Part, plain_parts}
use Rattle.command_words.specs.Apps.{texts_in, texts_as, AreTextsOf}
use Rattle.command_words.specs.Requests.{Asked, asked_by}

-- the slice from place 1 on
pub sliced : {X : Type 0} (xs : List X) → take (length xs - 1) (drop 1 xs) ≡ drop 1 xs
sliced [] = refl
sliced (x ∷ xs) = take_all (length (x ∷ xs) - 1) xs (omega arith)

module _ {X : Type 0} (bytes : X → Text) where
  pub no_word : (xs : List X) → None ≡ slice_get xs 0 → asked_by (map bytes xs) ≡ None
  unfolding asked_by
  no_word [] h = refl
  no_word (x ∷ xs) h = absurd cc

  rest_of : (xs : List X) → drop 1 (map bytes xs) ≡ map bytes (drop 1 xs)
  rest_of [] = refl
  rest_of (x ∷ xs) = refl

  -- what the words after the command's ask
  by_parts : Command → Option (List Part) → Option Asked
  by_parts what parts = option_map (λ ps. record { command = what; texts = texts_in ps }) parts

  first_asks : (xs : List X) (x : X) (word : Text) (found : Option Command) → Some x ≡ slice_get xs 0 → word ≡ bytes x → found ≡ command_of word → asked_by (map bytes xs) ≡ option_and_then (λ what. by_parts what (plain_parts what (map bytes (drop 1 xs)))) found
  unfolding asked_by by_parts
  first_asks [] x word found h w e = absurd cc
  first_asks (y ∷ xs) x word found h w e =
      let same : x ≡ y = cc in
      ap (λ (c : Option Command). option_and_then (λ what. option_map (λ ps. record { command = what; texts = texts_in ps }) (plain_parts what (map bytes xs))) c) (ap command_of (sym (w ∙ ap bytes same)) ∙ sym e)

  module _ (xs : List X) (x : X) (word : Text) (first : Some x ≡ slice_get xs 0) (spelled : word ≡ bytes x) where
    pub no_command : None ≡ command_of word → asked_by (map bytes xs) ≡ None
    no_command e = first_asks xs x word None first spelled e

    pub not_plain : (what : Command) → Some what ≡ command_of word → is_some (plain_parts what (map bytes (drop 1 xs))) ≡ false → asked_by (map bytes xs) ≡ None
    unfolding by_parts
    not_plain what e n = first_asks xs x word (Some what) first spelled e ∙ go (plain_parts what (map bytes (drop 1 xs))) n
      where
        go : (parts : Option (List Part)) → is_some parts ≡ false → by_parts what parts ≡ None
        go None h = refl
        go (Some parts) h = absurd cc

    pub plain_asks : (what : Command) (texts : CodeTexts) → Some what ≡ command_of word → is_some (plain_parts what (map bytes (drop 1 xs))) ≡ true → AreTextsOf what (drop 1 (map bytes xs)) texts → asked_by (map bytes xs) ≡ Some (record { command = what; texts = texts_as texts })
    unfolding by_parts
    plain_asks what texts e p t = first_asks xs x word (Some what) first spelled e ∙ go (plain_parts what (map bytes (drop 1 xs))) refl p
      where
        go : (parts : Option (List Part)) → plain_parts what (map bytes (drop 1 xs)) ≡ parts → is_some parts ≡ true → by_parts what parts ≡ Some (record { command = what; texts = texts_as texts })
        go None f h = absurd cc
        go (Some parts) f h = ap (λ ts. Some (record { command = what; texts = ts })) (sym (t parts (ap (plain_parts what) (rest_of xs) ∙ f)))
