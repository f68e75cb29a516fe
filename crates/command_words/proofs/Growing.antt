-- What the words read so far give, word by word.
use Rattle.std.proofs.Common.{◌≡◌, ◌<◌, ◌≤◌, ◌+◌, ℕ, true, subst, List, [], ◌∷◌, ◌++◌, length, get_or, drop, map, refl, sym, ap, ◌∙◌, append_assoc, option_map}
use Rattle.std.specs.Prelude.{Option, Some, None, is_some}
use Rattle.std.proofs.lemmas.List.{append-nil, at_drop_more, drop_all}
use Rattle.command_words.specs.declared.command.Command.{Command}
use Rattle.command_words.specs.Commands.{Text}
use Rattle.command_words.specs.Parts.{Part, Met, gives, waits, refused, meet, then_parts, parts_from}

-- the parts so far, and those of the rest
abbrev pub parts_with : List Part → Option (List Part) → Option (List Part)
parts_with seen rest = option_map (λ more. seen ++ more) rest

one_more : (seen : List Part) (part : Part) (rest : Option (List Part)) → parts_with seen (option_map (λ parts. part ∷ parts) rest) ≡ parts_with (seen ++ part ∷ []) rest
one_more seen part None = refl
one_more seen part (Some more) = ap Some (sym (append_assoc seen (part ∷ []) more))

module _ (what : Command) (seen : List Part) (rest : List Text) (waiting : Option Text) (word : Text) (whole : Option (List Part)) (so_far : parts_with seen (parts_from what (word ∷ rest) waiting) ≡ whole) where
  met_is : (met : Met) → met ≡ meet what waiting word → parts_with seen (then_parts met (parts_from what rest)) ≡ whole
  unfolding parts_from
  met_is met e = ap (λ (m : Met). parts_with seen (then_parts m (parts_from what rest))) e ∙ so_far

  pub after_gives : (part : Part) → gives part ≡ meet what waiting word → parts_with (seen ++ part ∷ []) (parts_from what rest None) ≡ whole
  after_gives part e = sym (one_more seen part (parts_from what rest None)) ∙ met_is (gives part) e

  pub after_waits : (name : Text) → waits name ≡ meet what waiting word → parts_with seen (parts_from what rest (Some name)) ≡ whole
  after_waits name e = met_is (waits name) e

  pub after_refused : refused ≡ meet what waiting word → None ≡ whole
  after_refused e = met_is refused e

-- at the end
pub at_end : (what : Command) (seen : List Part) (whole : Option (List Part)) → parts_with seen (parts_from what [] None) ≡ whole → Some seen ≡ whole
unfolding parts_from
at_end what seen whole e = ap Some (sym (append-nil seen)) ∙ e

pub at_end_waiting : (what : Command) (seen : List Part) (name : Text) (whole : Option (List Part)) → parts_with seen (parts_from what [] (Some name)) ≡ whole → None ≡ whole
unfolding parts_from
at_end_waiting what seen name whole e = e

-- the same of the word at a place of a list
module _ {X : Type 0} (bytes : X → Text) (what : Command) (items : List X) (i : ℕ) (item : X) (word : Text) (seen : List Part) (waiting : Option Text) (whole : Option (List Part)) (within : i < length items) (is : item ≡ get_or items i item) (spelled : word ≡ bytes item) (so_far : parts_with seen (parts_from what (map bytes (drop i items)) waiting) ≡ whole) where
  here : parts_with seen (parts_from what (word ∷ map bytes (drop (i + 1) items)) waiting) ≡ whole
  here =
      ap (λ (w : Text). parts_with seen (parts_from what (w ∷ map bytes (drop (i + 1) items)) waiting)) (spelled ∙ ap bytes is)
      ∙ sym (at_drop_more (λ (rest : List X). parts_with seen (parts_from what (map bytes rest) waiting)) items i item within)
      ∙ so_far

  pub place_gives : (part : Part) → gives part ≡ meet what waiting word → parts_with (seen ++ part ∷ []) (parts_from what (map bytes (drop (i + 1) items)) None) ≡ whole
  place_gives part e = after_gives what seen (map bytes (drop (i + 1) items)) waiting word whole here part e

  pub place_waits : (name : Text) → waits name ≡ meet what waiting word → parts_with seen (parts_from what (map bytes (drop (i + 1) items)) (Some name)) ≡ whole
  place_waits name e = after_waits what seen (map bytes (drop (i + 1) items)) waiting word whole here name e

  pub place_refused : refused ≡ meet what waiting word → None ≡ whole
  place_refused e = after_refused what seen (map bytes (drop (i + 1) items)) waiting word whole here e

-- at the end of the list
module _ {X : Type 0} (bytes : X → Text) (what : Command) (items : List X) (i : ℕ) (seen : List Part) (whole : Option (List Part)) (end : length items ≤ i) where
  pub list_ends : (waiting : Option Text) → waiting ≡ None → parts_with seen (parts_from what (map bytes (drop i items)) waiting) ≡ whole → Some seen ≡ whole
  list_ends waiting none e =
      at_end what seen whole (ap (λ (rest : List X). parts_with seen (parts_from what (map bytes rest) None)) (sym (drop_all i items end)) ∙ subst (λ (w : Option Text). parts_with seen (parts_from what (map bytes (drop i items)) w) ≡ whole) none e)

  pub list_ends_waiting : (waiting : Option Text) → is_some waiting ≡ true → parts_with seen (parts_from what (map bytes (drop i items)) waiting) ≡ whole → None ≡ whole
  list_ends_waiting None some e = absurd cc
  list_ends_waiting (Some name) some e =
      at_end_waiting what seen name whole (ap (λ (rest : List X). parts_with seen (parts_from what (map bytes rest) (Some name))) (sym (drop_all i items end)) ∙ e)
