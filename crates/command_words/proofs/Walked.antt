-- Plain words are taken by the parser of words, which finds what they give.
use Rattle.std.proofs.Common.{◌≡◌, ℕ, Bool, true, false, List, [], ◌∷◌, ◌++◌, refl, sym, ap, ◌∙◌, subst, append_assoc}
use Rattle.std.specs.Prelude.{Option, Some, None, ◌||◌, not, fold, option_map, if◌then◌else◌}
use Rattle.std.specs.Str.{bytes_eq}
use Rattle.std.proofs.lemmas.List.{append-nil}
use Rattle.std.proofs.lemmas.Bool.{and_parts, or_parts, not-true}
use Rattle.clap.specs.Walk.{Held, Walk, idle, option, walked}
use Rattle.clap.specs.Takes.{turn_passes, walk_passes}
use Rattle.command_words.specs.declared.command.Command.{Command}
use Rattle.command_words.specs.Commands.{Text, positional_of, is_option}
use Rattle.command_words.specs.Parts.{Part, gives, refused, is_value, named, meet_free, meet_option, then_parts, parts_from, is_given, are_once}
use Rattle.command_words.proofs.Forms.{IsNoFlag, IsFlag, value_is_no_flag, named_is_flag}
use Rattle.command_words.proofs.Names.{rules_for, shape_for, equal_self, equal_not, nothing_is_none}
use Rattle.command_words.proofs.Walking.{at, held_after, held_with, IsReady, IsPlaced, IsAt, free, after_name, ready_after, ready_option, ready_positional}
use Rattle.command_words.proofs.Steps.{positional_step, positional_passes, joined_step, joined_passes, name_step, name_passes, value_step, value_passes}

-- ---- nothing is given twice
given_at : (name : Text) (before : List Part) (part : Part) (after : List Part) → is_given name (before ++ part ∷ after) ≡ false → bytes_eq part.name name ≡ false
given_at name [] part after h = (or_parts (bytes_eq part.name name) (is_given name after) h).0
given_at name (p ∷ before) part after h = given_at name before part after (or_parts (bytes_eq p.name name) (is_given name (before ++ part ∷ after)) h).1

once_new : (before : List Part) (part : Part) (after : List Part) → are_once (before ++ part ∷ after) ≡ true → is_given part.name before ≡ false
once_new [] part after h = refl
once_new (p ∷ before) part after h =
    let both = and_parts (not (is_given p.name (before ++ part ∷ after))) (are_once (before ++ part ∷ after)) h in
    let apart = given_at p.name before part after (not-true (is_given p.name (before ++ part ∷ after)) both.0) in
    rw (equal_not part.name p.name apart) (once_new before part after both.1)

given_last : (before : List Part) (part : Part) → is_given part.name (before ++ part ∷ []) ≡ true
given_last [] part = rw (equal_self part.name) refl
given_last (p ∷ before) part = go (bytes_eq p.name part.name) (given_last before part)
  where
    go : (t : Bool) → is_given part.name (before ++ part ∷ []) ≡ true → (t || is_given part.name (before ++ part ∷ [])) ≡ true
    go true ih = refl
    go false ih = ih

given_more : (name : Text) (before : List Part) (part : Part) → is_given name (before ++ part ∷ []) ≡ false → is_given name before ≡ false
given_more name [] part h = refl
given_more name (p ∷ before) part h =
    let both = or_parts (bytes_eq p.name name) (is_given name (before ++ part ∷ [])) h in
    rw (both.0) (given_more name before part both.1)

placed_more : (what : Command) (seen : List Part) (part : Part) (position : ℕ) → IsPlaced what seen position → IsPlaced what (seen ++ part ∷ []) position
placed_more what seen part position placed h = placed (given_more (positional_of what) seen part h)

placed_last : (what : Command) (seen : List Part) (value : Text) → IsPlaced what (seen ++ record { name = positional_of what; value = value } ∷ []) 2
placed_last what seen value h =
    let is = given_last seen (record { name = positional_of what; value = value }) in
    absurd cc

-- an option has a name
has_name : (what : Command) (name : Text) → is_option what name ≡ true → name ≡ [] → ⊥
has_name what name h e = let is : is_option what [] ≡ true = ap (is_option what) (sym e) ∙ h in let no = nothing_is_none what in absurd cc

-- ---- the walk over all words
pub record IsWalked (what : Command) (parts : List Part) (w : Walk) (words : List Text) : Type 0 where
  pub end : IsAt what parts None (fold (walked (rules_for what) []) w words)
  pub passes : walk_passes (shape_for what) [] w words ≡ true

one_word : (what : Command) (parts : List Part) (w : Walk) (word : Text) (rest : List Text) → turn_passes (shape_for what) [] w word ≡ true → IsWalked what parts (walked (rules_for what) [] w word) rest → IsWalked what parts w (word ∷ rest)
unfolding walk_passes
one_word what parts w word rest turn walked_rest = record { end = walked_rest.end; passes = rw turn walked_rest.passes }

-- what the rest gives, where something is given before it
data IsMore (part : Part) (rest : Option (List Part)) (more : List Part) : Type 0 where
  more_is : (tail : List Part) → rest ≡ Some tail → more ≡ part ∷ tail → IsMore part rest more

rest_of : (part : Part) (rest : Option (List Part)) (more : List Part) → option_map (λ (parts : List Part). part ∷ parts) rest ≡ Some more → IsMore part rest more
rest_of part None more e = absurd cc
rest_of part (Some tail) more e = more_is tail refl cc

-- a word after a name that waits for its value, where the rest is walked
module _ (what : Command) (word : Text) (rest : List Text) (rec : (waiting : Option Text) (seen more : List Part) (w : Walk) → IsAt what seen waiting w → parts_from what rest waiting ≡ Some more → are_once (seen ++ more) ≡ true → IsWalked what (seen ++ more) w rest) (name : Text) (position : ℕ) (o : is_option what name ≡ true) (seen more : List Part) (placed : IsPlaced what seen position) (once : are_once (seen ++ more) ≡ true) where
  on : IsNoFlag word → (tail : List Part) → parts_from what rest None ≡ Some tail → more ≡ record { name = name; value = word } ∷ tail → IsWalked what (seen ++ more) (at (held_with seen name []) (option name) position) (word ∷ rest)
  on f tail r m =
      let part : Part = record { name = name; value = word } in
      let new = once_new seen part tail (subst (λ (p : List Part). are_once (seen ++ p) ≡ true) m once) in
      let same : (seen ++ part ∷ []) ++ tail ≡ seen ++ more = append_assoc seen (part ∷ []) tail ∙ ap (λ (p : List Part). seen ++ p) (sym m) in
      let there : IsAt what (seen ++ part ∷ []) None (walked (rules_for what) [] (at (held_with seen name []) (option name) position) word) =
      subst (λ (v : Walk). IsAt what (seen ++ part ∷ []) None v) (sym (value_step what seen name word position f o)) (free (held_with seen name (word ∷ [])) position (ready_option what seen name word o new) (placed_more what seen part position placed)) in
      one_word what (seen ++ more) (at (held_with seen name []) (option name) position) word rest (value_passes what seen name word position f o)
      (subst (λ (p : List Part). IsWalked what p (walked (rules_for what) [] (at (held_with seen name []) (option name) position) word) rest) same
      (rec None (seen ++ part ∷ []) tail (walked (rules_for what) [] (at (held_with seen name []) (option name) position) word) there r (ap are_once same ∙ once)))

  by_rest : IsNoFlag word → IsMore (record { name = name; value = word }) (parts_from what rest None) more → IsWalked what (seen ++ more) (at (held_with seen name []) (option name) position) (word ∷ rest)
  by_rest f (more_is tail r m) = on f tail r m

  pub go_waiting : (t : Bool) → is_value word ≡ t → then_parts (if t then gives (record { name = name; value = word }) else refused) (parts_from what rest) ≡ Some more → IsWalked what (seen ++ more) (at (held_with seen name []) (option name) position) (word ∷ rest)
  go_waiting true v h = by_rest (value_is_no_flag word v) (rest_of (record { name = name; value = word }) (parts_from what rest None) more h)
  go_waiting false v h = absurd cc

-- a word by itself, where the rest is walked
module _ (what : Command) (word : Text) (rest : List Text) (rec : (waiting : Option Text) (seen more : List Part) (w : Walk) → IsAt what seen waiting w → parts_from what rest waiting ≡ Some more → are_once (seen ++ more) ≡ true → IsWalked what (seen ++ more) w rest) (h : Held) (position : ℕ) (seen more : List Part) (ready : IsReady what seen h) (placed : IsPlaced what seen position) (once : are_once (seen ++ more) ≡ true) where
  goes_on : (part : Part) (tail : List Part) → parts_from what rest None ≡ Some tail → more ≡ part ∷ tail → IsAt what (seen ++ part ∷ []) None (walked (rules_for what) [] (at h idle position) word) → turn_passes (shape_for what) [] (at h idle position) word ≡ true → IsWalked what (seen ++ more) (at h idle position) (word ∷ rest)
  goes_on part tail r m there turn =
      let same : (seen ++ part ∷ []) ++ tail ≡ seen ++ more = append_assoc seen (part ∷ []) tail ∙ ap (λ (p : List Part). seen ++ p) (sym m) in
      one_word what (seen ++ more) (at h idle position) word rest turn
      (subst (λ (p : List Part). IsWalked what p (walked (rules_for what) [] (at h idle position) word) rest) same
      (rec None (seen ++ part ∷ []) tail (walked (rules_for what) [] (at h idle position) word) there r (ap are_once same ∙ once)))

  positional : IsNoFlag word → IsMore (record { name = positional_of what; value = word }) (parts_from what rest None) more → IsWalked what (seen ++ more) (at h idle position) (word ∷ rest)
  positional f (more_is tail r m) =
      let part : Part = record { name = positional_of what; value = word } in
      let new = once_new seen part tail (subst (λ (p : List Part). are_once (seen ++ p) ≡ true) m once) in
      let first : position ≡ 1 = placed new in
      let step : walked (rules_for what) [] (at h idle position) word ≡ at (held_with seen (positional_of what) (word ∷ [])) idle 2 = ap (λ (p : ℕ). walked (rules_for what) [] (at h idle p) word) first ∙ positional_step what seen h ready word f in
      goes_on part tail r m
      (subst (λ (v : Walk). IsAt what (seen ++ part ∷ []) None v) (sym step) (free (held_with seen (positional_of what) (word ∷ [])) 2 (ready_positional what seen word new) (placed_last what seen word)))
      (ap (λ (p : ℕ). turn_passes (shape_for what) [] (at h idle p) word) first ∙ positional_passes what seen h ready word f)

  by_value : (t : Bool) → is_value word ≡ t → then_parts (if t then gives (record { name = positional_of what; value = word }) else refused) (parts_from what rest) ≡ Some more → IsWalked what (seen ++ more) (at h idle position) (word ∷ rest)
  by_value true v k = positional (value_is_no_flag word v) (rest_of (record { name = positional_of what; value = word }) (parts_from what rest None) more k)
  by_value false v k = absurd cc

  joined : (name value : Text) → IsFlag word name (Some value) → is_option what name ≡ true → IsMore (record { name = name; value = value }) (parts_from what rest None) more → IsWalked what (seen ++ more) (at h idle position) (word ∷ rest)
  joined name value f o (more_is tail r m) =
      let part : Part = record { name = name; value = value } in
      let new = once_new seen part tail (subst (λ (p : List Part). are_once (seen ++ p) ≡ true) m once) in
      goes_on part tail r m
      (subst (λ (v : Walk). IsAt what (seen ++ part ∷ []) None v) (sym (joined_step what seen h ready word name value position f o new)) (free (held_after (seen ++ part ∷ [])) position (ready_after what (seen ++ part ∷ [])) (placed_more what seen part position placed)))
      (joined_passes what seen h ready word name value position f o new)

  by_joined : (name value : Text) → IsFlag word name (Some value) → is_option what name ≡ true → (t : Bool) → then_parts (if t then gives (record { name = name; value = value }) else refused) (parts_from what rest) ≡ Some more → IsWalked what (seen ++ more) (at h idle position) (word ∷ rest)
  by_joined name value f o true k = joined name value f o (rest_of (record { name = name; value = value }) (parts_from what rest None) more k)
  by_joined name value f o false k = absurd cc

  by_name : (name : Text) (value : Option Text) → named word ≡ Some (name, value) → (t : Bool) → is_option what name ≡ t → then_parts (if t then meet_option name value else refused) (parts_from what rest) ≡ Some more → IsWalked what (seen ++ more) (at h idle position) (word ∷ rest)
  by_name name value n false o k = absurd cc
  by_name name (Some value) n true o k = by_joined name value (named_is_flag word name (Some value) n (has_name what name o)) o (is_value value) k
  by_name name None n true o k =
      let f = named_is_flag word name None n (has_name what name o) in
      let there : IsAt what seen (Some name) (walked (rules_for what) [] (at h idle position) word) =
      subst (λ (v : Walk). IsAt what seen (Some name) v) (sym (name_step what seen h ready word name position f o)) (after_name name position o placed) in
      one_word what (seen ++ more) (at h idle position) word rest (name_passes what seen h ready word name position f o)
      (rec (Some name) seen more (walked (rules_for what) [] (at h idle position) word) there k once)

  pub by_form : (form : Option (Text × Option Text)) → named word ≡ form → then_parts (meet_free what word form) (parts_from what rest) ≡ Some more → IsWalked what (seen ++ more) (at h idle position) (word ∷ rest)
  by_form None n k = by_value (is_value word) refl k
  by_form (Some (name, value)) n k = by_name name value n (is_option what name) refl k

pub walk_on : (what : Command) (words : List Text) (waiting : Option Text) (seen more : List Part) (w : Walk) → IsAt what seen waiting w → parts_from what words waiting ≡ Some more → are_once (seen ++ more) ≡ true → IsWalked what (seen ++ more) w words
unfolding parts_from walk_passes
walk_on what [] None seen more w here e once =
    let none : [] ≡ more = cc in
    record { end = subst (λ (parts : List Part). IsAt what parts None w) (sym (append-nil seen) ∙ ap (λ (m : List Part). seen ++ m) none) here; passes = refl }
walk_on what [] (Some name) seen more w here e once = absurd cc
walk_on what (word ∷ rest) _ seen more _ (after_name name position o placed) e once = go_waiting what word rest (walk_on what rest) name position o seen more placed once (is_value word) refl e
walk_on what (word ∷ rest) _ seen more _ (free h position ready placed) e once = by_form what word rest (walk_on what rest) h position seen more ready placed once (named word) refl e
