-- One word of the walk.
use Rattle.std.proofs.Common.{◌≡◌, ℕ, Bool, true, false, List, [], ◌∷◌, ◌++◌, map, refl, ap, ◌∙◌}
use Rattle.std.specs.Prelude.{Some, None, ◌||◌, ◌&&◌, if◌then◌else◌}
use Rattle.clap.specs.Values.{reading_of}
use Rattle.clap.specs.Walk.{Held, idle, option, without, with_values, pushed, is_pending, settled, walked}
use Rattle.clap.specs.Takes.{settle_passes, turn_passes}
use Rattle.clap.specs.declared.parser.matches.ValueSource.TheVariants.{CommandLine}
use Rattle.clap.specs.declared.builder.value_parser.ValueParser.TheVariants as vp
use Rattle.command_words.specs.declared.command.Command.{Command}
use Rattle.command_words.specs.Commands.{Text, positional_of, is_option}
use Rattle.command_words.specs.Parts.{Part, is_given}
use Rattle.command_words.proofs.Forms.{IsNoFlag, IsFlag}
use Rattle.command_words.proofs.Names.{rules_for, shape_for, filled_positional, equal_self, by_long, option_by_id}
use Rattle.command_words.proofs.Walking.{row, one_use, has_row_of, held_after, held_with, at, IsReady}

no_matter : (x : Bool) (a b : Held) → (if x && false then a else b) ≡ b
no_matter true a b = refl
no_matter false a b = refl

in_any_case : (x y : Bool) → y ≡ true → ((x && false) || y) ≡ true
in_any_case true y e = e
in_any_case false y e = e

module _ (what : Command) (seen : List Part) (h : Held) (ready : IsReady what seen h) where
  -- the positional word
  pub positional_step : (word : Text) → IsNoFlag word → walked (rules_for what) [] (at h idle 1) word ≡ at (held_with seen (positional_of what) (word ∷ [])) idle 2
  unfolding walked
  positional_step word f =
      let met : walked (rules_for what) [] (at h idle 1) word ≡ at (pushed (positional_of what) word (if is_pending (filled_positional (positional_of what)) h.pending && false then h else settled (rules_for what) h)) idle 2 = rw (f.no_end, f.no_long, f.no_short) refl in
      met ∙ ap (λ (k : Held). at (pushed (positional_of what) word k) idle 2) (no_matter (is_pending (filled_positional (positional_of what)) h.pending) h (settled (rules_for what) h) ∙ ready.settles)

  pub positional_passes : (word : Text) → IsNoFlag word → turn_passes (shape_for what) [] (at h idle 1) word ≡ true
  positional_passes word f = rw (f.no_end, f.no_long, f.no_short) (in_any_case (is_pending (filled_positional (positional_of what)) h.pending) (settle_passes (rules_for what) false h) ready.passes)

  skips_none : h.skip ≡ 0
  skips_none = ap (λ (k : Held). k.skip) ready.settles

  -- an option and its value in one word
  pub joined_step : (word name value : Text) (position : ℕ) → IsFlag word name (Some value) → is_option what name ≡ true → is_given name seen ≡ false → walked (rules_for what) [] (at h idle position) word ≡ at (held_after (seen ++ record { name = name; value = value } ∷ [])) idle position
  unfolding walked
  joined_step word name value position f o new =
      let met : walked (rules_for what) [] (at h idle position) word ≡ at (record { rows = with_values name (reading_of vp.String) CommandLine (value ∷ []) (without name (settled (rules_for what) h).rows); pending = None; skip = h.skip }) idle position = rw (f.no_end, f.long, by_long what name o) refl in
      let rows : with_values name (reading_of vp.String) CommandLine (value ∷ []) (without name (settled (rules_for what) h).rows) ≡ map row (seen ++ record { name = name; value = value } ∷ []) =
      ap (λ (k : Held). with_values name (reading_of vp.String) CommandLine (value ∷ []) (without name k.rows)) ready.settles ∙ one_use seen (record { name = name; value = value }) new in
      met ∙ (λ i. at (record { rows = rows i; pending = None; skip = skips_none i }) idle position)

  pub joined_passes : (word name value : Text) (position : ℕ) → IsFlag word name (Some value) → is_option what name ≡ true → is_given name seen ≡ false → turn_passes (shape_for what) [] (at h idle position) word ≡ true
  joined_passes word name value position f o new =
      let rows : (settled (rules_for what) h).rows ≡ map row seen = ap (λ (k : Held). k.rows) ready.settles in
      rw (f.no_end, f.long, by_long what name o, ready.passes, rows, has_row_of name seen, new) refl

  -- the name of an option
  pub name_step : (word name : Text) (position : ℕ) → IsFlag word name None → is_option what name ≡ true → walked (rules_for what) [] (at h idle position) word ≡ at (held_with seen name []) (option name) position
  unfolding walked
  name_step word name position f o =
      let met : walked (rules_for what) [] (at h idle position) word ≡ at (record (settled (rules_for what) h) { pending = Some (name, []) }) (option name) position = rw (f.no_end, f.long, by_long what name o) refl in
      met ∙ ap (λ (k : Held). at (record k { pending = Some (name, []) }) (option name) position) ready.settles

  pub name_passes : (word name : Text) (position : ℕ) → IsFlag word name None → is_option what name ≡ true → turn_passes (shape_for what) [] (at h idle position) word ≡ true
  name_passes word name position f o = rw (f.no_end, f.long, by_long what name o, ready.passes) refl

-- the value after the name of an option
pub value_step : (what : Command) (seen : List Part) (name word : Text) (position : ℕ) → IsNoFlag word → is_option what name ≡ true → walked (rules_for what) [] (at (held_with seen name []) (option name) position) word ≡ at (held_with seen name (word ∷ [])) idle position
unfolding walked
value_step what seen name word position f o = rw (f.no_end, f.no_long, f.no_short, option_by_id what name o, equal_self name) refl

pub value_passes : (what : Command) (seen : List Part) (name word : Text) (position : ℕ) → IsNoFlag word → is_option what name ≡ true → turn_passes (shape_for what) [] (at (held_with seen name []) (option name) position) word ≡ true
value_passes what seen name word position f o = rw (f.no_end, f.no_long, f.no_short) refl
