-- The walk of the parser over plain words: each part is one use of an argument.
use Rattle.std.proofs.Common.{◌≡◌, ℕ, Bool, true, false, List, [], ◌∷◌, ◌++◌, map, refl, sym, ap, ◌∙◌}
use Rattle.std.specs.Prelude.{Option, Some, None, ◌||◌}
use Rattle.std.specs.Str.{bytes_eq}
use Rattle.std.proofs.lemmas.List.{append-nil, map-append}
use Rattle.clap.specs.Values.{reading_of}
use Rattle.clap.specs.Walk.{Row, Held, Walk, Waiting, idle, option, at_row, without, with_values, more_values, has_row, settled}
use Rattle.clap.specs.Takes.{settle_passes}
use Rattle.clap.specs.declared.parser.matches.ValueSource.TheVariants.{CommandLine}
use Rattle.clap.specs.declared.builder.value_parser.ValueParser.TheVariants as vp
use Rattle.command_words.specs.declared.command.Command.{Command}
use Rattle.command_words.specs.Commands.{Text, positional_of, is_option}
use Rattle.command_words.specs.Parts.{Part, is_given}
use Rattle.command_words.proofs.Names.{rules_for, option_by_id, positional_by_id}

-- ---- what was used so far
abbrev pub row : Part → Row
row part = record { id = part.name; values = part.value ∷ []; count = None; source = Some CommandLine; reading = reading_of vp.String }

pub rows_at_end : (seen : List Part) (id : Text) (change : Row → List Row) (missing : List Row) → is_given id seen ≡ false → at_row id change missing (map row seen) ≡ map row seen ++ missing
rows_at_end [] id change missing h = refl
rows_at_end (part ∷ seen) id change missing h = go (bytes_eq part.name id) refl h (rows_at_end seen id change missing)
  where
    go : (t : Bool) → bytes_eq part.name id ≡ t → (t || is_given id seen) ≡ false → (is_given id seen ≡ false → at_row id change missing (map row seen) ≡ map row seen ++ missing) → at_row id change missing (map row (part ∷ seen)) ≡ map row (part ∷ seen) ++ missing
    go true e k ih = absurd cc
    go false e k ih = rw e (ap (λ (rows : List Row). row part ∷ rows) (ih k))

pub has_row_of : (id : Text) (seen : List Part) → has_row id (map row seen) ≡ is_given id seen
has_row_of id [] = refl
has_row_of id (part ∷ seen) = ap (λ (b : Bool). bytes_eq part.name id || b) (has_row_of id seen)

-- a use of what has no value yet
pub one_use : (seen : List Part) (part : Part) → is_given part.name seen ≡ false → with_values part.name (reading_of vp.String) CommandLine (part.value ∷ []) (without part.name (map row seen)) ≡ map row (seen ++ part ∷ [])
one_use seen part h =
    let kept : without part.name (map row seen) ≡ map row seen = rows_at_end seen part.name (λ _. []) [] h ∙ append-nil (map row seen) in
    ap (with_values part.name (reading_of vp.String) CommandLine (part.value ∷ [])) kept
    ∙ rows_at_end seen part.name (more_values CommandLine (part.value ∷ [])) (row part ∷ []) h
    ∙ sym (map-append row seen (part ∷ []))

-- ---- where the walk stands
abbrev pub held_after : List Part → Held
held_after seen = record { rows = map row seen; pending = None; skip = 0 }

abbrev pub held_with : List Part → Text → List Text → Held
held_with seen id values = record { rows = map row seen; pending = Some (id, values); skip = 0 }

abbrev pub at : Held → Waiting → ℕ → Walk
at h waiting position = record { held = h; waiting = waiting; position = position; is_trailing = false; stopped = None }

-- what is pending is the last of these parts
pub record IsReady (what : Command) (seen : List Part) (h : Held) : Type 0 where
  pub settles : settled (rules_for what) h ≡ held_after seen
  pub passes : settle_passes (rules_for what) false h ≡ true

-- the positional word has no value as long as the walk is at its position
abbrev pub IsPlaced : Command → List Part → ℕ → Type 0
IsPlaced what seen position = is_given (positional_of what) seen ≡ false → position ≡ 1

pub data IsAt (what : Command) (seen : List Part) : Option Text → Walk → Type 0 where
  free : (h : Held) (position : ℕ) → IsReady what seen h → IsPlaced what seen position → IsAt what seen None (at h idle position)
  after_name : (name : Text) (position : ℕ) → is_option what name ≡ true → IsPlaced what seen position → IsAt what seen (Some name) (at (held_with seen name []) (option name) position)

-- ---- what is ready
pub ready_after : (what : Command) (seen : List Part) → IsReady what seen (held_after seen)
ready_after what seen = record { settles = refl; passes = refl }

is_free_row : (seen : List Part) (name : Text) → is_given name seen ≡ false → has_row name (map row seen) ≡ false
is_free_row seen name h = has_row_of name seen ∙ h

pub ready_option : (what : Command) (seen : List Part) (name value : Text) → is_option what name ≡ true → is_given name seen ≡ false → IsReady what (seen ++ record { name = name; value = value } ∷ []) (held_with seen name (value ∷ []))
ready_option what seen name value h f =
    record {
      settles = rw (option_by_id what name h) (ap (λ (rows : List Row). record { rows = rows; pending = None; skip = 0 }) (one_use seen (record { name = name; value = value }) f));
      passes = rw (option_by_id what name h, is_free_row seen name f) refl;
    }

pub ready_positional : (what : Command) (seen : List Part) (value : Text) → is_given (positional_of what) seen ≡ false → IsReady what (seen ++ record { name = positional_of what; value = value } ∷ []) (held_with seen (positional_of what) (value ∷ []))
ready_positional what seen value f =
    record {
      settles = rw (positional_by_id what) (ap (λ (rows : List Row). record { rows = rows; pending = None; skip = 0 }) (one_use seen (record { name = positional_of what; value = value }) f));
      passes = rw (positional_by_id what, is_free_row seen (positional_of what) f) refl;
    }
