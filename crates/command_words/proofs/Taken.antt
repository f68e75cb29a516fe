-- What the parser of words finds in plain words.
use Rattle.std.proofs.Common.{◌≡◌, Bool, true, false, List, [], ◌∷◌, map, refl, ap, ◌∙◌, subst}
use Rattle.std.specs.Prelude.{Option, Some, None, ◌&&◌, fold, find, drop, option_map, option_and_then, if◌then◌else◌, is_some, slice_get}
use Rattle.std.specs.List.{list_all}
use Rattle.std.specs.Str.{bytes_eq}
use Rattle.std.proofs.lemmas.Bool.{and_parts}
use Rattle.clap.specs.Words.{App, Row, takes, matches_of, first_of, first_value, found_of, HasMatchesOf, is_simple, built}
use Rattle.clap.specs.Simple.{argument_words, names_of}
use Rattle.clap.specs.Walk.{Held, Walk, idle, walk, nothing_held, finished, with_default, has_row, rows_after}
use Rattle.clap.specs.Takes.{settle_passes, default_passes, is_valid, built_takes}
use Rattle.clap.specs.declared.parser.matches.ArgMatches.{ArgMatches}
use Rattle.clap.proofs.WalkLemmas.{first_value-rows}
use Rattle.command_words.specs.declared.command.Command.{Command}
use Rattle.command_words.specs.declared.command.Command.TheVariants as command
use Rattle.command_words.specs.Commands.{Text, positional_of, options_of}
use Rattle.command_words.specs.Parts.{Part, parts_from, given, are_once, is_given, are_plain, plain_parts}
use Rattle.command_words.specs.Apps.{app_for}
use Rattle.command_words.proofs.Names.{rules_for, shape_for, filled_option, app_is_simple, app_is_built, app_has_name}
use Rattle.command_words.proofs.Walking.{row, at, IsReady, IsAt, free, ready_after}
use Rattle.command_words.proofs.Walked.{IsWalked, walk_on}

-- ---- plain parts
pub record ArePlain (what : Command) (words : List Text) (parts : List Part) : Type 0 where
  pub from : parts_from what words None ≡ Some parts
  pub once : are_once parts ≡ true
  pub has_positional : is_given (positional_of what) parts ≡ true

pub plain_are : (what : Command) (words : List Text) (parts : List Part) → plain_parts what words ≡ Some parts → ArePlain what words parts
plain_are what words parts e = go (parts_from what words None) refl e
  where
    by_test : (found : List Part) (t : Bool) → parts_from what words None ≡ Some found → are_plain what found ≡ t → (if t then Some found else None) ≡ Some parts → ArePlain what words parts
    by_test found false f p k = absurd cc
    by_test found true f p k =
        let same : found ≡ parts = cc in
        let both = and_parts (are_once found) (is_given (positional_of what) found) p in
        subst (λ (ps : List Part). ArePlain what words ps) same (record { from = f; once = both.0; has_positional = both.1 })

    go : (found : Option (List Part)) → parts_from what words None ≡ found → option_and_then (λ (ps : List Part). if are_plain what ps then Some ps else None) found ≡ Some parts → ArePlain what words parts
    go None f k = absurd cc
    go (Some found) f k = by_test found (are_plain what found) f refl k

-- ---- after the walk
default_kept : (rows : List Row) (name : Text) → with_default rows (filled_option name) ≡ rows
default_kept rows name = go (has_row name rows)
  where
    go : (t : Bool) → (if t then rows else rows) ≡ rows
    go true = refl
    go false = refl

defaults_kept : (names : List Text) (rows : List Row) → fold with_default rows (map filled_option names) ≡ rows
defaults_kept [] rows = refl
defaults_kept (name ∷ names) rows = ap (λ (r : List Row). fold with_default r (map filled_option names)) (default_kept rows name) ∙ defaults_kept names rows

defaults_pass : (what : Command) → list_all default_passes (rules_for what) ≡ true
defaults_pass command.Search = refl
defaults_pass command.Check = refl
defaults_pass command.Terms = refl
defaults_pass command.Count = refl
defaults_pass command.Sample = refl

is_valid_by : (what : Command) (rows : List Row) (entered : Bool) → is_valid (shape_for what) rows entered ≡ true
is_valid_by command.Search rows entered = refl
is_valid_by command.Check rows entered = refl
is_valid_by command.Terms rows entered = refl
is_valid_by command.Count rows entered = refl
is_valid_by command.Sample rows entered = refl

finished_rows : (what : Command) (parts : List Part) (h : Held) → IsReady what parts h → finished (rules_for what) h ≡ map row parts
finished_rows what parts h ready =
    ap (λ (k : Held). fold with_default k.rows (rules_for what)) ready.settles
    ∙ ap (λ (r : List Row). fold with_default r (map filled_option (options_of what))) (default_kept (map row parts) (positional_of what))
    ∙ defaults_kept (options_of what) (map row parts)

-- ---- the parser takes plain words
start_is : (what : Command) → IsAt what [] None (at nothing_held idle 1)
start_is what = free nothing_held 1 (ready_after what []) (λ _. refl)

module _ (what : Command) (words : List Text) (parts : List Part) (plain : ArePlain what words parts) where
  whole : IsWalked what parts (at nothing_held idle 1) words
  whole = walk_on what words None [] parts (at nothing_held idle 1) (start_is what) plain.from plain.once

  rows_by : (w : Walk) → IsAt what parts None w → finished (rules_for what) w.held ≡ map row parts
  rows_by _ (free h position ready placed) = finished_rows what parts h ready

  settle_by : (w : Walk) → IsAt what parts None w → settle_passes (rules_for what) false w.held ≡ true
  settle_by _ (free h position ready placed) = ready.passes

  stopped_by : (w : Walk) → IsAt what parts None w → w.stopped ≡ None
  stopped_by _ (free h position ready placed) = refl

  pub built_takes_plain : built_takes (record { top = shape_for what; subs = [] }) nothing_held words ≡ true
  built_takes_plain =
      let end = whole.end in
      rw (stopped_by _ end, whole.passes, settle_by _ end, defaults_pass what) (is_valid_by what _ false)

  pub found_rows : finished (rules_for what) (walk (rules_for what) [] nothing_held words).held ≡ map row parts
  found_rows = rows_by _ whole.end

-- ---- texts of names
first_given : (name : Text) (parts : List Part) → first_of name (map row parts) ≡ given name parts
first_given name [] = refl
first_given name (part ∷ parts) = go (bytes_eq part.name name) (first_given name parts)
  where
    go : (t : Bool) → first_of name (map row parts) ≡ given name parts
        → option_and_then (λ (r : Row). slice_get r.values 0) (if t then Some (row part) else find (λ (r : Row). bytes_eq r.id name) (map row parts)) ≡ option_map (λ (p : Part). p.value) (if t then Some part else find (λ (p : Part). bytes_eq p.name name) parts)
    go true ih = refl
    go false ih = ih

-- ---- the command as it is given
module _ (what : Command) (app : App) (is : app ≡ app_for what) (all : List Text) (parts : List Part) (plain : plain_parts what (drop 1 all) ≡ Some parts) where
  are : ArePlain what (drop 1 all) parts
  are = plain_are what (drop 1 all) parts plain

  pub plain_takes : takes app all ≡ true
  plain_takes =
      (λ i. is_simple (is i) && built_takes (built (is i)) nothing_held (argument_words (is i) all))
      ∙ (λ i. app_is_simple what i && built_takes (app_is_built what i) nothing_held (if app_has_name what i then all else drop 1 all))
      ∙ built_takes_plain what (drop 1 all) parts are

  pub plain_rows : matches_of app all ≡ map row parts
  plain_rows =
      (λ i. matches_of (is i) all)
      ∙ (λ i. rows_after (app_is_built what i).top.rules (names_of (app_is_built what i)) (if app_has_name what i then all else drop 1 all))
      ∙ found_rows what (drop 1 all) parts are

  pub plain_simple : is_simple app ≡ true
  plain_simple = rw is (app_is_simple what)

  pub plain_text : (m : ArgMatches) → HasMatchesOf app all m → (name : Text) → first_value (found_of m) name ≡ given name parts
  plain_text m h name = first_value-rows (found_of m) name ∙ ap (first_of name) ((h plain_simple).0 ∙ plain_rows) ∙ first_given name parts

-- what is there
pub is_given_by : {X : Type 0} (found : Option X) → is_some found ≡ true → (x : X) × (found ≡ Some x)
is_given_by None h = absurd cc
is_given_by (Some x) h = (x, refl)
