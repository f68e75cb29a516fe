-- Arguments by their names, and what the parser of words makes of a command.
use Rattle.std.proofs.Common.{◌≡◌, Bool, true, false, List, [], ◌∷◌, map, refl, sym, ap, ◌∙◌}
use Rattle.std.specs.Prelude.{Some, find, ◌||◌, ◌&&◌, not, is_some}
use Rattle.std.specs.List.{list_any}
use Rattle.std.specs.Str.{bytes_eq}
use Rattle.std.proofs.lemmas.Slice.Eq.{bytes_eq-Decides}
use Rattle.clap.specs.Words.{Rule, Shape, new_rule, is_simple, built}
use Rattle.clap.specs.Simple.{new_shape}
use Rattle.clap.specs.Walk.{arg_by_long, arg_by_id, arg_by_index, has_long}
use Rattle.clap.specs.declared.builder.action.ArgAction.TheVariants.{Set}
use Rattle.clap.specs.declared.builder.value_parser.ValueParser.TheVariants as vp
use Rattle.command_words.specs.declared.command.Command.{Command}
use Rattle.command_words.specs.declared.command.Command.TheVariants as command
use Rattle.command_words.specs.Commands.{Text, command_word, positional_of, options_of, is_option}
use Rattle.command_words.specs.Apps.{bare_app, add_option, app_for}

-- ---- texts that are equal
pub equal_true : (a b : Text) → a ≡ b → bytes_eq a b ≡ true
equal_true a b e = (bytes_eq-Decides a b).1 e

pub equal_is : (a b : Text) → bytes_eq a b ≡ true → a ≡ b
equal_is a b e = (bytes_eq-Decides a b).0 e

pub equal_self : (a : Text) → bytes_eq a a ≡ true
equal_self a = equal_true a a refl

pub equal_not : (a b : Text) → bytes_eq a b ≡ false → bytes_eq b a ≡ false
equal_not a b e = go (bytes_eq b a) refl
  where
    go : (t : Bool) → bytes_eq b a ≡ t → t ≡ false
    go false h = refl
    go true h = let back : bytes_eq a b ≡ true = equal_true a b (sym (equal_is b a h)) in absurd cc

-- ---- the arguments, built
abbrev pub filled_positional : Text → Rule
filled_positional name = record (new_rule name) { index = Some 1; action = Some Set; range = Some (record { start_inclusive = 1; end_inclusive = 1 }); parser = Some vp.String }

abbrev pub filled_option : Text → Rule
filled_option name = record (new_rule name) { long = Some name; action = Some Set; range = Some (record { start_inclusive = 1; end_inclusive = 1 }); parser = Some vp.String }

abbrev pub rules_for : Command → List Rule
rules_for what = filled_positional (positional_of what) ∷ map filled_option (options_of what)

abbrev pub shape_for : Command → Shape
shape_for what = record (new_shape (command_word what)) { rules = rules_for what; disable_help_flag = true; disable_help_subcommand = true; is_built = true }

pub app_is_simple : (what : Command) → is_simple (app_for what) ≡ true
unfolding app_for bare_app add_option
app_is_simple command.Search = refl
app_is_simple command.Check = refl
app_is_simple command.Terms = refl
app_is_simple command.Count = refl
app_is_simple command.Sample = refl

pub app_is_built : (what : Command) → built (app_for what) ≡ record { top = shape_for what; subs = [] }
unfolding app_for bare_app add_option
app_is_built command.Search = refl
app_is_built command.Check = refl
app_is_built command.Terms = refl
app_is_built command.Count = refl
app_is_built command.Sample = refl

pub app_has_name : (what : Command) → (app_for what).top.no_binary_name ≡ false
unfolding app_for bare_app add_option
app_has_name command.Search = refl
app_has_name command.Check = refl
app_has_name command.Terms = refl
app_has_name command.Count = refl
app_has_name command.Sample = refl

-- ---- arguments by name
pub positional_is_none : (what : Command) → is_option what (positional_of what) ≡ false
positional_is_none command.Search = refl
positional_is_none command.Check = refl
positional_is_none command.Terms = refl
positional_is_none command.Count = refl
positional_is_none command.Sample = refl

pub nothing_is_none : (what : Command) → is_option what [] ≡ false
nothing_is_none command.Search = refl
nothing_is_none command.Check = refl
nothing_is_none command.Terms = refl
nothing_is_none command.Count = refl
nothing_is_none command.Sample = refl

option_of_name : (names : List Text) (name : Text) → list_any (λ o. bytes_eq name o) names ≡ true → find (λ (a : Rule). not (is_some a.index) && has_long a name) (map filled_option names) ≡ Some (filled_option name)
option_of_name [] name h = absurd cc
option_of_name (o ∷ names) name h = go (bytes_eq name o) refl h (λ k. option_of_name names name k)
  where
    go : (t : Bool) → bytes_eq name o ≡ t → (t || list_any (λ p. bytes_eq name p) names) ≡ true → (list_any (λ p. bytes_eq name p) names ≡ true → find (λ (a : Rule). not (is_some a.index) && has_long a name) (map filled_option names) ≡ Some (filled_option name)) → find (λ (a : Rule). not (is_some a.index) && has_long a name) (map filled_option (o ∷ names)) ≡ Some (filled_option name)
    go true e k ih = rw (equal_true o name (sym (equal_is name o e))) (ap (λ (n : Text). Some (filled_option n)) (sym (equal_is name o e)))
    go false e k ih = rw (equal_not name o e) (ih k)

pub by_long : (what : Command) (name : Text) → is_option what name ≡ true → arg_by_long (rules_for what) name ≡ Some (filled_option name)
by_long what name h = option_of_name (options_of what) name h

option_of_id : (names : List Text) (name : Text) → list_any (λ o. bytes_eq name o) names ≡ true → find (λ (a : Rule). bytes_eq a.id name) (map filled_option names) ≡ Some (filled_option name)
option_of_id [] name h = absurd cc
option_of_id (o ∷ names) name h = go (bytes_eq name o) refl h (λ k. option_of_id names name k)
  where
    go : (t : Bool) → bytes_eq name o ≡ t → (t || list_any (λ p. bytes_eq name p) names) ≡ true → (list_any (λ p. bytes_eq name p) names ≡ true → find (λ (a : Rule). bytes_eq a.id name) (map filled_option names) ≡ Some (filled_option name)) → find (λ (a : Rule). bytes_eq a.id name) (map filled_option (o ∷ names)) ≡ Some (filled_option name)
    go true e k ih = rw (equal_true o name (sym (equal_is name o e))) (ap (λ (n : Text). Some (filled_option n)) (sym (equal_is name o e)))
    go false e k ih = rw (equal_not name o e) (ih k)

-- an option's name isn't the positional word's
option_apart : (what : Command) (name : Text) → is_option what name ≡ true → bytes_eq (positional_of what) name ≡ false
option_apart what name h = go (bytes_eq (positional_of what) name) refl
  where
    go : (t : Bool) → bytes_eq (positional_of what) name ≡ t → t ≡ false
    go false e = refl
    go true e =
        let same : is_option what (positional_of what) ≡ true = ap (is_option what) (equal_is (positional_of what) name e) ∙ h in
        let not_same = positional_is_none what in
        absurd cc

pub option_by_id : (what : Command) (name : Text) → is_option what name ≡ true → arg_by_id (rules_for what) name ≡ Some (filled_option name)
option_by_id what name h = rw (option_apart what name h) (option_of_id (options_of what) name h)

pub positional_by_id : (what : Command) → arg_by_id (rules_for what) (positional_of what) ≡ Some (filled_positional (positional_of what))
positional_by_id what = rw (equal_self (positional_of what)) refl

pub positional_by_index : (what : Command) → arg_by_index (rules_for what) 1 ≡ Some (filled_positional (positional_of what))
positional_by_index what = refl
