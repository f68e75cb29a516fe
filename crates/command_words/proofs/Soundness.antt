-- What is read keeps its ranges, and a command that takes a basis has one.
use Rattle.std.proofs.Common.{◌≡◌, ◌≤◌, ℕ, Bool, true, false, List, [], ◌∷◌, refl, sym, ap, ◌∙◌, subst, arith, inl, inr}
use Rattle.std.specs.Prelude.{Option, Some, None, ◌||◌, is_some, option_map, option_and_then, find, codes, if◌then◌else◌}
use Rattle.std.specs.Str.{bytes_eq}
use Rattle.perm_core.specs.Basis.{IsBasis}
use Rattle.rule_kinds.specs.Choices.{Packs}
use Rattle.command_words.specs.declared.command.Command.{Command}
use Rattle.command_words.specs.declared.command.Command.TheVariants as command
use Rattle.command_words.specs.declared.request.Request.{Request}
use Rattle.command_words.specs.Commands.{Text, command_of, positional_of}
use Rattle.command_words.specs.Parts.{Part, given, is_given, plain_parts}
use Rattle.command_words.specs.Apps.{texts_in, texts_by}
use Rattle.command_words.specs.Requests.{Asked, asked_by, most_terms, default_terms, GivesNumber, GivesPacks, GivesBasis, Reads, takes_basis, IsSomePack, IsSound, WordsMeanOneThing}
use Rattle.command_words.proofs.Taken.{plain_are}
use Rattle.command_words.proofs.OneThing.{one_request, one_fault, not_both}

-- ---- what is given to a name is there
given_is_some : (name : Text) (parts : List Part) → is_given name parts ≡ true → is_some (given name parts) ≡ true
given_is_some name [] h = absurd cc
given_is_some name (part ∷ parts) h = go (bytes_eq part.name name) h (given_is_some name parts)
  where
    go : (t : Bool) → (t || is_given name parts) ≡ true → (is_given name parts ≡ true → is_some (given name parts) ≡ true)
        → is_some (option_map (λ (p : Part). p.value) (if t then Some part else find (λ (p : Part). bytes_eq p.name name) parts)) ≡ true
    go true h ih = refl
    go false h ih = ih h

-- plain words of a command that takes a basis give a text to it
basis_given : (what : Command) (parts : List Part) → takes_basis what ≡ true → is_given (positional_of what) parts ≡ true → is_some (texts_in parts).basis ≡ true
unfolding texts_by
basis_given command.Search parts t h = given_is_some (codes "basis") parts h
basis_given command.Check parts t h = given_is_some (codes "basis") parts h
basis_given command.Terms parts t h = given_is_some (codes "basis") parts h
basis_given command.Count parts t h = given_is_some (codes "basis") parts h
basis_given command.Sample parts t h = absurd cc

by_asked : (words : List Text) (asked : Asked) → asked_by words ≡ Some asked → takes_basis asked.command ≡ true → is_some asked.texts.basis ≡ true
unfolding asked_by
by_asked [] asked e t = absurd cc
by_asked (word ∷ rest) asked e t = by_command (command_of word) e
  where
    by_parts : (what : Command) (parts : Option (List Part)) → plain_parts what rest ≡ parts → option_map (λ ps. record { command = what; texts = texts_in ps }) parts ≡ Some asked → is_some asked.texts.basis ≡ true
    by_parts what None p k = absurd cc
    by_parts what (Some parts) p k =
        let same : record { command = what; texts = texts_in parts } ≡ asked = cc in
        let takes : takes_basis what ≡ true = ap (λ (a : Asked). takes_basis a.command) same ∙ t in
        subst (λ (a : Asked). is_some a.texts.basis ≡ true) same (basis_given what parts takes (plain_are what rest parts p).has_positional)

    by_command : (found : Option Command) → option_and_then (λ what. option_map (λ ps. record { command = what; texts = texts_in ps }) (plain_parts what rest)) found ≡ Some asked → is_some asked.texts.basis ≡ true
    by_command None k = absurd cc
    by_command (Some what) k = by_parts what (plain_parts what rest) refl k

kept_basis : (given : Option Text) (basis : List (List ℕ)) → is_some given ≡ true → GivesBasis given basis → IsBasis basis
kept_basis None basis s h = absurd cc
kept_basis (Some text) basis s h = h.kept

-- ---- ranges
in_range : (least most default : ℕ) (given : Option Text) (n : ℕ) → least ≤ default → default ≤ most → GivesNumber least most default given n → (least ≤ n) × (n ≤ most)
in_range least most default None n l m h = (omega arith, omega arith)
in_range least most default (Some text) n l m h = (h.from, h.to)

some_pack : (given : Option Text) (packs : Packs) → GivesPacks given packs → IsSomePack packs
some_pack None packs h = inl h
some_pack (Some text) packs h = inr (text, h)

default_within : (what : Command) → default_terms what ≤ most_terms what
default_within command.Search = omega arith
default_within command.Check = omega arith
default_within command.Terms = omega arith
default_within command.Count = omega arith
default_within command.Sample = omega arith

most_within : (what : Command) → most_terms what ≤ 200
most_within command.Search = omega arith
most_within command.Check = omega arith
most_within command.Terms = omega arith
most_within command.Count = omega arith
most_within command.Sample = omega arith

pub sound : (words : List Text) (request : Request) → Reads words request → IsSound request
sound words request r =
    let asks = r.asks in
    let terms = (in_range 0 (most_terms r.asked.command) (default_terms r.asked.command) r.asked.texts.terms request.terms (omega arith) (default_within r.asked.command) asks.terms).1 in
    let most = most_within r.asked.command in
    record {
      basis = λ t. kept_basis r.asked.texts.basis request.basis (by_asked words r.asked r.plain (ap takes_basis (sym asks.command) ∙ t)) asks.basis;
      workers = in_range 1 64 1 r.asked.texts.workers request.workers (omega arith) (omega arith) asks.workers;
      budget = in_range 1 5000 500 r.asked.texts.budget request.budget (omega arith) (omega arith) asks.budget;
      terms = omega arith;
      counted = λ e. subst (λ (what : Command). request.terms ≤ most_terms what) (sym asks.command ∙ e) terms;
      packs = some_pack r.asked.texts.pack request.packs asks.packs;
      number = (in_range 0 1000000 0 r.asked.texts.number request.number (omega arith) (omega arith) asks.number).1;
    }

pub one_thing : WordsMeanOneThing
one_thing words = record { one_request = one_request words; one_fault = one_fault words; not_both = not_both words; sound = sound words }
