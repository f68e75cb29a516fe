-- The forms of words, as the parser of words sees them.
use Rattle.std.proofs.Common.{◌≡◌, ℕ, Bool, true, false, [], ◌∷◌, refl, sym, ap, subst}
use Rattle.std.specs.Prelude.{◌==◌, Option, Some, None, not, option_map, option_and_then, if◌then◌else◌}
use Rattle.std.specs.Str.{bytes_eq}
use Rattle.clap.specs.Lexer.{strip_byte, long_of, short_of}
use Rattle.command_words.specs.Commands.{Text}
use Rattle.command_words.specs.Parts.{after_byte, cut_at_sign, is_value, named}

pub same_strip : (byte : ℕ) (text : Text) → strip_byte byte text ≡ after_byte byte text
same_strip byte [] = refl
same_strip byte (b ∷ rest) = refl

-- ---- what the parser makes of words of a form
-- a value is no flag
pub record IsNoFlag (word : Text) : Type 0 where
  pub no_end : bytes_eq word (45 ∷ 45 ∷ []) ≡ false
  pub no_long : long_of word ≡ None
  pub no_short : short_of word ≡ None

pub value_is_no_flag : (word : Text) → is_value word ≡ true → IsNoFlag word
value_is_no_flag [] h = absurd cc
value_is_no_flag (b ∷ rest) h = go (b == 45) refl h
  where
    go : (t : Bool) → (b == 45) ≡ t → not t ≡ true → IsNoFlag (b ∷ rest)
    go true e k = absurd cc
    go false e k = record { no_end = rw e refl; no_long = rw e refl; no_short = rw e refl }

some_same : (p q : Text × Option Text) → Some p ≡ Some q → p ≡ q
some_same p q e = cc

same_first : (p : Text × Option Text) (name : Text) (value : Option Text) → Some p ≡ Some (name, value) → p.0 ≡ name
same_first p name value e = ap (λ (q : Text × Option Text). q.0) (some_same p (name, value) e)

-- a word with a name is a flag of that name
pub record IsFlag (word name : Text) (value : Option Text) : Type 0 where
  pub no_end : bytes_eq word (45 ∷ 45 ∷ []) ≡ false
  pub long : long_of word ≡ Some (name, value)

pub named_is_flag : (word name : Text) (value : Option Text) → named word ≡ Some (name, value) → (name ≡ [] → ⊥) → IsFlag word name value
named_is_flag [] name value h ne = absurd cc
named_is_flag (a ∷ []) name value h ne = go (a == 45) h
  where
    go : (s : Bool) → option_map cut_at_sign (option_and_then (after_byte 45) (if s then Some [] else None)) ≡ Some (name, value) → IsFlag (a ∷ []) name value
    go true k = absurd cc
    go false k = absurd cc
named_is_flag (a ∷ b ∷ rest) name value h ne = first (a == 45) refl h
  where
    second : (t : Bool) → (a == 45) ≡ true → (b == 45) ≡ t → option_map cut_at_sign (if t then Some rest else None) ≡ Some (name, value) → IsFlag (a ∷ b ∷ rest) name value
    second false ea eb k = absurd cc
    second true ea eb k = go rest refl k
      where
        go : (r : Text) → r ≡ rest → option_map cut_at_sign (Some r) ≡ Some (name, value) → IsFlag (a ∷ b ∷ rest) name value
        go [] e j = absurd (ne (sym (same_first (cut_at_sign []) name value j)))
        go (c ∷ cs) e j = subst (λ (r : Text). IsFlag (a ∷ b ∷ r) name value) e (record { no_end = rw (ea, eb) refl; long = rw (ea, eb) j })

    first : (s : Bool) → (a == 45) ≡ s → option_map cut_at_sign (option_and_then (after_byte 45) (if s then Some (b ∷ rest) else None)) ≡ Some (name, value) → IsFlag (a ∷ b ∷ rest) name value
    first true ea k = second (b == 45) ea refl k
    first false ea k = absurd cc
