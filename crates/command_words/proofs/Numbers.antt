-- Numbers by their texts, and the first value that isn't good.
use Rattle.std.proofs.Common.{◌≡◌, ℕ, Bool, true, eqb, ◌<◌, ◌≤◌, ◌^◌, Result, Ok, sym, ap, ◌∙◌, arith, [], ◌∷◌}
use Rattle.std.specs.Prelude.{decimal, not}
use Rattle.std.specs.Cmp.Lexicographic.{pointwise, pointwise_decides}
use Rattle.std.proofs.lemmas.Bool.Decides.{Decides-eqb}
use Rattle.std.specs.Str.Parse.{ParsesUnsigned}
use Rattle.std.proofs.lemmas.Fmt.{parse-decimal}
use Rattle.lists.specs.Members.{IsIn}
use Rattle.lists.specs.Members.IsIn.{here, later}
use Rattle.command_words.specs.Commands.{Text}
use Rattle.command_words.specs.declared.request.OptName.{OptName}
use Rattle.command_words.specs.declared.request.OptName.TheVariants.{Workers, Budget, Terms, Pack, Number}
use Rattle.command_words.specs.Requests.{Asked, IsGood, IsFirstBad}

-- a text of a number that fits is parsed as that number
pub parsed : {E : Type 0} (n most : ℕ) (text : Text) (r : Result ℕ E) → ParsesUnsigned 32 10 text r → n ≤ most → most < 2 ^ 32 → text ≡ decimal n → r ≡ Ok n
parsed n most text r h small fits e = parse-decimal 32 n text r (omega arith) (omega arith) e h

-- texts that differ are no text of one number
pub no_other_text : (b : Bool) (m n : ℕ) (bytes text : Text) → b ≡ true → b ≡ not (pointwise eqb bytes text) → bytes ≡ decimal m → m ≡ n → text ≡ decimal n → ⊥
no_other_text b m n bytes text h e f k g =
    let same : bytes ≡ text = f ∙ ap decimal k ∙ sym g in
    let equal : pointwise eqb bytes text ≡ true = (pointwise_decides Decides-eqb bytes text).1 same in
    cc

-- ---- the first value that isn't good
module _ (asked : Asked) where
  before_terms : IsGood asked Workers → IsGood asked Budget → (other : OptName) → IsIn other (Workers ∷ Budget ∷ []) → IsGood asked other
  before_terms w b _ here = w
  before_terms w b _ (later _ here) = b
  before_terms w b _ (later _ (later _ h)) = elim h [ ]

  before_pack : IsGood asked Workers → IsGood asked Budget → IsGood asked Terms → (other : OptName) → IsIn other (Workers ∷ Budget ∷ Terms ∷ []) → IsGood asked other
  before_pack w b t _ here = w
  before_pack w b t _ (later _ here) = b
  before_pack w b t _ (later _ (later _ here)) = t
  before_pack w b t _ (later _ (later _ (later _ h))) = elim h [ ]

  before_number : IsGood asked Workers → IsGood asked Budget → IsGood asked Terms → IsGood asked Pack → (other : OptName) → IsIn other (Workers ∷ Budget ∷ Terms ∷ Pack ∷ []) → IsGood asked other
  before_number w b t p _ here = w
  before_number w b t p _ (later _ here) = b
  before_number w b t p _ (later _ (later _ here)) = t
  before_number w b t p _ (later _ (later _ (later _ here))) = p
  before_number w b t p _ (later _ (later _ (later _ (later _ h)))) = elim h [ ]

  pub terms_are_bad : IsGood asked Workers → IsGood asked Budget → (IsGood asked Terms → ⊥) → IsFirstBad asked Terms
  terms_are_bad w b bad = record { bad = bad; before = before_terms w b }

  pub pack_is_bad : IsGood asked Workers → IsGood asked Budget → IsGood asked Terms → (IsGood asked Pack → ⊥) → IsFirstBad asked Pack
  pack_is_bad w b t bad = record { bad = bad; before = before_pack w b t }

  pub number_is_bad : IsGood asked Workers → IsGood asked Budget → IsGood asked Terms → IsGood asked Pack → (IsGood asked Number → ⊥) → IsFirstBad asked Number
  number_is_bad w b t p bad = record { bad = bad; before = before_number w b t p }

  -- all of them
  pub all_good : IsGood asked Workers → IsGood asked Budget → IsGood asked Terms → IsGood asked Pack → IsGood asked Number → (name : OptName) → IsGood asked name
  all_good w b t p n Workers = w
  all_good w b t p n Budget = b
  all_good w b t p n Terms = t
  all_good w b t p n Pack = p
  all_good w b t p n Number = n
