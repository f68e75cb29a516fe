-- Words over an alphabet.
use Rattle.std.proofs.Common.{◌≡◌, ℕ, zero, suc, List, [], ◌∷◌, length, refl, sym, ap, ◌∙◌}
use Rattle.std.specs.Prelude.{map}
use Rattle.std.specs.List.{AllByRecursion}
use Rattle.lists.specs.Members.{IsIn, NoRepeats}
use Rattle.lists.specs.Members.IsIn.{here, later}
use Rattle.lists.specs.Members.NoRepeats.{no_element, one_more}
use Rattle.lists.specs.Words.{words}
use Rattle.lists.proofs.Members.{from_IsIn-map, IsIn-map, from_IsIn-flat_map, IsIn-flat_map}
use Rattle.lists.proofs.Repeats.{NoRepeats-map, NoRepeats-flat_map}

-- over an alphabet without repeats no word is listed twice
pub NoRepeats-words : {X : Type 0} {alphabet : List X} → NoRepeats alphabet → (n : ℕ) → NoRepeats (words alphabet n)
NoRepeats-words r zero = one_more (λ h. elim h [ ]) no_element
NoRepeats-words {X} {alphabet} r (suc n) =
    NoRepeats-flat_map (λ (x : X). map (λ w. x ∷ w) (words alphabet n)) (λ x. NoRepeats-map (λ w. x ∷ w) (λ v w e. cc) (NoRepeats-words r n))
    (λ x z w a b. let k = from_IsIn-map (λ v. x ∷ v) (words alphabet n) a in let m = from_IsIn-map (λ v. z ∷ v) (words alphabet n) b in
    let e : x ∷ k.0 ≡ z ∷ m.0 = sym k.2 ∙ m.2 in cc) r

-- a word whose letters are in the alphabet is listed
pub IsIn-words : {X : Type 0} (alphabet w : List X) → AllByRecursion (λ x. IsIn x alphabet) w → IsIn w (words alphabet (length w))
IsIn-words alphabet [] h = here
IsIn-words {X} alphabet (x ∷ w) h = IsIn-flat_map (λ (y : X). map (λ v. y ∷ v) (words alphabet (length w))) h.0 (IsIn-map (λ v. x ∷ v) (IsIn-words alphabet w h.1))

-- a listed word has its letters in the alphabet, and the length
pub from_IsIn-words : {X : Type 0} (alphabet : List X) (n : ℕ) (w : List X) → IsIn w (words alphabet n) → AllByRecursion (λ x. IsIn x alphabet) w × (length w ≡ n)
from_IsIn-words alphabet zero _ here = (tt, refl)
from_IsIn-words alphabet zero w (later _ h) = elim h [ ]
from_IsIn-words {X} alphabet (suc n) w h =
    let at = from_IsIn-flat_map (λ (x : X). map (λ v. x ∷ v) (words alphabet n)) alphabet h in
    let rest = from_IsIn-map (λ v. at.0 ∷ v) (words alphabet n) at.2 in
    let ih = from_IsIn-words alphabet n rest.0 rest.1 in
    rw rest.2 ((at.1, ih.0), ap suc ih.1)
