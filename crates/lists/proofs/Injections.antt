-- How long lists are that functions connect: the laws of counts.
use Rattle.std.proofs.Common.{◌≡◌, suc, ◌≤◌, List, ◌∷◌, length, refl, sym, ap, ◌∙◌, subst, arith}
use Rattle.std.specs.Prelude.{◌≢◌}
use Rattle.lists.specs.Members.{IsIn, NoRepeats}
use Rattle.lists.specs.Members.IsIn.{here, later}
use Rattle.lists.specs.Members.NoRepeats.{no_element, one_more}

-- ---- a list with one element taken out
abbrev without : {Y : Type 0} {y : Y} {ys : List Y} → IsIn y ys → List Y
without (here {xs = ys}) = ys
without (later z h) = z ∷ without h

length-without : {Y : Type 0} {y : Y} {ys : List Y} (h : IsIn y ys) → length ys ≡ suc (length (without h))
length-without here = refl
length-without (later z h) = ap suc (length-without h)

IsIn-without : {Y : Type 0} {y z : Y} {ys : List Y} (h : IsIn y ys) → IsIn z ys → z ≢ y → IsIn z (without h)
IsIn-without here here ne = absurd (ne refl)
IsIn-without here (later _ k) ne = k
IsIn-without (later w h) here ne = here
IsIn-without (later w h) (later _ k) ne = later w (IsIn-without h k ne)

-- a list without repeats that is sent into another, no two elements to one, is no longer
pub length-le_from_injection : {X Y : Type 0} (f : X → Y) {xs : List X} (ys : List Y) → NoRepeats xs → ((x : X) → IsIn x xs → IsIn (f x) ys) → ((x z : X) → IsIn x xs → IsIn z xs → f x ≡ f z → x ≡ z) → length xs ≤ length ys
length-le_from_injection f ys no_element into inj = omega arith
length-le_from_injection {X} f ys (one_more {x} {xs} out rest) into inj =
    let at = into x here in
    let ih : length xs ≤ length (without at) =
    length-le_from_injection f (without at) rest (λ z h. IsIn-without at (into z (later x h)) (λ e. out (subst (λ (w : X). IsIn w xs) (inj z x (later x h) here e) h)))
    (λ u v hu hv. inj u v (later x hu) (later x hv)) in
    omega (arith, length-without at)

-- the law of counts: a map with an inverse, both ways
pub length-from_inverse : {X Y : Type 0} (f : X → Y) (g : Y → X) {xs : List X} {ys : List Y} → NoRepeats xs → NoRepeats ys → ((x : X) → IsIn x xs → IsIn (f x) ys × (g (f x) ≡ x)) → ((y : Y) → IsIn y ys → IsIn (g y) xs × (f (g y) ≡ y)) → length xs ≡ length ys
length-from_inverse f g {xs} {ys} one two there back =
    let a : length xs ≤ length ys = length-le_from_injection f ys one (λ x h. (there x h).0) (λ x z h k e. sym (there x h).1 ∙ ap g e ∙ (there z k).1) in
    let b : length ys ≤ length xs = length-le_from_injection g xs two (λ y h. (back y h).0) (λ y z h k e. sym (back y h).1 ∙ ap f e ∙ (back z k).1) in
    omega arith
