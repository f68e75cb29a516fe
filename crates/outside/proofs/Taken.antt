-- Bytes that a source gave in several calls, and what is left of it.
use Rattle.std.proofs.Common.{◌≡◌, ℕ, ◌+◌, ◌≤◌, List, [], ◌++◌, append-nil, Option, Some, None, length, take, drop, sym, ap, ◌∙◌, subst, refl, arith}
use Rattle.std.proofs.lemmas.List.{length-append, length-take-le}
use Rattle.std.proofs.Math.Seq.{drop-append_seam}
use Rattle.std.specs.Io.KnownBytes.{Consumes}
use Rattle.std.proofs.KnownBytes.{Consumes-trans}
use Rattle.outside.specs.Reading.{Took, TookAtMost}

-- what was given was taken
pub took : (before now : Option (List ℕ)) (bytes : List ℕ) → Consumes before now bytes → Took before now (length bytes)
took None now bytes h = tt
took (Some all) None bytes h = absurd h
took (Some all) (Some rest) bytes h =
    let many : length all ≡ length bytes + length rest = ap length h ∙ length-append bytes rest in
    (omega (arith, many), ap Some (sym (drop-append_seam bytes rest) ∙ ap (drop (length bytes)) (sym h)))

-- a call that gave nothing, after some that gave these bytes
pub took_no_more : (a b d : Option (List ℕ)) (bytes : List ℕ) (most : ℕ) → Consumes a b bytes → Consumes b d [] → length bytes ≤ most → TookAtMost a d most
took_no_more a b d bytes most h k few =
    (length bytes, few, took a d bytes (subst (Consumes a d) (append-nil bytes) (Consumes-trans a b d bytes [] h k)))

-- two calls in a row: the first gave some bytes, the second so many of a buffer
pub took_more : (a b d : Option (List ℕ)) (bytes into : List ℕ) (n sum : ℕ) → Consumes a b bytes → Consumes b d (take n into) → n ≤ length into → length bytes + n ≡ sum → Took a d sum
took_more a b d bytes into n sum h k within total =
    let many : length (bytes ++ take n into) ≡ sum = length-append bytes (take n into) ∙ ap (λ m. length bytes + m) (length-take-le n into within) ∙ total in
    subst (Took a d) many (took a d (bytes ++ take n into) (Consumes-trans a b d bytes (take n into) h k))

pub took_most_more : (a b d : Option (List ℕ)) (bytes into : List ℕ) (n most : ℕ) → Consumes a b bytes → Consumes b d (take n into) → n ≤ length into → length bytes + n ≤ most → TookAtMost a d most
took_most_more a b d bytes into n most h k within few = (length bytes + n, few, took_more a b d bytes into n _ h k within refl)
