-- Bytes that a sink took in several calls.
use Rattle.std.proofs.Common.{ℕ, ◌+◌, ◌-◌, List, Option, length, take, drop, sym, subst}
use Rattle.std.proofs.lemmas.List.{take_rest}
use Rattle.std.proofs.Math.Seq.{take-add}
use Rattle.outside.specs.Bytes.{GrewBy}
use Rattle.outside.specs.Laws.{grew_by-both}

-- a sink that took the first `i` bytes and then the first `n` of the rest took the first `i + n`
pub grew_on : (a b d : Option (List ℕ)) (bytes : List ℕ) (i n : ℕ) → GrewBy a b (take i bytes) → GrewBy b d (take n (take (length bytes - i) (drop i bytes))) → GrewBy a d (take (i + n) bytes)
grew_on a b d bytes i n h k =
    let k' : GrewBy b d (take n (drop i bytes)) = rw take_rest at k in
    subst (GrewBy a d) (sym (take-add i n bytes)) (grew_by-both a b d (take i bytes) (take n (drop i bytes)) h k')
