-- Several calls in a row: counts that rose, and bytes that a sink took.
use Rattle.std.specs.Prelude.{ℕ, ◌<◌, ◌≤◌, List, [], ◌++◌, Option, Some, None}
use Rattle.std.proofs.Common.{inl, inr, subst, sym, ap, ◌∙◌, append_assoc, append-nil}
use Rattle.std.proofs.Math.Nat.{le_trans, lt_of_not-le, not-le_of_lt, eq-or-lt_of_le}
use Rattle.outside.specs.Bytes.{GrewBy}
use Rattle.outside.specs.Counts.{Rose}

le-lt : {a b c : ℕ} → a ≤ b → b < c → a < c
le-lt kept more = lt_of_not-le (λ h. not-le_of_lt more (le_trans h kept))

-- a count that does not fall and then rises rose over both calls
pub rose_after : (first between last : ℕ) → first ≤ between → Rose between last → Rose first last
rose_after first between last kept rose =
    elim rose [ (inl more) ↦ inl (le-lt kept more) | (inr full) ↦ inr full ]

-- a count that rises and then does not fall rose over both calls
pub rose_before : (first between last : ℕ) → first ≤ between → Rose first between → between ≤ last → Rose first last
rose_before first between last kept rose more =
    elim (eq-or-lt_of_le more) [
      | (inl same) ↦ subst (λ (n : ℕ). Rose first n) same rose
      | (inr less) ↦ inl (le-lt kept less)
    ]

-- a sink to which nothing was written
pub grew_by-nothing : (held : Option (List ℕ)) → GrewBy held held []
grew_by-nothing None = tt
grew_by-nothing (Some bytes) = sym (append-nil bytes)

-- a sink to which two lists of bytes were written, one after the other
pub grew_by-both : (first between last : Option (List ℕ)) (bytes more : List ℕ) → GrewBy first between bytes → GrewBy between last more → GrewBy first last (bytes ++ more)
grew_by-both first between None bytes more h k = tt
grew_by-both first None (Some last) bytes more h k = absurd k
grew_by-both None (Some between) (Some last) bytes more h k = absurd h
grew_by-both (Some first) (Some between) (Some last) bytes more h k =
    k ∙ ap (λ held. held ++ more) h ∙ append_assoc first bytes more
