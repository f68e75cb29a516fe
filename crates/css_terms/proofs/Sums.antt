-- Sums over numbers that grow by one.
use Rattle.std.proofs.Common.{◌≡◌, ℕ, suc, ap}
use Rattle.std.specs.Prelude.{sum_by}
use Rattle.std.specs.List.{range_with_len}

pub as_far : (f : ℕ → ℕ) (k n : ℕ) → k ≡ suc n → sum_by f (range_with_len 0 k) ≡ sum_by f (range_with_len 0 (suc n))
as_far f k n e = ap (λ m. sum_by f (range_with_len 0 m)) e
