-- Bases are equal where they are the same.
use Rattle.std.specs.Prelude.{◌≡◌, List, ℕ, Decides}
use Rattle.std.specs.Cmp.Lexicographic.{pointwise, pointwise_decides}
use Rattle.perm_core.specs.Orders.{perm_eq, perm_eq_decides}

pub words_decide : (a b : List (List ℕ)) → Decides (pointwise perm_eq a b) (a ≡ b)
words_decide a b = pointwise_decides perm_eq_decides a b
