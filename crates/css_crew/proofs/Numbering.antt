-- The numbers of records.
use Rattle.std.proofs.Common.{◌≡◌, ℕ, zero, suc, ◌+◌, ◌<◌, ◌≤◌, List, [], ◌∷◌, length, map, sym, ap, subst, ◌∙◌, arith, Bool, false}
use Rattle.std.specs.Prelude.{slice_get, slice_index, get_or, Some}
use Rattle.std.proofs.lemmas.List.{get_or-map}
use Rattle.css_domain.specs.declared.record.Record.{Record}
use Rattle.css_domain.specs.Records.{IsWithin}

-- the number of a child
pub number_at : (cs ds : List (ℕ × Bool)) (i k : ℕ) → ds ≡ cs → i ≡ k → k < length ds → slice_index (map (λ (c : ℕ × Bool). c.0) cs) i ≡ (get_or ds k (0, false)).0
number_at cs ds i k e same h =
    ap (λ (j : ℕ). slice_index (map (λ (c : ℕ × Bool). c.0) cs) j) same
    ∙ ap (λ (xs : List (ℕ × Bool)). slice_index (map (λ (c : ℕ × Bool). c.0) xs) k) (sym e)
    ∙ get_or-map (λ (c : ℕ × Bool). c.0) ds k (0, false) 0 h

-- what is read at a place
get_at : (xs : List Record) (k : ℕ) (d r : Record) → slice_get xs k ≡ Some r → get_or xs k d ≡ r
get_at [] k d r e = absurd cc
get_at (x ∷ xs) zero d r e = let s : x ≡ r = cc in s
get_at (x ∷ xs) (suc k) d r e = get_at xs k d r e

pub item_at : (xs : List Record) (i k : ℕ) (x r : Record) → x ≡ get_or xs k x → i ≡ k → slice_get xs i ≡ Some r → x ≡ r
item_at xs i k x r is same e = is ∙ get_at xs k x r (subst (λ (j : ℕ). slice_get xs j ≡ Some r) same e)

-- numbers that are within are within more
pub within_more : (a b : ℕ) (r : Record) → a ≤ b → IsWithin (a + 1) r → IsWithin (b + 1) r
within_more a b r h w = record { own = let o = w.own in omega (arith, o, h); child = λ slot s. let o = w.child slot s in omega (arith, o, h) }
