-- Series of terms, and what they show.
use Rattle.std.specs.Prelude.{Vec, ◌≡◌, ◌<◌, ◌≤◌, ◌-◌, ◌*◌, ℕ, suc, Bool, true, false, List, [], map, drop, length, sum_by, slice_index_or}
use Rattle.std.specs.List.{range_with_len}
use Rattle.lists.specs.Products.{product_count}
use Rattle.css_terms.specs.Terms.{capped}
use Rattle.css_terms.specs.declared.term.Term.{Term}
use Rattle.css_terms.specs.declared.term.Term.TheVariants.{Exact, Big}

-- the terms of the series are the capped numbers of f
abbrev pub Shows : List Term → (ℕ → ℕ) → Type 0
Shows series f = (n : ℕ) → n < length series → slice_index_or series n (Exact 0) ≡ capped (f n)

-- and f is 0 past its end
abbrev pub ShowsAll : List Term → (ℕ → ℕ) → Type 0
ShowsAll series f = (n : ℕ) → slice_index_or series n (Exact 0) ≡ capped (f n)

-- the items of each vector
abbrev pub items_of : {Z : Type 0} → List (Vec Term Z) → List (List Term)
items_of vectors = map (λ v. v.items) vectors

-- the numbers that many series show
abbrev pub Knows : List (List Term) → (ℕ → ℕ → ℕ) → Type 0
Knows series known = (c : ℕ) → c < length series → ShowsAll (slice_index_or series c []) (known c)

abbrev pub convolution : (ℕ → ℕ) → (ℕ → ℕ) → ℕ → ℕ
convolution f g n = sum_by (λ k. f k * g (n - k)) (range_with_len 0 (suc n))

-- how many ways there are to take a member of each of the last children, `back` of them, by the sum of their lengths
abbrev pub tail_count : (ℕ → ℕ → ℕ) → List ℕ → ℕ → ℕ → ℕ
tail_count known ks back = product_count (map known (drop (length ks - back) ks))

-- at each length below n the term under `back` is the capped number of g
abbrev pub ShowsAt : List (List Term) → ℕ → ℕ → (ℕ → ℕ) → Type 0
ShowsAt tails n back g = (m : ℕ) → m < n → slice_index_or (slice_index_or tails m []) back (Exact 0) ≡ capped (g m)

-- at each length below n stand the terms of the products of the last children: of none, of one, and so on to all
abbrev pub ShowsTails : List (List Term) → ℕ → List ℕ → (ℕ → ℕ → ℕ) → Type 0
ShowsTails tails n ks known = (back : ℕ) → back ≤ length ks → ShowsAt tails n back (tail_count known ks back)

-- the terms of these products at n
abbrev pub AreTailsAt : List Term → ℕ → List ℕ → (ℕ → ℕ → ℕ) → Type 0
AreTailsAt lasts n ks known = (back : ℕ) → back ≤ length ks → slice_index_or lasts back (Exact 0) ≡ capped (tail_count known ks back n)

-- the items of each list of vectors
abbrev pub lists_of : {Z Y : Type 0} → List (Vec (Vec Term Z) Y) → List (List (List Term))
lists_of tails = map (λ v. items_of v.items) tails

-- the children's places
abbrev pub places : List (ℕ × Bool) → List ℕ
places children = map (λ child. child.0) children

-- each number is below the end
abbrev pub AreBelow : ℕ → List ℕ → Type 0
AreBelow end ks = (slot : ℕ) → slot < length ks → slice_index_or ks slot 0 < end

abbrev pub is_big : Term → Bool
is_big (Exact x) = false
is_big Big = true
