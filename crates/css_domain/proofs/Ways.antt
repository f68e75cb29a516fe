-- Where the counts of the children agree as far as they matter at a length, those of the parent agree.
use Rattle.std.proofs.Common.{◌≡◌, ℕ, zero, suc, ◌+◌, ◌-◌, ◌*◌, ◌<◌, Bool, true, false, List, [], ◌∷◌, length, refl, sym, ap, ◌∙◌, subst, arith, ⊎_elim}
use Rattle.std.proofs.lemmas.Bool.{eqb-true, and_parts, and_from, or_parts, or_cases, not_from_false}
use Rattle.std.proofs.lemmas.Bool.Decides.{nat_tests}
use Rattle.std.specs.Prelude.{◌⊎◌, map, not, ◌&&◌, ◌||◌, ◌==◌, remove, sum, sum_by, slice_get, Some}
use Rattle.std.specs.List.{list_all, range_with_len}
use Rattle.std.proofs.lemmas.List.{length-map}
use Rattle.std.proofs.lemmas.List.Sums.{sum_by-cons}
use Rattle.std.proofs.Math.Nat.{zero-mul, mul-zero}
use Rattle.lists.proofs.Counts.{sum_by_agrees}
use Rattle.lists.proofs.Numbers.{less_or_whole}
use Rattle.lists.specs.Members.{IsIn}
use Rattle.lists.specs.Words.{words}
use Rattle.lists.proofs.Tests.{and_regroup}
use Rattle.lists.proofs.Members.{from_IsIn-filter}
use Rattle.lists.proofs.Words.{from_IsIn-words}
use Rattle.css_domain.specs.Shapes.{sums_to, product_at, combine, is_same_length}
use Rattle.css_domain.specs.declared.shape.Shape.{Shape}
use Rattle.css_domain.specs.declared.shape.Shape.TheVariants.{Union, Product, Atom, Nothing}

pub sum-cons : (m : ℕ) (ns : List ℕ) → sum (m ∷ ns) ≡ m + sum ns
sum-cons m ns = sum_by-cons (λ x. x) m ns

-- some positive child has length 0
abbrev blocked : List Bool → List ℕ → Bool
blocked [] ns = false
blocked (b ∷ bs) [] = false
blocked (b ∷ bs) (n ∷ ns) = (b && (n == 0)) || blocked bs ns

eq_zero : (n : ℕ) → (n == 0) ≡ true → n ≡ 0
eq_zero n h = grind (arith, nat_tests)

zero_eq : (n : ℕ) → n ≡ 0 → (n == 0) ≡ true
zero_eq n h = grind (arith, nat_tests)

not_here : (b : Bool) (m : ℕ) → m ≡ 0 → (b && (m == 0)) ≡ false → b ≡ false
not_here true m z e = let t = zero_eq m z in absurd cc
not_here false m z e = refl

module _ {K : Type 0} (f g : K → ℕ → ℕ) (n : ℕ) where
  -- what two families agree on for a child with its flag; `alone` says that no other child is positive
  pub record SlotAgrees (k : K) (b alone : Bool) : Type 0 where
    pub shorter : (m : ℕ) → m < n → f k m ≡ g k m
    pub none_here : b ≡ true → f k 0 ≡ 0
    pub none_there : b ≡ true → g k 0 ≡ 0
    pub as_long : alone ≡ true → f k n ≡ g k n

  -- each child does; `clear` says that no child before these is positive
  abbrev pub AllAgree : Bool → List K → List Bool → Type 0
  AllAgree clear [] [] = Unit {0}
  AllAgree clear (k ∷ ks) (b ∷ bs) = SlotAgrees k b (clear && list_all not bs) × AllAgree (clear && not b) ks bs
  AllAgree clear _ _ = ⊥

  vanishes : (clear : Bool) (ks : List K) (bs : List Bool) (ns : List ℕ) → AllAgree clear ks bs → blocked bs ns ≡ true → (product_at (map f ks) ns ≡ 0) × (product_at (map g ks) ns ≡ 0)
  vanishes clear [] [] ns a h = absurd cc
  vanishes clear [] (b ∷ bs) ns a h = absurd a
  vanishes clear (k ∷ ks) [] ns a h = absurd a
  vanishes clear (k ∷ ks) (b ∷ bs) [] a h = absurd cc
  vanishes clear (k ∷ ks) (b ∷ bs) (m ∷ ns) a h =
      ⊎_elim {C = (f k m * product_at (map f ks) ns ≡ 0) × (g k m * product_at (map g ks) ns ≡ 0)}
      (λ e. let p = and_parts b (m == 0) e in let z : m ≡ 0 = eq_zero m p.1 in
      (rw (z, a.0.none_here p.0) (zero-mul (product_at (map f ks) ns)), rw (z, a.0.none_there p.0) (zero-mul (product_at (map g ks) ns))))
      (λ e. let p = vanishes (clear && not b) ks bs ns a.1 e in (rw p.0 (mul-zero (f k m)), rw p.1 (mul-zero (g k m))))
      (or_cases (b && (m == 0)) (blocked bs ns) h)

  no_flag : (bs : List Bool) (ns : List ℕ) → length ns ≡ length bs → sum ns ≡ 0 → blocked bs ns ≡ false → list_all not bs ≡ true
  no_flag [] ns l s h = refl
  no_flag (b ∷ bs) [] l s h = absurd (omega (arith, l))
  no_flag (b ∷ bs) (m ∷ ns) l s h =
      let t : m + sum ns ≡ 0 = sym (sum-cons m ns) ∙ s in
      let p = or_parts (b && (m == 0)) (blocked bs ns) h in
      and_from (not b) (list_all not bs) (not_from_false b (not_here b m (omega (arith, t)) p.0)) (no_flag bs ns (omega (arith, l)) (omega (arith, t)) p.1)

  lengths_agree : (clear : Bool) (ks : List K) (bs : List Bool) → AllAgree clear ks bs → length ks ≡ length bs
  lengths_agree clear [] [] a = refl
  lengths_agree clear [] (b ∷ bs) a = absurd a
  lengths_agree clear (k ∷ ks) [] a = absurd a
  lengths_agree clear (k ∷ ks) (b ∷ bs) a = ap suc (lengths_agree (clear && not b) ks bs a.1)

  -- the child that takes the whole length is the only one that may be positive
  at_n : (clear : Bool) (before : ℕ) (k : K) (ks : List K) (b : Bool) (bs : List Bool) (m : ℕ) (ns : List ℕ) → AllAgree clear (k ∷ ks) (b ∷ bs) → length (m ∷ ns) ≡ length (k ∷ ks) → before + (m + sum ns) ≡ n → (before ≡ 0 → clear ≡ true) → m ≡ n → blocked bs ns ≡ false → f k m ≡ g k m
  at_n clear before k ks b bs m ns a l total c e h =
      let same = lengths_agree (clear && not b) ks bs a.1 in
      let none = no_flag bs ns (omega (arith, l, same)) (omega (arith, total, e)) h in
      subst (λ x. f k x ≡ g k x) (sym e) (a.0.as_long (and_from clear (list_all not bs) (c (omega (arith, total, e))) none))

  -- the products agree where no positive child has length 0; `before` is the sum of the lengths before these
  alike : (clear : Bool) (before : ℕ) (ks : List K) (bs : List Bool) (ns : List ℕ) → AllAgree clear ks bs → length ns ≡ length ks → before + sum ns ≡ n → (before ≡ 0 → clear ≡ true) → blocked bs ns ≡ false → product_at (map f ks) ns ≡ product_at (map g ks) ns
  alike clear before [] bs ns a l t c h = refl
  alike clear before (k ∷ ks) [] ns a l t c h = absurd a
  alike clear before (k ∷ ks) (b ∷ bs) [] a l t c h = absurd (omega (arith, l))
  alike clear before (k ∷ ks) (b ∷ bs) (m ∷ ns) a l t c h =
      let total : before + (m + sum ns) ≡ n = ap (λ x. before + x) (sym (sum-cons m ns)) ∙ t in
      let p = or_parts (b && (m == 0)) (blocked bs ns) h in
      let rest : product_at (map f ks) ns ≡ product_at (map g ks) ns = alike (clear && not b) (before + m) ks bs ns a.1 (omega (arith, l)) (omega (arith, total)) (λ z. and_from clear (not b) (c (omega (arith, z))) (not_from_false b (not_here b m (omega (arith, z)) p.0))) p.1 in
      let this : f k m ≡ g k m = ⊎_elim (λ small. a.0.shorter m small) (λ e. at_n clear before k ks b bs m ns a l total c e p.1) (less_or_whole m n (omega (arith, total))) in
      rw (this, rest) refl

  products_agree : (ks : List K) (bs : List Bool) (ns : List ℕ) → AllAgree true ks bs → length ns ≡ length ks → sum ns ≡ n → product_at (map f ks) ns ≡ product_at (map g ks) ns
  products_agree ks bs ns a l t = go (blocked bs ns) refl
    where
      go : (h : Bool) → blocked bs ns ≡ h → product_at (map f ks) ns ≡ product_at (map g ks) ns
      go true h = let p = vanishes true ks bs ns a h in p.0 ∙ sym p.1
      go false h = alike true 0 ks bs ns a l (omega (arith, t)) (λ z. refl) h

  -- the children agree, slot by slot
  abbrev pub SlotsAgree : Shape → List K → List Bool → Type 0
  SlotsAgree shape ks bs = (slot : ℕ) (k : K) (b : Bool) → slice_get ks slot ≡ Some k → slice_get bs slot ≡ Some b → SlotAgrees k b (is_same_length shape bs slot)

  from_slots : (clear : Bool) (ks : List K) (bs : List Bool) → length ks ≡ length bs → ((slot : ℕ) (k : K) (b : Bool) → slice_get ks slot ≡ Some k → slice_get bs slot ≡ Some b → SlotAgrees k b (clear && list_all not (remove bs slot))) → AllAgree clear ks bs
  from_slots clear [] [] l s = tt
  from_slots clear [] (b ∷ bs) l s = absurd (omega (arith, l))
  from_slots clear (k ∷ ks) [] l s = absurd (omega (arith, l))
  from_slots clear (k ∷ ks) (b ∷ bs) l s =
      (s 0 k b refl refl, from_slots (clear && not b) ks bs (omega (arith, l)) (λ slot j c i e. subst (λ x. SlotAgrees j c x) (and_regroup clear (not b) (list_all not (remove bs slot))) (s (suc slot) j c i e)))

  union_agrees : (ks : List K) (bs : List Bool) → length ks ≡ length bs → ((slot : ℕ) (k : K) (b : Bool) → slice_get ks slot ≡ Some k → slice_get bs slot ≡ Some b → SlotAgrees k b true) → sum_by (λ c. c n) (map f ks) ≡ sum_by (λ c. c n) (map g ks)
  union_agrees [] bs l s = refl
  union_agrees (k ∷ ks) [] l s = absurd (omega (arith, l))
  union_agrees (k ∷ ks) (b ∷ bs) l s =
      sum_by-cons (λ c. c n) (f k) (map f ks) ∙ rw ((s 0 k b refl refl).as_long refl, union_agrees ks bs (omega (arith, l)) (λ slot j c i e. s (suc slot) j c i e)) (sym (sum_by-cons (λ c. c n) (g k) (map g ks)))

  way_total : (k : ℕ) (ns : List ℕ) → IsIn ns (sums_to n k) → (length ns ≡ k) × (sum ns ≡ n)
  way_total k ns i =
      let p = from_IsIn-filter (λ lengths. sum lengths == n) (words (range_with_len 0 (suc n)) k) i in
      ((from_IsIn-words (range_with_len 0 (suc n)) k ns p.0).1, eqb-true (sum ns) n p.1)

  -- so the parent's counts agree
  pub combine_agrees : (shape : Shape) (ks : List K) (bs : List Bool) → length ks ≡ length bs → SlotsAgree shape ks bs → combine shape (map f ks) n ≡ combine shape (map g ks) n
  combine_agrees Union ks bs l s = union_agrees ks bs l s
  combine_agrees Product ks bs l s =
      rw (length-map ks f, length-map ks g)
      (sum_by_agrees (product_at (map f ks)) (product_at (map g ks)) (sums_to n (length ks)) (λ ns i. let w = way_total (length ks) ns i in products_agree ks bs ns (from_slots true ks bs l s) w.0 w.1))
  combine_agrees (Atom k) ks bs l s = refl
  combine_agrees Nothing ks bs l s = refl
