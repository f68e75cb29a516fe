-- The order of entries from a root.
use Rattle.std.proofs.Common.{◌≡◌, ℕ, zero, suc, ◌<◌, ◌≤◌, true, List, [], ◌∷◌, ◌++◌, length, append_assoc, refl, sym, ap, subst, ◌∙◌, ⊎_elim, arith, append-nil}
use Rattle.std.specs.Prelude.{nat_eq, slice_get, Some, None, Option}
use Rattle.std.specs.List.{list_any, range_with_len}
use Rattle.std.proofs.lemmas.List.FromFn.{length-range_with_len}
use Rattle.std.proofs.lemmas.Option.{slice_get_within, slice_get_past}
use Rattle.std.proofs.lemmas.Bool.{eq-eqb, cases_lt}
use Rattle.lists.specs.Members.IsIn.{here, later}
use Rattle.lists.specs.Members.NoRepeats.{no_element, one_more}
use Rattle.lists.proofs.Places.{IsIn-slice_get, get_left, short_if_none}
use Rattle.lists.proofs.Numbers.{less_or_whole}
use Rattle.lists.proofs.Added.{grows, there_after, any_append, all_distinct, in_grown, added_from}
use Rattle.lists.specs.Members.{IsIn, NoRepeats}
use Rattle.lists.proofs.Injections.{length-le_from_injection}
use Rattle.lists.proofs.Ranges.{in_range_with_len}
use Rattle.css_domain.specs.Added.{with_children, order_from}

module _ (root : ℕ) (ch : ℕ → List ℕ) where
  own : (n : ℕ) → nat_eq n n ≡ true
  own n = eq-eqb n n refl

  pub next_grows : (k : ℕ) → (zs : List ℕ) × (order_from root ch (suc k) ≡ order_from root ch k ++ zs)
  next_grows k = go (slice_get (order_from root ch k) k)
    where
      go : (o : Option ℕ) → (zs : List ℕ) × (with_children ch (order_from root ch k) o ≡ order_from root ch k ++ zs)
      go None = ([], sym (append-nil (order_from root ch k)))
      go (Some c) = let g = grows nat_eq (order_from root ch k) (ch c) in (g.0, g.1)

  pub order_grows : (k m : ℕ) → k ≤ m → (zs : List ℕ) × (order_from root ch m ≡ order_from root ch k ++ zs)
  order_grows k zero h = let e : k ≡ 0 = omega (arith, h) in ([], rw e (sym (append-nil (root ∷ []))))
  order_grows k (suc m) h =
      ⊎_elim {C = (zs : List ℕ) × (order_from root ch (suc m) ≡ order_from root ch k ++ zs)}
      (λ less. let a = order_grows k m (omega (arith, less)) in let b = next_grows m in (a.0 ++ b.0, b.1 ∙ ap (λ xs. xs ++ b.0) a.1 ∙ append_assoc (order_from root ch k) a.0 b.0))
      (λ e. ([], rw e (sym (append-nil (order_from root ch (suc m))))))
      (less_or_whole k (suc m) h)

  pub order_distinct : (k : ℕ) → NoRepeats (order_from root ch k)
  order_distinct zero = one_more (λ h. elim h [ ]) no_element
  order_distinct (suc k) = go (slice_get (order_from root ch k) k) (order_distinct k)
    where
      go : (o : Option ℕ) → NoRepeats (order_from root ch k) → NoRepeats (with_children ch (order_from root ch k) o)
      go None n = n
      go (Some c) n = all_distinct nat_eq own (order_from root ch k) (ch c) n

  -- what holds of the root and goes to children holds of all
  pub order_all : (P : ℕ → Type 0) → P root → ((c : ℕ) → P c → (d : ℕ) → IsIn d (ch c) → P d) → (k : ℕ) (c : ℕ) → IsIn c (order_from root ch k) → P c
  order_all P r f zero _ (here) = r
  order_all P r f zero c (later _ h) = elim h [ ]
  order_all P r f (suc k) c h = go (slice_get (order_from root ch k) k) refl (order_all P r f k) h
    where
      go : (o : Option ℕ) → slice_get (order_from root ch k) k ≡ o → ((d : ℕ) → IsIn d (order_from root ch k) → P d) → IsIn c (with_children ch (order_from root ch k) o) → P c
      go None e before i = before c i
      go (Some b) e before i = ⊎_elim {C = P c} (before c) (λ j. f b (before b (IsIn-slice_get (order_from root ch k) k b e)) c j) (in_grown nat_eq c (order_from root ch k) (ch b) i)

  -- the children of what was gone through are there
  pub order_closed : (k i c : ℕ) → i < k → slice_get (order_from root ch k) i ≡ Some c → (d : ℕ) → IsIn d (ch c) → list_any (nat_eq d) (order_from root ch k) ≡ true
  order_closed k i c less at d j =
      let a = order_grows (suc i) k (omega (arith, less)) in
      rw a.1 (any_append nat_eq d (order_from root ch (suc i)) a.0 (go (slice_get (order_from root ch i) i) refl))
    where
      -- where the place was empty then, it stays so
      stopped : slice_get (order_from root ch i) i ≡ None → (m : ℕ) → i ≤ m → order_from root ch m ≡ order_from root ch i
      stopped e zero h = let z : i ≡ 0 = omega (arith, h) in rw z refl
      stopped e (suc m) h =
          ⊎_elim {C = order_from root ch (suc m) ≡ order_from root ch i}
          (λ l.
          let s = stopped e m (omega (arith, l)) in
          let none : slice_get (order_from root ch m) m ≡ None = ap (λ xs. slice_get xs m) s ∙ slice_get_past (order_from root ch i) m (let w = short_if_none (order_from root ch i) i e in omega (arith, w, l)) in
          ap (with_children ch (order_from root ch m)) none ∙ s)
          (λ s. rw s refl)
          (less_or_whole i (suc m) h)

      go : (o : Option ℕ) → slice_get (order_from root ch i) i ≡ o → list_any (nat_eq d) (with_children ch (order_from root ch i) o) ≡ true
      go None e = absurd (let s = stopped e k (omega (arith, less)) in let f : slice_get (order_from root ch i) i ≡ Some c = ap (λ xs. slice_get xs i) (sym s) ∙ at in cc)
      go (Some b) e =
          let g = order_grows i k (omega (arith, less)) in
          let w = slice_get_within (order_from root ch i) i b e in
          let f : slice_get (order_from root ch k) i ≡ Some b = ap (λ xs. slice_get xs i) g.1 ∙ get_left (order_from root ch i) g.0 i w ∙ e in
          let same : c ≡ b = (let h = sym at ∙ f in cc) in
          there_after nat_eq own d (order_from root ch i) (ch b) (subst (λ m. IsIn d (ch m)) same j)

  -- what comes later was called by an earlier one
  pub order_called : (k j d : ℕ) → 0 < j → slice_get (order_from root ch k) j ≡ Some d → (i : ℕ) × (c : ℕ) × (i < j) × (slice_get (order_from root ch k) i ≡ Some c) × IsIn d (ch c)
  order_called zero j d p h = absurd (let w = slice_get_within (root ∷ []) j d h in omega (arith, w, p))
  order_called (suc k) j d p h =
      let g = next_grows k in
      ⊎_elim {C = (i : ℕ) × (c : ℕ) × (i < j) × (slice_get (order_from root ch (suc k)) i ≡ Some c) × IsIn d (ch c)}
      (λ less.
      let old : slice_get (order_from root ch k) j ≡ Some d = sym (get_left (order_from root ch k) g.0 j less) ∙ ap (λ xs. slice_get xs j) (sym g.1) ∙ h in
      let r = order_called k j d p old in
      (r.0, r.1, r.2, ap (λ xs. slice_get xs r.0) g.1 ∙ get_left (order_from root ch k) g.0 r.0 (slice_get_within (order_from root ch k) r.0 r.1 r.3) ∙ r.3, r.4))
      (λ past. go (slice_get (order_from root ch k) k) refl past h)
      (cases_lt j (length (order_from root ch k)))
    where
      go : (o : Option ℕ) → slice_get (order_from root ch k) k ≡ o → length (order_from root ch k) ≤ j → slice_get (with_children ch (order_from root ch k) o) j ≡ Some d → (i : ℕ) × (c : ℕ) × (i < j) × (slice_get (order_from root ch (suc k)) i ≡ Some c) × IsIn d (ch c)
      go None e past f = absurd (let w = slice_get_within (order_from root ch k) j d f in omega (arith, w, past))
      go (Some b) e past f =
          let w = slice_get_within (order_from root ch k) k b e in
          let g = next_grows k in
          (k, b, omega (arith, w, past), ap (λ xs. slice_get xs k) g.1 ∙ get_left (order_from root ch k) g.0 k w ∙ e, added_from nat_eq (order_from root ch k) (ch b) j d f past)

  -- numbers below n, each once, are at most n
  pub order_short : (n k : ℕ) → ((c : ℕ) → IsIn c (order_from root ch k) → c < n) → length (order_from root ch k) ≤ n
  order_short n k f = let l = length-range_with_len 0 n in let i = length-le_from_injection (λ (x : ℕ). x) (range_with_len 0 n) (order_distinct k) (λ x h. in_range_with_len 0 n x (omega arith) (omega (arith, f x h))) (λ x z hx hz e. e) in omega (arith, l, i)

  pub order_first : (k : ℕ) → slice_get (order_from root ch k) 0 ≡ Some root
  order_first k = let g = order_grows 0 k (omega arith) in ap (λ xs. slice_get xs 0) g.1
