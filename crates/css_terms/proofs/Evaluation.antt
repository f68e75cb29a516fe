-- Why each new term is the count of its row.
use Rattle.std.proofs.Common.{◌≡◌, ℕ, zero, suc, ◌+◌, ◌<◌, ◌≤◌, Bool, true, false, cond, nat_lt, List, [], ◌∷◌, ◌++◌, length, refl, sym, ap, ◌∙◌, subst, arith, get_or, inl, inr, ⊎_elim}
use Rattle.std.specs.Prelude.{◌⊎◌, map, slice_get, slice_set, Some}
use Rattle.std.proofs.lemmas.List.{length-map, get_or-set_same}
use Rattle.css_terms.proofs.Shown.{Shows-push, length-push}
use Rattle.std.proofs.lemmas.Option.{slice_get_within, get_or_from_slice_get}
use Rattle.std.proofs.lemmas.Bool.Decides.{nat_tests}
use Rattle.std.proofs.Math.ListN.{get_or-eq_default}
use Rattle.css_domain.specs.Shapes.{combine}
use Rattle.css_domain.specs.declared.shape.Shape.TheVariants.{Product}
use Rattle.css_domain.proofs.Ways.{SlotsAgree, combine_agrees}
use Rattle.lists.proofs.Numbers.{less_or_whole}
use Rattle.css_terms.specs.Terms.{capped}
use Rattle.css_terms.specs.Series.{Shows, Knows, ShowsTails, places}
use Rattle.css_terms.proofs.Tails.{AgreeOn, tails_agree}
use Rattle.css_terms.specs.Rows.{IsGoodRow, AreRowCounts, AllShow, AreTailsOf, AreAt, AreNear, AreLowerDone, IsExtended, flags}
use Rattle.css_terms.specs.declared.rows.Row.{Row}
use Rattle.css_terms.specs.declared.term.Term.{Term}
use Rattle.css_terms.specs.declared.term.Term.TheVariants.{Exact}
use Rattle.lists.proofs.Places.{at_place}

-- the counts as far as the series go
abbrev pub seen : List (List Term) → (ℕ → ℕ → ℕ) → ℕ → ℕ → ℕ
seen lists count c n = cond (nat_lt n (length (get_or lists c []))) (count c n) 0

within_true : (n m : ℕ) → n < m → nat_lt n m ≡ true
within_true n m h = grind (arith, nat_tests)

seen-within : (lists : List (List Term)) (count : ℕ → ℕ → ℕ) (c n : ℕ) → n < length (get_or lists c []) → seen lists count c n ≡ count c n
seen-within lists count c n h = rw (within_true n (length (get_or lists c [])) h) refl

knows_seen : (lists : List (List Term)) (count : ℕ → ℕ → ℕ) → AllShow lists count → Knows lists (seen lists count)
knows_seen lists count shown c small n = go (nat_lt n (length (get_or lists c []))) refl
  where
    go : (b : Bool) → nat_lt n (length (get_or lists c [])) ≡ b → get_or (get_or lists c []) n (Exact 0) ≡ capped (cond b (count c n) 0)
    go true e = shown c small n (grind (arith, nat_tests))
    go false e = get_or-eq_default (get_or lists c []) (Exact 0) {n = n} (grind (arith, nat_tests))

seen_zero : (lists : List (List Term)) (count : ℕ → ℕ → ℕ) (c : ℕ) → count c 0 ≡ 0 → seen lists count c 0 ≡ 0
seen_zero lists count c h = go (nat_lt 0 (length (get_or lists c [])))
  where
    go : (b : Bool) → cond b (count c 0) 0 ≡ 0
    go true = h
    go false = refl

-- they agree with the counts below m, where each series of a child has the terms below m
seen_agrees : (lists : List (List Term)) (count : ℕ → ℕ → ℕ) (m : ℕ) (ks : List ℕ) → ((slot : ℕ) → slot < length ks → m ≤ length (get_or lists (get_or ks slot 0) [])) → AgreeOn (seen lists count) count m ks
seen_agrees lists count m ks long slot i there less = let l = long slot there in seen-within lists count (get_or ks slot 0) i (omega (arith, l, less))

seen_back : (lists : List (List Term)) (count : ℕ → ℕ → ℕ) (m : ℕ) (ks : List ℕ) → ((slot : ℕ) → slot < length ks → m ≤ length (get_or lists (get_or ks slot 0) [])) → AgreeOn count (seen lists count) m ks
seen_back lists count m ks long slot i there less = sym (seen_agrees lists count m ks long slot i there less)

-- the terms of one length more, at which all series have their terms
pub tails_grow : (rows : List Row) (row : Row) (lists old new : List (List Term)) (n : ℕ) (count : ℕ → ℕ → ℕ) → IsGoodRow rows row → AreAt lists (length rows) (n + 1) → AllShow lists count → length old ≡ n → ShowsTails old n (places row.children) count
    → ((known : ℕ → ℕ → ℕ) → Knows lists known → ShowsTails old (length old) (places row.children) known → ShowsTails new (length old + 1) (places row.children) known) → ShowsTails new (n + 1) (places row.children) count
tails_grow rows row lists old new n count good at all long shown made =
    let ks = places row.children in
    let far : (slot : ℕ) → slot < length ks → n + 1 ≤ length (get_or lists (get_or ks slot 0) []) = λ slot there. let l = at.long (get_or ks slot 0) (good.below slot there) in omega (arith, l) in
    let before : ShowsTails old (length old) ks (seen lists count) = rw long (tails_agree count (seen lists count) (n + 1) old ks n (seen_back lists count (n + 1) ks far) (omega arith) shown) in
    let after : ShowsTails new (n + 1) ks (seen lists count) = subst (λ m. ShowsTails new (m + 1) ks (seen lists count)) long (made (seen lists count) (knows_seen lists count all) before) in
    tails_agree (seen lists count) count (n + 1) new ks (n + 1) (seen_agrees lists count (n + 1) ks far) (omega arith) after

-- a child by its place and its flag
child_at : (children : List (ℕ × Bool)) (slot k : ℕ) (b : Bool) → slice_get (places children) slot ≡ Some k → slice_get (flags children) slot ≡ Some b → slice_get children slot ≡ Some (k, b)
child_at [] slot k b h j = absurd cc
child_at (x ∷ xs) zero k b h j = let e : x.0 ≡ k = cc in let d : x.1 ≡ b = cc in ap Some (λ i. (e i, d i))
child_at (x ∷ xs) (suc slot) k b h j = child_at xs slot k b h j

module _ (rows : List Row) (lists : List (List Term)) (count : ℕ → ℕ → ℕ) (place n : ℕ) (row : Row) where
  slots : AreRowCounts rows count → length lists ≡ length rows → AreNear lists n → slice_get rows place ≡ Some row → IsGoodRow rows row → ((c : ℕ) (child : Row) → slice_get rows c ≡ Some child → child.rank < row.rank → n < length (get_or lists c [])) → SlotsAgree (seen lists count) count n row.shape (places row.children) (flags row.children)
  slots counts many near at good lower slot k b ka ba =
      let long = slice_get_within (places row.children) slot k ka in
      let small : k < length rows = subst (λ x. x < length rows) (get_or_from_slice_get (places row.children) slot k 0 ka) (good.below slot long) in
      let child = at_place rows k small in
      let low = (near k (omega (arith, small, many))).0 in
      let zero_at : b ≡ true → count k 0 ≡ 0 = λ t. counts.none_of_length_0 place slot k row at (child_at row.children slot k b ka ba ∙ ap (λ x. Some (k, x)) t) in
      record {
        shorter = λ m h. seen-within lists count k m (omega (arith, h, low));
        none_here = λ t. seen_zero lists count k (zero_at t);
        none_there = zero_at;
        as_long = λ t. seen-within lists count k n (lower k child.0 child.1 (good.ranks slot k child.0 ka child.1 t));
      }

  -- the term that is made of the series so far is the count of the row
  pub next_term : (tails : List (List Term)) → AreTailsOf rows row tails n → (term : Term) → AreRowCounts rows count → length lists ≡ length rows → AreNear lists n → slice_get rows place ≡ Some row → IsGoodRow rows row → ((c : ℕ) (child : Row) → slice_get rows c ≡ Some child → child.rank < row.rank → n < length (get_or lists c [])) → AllShow lists count → ((known : ℕ → ℕ → ℕ) → Knows lists known → (row.shape ≡ Product → ShowsTails tails n (places row.children) known) → term ≡ capped (combine row.shape (map known (places row.children)) n)) → term ≡ capped (count place n)
  next_term tails kept term counts many near at good lower shown made =
      let ks = places row.children in
      let far : (slot : ℕ) → slot < length ks → n ≤ length (get_or lists (get_or ks slot 0) []) = λ slot there. let inside = good.below slot there in (near (get_or ks slot 0) (omega (arith, inside, many))).0 in
      let as_many : length (places row.children) ≡ length (flags row.children) = length-map row.children (λ c. c.0) ∙ sym (length-map row.children (λ c. c.1)) in
      made (seen lists count) (knows_seen lists count shown) (λ p. tails_agree count (seen lists count) n tails ks n (seen_back lists count n ks far) (omega arith) (kept.shown count counts p))
      ∙ ap capped (combine_agrees (seen lists count) count n row.shape (places row.children) (flags row.children) as_many (slots counts many near at good lower) ∙ sym (counts.combined place n row at))

-- a list with one item replaced
at_set : {X : Type 0} (lists : List (List X)) (place c : ℕ) (v : List X) → place < length lists → ((c ≡ place) × (get_or (slice_set lists place v) c [] ≡ v)) ⊎ (get_or (slice_set lists place v) c [] ≡ get_or lists c [])
at_set [] place c v h = absurd (omega (arith, h))
at_set (x ∷ lists) zero zero v h = inl (refl, refl)
at_set (x ∷ lists) zero (suc c) v h = inr refl
at_set (x ∷ lists) (suc place) zero v h = inr refl
at_set (x ∷ lists) (suc place) (suc c) v h = ⊎_elim (λ p. inl (ap suc p.0, p.1)) (λ e. inr e) (at_set lists place c v (omega (arith, h)))

pub length-slice_set : {X : Type 0} (lists : List X) (place : ℕ) (v : X) → length (slice_set lists place v) ≡ length lists
length-slice_set [] place v = refl
length-slice_set (x ∷ lists) zero v = refl
length-slice_set (x ∷ lists) (suc place) v = ap suc (length-slice_set lists place v)

-- the tails of one row more have their next terms
pub tails_set : (rows : List Row) (row : Row) (old : List (List (List Term))) (new : List (List Term)) (place n : ℕ) → length old ≡ length rows → place < length rows → slice_get rows place ≡ Some row → AreTailsOf rows row new (n + 1)
    → ((c : ℕ) (r : Row) → slice_get rows c ≡ Some r → c < place → AreTailsOf rows r (get_or old c []) (n + 1)) → ((c : ℕ) (r : Row) → slice_get rows c ≡ Some r → place ≤ c → AreTailsOf rows r (get_or old c []) n)
    → ((c : ℕ) (r : Row) → slice_get rows c ≡ Some r → c < place + 1 → AreTailsOf rows r (get_or (slice_set old place new) c []) (n + 1)) × ((c : ℕ) (r : Row) → slice_get rows c ≡ Some r → place + 1 ≤ c → AreTailsOf rows r (get_or (slice_set old place new) c []) n)
tails_set rows row old new place n many inside at now before after = (
  λ c r there small.
      ⊎_elim {C = AreTailsOf rows r (get_or (slice_set old place new) c []) (n + 1)}
      (λ less. ⊎_elim {C = AreTailsOf rows r (get_or (slice_set old place new) c []) (n + 1)} (λ q. let same = q.0 in absurd (omega (arith, less, same))) (λ e. rw e (before c r there less)) (at_set old place c new (omega (arith, inside, many))))
      (λ same. let own : row ≡ r = (let s = subst (λ x. slice_get rows x ≡ Some r) same there in cc) in
      rw (same, get_or-set_same old place new [] (omega (arith, inside, many))) (subst (λ x. AreTailsOf rows x new (n + 1)) own now))
      (less_or_whole c place (omega (arith, small))),
  λ c r there large.
      ⊎_elim {C = AreTailsOf rows r (get_or (slice_set old place new) c []) n} (λ q. let same = q.0 in absurd (omega (arith, large, same))) (λ e. rw e (after c r there (omega (arith, large)))) (at_set old place c new (omega (arith, inside, many))),
)

module _ (rows : List Row) (lists : List (List Term)) (place n : ℕ) (row : Row) (term : Term) (many : length lists ≡ length rows) (near : AreNear lists n) (inside : place < length lists) (short : length (get_or lists place []) ≤ n) where
  grown : length (get_or lists place [] ++ term ∷ []) ≡ length (get_or lists place []) + 1
  grown = length-push (get_or lists place []) term

  still_near : AreNear (slice_set lists place (get_or lists place [] ++ term ∷ [])) n
  still_near c small =
      let l = length-slice_set lists place (get_or lists place [] ++ term ∷ []) in
      ⊎_elim {C = (n ≤ length (get_or (slice_set lists place (get_or lists place [] ++ term ∷ [])) c [])) × (length (get_or (slice_set lists place (get_or lists place [] ++ term ∷ [])) c []) ≤ n + 1)}
      (λ p. let q = near place inside in rw p.1 (omega (arith, grown, q.0, short), omega (arith, grown, q.0, short)))
      (λ e. rw e (near c (omega (arith, small, l))))
      (at_set lists place c (get_or lists place [] ++ term ∷ []) inside)

  there_now : n < length (get_or (slice_set lists place (get_or lists place [] ++ term ∷ [])) place [])
  there_now =
      let q = near place inside in
      rw (get_or-set_same lists place (get_or lists place [] ++ term ∷ []) [] inside) (omega (arith, grown, q.0))

  kept_all : (c : ℕ) → length (get_or lists c []) ≤ length (get_or (slice_set lists place (get_or lists place [] ++ term ∷ [])) c [])
  kept_all c =
      ⊎_elim {C = length (get_or lists c []) ≤ length (get_or (slice_set lists place (get_or lists place [] ++ term ∷ [])) c [])}
      (λ p. rw (p.1, p.0) (omega (arith, grown))) (λ e. rw e (omega arith)) (at_set lists place c (get_or lists place [] ++ term ∷ []) inside)

  all_show : (count : ℕ → ℕ → ℕ) → AllShow lists count → term ≡ capped (count place n) → AllShow (slice_set lists place (get_or lists place [] ++ term ∷ [])) count
  all_show count shown e c small =
      let l = length-slice_set lists place (get_or lists place [] ++ term ∷ []) in
      let q = near place inside in
      let full : n ≡ length (get_or lists place []) = omega (arith, q.0, short) in
      ⊎_elim {C = Shows (get_or (slice_set lists place (get_or lists place [] ++ term ∷ [])) c []) (count c)}
      (λ p. subst (λ s. Shows s (count c)) (sym p.1) (subst (λ d. Shows (get_or lists place [] ++ term ∷ []) (count d)) (sym p.0)
      (Shows-push (get_or lists place []) term (count place) (shown place inside) (e ∙ ap (λ m. capped (count place m)) full))))
      (λ same. subst (λ s. Shows s (count c)) (sym same) (shown c (omega (arith, small, l))))
      (at_set lists place c (get_or lists place [] ++ term ∷ []) inside)

  pub extended : (tails : List (List Term)) → AreTailsOf rows row tails n → slice_get rows place ≡ Some row → IsGoodRow rows row → AreLowerDone rows lists place n → ((known : ℕ → ℕ → ℕ) → Knows lists known → (row.shape ≡ Product → ShowsTails tails n (places row.children) known) → term ≡ capped (combine row.shape (map known (places row.children)) n)) → IsExtended rows lists (slice_set lists place (get_or lists place [] ++ term ∷ [])) place n
  extended tails kept at good lower made =
      record {
        as_many = length-slice_set lists place (get_or lists place [] ++ term ∷ []) ∙ many;
        near = still_near;
        there = there_now;
        kept = kept_all;
        shown = λ count counts shown. all_show count shown (next_term rows lists count place n row tails kept term counts many near at good (λ c child h less. lower row child c at h less) shown made);
      }
