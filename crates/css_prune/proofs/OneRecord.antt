-- One record more in a round: it gives a rank, becomes the pick, or is skipped.
use Rattle.std.proofs.Common.{◌≡◌, ℕ, suc, ◌<◌, ◌≤◌, Bool, true, false, nat_lt, List, [], ◌∷◌, ◌++◌, length, refl, sym, ap, subst, ◌∙◌, inl, inr, ⊎_elim, arith, get_or-set_other}
use Rattle.std.specs.Prelude.{◌&&◌, ◌||◌, ◌⊎◌, ◌==◌, ◌≢◌, not, nat_le, slice_get, slice_set, slice_index, Some}
use Rattle.std.specs.List.{list_all}
use Rattle.std.proofs.lemmas.Bool.{eqb-true, eq-eqb, and_parts}
use Rattle.std.proofs.lemmas.Bool.Decides.{nat_tests}
use Rattle.std.proofs.lemmas.Grind.{get_or-set_at}
use Rattle.css_domain.specs.declared.record.Record.{Record}
use Rattle.css_domain.specs.Records.{numbers}
use Rattle.css_domain.specs.Standing.{gives, is_ranked, each_same_length}
use Rattle.css_prune.specs.Marks.{gives_next, gives_mark, has_rank_below, is_passed, IsGiven, IsBetter, IsSkipped}
use Rattle.css_prune.specs.InRound.{IsEarlier, IsUnmarked, IsNewly, AreUnder, IsTried, IsRun}
use Rattle.css_prune.proofs.Marks.{rank_some}
use Rattle.css_prune.proofs.Steps.{same_or_other}
use Rattle.lists.specs.Members.{IsIn}
use Rattle.lists.specs.Members.IsIn.{here, later}
use Rattle.lists.proofs.Members.{IsIn-append_left, IsIn-append_right, IsIn-append_cases}

pub passed_parts : (end place rank pick : ℕ) → is_passed end place rank pick ≡ true → (0 < rank) × (rank ≡ end → pick ≤ place)
passed_parts end place rank pick h = let a = and_parts (nat_lt 0 rank) (not (rank == end) || nat_le pick place) h in ((let e = a.0 in grind (arith, nat_tests)), λ s. go (nat_le pick place) refl (subst (λ b. (not b || nat_le pick place) ≡ true) (eq-eqb rank end s) a.1))
  where
    go : (b : Bool) → nat_le pick place ≡ b → nat_le pick place ≡ true → pick ≤ place
    go b f e = grind (arith, nat_tests)

pub not_passed : (end place rank pick : ℕ) → rank ≢ 0 → is_passed end place rank pick ≡ false → (rank ≡ end) × (place < pick)
not_passed end place rank pick some h = go (nat_lt 0 rank) (rank == end) (nat_le pick place) refl refl refl h
  where
    go : (a b c : Bool) → nat_lt 0 rank ≡ a → (rank == end) ≡ b → nat_le pick place ≡ c → (a && (not b || c)) ≡ false → (rank ≡ end) × (place < pick)
    go false b c e f g k = absurd (some (let z : rank ≡ 0 = grind (arith, nat_tests) in z))
    go true false c e f g k = absurd cc
    go true true true e f g k = absurd cc
    go true true false e f g k = (eqb-true rank end f, (let z : place < pick = grind (arith, nat_tests) in z))

not_nil : (xs : List ℕ) (y : ℕ) → xs ++ y ∷ [] ≡ [] → ⊥
not_nil [] y e = absurd cc
not_nil (x ∷ xs) y e = absurd cc

only_one : (c d : ℕ) → IsIn c (d ∷ []) → c ≡ d
only_one c _ here = refl
only_one c d (later _ i) = elim i [ ]

module _ (K : ℕ → Bool) (records : List Record) (n classes : ℕ) (ranks picks next : List ℕ) (u : AreUnder K records n classes ranks picks next) where
  is_below : (d : ℕ) → has_rank_below (suc n) ranks d ≡ is_ranked K records n d
  is_below d = go (is_ranked K records n d) refl
    where
      other : IsUnmarked K records n ranks picks d ⊎ IsNewly K records n ranks picks d → has_rank_below (suc n) ranks d ≡ false
      other (inl w) = let e = w.rank in let z : nat_lt 0 (slice_index ranks d) ≡ false = grind (arith, nat_tests) in rw z refl
      other (inr w) = rw w.rank (grind (arith, nat_tests))

      go : (b : Bool) → is_ranked K records n d ≡ b → has_rank_below (suc n) ranks d ≡ b
      go true f =
          let e = (u.earlier d f).rank in
          let s = rank_some K records n d f in
          let more : 0 < slice_index ranks d = omega (arith, e, s.0) in
          let less : slice_index ranks d < suc n = omega (arith, e, s.1) in
          let x : nat_lt 0 (slice_index ranks d) ≡ true = grind (arith, nat_tests) in
          let y : nat_lt (slice_index ranks d) (suc n) ≡ true = grind (arith, nat_tests) in
          rw (x, y) refl
      go false f = other (u.other d f)

  -- a class without this round's rank or an earlier one isn't ranked yet
  not_yet : (c : ℕ) → (slice_index ranks c ≡ 0) ⊎ (slice_index ranks c ≡ suc n) → is_ranked K records n c ≡ false
  not_yet c h = go (is_ranked K records n c) refl h
    where
      go : (b : Bool) → is_ranked K records n c ≡ b → (slice_index ranks c ≡ 0) ⊎ (slice_index ranks c ≡ suc n) → is_ranked K records n c ≡ false
      go true f (inl e) = absurd (let s = rank_some K records n c f in let o = (u.earlier c f).rank in omega (arith, s.0, o, e))
      go true f (inr e) = absurd (let s = rank_some K records n c f in let o = (u.earlier c f).rank in omega (arith, s.1, o, e))
      go false f h = f

  module _ (i : ℕ) (r : Record) (at : slice_get records i ≡ Some r) where
    -- the test by the ranks so far is that by the rounds before
    same_gift : gives_mark K (suc n) ranks r ≡ gives_next K records n r.parent r
    same_gift =
        let below : has_rank_below (suc n) ranks ≡ (λ (d : ℕ). is_ranked K records n d) = λ j d. is_below d j in
        ap (λ (f : ℕ → Bool). K r.parent && (list_all K (numbers r) && each_same_length r f)) below
        ∙ sym (ap (λ b. K r.parent && (b && (list_all K (numbers r) && each_same_length r (λ d. is_ranked K records n d)))) (eq-eqb r.parent r.parent refl))

    -- what the record gives a rank is its parent
    own : (c : ℕ) → gives_next K records n c r ≡ true → r.parent ≡ c
    own c g =
        let a = and_parts (K c) (gives K records (λ d. is_ranked K records n d) c r) g in
        let b = and_parts (r.parent == c) (list_all K (numbers r) && each_same_length r (λ d. is_ranked K records n d)) a.1 in
        eqb-true r.parent c b.0

    -- only this record stands at its place
    alone : (p : ℕ) (s : Record) → p ≡ i → slice_get records p ≡ Some s → r ≡ s
    alone p s e h = let f : slice_get records i ≡ Some s = subst (λ q. slice_get records q ≡ Some s) e h in cc

    tried_here : (new_ranks new_picks : List ℕ) → (is_ranked K records n r.parent ≡ false → gives_next K records n r.parent r ≡ true → (slice_index new_ranks r.parent ≡ suc n) × (slice_index new_picks r.parent ≤ i)) → (p : ℕ) → p ≡ i → IsTried K records n new_ranks new_picks p
    tried_here new_ranks new_picks f p e c s h none g =
        let same = alone p s e h in
        let g2 : gives_next K records n c r ≡ true = subst (λ (q : Record). gives_next K records n c q ≡ true) (sym same) g in
        let o = own c g2 in
        let x = f (subst (λ d. is_ranked K records n d ≡ false) (sym o) none) (subst (λ d. gives_next K records n d r ≡ true) (sym o) g2) in
        subst (λ d. (slice_index new_ranks d ≡ suc n) × (slice_index new_picks d ≤ p)) o (x.0, omega (arith, x.1, e))

    pub skipped : (new_ranks new_picks : List ℕ) → IsSkipped K (suc n) i r ranks picks new_ranks new_picks → IsRun K records n classes (λ p. p ≡ i) ranks picks next new_ranks new_picks next
    skipped new_ranks new_picks s =
        rw (s.ranks, s.picks) (record { under = u; onward = record { grown = λ c f e. (e, omega arith); same = λ e. (refl, e) }; tried = tried_here ranks picks (λ f g. go f g s.why (u.other r.parent f)) })
      where
        go : is_ranked K records n r.parent ≡ false → gives_next K records n r.parent r ≡ true → (is_passed (suc n) i (slice_index ranks r.parent) (slice_index picks r.parent) ≡ true) ⊎ (gives_mark K (suc n) ranks r ≡ false) → IsUnmarked K records n ranks picks r.parent ⊎ IsNewly K records n ranks picks r.parent → (slice_index ranks r.parent ≡ suc n) × (slice_index picks r.parent ≤ i)
        go f g (inr not_given) o = absurd (let z = same_gift in cc)
        go f g (inl done) (inl w) = absurd (let x = passed_parts (suc n) i (slice_index ranks r.parent) (slice_index picks r.parent) done in omega (arith, x.0, w.rank))
        go f g (inl done) (inr w) = let x = passed_parts (suc n) i (slice_index ranks r.parent) (slice_index picks r.parent) done in (w.rank, x.1 w.rank)

    module _ (in_picks : r.parent < length picks) where
      set_here : (c : ℕ) → c ≡ r.parent → slice_index (slice_set picks r.parent i) c ≡ i
      set_here c e = get_or-set_at picks r.parent c i 0 e in_picks

      set_other : (c : ℕ) → c ≢ r.parent → slice_index (slice_set picks r.parent i) c ≡ slice_index picks c
      set_other c o = get_or-set_other picks r.parent c i 0 o

      newly_here : (rs : List ℕ) (c : ℕ) → c ≡ r.parent → slice_index rs c ≡ suc n → gives_mark K (suc n) ranks r ≡ true → IsNewly K records n rs (slice_set picks r.parent i) c
      newly_here rs c e k g =
          record {
            rank = k;
            by_record = r;
            at = subst (λ q. slice_get records q ≡ Some r) (sym (set_here c e)) at;
            gives = subst (λ d. gives_next K records n d r ≡ true) (sym e) (sym same_gift ∙ g);
          }

      kept_other : (rs : List ℕ) (c : ℕ) → c ≢ r.parent → slice_index rs c ≡ slice_index ranks c → IsUnmarked K records n ranks picks c ⊎ IsNewly K records n ranks picks c → IsUnmarked K records n rs (slice_set picks r.parent i) c ⊎ IsNewly K records n rs (slice_set picks r.parent i) c
      kept_other rs c o k (inl w) = inl (record { rank = k ∙ w.rank; pick = set_other c o ∙ w.pick })
      kept_other rs c o k (inr w) = inr (record { rank = k ∙ w.rank; by_record = w.by_record; at = subst (λ q. slice_get records q ≡ Some w.by_record) (sym (set_other c o)) w.at; gives = w.gives })

      kept_earlier : (rs : List ℕ) (c : ℕ) → c ≢ r.parent → slice_index rs c ≡ slice_index ranks c → IsEarlier K records n ranks picks c → IsEarlier K records n rs (slice_set picks r.parent i) c
      kept_earlier rs c o k w = record { rank = k ∙ w.rank; pick = set_other c o ∙ w.pick }

      differs : (c : ℕ) → is_ranked K records n r.parent ≡ false → is_ranked K records n c ≡ true → c ≢ r.parent
      differs c f e s = absurd (let g : is_ranked K records n r.parent ≡ true = subst (λ d. is_ranked K records n d ≡ true) s e in cc)

      pub better : (new_ranks new_picks : List ℕ) → IsBetter K (suc n) i r ranks picks new_ranks new_picks → IsRun K records n classes (λ p. p ≡ i) ranks picks next new_ranks new_picks next
      better new_ranks new_picks s =
          rw (s.ranks, s.picks)
          (record {
            under = record {
              earlier = λ c e. let o = differs c none e in kept_earlier ranks c o refl (u.earlier c e);
              other = λ c e. ⊎_elim {C = IsUnmarked K records n ranks (slice_set picks r.parent i) c ⊎ IsNewly K records n ranks (slice_set picks r.parent i) c} (λ same. inr (newly_here ranks c same (subst (λ d. slice_index ranks d ≡ suc n) (sym same) parts.0) s.gives)) (λ o. kept_other ranks c o refl (u.other c e)) (same_or_other c r.parent);
              listed = u.listed;
              small = u.small;
            };
            onward = record {
              grown = λ c f e. (e, ⊎_elim {C = slice_index (slice_set picks r.parent i) c ≤ slice_index picks c} (λ same. let k = set_here c same in let m = ap (λ d. slice_index picks d) same in omega (arith, k, m, parts.1)) (λ o. let k = set_other c o in omega (arith, k)) (same_or_other c r.parent));
              same = λ e. (refl, e);
            };
            tried = tried_here ranks (slice_set picks r.parent i) (λ f g. (parts.0, let k = set_here r.parent refl in omega (arith, k)));
          })
        where
          parts : (slice_index ranks r.parent ≡ suc n) × (i < slice_index picks r.parent)
          parts = not_passed (suc n) i (slice_index ranks r.parent) (slice_index picks r.parent) s.some s.later

          none : is_ranked K records n r.parent ≡ false
          none = not_yet r.parent (inr parts.0)

      module _ (in_ranks : r.parent < length ranks) (small : r.parent < classes) where
        ranked_here : (c : ℕ) → c ≡ r.parent → slice_index (slice_set ranks r.parent (suc n)) c ≡ suc n
        ranked_here c e = get_or-set_at ranks r.parent c (suc n) 0 e in_ranks

        ranked_other : (c : ℕ) → c ≢ r.parent → slice_index (slice_set ranks r.parent (suc n)) c ≡ slice_index ranks c
        ranked_other c o = get_or-set_other ranks r.parent c (suc n) 0 o

        pub given : (new_ranks new_picks : List ℕ) → IsGiven K (suc n) i r ranks picks new_ranks new_picks → IsRun K records n classes (λ p. p ≡ i) ranks picks next new_ranks new_picks (next ++ r.parent ∷ [])
        given new_ranks new_picks s =
            rw (s.ranks, s.picks)
            (record {
              under = record {
                earlier = λ c e. let o = differs c none e in kept_earlier (slice_set ranks r.parent (suc n)) c o (ranked_other c o) (u.earlier c e);
                other = λ c e. ⊎_elim {C = IsUnmarked K records n (slice_set ranks r.parent (suc n)) (slice_set picks r.parent i) c ⊎ IsNewly K records n (slice_set ranks r.parent (suc n)) (slice_set picks r.parent i) c} (λ same. inr (newly_here (slice_set ranks r.parent (suc n)) c same (ranked_here c same) s.gives)) (λ o. kept_other (slice_set ranks r.parent (suc n)) c o (ranked_other c o) (u.other c e)) (same_or_other c r.parent);
                listed = λ c e. ⊎_elim {C = IsIn c (next ++ r.parent ∷ [])} (λ same. IsIn-append_right next (subst (λ d. IsIn c (d ∷ [])) same here)) (λ o. IsIn-append_left (r.parent ∷ []) (u.listed c (sym (ranked_other c o) ∙ e))) (same_or_other c r.parent);
                small = λ c m. ⊎_elim {C = c < classes} (u.small c) (λ k. let e = only_one c r.parent k in omega (arith, e, small)) (IsIn-append_cases next (r.parent ∷ []) m);
              };
              onward = record {
                grown = λ c f e. ⊎_elim {C = (slice_index (slice_set ranks r.parent (suc n)) c ≡ suc n) × (slice_index (slice_set picks r.parent i) c ≤ slice_index picks c)} (λ same. absurd (let m = ap (λ d. slice_index ranks d) same in omega (arith, m, e, s.none))) (λ o. let k = set_other c o in (ranked_other c o ∙ e, omega (arith, k))) (same_or_other c r.parent);
                same = λ e. absurd (not_nil next r.parent e);
              };
              tried = tried_here (slice_set ranks r.parent (suc n)) (slice_set picks r.parent i) (λ f g. (ranked_here r.parent refl, let k = set_here r.parent refl in omega (arith, k)));
            })
          where
            none : is_ranked K records n r.parent ≡ false
            none = not_yet r.parent (inl s.none)
