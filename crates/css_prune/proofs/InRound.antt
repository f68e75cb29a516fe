-- A round's records in whatever order: its beginning, one record more, runs put together, and its end.
use Rattle.std.proofs.Common.{◌≡◌, ℕ, suc, ◌<◌, ◌≤◌, Bool, true, false, List, [], length, refl, sym, ◌∙◌, inl, inr, ⊎_elim, arith}
use Rattle.std.specs.Prelude.{◌⊎◌, slice_get, slice_index, Some}
use Rattle.std.proofs.lemmas.Bool.{cases_lt}
use Rattle.css_domain.specs.declared.record.Record.{Record}
use Rattle.css_domain.specs.Standing.{is_ranked}
use Rattle.css_prune.specs.Marks.{gives_next, giver, rank_after, pick_after, AreAfter}
use Rattle.css_prune.specs.InRound.{IsUnmarked, IsNewly, AreUnder, IsTried, IsRun}
use Rattle.css_prune.proofs.Marks.{old_mark, new_mark, no_mark, giver_gives, giver_not_past, rank_some, rank_none, pick_none}
use Rattle.lists.proofs.Places.{at_place}
use Rattle.std.proofs.lemmas.Option.{slice_get_within}

module _ (K : ℕ → Bool) (records : List Record) (n classes : ℕ) where
  abbrev Under : List ℕ → List ℕ → List ℕ → Type 0
  Under ranks picks next = AreUnder K records n classes ranks picks next

  abbrev Run : (ℕ → Type 0) → List ℕ → List ℕ → List ℕ → List ℕ → List ℕ → List ℕ → Type 0
  Run Among ranks picks next new_ranks new_picks new_next = IsRun K records n classes Among ranks picks next new_ranks new_picks new_next

  -- a round begins with the marks of the one before, and with nothing listed
  pub begins : (ranks picks : List ℕ) → AreAfter K records n ranks picks → Under ranks picks []
  begins ranks picks a =
      record {
        earlier = λ c e. record { rank = a.ranked c; pick = a.picked c };
        other = λ c e. inl (record { rank = a.ranked c ∙ rank_none K records n c e; pick = a.picked c ∙ pick_none K records n c e });
        listed = λ c e. absurd (go c e (is_ranked K records n c) refl);
        small = λ c i. elim i [ ];
      }
    where
      go : (c : ℕ) → slice_index ranks c ≡ suc n → (b : Bool) → is_ranked K records n c ≡ b → ⊥
      go c e true f = let s = rank_some K records n c f in omega (arith, e, a.ranked c, s.1)
      go c e false f = let s = rank_none K records n c f in omega (arith, e, a.ranked c, s)

  -- no record tried
  pub nothing_tried : (ranks picks next : List ℕ) → Under ranks picks next → (Among : ℕ → Type 0) → ((p : ℕ) → Among p → ⊥) → Run Among ranks picks next ranks picks next
  nothing_tried ranks picks next u Among none = record { under = u; onward = record { grown = λ c f e. (e, omega arith); same = λ e. (refl, e) }; tried = λ p t. absurd (none p t) }

  -- one run after another
  pub put_together : (A B C : ℕ → Type 0) → ((p : ℕ) → C p → A p ⊎ B p) → (r0 p0 n0 r1 p1 n1 r2 p2 n2 : List ℕ) → Run A r0 p0 n0 r1 p1 n1 → Run B r1 p1 n1 r2 p2 n2 → Run C r0 p0 n0 r2 p2 n2
  put_together A B C split r0 p0 n0 r1 p1 n1 r2 p2 n2 a b =
      record {
        under = b.under;
        onward = record {
          grown = λ c f e. let x = a.onward.grown c f e in let y = b.onward.grown c f x.0 in (y.0, omega (arith, x.1, y.1));
          same = λ e. let y = b.onward.same e in let x = a.onward.same y.1 in (y.0 ∙ x.0, x.1);
        };
        tried = λ p t.
            ⊎_elim {C = IsTried K records n r2 p2 p}
            (λ s c r at f g. let x = a.tried p s c r at f g in let y = b.onward.grown c f x.0 in (y.0, omega (arith, x.1, y.1)))
            (λ s. b.tried p s)
            (split p t);
      }

  -- fewer places
  pub fewer : (A C : ℕ → Type 0) → ((p : ℕ) → C p → A p) → (r0 p0 n0 r1 p1 n1 : List ℕ) → Run A r0 p0 n0 r1 p1 n1 → Run C r0 p0 n0 r1 p1 n1
  fewer A C f r0 p0 n0 r1 p1 n1 a = record { under = a.under; onward = a.onward; tried = λ p t. a.tried p (f p t) }

  -- the round's end: every record that gives a rank was tried
  module _ (ranks picks next : List ℕ) (u : Under ranks picks next) (tried : (c p : ℕ) (r : Record) → slice_get records p ≡ Some r → is_ranked K records n c ≡ false → gives_next K records n c r ≡ true → IsTried K records n ranks picks p) where
    abbrev Both : ℕ → Type 0
    Both c = (slice_index ranks c ≡ rank_after K records (suc n) c) × (slice_index picks c ≡ pick_after K records (suc n) c)

    within : (c i : ℕ) → is_ranked K records n c ≡ false → giver K records n c ≡ i → i < length records → (slice_index ranks c ≡ suc n) × (slice_index picks c ≤ i)
    within c i f e l =
        let a = at_place records i l in
        let g = giver_gives K records n i c a.0 a.1 e in
        tried c i a.0 a.1 f g c a.0 a.1 f g

    marked : (c : ℕ) → is_ranked K records n c ≡ false → giver K records n c < length records → IsNewly K records n ranks picks c → Both c
    marked c f l w =
        let x = within c (giver K records n c) f refl l in
        let y = giver_not_past K records n (slice_index picks c) c w.by_record w.at w.gives in
        let e : slice_index picks c ≡ giver K records n c = omega (arith, x.1, y) in (
          x.0 ∙ sym (new_mark K records n (length records) c (rank_after K records n c) (suc n) f l),
          e ∙ sym (new_mark K records n (length records) c (pick_after K records n c) (giver K records n c) f l),
        )

    go : (c : ℕ) → is_ranked K records n c ≡ false → IsUnmarked K records n ranks picks c ⊎ IsNewly K records n ranks picks c → (giver K records n c < length records) ⊎ (length records ≤ giver K records n c) → Both c
    go c f (inl none) (inl l) = absurd (let x = within c (giver K records n c) f refl l in omega (arith, x.0, none.rank))
    go c f (inl none) (inr p) = (none.rank ∙ sym (no_mark K records n (length records) c (rank_after K records n c) (suc n) f p), none.pick ∙ sym (no_mark K records n (length records) c (pick_after K records n c) (giver K records n c) f p))
    go c f (inr w) (inl l) = marked c f l w
    go c f (inr w) (inr p) = absurd (let y = giver_not_past K records n (slice_index picks c) c w.by_record w.at w.gives in let z = slice_get_within records (slice_index picks c) w.by_record w.at in omega (arith, y, z, p))

    both : (c : ℕ) (b : Bool) → is_ranked K records n c ≡ b → Both c
    both c true f = let x = u.earlier c f in (x.rank ∙ sym (old_mark K records n (length records) c (rank_after K records n c) (suc n) f), x.pick ∙ sym (old_mark K records n (length records) c (pick_after K records n c) (giver K records n c) f))
    both c false f = go c f (u.other c f) (cases_lt (giver K records n c) (length records))

    pub ends : AreAfter K records (suc n) ranks picks
    ends = record { ranked = λ c. (both c (is_ranked K records n c) refl).0; picked = λ c. (both c (is_ranked K records n c) refl).1 }
