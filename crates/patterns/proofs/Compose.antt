-- Occurrences compose, and parts join.
use Rattle.std.proofs.Common.{◌≡◌, ℕ, Bool, true, false, List, [], ◌∷◌, refl}
use Rattle.std.specs.Prelude.{◌&&◌, nat_lt}
use Rattle.std.specs.Bool.{beq}
use Rattle.std.proofs.lemmas.Bool.{and_parts, and_from}
use Rattle.lists.specs.Parts.IsPart.{none, kept, left_out}
use Rattle.lists.specs.Parts.{IsPart}
use Rattle.lists.proofs.Parts.{IsPart-trans}
use Rattle.patterns.specs.Occurs.{stand_alike, stands_as, is_match, Occurs}
use Rattle.patterns.proofs.Occurrences.{match_tells, match_from}

beq_trans : (p q r : Bool) → beq p q ≡ true → beq q r ≡ true → beq p r ≡ true
beq_trans true true r e f = f
beq_trans false false r e f = f
beq_trans true false r e f = absurd cc
beq_trans false true r e f = absurd cc

alike_trans : (x a u y b v : ℕ) → stand_alike x a y b ≡ true → stand_alike a u b v ≡ true → stand_alike x u y v ≡ true
alike_trans x a u y b v e f =
    let h = and_parts (beq (nat_lt x y) (nat_lt a b)) (beq (nat_lt y x) (nat_lt b a)) e in
    let k = and_parts (beq (nat_lt a b) (nat_lt u v)) (beq (nat_lt b a) (nat_lt v u)) f in
    and_from (beq (nat_lt x y) (nat_lt u v)) (beq (nat_lt y x) (nat_lt v u)) (beq_trans (nat_lt x y) (nat_lt a b) (nat_lt u v) h.0 k.0) (beq_trans (nat_lt y x) (nat_lt b a) (nat_lt v u) h.1 k.1)

module _ {X : Type 0} (letter : X → ℕ) (same : X → X → Bool) where
  -- what is matched with a part of a pattern
  abbrev PartOfMatch : List X → List X → List X → Type 0
  PartOfMatch s q t =
      (t' : List X) × IsPart t' s × (is_match letter same t' t ≡ true) × ((z c : X) → stands_as letter same z c s q ≡ true → stands_as letter same z c t' t ≡ true)

  part_of_match : (s q : List X) {t : List X} → is_match letter same s q ≡ true → IsPart t q → PartOfMatch s q t
  part_of_match [] [] e none = ([], none, refl, (λ z c h. refl))
  part_of_match (x ∷ s) [] e h = absurd cc
  part_of_match [] (a ∷ q) e h = absurd cc
  part_of_match (x ∷ s) (a ∷ q) e (kept {part} _ h) =
      let k = and_parts (same x a) (stands_as letter same x a s q && is_match letter same s q) e in
      let l = and_parts (stands_as letter same x a s q) (is_match letter same s q) k.1 in
      let ih = part_of_match s q l.1 h in (
        x ∷ ih.0,
        kept x ih.1,
        and_from (same x a) (stands_as letter same x a ih.0 part && is_match letter same ih.0 part) k.0 (and_from (stands_as letter same x a ih.0 part) (is_match letter same ih.0 part) (ih.3 x a l.0) ih.2),
        (λ z c m. let n = and_parts (stand_alike (letter z) (letter c) (letter x) (letter a)) (stands_as letter same z c s q) m in
            and_from (stand_alike (letter z) (letter c) (letter x) (letter a)) (stands_as letter same z c ih.0 part) n.0 (ih.3 z c n.1)),
      )
  part_of_match (x ∷ s) (a ∷ q) e (left_out _ h) =
      let k = and_parts (same x a) (stands_as letter same x a s q && is_match letter same s q) e in
      let l = and_parts (stands_as letter same x a s q) (is_match letter same s q) k.1 in
      let ih = part_of_match s q l.1 h in
      (ih.0, left_out x ih.1, ih.2, (λ z c m. ih.3 z c (and_parts (stand_alike (letter z) (letter c) (letter x) (letter a)) (stands_as letter same z c s q) m).1))

  stands_trans : (x a u : X) (s t p : List X) → stands_as letter same x a s t ≡ true → stands_as letter same a u t p ≡ true → stands_as letter same x u s p ≡ true
  stands_trans x a u [] [] [] e f = refl
  stands_trans x a u [] [] (w ∷ p) e f = absurd cc
  stands_trans x a u [] (b ∷ t) p e f = absurd cc
  stands_trans x a u (y ∷ s) [] p e f = absurd cc
  stands_trans x a u (y ∷ s) (b ∷ t) [] e f = absurd cc
  stands_trans x a u (y ∷ s) (b ∷ t) (v ∷ p) e f =
      let h = and_parts (stand_alike (letter x) (letter a) (letter y) (letter b)) (stands_as letter same x a s t) e in
      let k = and_parts (stand_alike (letter a) (letter u) (letter b) (letter v)) (stands_as letter same a u t p) f in
      and_from (stand_alike (letter x) (letter u) (letter y) (letter v)) (stands_as letter same x u s p) (alike_trans (letter x) (letter a) (letter u) (letter y) (letter b) (letter v) h.0 k.0) (stands_trans x a u s t p h.1 k.1)

  match_trans : ((x y z : X) → same x y ≡ true → same y z ≡ true → same x z ≡ true) → (s t p : List X) → is_match letter same s t ≡ true → is_match letter same t p ≡ true → is_match letter same s p ≡ true
  match_trans tr [] [] p e f = f
  match_trans tr [] (b ∷ t) p e f = absurd cc
  match_trans tr (y ∷ s) [] p e f = absurd cc
  match_trans tr (y ∷ s) (b ∷ t) [] e f = absurd cc
  match_trans tr (y ∷ s) (b ∷ t) (v ∷ p) e f =
      let h = and_parts (same y b) (stands_as letter same y b s t && is_match letter same s t) e in
      let h' = and_parts (stands_as letter same y b s t) (is_match letter same s t) h.1 in
      let k = and_parts (same b v) (stands_as letter same b v t p && is_match letter same t p) f in
      let k' = and_parts (stands_as letter same b v t p) (is_match letter same t p) k.1 in
      and_from (same y v) (stands_as letter same y v s p && is_match letter same s p) (tr y b v h.0 k.0) (and_from (stands_as letter same y v s p) (is_match letter same s p) (stands_trans y b v s t p h'.0 k'.0) (match_trans tr s t p h'.1 k'.1))

  pub Occurs-trans : ((x y z : X) → same x y ≡ true → same y z ≡ true → same x z ≡ true) → (g q p : List X) → Occurs letter same g q → Occurs letter same q p → Occurs letter same g p
  Occurs-trans tr g q p h k =
      let w = part_of_match h.points q (match_from letter same h.points q (record { order = h.order; fit = h.fit })) k.chosen in
      let m = match_tells letter same w.0 p (match_trans tr w.0 k.points p w.2 (match_from letter same k.points p (record { order = k.order; fit = k.fit }))) in
      record { points = w.0; chosen = IsPart-trans w.1 h.chosen; order = m.order; fit = m.fit }
