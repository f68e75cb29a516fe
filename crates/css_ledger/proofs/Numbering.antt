-- Numbers of what was added stay, and the list can be cut back.
use Rattle.std.proofs.Common.{◌≡◌, ℕ, zero, suc, ◌+◌, ◌≤◌, Bool, true, List, [], ◌∷◌, ◌++◌, length, take, drop, get_or, append_assoc, length-append, sym, ap, subst, ◌∙◌, arith, append-nil}
use Rattle.std.specs.Prelude.{map, flat_map, slice_get, Some, Result, Ok, Err, OnErr}
use Rattle.std.specs.List.{list_any}
use Rattle.std.proofs.lemmas.List.{map-append, length-take, take-append-drop}
use Rattle.std.proofs.lemmas.List.Folds.{length-flat_map-take}
use Rattle.std.proofs.lemmas.Option.{slice_get_within, get_or_from_slice_get}
use Rattle.std.proofs.lemmas.Grind.{flat_map-append}
use Rattle.std.proofs.Math.Seq.{take-append_seam}
use Rattle.css_domain.specs.declared.record.Record.{Record}
use Rattle.css_domain.specs.Meanings.{Meaning}
use Rattle.css_ledger.specs.Numbered.{child_in, numbered, record_with}
use Rattle.lists.specs.Added.{with_new, with_all_new}
use Rattle.lists.proofs.Added.{position_stays, grows, grows_one, there_after, all_new_append}
use Rattle.lists.proofs.Maps.{map-agree}
use Rattle.lists.specs.Members.{IsIn}
use Rattle.lists.proofs.Members.{IsIn-flat_map}

-- one element more
pub take_one_more : {X : Type 0} (xs : List X) (i : ℕ) (x : X) → slice_get xs i ≡ Some x → take (i + 1) xs ≡ take i xs ++ x ∷ []
take_one_more [] i x h = absurd cc
take_one_more (y ∷ xs) zero x h = let e : y ≡ x = cc in ap (λ z. z ∷ []) e
take_one_more (y ∷ xs) (suc i) x h = let e : suc i + 1 ≡ suc (i + 1) = omega arith in rw e (ap (λ zs. y ∷ zs) (take_one_more xs i x h))

module _ {C R : Type 0} (D : Meaning C R) where
  pub restored : (xs ys : List C) → take (length xs) (with_all_new D.same xs ys) ≡ xs
  restored xs ys = let g = grows D.same xs ys in rw g.1 (take-append_seam xs g.0)

  -- what can be cut back to a longer list can be cut back to a shorter one
  pub restored_within : (xs ys zs : List C) → take (length (with_all_new D.same xs ys)) zs ≡ with_all_new D.same xs ys → take (length xs) zs ≡ xs
  restored_within xs ys zs h =
      let g = grows D.same xs ys in
      let n = length (with_all_new D.same xs ys) in
      let whole : zs ≡ xs ++ (g.0 ++ drop n zs) = sym (take-append-drop n zs) ∙ ap (λ ws. ws ++ drop n zs) (h ∙ g.1) ∙ append_assoc xs g.0 (drop n zs) in
      ap (take (length xs)) whole ∙ take-append_seam xs (g.0 ++ drop n zs)

  pub numbered_stays : (keys zs cs : List C) → ((c : C) → IsIn c cs → list_any (D.same c) keys ≡ true) → numbered D (keys ++ zs) cs ≡ numbered D keys cs
  numbered_stays keys zs cs f = map-agree {Y = ℕ × Bool} (child_in D (keys ++ zs)) (child_in D keys) cs (λ c i. ap (λ (k : ℕ). (k, D.positive c)) (position_stays D.same c keys zs (f c i)))

  module _ (own : (c : C) → D.same c c ≡ true) where
    -- one child more
    pub child_added : (xs keys new : List C) (items : List (ℕ × Bool)) (cs : List C) (c : C) → keys ≡ with_all_new D.same xs cs → items ≡ numbered D keys cs → new ≡ with_new D.same keys c → (new ≡ with_all_new D.same xs (cs ++ c ∷ [])) × (items ++ child_in D new c ∷ [] ≡ numbered D new (cs ++ c ∷ []))
    child_added xs keys new items cs c k i n =
        let g = grows_one D.same keys c in
        let same_numbers : numbered D new cs ≡ numbered D keys cs = ap (λ ks. numbered D ks cs) (n ∙ g.1) ∙ numbered_stays keys g.0 cs (λ d j. subst (λ ks. list_any (D.same d) ks ≡ true) (sym k) (there_after D.same own d xs cs j)) in (
          n ∙ ap (λ ks. with_new D.same ks c) k ∙ sym (all_new_append D.same xs cs (c ∷ [])),
          ap (λ is. is ++ child_in D new c ∷ []) (i ∙ sym same_numbers) ∙ sym (map-append (child_in D new) cs (c ∷ [])),
        )

    -- one rule more
    pub rule_added : (parent : ℕ) (xs keys new : List C) (items : List Record) (rs : List R) (r : R) → keys ≡ with_all_new D.same xs (flat_map D.children rs) → items ≡ map (record_with D parent keys) rs → new ≡ with_all_new D.same keys (D.children r) → (new ≡ with_all_new D.same xs (flat_map D.children (rs ++ r ∷ []))) × (items ++ record_with D parent new r ∷ [] ≡ map (record_with D parent new) (rs ++ r ∷ []))
    rule_added parent xs keys new items rs r k i n =
        let g = grows D.same keys (D.children r) in
        let one : flat_map D.children (r ∷ []) ≡ D.children r = append-nil (D.children r) in
        let stay : (s : R) → IsIn s rs → record_with D parent new s ≡ record_with D parent keys s = λ s j. (let e = ap (λ ks. numbered D ks (D.children s)) (n ∙ g.1) ∙ numbered_stays keys g.0 (D.children s) (λ d h. subst (λ ks. list_any (D.same d) ks ≡ true) (sym k) (there_after D.same own d xs (flat_map D.children rs) (IsIn-flat_map D.children j h))) in λ m. record { parent = parent; shape = D.shape s; children = e m }) in (
          n ∙ ap (λ ks. with_all_new D.same ks (D.children r)) k ∙ sym (all_new_append D.same xs (flat_map D.children rs) (D.children r)) ∙ ap (λ cs. with_all_new D.same xs (flat_map D.children rs ++ cs)) (sym one) ∙ ap (with_all_new D.same xs) (sym (flat_map-append D.children rs (r ∷ []))),
          ap (λ is. is ++ record_with D parent new r ∷ []) (i ∙ sym (map-agree (record_with D parent new) (record_with D parent keys) rs stay)) ∙ sym (map-append (record_with D parent new) rs (r ∷ [])),
        )

  pub few_added : (xs cs : List C) → length (with_all_new D.same xs cs) ≤ length xs + length cs
  few_added xs cs = let g = grows D.same xs cs in omega (arith, ap length g.1, g.2, length-append xs g.0)

  pub no_fewer : (xs cs : List C) → length xs ≤ length (with_all_new D.same xs cs)
  no_fewer xs cs = let g = grows D.same xs cs in omega (arith, ap length g.1, length-append xs g.0)

  pub few_taken : (xs cs : List C) (i : ℕ) → length (with_all_new D.same xs (take i cs)) ≤ length xs + length cs
  few_taken xs cs i = omega (arith, few_added xs (take i cs), length-take-le_whole i cs)
    where
      length-take-le_whole : (j : ℕ) (ys : List C) → length (take j ys) ≤ length ys
      length-take-le_whole j ys = omega (arith, length-take j ys)

  pub few_by_rules : (xs : List C) (rs : List R) (i : ℕ) (r : R) → slice_get rs i ≡ Some r → length (with_all_new D.same xs (flat_map D.children (take i rs))) + length (D.children r) ≤ length xs + length (flat_map D.children rs)
  few_by_rules xs rs i r at =
      let a = few_added xs (flat_map D.children (take i rs)) in
      let b = length-flat_map-take D.children rs i r (slice_get_within rs i r at) in
      let e : get_or rs i r ≡ r = get_or_from_slice_get rs i r r at in
      let f : length (D.children (get_or rs i r)) ≡ length (D.children r) = ap (λ s. length (D.children s)) e in
      omega (arith, a, b, f)

pub on_err : {A B : Type 0} (r : Result A B) {P : Type 0} → P → OnErr r P
on_err (Ok a) p = tt
on_err (Err e) p = p
