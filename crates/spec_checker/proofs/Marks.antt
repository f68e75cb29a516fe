-- Marks of the entries that are named as children.
use Rattle.std.proofs.Common.{◌≡◌, ◌<◌, ◌+◌, ℕ, Bool, true, false, List, length, get_or, set, take, refl, sym, ap, ◌∙◌, subst, ⊎_elim, inl, inr, arith}
use Rattle.std.specs.Prelude.{◌||◌, ◌⊎◌, nat_eq, slice_get, Some}
use Rattle.std.specs.List.{list_any}
use Rattle.std.proofs.Math.Bool.{or_assoc, or-false, or-true}
use Rattle.std.proofs.lemmas.Bool.{eqb-true, eq-eqb}
use Rattle.std.proofs.lemmas.Bool.Decides.{eqb_tells}
use Rattle.std.proofs.lemmas.List.{get_or-set_same, get_or-set_other}
use Rattle.std.proofs.lemmas.List.Folds.{list_any_more}
use Rattle.lists.specs.Members.{IsIn}
use Rattle.lists.proofs.Tests.{which_passes, some_passes}
use Rattle.lists.proofs.Numbers.{less_or_whole}
use Rattle.tiling_core.specs.Tiles.{Tiles}
use Rattle.css_domain.specs.Entries.{Entry}
use Rattle.css_prune.proofs.FirstFaults.{same_some}
use Rattle.rule_kinds.specs.Rules.{TilingRule}
use Rattle.spec_checker.specs.Passing.{IsNamedBefore, AreMarked}

-- one mark more
marked_once : (marks : List Bool) (k i : ℕ) → k < length marks → get_or (set marks k true) i false ≡ (get_or marks i false || nat_eq i k)
marked_once marks k i l =
    ⊎_elim {C = get_or (set marks k true) i false ≡ (get_or marks i false || nat_eq i k)}
    (λ h. subst (λ j. get_or (set marks k true) j false ≡ (get_or marks i false || nat_eq i k)) (sym h.1) (get_or-set_same marks k true false l ∙ sym (ap (λ b. get_or marks i false || b) h.0 ∙ or-true (get_or marks i false))))
    (λ h. get_or-set_other marks k i true false h.1 ∙ sym (ap (λ b. get_or marks i false || b) h.0 ∙ or-false (get_or marks i false)))
    (eqb_tells i k)

-- when the children up to a place are marked, one more is
pub marked_more : (old marks : List Bool) (children : List ℕ) (at : ℕ) → at < length children → get_or children at 0 < length marks → ((i : ℕ) → get_or marks i false ≡ (get_or old i false || list_any (nat_eq i) (take at children)))
    → (i : ℕ) → get_or (set marks (get_or children at 0) true) i false ≡ (get_or old i false || list_any (nat_eq i) (take (at + 1) children))
marked_more old marks children at l w h i =
    let k = get_or children at 0 in
    marked_once marks k i w ∙ ap (λ b. b || nat_eq i k) (h i) ∙ or_assoc (get_or old i false) (list_any (nat_eq i) (take at children)) (nat_eq i k)
    ∙ ap (λ b. get_or old i false || b) (sym (list_any_more (nat_eq i) children at 0 l))

or_cases : (a b : Bool) → (a || b) ≡ true → (a ≡ true) ⊎ (b ≡ true)
or_cases true b h = inl refl
or_cases false b h = inr h

or_left : (a b : Bool) → a ≡ true → (a || b) ≡ true
or_left a b h = ap (λ c. c || b) h

or_right : (a b : Bool) → b ≡ true → (a || b) ≡ true
or_right a b h = ap (λ c. a || c) h ∙ or-true a

-- before the first entry nothing is marked
pub none_marked : (entries : List (Entry Tiles TilingRule)) (marks : List Bool) → length marks ≡ length entries → ((i : ℕ) → get_or marks i false ≡ false) → AreMarked entries 0 marks
none_marked entries marks e h = record { many = e; right = λ i l. (λ t. let f = h i in absurd cc, λ n. let less = n.earlier in absurd (omega (arith, less))) }

-- the children of the entry at the place are marked
pub marked_next : (entries : List (Entry Tiles TilingRule)) (place : ℕ) (e : Entry Tiles TilingRule) (marks new : List Bool) → slice_get entries place ≡ Some e → AreMarked entries place marks → length new ≡ length marks
    → ((i : ℕ) → get_or new i false ≡ (get_or marks i false || list_any (nat_eq i) e.children)) → AreMarked entries (place + 1) new
marked_next entries place e marks new at m many h =
    record {
      many = many ∙ m.many;
      right = λ i l. (
        λ t. ⊎_elim {C = IsNamedBefore entries (place + 1) i}
            (λ old. let n = (m.right i l).0 old in record { j = n.j; earlier = let less = n.earlier in omega (arith, less); by = n.by; there = n.there; names = n.names })
            (λ now. let p = which_passes (nat_eq i) e.children now in record { j = place; earlier = omega arith; by = e; there = at; names = subst (λ k. IsIn k e.children) (sym (eqb-true i p.0 p.2)) p.1 })
            (or_cases (get_or marks i false) (list_any (nat_eq i) e.children) (sym (h i) ∙ t)),
        λ n. ⊎_elim {C = get_or new i false ≡ true}
            (λ less. h i ∙ or_left (get_or marks i false) (list_any (nat_eq i) e.children) ((m.right i l).1 (record { j = n.j; earlier = less; by = n.by; there = n.there; names = n.names })))
            (λ whole. let same : n.by ≡ e = same_some (subst (λ k. slice_get entries k ≡ Some n.by) whole n.there) at in h i ∙ or_right (get_or marks i false) (list_any (nat_eq i) e.children) (some_passes (nat_eq i) (subst (λ (d : Entry Tiles TilingRule). IsIn i d.children) same n.names) (eq-eqb i i refl)))
            (less_or_whole n.j place (let less = n.earlier in omega (arith, less))),
      );
    }

-- marks of equal lists
pub marks_of : (old marks new : List Bool) (told children : List ℕ) → old ≡ marks → told ≡ children → ((i : ℕ) → get_or new i false ≡ (get_or old i false || list_any (nat_eq i) told)) → (i : ℕ) → get_or new i false ≡ (get_or marks i false || list_any (nat_eq i) children)
marks_of old marks new told children e f h i = h i ∙ ap (λ (bs : List Bool). get_or bs i false || list_any (nat_eq i) told) e ∙ ap (λ (ks : List ℕ). get_or marks i false || list_any (nat_eq i) ks) f
