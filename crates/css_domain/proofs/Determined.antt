-- In a valid specification the counts of the entries are determined, and they are those of the classes.
use Rattle.std.proofs.Common.{◌≡◌, ℕ, zero, suc, ◌<◌, Bool, true, List, [], ◌∷◌, length, refl, sym, ap, ◌∙◌, subst, arith, ⊎_elim}
use Rattle.std.specs.Prelude.{IsTrue, map, slice_get, slice_index, Some}
use Rattle.std.proofs.lemmas.List.{length-map}
use Rattle.std.proofs.lemmas.Option.{slice_get-map}
use Rattle.lists.proofs.Places.{IsIn-slice_get, get_index, at_place}
use Rattle.lists.proofs.Numbers.{less_or_whole}
use Rattle.lists.specs.Members.{IsIn}
use Rattle.css_domain.specs.Shapes.{combine}
use Rattle.css_domain.specs.Meanings.{Meaning}
use Rattle.css_domain.specs.Entries.{Entry, IsNamed, IsLinked, AllHold, AreCounts, NoneOfLength0, class_counts, CountsAreDetermined, ClassCountsCombine}
use Rattle.css_domain.proofs.Ways.{SlotsAgree, combine_agrees}

module _ {C R : Type 0} (D : Meaning C R) (entries : List (Entry C R)) (linked : (e : Entry C R) → IsIn e entries → IsLinked D entries e) where
  -- the flag of a slot is that of the entry that is named
  pub flag_of : (e : Entry C R) (slot : ℕ) (b : Bool) (n : IsNamed D entries e slot) → slice_get (map D.positive (D.children e.rule)) slot ≡ Some b → b ≡ true → IsTrue (D.positive n.named.class)
  flag_of e slot b n h t =
      let q : slice_get (map D.positive (D.children e.rule)) slot ≡ Some (D.positive n.named.class) = slice_get-map D.positive (D.children e.rule) slot ∙ rw n.class refl in
      let same : b ≡ D.positive n.named.class = cc in
      sym same ∙ t

  module _ (f g : ℕ → ℕ → ℕ) (f_zero : NoneOfLength0 D entries f) (g_zero : NoneOfLength0 D entries g) where
    -- the slots of an entry agree where the families agree below n, and at n below its rank
    pub slots_agree : (n : ℕ) (e : Entry C R) → IsIn e entries → ((m i : ℕ) (d : Entry C R) → slice_get entries i ≡ Some d → m < n → f i m ≡ g i m) → ((i : ℕ) (d : Entry C R) → slice_get entries i ≡ Some d → d.rank < e.rank → f i n ≡ g i n) → SlotsAgree f g n (D.shape e.rule) e.children (map D.positive (D.children e.rule))
    slots_agree n e there shorter lower slot k b at flag =
        let p = get_index e.children slot k at in
        let named = (linked e there).child slot p.1 in
        let place : slice_get entries k ≡ Some named.named = subst (λ x. slice_get entries x ≡ Some named.named) p.0 named.there in
        record {
          shorter = λ m small. shorter m k named.named place small;
          none_here = λ t. f_zero k named.named place (flag_of e slot b named flag t);
          none_there = λ t. g_zero k named.named place (flag_of e slot b named flag t);
          as_long = λ t. lower k named.named place (named.rank t);
        }

    module _ (one : AreCounts D entries f) (other : AreCounts D entries g) where
      below_rank : (n : ℕ) → ((m i : ℕ) (d : Entry C R) → slice_get entries i ≡ Some d → m < n → f i m ≡ g i m) → (r i : ℕ) (e : Entry C R) → slice_get entries i ≡ Some e → e.rank < r → f i n ≡ g i n
      below_rank n shorter zero i e at small = absurd (omega (arith, small))
      below_rank n shorter (suc r) i e at small =
          let there = IsIn-slice_get entries i e at in
          let agree = slots_agree n e there shorter (λ j d h lower. below_rank n shorter r j d h (omega (arith, small, lower))) in
          let as_many : length e.children ≡ length (map D.positive (D.children e.rule)) = (linked e there).as_many ∙ sym (length-map (D.children e.rule) D.positive) in
          one i n e at ∙ combine_agrees f g n (D.shape e.rule) e.children (map D.positive (D.children e.rule)) as_many agree ∙ sym (other i n e at)

      below_length : (n m i : ℕ) (e : Entry C R) → slice_get entries i ≡ Some e → m < n → f i m ≡ g i m
      below_length zero m i e at small = absurd (omega (arith, small))
      below_length (suc n) m i e at small =
          ⊎_elim (λ less. below_length n m i e at less) (λ same. subst (λ x. f i x ≡ g i x) (sym same) (below_rank n (below_length n) (suc e.rank) i e at (omega arith)))
          (less_or_whole m n (omega (arith, small)))

      pub same_counts : (i n : ℕ) → i < length entries → f i n ≡ g i n
      same_counts i n small = let e = at_place entries i small in below_length (suc n) n i e.0 e.1 (omega arith)

  -- ---- the counts of the classes
  module _ (hold : AllHold D entries) (combined : (r : R) → D.holds r → (n : ℕ) → D.count (D.parent r) n ≡ combine (D.shape r) (map D.count (D.children r)) n) (none : (c : C) → D.positive c ≡ true → D.count c 0 ≡ 0) where
    same_functions : (ks : List ℕ) (cs : List C) → length ks ≡ length cs → ((slot : ℕ) → slot < length ks → (c : C) × (slice_get cs slot ≡ Some c) × (class_counts D entries (slice_index ks slot) ≡ D.count c)) → map (class_counts D entries) ks ≡ map D.count cs
    same_functions [] [] l h = refl
    same_functions [] (c ∷ cs) l h = absurd (omega (arith, l))
    same_functions (k ∷ ks) [] l h = absurd (omega (arith, l))
    same_functions (k ∷ ks) (c ∷ cs) l h =
        let p = h 0 (omega arith) in
        let e : c ≡ p.0 = (let q = p.1 in cc) in
        let this : class_counts D entries k ≡ D.count c = p.2 ∙ ap D.count (sym e) in
        rw (this, same_functions ks cs (omega (arith, l)) (λ slot small. h (suc slot) (omega (arith, small)))) refl

    class_counts_combine : AreCounts D entries (class_counts D entries)
    class_counts_combine i n e at =
        let there = IsIn-slice_get entries i e at in
        let ok = linked e there in
        let same : map (class_counts D entries) e.children ≡ map D.count (D.children e.rule) = same_functions e.children (D.children e.rule) ok.as_many (λ slot small. let k = ok.child slot small in (k.named.class, k.class, rw k.there refl)) in
        let this : class_counts D entries i n ≡ D.count e.class n = rw at refl in
        this ∙ rw (same, sym ok.own) (combined e.rule (hold e there) n)

    class_counts_none : NoneOfLength0 D entries (class_counts D entries)
    class_counts_none i e at t = let this : class_counts D entries i 0 ≡ D.count e.class 0 = rw at refl in this ∙ none e.class t

    pub class_counts_are_counts : AreCounts D entries (class_counts D entries) × NoneOfLength0 D entries (class_counts D entries)
    class_counts_are_counts = (class_counts_combine, class_counts_none)

pub counts_are_determined : {C R : Type 0} (D : Meaning C R) → CountsAreDetermined D
counts_are_determined D entries spec one other a b d e i n h = same_counts D entries spec.linked one other b e a d i n h

pub class_counts_combine_in : {C R : Type 0} (D : Meaning C R) → ((r : R) → D.holds r → (n : ℕ) → D.count (D.parent r) n ≡ combine (D.shape r) (map D.count (D.children r)) n) → ((c : C) → D.positive c ≡ true → D.count c 0 ≡ 0) → ClassCountsCombine D
class_counts_combine_in D combined none entries spec hold = class_counts_are_counts D entries spec.linked hold combined none
