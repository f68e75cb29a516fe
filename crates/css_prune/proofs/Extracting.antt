-- Entries from picks.
use Rattle.std.proofs.Common.{◌≡◌, ℕ, suc, ◌-◌, ◌<◌, ◌≤◌, Bool, true, List, [], ◌∷◌, ◌++◌, length, nat_lt, refl, sym, ap, subst, ◌∙◌, arith}
use Rattle.std.specs.Prelude.{◌==◌, nat_eq, IsTrue, map, slice_get, slice_index, Some}
use Rattle.std.specs.List.{AllZip, position_or_len, list_any}
use Rattle.std.proofs.lemmas.List.{length-map}
use Rattle.std.proofs.lemmas.Bool.Decides.{nat_tests}
use Rattle.css_domain.specs.declared.record.Record.{Record}
use Rattle.css_domain.specs.Records.{numbers}
use Rattle.css_domain.specs.Meanings.{Meaning}
use Rattle.css_domain.specs.Added.{order_from}
use Rattle.css_domain.specs.Ledgers.{Books, classes, records}
use Rattle.css_domain.specs.LedgerFacts.{IsLedger}
use Rattle.css_domain.specs.Standing.{is_ranked, rank_of, pick_of}
use Rattle.css_domain.specs.Entries.{Entry, IsPickOf, Picked, IsSpec, picked_children, children_at}
use Rattle.css_prune.specs.declared.pruned.Pruned.{Pruned}
use Rattle.css_prune.specs.Pruning.{kept, IsPruned}
use Rattle.css_prune.specs.Marks.{giver}
use Rattle.css_prune.specs.Places.{ArePlaces, IsGuide, calls}
use Rattle.css_prune.specs.Extracting.{IsReady}
use Rattle.css_prune.proofs.Marks.{giver_within}
use Rattle.css_prune.proofs.Ends.{ranked_at_rank, ends_rank}
use Rattle.css_prune.proofs.Supports.{in_at_slot}
use Rattle.css_prune.proofs.Picks.{ranked, pick_is, child_kept, kept_below, all_kept, any_in_order, picked_is_spec, picked_few}
use Rattle.lists.proofs.Places.{at_place, place_of}
use Rattle.lists.proofs.Maps.{map-agree, map-map}
use Rattle.lists.specs.Members.{IsIn}

pub zip_push : {A B : Type 0} (P : A → B → Type 0) (xs : List A) (ys : List B) (x : A) (y : B) → AllZip P xs ys → P x y → AllZip P (xs ++ x ∷ []) (ys ++ y ∷ [])
zip_push P [] [] x y z p = (p, tt)
zip_push P [] (b ∷ ys) x y z p = absurd z
zip_push P (a ∷ xs) [] x y z p = absurd z
zip_push P (a ∷ xs) (b ∷ ys) x y z p = (z.0, zip_push P xs ys x y z.1 p)

module _ {C R : Type 0} (D : Meaning C R) (own : (c : C) → D.same c c ≡ true) (exact : (a b : C) → D.same a b ≡ true → a ≡ b) (l : Books C R) (is : IsLedger D l) (pruned : Pruned) (answer : IsPruned (records D l) (length (classes D l)) pruned) where
  abbrev K : ℕ → Bool
  K = kept pruned.keep

  abbrev rs : List Record
  rs = records D l

  pick_within : (c : ℕ) → K c ≡ true → slice_index pruned.pick c < length rs
  pick_within c h =
      let n = rank_of K rs c - 1 in
      let at : is_ranked K rs (suc n) c ≡ true = subst (λ m. is_ranked K rs (suc (m - 1)) c ≡ true) (ends_rank K rs c) (ranked_at_rank K rs (length rs) c (ranked D own exact l is K answer.standing c h)) in
      let t : nat_lt (giver K rs n c) (length rs) ≡ true = giver_within K rs n c ∙ at in
      let less : giver K rs n c < length rs = from_less (giver K rs n c) (length rs) t in
      omega (arith, less, pick_is D own exact l is K answer.standing c h, answer.picked c)
    where
      from_less : (a b : ℕ) → nat_lt a b ≡ true → a < b
      from_less a b e = grind (arith, nat_tests)

  same_calls : (c : ℕ) → calls rs pruned.pick c ≡ picked_children D l K c
  same_calls c = ap (λ m. children_at (slice_get rs m)) (answer.picked c)

  pub guide : IsGuide K rs pruned.pick (length (classes D l))
  guide =
      record {
        small = kept_below D own exact l is K answer.standing;
        picked = λ c h. at_place rs (slice_index pruned.pick c) (pick_within c h);
        child = λ c h d i. child_kept D own exact l is K answer.standing c h d (subst (λ xs. IsIn d xs) (same_calls c) i);
      }

  pub guide_of : (items : List Record) (keep : List Bool) (picks : List ℕ) → items ≡ rs → keep ≡ pruned.keep → picks ≡ pruned.pick → IsGuide (kept keep) items picks (length keep)
  guide_of items keep picks e f h =
      subst (λ (xs : List Record). IsGuide (kept keep) xs picks (length keep)) (sym e)
      (subst (λ (ks : List Bool). IsGuide (kept ks) rs picks (length ks)) (sym f)
      (subst (λ (ps : List ℕ). IsGuide K rs ps (length pruned.keep)) (sym h) (subst (λ n. IsGuide K rs pruned.pick n) (sym answer.as_many.keep) guide)))

  -- the order by the numbers in the picks is that of the entries
  pub same_order : (root n m : ℕ) → n ≡ m → order_from root (calls rs pruned.pick) n ≡ order_from root (picked_children D l K) m
  same_order root n m e =
      let f : calls rs pruned.pick ≡ picked_children D l K = λ i c. same_calls c i in
      ap (λ (ch : ℕ → List ℕ). order_from root ch n) f ∙ ap (order_from root (picked_children D l K)) e

  pub order_is : (root : ℕ) (items : List Record) (keep : List Bool) (picks : List ℕ) → items ≡ rs → keep ≡ pruned.keep → picks ≡ pruned.pick → order_from root (calls items picks) (length keep) ≡ order_from root (picked_children D l K) (length (classes D l))
  order_is root items keep picks e f h = (λ i. order_from root (calls (e i) (h i)) (length (f i))) ∙ same_order root (length pruned.keep) (length (classes D l)) answer.as_many.keep

  module _ (root : ℕ) (stands : IsTrue (K root)) (order places : List ℕ) (is_order : order ≡ order_from root (picked_children D l K) (length (classes D l))) (placed : ArePlaces order places) (as_many : length places ≡ length (classes D l)) where
    pub ready : (c : ℕ) → IsIn c order → IsReady D l K order places pruned c
    ready c i =
        let there = subst (λ xs. IsIn c xs) is_order i in
        let h = all_kept D own exact l is K answer.standing root stands c there in
        let p = place_of (order_from root (picked_children D l K) (length (classes D l))) c there in
        record {
          small = kept_below D own exact l is K answer.standing c h;
          within = pick_within c h;
          rank = answer.ranked c;
          pick = answer.picked c;
          child_within = λ d j. (let b = kept_below D own exact l is K answer.standing d (child_kept D own exact l is K answer.standing c h d j) in omega (arith, b, as_many));
          child = λ d j.
              let b = kept_below D own exact l is K answer.standing d (child_kept D own exact l is K answer.standing c h d j) in
              let t : list_any (nat_eq d) order ≡ true = subst (λ xs. list_any (nat_eq d) xs ≡ true) (sym is_order) (any_in_order D own exact l is K answer.standing root stands p.0 c d p.1 j) in
              placed.at d (omega (arith, b, as_many)) ∙ rw t refl;
        }

    whole : (entries : List (Entry C R)) → AllZip (λ c e. IsPickOf D l K order c e) order entries → AllZip (λ c e. IsPickOf D l K (order_from root (picked_children D l K) (length (classes D l))) c e) (order_from root (picked_children D l K) (length (classes D l))) entries
    whole entries z = subst (λ o. AllZip (λ c e. IsPickOf D l K o c e) o entries) is_order z

    pub picked_by : (entries : List (Entry C R)) → AllZip (λ c e. IsPickOf D l K order c e) order entries → Picked D l root entries
    picked_by entries z = record { K = K; standing = answer.standing; stands = stands; picks = whole entries z }

    pub spec_by : (entries : List (Entry C R)) → AllZip (λ c e. IsPickOf D l K order c e) order entries → IsSpec D entries
    spec_by entries z = picked_is_spec D own exact l is K answer.standing root stands entries (whole entries z)

    pub few_by : (entries : List (Entry C R)) → AllZip (λ c e. IsPickOf D l K order c e) order entries → length entries ≤ length (classes D l)
    few_by entries z = picked_few D own exact l is K answer.standing root stands entries (whole entries z)

-- ---- one entry
pub in_numbers : (children : List (ℕ × Bool)) (i : ℕ) → i < length children → IsIn (slice_index (map (λ (c : ℕ × Bool). c.0) children) i) (map (λ (c : ℕ × Bool). c.0) children)
in_numbers children i h = let many = length-map children (λ (c : ℕ × Bool). c.0) in let a = at_place (map (λ (c : ℕ × Bool). c.0) children) i (omega (arith, h, many)) in in_at_slot (map (λ (c : ℕ × Bool). c.0) children) i (omega (arith, h, many))

module _ {C R : Type 0} (D : Meaning C R) (l : Books C R) (K : ℕ → Bool) (order places : List ℕ) (pruned : Pruned) (c : ℕ) (is : IsReady D l K order places pruned c) (item : Record) (at : slice_get (records D l) (slice_index pruned.pick c) ≡ Some item) where
  recorded : slice_get (records D l) (pick_of K (records D l) c) ≡ Some item
  recorded = ap (slice_get (records D l)) (sym is.pick) ∙ at

  children_are : picked_children D l K c ≡ numbers item
  children_are = ap children_at recorded

  pub numbers_within : (d : ℕ) → IsIn d (numbers item) → d < length places
  numbers_within d i = is.child_within d (subst (λ xs. IsIn d xs) (sym children_are) i)

  pub numbers_placed : (d : ℕ) → IsIn d (numbers item) → 0 < slice_index places d
  numbers_placed d i = (let e = is.child d (subst (λ xs. IsIn d xs) (sym children_are) i) in omega (arith, e))

  pub pick_of_entry : (e : Entry C R) → slice_get (classes D l) c ≡ Some e.class → slice_get l.rules (slice_index pruned.pick c) ≡ Some e.rule → e.children ≡ map (λ (child : ℕ × Bool). slice_index places child.0 - 1) item.children → e.rank ≡ slice_index pruned.rank c → IsPickOf D l K order c e
  pick_of_entry e class rule children rank =
      record {
        class = class;
        rule = ap (slice_get l.rules) (sym is.pick) ∙ rule;
        by_record = item;
        recorded = recorded;
        children = children ∙ sym (map-map {Y = ℕ} (λ (d : ℕ). slice_index places d - 1) (λ (child : ℕ × Bool). child.0) item.children) ∙ map-agree (λ (d : ℕ). slice_index places d - 1) (λ d. position_or_len (λ o. d == o) order) (numbers item) (λ d i. let e = is.child d (subst (λ xs. IsIn d xs) (sym children_are) i) in omega (arith, e));
        rank = rank ∙ is.rank;
      }
