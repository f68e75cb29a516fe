-- The picked specification of a ledger is valid.
use Rattle.std.proofs.Common.{◌≡◌, ℕ, suc, ◌-◌, ◌<◌, ◌≤◌, Bool, true, cond, nat_lt, List, [], ◌∷◌, length, refl, sym, ap, subst, ◌∙◌, arith}
use Rattle.std.specs.Prelude.{◌&&◌, ◌||◌, ◌==◌, not, nat_eq, IsTrue, map, slice_get, slice_index, Some, None, Option}
use Rattle.std.specs.List.{list_any, list_all, position_or_len, AllZip}
use Rattle.std.proofs.lemmas.Bool.{eqb-true, eq-eqb, and_parts}
use Rattle.std.proofs.lemmas.List.{length-map}
use Rattle.std.proofs.lemmas.Option.{slice_get_within}
use Rattle.std.proofs.lemmas.Slice.Zip.{AllZip-long}
use Rattle.lists.specs.Members.NoRepeats.{no_element, one_more}
use Rattle.lists.proofs.Places.{IsIn-slice_get, at_place, found_at, get-map, index_is, zip_at, zip_back, place_of}
use Rattle.lists.proofs.Added.{position_of}
use Rattle.lists.proofs.Tests.{each_passes}
use Rattle.lists.specs.Members.{IsIn, NoRepeats}
use Rattle.lists.proofs.Members.{IsIn-map, from_IsIn-map}
use Rattle.lists.proofs.Ranges.{in_range_with_len}
use Rattle.css_domain.specs.declared.record.Record.{Record}
use Rattle.css_domain.specs.Records.{numbers, has_same_length}
use Rattle.css_domain.specs.Shapes.{is_same_length}
use Rattle.css_domain.specs.Meanings.{Meaning}
use Rattle.css_domain.specs.Added.{order_from}
use Rattle.css_domain.specs.Ledgers.{Books, classes, records, record_of}
use Rattle.css_domain.specs.LedgerFacts.{IsLedger}
use Rattle.css_domain.specs.Standing.{TellsStanding, gives, is_ranked, rank_of, pick_of, each_same_length}
use Rattle.css_domain.specs.Entries.{Entry, IsPickOf, Picked, ValidSpec, IsSpec, AllHold, IsLinked, IsNamed, IsCalled, picked_children, children_at, can_keep_length}
use Rattle.css_domain.proofs.StandingLaws.{stands_by}
use Rattle.css_prune.specs.Marks.{giver}
use Rattle.css_prune.proofs.Marks.{giver_within, giver_gives, rank_some}
use Rattle.css_prune.proofs.Ends.{rank_stays, ranked_at_rank, ends_rank, picks_by_giver}
use Rattle.css_prune.proofs.Supports.{ranked_if_stands, from_unless}
use Rattle.css_domain.proofs.Orders.{order_distinct, order_all, order_closed, order_called, order_short, order_first}
use Rattle.css_domain.proofs.Within.{rule_holds, parent_at, child_at, rule_at, numbers_of, flags_of, parent_below}

-- distinct numbers have distinct classes
pub distinct_classes : {A B : Type 0} (class : B → A) (all : List A) → ((i j : ℕ) (x : A) → slice_get all i ≡ Some x → slice_get all j ≡ Some x → i ≡ j) → (cs : List ℕ) (es : List B) → AllZip (λ c e. slice_get all c ≡ Some (class e)) cs es → NoRepeats cs → NoRepeats (map class es)
distinct_classes class all one [] [] z n = no_element
distinct_classes class all one [] (e ∷ es) z n = absurd z
distinct_classes class all one (c ∷ cs) [] z n = absurd z
distinct_classes {A} {B} class all one (c ∷ cs) (e ∷ es) z (one_more out n) =
    one_more
    (λ h.
    let f = from_IsIn-map class es h in
    let p = place_of es f.0 f.1 in
    let q = zip_back (λ c e. slice_get all c ≡ Some (class e)) cs es p.0 f.0 z.1 p.1 in
    let same : c ≡ q.0 = one c q.0 (class e) z.0 (q.2 ∙ ap Some (sym f.2)) in
    out (subst (λ d. IsIn d cs) (sym same) (IsIn-slice_get cs p.0 q.0 q.1)))
    (distinct_classes class all one cs es z.1 n)

zip_weaker : {A B : Type 0} (P Q : A → B → Type 0) (xs : List A) (ys : List B) → ((x : A) (y : B) → P x y → Q x y) → AllZip P xs ys → AllZip Q xs ys
zip_weaker P Q [] [] f z = z
zip_weaker P Q [] (y ∷ ys) f z = absurd z
zip_weaker P Q (x ∷ xs) [] f z = absurd z
zip_weaker P Q (x ∷ xs) (y ∷ ys) f z = (f x y z.0, zip_weaker P Q xs ys f z.1)

module _ {C R : Type 0} (D : Meaning C R) (own : (c : C) → D.same c c ≡ true) (exact : (a b : C) → D.same a b ≡ true → a ≡ b) (l : Books C R) (is : IsLedger D l) (K : ℕ → Bool) (standing : TellsStanding (records D l) K) where
  abbrev rs : List Record
  rs = records D l

  abbrev ch : ℕ → List ℕ
  ch = picked_children D l K

  pub same_class : (i j : ℕ) (x : C) → slice_get (classes D l) i ≡ Some x → slice_get (classes D l) j ≡ Some x → i ≡ j
  same_class i j x a b = sym (position_of D.same own exact (classes D l) i x is.distinct a).0 ∙ (position_of D.same own exact (classes D l) j x is.distinct b).0

  pub ranked : (c : ℕ) → K c ≡ true → is_ranked K rs (length rs) c ≡ true
  ranked c h = ranked_if_stands K rs (λ d s. (standing d).1 s) c ((standing c).0 h)

  pub rank_is : (c : ℕ) → K c ≡ true → (0 < rank_of K rs c) × (rank_of K rs c ≤ length rs)
  rank_is c h = let s = rank_some K rs (length rs) c (ranked c h) in let e = ends_rank K rs c in (omega (arith, s.0, e), omega (arith, s.1, e))

  pub pick_is : (c : ℕ) → K c ≡ true → pick_of K rs c ≡ giver K rs (rank_of K rs c - 1) c
  pick_is c h =
      let at = subst (λ m. is_ranked K rs (suc (m - 1)) c ≡ true) (ends_rank K rs c) (ranked_at_rank K rs (length rs) c (ranked c h)) in
      let t : nat_lt (giver K rs (rank_of K rs c - 1) c) (length rs) ≡ true = giver_within K rs (rank_of K rs c - 1) c ∙ at in
      picks_by_giver K rs c ∙ ap (λ b. cond b (giver K rs (rank_of K rs c - 1) c) 0) t

  pub pick_gives : (c : ℕ) (r : Record) → K c ≡ true → slice_get rs (pick_of K rs c) ≡ Some r → gives K rs (λ d. is_ranked K rs (rank_of K rs c - 1) d) c r ≡ true
  pick_gives c r h at = (and_parts (K c) (gives K rs (λ d. is_ranked K rs (rank_of K rs c - 1) d) c r) (giver_gives K rs (rank_of K rs c - 1) (pick_of K rs c) c r at (sym (pick_is c h)))).1

  pub child_kept : (c : ℕ) → K c ≡ true → (d : ℕ) → IsIn d (ch c) → K d ≡ true
  child_kept c h d i = go (slice_get rs (pick_of K rs c)) refl i
    where
      go : (o : Option Record) → slice_get rs (pick_of K rs c) ≡ o → IsIn d (children_at o) → K d ≡ true
      go None e j = elim j [ ]
      go (Some r) e j =
          let g = pick_gives c r h e in
          let a = and_parts (r.parent == c) (list_all K (numbers r) && each_same_length r (λ d. is_ranked K rs (rank_of K rs c - 1) d)) g in
          let b = and_parts (list_all K (numbers r)) (each_same_length r (λ d. is_ranked K rs (rank_of K rs c - 1) d)) a.1 in
          each_passes K b.0 j

  pub kept_below : (c : ℕ) → K c ≡ true → c < length (classes D l)
  kept_below c h =
      let b = stands_by rs c ((standing c).0 h) in
      let f = from_IsIn-map (λ r. record_of D (classes D l) r) l.rules b.recorded in
      let w = parent_below D own exact l is f.0 f.1 in
      let e = ap (λ (r : Record). r.parent) f.2 in
      omega (arith, w, e, b.own)

  module _ (root : ℕ) (stands : IsTrue (K root)) where
    abbrev order : List ℕ
    order = order_from root ch (length (classes D l))

    pub all_kept : (c : ℕ) → IsIn c order → K c ≡ true
    all_kept c i = order_all root ch (λ d. K d ≡ true) stands child_kept (length (classes D l)) c i

    short : length order ≤ length (classes D l)
    short = order_short root ch (length (classes D l)) (length (classes D l)) (λ c i. kept_below c (all_kept c i))

    pub any_in_order : (i c d : ℕ) → slice_get order i ≡ Some c → IsIn d (ch c) → list_any (nat_eq d) order ≡ true
    any_in_order i c d at j = let w = slice_get_within order i c at in order_closed root ch (length (classes D l)) i c (omega (arith, w, short)) at d j

    child_in_order : (i c d : ℕ) → slice_get order i ≡ Some c → IsIn d (ch c) → slice_get order (position_or_len (nat_eq d) order) ≡ Some d
    child_in_order i c d at j = found_at nat_eq (λ a b e. eqb-true a b e) d order (any_in_order i c d at j)

    module _ (entries : List (Entry C R)) (picks : AllZip (λ c e. IsPickOf D l K order c e) order entries) where
      module _ (i c : ℕ) (e : Entry C R) (at : slice_get order i ≡ Some c) (p : IsPickOf D l K order c e) where
        c_kept : K c ≡ true
        c_kept = all_kept c (IsIn-slice_get order i c at)

        rule_in : IsIn e.rule l.rules
        rule_in = IsIn-slice_get l.rules (pick_of K rs c) e.rule p.rule

        record_is : p.by_record ≡ record_of D (classes D l) e.rule
        record_is =
            let r = rule_at D own exact l is (pick_of K rs c) p.by_record p.recorded in
            let same : r.0 ≡ e.rule = (let a = r.1 in let b = p.rule in cc) in
            r.2 ∙ ap (record_of D (classes D l)) same

        given : gives K rs (λ d. is_ranked K rs (rank_of K rs c - 1) d) c p.by_record ≡ true
        given = pick_gives c p.by_record c_kept p.recorded

        own_number : p.by_record.parent ≡ c
        own_number = eqb-true p.by_record.parent c (and_parts (p.by_record.parent == c) (list_all K (numbers p.by_record) && each_same_length p.by_record (λ d. is_ranked K rs (rank_of K rs c - 1) d)) given).0

        lower : each_same_length p.by_record (λ d. is_ranked K rs (rank_of K rs c - 1) d) ≡ true
        lower =
            let a = and_parts (p.by_record.parent == c) (list_all K (numbers p.by_record) && each_same_length p.by_record (λ d. is_ranked K rs (rank_of K rs c - 1) d)) given in
            (and_parts (list_all K (numbers p.by_record)) (each_same_length p.by_record (λ d. is_ranked K rs (rank_of K rs c - 1) d)) a.1).1

        own_class : D.parent e.rule ≡ e.class
        own_class =
            let a = parent_at D own exact l is e.rule rule_in in
            let n : position_or_len (D.same (D.parent e.rule)) (classes D l) ≡ c = sym (ap (λ (r : Record). r.parent) record_is) ∙ own_number in
            let b : slice_get (classes D l) c ≡ Some (D.parent e.rule) = ap (slice_get (classes D l)) (sym n) ∙ a in
            (let f = p.class in let g : D.parent e.rule ≡ e.class = cc in g)

        numbers_are : numbers p.by_record ≡ map (λ d. position_or_len (D.same d) (classes D l)) (D.children e.rule)
        numbers_are = ap numbers record_is ∙ numbers_of D own exact l is e.rule

        as_many : length e.children ≡ length (D.children e.rule)
        as_many = ap length p.children ∙ length-map (numbers p.by_record) (λ d. position_or_len (λ o. d == o) order) ∙ ap length numbers_are ∙ length-map (D.children e.rule) (λ d. position_or_len (D.same d) (classes D l))

        children_are : ch c ≡ numbers p.by_record
        children_are = ap children_at p.recorded

        child : (slot : ℕ) → slot < length e.children → IsNamed D entries e slot
        child slot h =
            let cl = at_place (D.children e.rule) slot (omega (arith, h, as_many)) in
            let d = position_or_len (D.same cl.0) (classes D l) in
            let at_numbers : slice_get (numbers p.by_record) slot ≡ Some d = ap (λ xs. slice_get xs slot) numbers_are ∙ get-map (λ d. position_or_len (D.same d) (classes D l)) (D.children e.rule) slot cl.0 cl.1 in
            let in_numbers = IsIn-slice_get (numbers p.by_record) slot d at_numbers in
            let in_order = child_in_order i c d at (subst (λ xs. IsIn d xs) (sym children_are) in_numbers) in
            let z = zip_at (λ c e. IsPickOf D l K order c e) order entries (position_or_len (nat_eq d) order) d picks in_order in
            let place : slice_index e.children slot ≡ position_or_len (nat_eq d) order = index_is e.children slot (position_or_len (nat_eq d) order) (ap (λ xs. slice_get xs slot) p.children ∙ get-map (λ d. position_or_len (λ o. d == o) order) (numbers p.by_record) slot d at_numbers) in
            let class_at = child_at D own exact l is e.rule cl.0 rule_in (IsIn-slice_get (D.children e.rule) slot cl.0 cl.1) in
            let same : cl.0 ≡ z.0.class = (let a = z.2.class in cc) in
            record {
              named = z.0;
              there = ap (slice_get entries) place ∙ z.1;
              class = cl.1 ∙ ap Some same;
              rank = λ t.
                  let long : length (numbers p.by_record) ≡ length p.by_record.children = length-map p.by_record.children (λ (x : ℕ × Bool). x.0) in
                  let w = slice_get_within (numbers p.by_record) slot d at_numbers in
                  let flag : has_same_length p.by_record slot ≡ can_keep_length D e.rule slot = ap (λ r. has_same_length r slot) record_is ∙ ap (λ fs. is_same_length (D.shape e.rule) fs slot) (flags_of D own exact l is e.rule) in
                  let here = from_unless (has_same_length p.by_record slot) (is_ranked K rs (rank_of K rs c - 1) (slice_index (numbers p.by_record) slot)) (each_passes (λ s. not (has_same_length p.by_record s) || is_ranked K rs (rank_of K rs c - 1) (slice_index (numbers p.by_record) s)) lower (in_range_with_len 0 (length p.by_record.children) slot (omega arith) (omega (arith, w, long)))) (flag ∙ t) in
                  let there_d = subst (λ m. is_ranked K rs (rank_of K rs c - 1) m ≡ true) (index_is (numbers p.by_record) slot d at_numbers) here in
                  let some = rank_is c c_kept in
                  let low = rank_some K rs (rank_of K rs c - 1) d there_d in
                  let stay = rank_stays K rs (rank_of K rs c - 1) (length rs) d (omega (arith, some.1)) there_d in
                  omega (arith, some, low, stay.1, ends_rank K rs d, z.2.rank, p.rank);
            }

        linked_entry : IsLinked D entries e
        linked_entry = record { own = own_class; as_many = as_many; child = child }

        rule_in_holds : D.holds e.rule
        rule_in_holds = rule_holds D own exact l is e.rule rule_in

      called : (i : ℕ) → 0 < i → i < length entries → IsCalled D entries i
      called i some small =
          let e = at_place entries i small in
          let b = zip_back (λ c e. IsPickOf D l K order c e) order entries i e.0 picks e.1 in
          let r = order_called root ch (length (classes D l)) i b.0 some b.1 in
          let z = zip_at (λ c e. IsPickOf D l K order c e) order entries r.0 r.1 picks r.3 in
          let in_numbers = subst (λ xs. IsIn b.0 xs) (children_are r.0 r.1 z.0 r.3 z.2) r.4 in
          let place = (position_of nat_eq (λ n. eq-eqb n n refl) (λ a b e. eqb-true a b e) order i b.0 (order_distinct root ch (length (classes D l))) b.1).0 in
          let named : IsIn (position_or_len (nat_eq b.0) order) z.0.children = subst (λ xs. IsIn (position_or_len (nat_eq b.0) order) xs) (sym z.2.children) (IsIn-map (λ d. position_or_len (λ o. d == o) order) in_numbers) in
          record { j = r.0; earlier = r.2; by = z.0; there = z.1; names = subst (λ n. IsIn n z.0.children) place named }

      -- the place of an entry with the class that it picks
      picked_at : (e : Entry C R) → IsIn e entries → (i : ℕ) × (c : ℕ) × (slice_get order i ≡ Some c) × IsPickOf D l K order c e
      picked_at e i =
          let p = place_of entries e i in
          let b = zip_back (λ c e. IsPickOf D l K order c e) order entries p.0 e picks p.1 in
          (p.0, b.0, b.1, b.2)

      first_entry : (z : Entry C R) × (slice_get entries 0 ≡ Some z) × IsPickOf D l K order root z
      first_entry = zip_at (λ c e. IsPickOf D l K order c e) order entries 0 root picks (order_first root ch (length (classes D l)))

      pub picked_is_spec : IsSpec D entries
      picked_is_spec =
          record {
            some = (let w = slice_get_within entries 0 first_entry.0 first_entry.1 in omega (arith, w));
            distinct = distinct_classes (λ e. e.class) (classes D l) same_class order entries (zip_weaker (λ c e. IsPickOf D l K order c e) (λ c e. slice_get (classes D l) c ≡ Some e.class) order entries (λ c e p. p.class) picks) (order_distinct root ch (length (classes D l)));
            linked = λ e i. let p = picked_at e i in linked_entry p.0 p.1 e p.2 p.3;
            called = called;
          }

      pub picked_hold : AllHold D entries
      picked_hold e i = let p = picked_at e i in rule_in_holds p.0 p.1 e p.2 p.3

      pub picked_few : length entries ≤ length (classes D l)
      picked_few = (let e = AllZip-long (λ c e. IsPickOf D l K order c e) order entries picks in omega (arith, e, short))

-- the picked specification of a ledger is valid
pub picked_is_valid : {C R : Type 0} (D : Meaning C R) → ((c : C) → D.same c c ≡ true) → ((a b : C) → D.same a b ≡ true → a ≡ b) → (l : Books C R) (root : ℕ) (entries : List (Entry C R)) (c : C) → IsLedger D l → Picked D l root entries → slice_get (classes D l) root ≡ Some c → ValidSpec D entries c
picked_is_valid D own exact l root entries c is p at =
    let z = first_entry D own exact l is p.K p.standing root p.stands entries p.picks in
    record {
      spec = picked_is_spec D own exact l is p.K p.standing root p.stands entries p.picks;
      hold = picked_hold D own exact l is p.K p.standing root p.stands entries p.picks;
      first = z.0;
      starts = z.1;
      root = (let a = z.2.class in let g : z.0.class ≡ c = cc in g);
    }
