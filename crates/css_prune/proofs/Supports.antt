-- What stands has a rank where all that stands is kept; and where all that is kept has a rank, it stands.
use Rattle.std.proofs.Common.{◌≡◌, ℕ, zero, suc, ◌-◌, ◌<◌, Bool, true, false, cond, List, [], ◌∷◌, length, refl, sym, ap, subst, ◌∙◌, arith}
use Rattle.std.specs.Prelude.{◌&&◌, ◌||◌, ◌==◌, not, map, filter, slice_index, Some, unwrap_or, find}
use Rattle.std.specs.List.{list_any, list_all, range_with_len}
use Rattle.std.proofs.lemmas.Bool.{eqb-true, eq-eqb, and_parts, and_from}
use Rattle.std.proofs.lemmas.List.{length-map}
use Rattle.lists.specs.Members.IsIn.{here, later}
use Rattle.lists.proofs.Tests.{some_passes, all_pass, each_passes}
use Rattle.lists.specs.Members.{IsIn}
use Rattle.lists.proofs.Members.{IsIn-map, from_IsIn-map, IsIn-filter, from_IsIn-filter}
use Rattle.lists.proofs.Repeats.{NoRepeats-filter}
use Rattle.lists.proofs.Ranges.{IsIn-range_with_len, in_range_with_len, NoRepeats-range_with_len}
use Rattle.css_domain.specs.declared.shape.Shape.TheVariants.{Nothing}
use Rattle.css_domain.specs.declared.record.Record.{Record}
use Rattle.css_domain.specs.Records.{numbers, has_same_length}
use Rattle.css_domain.specs.Standing.{Ranked, RestsOn, IsSupport, Stands, gives, is_ranked, each_same_length}
use Rattle.css_domain.specs.Records.{AreWithin}
use Rattle.css_prune.specs.Marks.{gives_next, rank_after}
use Rattle.css_prune.proofs.Rounds.{ranked_by_end}
use Rattle.css_prune.proofs.Marks.{rank_some}
use Rattle.css_prune.proofs.Ends.{rank_stays, ranked_at_rank}

pub slot_of : (xs : List ℕ) (x : ℕ) → IsIn x xs → (slot : ℕ) × (slot < length xs) × (slice_index xs slot ≡ x)
slot_of [] x h = elim h [ ]
slot_of (y ∷ xs) _ (here) = (0, omega arith, refl)
slot_of (y ∷ xs) x (later _ h) = let s = slot_of xs x h in (suc s.0, omega (arith, s.1), s.2)

pub in_at_slot : (xs : List ℕ) (slot : ℕ) → slot < length xs → IsIn (slice_index xs slot) xs
in_at_slot [] slot h = absurd (omega (arith, h))
in_at_slot (x ∷ xs) zero h = here
in_at_slot (x ∷ xs) (suc slot) h = later x (in_at_slot xs slot (omega (arith, h)))

unless : (b t : Bool) → (b ≡ true → t ≡ true) → (not b || t) ≡ true
unless true t f = f refl
unless false t f = refl

pub from_unless : (b t : Bool) → (not b || t) ≡ true → b ≡ true → t ≡ true
from_unless true t h e = h
from_unless false t h e = absurd cc

found_one : {X : Type 0} (p : X → Bool) (d : X) (xs : List X) → list_any p xs ≡ true → IsIn (unwrap_or (find p xs) d) xs × (p (unwrap_or (find p xs) d) ≡ true)
found_one p d [] h = absurd cc
found_one {X} p d (x ∷ xs) h = go (found_one p d xs) (p x) refl h
  where
    go : (list_any p xs ≡ true → IsIn (unwrap_or (find p xs) d) xs × (p (unwrap_or (find p xs) d) ≡ true)) → (b : Bool) → p x ≡ b → (b || list_any p xs) ≡ true → IsIn (unwrap_or (cond b (Some x) (find p xs)) d) (x ∷ xs) × (p (unwrap_or (cond b (Some x) (find p xs)) d) ≡ true)
    go before true e h = (here, e)
    go before false e h = let k = before h in (later x k.0, k.1)

any_beside : (k : Bool) (p : Record → Bool) (xs : List Record) → k ≡ true → list_any p xs ≡ true → list_any (λ r. k && p r) xs ≡ true
any_beside k p xs e h = subst (λ b. list_any (λ r. b && p r) xs ≡ true) (sym e) h

module _ (K : ℕ → Bool) (records : List Record) where
  module _ (triples : List Ranked) (support : IsSupport records triples) (all : (t : Ranked) → IsIn t triples → K t.class ≡ true) where
    pub ranked_by_support : (m : ℕ) (t : Ranked) → IsIn t triples → t.rank < m → is_ranked K records m t.class ≡ true
    ranked_by_support zero t i less = absurd (omega (arith, less))
    ranked_by_support (suc m) t i less =
        let r = t.by_record in
        let rests = support.rests t i in
        let many : length (numbers r) ≡ length r.children = length-map r.children (λ (c : ℕ × Bool). c.0) in
        and_from (K t.class) (list_any (λ r. gives K records (λ d. is_ranked K records m d) t.class r) records) (all t i)
        (some_passes (λ r. gives K records (λ d. is_ranked K records m d) t.class r) (support.recorded t i)
        (and_from (r.parent == t.class) (list_all K (numbers r) && each_same_length r (λ d. is_ranked K records m d)) (eq-eqb r.parent t.class rests.own)
        (and_from (list_all K (numbers r)) (each_same_length r (λ d. is_ranked K records m d))
        (all_pass K (numbers r) (λ d j. let s = slot_of (numbers r) d j in let u = rests.child s.0 s.1 in subst (λ n. K n ≡ true) (u.2 ∙ s.2) (all u.0 u.1)))
        (all_pass (λ slot. not (has_same_length r slot) || is_ranked K records m (slice_index (numbers r) slot)) (range_with_len 0 (length r.children))
        (λ slot j.
        let within = IsIn-range_with_len 0 (length r.children) slot j in
        let u = rests.child slot (omega (arith, within, many)) in
        unless (has_same_length r slot) (is_ranked K records m (slice_index (numbers r) slot))
        (λ e. subst (λ d. is_ranked K records m d ≡ true) u.2 (ranked_by_support m u.0 u.1 (let lower = u.3 e in omega (arith, lower, less)))))))))

  -- what stands has a rank, where all that stands is kept
  pub ranked_if_stands : ((c : ℕ) → Stands records c → K c ≡ true) → (c : ℕ) → Stands records c → is_ranked K records (length records) c ≡ true
  ranked_if_stands all c s =
      let t = from_IsIn-map (λ (u : Ranked). u.class) s.triples s.there in
      let each : (u : Ranked) → IsIn u s.triples → K u.class ≡ true = λ u i. all u.class (record { triples = s.triples; support = s.support; there = IsIn-map (λ (v : Ranked). v.class) i }) in
      ranked_by_end K records (suc t.0.rank) c (subst (λ d. is_ranked K records (suc t.0.rank) d ≡ true) (sym t.2) (ranked_by_support s.triples s.support each (suc t.0.rank) t.0 t.1 (omega arith)))

  -- the triple of a class that has a rank
  abbrev blank : Record
  blank = record { parent = 0; shape = Nothing; children = [] }

  abbrev last_rank : ℕ → ℕ
  last_rank c = rank_after K records (length records) c

  unfoldable giving : ℕ → Record
  giving c = unwrap_or (find (gives_next K records (last_rank c - 1) c) records) blank

  abbrev triple : ℕ → Ranked
  triple c = record { class = c; by_record = giving c; rank = last_rank c }

  giving_gives : (c : ℕ) → is_ranked K records (length records) c ≡ true → IsIn (giving c) records × (gives_next K records (last_rank c - 1) c (giving c) ≡ true)
  unfolding giving
  giving_gives c h =
      let at = ranked_at_rank K records (length records) c h in
      let a = and_parts (K c) (list_any (λ r. gives K records (λ d. is_ranked K records (last_rank c - 1) d) c r) records) at in
      found_one (gives_next K records (last_rank c - 1) c) blank records (any_beside (K c) (λ r. gives K records (λ d. is_ranked K records (last_rank c - 1) d) c r) records a.0 a.1)

  module _ (classes : ℕ) (within : AreWithin classes records) (small : (c : ℕ) → K c ≡ true → c < classes) (ranked : (c : ℕ) → K c ≡ true → is_ranked K records (length records) c ≡ true) where
    abbrev kept_classes : List ℕ
    kept_classes = filter K (range_with_len 0 classes)

    is_kept : (c : ℕ) → K c ≡ true → IsIn c kept_classes
    is_kept c h = IsIn-filter K (in_range_with_len 0 classes c (omega arith) (omega (arith, small c h))) h

    abbrev kept_triples : List Ranked
    kept_triples = map triple kept_classes

    class_of_triple : (cs : List ℕ) → map (λ (t : Ranked). t.class) (map triple cs) ≡ cs
    class_of_triple [] = refl
    class_of_triple (c ∷ cs) = ap (λ (ds : List ℕ). c ∷ ds) (class_of_triple cs)

    rests_of : (c : ℕ) → K c ≡ true → RestsOn kept_triples (triple c)
    rests_of c h =
        let g = giving_gives c (ranked c h) in
        let r = giving c in
        let n = last_rank c - 1 in
        let a = and_parts (K c) (gives K records (λ d. is_ranked K records n d) c r) g.1 in
        let b = and_parts (r.parent == c) (list_all K (numbers r) && each_same_length r (λ d. is_ranked K records n d)) a.1 in
        let e = and_parts (list_all K (numbers r)) (each_same_length r (λ d. is_ranked K records n d)) b.1 in
        let many : length (numbers r) ≡ length r.children = length-map r.children (λ (d : ℕ × Bool). d.0) in
        let some = rank_some K records (length records) c (ranked c h) in
        record {
          own = eqb-true r.parent c b.0;
          child = λ slot l.
              let d = slice_index (numbers r) slot in
              let kd : K d ≡ true = each_passes K e.0 (in_at_slot (numbers r) slot l) in (
                triple d,
                IsIn-map triple (is_kept d kd),
                refl,
                λ t.
                    let here : is_ranked K records n d ≡ true = from_unless (has_same_length r slot) (is_ranked K records n d) (each_passes (λ s. not (has_same_length r s) || is_ranked K records n (slice_index (numbers r) s)) e.1 (in_range_with_len 0 (length r.children) slot (omega arith) (omega (arith, l, many)))) t in
                    let lower = rank_some K records n d here in
                    let same = rank_stays K records n (length records) d (omega (arith, some)) here in
                    omega (arith, lower, same.1, some),
              );
        }

    -- what is kept stands, where all that is kept has a rank
    pub stands_if_ranked : (c : ℕ) → K c ≡ true → Stands records c
    stands_if_ranked c h =
        record {
          triples = kept_triples;
          support = record {
            distinct = rw (class_of_triple kept_classes) (NoRepeats-filter K (NoRepeats-range_with_len 0 classes));
            recorded = λ t i. let k = from_IsIn-map triple kept_classes i in let f = from_IsIn-filter K (range_with_len 0 classes) k.1 in rw k.2 (giving_gives k.0 (ranked k.0 f.1)).0;
            rests = λ t i. let k = from_IsIn-map triple kept_classes i in let f = from_IsIn-filter K (range_with_len 0 classes) k.1 in subst (λ u. RestsOn kept_triples u) (sym k.2) (rests_of k.0 f.1);
          };
          there = IsIn-map (λ (t : Ranked). t.class) (IsIn-map triple (is_kept c h));
        }
