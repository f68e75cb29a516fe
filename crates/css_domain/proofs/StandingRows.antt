-- Which classes stand among small lists of records.
use Rattle.std.specs.Prelude.{◌≡◌, ◌<◌, IsTrue, slice_index, ℕ, zero, suc, true, false, nat_lt, List, [], ◌∷◌, refl, length}
use Rattle.std.proofs.Common.{arith}
use Rattle.std.proofs.lemmas.Bool.Decides.{nat_tests}
use Rattle.lists.specs.Members.IsIn.{here, later}
use Rattle.lists.specs.Members.NoRepeats.{no_element, one_more}
use Rattle.lists.proofs.Members.{none_in, from_IsIn-map}
use Rattle.lists.specs.Members.{IsIn, NoRepeats}
use Rattle.css_domain.specs.declared.shape.Shape.TheVariants.{Union, Atom}
use Rattle.css_domain.specs.declared.record.Record.{Record}
use Rattle.css_domain.specs.Records.{has_same_length, numbers}
use Rattle.css_domain.specs.Standing.{Ranked, RestsOn, IsSupport, Stands, TellsStanding}
use Rattle.css_domain.proofs.StandingLaws.{stands_by}
use Rattle.css_domain.proofs.Rows.{rec, records2, below}

-- the triples by which all three classes of the first list stand
abbrev pub triple : ℕ → Record → ℕ → Ranked
triple c r n = record { class = c; by_record = r; rank = n }

abbrev pub triples2 : List Ranked
triples2 = triple 0 (rec 0 Union ((1, false) ∷ (2, true) ∷ [])) 2 ∷ triple 1 (rec 1 (Atom 0) []) 1 ∷ triple 2 (rec 2 (Atom 1) []) 1 ∷ []

root_child : (slot : ℕ) → slot < 2 → (u : Ranked) × IsIn u triples2 × (u.class ≡ slice_index (1 ∷ 2 ∷ []) slot) × (IsTrue (has_same_length (rec 0 Union ((1, false) ∷ (2, true) ∷ [])) slot) → u.rank < 2)
root_child zero h = (triple 1 (rec 1 (Atom 0) []) 1, later _ here, refl, λ _. omega arith)
root_child (suc zero) h = (triple 2 (rec 2 (Atom 1) []) 1, later _ (later _ here), refl, λ _. omega arith)
root_child (suc (suc n)) h = absurd (omega (arith, h))

pub rests2 : (t : Ranked) → IsIn t triples2 → RestsOn triples2 t
rests2 t here = record { own = refl; child = root_child }
rests2 t (later y here) = record { own = refl; child = λ slot h. absurd (omega (arith, h)) }
rests2 t (later y (later z here)) = record { own = refl; child = λ slot h. absurd (omega (arith, h)) }
rests2 t (later y (later z (later u h))) = absurd (none_in h)

-- a class that rests on itself alone doesn't stand
abbrev pub looped : List Record
looped = rec 0 Union ((0, false) ∷ []) ∷ []

lower_by : (triples : List Ranked) (r : Record) (n : ℕ) → IsIn r looped → ((slot : ℕ) → slot < length (numbers r) → (u : Ranked) × IsIn u triples × (u.class ≡ slice_index (numbers r) slot) × (IsTrue (has_same_length r slot) → u.rank < n)) → (u : Ranked) × IsIn u triples × (u.rank < n)
lower_by triples r n here f = let g = f 0 (omega arith) in (g.0, g.1, g.3 refl)
lower_by triples r n (later y h) f = absurd (none_in h)

lower : (triples : List Ranked) (t : Ranked) → IsIn t.by_record looped → RestsOn triples t → (u : Ranked) × IsIn u triples × (u.rank < t.rank)
lower triples t h r = lower_by triples t.by_record t.rank h r.child

-- no list that supports itself by this record has a class
no_support : (triples : List Ranked) → IsSupport looped triples → (bound : ℕ) (t : Ranked) → IsIn t triples → t.rank < bound → ⊥
no_support triples s zero t h small = omega (arith, small)
no_support triples s (suc bound) t h small =
    let below = lower triples t (s.recorded t h) (s.rests t h) in no_support triples s bound below.0 below.1 (omega (arith, small, below.2))

-- nothing stands there
pub looped_falls : (c : ℕ) → Stands looped c → ⊥
looped_falls c s = let t = from_IsIn-map (λ (u : Ranked). u.class) s.triples s.there in no_support s.triples s.support (suc t.0.rank) t.0 t.1 (omega arith)

pub not_zero : IsIn {X = ℕ} 0 (1 ∷ 2 ∷ []) → ⊥
not_zero (later y (later z h)) = none_in h

pub not_one : IsIn {X = ℕ} 1 (2 ∷ []) → ⊥
not_one (later y h) = none_in h

pub recorded2 : (t : Ranked) → IsIn t triples2 → IsIn t.by_record records2
recorded2 t here = here
recorded2 t (later y here) = later _ here
recorded2 t (later y (later z here)) = later _ (later _ here)
recorded2 t (later y (later z (later u h))) = absurd (none_in h)

pub distinct2 : NoRepeats {X = ℕ} (0 ∷ 1 ∷ 2 ∷ [])
distinct2 = one_more not_zero (one_more not_one (one_more none_in no_element))

pub support2 : IsSupport records2 triples2
support2 = record { distinct = distinct2; recorded = recorded2; rests = rests2 }

pub stands2 : Stands records2 0
stands2 = record { triples = triples2; support = support2; there = here }

-- the classes with a record in the first list are below 3
parent_below : (r : Record) → IsIn r records2 → r.parent < 3
parent_below r here = omega arith
parent_below r (later x here) = omega arith
parent_below r (later x (later y here)) = omega arith
parent_below r (later x (later y (later z h))) = absurd (none_in h)

stands_each : (c : ℕ) → c < 3 → Stands records2 c
stands_each zero h = stands2
stands_each (suc zero) h = record { triples = triples2; support = support2; there = later _ here }
stands_each (suc (suc zero)) h = record { triples = triples2; support = support2; there = later _ (later _ here) }
stands_each (suc (suc (suc n))) h = absurd (omega (arith, h))

is_below : (c : ℕ) → Stands records2 c → c < 3
is_below c s = let b = stands_by records2 c s in omega (arith, parent_below b.by_record b.recorded, b.own)

lt_true : (c : ℕ) → c < 3 → IsTrue (nat_lt c 3)
lt_true c h = grind (arith, nat_tests)

true_lt : (c : ℕ) → IsTrue (nat_lt c 3) → c < 3
true_lt c h = grind (arith, nat_tests)

pub tells2 : TellsStanding records2 (below 3)
tells2 c = (λ h. stands_each c (true_lt c h), λ s. lt_true c (is_below c s))
