-- The closures that are found cell by cell are the finest factoring.
use Rattle.std.proofs.Common.{◌≡◌, ℕ, zero, suc, ◌+◌, ◌<◌, ◌≤◌, Bool, true, false, cond, List, [], ◌∷◌, ◌++◌, length, refl, sym, ap, ◌∙◌, subst, ⊎_elim, arith, append-nil}
use Rattle.std.specs.Prelude.{◌==◌, ◌&&◌, ◌||◌, not, map, nat_lt}
use Rattle.std.specs.List.{list_any}
use Rattle.std.specs.List.Sorted.{IsStrictlySortedBy}
use Rattle.std.specs.Cmp.{nat_cmp_is}
use Rattle.std.specs.Ordering.{nat_cmp, ordering_then, ordering_reverse}
use Rattle.std.specs.declared.cmp.Ordering.{Ordering}
use Rattle.std.specs.declared.cmp.Ordering.TheVariants.{Less, Equal, Greater}
use Rattle.std.specs.Cmp.Lexicographic.{slice_cmp, lists_total}
use Rattle.std.proofs.lemmas.Bool.Decides.{nat_tests}
use Rattle.std.proofs.lemmas.List.Kept.{IsStrictlySortedBy-filter}
use Rattle.std.proofs.Math.Bool.{and_comm}
use Rattle.lists.specs.Members.{IsIn}
use Rattle.lists.specs.Members.IsIn.{here, later}
use Rattle.lists.proofs.Members.{of_each, each_in, contained, is_in, first_or_later, only_in, IsIn-map, from_IsIn-map, IsIn-append_left, IsIn-append_right, IsIn-append_cases}
use Rattle.lists.proofs.Numbers.{Standing, standing, less_or_whole}
use Rattle.lists.proofs.Numbers.Standing.{less, more, even}
use Rattle.lists.proofs.Tests.{same_test, which_passes, some_passes, list_any-agree}
use Rattle.sequences.proofs.InOrder.{in_order-is}
use Rattle.gridded.specs.declared.cell.Cell.{Cell}
use Rattle.gridded.specs.Axes.{shares_line}
use Rattle.gridded.specs.CellSets.{is_among, IsCellSet, bit_of}
use Rattle.gridded.specs.Grids.{Point}
use Rattle.gridded.specs.Laws.{IsCellOf}
use Rattle.gridded.specs.Orders.{cell_eq, cell_cmp}
use Rattle.gridded.specs.OrderLaws.{cell_total}
use Rattle.gridded.specs.Places.{touches}
use Rattle.gridded.proofs.CellSets.{in_set, has_in}
use Rattle.gridded.proofs.Holding.{is_true}
use Rattle.tiling_core.specs.Tiles.{Tiles}
use Rattle.tiling_core.specs.Patterns.{active_cells}
use Rattle.rule_kinds.specs.Conditions.{bundles}
use Rattle.rule_kinds.specs.Choices.{grown, grown_times, closure, is_linked, finest_factoring}
use Rattle.rule_kinds.proofs.Closures.{closure_is_least}
use Rattle.factoring_law.proofs.Finer.{inside, one_closure}
use Rattle.factoring_law.proofs.Finest.{sets_exact}
use Rattle.factoring.specs.Leading.{newly_found}
use Rattle.factoring.specs.Numbered.{cell_of}
use Rattle.factoring.specs.Shares.{is_covered}
use Rattle.factoring.proofs.Numbers.{below_eight}
use Rattle.factoring.proofs.Shared.{clash, set_sorted}

-- ---- the order of cells by their numbers
less_by_number : (c d : Cell) → c.y < 8 → d.y < 8 → bit_of c < bit_of d → cell_cmp c d ≡ Less
less_by_number c d k l h = go (standing c.x d.x)
  where
    go : Standing c.x d.x → cell_cmp c d ≡ Less
    go (less m) = ap (λ o. ordering_then o (nat_cmp c.y d.y)) (sym (nat_cmp_is c.x d.x Less m))
    go (even e) = let lower : c.y < d.y = omega arith in λ i. ordering_then (sym (nat_cmp_is c.x d.x Equal e) i) (sym (nat_cmp_is c.y d.y Less lower) i)
    go (more m) = absurd (omega arith)

never_less : (o : Ordering) → o ≡ Less → o ≡ ordering_reverse o → ⊥
never_less Less e a = cc
never_less Equal e a = cc
never_less Greater e a = cc

one_way : (c d : Cell) → cell_cmp c d ≡ Less → cell_cmp d c ≡ Less → ⊥
one_way c d e f = never_less (cell_cmp c c) (cell_total.trans c d c e f) (cell_total.antisymm c c)

same_place : (c d : Cell) → c.y < 8 → d.y < 8 → bit_of c ≡ bit_of d → c ≡ d
same_place c d k l e =
    let x : c.x ≡ d.x = omega arith in
    let y : c.y ≡ d.y = omega arith in
    λ i. record { x = x i; y = y i }

-- the first cell of an ascending list has the least number
first_is_least : (c : Cell) (cells : List Cell) → IsStrictlySortedBy cell_cmp (c ∷ cells) → c.y < 8 → (d : Cell) → d.y < 8 → IsIn d (c ∷ cells) → bit_of c ≤ bit_of d
unfolding IsStrictlySortedBy
first_is_least c cells s k d l m = go (nat_lt (bit_of d) (bit_of c)) refl
  where
    go : (b : Bool) → nat_lt (bit_of d) (bit_of c) ≡ b → bit_of c ≤ bit_of d
    go false e = grind (arith, nat_tests, e)
    go true e =
        let lower : bit_of d < bit_of c = grind (arith, nat_tests, e) in
        ⊎_elim {C = bit_of c ≤ bit_of d} (λ f. let same : bit_of d ≡ bit_of c = ap (λ (x : Cell). bit_of x) f in omega arith)
        (λ i. absurd (one_way c d (of_each (λ x. cell_cmp c x ≡ Less) s.0 i) (less_by_number d c l k lower))) (first_or_later m)

-- ---- one more set at the end
one_at_end : {K : Type 0} (cmp : K → K → Ordering) (xs : List K) (y : K) → IsStrictlySortedBy cmp xs → ((x : K) → IsIn x xs → cmp x y ≡ Less) → IsStrictlySortedBy cmp (xs ++ y ∷ [])
unfolding IsStrictlySortedBy
one_at_end cmp [] y s h = (tt, tt)
one_at_end cmp (x ∷ xs) y s h = (
  each_in (λ z. cmp x z ≡ Less) (xs ++ y ∷ []) (λ z m. ⊎_elim {C = cmp x z ≡ Less} (λ i. of_each (λ w. cmp x w ≡ Less) s.0 i) (λ i. ap (cmp x) (only_in i) ∙ h x here) (IsIn-append_cases xs (y ∷ []) m)),
  one_at_end cmp xs y s.1 (λ z m. h z (later x m)),
)

-- ---- closures
last_round : (link : Cell → Cell → Bool) (cells : List Cell) (n : ℕ) (set : List Cell) → grown_times (suc n) link cells set ≡ grown link cells (grown_times n link cells set)
last_round link cells zero set = refl
last_round link cells (suc n) set = last_round link cells n (grown link cells set)

closure_sorted : (link : Cell → Cell → Bool) (cells : List Cell) (c : Cell) → IsStrictlySortedBy cell_cmp cells → IsIn c cells → IsStrictlySortedBy cell_cmp (closure link cells c)
closure_sorted link cells c s m = go (length cells) (some cells m)
  where
    some : (xs : List Cell) → IsIn c xs → 1 ≤ length xs
    some [] i = elim i [ ]
    some (x ∷ xs) i = omega arith

    go : (n : ℕ) → 1 ≤ n → IsStrictlySortedBy cell_cmp (grown_times n link cells (c ∷ []))
    go zero l = absurd (omega arith)
    go (suc n) l =
        subst (λ (set : List Cell). IsStrictlySortedBy cell_cmp set) (sym (last_round link cells n (c ∷ [])))
        (IsStrictlySortedBy-filter cell_cmp (λ d. list_any (λ x. cell_eq x d || link x d) (grown_times n link cells (c ∷ []))) cells s)

same_lines : (a b : ℕ) → (a == b) ≡ (b == a)
same_lines a b = same_test (a == b) (b == a) (λ e. turn a b e) (λ e. turn b a e)
  where
    turn : (x y : ℕ) → (x == y) ≡ true → (y == x) ≡ true
    turn x y e = grind (arith, nat_tests)

abbrev touch : Cell → List (List Point) → Bool
touch c bundle = list_any (touches (cell_eq c)) bundle

-- the link of a tiling goes both ways
link_back : (t : Tiles) (c d : Cell) → is_linked t c d ≡ true → is_linked t d c ≡ true
link_back t c d h =
    let lines : shares_line d c ≡ shares_line c d = λ i. same_lines d.x c.x i || same_lines d.y c.y i in
    let in_bundles : list_any (λ bundle. touch d bundle && touch c bundle) (bundles t) ≡ list_any (λ bundle. touch c bundle && touch d bundle) (bundles t) =
    list_any-agree (λ bundle. touch d bundle && touch c bundle) (λ bundle. touch c bundle && touch d bundle) (bundles t) (λ bundle _. and_comm (touch d bundle) (touch c bundle)) in
    (λ i. lines i || in_bundles i) ∙ h

abbrev closure_of : Tiles → Cell → List Cell
closure_of t c = closure (is_linked t) (active_cells t) c

-- a set that begins with a cell
abbrev BeginsWith : Cell → List Cell → Type 0
BeginsWith c set = (rest : List Cell) × (set ≡ c ∷ rest)

-- the sets are the closures of the active cells with numbers below one; each begins with such a cell
pub record IsFound (t : Tiles) (number : ℕ) (sets : List (List Cell)) : Type 0 where
  pub ascend : IsStrictlySortedBy (slice_cmp cell_cmp) sets
  pub each : (set : List Cell) → IsIn set sets → (c : Cell) × IsIn c (active_cells t) × (bit_of c < number) × (set ≡ closure_of t c) × BeginsWith c set
  pub there : (c : Cell) → IsIn c (active_cells t) → bit_of c < number → IsIn (closure_of t c) sets

none_ascend : IsStrictlySortedBy (slice_cmp cell_cmp) []
unfolding IsStrictlySortedBy
none_ascend = tt

nothing_yet : (t : Tiles) → IsFound t 0 []
nothing_yet t = record { ascend = none_ascend; each = λ set m. elim m [ ]; there = λ c m l. absurd (omega arith) }

pub nothing_found : (t : Tiles) (sets : List (List Cell)) → sets ≡ [] → IsFound t 0 sets
nothing_found t sets e = subst (λ (s : List (List Cell)). IsFound t 0 s) (sym e) (nothing_yet t)

module _ (t : Tiles) (kept : IsCellSet (active_cells t)) where
  low : (c : Cell) → IsIn c (active_cells t) → IsCellOf 8 8 c
  low c m = below_eight (active_cells t) c kept m

  own : (c : Cell) → IsIn c (active_cells t) → IsIn c (closure_of t c)
  own c m = in_set (closure_of t c) c (is_true _ (closure_is_least (is_linked t) (active_cells t) c m).begins)

  stays : (c d : Cell) → IsIn c (active_cells t) → IsIn d (closure_of t c) → IsIn d (active_cells t)
  stays c d m i = inside (is_linked t) (active_cells t) (link_back t) c d m i

  one : (c e d : Cell) → IsIn c (active_cells t) → IsIn e (active_cells t) → IsIn d (closure_of t c) → IsIn d (closure_of t e) → closure_of t c ≡ closure_of t e
  one c e d m n i j = one_closure (is_linked t) (active_cells t) (link_back t) c e d m n i j

  -- a cell in none of the sets begins its closure
  begins : (number : ℕ) (sets : List (List Cell)) → IsFound t number sets → (c : Cell) → IsIn c (active_cells t) → bit_of c ≡ number → is_covered sets c ≡ false → BeginsWith c (closure_of t c)
  begins number sets f c m n free = go (closure_of t c) refl
    where
      go : (set : List Cell) → closure_of t c ≡ set → BeginsWith c (closure_of t c)
      go [] e = let i : IsIn c [] = subst (λ (s : List Cell). IsIn c s) e (own c m) in elim i [ ]
      go (h ∷ rest) e =
          let there : IsIn h (closure_of t c) = subst (λ (s : List Cell). IsIn h s) (sym e) here in
          let active : IsIn h (active_cells t) = stays c h m there in
          let sorted : IsStrictlySortedBy cell_cmp (h ∷ rest) = subst (λ (s : List Cell). IsStrictlySortedBy cell_cmp s) e (closure_sorted (is_linked t) (active_cells t) c (set_sorted (active_cells t) kept) m) in
          let least : bit_of h ≤ bit_of c = first_is_least h rest sorted (low h active).1 c (low c m).1 (subst (λ (s : List Cell). IsIn c s) e (own c m)) in
          ⊎_elim {C = BeginsWith c (closure_of t c)}
          (λ l. let before : bit_of h < number = omega (arith, l) in
          let same : closure_of t c ≡ closure_of t h = one c h h m active there (own h active) in
          absurd (clash (some_passes (λ (set : List Cell). is_among set c) (f.there h active before) (has_in (closure_of t h) c (subst (λ (s : List Cell). IsIn c s) same (own c m)))) free))
          (λ l. let same : h ≡ c = same_place h c (low h active).1 (low c m).1 l in
          (rest, e ∙ ap (λ (x : Cell). x ∷ rest) same))
          (less_or_whole (bit_of h) (bit_of c) least)

  -- what is found below one number more
  at_most : (number : ℕ) (sets extra : List (List Cell)) → IsFound t number sets → (d : Cell) → IsIn d (active_cells t) → bit_of d < number + 1 → (bit_of d ≡ number → IsIn (closure_of t d) (sets ++ extra)) → IsIn (closure_of t d) (sets ++ extra)
  at_most number sets extra f d m l last = ⊎_elim {C = IsIn (closure_of t d) (sets ++ extra)} (λ k. IsIn-append_left extra (f.there d m k)) last (less_or_whole (bit_of d) number (omega (arith, l)))

  wider : (number : ℕ) (sets : List (List Cell)) → IsFound t number sets → ((d : Cell) → IsIn d (active_cells t) → bit_of d ≡ number → IsIn (closure_of t d) sets) → IsFound t (number + 1) (sets ++ [])
  wider number sets f last =
      let nothing : sets ++ [] ≡ sets = append-nil sets in
      record {
        ascend = subst (λ (s : List (List Cell)). IsStrictlySortedBy (slice_cmp cell_cmp) s) (sym nothing) f.ascend;
        each = λ set m. let k = f.each set (subst (λ (s : List (List Cell)). IsIn set s) nothing m) in (k.0, k.1, (let l = k.2 in omega (arith, l)), k.3, k.4);
        there = λ d m l. at_most number sets [] f d m l (λ e. IsIn-append_left [] (last d m e));
      }

  starts_later : (c d : Cell) (a b : List Cell) → BeginsWith c a → BeginsWith d b → cell_cmp c d ≡ Less → slice_cmp cell_cmp a b ≡ Less
  starts_later c d a b k l e = (λ i. slice_cmp cell_cmp (k.1 i) (l.1 i)) ∙ ap (λ o. ordering_then o (slice_cmp cell_cmp k.0 l.0)) e

  added : (number : ℕ) (sets : List (List Cell)) → IsFound t number sets → (c : Cell) → IsIn c (active_cells t) → bit_of c ≡ number → BeginsWith c (closure_of t c) → IsFound t (number + 1) (sets ++ closure_of t c ∷ [])
  added number sets f c m n first = record {
    ascend = one_at_end (slice_cmp cell_cmp) sets (closure_of t c) f.ascend
        (λ set i. let k = f.each set i in let before : bit_of k.0 < bit_of c = (let l = k.2 in omega (arith, l)) in
        starts_later k.0 c set (closure_of t c) k.4 first (less_by_number k.0 c (low k.0 k.1).1 (low c m).1 before));
    each = λ set i. ⊎_elim {C = (d : Cell) × IsIn d (active_cells t) × (bit_of d < number + 1) × (set ≡ closure_of t d) × BeginsWith d set}
        (λ j. let k = f.each set j in (k.0, k.1, (let l = k.2 in omega (arith, l)), k.3, k.4))
        (λ j. let same : set ≡ closure_of t c = only_in j in (c, m, (omega arith), same, (first.0, same ∙ first.1)))
        (IsIn-append_cases sets (closure_of t c ∷ []) i);
    there = λ d i l. at_most number sets (closure_of t c ∷ []) f d i l
        (λ e. let same : d ≡ c = same_place d c (low d i).1 (low c m).1 (e ∙ sym n) in
        IsIn-append_right sets (subst (λ (s : List Cell). IsIn s (closure_of t c ∷ [])) (ap (closure_of t) (sym same)) here));
  }

  number_of : (number : ℕ) → number < 64 → bit_of (cell_of number) ≡ number
  number_of number l = omega arith

  more_found : (number : ℕ) (sets : List (List Cell)) → number < 64 → IsFound t number sets → IsFound t (number + 1) (sets ++ newly_found t sets (cell_of number))
  more_found number sets l f = go (is_among (active_cells t) c) refl (is_covered sets c) refl
    where
      c : Cell
      c = cell_of number

      is_last : (d : Cell) → IsIn d (active_cells t) → bit_of d ≡ number → d ≡ c
      is_last d m e = same_place d c (low d m).1 (omega arith) (e ∙ sym (number_of number l))

      go : (a : Bool) → is_among (active_cells t) c ≡ a → (b : Bool) → is_covered sets c ≡ b → IsFound t (number + 1) (sets ++ cond (a && not b) (closure_of t c ∷ []) [])
      go false e b g = wider number sets f (λ d m n. absurd (clash (has_in (active_cells t) c (subst (λ (x : Cell). IsIn x (active_cells t)) (is_last d m n) m)) e))
      go true e true g = wider number sets f (λ d m n.
          let k = which_passes (λ (set : List Cell). is_among set c) sets g in
          let j = f.each k.0 k.1 in
          let same : d ≡ c = is_last d m n in
          let there : IsIn d (closure_of t j.0) = subst (λ (s : List Cell). IsIn d s) j.3 (subst (λ (x : Cell). IsIn x k.0) (sym same) (in_set k.0 c k.2)) in
          subst (λ (s : List Cell). IsIn s sets) (j.3 ∙ sym (one d j.0 d m j.1 (own d m) there)) k.1)
      go true e false g =
          let m : IsIn c (active_cells t) = in_set (active_cells t) c e in
          added number sets f c m (number_of number l) (begins number sets f c m (number_of number l) g)

  pub one_more_found : (number : ℕ) (before after : List (List Cell)) (c : Cell) → number < 64 → c ≡ cell_of number → IsFound t number before → after ≡ before ++ newly_found t before c → IsFound t (number + 1) after
  one_more_found number before after c l n f e =
      subst (λ (sets : List (List Cell)). IsFound t (number + 1) sets) (sym (e ∙ ap (λ (x : Cell). before ++ newly_found t before x) n)) (more_found number before l f)

  pub all_found : (sets : List (List Cell)) → IsFound t 64 sets → sets ≡ finest_factoring t
  all_found sets f = in_order-is (slice_cmp cell_cmp) (lists_total cell_total) sets_exact sets (map (closure_of t) (active_cells t)) (record {
    ascends = f.ascend;
    keeps = λ set h. contained (let k = from_IsIn-map (closure_of t) (active_cells t) (is_in (map (closure_of t) (active_cells t)) set h) in
        let few = low k.0 k.1 in
        subst (λ (s : List Cell). IsIn s sets) (sym k.2) (f.there k.0 k.1 (omega (arith, few.0, few.1))));
    adds_none = λ set h. contained (let k = f.each set (is_in sets set h) in subst (λ (s : List Cell). IsIn s (map (closure_of t) (active_cells t))) (sym k.3) (IsIn-map (closure_of t) k.1));
  })
