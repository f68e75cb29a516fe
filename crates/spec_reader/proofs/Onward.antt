-- What is built goes on with each line that is in range.
use Rattle.std.proofs.Common.{◌≡◌, ◌+◌, ◌<◌, ◌≤◌, ◌^◌, ℕ, zero, suc, Bool, true, false, cond, List, [], ◌∷◌, ◌++◌, length, refl, sym, ap, subst, ◌∙◌, arith, true≢false, append_assoc}
use Rattle.std.specs.Prelude.{Some, None, is_some, ◌==◌, ◌&&◌, nat_lt, nat_le, if◌then◌else◌, All}
use Rattle.std.specs.List.{list_all}
use Rattle.std.specs.List.Sorted.{IsStrictlySortedBy}
use Rattle.std.specs.Cmp.{first_so, second_so}
use Rattle.std.specs.Cmp.Lexicographic.{slice_cmp, lists_total}
use Rattle.std.proofs.lemmas.Bool.{and_from}
use Rattle.std.proofs.lemmas.Grind.{common_steps}
use Rattle.std.proofs.lemmas.List.{length-append}
use Rattle.std.proofs.lemmas.List.Elements.{All-nil, All-cons, All-push}
use Rattle.std.proofs.lemmas.Option.{none-some, same_Some}
use Rattle.gridded.specs.declared.cell.Cell.{Cell}
use Rattle.gridded.specs.Grids.{Point}
use Rattle.gridded.specs.Orders.{gridded_cmp, cells_of}
use Rattle.gridded.specs.OrderLaws.{gridded_total}
use Rattle.gridded.specs.Places.{fits_grid}
use Rattle.tiling_core.specs.Tiles.{IsInGrid}
use Rattle.spec_lines.specs.Forms.{Line, is_line, is_pattern, is_patterns, ascending}
use Rattle.spec_lines.specs.Forms.Line.{Entry as LineEntry, Grid as LineGrid, Obstructions as LineObstructions, Requirements as LineRequirements, Child as LineChild, Rule as LineRule, Terms as LineTerms, End as LineEnd}
use Rattle.spec_lines.specs.Follows.{Place, after, arity, entry_or_terms, child_or_next}
use Rattle.spec_lines.specs.Follows.Place.{AtFirst, AtBasis, AtRoot, AtCount, AtEntry, AtGrid, AtObstructions, AtRequirements, AtRule, AtChild, AtTerms, AtEnd, Done}
use Rattle.spec_lines.specs.Ranges.{seen_with, is_in_range, is_inside, is_short}
use Rattle.spec_lines.specs.Files.{lines_of_entries, lines_of_entry}
use Rattle.spec_lines.proofs.Ascents.{ascends_sorted}
use Rattle.line_readers.specs.Answers.{nothing_else}
use Rattle.spec_reader.specs.declared.values.LineValue.{LineValue}
use Rattle.spec_reader.specs.declared.values.LineValue.TheVariants as value
use Rattle.spec_reader.specs.Drafts.{Built, drafted, start_lines, done_lines, seen_of, AreParts, is_child, begun_entry, ended, with_value, taken}
use Rattle.spec_reader.specs.Kept.{AreChildren, IsCounted, IsSound, IsWhole}
use Rattle.spec_reader.specs.Values.{value_of}
use Rattle.spec_reader.proofs.Grown.{one_more_entry, child_added}

-- ====== patterns in the grid, ascending ======
in_grid : (w h : ℕ) (patterns : List (List Point)) → list_all (λ g. is_inside w h g) patterns ≡ true → IsInGrid w h patterns
in_grid w h [] e = All-nil _
in_grid w h (g ∷ gs) e =
    All-cons (λ x. fits_grid w h x ≡ true) g gs
    (second_so (is_short g) (list_all (λ c. nat_lt c.x w && nat_lt c.y h) (cells_of g)) (first_so (is_inside w h g) (list_all (λ x. is_inside w h x) gs) e))
    (in_grid w h gs (second_so (is_inside w h g) (list_all (λ x. is_inside w h x) gs) e))

all_in_grid : (w h : ℕ) (lists : List (List (List Point))) → list_all (λ patterns. list_all (λ g. is_inside w h g) patterns) lists ≡ true → All (λ patterns. IsInGrid w h patterns) lists
all_in_grid w h [] e = All-nil _
all_in_grid w h (l ∷ ls) e =
    let first = list_all (λ g. is_inside w h g) l in
    let others = list_all (λ patterns. list_all (λ g. is_inside w h g) patterns) ls in
    All-cons (λ x. IsInGrid w h x) l ls (in_grid w h l (first_so first others e)) (all_in_grid w h ls (second_so first others e))

sorted_patterns : (patterns : List (List Point)) → is_patterns patterns ≡ true → IsStrictlySortedBy gridded_cmp patterns
sorted_patterns patterns e = ascends_sorted gridded_cmp gridded_total patterns (second_so (list_all is_pattern patterns) (ascending gridded_cmp patterns) e)

each_sorted : (lists : List (List (List Point))) → list_all is_patterns lists ≡ true → All (λ patterns. IsStrictlySortedBy gridded_cmp patterns) lists
each_sorted [] e = All-nil _
each_sorted (l ∷ ls) e = All-cons (λ x. IsStrictlySortedBy gridded_cmp x) l ls (sorted_patterns l (first_so (is_patterns l) (list_all is_patterns ls) e)) (each_sorted ls (second_so (is_patterns l) (list_all is_patterns ls) e))

lists_sorted : (lists : List (List (List Point))) → ascending (slice_cmp gridded_cmp) lists ≡ true → IsStrictlySortedBy (slice_cmp gridded_cmp) lists
lists_sorted lists e = ascends_sorted (slice_cmp gridded_cmp) (lists_total gridded_total) lists e

at_most : (n m : ℕ) → nat_le n m ≡ true → n ≤ m
at_most n m e = grind (arith, common_steps, e)

below : (n m : ℕ) → nat_lt n m ≡ true → n < m
below n m e = grind (arith, common_steps, e)

blank_parts : (w h : ℕ) → w ≤ 8 → h ≤ 8 → AreParts w h [] []
blank_parts w h narrow low = record {
  narrow = narrow;
  low = low;
  obstructions_in = All-nil _;
  requirements_in = All-nil _;
  obstructions_ascend = sorted_patterns [] refl;
  each_ascends = All-nil _;
  requirements_ascend = lists_sorted [] refl;
}

-- ====== an entry that ends ======
pub record GoesOn (p q : Place) (v : LineValue) (b : Built) : Type 0 where
  pub sound : IsSound q (taken v (is_child q) b)
  pub seen : seen_of (taken v (is_child q) b) ≡ seen_with (seen_of b) (value_of v)
  pub lines : drafted q (taken v (is_child q) b) ≡ drafted p b ++ value_of v ∷ []

end_lines : (b : Built) → start_lines b ++ lines_of_entries 0 (b.entries ++ begun_entry b ∷ []) ≡ done_lines b ++ lines_of_entry (length b.entries) (begun_entry b)
end_lines b =
    let same : 0 + length b.entries ≡ length b.entries = omega arith in
    ap (λ ls. start_lines b ++ ls) (one_more_entry 0 b.entries (begun_entry b) ∙ ap (λ n. lines_of_entries 0 b.entries ++ lines_of_entry n (begun_entry b)) same)
    ∙ sym (append_assoc (start_lines b) (lines_of_entries 0 b.entries) (lines_of_entry (length b.entries) (begun_entry b)))

pub record Ends (i left : ℕ) (b : Built) : Type 0 where
  pub sound : IsSound (entry_or_terms (suc i) left) (ended b)
  pub not_child : is_child (entry_or_terms (suc i) left) ≡ false
  pub lines : drafted (entry_or_terms (suc i) left) (ended b) ≡ done_lines b ++ lines_of_entry (length b.entries) (begun_entry b)

ending : (i left : ℕ) (b : Built) → b.count ≤ 4294967296 → IsCounted i left b → All (λ e. IsWhole b.count e) b.entries → IsWhole b.count (begun_entry b) → Ends i left b
ending i zero b few k each own = record {
  sound = record {
    built = let n = length-append b.entries (begun_entry b ∷ []) in omega (arith, n, k.many, k.count);
    each = All-push (λ x. IsWhole b.count x) b.entries (begun_entry b) each own;
    few = few;
  };
  not_child = refl;
  lines = end_lines b;
}
ending i (suc left) b few k each own = record {
  sound = record {
    built = record { many = let n = length-append b.entries (begun_entry b ∷ []) in omega (arith, n, k.many); count = omega (arith, k.count) };
    each = All-push (λ x. IsWhole b.count x) b.entries (begun_entry b) each own;
    few = few;
  };
  not_child = refl;
  lines = end_lines b;
}

entry_ends : (i left : ℕ) (p : Place) (v : LineValue) (b b1 : Built) → ((goes_on : Bool) → goes_on ≡ false → taken v goes_on b ≡ ended b1) → seen_of (ended b1) ≡ seen_with (seen_of b) (value_of v) → Ends i left b1 → done_lines b1 ++ lines_of_entry (length b1.entries) (begun_entry b1) ≡ drafted p b ++ value_of v ∷ [] → GoesOn p (entry_or_terms (suc i) left) v b
entry_ends i left p v b b1 is seen k lines =
    let q = entry_or_terms (suc i) left in
    let same = sym (is (is_child q) k.not_child) in
    record {
      sound = subst (λ x. IsSound q x) same k.sound;
      seen = ap (λ x. seen_of x) (sym same) ∙ seen;
      lines = ap (λ x. drafted q x) (sym same) ∙ k.lines ∙ lines;
    }

-- ====== a rule and its children ======
abbrev front_lines : Built → List Line
front_lines b = LineEntry (length b.entries) b.rank ∷ LineGrid b.width b.height ∷ LineObstructions b.obstructions ∷ LineRequirements b.requirements ∷ []

rule_ends : (k : _) (goes_on : Bool) (b : Built) → goes_on ≡ false → taken (value.Rule k) goes_on b ≡ ended (with_value (value.Rule k) b)
rule_ends k goes_on b e = ap (λ g. cond g (with_value (value.Rule k) b) (ended (with_value (value.Rule k) b))) e

child_ends : (c : ℕ) (t : _) (goes_on : Bool) (b : Built) → goes_on ≡ false → taken (value.Child c t) goes_on b ≡ ended (with_value (value.Child c t) b)
child_ends c t goes_on b e = ap (λ g. cond g (with_value (value.Child c t) b) (ended (with_value (value.Child c t) b))) e

no_children : (count : ℕ) → AreChildren count [] []
no_children count = record { as_many = refl; below = All-nil _ }

on_rule : (i left n : ℕ) (k : _) (b : Built) → IsSound (AtRule i left) b → GoesOn (AtRule i left) (child_or_next i left n) (value.Rule k) b
on_rule i left (suc n) k b s = record {
  sound = record { built = (record { counted = record { many = s.built.counted.many; count = s.built.counted.count }; parts = s.built.parts }, no_children b.count); each = s.each; few = s.few };
  seen = refl;
  lines = sym (append_assoc (done_lines b) (front_lines b) (LineRule k ∷ []));
}
on_rule i left zero k b s =
    let b1 = with_value (value.Rule k) b in
    entry_ends i left (AtRule i left) (value.Rule k) b b1 (λ g e. rule_ends k g b e) refl
    (ending i left b1 s.few (record { many = s.built.counted.many; count = s.built.counted.count }) s.each (no_children b.count, s.built.parts))
    (sym (append_assoc (done_lines b) (front_lines b) (LineRule k ∷ [])))

more_children : (c : ℕ) (t : _) (b : Built) → c < b.count → AreChildren b.count b.children b.traces → AreChildren b.count (b.children ++ c ∷ []) (b.traces ++ t ∷ [])
more_children c t b less k = record {
  as_many = let m = length-append b.traces (t ∷ []) in let n = length-append b.children (c ∷ []) in omega (arith, m, n, k.as_many);
  below = All-push (λ x. x < b.count) b.children c k.below less;
}

child_lines : (c : ℕ) (t : _) (b : Built) (i left more : ℕ) → AreChildren b.count b.children b.traces → done_lines b ++ lines_of_entry (length b.entries) (begun_entry (with_value (value.Child c t) b)) ≡ drafted (AtChild i left more) b ++ value_of (value.Child c t) ∷ []
child_lines c t b i left more k =
    child_added (done_lines b) (LineEntry (length b.entries) b.rank) (LineGrid b.width b.height) (LineObstructions b.obstructions) (LineRequirements b.requirements) (LineRule b.kind)
    b.children (b.children ++ c ∷ []) b.traces (b.traces ++ t ∷ []) c t refl refl k.as_many

on_child : (i left more n : ℕ) (c : ℕ) (t : _) (b : Built) → c < b.count → IsSound (AtChild i left more) b → GoesOn (AtChild i left more) (child_or_next i left n) (value.Child c t) b
on_child i left more (suc n) c t b less s = record {
  sound = record { built = (record { counted = record { many = s.built.0.counted.many; count = s.built.0.counted.count }; parts = s.built.0.parts }, more_children c t b less s.built.1); each = s.each; few = s.few };
  seen = refl;
  lines = child_lines c t b i left more s.built.1;
}
on_child i left more zero c t b less s =
    let b1 = with_value (value.Child c t) b in
    entry_ends i left (AtChild i left more) (value.Child c t) b b1 (λ g e. child_ends c t g b e) refl
    (ending i left b1 s.few (record { many = s.built.0.counted.many; count = s.built.0.counted.count }) s.each (more_children c t b less s.built.1, s.built.0.parts))
    (child_lines c t b i left more s.built.1)

-- ====== any line ======
equal_numbers : (n m : ℕ) → (n == m) ≡ true → n ≡ m
equal_numbers n m e = grind (arith, common_steps, e)

right_number : (b : Bool) (x q : Place) → (if b then Some x else None) ≡ Some q → (b ≡ true) × (x ≡ q)
right_number true x q e = (refl, same_Some x q e)
right_number false x q e = absurd (none-some q e)

some_count : (n : ℕ) → is_in_range (record { entries = 0; width = 0; height = 0 }) (value_of (value.Count n)) ≡ true → 1 ≤ n
some_count n e = at_most 1 n (first_so (nat_le 1 n) (nat_le n 100000) e)

on_count : (n : ℕ) (b : Built) → 1 ≤ n → n ≤ 100000 → IsSound AtCount b → GoesOn AtCount (entry_or_terms 0 n) (value.Count n) b
on_count zero b some most s = absurd (omega (arith, some))
on_count (suc n) b some most s = record {
  sound = record {
    built = record { many = ap length s.built; count = omega arith };
    each = subst (λ es. All (λ e. IsWhole (suc n) e) es) (sym s.built) (All-nil _);
    few = omega (arith, most);
  };
  seen = refl;
  lines = ap (λ es. start_lines (with_value (value.Count (suc n)) b) ++ lines_of_entries 0 es) s.built;
}

on_entry : (i left number rank : ℕ) (b : Built) → i ≡ number → IsSound (AtEntry i left) b → GoesOn (AtEntry i left) (AtGrid i left) (value.Entry number rank) b
on_entry i left number rank b e s = record {
  sound = record { built = record { many = s.built.many; count = s.built.count }; each = s.each; few = s.few };
  seen = refl;
  lines = ap (λ n. done_lines b ++ LineEntry n rank ∷ []) (s.built.many ∙ e);
}

pub on : (p q : Place) (v : LineValue) (b : Built) → after p (value_of v) ≡ Some q → is_line (value_of v) ≡ true → is_in_range (seen_of b) (value_of v) ≡ true → IsSound p b → GoesOn p q v b
on AtFirst q value.First b e l r s = subst (λ x. GoesOn AtFirst x value.First b) (same_Some AtBasis q e) (record { sound = record { built = s.built; each = s.each; few = s.few }; seen = refl; lines = refl })
on AtBasis q (value.Basis words) b e l r s = subst (λ x. GoesOn AtBasis x (value.Basis words) b) (same_Some AtRoot q e) (record { sound = record { built = s.built; each = s.each; few = s.few }; seen = refl; lines = refl })
on AtRoot q (value.Root trace) b e l r s = subst (λ x. GoesOn AtRoot x (value.Root trace) b) (same_Some AtCount q e) (record { sound = record { built = s.built; each = s.each; few = s.few }; seen = refl; lines = refl })
on AtCount q (value.Count n) b e l r s = subst (λ x. GoesOn AtCount x (value.Count n) b) (same_Some (entry_or_terms 0 n) q e) (on_count n b (some_count n r) (at_most n 100000 (second_so (nat_le 1 n) (nat_le n 100000) r)) s)
on (AtEntry i left) q (value.Entry number rank) b e l r s =
    let k = right_number (i == number) (AtGrid i left) q e in
    subst (λ x. GoesOn (AtEntry i left) x (value.Entry number rank) b) k.1 (on_entry i left number rank b (equal_numbers i number k.0) s)
on (AtGrid i left) q (value.Grid w h) b e l r s =
    subst (λ x. GoesOn (AtGrid i left) x (value.Grid w h) b) (same_Some (AtObstructions i left) q e) (record {
      sound = record {
        built = (record { many = s.built.many; count = s.built.count }, blank_parts w h (at_most w 8 (first_so (nat_le w 8) (nat_le h 8) r)) (at_most h 8 (second_so (nat_le w 8) (nat_le h 8) r)));
        each = s.each;
        few = s.few;
      };
      seen = refl;
      lines = sym (append_assoc (done_lines b) (LineEntry (length b.entries) b.rank ∷ []) (LineGrid w h ∷ []));
    })
on (AtObstructions i left) q (value.Obstructions patterns) b e l r s =
    subst (λ x. GoesOn (AtObstructions i left) x (value.Obstructions patterns) b) (same_Some (AtRequirements i left) q e) (record {
      sound = record {
        built = (
          record { many = s.built.0.many; count = s.built.0.count },
          record {
            narrow = s.built.1.narrow;
            low = s.built.1.low;
            obstructions_in = in_grid b.width b.height patterns r;
            requirements_in = All-nil _;
            obstructions_ascend = sorted_patterns patterns l;
            each_ascends = All-nil _;
            requirements_ascend = lists_sorted [] refl;
          },
        );
        each = s.each;
        few = s.few;
      };
      seen = refl;
      lines = sym (append_assoc (done_lines b) (LineEntry (length b.entries) b.rank ∷ LineGrid b.width b.height ∷ []) (LineObstructions patterns ∷ []));
    })
on (AtRequirements i left) q (value.Requirements lists) b e l r s =
    subst (λ x. GoesOn (AtRequirements i left) x (value.Requirements lists) b) (same_Some (AtRule i left) q e) (record {
      sound = record {
        built = record {
          counted = record { many = s.built.0.many; count = s.built.0.count };
          parts = record {
            narrow = s.built.1.narrow;
            low = s.built.1.low;
            obstructions_in = s.built.1.obstructions_in;
            requirements_in = all_in_grid b.width b.height lists r;
            obstructions_ascend = s.built.1.obstructions_ascend;
            each_ascends = each_sorted lists (first_so (list_all is_patterns lists) (ascending (slice_cmp gridded_cmp) lists) l);
            requirements_ascend = lists_sorted lists (second_so (list_all is_patterns lists) (ascending (slice_cmp gridded_cmp) lists) l);
          };
        };
        each = s.each;
        few = s.few;
      };
      seen = refl;
      lines = sym (append_assoc (done_lines b) (LineEntry (length b.entries) b.rank ∷ LineGrid b.width b.height ∷ LineObstructions b.obstructions ∷ []) (LineRequirements lists ∷ []));
    })
on (AtRule i left) q (value.Rule k) b e l r s = subst (λ x. GoesOn (AtRule i left) x (value.Rule k) b) (same_Some (child_or_next i left (arity k)) q e) (on_rule i left (arity k) k b s)
on (AtChild i left more) q (value.Child c t) b e l r s = subst (λ x. GoesOn (AtChild i left more) x (value.Child c t) b) (same_Some (child_or_next i left more) q e) (on_child i left more more c t b (below c b.count r) s)
on AtTerms q (value.Terms terms) b e l r s = subst (λ x. GoesOn AtTerms x (value.Terms terms) b) (same_Some AtEnd q e) (record { sound = record { built = s.built; each = s.each; few = s.few }; seen = refl; lines = refl })
on AtEnd q value.End b e l r s = subst (λ x. GoesOn AtEnd x value.End b) (same_Some Done q e) (record { sound = record { built = s.built; each = s.each; few = s.few }; seen = refl; lines = sym (append_assoc (done_lines b) (LineTerms b.terms ∷ []) (LineEnd ∷ [])) })
on p q v b e l r s = absurd (none-some q e)

-- ====== out of any range ======
contra : (x y : Bool) → (y ≡ true → x ≡ true) → x ≡ false → y ≡ false
contra x true f e = absurd (true≢false (sym (f refl) ∙ e))
contra x false f e = refl

wider : (w h x y : ℕ) → w ≤ 8 → h ≤ 8 → (nat_lt x w && nat_lt y h) ≡ true → (nat_lt x 10 && nat_lt y 10) ≡ true
wider w h x y narrow low e =
    let a = below x w (first_so (nat_lt x w) (nat_lt y h) e) in
    let b = below y h (second_so (nat_lt x w) (nat_lt y h) e) in
    and_from (nat_lt x 10) (nat_lt y 10) (less x 10 (omega (arith, a, narrow))) (less y 10 (omega (arith, b, low)))
  where
    less : (n m : ℕ) → n < m → nat_lt n m ≡ true
    less n m e = grind (arith, common_steps, e)

wider_cells : (w h : ℕ) (cells : List Cell) → w ≤ 8 → h ≤ 8 → list_all (λ c. nat_lt c.x w && nat_lt c.y h) cells ≡ true → list_all (λ c. nat_lt c.x 10 && nat_lt c.y 10) cells ≡ true
wider_cells w h [] narrow low e = refl
wider_cells w h (c ∷ cells) narrow low e =
    let test = nat_lt c.x w && nat_lt c.y h in
    let others = list_all (λ d. nat_lt d.x w && nat_lt d.y h) cells in
    and_from (nat_lt c.x 10 && nat_lt c.y 10) (list_all (λ d. nat_lt d.x 10 && nat_lt d.y 10) cells) (wider w h c.x c.y narrow low (first_so test others e)) (wider_cells w h cells narrow low (second_so test others e))

wider_patterns : (w h : ℕ) (gs : List (List Point)) → w ≤ 8 → h ≤ 8 → list_all (λ g. is_inside w h g) gs ≡ true → list_all (λ g. is_inside 10 10 g) gs ≡ true
wider_patterns w h [] narrow low e = refl
wider_patterns w h (g ∷ gs) narrow low e =
    let one = first_so (is_inside w h g) (list_all (λ x. is_inside w h x) gs) e in
    let cells = list_all (λ c. nat_lt c.x w && nat_lt c.y h) (cells_of g) in
    and_from (is_inside 10 10 g) (list_all (λ x. is_inside 10 10 x) gs)
    (and_from (is_short g) (list_all (λ c. nat_lt c.x 10 && nat_lt c.y 10) (cells_of g)) (first_so (is_short g) cells one) (wider_cells w h (cells_of g) narrow low (second_so (is_short g) cells one)))
    (wider_patterns w h gs narrow low (second_so (is_inside w h g) (list_all (λ x. is_inside w h x) gs) e))

wider_lists : (w h : ℕ) (ls : List (List (List Point))) → w ≤ 8 → h ≤ 8 → list_all (λ gs. list_all (λ g. is_inside w h g) gs) ls ≡ true → list_all (λ gs. list_all (λ g. is_inside 10 10 g) gs) ls ≡ true
wider_lists w h [] narrow low e = refl
wider_lists w h (l ∷ ls) narrow low e =
    let one = list_all (λ g. is_inside w h g) l in
    let others = list_all (λ gs. list_all (λ g. is_inside w h g) gs) ls in
    and_from (list_all (λ g. is_inside 10 10 g) l) (list_all (λ gs. list_all (λ g. is_inside 10 10 g) gs) ls) (wider_patterns w h l narrow low (first_so one others e)) (wider_lists w h ls narrow low (second_so one others e))

wider_child : (c n : ℕ) → n ≤ 4294967296 → nat_lt c n ≡ true → nat_lt c (2 ^ 32) ≡ true
wider_child c n few e = let a = below c n e in less c (omega (arith, a, few))
  where
    less : (m : ℕ) → m < 4294967296 → nat_lt m 4294967296 ≡ true
    less m e = grind (arith, common_steps, e)

-- what is out of any range is out of that which the lines before it tell
pub beyond : (p : Place) (l : Line) (b : Built) → is_some (after p l) ≡ true → IsSound p b → is_in_range nothing_else l ≡ false → is_in_range (seen_of b) l ≡ false
beyond (AtObstructions i left) (LineObstructions gs) b leads s e = contra (list_all (λ g. is_inside 10 10 g) gs) (list_all (λ g. is_inside b.width b.height g) gs) (wider_patterns b.width b.height gs s.built.1.narrow s.built.1.low) e
beyond (AtRequirements i left) (LineRequirements ls) b leads s e = contra (list_all (λ gs. list_all (λ g. is_inside 10 10 g) gs) ls) (list_all (λ gs. list_all (λ g. is_inside b.width b.height g) gs) ls) (wider_lists b.width b.height ls s.built.1.narrow s.built.1.low) e
beyond (AtChild i left more) (LineChild c t) b leads s e = contra (nat_lt c (2 ^ 32)) (nat_lt c b.count) (wider_child c b.count s.few) e
beyond p (LineObstructions gs) b leads s e = absurd (true≢false (sym leads))
beyond p (LineRequirements ls) b leads s e = absurd (true≢false (sym leads))
beyond p (LineChild c t) b leads s e = absurd (true≢false (sym leads))
beyond p l b leads s e = e
