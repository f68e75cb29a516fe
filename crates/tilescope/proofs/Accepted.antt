-- What a search writes of a specification is accepted.
use Rattle.std.proofs.Common.{◌≡◌, ◌≤◌, ◌<◌, ◌+◌, ◌^◌, ℕ, zero, suc, Bool, true, false, List, [], ◌∷◌, length, take, refl, sym, ap, ◌∙◌, subst, arith, Some, None}
use Rattle.std.specs.Prelude.{map, Option, option_map, slice_get, slice_index, IsTrue, nat_lt, if◌then◌else◌, find, unwrap_or}
use Rattle.std.specs.List.{range_with_len, AllByRecursion, position_or_len}
use Rattle.std.proofs.lemmas.List.{length-map}
use Rattle.std.proofs.lemmas.List.Elements.{All-from_recursion}
use Rattle.lists.specs.Members.{IsIn}
use Rattle.lists.specs.Members.IsIn.{here, later}
use Rattle.lists.proofs.Members.{IsIn-map, from_IsIn-map}
use Rattle.lists.proofs.Injections.{length-le_from_injection}
use Rattle.lists.proofs.Places.{found_is_in, partner_of}
use Rattle.lists.proofs.Ranges.{IsIn-range_with_len}
use Rattle.lists.proofs.Added.{position_of}
use Rattle.perm_core.specs.Basis.{IsBasis}
use Rattle.patterns.specs.Occurs.{avoiders}
use Rattle.tiling_core.specs.Tiles.{Tiles}
use Rattle.tiling_core.specs.Roots.{root_of}
use Rattle.tiling_core.specs.Same.{tiles_eq, tiles_eq_decides}
use Rattle.normal_form.specs.TraceLaws.{trace}
use Rattle.css_domain.specs.declared.record.Record.{Record}
use Rattle.css_domain.specs.Entries.{Entry, IsLinked, class_counts}
use Rattle.css_domain.specs.LedgerFacts.{IsLedger}
use Rattle.css_domain.specs.Ledgers.{classes, done, records}
use Rattle.css_domain.specs.Standing.{rank_of, is_ranked}
use Rattle.css_domain.proofs.Within.{block_of}
use Rattle.css_domain.proofs.Classes.{block_class}
use Rattle.css_domain.proofs.Filings.{firsts}
use Rattle.css_domain.proofs.Sizes.{few_rules}
use Rattle.css_terms.specs.Terms.{capped, cut, terms_to}
use Rattle.css_terms.specs.declared.term.Term.{Term}
use Rattle.css_terms.specs.declared.term.Term.TheVariants.{Exact, Big}
use Rattle.basis_terms.specs.BasisTerms.{terms_of}
use Rattle.rule_kinds.specs.Rules.{TilingRule}
use Rattle.tile_rules.specs.Meaning.{tile_meaning}
use Rattle.spec_lines.specs.Ranges.{is_term_in_range}
use Rattle.spec_text.specs.Files.{ends_at_big, IsKeptSpec, KeptSpecsAreSpelled}
use Rattle.spec_text.specs.Joined.{IsJoined, class_at}
use Rattle.spec_text.specs.Texts.{spec_text}
use Rattle.spec_checker.specs.Accepting.{Accepts, capped_counts}
use Rattle.tilescope.specs.Searches.{TileBooks, TileEntries, IsReducedRoot, IsSpecOf}

own : (t : Tiles) → tiles_eq t t ≡ true
own t = (tiles_eq_decides t t).1 refl

exact : (s t : Tiles) → tiles_eq s t ≡ true → s ≡ t
exact s t = (tiles_eq_decides s t).0

-- ---- terms
cut_short : (ts : List Term) → length (cut ts) ≤ length ts
cut_short [] = omega arith
cut_short (Exact n ∷ ts) = let s = cut_short ts in omega arith
cut_short (Big ∷ ts) = omega arith

cut_some : (ts : List Term) → 1 ≤ length ts → 1 ≤ length (cut ts)
cut_some [] h = h
cut_some (Exact n ∷ ts) h = omega arith
cut_some (Big ∷ ts) h = omega arith

cut_last : (ts : List Term) → ends_at_big (cut ts) ≡ true
cut_last [] = refl
cut_last (Exact n ∷ ts) = cut_last ts
cut_last (Big ∷ ts) = refl

cut_each : (P : Term → Type 0) (ts : List Term) → AllByRecursion P ts → AllByRecursion P (cut ts)
cut_each P [] h = tt
cut_each P (Exact n ∷ ts) h = (h.0, cut_each P ts h.1)
cut_each P (Big ∷ ts) h = (h.0, tt)

cut_again : (ts : List Term) → cut (take (length (cut ts)) ts) ≡ cut ts
cut_again [] = refl
cut_again (Exact n ∷ ts) = ap (λ (rest : List Term). Exact n ∷ rest) (cut_again ts)
cut_again (Big ∷ ts) = refl

capped_in_range : (n : ℕ) → is_term_in_range (capped n) ≡ true
capped_in_range n = go (nat_lt n (2 ^ 128)) refl
  where
    go : (b : Bool) → nat_lt n (2 ^ 128) ≡ b → is_term_in_range (if b then Exact n else Big) ≡ true
    go true e = e
    go false e = refl

each_capped : (f : ℕ → ℕ) (ns : List ℕ) → AllByRecursion (λ x. IsTrue (is_term_in_range x)) (map (λ n. capped (f n)) ns)
each_capped f [] = tt
each_capped f (n ∷ ns) = (capped_in_range (f n), each_capped f ns)

first_of_range : (f : ℕ → Term) (m n a : ℕ) → m ≤ n → map f (range_with_len a m) ≡ take m (map f (range_with_len a n))
first_of_range f zero n a h = refl
first_of_range f (suc m) zero a h = absurd (omega (arith, h))
first_of_range f (suc m) (suc n) a h = ap (λ (rest : List Term). f a ∷ rest) (first_of_range f m n (a + 1) (omega (arith, h)))

length-range : (n a : ℕ) → length (range_with_len a n) ≡ n
length-range zero a = refl
length-range (suc n) a = let i = length-range n (a + 1) in omega arith

module _ (last : ℕ) (f : ℕ → ℕ) where
  all_terms : List Term
  all_terms = map (λ n. capped (f n)) (range_with_len 0 (suc last))

  as_many : length all_terms ≡ suc last
  unfolding all_terms
  as_many = length-map (range_with_len 0 (suc last)) (λ n. capped (f n)) ∙ length-range (suc last) 0

  pub few_terms : length (terms_to last f) ≤ suc last
  unfolding all_terms
  few_terms = let s = cut_short all_terms in let m = as_many in omega (arith, s, m)

  pub some_terms : 1 ≤ length (terms_to last f)
  unfolding all_terms
  some_terms = cut_some all_terms (let m = as_many in omega (arith, m))

  -- the terms are those for as many lengths as there are terms
  pub terms_again : terms_to last f ≡ cut (map (λ n. capped (f n)) (range_with_len 0 (length (terms_to last f))))
  unfolding all_terms
  terms_again = sym (ap cut (first_of_range (λ n. capped (f n)) (length (terms_to last f)) (suc last) 0 few_terms) ∙ cut_again all_terms)

-- ---- entries
-- rules that are linked are joined
joined_lists : (entries : TileEntries) (xs : List Tiles) (ks : List ℕ) → length ks ≡ length xs → ((slot : ℕ) → slot < length ks → (named : Entry Tiles TilingRule) × (slice_get entries (slice_index ks slot) ≡ Some named) × (slice_get xs slot ≡ Some named.class)) → map Some xs ≡ map (class_at entries) ks
joined_lists entries [] [] l h = refl
joined_lists entries [] (k ∷ ks) l h = absurd (omega (arith, l))
joined_lists entries (x ∷ xs) [] l h = absurd (omega (arith, l))
joined_lists entries (x ∷ xs) (k ∷ ks) l h =
    let first = h 0 (omega arith) in
    let there : class_at entries k ≡ Some first.0.class = ap (λ (o : Option (Entry Tiles TilingRule)). option_map (λ e. e.class) o) first.1 in
    let same : Some x ≡ class_at entries k = first.2 ∙ sym there in
    let rest = joined_lists entries xs ks (omega (arith, l)) (λ slot small. h (suc slot) (omega (arith, small))) in
    λ i. same i ∷ rest i

linked_is_joined : (entries : TileEntries) (e : Entry Tiles TilingRule) → IsLinked tile_meaning entries e → IsJoined entries e
linked_is_joined entries e h = record { own = h.own; children = joined_lists entries e.rule.children e.children h.as_many (λ slot small. let n = h.child slot small in (n.named, n.there, n.class)) }

each_by : {X : Type 0} (P : X → Type 0) (xs : List X) → ((x : X) → IsIn x xs → P x) → AllByRecursion P xs
each_by P [] h = tt
each_by P (x ∷ xs) h = (h x here, each_by P xs (λ y i. h y (later x i)))

-- a rank is at most the number of records
rank_small : (K : ℕ → Bool) (rs : List Record) (c : ℕ) → rank_of K rs c ≤ length rs
rank_small K rs c = go (find (λ n. is_ranked K rs n c) (range_with_len 1 (length rs))) refl
  where
    go : (o : Option ℕ) → find (λ n. is_ranked K rs n c) (range_with_len 1 (length rs)) ≡ o → unwrap_or o 0 ≤ length rs
    go None e = omega arith
    go (Some n) e = let i = IsIn-range_with_len 1 (length rs) n (found_is_in (λ m. is_ranked K rs m c) (range_with_len 1 (length rs)) n e) in omega (arith, i.1)

module _ (l : TileBooks) (ledger : IsLedger tile_meaning l) (entries : TileEntries) (spec : IsSpecOf l entries) where
  number : Tiles → ℕ
  number t = position_or_len (tiles_eq t) (classes tile_meaning l)

  -- the class of an entry is done, and found by its number
  record IsDone (t : Tiles) : Type 0 where
    pub filed : IsIn (number t) (done l)
    pub at : slice_get (classes tile_meaning l) (number t) ≡ Some t

  entry_is_done : (e : Entry Tiles TilingRule) → IsIn e entries → IsDone e.class
  unfolding number
  entry_is_done e i =
      let f = block_of tile_meaning own exact l ledger e.rule (spec.filed e i) in
      let c = block_class tile_meaning l ledger f.0.0 f.0.1 f.1 in
      let parent : e.rule.parent ≡ c.0 = (ledger.filed f.0.0 f.0.1 c.0 f.1 c.1).own e.rule f.2 in
      let class : e.class ≡ c.0 = sym ((spec.valid.spec.linked e i).own) ∙ parent in
      let same : number c.0 ≡ f.0.0 = (position_of tiles_eq own exact (classes tile_meaning l) f.0.0 c.0 ledger.distinct c.1).0 in
      let filed : IsIn f.0.0 (done l) = subst (λ (ns : List ℕ). IsIn f.0.0 ns) (firsts l.rules l.journal) (IsIn-map (λ (g : ℕ × List TilingRule). g.0) f.1) in
      subst (λ (t : Tiles). IsDone t) (sym class)
      (record { filed = subst (λ (n : ℕ). IsIn n (done l)) (sym same) filed; at = subst (λ (n : ℕ). slice_get (classes tile_meaning l) n ≡ Some c.0) (sym same) c.1 })

  class_is_done : (t : Tiles) → IsIn t (map (λ (e : Entry Tiles TilingRule). e.class) entries) → IsDone t
  class_is_done t i = let e = from_IsIn-map (λ (e : Entry Tiles TilingRule). e.class) entries i in subst (λ (s : Tiles). IsDone s) (sym e.2) (entry_is_done e.0 e.1)

  pub few_entries : length entries ≤ 5000
  few_entries =
      let classes_few = length-le_from_injection number (done l) spec.valid.spec.distinct (λ t i. (class_is_done t i).filed)
      (λ s t i j e. let p = (class_is_done s i).at in let q = (class_is_done t j).at in let r = subst (λ (n : ℕ). slice_get (classes tile_meaning l) n ≡ Some s) e p in let o : Some s ≡ Some t = sym r ∙ q in cc) in
      omega (arith, classes_few, length-map entries (λ (e : Entry Tiles TilingRule). e.class), length-map {B = ℕ} l.journal (λ (p : ℕ × ℕ). p.0), ledger.within, ledger.few_budget)

  pub small_ranks : AllByRecursion (λ (e : Entry Tiles TilingRule). e.rank < 2 ^ 32) entries
  small_ranks =
      each_by (λ (e : Entry Tiles TilingRule). e.rank < 2 ^ 32) entries
      (λ e i.
      let p = partner_of _ _ spec.picked.picks i in
      let small = rank_small spec.picked.K (records tile_meaning l) p.0 in
      let rules = few_rules tile_meaning l ledger in
      let many : length (records tile_meaning l) ≡ length l.rules = length-map l.rules _ in
      let is = p.2.rank in
      omega (arith, small, rules, many, is, ledger.within, ledger.few_budget))

-- the text of a specification that a ledger gives, with the numbers of the avoiders, is accepted
pub found_is_accepted : KeptSpecsAreSpelled → (basis : List (List ℕ)) → IsBasis basis → (last : ℕ) → last ≤ 200 → (l : TileBooks) → IsLedger tile_meaning l → (entries : TileEntries) → IsSpecOf l entries → IsReducedRoot basis l.root
    → terms_of basis last ≡ terms_to last (class_counts tile_meaning entries 0) → Accepts basis (spec_text basis (trace (root_of basis)) entries (terms_of basis last))
found_is_accepted spelled basis kept last short l ledger entries spec root counts =
    let few = few_entries l ledger entries spec in
    let many : length (terms_of basis last) ≤ 201 = (let n = few_terms last (avoiders basis) in omega (arith, n, short)) in
    let is_kept : IsKeptSpec basis (trace (root_of basis)) entries (terms_of basis last) = record {
      basis = kept;
      root = l.root;
      replayed = root.reduced;
      few = omega (arith, few);
      spec = spec.valid.spec;
      hold = spec.valid.hold;
      ranks = All-from_recursion (λ (e : Entry Tiles TilingRule). e.rank < 2 ^ 32) entries (small_ranks l ledger entries spec);
      some = some_terms last (avoiders basis);
      most = many;
      capped = All-from_recursion (λ x. IsTrue (is_term_in_range x)) (terms_of basis last) (cut_each (λ x. IsTrue (is_term_in_range x)) (map (λ n. capped (avoiders basis n)) (range_with_len 0 (suc last))) (each_capped (avoiders basis) (range_with_len 0 (suc last))));
      last = cut_last (map (λ n. capped (avoiders basis n)) (range_with_len 0 (suc last)));
    } in
    let again : terms_of basis last ≡ capped_counts entries (length (terms_of basis last)) =
    counts ∙ terms_again last (class_counts tile_meaning entries 0) ∙ ap (λ (ts : List Term). capped_counts entries (length ts)) (sym counts) in (
      record { basis = basis; root_trace = trace (root_of basis); entries = entries; terms = terms_of basis last },
      record {
        specified = record {
          own = record {
            read = record {
              text = spelled basis (trace (root_of basis)) entries (terms_of basis last) is_kept;
              joined = All-from_recursion (λ (e : Entry Tiles TilingRule). IsJoined entries e) entries (each_by (λ (e : Entry Tiles TilingRule). IsJoined entries e) entries (λ e i. linked_is_joined entries e (spec.valid.spec.linked e i)));
              some_entries = spec.valid.spec.some;
              few_entries = omega (arith, few);
              some_terms = some_terms last (avoiders basis);
              few_terms = many;
            };
            words = refl;
          };
          root = l.root;
          replayed = root.reduced;
          valid = spec.valid;
        };
        terms = again;
      },
    )
