-- What is said of a text is one thing.
use Rattle.std.proofs.Common.{◌≡◌, ◌<◌, ℕ, zero, suc, List, [], ◌∷◌, length, refl, sym, ap, ◌∙◌, subst, arith}
use Rattle.std.specs.Prelude.{◌≢◌, map, slice_get, option_map, Some}
use Rattle.std.proofs.lemmas.Option.{slice_get_within}
use Rattle.lists.specs.Members.{IsIn, NoRepeats}
use Rattle.lists.specs.Members.NoRepeats.{no_element, one_more}
use Rattle.lists.proofs.Places.{IsIn-slice_get, get-map}
use Rattle.lists.proofs.Numbers.{Standing, standing}
use Rattle.lists.proofs.Numbers.Standing.{less, more, even}
use Rattle.tiling_core.specs.Tiles.{Tiles}
use Rattle.css_domain.specs.Entries.{Entry, ValidSpec}
use Rattle.css_prune.specs.Faults.{EachBefore, AreRanksRight, IsFirstWrongSlot, IsFirstWrongRank}
use Rattle.css_prune.proofs.FirstFaults.{same_some}
use Rattle.css_terms.specs.declared.term.Term.{Term}
use Rattle.rule_kinds.specs.Rules.{TilingRule}
use Rattle.tile_rules.specs.Meaning.{tile_meaning}
use Rattle.spec_lines.specs.Lines.{Text}
use Rattle.spec_lines.specs.Files.{file_lines}
use Rattle.spec_lines.specs.Faults.{Answer, answer}
use Rattle.spec_lines.specs.Faults.Answer.{Spelled, Grammar, Limit}
use Rattle.spec_lines.specs.Laws.{SpelledTextsAreAnswered, GrammarFaultsAreAnswered, LimitFaultsAreAnswered}
use Rattle.spec_text.specs.declared.file.SpecFile.{SpecFile}
use Rattle.spec_text.specs.Joined.{IsReadSpec, ReadSpecsAreTold, file_of_spec}
use Rattle.spec_checker.specs.declared.verdict.CheckFault.{CheckFault}
use Rattle.spec_checker.specs.declared.verdict.CheckFault.TheVariants as fault
use Rattle.spec_checker.specs.Accepting.{IsAcceptedAs, IsSpecified, capped_counts}
use Rattle.spec_checker.specs.Refusing.{IsRooted, IsRuleRight, AreRulesRight, IsFirstWrongRule, IsFirstDifference, IsRefused}
use Rattle.spec_checker.specs.Passing.{HaveRightRanks}
use Rattle.spec_checker.specs.Laws.{AcceptedOnce, AcceptedOrRefused, RefusedOnce}

-- ---- first places
-- where each place before is right, a wrong one doesn't come earlier
not_earlier : (P : ℕ → Entry Tiles TilingRule → Type 0) (entries : List (Entry Tiles TilingRule)) (i j : ℕ) (e : Entry Tiles TilingRule) → slice_get entries i ≡ Some e → (P i e → ⊥) → EachBefore P entries j → i < j → ⊥
not_earlier P entries i j e at wrong before l = wrong (before i e l at)

one_place : (i j : ℕ) → (i < j → ⊥) → (j < i → ⊥) → i ≡ j
one_place i j a b = go (standing i j)
  where
    go : Standing i j → i ≡ j
    go (less l) = absurd (a l)
    go (more l) = absurd (b l)
    go (even e) = e

one_rule : (entries : List (Entry Tiles TilingRule)) (i j : ℕ) → IsFirstWrongRule entries i → IsFirstWrongRule entries j → i ≡ j
one_rule entries i j f g =
    one_place i j
    (not_earlier (IsRuleRight entries) entries i j f.entry f.at f.wrong g.before)
    (not_earlier (IsRuleRight entries) entries j i g.entry g.at g.wrong f.before)

wrong_ranks : (entries : List (Entry Tiles TilingRule)) (i k : ℕ) (f : IsFirstWrongRank tile_meaning entries i k) → AreRanksRight tile_meaning entries i f.entry → ⊥
wrong_ranks entries i k f r = f.first.wrong (r f.slot f.first.within)

one_rank : (entries : List (Entry Tiles TilingRule)) (i j k m : ℕ) → IsFirstWrongRank tile_meaning entries i k → IsFirstWrongRank tile_meaning entries j m → (i ≡ j) × (k ≡ m)
one_rank entries i j k m f g = (same, within (same_some f.at (subst (λ n. slice_get entries n ≡ Some g.entry) (sym same) g.at)))
  where
    same : i ≡ j
    same = one_place i j
        (not_earlier (AreRanksRight tile_meaning entries) entries i j f.entry f.at (wrong_ranks entries i k f) g.before)
        (not_earlier (AreRanksRight tile_meaning entries) entries j i g.entry g.at (wrong_ranks entries j m g) f.before)

    within : f.entry ≡ g.entry → k ≡ m
    within e =
        let first : IsFirstWrongSlot tile_meaning entries f.entry g.slot = subst (λ (d : Entry Tiles TilingRule). IsFirstWrongSlot tile_meaning entries d g.slot) (sym e) g.first in
        let slots : f.slot ≡ g.slot = one_place f.slot g.slot (λ l. f.first.wrong (first.before f.slot l)) (λ l. first.wrong (f.first.before g.slot l)) in
        same_some f.names (subst (λ (d : Entry Tiles TilingRule). slice_get d.children f.slot ≡ Some m) (sym e) (subst (λ s. slice_get g.entry.children s ≡ Some m) (sym slots) g.names))

one_difference : (items others : List Term) (i j : ℕ) → IsFirstDifference items others i → IsFirstDifference items others j → i ≡ j
one_difference items others i j f g = one_place i j (λ l. f.differ (g.same i l)) (λ l. g.differ (f.same j l))

-- ---- a valid specification passes
apart : (xs : List Tiles) (i j : ℕ) (t : Tiles) → NoRepeats xs → i < j → slice_get xs i ≡ Some t → slice_get xs j ≡ Some t → ⊥
apart [] i j t no_element l a b = absurd cc
apart (x ∷ xs) zero zero t (one_more n d) l a b = absurd (omega (arith, l))
apart (x ∷ xs) zero (suc j) t (one_more n d) l a b = let same : t ≡ x = cc in n (subst (λ u. IsIn u xs) same (IsIn-slice_get xs j t b))
apart (x ∷ xs) (suc i) zero t (one_more n d) l a b = absurd (omega (arith, l))
apart (x ∷ xs) (suc i) (suc j) t (one_more n d) l a b = apart xs i j t d (omega (arith, l)) a b

module _ (entries : List (Entry Tiles TilingRule)) (root : Tiles) (valid : ValidSpec tile_meaning entries root) where
  pub rules_of_valid : AreRulesRight entries
  rules_of_valid i e l at =
      let classes = λ (d : Entry Tiles TilingRule). d.class in
      record {
        new = λ r. apart (map classes entries) r.j i e.class valid.spec.distinct r.earlier (get-map classes entries r.j r.by r.there ∙ ap Some r.class) (get-map classes entries i e at);
        follows = valid.hold e (IsIn-slice_get entries i e at);
        called = λ more. valid.spec.called i more l;
      }

  pub ranks_of_valid : HaveRightRanks entries
  ranks_of_valid i e l at slot within keeps named there =
      let n = (valid.spec.linked e (IsIn-slice_get entries i e at)).child slot within in
      let same : n.named ≡ named = same_some n.there there in
      subst (λ (d : Entry Tiles TilingRule). d.rank < e.rank) same (n.rank keeps)

rooted_of_valid : (basis : List (List ℕ)) (bytes : Text) (f : SpecFile) → IsSpecified basis bytes f → IsRooted basis f
rooted_of_valid basis bytes f s = s.replayed ∙ sym (ap (option_map (λ (e : Entry Tiles TilingRule). e.class)) s.valid.starts ∙ ap Some s.valid.root)

-- ---- the stages of a check, in their order
module _ (basis : List (List ℕ)) (f : SpecFile) where
  abbrev pub Passes : ℕ → Type 0
  Passes zero = f.basis ≡ basis
  Passes (suc zero) = IsRooted basis f
  Passes (suc (suc zero)) = AreRulesRight f.entries
  Passes (suc (suc (suc zero))) = HaveRightRanks f.entries
  Passes (suc (suc (suc (suc n)))) = f.terms ≡ capped_counts f.entries (length f.terms)

  abbrev pub Fails : ℕ → ℕ → ℕ → Type 0
  Fails zero a b = (a ≡ 0) × (b ≡ 0) × (f.basis ≢ basis)
  Fails (suc zero) a b = (a ≡ 0) × (b ≡ 0) × (IsRooted basis f → ⊥)
  Fails (suc (suc zero)) a b = (b ≡ 0) × IsFirstWrongRule f.entries a
  Fails (suc (suc (suc zero))) a b = IsFirstWrongRank tile_meaning f.entries a b
  Fails (suc (suc (suc (suc n)))) a b = (b ≡ 0) × IsFirstDifference f.terms (capped_counts f.entries (length f.terms)) a

  fails_not : (s a b : ℕ) → Fails s a b → Passes s → ⊥
  fails_not zero a b h p = h.2 p
  fails_not (suc zero) a b h p = h.2 p
  fails_not (suc (suc zero)) a b h p = let r = h.1 in r.wrong (p a r.entry (slice_get_within f.entries a r.entry r.at) r.at)
  fails_not (suc (suc (suc zero))) a b h p = wrong_ranks f.entries a b h (p a h.entry (slice_get_within f.entries a h.entry h.at) h.at)
  fails_not (suc (suc (suc (suc n)))) a b h p = let r = h.1 in r.differ (ap (λ (ts : List Term). slice_get ts a) p)

  abbrev told_by : ℕ → ℕ → ℕ → CheckFault
  told_by zero a b = fault.OtherBasis
  told_by (suc zero) a b = fault.Root
  told_by (suc (suc zero)) a b = fault.Rule a
  told_by (suc (suc (suc zero))) a b = fault.Rank a b
  told_by (suc (suc (suc (suc n)))) a b = fault.Terms a

  one_failure : (s a b c d : ℕ) → Fails s a b → Fails s c d → told_by s a b ≡ told_by s c d
  one_failure zero a b c d h k = refl
  one_failure (suc zero) a b c d h k = refl
  one_failure (suc (suc zero)) a b c d h k = ap (λ n. fault.Rule n) (one_rule f.entries a c h.1 k.1)
  one_failure (suc (suc (suc zero))) a b c d h k = let e = one_rank f.entries a c b d h k in λ i. fault.Rank (e.0 i) (e.1 i)
  one_failure (suc (suc (suc (suc n)))) a b c d h k = ap (λ n. fault.Terms n) (one_difference f.terms (capped_counts f.entries (length f.terms)) a c h.1 k.1)

  record FailsFirst (why : CheckFault) : Type 0 where
    pub stage : ℕ
    pub first : ℕ
    pub second : ℕ
    pub before : (k : ℕ) → k < stage → Passes k
    pub here : Fails stage first second
    pub told : why ≡ told_by stage first second

  one_first : (why other : CheckFault) → FailsFirst why → FailsFirst other → why ≡ other
  one_first why other h k = go (standing h.stage k.stage)
    where
      go : Standing h.stage k.stage → why ≡ other
      go (less l) = absurd (fails_not h.stage h.first h.second h.here (k.before h.stage l))
      go (more l) = absurd (fails_not k.stage k.first k.second k.here (h.before k.stage l))
      go (even e) = h.told ∙ one_failure h.stage h.first h.second k.first k.second h.here (subst (λ s. Fails s k.first k.second) (sym e) k.here) ∙ ap (λ s. told_by s k.first k.second) e ∙ sym k.told

  -- what is accepted fails nowhere
  none_first : (why : CheckFault) → ((k : ℕ) → Passes k) → FailsFirst why → ⊥
  none_first why all h = fails_not h.stage h.first h.second h.here (all h.stage)

pass_all : (basis : List (List ℕ)) (bytes : Text) (f : SpecFile) → IsAcceptedAs basis bytes f → (k : ℕ) → Passes basis f k
pass_all basis bytes f h zero = h.specified.own.words
pass_all basis bytes f h (suc zero) = rooted_of_valid basis bytes f h.specified
pass_all basis bytes f h (suc (suc zero)) = rules_of_valid f.entries h.specified.root h.specified.valid
pass_all basis bytes f h (suc (suc (suc zero))) = ranks_of_valid f.entries h.specified.root h.specified.valid
pass_all basis bytes f h (suc (suc (suc (suc n)))) = h.terms

number_told : Answer → ℕ
number_told (Spelled lines) = 0
number_told (Grammar n) = n
number_told (Limit n) = n

grammar_number : {n m : ℕ} → Grammar n ≡ Grammar m → n ≡ m
unfolding number_told
grammar_number e = ap number_told e

limit_number : {n m : ℕ} → Limit n ≡ Limit m → n ≡ m
unfolding number_told
limit_number e = ap number_told e

-- ---- a text, a file that was read or a line at fault
record ReadFault (basis : List (List ℕ)) (bytes : Text) (why : CheckFault) : Type 0 where
  pub file : SpecFile
  pub read : IsReadSpec bytes file
  pub fails : FailsFirst basis file why

data Case (basis : List (List ℕ)) (bytes : Text) (why : CheckFault) : Type 0 where
  of_form : (n : ℕ) → answer bytes ≡ Grammar n → why ≡ fault.Grammar n → Case basis bytes why
  of_range : (n : ℕ) → answer bytes ≡ Limit n → why ≡ fault.Limit n → Case basis bytes why
  of_file : ReadFault basis bytes why → Case basis bytes why

module _ (basis : List (List ℕ)) (bytes : Text) (spelled : SpelledTextsAreAnswered) (grammar : GrammarFaultsAreAnswered) (limit : LimitFaultsAreAnswered) (told : ReadSpecsAreTold) where
  case_of : (why : CheckFault) → why ≢ fault.Memory → IsRefused basis bytes why → Case basis bytes why
  case_of (fault.Grammar n) m h = of_form n ((grammar bytes n).0 h) refl
  case_of (fault.Limit n) m h = of_range n ((limit bytes n).0 h) refl
  case_of fault.OtherBasis m h = of_file (record { file = h.file; read = h.read; fails = record { stage = 0; first = 0; second = 0; before = λ k l. absurd (omega (arith, l)); here = (refl, refl, h.other); told = refl } })
  case_of fault.Root m h = of_file (record { file = h.file; read = h.own.read; fails = record { stage = 1; first = 0; second = 0; before = before; here = (refl, refl, h.wrong); told = refl } })
    where
      before : (k : ℕ) → k < 1 → Passes basis h.file k
      before zero l = h.own.words
      before (suc k) l = absurd (omega (arith, l))
  case_of (fault.Rule i) m h = of_file (record { file = h.file; read = h.own.read; fails = record { stage = 2; first = i; second = 0; before = before; here = (refl, h.first); told = refl } })
    where
      before : (k : ℕ) → k < 2 → Passes basis h.file k
      before zero l = h.own.words
      before (suc zero) l = h.rooted
      before (suc (suc k)) l = absurd (omega (arith, l))
  case_of (fault.Rank i k) m h = of_file (record { file = h.file; read = h.own.read; fails = record { stage = 3; first = i; second = k; before = before; here = h.first; told = refl } })
    where
      before : (s : ℕ) → s < 3 → Passes basis h.file s
      before zero l = h.own.words
      before (suc zero) l = h.rooted
      before (suc (suc zero)) l = h.rules
      before (suc (suc (suc s))) l = absurd (omega (arith, l))
  case_of (fault.Terms n) m h = of_file (record { file = h.file; read = h.specified.own.read; fails = record { stage = 4; first = n; second = 0; before = before; here = (refl, h.first); told = refl } })
    where
      before : (s : ℕ) → s < 4 → Passes basis h.file s
      before zero l = h.specified.own.words
      before (suc zero) l = rooted_of_valid basis bytes h.file h.specified
      before (suc (suc zero)) l = rules_of_valid h.file.entries h.specified.root h.specified.valid
      before (suc (suc (suc zero))) l = ranks_of_valid h.file.entries h.specified.root h.specified.valid
      before (suc (suc (suc (suc s)))) l = absurd (omega (arith, l))
  case_of fault.Memory m h = absurd (m refl)

  answered_by : (f : SpecFile) → IsReadSpec bytes f → answer bytes ≡ Spelled (file_lines (file_of_spec f))
  answered_by f r = (spelled bytes (file_lines (file_of_spec f))).0 r.text.spelled

  one_case : (why other : CheckFault) → Case basis bytes why → Case basis bytes other → why ≡ other
  one_case why other (of_form n a e) (of_form m b g) = let same : n ≡ m = grammar_number (sym a ∙ b) in e ∙ ap (λ k. fault.Grammar k) same ∙ sym g
  one_case why other (of_form n a e) (of_range m b g) = absurd cc
  one_case why other (of_form n a e) (of_file r) = let b = answered_by r.file r.read in absurd cc
  one_case why other (of_range n a e) (of_form m b g) = absurd cc
  one_case why other (of_range n a e) (of_range m b g) = let same : n ≡ m = limit_number (sym a ∙ b) in e ∙ ap (λ k. fault.Limit k) same ∙ sym g
  one_case why other (of_range n a e) (of_file r) = let b = answered_by r.file r.read in absurd cc
  one_case why other (of_file q) (of_form m b g) = let a = answered_by q.file q.read in absurd cc
  one_case why other (of_file q) (of_range m b g) = let a = answered_by q.file q.read in absurd cc
  one_case why other (of_file q) (of_file r) = one_first basis q.file why other q.fails (subst (λ (f : SpecFile). FailsFirst basis f other) (told bytes r.file q.file r.read q.read) r.fails)

  no_case : (f : SpecFile) → IsAcceptedAs basis bytes f → (why : CheckFault) → Case basis bytes why → ⊥
  no_case f h why (of_form n a e) = let b = answered_by f h.specified.own.read in absurd cc
  no_case f h why (of_range n a e) = let b = answered_by f h.specified.own.read in absurd cc
  no_case f h why (of_file r) = none_first basis f why (pass_all basis bytes f h) (subst (λ (g : SpecFile). FailsFirst basis g why) (told bytes r.file f r.read h.specified.own.read) r.fails)

module _ (spelled : SpelledTextsAreAnswered) (grammar : GrammarFaultsAreAnswered) (limit : LimitFaultsAreAnswered) (told : ReadSpecsAreTold) where
  pub refused_once : RefusedOnce
  refused_once basis bytes why other m n h k = one_case basis bytes spelled grammar limit told why other (case_of basis bytes spelled grammar limit told why m h) (case_of basis bytes spelled grammar limit told other n k)

  pub accepted_or_refused : AcceptedOrRefused
  accepted_or_refused basis bytes why m h k = no_case basis bytes spelled grammar limit told h.0 h.1 why (case_of basis bytes spelled grammar limit told why m k)

  pub accepted_once : AcceptedOnce
  accepted_once basis bytes entries others terms items h k =
      let same = told bytes h.file k.file h.accepted.specified.own.read k.accepted.specified.own.read in
      (h.many ∙ ap (λ (f : SpecFile). length f.entries) same ∙ sym k.many, h.items ∙ ap (λ (f : SpecFile). f.terms) same ∙ sym k.items)
