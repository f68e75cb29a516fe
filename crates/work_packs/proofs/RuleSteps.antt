-- Reduced raw children make a rule that follows, and such rules a complete filing.
use Rattle.std.proofs.Common.{◌≡◌, ◌≤◌, ◌+◌, true, List, [], ◌∷◌, ◌++◌, length, refl, sym, ap, ◌∙◌, subst, arith}
use Rattle.std.specs.Prelude.{Bool, map, zip, Option, Some, All}
use Rattle.std.specs.List.{AllZip}
use Rattle.std.proofs.lemmas.List.{length-map, map-append}
use Rattle.std.proofs.lemmas.List.Elements.{All-append, All-from_recursion, All-weaker}
use Rattle.lists.proofs.Counts.{sum_by_agrees, sum_by-map}
use Rattle.lists.specs.Members.IsIn.{here}
use Rattle.lists.proofs.Members.{of_all, all_in, IsIn-append_left, IsIn-append_right}
use Rattle.tiling_core.specs.Tiles.{Tiles, IsTiling, IsKept}
use Rattle.steps.specs.declared.step.Step.{Step}
use Rattle.steps.specs.Traces.{replay, IsTrace}
use Rattle.normal_form.specs.Thinned.{IsThinned}
use Rattle.normal_form.specs.TraceLaws.{trace, TraceIsTotal, TraceIsFunctional}
use Rattle.css_domain.specs.LedgerFacts.{filing_words}
use Rattle.rule_kinds.specs.declared.kind.Kind.{Kind}
use Rattle.rule_kinds.specs.Rules.{TilingRule, HasKeptLists}
use Rattle.rule_kinds.specs.Children.{raw_children}
use Rattle.rule_kinds.specs.Kinds.{IsKept as IsKeptKind}
use Rattle.rule_kinds.specs.Conditions.{applies}
use Rattle.rule_kinds.specs.Follows.{Follows}
use Rattle.rule_kinds.specs.Choices.{Packs, kinds_of}
use Rattle.tile_rules.specs.Complete.{IsComplete}
use Rattle.tile_rules.specs.Meaning.{tile_meaning}
use Rattle.work_packs.specs.RulesMade.{IsTried, IsReduced, AreReduced, ReducesThinned, IsRuleBy, AreRulesBy}
use Rattle.work_packs.specs.KindLines.{words_of_kind, words_of_kinds}
use Rattle.work_packs.proofs.Words.{few_words}

-- the one trace of a tiling
pub only_trace : TraceIsTotal → TraceIsFunctional → (t : Tiles) (steps : List Step) → IsTiling t → IsTrace t steps → steps ≡ trace t
only_trace total functional t steps k h = functional t steps (trace t) h (total t k)

-- ---- reduced tilings, one after another
single : {X : Type 0} (P : X → Type 0) (x : X) → P x → All P (x ∷ [])
single P x p = All-from_recursion P (x ∷ []) (p, tt)

none : {X : Type 0} (P : X → Type 0) → All P []
none P = All-from_recursion P [] tt

pub nothing_reduced : AreReduced [] [] []
nothing_reduced = record { tilings = none (λ t. IsTiling t); traced = refl; replayed = refl; kept = none (λ steps. IsKept steps) }

pub one_more_reduced : (raw children : List Tiles) (traces : List (List Step)) (t child : Tiles) (steps : List Step) → AreReduced raw children traces → IsReduced t child steps → AreReduced (raw ++ t ∷ []) (children ++ child ∷ []) (traces ++ steps ∷ [])
one_more_reduced raw children traces t child steps h k =
    let led : replay t (trace t) ≡ Some child = ap (replay t) (sym k.traced) ∙ k.replayed in
    record {
      tilings = All-append (λ u. IsTiling u) raw (t ∷ []) h.tilings (single (λ u. IsTiling u) t k.tiling);
      traced = ap (λ (ts : List (List Step)). ts ++ steps ∷ []) h.traced ∙ ap (λ (s : List Step). map trace raw ++ s ∷ []) k.traced ∙ sym (map-append trace raw (t ∷ []));
      replayed = map-append (λ u. replay u (trace u)) raw (t ∷ [])
          ∙ ap (λ (os : List (Option Tiles)). os ++ replay t (trace t) ∷ []) h.replayed
          ∙ ap (λ (o : Option Tiles). map (λ u. Some u) children ++ o ∷ []) led
          ∙ sym (map-append (λ u. Some u) children (child ∷ []));
      kept = All-append (λ s. IsKept s) traces (steps ∷ []) h.kept (single (λ s. IsKept s) steps k.kept);
    }

-- ---- the same of thinned tilings
abbrev AreThin : List Tiles → List (Tiles × Bool) → Type 0
AreThin raw thinned = AllZip (λ (t : Tiles) (u : Tiles × Bool). IsThinned t u.0 u.1) raw thinned

-- the last of the thinned tilings, and of the whole ones
record EndsThinned (raw : List Tiles) (before : List (Tiles × Bool)) (u : Tiles) (b : Bool) : Type 0 where
  pub front : List Tiles
  pub last : Tiles
  pub is : raw ≡ front ++ last ∷ []
  pub thin : AreThin front before
  pub thinned : IsThinned last u b

last_thinned : (raw : List Tiles) (before : List (Tiles × Bool)) (u : Tiles) (b : Bool) → AreThin raw (before ++ (u, b) ∷ []) → EndsThinned raw before u b
last_thinned [] [] u b h = absurd h
last_thinned [] (x ∷ before) u b h = absurd h
last_thinned (t ∷ []) [] u b h = record { front = []; last = t; is = refl; thin = tt; thinned = h.0 }
last_thinned (t ∷ s ∷ raw) [] u b h = absurd h.1
last_thinned (t ∷ raw) (x ∷ before) u b h =
    let k = last_thinned raw before u b h.1 in
    record { front = t ∷ k.front; last = k.last; is = ap (λ (ts : List Tiles). t ∷ ts) k.is; thin = (h.0, k.thin); thinned = k.thinned }

pub none_thinned : ReducesThinned [] [] []
none_thinned [] tilings h = nothing_reduced
none_thinned (t ∷ raw) tilings h = absurd h

pub one_more_thinned : (thinned : List (Tiles × Bool)) (children : List Tiles) (traces : List (List Step)) (u child : Tiles) (b : Bool) (steps : List Step) → ReducesThinned thinned children traces
    → ((t : Tiles) → IsTiling t → IsThinned t u b → IsReduced t child steps) → ReducesThinned (thinned ++ (u, b) ∷ []) (children ++ child ∷ []) (traces ++ steps ∷ [])
one_more_thinned thinned children traces u child b steps reduces reduced raw tilings h =
    let k = last_thinned raw thinned u b h in
    let each : All (λ t. IsTiling t) (k.front ++ k.last ∷ []) = subst (λ (ts : List Tiles). All (λ t. IsTiling t) ts) k.is tilings in
    let front : All (λ t. IsTiling t) k.front = all_in (λ t. IsTiling t) k.front (λ t i. of_all (λ t. IsTiling t) each (IsIn-append_left (k.last ∷ []) i)) in
    let last : IsTiling k.last = of_all (λ t. IsTiling t) each (IsIn-append_right k.front (here {xs = []})) in
    subst (λ (ts : List Tiles). AreReduced ts (children ++ child ∷ []) (traces ++ steps ∷ [])) (sym k.is)
    (one_more_reduced k.front children traces k.last child steps (reduces k.front front k.thin) (reduced k.last last k.thinned))

-- ---- the rule
zipped : (raw : List Tiles) → map (λ (p : Tiles × List Step). replay p.0 p.1) (zip raw (map trace raw)) ≡ map (λ t. replay t (trace t)) raw
zipped [] = refl
zipped (t ∷ raw) = ap (λ (os : List (Option Tiles)). replay t (trace t) ∷ os) (zipped raw)

as_many_traces : (raw children : List Tiles) (traces : List (List Step)) → AreReduced raw children traces → length traces ≡ length raw
as_many_traces raw children traces h = ap (λ (ts : List (List Step)). length ts) h.traced ∙ length-map raw trace

as_many_children : (raw children : List Tiles) (traces : List (List Step)) → AreReduced raw children traces → length children ≡ length raw
as_many_children raw children traces h = sym (length-map children (λ t. Some t)) ∙ ap (λ (os : List (Option Tiles)). length os) (sym h.replayed) ∙ length-map raw (λ t. replay t (trace t))

pub lists_kept : (t : Tiles) (k : Kind) (children raw : List Tiles) (traces : List (List Step)) → IsTried t k → raw ≡ raw_children t k → AreReduced raw children traces → HasKeptLists (record { kind = k; parent = t; children = children; traces = traces })
lists_kept t k children raw traces tried made h =
    let few : length raw ≤ 2048 = rw made tried.few in
    let a = as_many_children raw children traces h in
    let b = as_many_traces raw children traces h in
    record { children = omega arith; traces = omega arith; each_trace = h.kept }

rule_follows : (t : Tiles) (k : Kind) (children : List Tiles) (traces : List (List Step)) → IsTiling t → IsKeptKind k → applies t k ≡ true → AreReduced (raw_children t k) children traces → Follows (record { kind = k; parent = t; children = children; traces = traces })
rule_follows t k children traces tiling kept applying h = record {
  made = record { parent = tiling; kind = kept; raw = h.tilings };
  condition = applying;
  as_many = as_many_traces (raw_children t k) children traces h;
  replayed = ap (λ (ts : List (List Step)). map (λ (p : Tiles × List Step). replay p.0 p.1) (zip (raw_children t k) ts)) h.traced ∙ zipped (raw_children t k) ∙ h.replayed;
}

pub rule_made : (t : Tiles) (k : Kind) (children raw : List Tiles) (traces : List (List Step)) (r : TilingRule) → IsTiling t → IsKeptKind k → applies t k ≡ true → raw ≡ raw_children t k → AreReduced raw children traces → r ≡ record { kind = k; parent = t; children = children; traces = traces } → IsRuleBy t k r
rule_made t k children raw traces r tiling kept applying made h e =
    let g : AreReduced (raw_children t k) children traces = subst (λ (ts : List Tiles). AreReduced ts children traces) made h in
    subst (λ (q : TilingRule). IsRuleBy t k q) (sym e) (record { kind = refl; parent = refl; follows = rule_follows t k children traces tiling kept applying g; traced = g.traced; as_many = as_many_children (raw_children t k) children traces g })

-- ---- the rules
pub no_rules : (t : Tiles) → AreRulesBy t [] []
no_rules t = record { in_turn = refl; each = none (λ (r : TilingRule). IsRuleBy t r.kind r) }

pub one_more_rule : (t : Tiles) (kinds : List Kind) (rules : List TilingRule) (k : Kind) (r : TilingRule) → AreRulesBy t kinds rules → IsRuleBy t k r → AreRulesBy t (kinds ++ k ∷ []) (rules ++ r ∷ [])
one_more_rule t kinds rules k r h m = record {
  in_turn = map-append (λ (q : TilingRule). q.kind) rules (r ∷ []) ∙ ap (λ (ks : List Kind). ks ++ r.kind ∷ []) h.in_turn ∙ ap (λ (j : Kind). kinds ++ j ∷ []) m.kind;
  each = All-append (λ (q : TilingRule). IsRuleBy t q.kind q) rules (r ∷ []) h.each (single (λ (q : TilingRule). IsRuleBy t q.kind q) r (subst (λ (j : Kind). IsRuleBy t j r) (sym m.kind) m));
}

pub filing_complete : (t : Tiles) (packs : Packs) (kinds : List Kind) (rules : List TilingRule) → kinds ≡ kinds_of t packs → AreRulesBy t kinds rules → IsComplete rules t packs
filing_complete t packs kinds rules e h = record {
  kinds = h.in_turn ∙ e;
  of_parent = All-weaker (λ (r : TilingRule). IsRuleBy t r.kind r) (λ (r : TilingRule). r.parent ≡ t) (λ r k. k.parent) rules h.each;
  follow = All-weaker (λ (r : TilingRule). IsRuleBy t r.kind r) Follows (λ r k. k.follows) rules h.each;
  traced = All-weaker (λ (r : TilingRule). IsRuleBy t r.kind r) (λ (r : TilingRule). r.traces ≡ map trace (raw_children t r.kind)) (λ r k. k.traced) rules h.each;
}

pub filing_small : (t : Tiles) (packs : Packs) (kinds : List Kind) (rules : List TilingRule) → IsTiling t → kinds ≡ kinds_of t packs → AreRulesBy t kinds rules → filing_words tile_meaning rules ≤ 2048
filing_small t packs kinds rules k e h =
    let a = few_words t packs k in
    let b = sum_by_agrees (λ (r : TilingRule). 2 + length r.children) (λ r. words_of_kind t r.kind) rules (λ r m. ap (λ n. 2 + n) (of_all (λ (q : TilingRule). IsRuleBy t q.kind q) h.each m).as_many) in
    let c : words_of_kinds t (map (λ (r : TilingRule). r.kind) rules) ≡ words_of_kinds t (kinds_of t packs) = ap (words_of_kinds t) (h.in_turn ∙ e) in
    let d = sum_by-map (λ (r : TilingRule). r.kind) (words_of_kind t) rules in
    omega arith
