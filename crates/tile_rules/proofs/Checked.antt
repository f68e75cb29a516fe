-- When a rule follows, by what its check finds.
use Rattle.std.proofs.Common.{◌≡◌, ◌<◌, ℕ, zero, suc, Bool, true, false, List, [], ◌∷◌, length, get_or, take, refl, sym, ap, ◌∙◌, arith}
use Rattle.std.specs.Prelude.{◌↔◌, IsTrue, All, zip, Some, None, Option, if◌then◌else◌}
use Rattle.std.proofs.lemmas.List.{length-map, get_or_default}
use Rattle.std.proofs.lemmas.Slice.Zip.{length-zip}
use Rattle.tiling_core.specs.Tiles.{Tiles, IsTiling}
use Rattle.steps.specs.declared.step.Step.{Step}
use Rattle.steps.specs.declared.step.Step.TheVariants.{Void}
use Rattle.tiling_core.specs.Roots.{void_tiling}
use Rattle.steps.specs.Steps.{step_applies, step_result}
use Rattle.steps.specs.Traces.{replay}
use Rattle.rule_kinds.specs.Replayed.{AreReplays}
use Rattle.rule_kinds.specs.Rules.{TilingRule}
use Rattle.rule_kinds.specs.Kinds.{IsKept}
use Rattle.rule_kinds.specs.Children.{raw_children}
use Rattle.rule_kinds.specs.Conditions.{applies}
use Rattle.rule_kinds.specs.Follows.{Follows}

-- a step is refused, so the trace leads nowhere
pub leads_nowhere : (t u : Tiles) (trace : List Step) (k : ℕ) → k < length trace → replay t (take k trace) ≡ Some u → step_applies (get_or trace k Void) u ≡ false → replay t trace ≡ None
leads_nowhere t u [] k l e f = absurd (omega arith)
leads_nowhere t u (s ∷ trace) zero l e f = let same : t ≡ u = cc in let g : step_applies s t ≡ false = rw same f in rw g refl
leads_nowhere t u (s ∷ trace) (suc k) l e f = go (step_applies s t) (leads_nowhere (step_result s t) u trace k (omega arith)) e
  where
    go : (b : Bool) → (replay (step_result s t) (take k trace) ≡ Some u → step_applies (get_or trace k Void) u ≡ false → replay (step_result s t) trace ≡ None) → (if b then replay (step_result s t) (take k trace) else None) ≡ Some u → (if b then replay (step_result s t) trace else None) ≡ None
    go true ih h = ih h f
    go false ih h = absurd cc

-- a trace that leads nowhere leads to no child
pub no_child : (t u child : Tiles) (trace : List Step) (k : ℕ) → k < length trace → replay t (take k trace) ≡ Some u → step_applies (get_or trace k Void) u ≡ false → IsTrue false ↔ (replay t trace ≡ Some child)
no_child t u child trace k l e f = let none = leads_nowhere t u trace k l e f in (λ h. absurd cc, λ h. absurd cc)

-- the child at a place is the replay of the trace there on the raw child there
abbrev pub LeadsAt : List Tiles → List (List Step) → List Tiles → ℕ → Type 0
LeadsAt raw traces children k = replay (get_or raw k void_tiling) (get_or traces k []) ≡ Some (get_or children k void_tiling)

abbrev first_option : Option Tiles → List (Option Tiles) → Option Tiles
first_option o [] = o
first_option o (p ∷ options) = p

abbrev rest_of : List (Option Tiles) → List (Option Tiles)
rest_of [] = []
rest_of (p ∷ options) = options

pub each_leads : (raw : List Tiles) (traces : List (List Step)) (children : List Tiles) → length traces ≡ length raw → length children ≡ length raw → AreReplays raw traces children → (k : ℕ) → k < length raw → LeadsAt raw traces children k
each_leads [] traces children e f h k l = absurd (omega arith)
each_leads (t ∷ raw) [] children e f h k l = absurd (omega arith)
each_leads (t ∷ raw) (trace ∷ traces) [] e f h k l = absurd (omega arith)
each_leads (t ∷ raw) (trace ∷ traces) (child ∷ children) e f h zero l = ap (first_option None) h
each_leads (t ∷ raw) (trace ∷ traces) (child ∷ children) e f h (suc k) l = each_leads raw traces children (omega (arith, e)) (omega (arith, f)) (ap rest_of h) k (omega arith)

pub all_lead : (raw : List Tiles) (traces : List (List Step)) (children : List Tiles) → length traces ≡ length raw → length children ≡ length raw → ((k : ℕ) → k < length raw → LeadsAt raw traces children k) → AreReplays raw traces children
all_lead [] [] [] e f h = refl
all_lead [] [] (child ∷ children) e f h = absurd (omega arith)
all_lead [] (trace ∷ traces) children e f h = absurd (omega arith)
all_lead (t ∷ raw) [] children e f h = absurd (omega arith)
all_lead (t ∷ raw) (trace ∷ traces) [] e f h = absurd (omega arith)
all_lead (t ∷ raw) (trace ∷ traces) (child ∷ children) e f h =
    let here : replay t trace ≡ Some child = h 0 (omega arith) in
    let later : AreReplays raw traces children = all_lead raw traces children (omega (arith, e)) (omega (arith, f)) (λ k l. h (suc k) (omega arith)) in
    λ i. here i ∷ later i

pub is_no : (b : Bool) → b ≡ false → ¬ (IsTrue b)
is_no false e h = absurd cc
is_no true e h = absurd cc

-- a trace does not lead to its child
pub one_misses : (raw : List Tiles) (traces : List (List Step)) (children : List Tiles) → length traces ≡ length raw → length children ≡ length raw → (k : ℕ) → k < length raw
    → (t : Tiles) (trace : List Step) (child : Tiles) → t ≡ get_or raw k t → trace ≡ get_or traces k trace → child ≡ get_or children k child → ¬ (replay t trace ≡ Some child) → IsTrue false ↔ AreReplays raw traces children
one_misses raw traces children e f k l t trace child a b c g =
    let same_raw : t ≡ get_or raw k void_tiling = a ∙ get_or_default raw k t void_tiling l in
    let same_trace : trace ≡ get_or traces k [] = b ∙ get_or_default traces k trace [] (omega (arith, e)) in
    let same_child : child ≡ get_or children k void_tiling = c ∙ get_or_default children k child void_tiling (omega (arith, f)) in
    (λ h. absurd cc, λ h. absurd (g (rw (same_raw, same_trace, same_child) (each_leads raw traces children e f h k l))))

pub every_one_leads : (raw : List Tiles) (traces : List (List Step)) (children : List Tiles) → length traces ≡ length raw → length children ≡ length raw → ((k : ℕ) → k < length raw → LeadsAt raw traces children k) → IsTrue true ↔ AreReplays raw traces children
every_one_leads raw traces children e f h = (λ i. all_lead raw traces children e f h, λ i. refl)

-- ---- a rule
is_never : (r : TilingRule) → (Follows r → ⊥) → IsTrue false ↔ Follows r
is_never r f = (λ e. absurd cc, λ k. absurd (f k))

pub not_applicable : (r : TilingRule) → applies r.parent r.kind ≡ false → IsTrue false ↔ Follows r
not_applicable r e = is_never r (λ k. let c = k.condition in absurd cc)

pub other_traces : (r : TilingRule) → ¬ (length r.traces ≡ length (raw_children r.parent r.kind)) → IsTrue false ↔ Follows r
other_traces r f = is_never r (λ k. f k.as_many)

as_many_children : (r : TilingRule) → Follows r → length r.children ≡ length (raw_children r.parent r.kind)
as_many_children r k =
    let e = ap (λ os. length os) k.replayed in
    omega (arith, k.as_many, e, length-map r.children (λ t. Some t), length-map (zip (raw_children r.parent r.kind) r.traces) (λ (p : Tiles × List Step). replay p.0 p.1), length-zip (raw_children r.parent r.kind) r.traces)

pub other_children : (r : TilingRule) → ¬ (length r.children ≡ length (raw_children r.parent r.kind)) → IsTrue false ↔ Follows r
other_children r f = is_never r (λ k. f (as_many_children r k))

pub decided : (r : TilingRule) (raw : List Tiles) (b : Bool) → raw ≡ raw_children r.parent r.kind → applies r.parent r.kind ≡ true → length r.traces ≡ length raw
    → IsTiling r.parent → IsKept r.kind → All (λ t. IsTiling t) raw → (IsTrue b ↔ AreReplays raw r.traces r.children) → IsTrue b ↔ Follows r
decided r raw b same applicable many parent kept tilings found =
    (λ e. record { made = record { parent = parent; kind = kept; raw = rw (sym same) tilings }; condition = applicable; as_many = many ∙ ap (λ ts. length ts) same; replayed = rw (sym same) (found.0 e) }, λ k. found.1 (rw same k.replayed))
