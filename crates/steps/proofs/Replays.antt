-- Traces grow by a step, and keep the members.
use Rattle.std.proofs.Common.{◌≡◌, ◌<◌, ◌+◌, ℕ, Bool, true, false, List, [], ◌∷◌, ◌++◌, length, get_or, take, refl, sym, ap, ◌∙◌, subst}
use Rattle.std.specs.Prelude.{Some, None, if◌then◌else◌}
use Rattle.std.proofs.lemmas.List.{take_more}
use Rattle.gridded.specs.Grids.{Point}
use Rattle.tiling_core.specs.Tiles.{Tiles}
use Rattle.steps.specs.declared.step.Step.{Step}
use Rattle.steps.specs.Steps.{step_applies, step_result, rename}
use Rattle.steps.specs.Traces.{replay}
use Rattle.steps.specs.Kept.{KeepsMembers, rename_all}

replay-push : (t u : Tiles) (trace : List Step) (s : Step) → replay t trace ≡ Some u → replay t (trace ++ s ∷ []) ≡ (if step_applies s u then Some (step_result s u) else None)
replay-push t u [] s e = let same : t ≡ u = cc in rw same refl
replay-push t u (r ∷ trace) s e = go (step_applies r t) (replay-push (step_result r t) u trace s) e
  where
    go : (b : Bool) → (replay (step_result r t) trace ≡ Some u → replay (step_result r t) (trace ++ s ∷ []) ≡ (if step_applies s u then Some (step_result s u) else None)) → (if b then replay (step_result r t) trace else None) ≡ Some u → (if b then replay (step_result r t) (trace ++ s ∷ []) else None) ≡ (if step_applies s u then Some (step_result s u) else None)
    go true ih f = ih f
    go false ih f = absurd cc

pub replay_more : (t u v : Tiles) (trace : List Step) (k : ℕ) (d : Step) → k < length trace → replay t (take k trace) ≡ Some u → step_applies (get_or trace k d) u ≡ true → v ≡ step_result (get_or trace k d) u → replay t (take (k + 1) trace) ≡ Some v
replay_more t u v trace k d l e a r = rw (take_more trace k d l) (replay-push t u (take k trace) (get_or trace k d) e ∙ rw (a, r) refl)

rename_all-push : (trace : List Step) (s : Step) (g : List Point) → rename_all (trace ++ s ∷ []) g ≡ rename s (rename_all trace g)
rename_all-push [] s g = refl
rename_all-push (r ∷ trace) s g = rename_all-push trace s (rename r g)

-- one renaming after another
pub one_after : (first second : List Point → List Point) (t u v : Tiles) → KeepsMembers first t u → KeepsMembers second u v → KeepsMembers (λ g. second (first g)) t v
one_after first second t u v h k = record {
  carried = λ n g m. k.carried n (first g) (h.carried n g m);
  sources = λ n p m.
      let w = k.sources n p m in
      let x = h.sources n w.source w.member in
      record {
        source = x.source;
        member = x.member;
        renamed = ap second x.renamed ∙ w.renamed;
        only = λ g i e. x.only g i (w.only (first g) (h.carried n g i) e);
      };
  counts = λ n. k.counts n ∙ h.counts n;
}

pub members_more : (t u v : Tiles) (trace : List Step) (k : ℕ) (d : Step) → k < length trace → KeepsMembers (rename_all (take k trace)) t u → KeepsMembers (rename (get_or trace k d)) u v → KeepsMembers (rename_all (take (k + 1) trace)) t v
members_more t u v trace k d l h m =
    let joined = one_after (rename_all (take k trace)) (rename (get_or trace k d)) t u v h m in
    let same : (λ (g : List Point). rename (get_or trace k d) (rename_all (take k trace) g)) ≡ rename_all (take k trace ++ get_or trace k d ∷ []) = λ i g. sym (rename_all-push (take k trace) (get_or trace k d) g) i in
    rw (take_more trace k d l) (subst (λ (f : List Point → List Point). KeepsMembers f t v) same joined)

pub keeps_itself : (t : Tiles) → KeepsMembers (λ g. g) t t
keeps_itself t = record {
  carried = λ n g m. m;
  sources = λ n h m. record { source = h; member = m; renamed = refl; only = λ g k e. e };
  counts = λ n. refl;
}
