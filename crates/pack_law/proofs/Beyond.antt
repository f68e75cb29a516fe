-- Where all classes are filed for some packs, a specification by rules of complete filings is one of the ledger's rules.
use Rattle.std.proofs.Common.{◌≡◌, true, List, [], ◌∷◌, refl, sym, ap, subst, ◌∙◌, ◌<◌, ℕ}
use Rattle.std.specs.Prelude.{map, zip, Some}
use Rattle.lists.specs.Members.IsIn.{here, later}
use Rattle.lists.specs.Members.{IsIn}
use Rattle.css_domain.specs.Ledgers.{Books, classes, is_all_done}
use Rattle.css_domain.specs.Entries.{Entry, ValidSpec}
use Rattle.css_domain.specs.Reasons.{RootStands, Alone}
use Rattle.css_domain.specs.LedgerFacts.{IsLedger}
use Rattle.tiling_core.specs.Tiles.{Tiles, IsTiling}
use Rattle.tiling_core.specs.Same.{tiles_eq, tiles_eq_decides}
use Rattle.tiling_core.proofs.Minimal.{each_of}
use Rattle.steps.specs.declared.step.Step.{Step}
use Rattle.steps.specs.Traces.{replay, IsNormal}
use Rattle.normal_form.specs.TraceLaws.{trace, TraceIsTotal, TracesEndNormal}
use Rattle.rule_kinds.specs.Rules.{TilingRule}
use Rattle.rule_kinds.specs.Children.{raw_children}
use Rattle.rule_kinds.specs.Choices.{Packs}
use Rattle.tile_rules.specs.Complete.{IsComplete, rulebook_of}
use Rattle.tile_rules.specs.Meaning.{tile_meaning}
use Rattle.pack_law.specs.Tried.{AreTried, IsFiledFor, IsTried}
use Rattle.css_domain.proofs.SpecStands.{root_stands}
use Rattle.css_domain.proofs.AllFiled.{all_filed}
use Rattle.css_domain.proofs.Classes.{all_hold, rule_fits}
use Rattle.pack_law.proofs.Same.{IsTraced, of_complete, tried_is_in, complete_are_tried}

own : (t : Tiles) → tiles_eq t t ≡ true
own t = (tiles_eq_decides t t).1 refl

exact : (s t : Tiles) → tiles_eq s t ≡ true → s ≡ t
exact s t = (tiles_eq_decides s t).0

pub alone_is_filed : (packs : Packs) (root : Tiles) (budget : ℕ) (l : Books Tiles TilingRule) → IsLedger tile_meaning l → Alone tile_meaning root budget (rulebook_of packs) l → IsNormal root → 0 < rulebook_of packs → IsFiledFor packs l
alone_is_filed packs root budget l is alone normal some =
    record {
      ledger = is;
      normal = subst (λ t. IsNormal t) (sym alone.of_root) normal;
      complete = alone.complete;
      of_packs = alone.of_rulebook;
      some_pack = subst (λ n. 0 < n) (sym alone.of_rulebook) some;
    }

module _ (total : TraceIsTotal) (ends : TracesEndNormal) where
  -- what tilings are reduced to is normal
  reduced_normal : (raws children : List Tiles) → ((t : Tiles) → IsIn t raws → IsTiling t) → map (λ (p : Tiles × List Step). replay p.0 p.1) (zip raws (map trace raws)) ≡ map (λ (t : Tiles). Some t) children → (d : Tiles) → IsIn d children → IsNormal d
  reduced_normal raws [] tilings h d i = elim i [ ]
  reduced_normal [] (c ∷ children) tilings h d i = absurd cc
  reduced_normal (t ∷ raws) (_ ∷ children) tilings h d (here) =
      let e = ends t (trace t) (tilings t here) (total t (tilings t here)) in
      let f : replay t (trace t) ≡ Some d = cc in
      let g = e.replayed in
      let same : e.end ≡ d = cc in
      subst (λ u. IsNormal u) same e.normal
  reduced_normal (t ∷ raws) (c ∷ children) tilings h d (later _ i) = reduced_normal raws children (λ u j. tilings u (later t j)) (let f : map (λ (p : Tiles × List Step). replay p.0 p.1) (zip raws (map trace raws)) ≡ map (λ (u : Tiles). Some u) children = cc in f) d i

  pub child_normal : (t : Tiles) (r : TilingRule) → IsTraced t r → (d : Tiles) → IsIn d r.children → IsNormal d
  child_normal t r is d i =
      let traces : r.traces ≡ map trace (raw_children r.parent r.kind) = is.traced ∙ ap (λ u. map trace (raw_children u r.kind)) (sym is.parent) in
      reduced_normal (raw_children r.parent r.kind) r.children (λ u j. each_of (λ v. IsTiling v) j is.follows.made.raw)
      (ap (λ steps. map (λ (p : Tiles × List Step). replay p.0 p.1) (zip (raw_children r.parent r.kind) steps)) (sym traces) ∙ is.follows.replayed)
      d i

  module _ (packs : Packs) (l : Books Tiles TilingRule) (entries : List (Entry Tiles TilingRule)) (x : IsFiledFor packs l) (all : is_all_done tile_meaning l ≡ true) (valid : ValidSpec tile_meaning entries l.root) (tried : AreTried packs entries) where
    pub spec_is_filed : (e : Entry Tiles TilingRule) → IsIn e entries → IsIn e.rule l.rules
    spec_is_filed =
        all_filed tile_meaning own exact l x.ledger all IsNormal (λ t rules. IsComplete rules t packs)
        (λ n rules c normal i at. x.complete.complete n rules c i at x.some_pack normal packs (sym x.of_packs))
        (λ f r c d normal is i j. child_normal c r (of_complete c packs f is r i) d j)
        entries valid x.normal
        (λ e i f is. tried_is_in e.class packs f is e.rule (valid.hold e i) (valid.spec.linked e i).own (tried e i))

    pub no_spec : (RootStands tile_meaning l → ⊥) → ⊥
    no_spec falls = falls (root_stands tile_meaning own exact l x.ledger entries valid spec_is_filed)

  module _ (packs : Packs) (l : Books Tiles TilingRule) (x : IsFiledFor packs l) where
    pub classes_are_normal : (c : Tiles) → IsIn c (classes tile_meaning l) → IsNormal c
    classes_are_normal =
        all_hold tile_meaning l x.ledger IsNormal (λ t rules. IsComplete rules t packs)
        (λ n rules c normal i at. x.complete.complete n rules c i at x.some_pack normal packs (sym x.of_packs))
        (λ f r c d normal is i j. child_normal c r (of_complete c packs f is r i) d j)
        x.normal

    pub rules_are_tried : (r : TilingRule) → IsIn r l.rules → IsTried packs r
    rules_are_tried r i =
        let b = rule_fits tile_meaning l x.ledger IsNormal (λ t rules. IsComplete rules t packs) (λ n rules c normal i at. x.complete.complete n rules c i at x.some_pack normal packs (sym x.of_packs)) (λ f r c d normal is i j. child_normal c r (of_complete c packs f is r i) d j) x.normal r i in
        complete_are_tried b.class packs b.block b.fits r b.inside
