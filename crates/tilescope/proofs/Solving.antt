-- What a search answers, from what the calls say that solve it.
use Rattle.std.proofs.Common.{◌≡◌, ◌<◌, ◌≤◌, ℕ, List, refl, sym, ap, ◌∙◌, subst}
use Rattle.std.specs.Prelude.{◌≢◌, Option, Some, IfSome}
use Rattle.patterns.specs.Occurs.{avoiders}
use Rattle.steps.specs.declared.step.Step.{Step}
use Rattle.normal_form.specs.TraceLaws.{trace}
use Rattle.tiling_core.specs.Tiles.{Tiles, count}
use Rattle.tiling_core.specs.Roots.{root_of}
use Rattle.css_domain.specs.Entries.{ValidSpec, Picked, class_counts}
use Rattle.css_domain.specs.FiledSpecs.{IsFiledSpec, FiledSpecsStand}
use Rattle.css_domain.specs.LedgerFacts.{IsLedger}
use Rattle.css_domain.specs.Ledgers.{counts}
use Rattle.css_domain.specs.Reasons.{Reason, RootStands, EndsFor, Alone}
use Rattle.css_domain.specs.Reasons.Reason.{Found, Exhausted, Budget}
use Rattle.css_crew.specs.Crews.{IsFilled}
use Rattle.css_crew.specs.Ways.{GoesWith}
use Rattle.css_terms.specs.Terms.{terms_to}
use Rattle.basis_terms.specs.BasisTerms.{terms_of}
use Rattle.tile_rules.specs.Complete.{rulebook_of}
use Rattle.tile_rules.specs.Meaning.{tile_meaning}
use Rattle.pack_law.specs.Tried.{IsFiledFor, ClassesAreNormal, NoSpec, FiledAreTried}
use Rattle.spec_lines.specs.Lines.{Text}
use Rattle.spec_text.specs.Texts.{spec_text}
use Rattle.perm_core.specs.Basis.{IsBasis}
use Rattle.spec_text.specs.Files.{KeptSpecsAreSpelled}
use Rattle.spec_checker.specs.Accepting.{Accepts}
use Rattle.tilescope.proofs.Accepted.{found_is_accepted}
use Rattle.command_words.specs.declared.request.Request.{Request}
use Rattle.tilescope.specs.Searches.{TileBooks, TileEntries, IsReducedRoot, IsExplored, IsSpecOf, IsWithout, AreRulesOfPack, IsAnswerText, none_line}
use Rattle.tilescope.specs.Answers.{IsMade, IsSearchAnswer, IsSolvedFor}
use Rattle.tilescope.proofs.Answering.{made_none, made_found}

pub same_terms : (last : ℕ) (f g : ℕ → ℕ) → ((n : ℕ) → f n ≡ g n) → terms_to last f ≡ terms_to last g
same_terms last f g h i = terms_to last (λ n. h n i)

-- the root's counts are those of the first entry
pub root_counts : (basis : List (List ℕ)) (l : TileBooks) (entries : TileEntries) → IsReducedRoot basis l.root → ValidSpec tile_meaning entries l.root → (n : ℕ) → class_counts tile_meaning entries 0 n ≡ avoiders basis n
root_counts basis l entries root v n =
    let first : class_counts tile_meaning entries 0 n ≡ count v.first.class n = rw v.starts refl in
    first ∙ ap (λ (t : Tiles). count t n) v.root ∙ root.counts n

-- where the root doesn't stand, that is no reason
pub not_found : (l : TileBooks) (why : Reason) → EndsFor tile_meaning l why → (RootStands tile_meaning l → ⊥) → why ≢ Found
not_found l why ends unsettled e = unsettled (subst (λ w. EndsFor tile_meaning l w) e ends)

-- the root of a ledger with picks stands
pub stands : (l : TileBooks) (entries : TileEntries) → Picked tile_meaning l 0 entries → RootStands tile_meaning l
stands l entries picked = (picked.standing 0).0 picked.stands

-- the answer's text where there is no specification
none_text : (basis : List (List ℕ)) (last : ℕ) (l : TileBooks) (why : Reason) (text : Text) → why ≢ Found → text ≡ none_line why (counts tile_meaning l) → IsAnswerText basis last l why text
none_text basis last l Found text ne e = absurd (ne refl)
none_text basis last l Exhausted text ne e = e
none_text basis last l Budget text ne e = e

-- a search that is solved, from what is said of a ledger of the reduced root
pub solved_for : (request : Request) (root : Tiles) → IsReducedRoot request.basis root → (l : TileBooks) (why : Reason) (spec : Option TileEntries) → IsLedger tile_meaning l → IsFilled tile_meaning root request.budget (rulebook_of request.packs) l
    → (request.workers ≡ 1 → Alone tile_meaning root request.budget (rulebook_of request.packs) l) → EndsFor tile_meaning l why → GoesWith tile_meaning l spec → IfSome spec (λ entries. IsFiledSpec tile_meaning l entries) → IsSolvedFor request l why spec
solved_for request root reduced l why spec ledger filled alone ends goes filed =
    let own = sym filled.of_root in
    record {
      root = subst (λ (t : Tiles). IsReducedRoot request.basis t) own reduced;
      ledger = ledger;
      filled = subst (λ (t : Tiles). IsFilled tile_meaning t request.budget (rulebook_of request.packs) l) own filled;
      alone = λ one. subst (λ (t : Tiles). Alone tile_meaning t request.budget (rulebook_of request.packs) l) own (alone one);
      ends = ends;
      goes = goes;
      filed = filed;
    }

module _ (stand : FiledSpecsStand tile_meaning) (classes_normal : ClassesAreNormal) (no_spec : NoSpec) (are_tried : FiledAreTried) (request : Request) (letter : 0 < rulebook_of request.packs) (l : TileBooks) (why : Reason) (spec : Option TileEntries) (solved : IsSolvedFor request l why spec) where
  filed_for : IsFiledFor request.packs l
  filed_for =
      record {
        ledger = solved.ledger;
        normal = solved.root.normal;
        complete = solved.filled.complete;
        of_packs = solved.filled.of_rulebook;
        some_pack = subst (λ (n : ℕ). 0 < n) (sym solved.filled.of_rulebook) letter;
      }

  pub explored : IsExplored request.basis request.budget request.packs l why
  explored = record { root = solved.root; ledger = solved.ledger; filled = solved.filled; normal = classes_normal request.packs l filed_for; ends = solved.ends }

  by_pack : AreRulesOfPack request.packs l
  by_pack entries by_rules = are_tried request.packs l entries filed_for by_rules

  without : (RootStands tile_meaning l → ⊥) → IsWithout request.packs l
  without unsettled =
      record {
        none = unsettled;
        none_filed = λ entries valid filed. unsettled (stand l entries solved.ledger (record { valid = valid; filed = filed }));
        beyond = λ done entries valid tried. no_spec request.packs l entries filed_for (unsettled, done) valid tried;
      }

  pub none_answer : (text : Text) → (RootStands tile_meaning l → ⊥) → text ≡ none_line why (counts tile_meaning l) → (s : ℕ) (t : Option Text) (b : Option TileBooks) → IsMade 1 text (Some l) s t b → IsSearchAnswer request s t b
  none_answer text unsettled line s t b made =
      let ne = not_found l why solved.ends unsettled in
      made_none request l why text ne (record { explored = explored; alone = solved.alone; says = none_text request.basis request.terms l why text ne line; by_pack = by_pack; without = λ _. without unsettled }) s t b made

  pub found_as : (w : Reason) → (RootStands tile_meaning l) → IsExplored request.basis request.budget request.packs l w → IsExplored request.basis request.budget request.packs l Found
  found_as w here is = record { root = is.root; ledger = is.ledger; filled = is.filled; normal = is.normal; ends = here }

  pub found_answer : KeptSpecsAreSpelled → IsBasis request.basis → request.terms ≤ 200 → (entries : TileEntries) (steps : List Step) (text : Text) → Picked tile_meaning l 0 entries → IsFiledSpec tile_meaning l entries → steps ≡ trace (root_of request.basis)
      → text ≡ spec_text request.basis steps entries (terms_to request.terms (class_counts tile_meaning entries 0)) → (s : ℕ) (t : Option Text) (b : Option TileBooks) → IsMade 0 text (Some l) s t b → IsSearchAnswer request s t b
  found_answer spelled kept short entries steps text picked filed traced written s t b made =
      let terms : terms_to request.terms (class_counts tile_meaning entries 0) ≡ terms_of request.basis request.terms = same_terms request.terms (class_counts tile_meaning entries 0) (avoiders request.basis) (root_counts request.basis l entries solved.root filed.valid) in
      let own_spec : IsSpecOf l entries = record { picked = picked; valid = filed.valid; filed = filed.filed } in
      let whole : text ≡ spec_text request.basis (trace (root_of request.basis)) entries (terms_of request.basis request.terms) = written ∙ (λ i. spec_text request.basis (traced i) entries (terms i)) in
      let accepted = found_is_accepted spelled request.basis kept request.terms short l solved.ledger entries own_spec solved.root (sym terms) in
      made_found request l text
      (record {
        explored = found_as why (stands l entries picked) explored;
        alone = solved.alone;
        says = record { entries = entries; spec = own_spec; written = whole; accepted = subst (λ (x : Text). Accepts request.basis x) (sym whole) accepted };
        by_pack = by_pack;
        without = λ ne. absurd (ne refl);
      })
      s t b made
