-- What is found of a file is said of its bytes.
use Rattle.std.proofs.Common.{◌≡◌, ℕ, List, length, ap, ◌∙◌, refl}
use Rattle.std.specs.Prelude.{◌≢◌, option_map, Result, Ok, Err, IsOk, IfOk, IfErr}
use Rattle.lists.proofs.Places.{at_place}
use Rattle.tiling_core.specs.Tiles.{Tiles}
use Rattle.css_domain.specs.Entries.{Entry}
use Rattle.rule_kinds.specs.Rules.{TilingRule}
use Rattle.basis_terms.specs.BasisTerms.{ExactTermsAreAvoiders}
use Rattle.spec_lines.specs.Lines.{Text}
use Rattle.spec_text.specs.declared.file.SpecFile.{SpecFile}
use Rattle.spec_text.specs.Joined.{IsReadSpec}
use Rattle.spec_checker.specs.declared.verdict.Checked.{Checked}
use Rattle.spec_checker.specs.declared.verdict.CheckFault.{CheckFault}
use Rattle.spec_checker.specs.declared.verdict.CheckFault.TheVariants as fault
use Rattle.spec_checker.specs.Accepting.{IsSpecified, Accepts, IsAccepted, AreCounts}
use Rattle.spec_checker.specs.Refusing.{IsRefused, UnlessMemory}
use Rattle.spec_checker.specs.Laws.{AcceptedOrRefused, RefusedOnce}
use Rattle.spec_checker.specs.Pieces.{IsFoundOut}
use Rattle.spec_checker.specs.Passing.{IsRightInRanks, IsJudged}
use Rattle.spec_checker.proofs.Joined.{spec_by_rules, hold_by_rules}
use Rattle.spec_checker.proofs.Counted.{counts_of_avoiders}

module _ (basis : List (List ℕ)) (bytes : Text) (f : SpecFile) (read : IsReadSpec bytes f) where
  specified_by : IsRightInRanks basis f → IsSpecified basis bytes f
  specified_by h =
      let first = at_place f.entries 0 read.some_entries in
      record {
        own = record { read = read; words = h.before.start.words };
        root = first.0.class;
        replayed = h.before.start.rooted ∙ ap (option_map (λ (e : Entry Tiles TilingRule). e.class)) first.1;
        valid = record {
          spec = spec_by_rules f.entries read.joined read.some_entries h.before.rules h.ranks;
          hold = hold_by_rules f.entries read.joined h.before.rules;
          first = first.0;
          starts = first.1;
          root = refl;
        };
      }

  pub accepted_of : (r : Result Checked CheckFault) → IsJudged basis f r → IfOk r (λ c. IsAccepted basis bytes c.entries c.terms.items)
  accepted_of (Ok c) h = record { file = f; accepted = record { specified = specified_by h.before; terms = h.right }; many = h.many; items = h.items }
  accepted_of (Err e) h = tt

  pub refused_of : (r : Result Checked CheckFault) → IsJudged basis f r → IfErr r (λ why. IsRefused basis bytes why)
  refused_of (Ok c) h = tt
  refused_of (Err (fault.Grammar line)) h = absurd h
  refused_of (Err (fault.Limit line)) h = absurd h
  refused_of (Err fault.OtherBasis) h = record { file = f; read = read; other = h }
  refused_of (Err fault.Root) h = record { file = f; own = record { read = read; words = h.0 }; wrong = h.1 }
  refused_of (Err (fault.Rule i)) h = record { file = f; own = record { read = read; words = h.0.words }; rooted = h.0.rooted; first = h.1 }
  refused_of (Err (fault.Rank i k)) h = record { file = f; own = record { read = read; words = h.0.start.words }; rooted = h.0.start.rooted; rules = h.0.rules; first = h.1 }
  refused_of (Err (fault.Terms n)) h = record { file = f; specified = specified_by h.0; first = h.1 }
  refused_of (Err fault.Memory) h = tt

  pub counts_judged : ExactTermsAreAvoiders → (r : Result Checked CheckFault) → IsJudged basis f r → IfOk r (λ c. AreCounts basis c.terms.items)
  counts_judged law (Ok c) h = counts_of_avoiders basis f.entries (length f.terms) c.terms.items law h.counts read.some_terms (h.items ∙ h.right)
  counts_judged law (Err e) h = tt

-- a text that has a fault is refused with it, unless memory ran out
refuses_of : AcceptedOrRefused → RefusedOnce → (basis : List (List ℕ)) (bytes : Text) (r : Result Checked CheckFault) → IfOk r (λ c. IsAccepted basis bytes c.entries c.terms.items) → IfErr r (λ why. IsRefused basis bytes why)
    → (why : CheckFault) → why ≢ fault.Memory → IsRefused basis bytes why → UnlessMemory r (r ≡ Err why)
refuses_of both once basis bytes (Ok c) a b why m h = absurd (both basis bytes why m (a.file, a.accepted) h)
refuses_of both once basis bytes (Err (fault.Grammar n)) a b why m h = ap (λ w. Err w) (once basis bytes (fault.Grammar n) why (λ e. absurd cc) m b h)
refuses_of both once basis bytes (Err (fault.Limit n)) a b why m h = ap (λ w. Err w) (once basis bytes (fault.Limit n) why (λ e. absurd cc) m b h)
refuses_of both once basis bytes (Err fault.OtherBasis) a b why m h = ap (λ w. Err w) (once basis bytes fault.OtherBasis why (λ e. absurd cc) m b h)
refuses_of both once basis bytes (Err fault.Root) a b why m h = ap (λ w. Err w) (once basis bytes fault.Root why (λ e. absurd cc) m b h)
refuses_of both once basis bytes (Err (fault.Rule i)) a b why m h = ap (λ w. Err w) (once basis bytes (fault.Rule i) why (λ e. absurd cc) m b h)
refuses_of both once basis bytes (Err (fault.Rank i k)) a b why m h = ap (λ w. Err w) (once basis bytes (fault.Rank i k) why (λ e. absurd cc) m b h)
refuses_of both once basis bytes (Err (fault.Terms n)) a b why m h = ap (λ w. Err w) (once basis bytes (fault.Terms n) why (λ e. absurd cc) m b h)
refuses_of both once basis bytes (Err fault.Memory) a b why m h = tt

-- and one that is accepted is not refused
accepts_of : AcceptedOrRefused → (basis : List (List ℕ)) (bytes : Text) (r : Result Checked CheckFault) → IfErr r (λ why. IsRefused basis bytes why) → Accepts basis bytes → UnlessMemory r (IsOk r)
accepts_of both basis bytes (Ok c) b h = refl
accepts_of both basis bytes (Err (fault.Grammar n)) b h = absurd (both basis bytes (fault.Grammar n) (λ e. absurd cc) h b)
accepts_of both basis bytes (Err (fault.Limit n)) b h = absurd (both basis bytes (fault.Limit n) (λ e. absurd cc) h b)
accepts_of both basis bytes (Err fault.OtherBasis) b h = absurd (both basis bytes fault.OtherBasis (λ e. absurd cc) h b)
accepts_of both basis bytes (Err fault.Root) b h = absurd (both basis bytes fault.Root (λ e. absurd cc) h b)
accepts_of both basis bytes (Err (fault.Rule i)) b h = absurd (both basis bytes (fault.Rule i) (λ e. absurd cc) h b)
accepts_of both basis bytes (Err (fault.Rank i k)) b h = absurd (both basis bytes (fault.Rank i k) (λ e. absurd cc) h b)
accepts_of both basis bytes (Err (fault.Terms n)) b h = absurd (both basis bytes (fault.Terms n) (λ e. absurd cc) h b)
accepts_of both basis bytes (Err fault.Memory) b h = tt

-- all that is found of a text
pub found_out : AcceptedOrRefused → RefusedOnce → (basis : List (List ℕ)) (bytes : Text) (r : Result Checked CheckFault) → IfOk r (λ c. IsAccepted basis bytes c.entries c.terms.items) → IfErr r (λ why. IsRefused basis bytes why) → IfOk r (λ c. AreCounts basis c.terms.items) → IsFoundOut basis bytes r
found_out both once basis bytes r accepted refused counts = record {
  accepted = accepted;
  accepts = accepts_of both basis bytes r refused;
  refused = refused;
  refuses = refuses_of both once basis bytes r accepted refused;
  counts = counts;
}
