-- What is said of a text is one thing, and the counts are those that the rules determine.
use Rattle.std.specs.Prelude.{◌≡◌, ◌≢◌, ℕ, List, map}
use Rattle.std.specs.List.{range_with_len}
use Rattle.tiling_core.specs.Tiles.{Tiles}
use Rattle.css_domain.specs.Entries.{Entry, ValidSpec, AreCounts, NoneOfLength0}
use Rattle.css_terms.specs.declared.term.Term.{Term}
use Rattle.css_terms.specs.Terms.{capped, cut}
use Rattle.rule_kinds.specs.Rules.{TilingRule}
use Rattle.tile_rules.specs.Meaning.{tile_meaning}
use Rattle.spec_lines.specs.Lines.{Text}
use Rattle.spec_checker.specs.declared.verdict.CheckFault.{CheckFault}
use Rattle.spec_checker.specs.declared.verdict.CheckFault.TheVariants as fault
use Rattle.spec_checker.specs.Accepting.{Accepts, IsAccepted, capped_counts}
use Rattle.spec_checker.specs.Refusing.{IsRefused}

-- a text is accepted with one number of entries and one list of terms
abbrev pub AcceptedOnce : Type 0
AcceptedOnce = (basis : List (List ℕ)) (bytes : Text) (entries others : ℕ) (terms items : List Term) → IsAccepted basis bytes entries terms → IsAccepted basis bytes others items → (entries ≡ others) × (terms ≡ items)

-- a text that is accepted has no fault
abbrev pub AcceptedOrRefused : Type 0
AcceptedOrRefused = (basis : List (List ℕ)) (bytes : Text) (why : CheckFault) → why ≢ fault.Memory → Accepts basis bytes → IsRefused basis bytes why → ⊥

-- a text is refused with one fault
abbrev pub RefusedOnce : Type 0
RefusedOnce = (basis : List (List ℕ)) (bytes : Text) (why other : CheckFault) → why ≢ fault.Memory → other ≢ fault.Memory → IsRefused basis bytes why → IsRefused basis bytes other → why ≡ other

-- the capped counts are those of any numbers that combine over the entries by the shapes of their rules
abbrev pub CountsAreByRules : Type 0
CountsAreByRules = (entries : List (Entry Tiles TilingRule)) (root : Tiles) (many : ℕ) (count : ℕ → ℕ → ℕ) → ValidSpec tile_meaning entries root → AreCounts tile_meaning entries count → NoneOfLength0 tile_meaning entries count → capped_counts entries many ≡ cut (map (λ n. capped (count 0 n)) (range_with_len 0 many))
