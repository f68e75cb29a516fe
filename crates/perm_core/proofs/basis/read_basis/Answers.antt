use Rattle.std.proofs.Common.{rules, ◌≡◌, List, ℕ, subst, sym}
use Rattle.perm_core.specs.Basis.{basis_of, IsBasis, IsBasisText}
use Rattle.perm_core.specs.Faults.{IsRefusedAsBasis}
use Rattle.perm_core.proofs.BasisLaws.{no_basis}
use Rattle.perm_core.proofs.BasisKept.{basis_kept}
use Rattle.perm_core.proofs.basis.read_basis.Goals as goal

pub returns-in-Some-clause-no_basis : goal.returns-in-Some-clause-no_basis
returns-in-Some-clause-no_basis c = let refused : IsRefusedAsBasis c.args.text.now c.in-Some.fault = search rules in no_basis c.args.text.now c.in-Some.fault refused

pub returns-in-Ok-ascending-clause-basis : goal.returns-in-Ok-ascending-clause-basis
returns-in-Ok-ascending-clause-basis c =
    let is_text : IsBasisText c.args.text.now = search rules in
    let is_basis : c.into_vec.result.items ≡ basis_of c.args.text.now = search rules in
    subst (λ (basis : List (List ℕ)). IsBasis basis) (sym is_basis) (basis_kept c.args.text.now is_text)
