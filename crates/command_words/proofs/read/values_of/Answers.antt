use Rattle.std.proofs.Common.{refl, sym, subst, ℕ, List, Bor}
use Rattle.std.specs.Prelude.{option_map}
use Rattle.command_words.specs.Requests.{GivesNumber, asked_as}
use Rattle.command_words.specs.declared.values.Range.{Range}
use Rattle.command_words.proofs.Numbers.{terms_are_bad, pack_is_bad, number_is_bad}
use Rattle.command_words.proofs.read.values_of.Goals as goal

pub returns-in_default-given_number-2-clause-bad : goal.returns-in_default-given_number-2-clause-bad
returns-in_default-given_number-2-clause-bad c =
    terms_are_bad (asked_as c.args.asked.now) (c.in-Some.workers, c.in-Some.ensures.some) (c.in-Some-given_number.budget, c.in-Some-given_number.ensures.some)
    (λ g. c.in_default-given_number-2.ensures.none refl g.0 (subst (λ (r : Range). GivesNumber r.least r.most r.default (option_map (λ (s : Bor (List ℕ)). s.now) c.args.asked.now.texts.terms) g.0) (sym c.terms_range.ensures) g.1))

pub returns-in_default-given_packs-clause-bad : goal.returns-in_default-given_packs-clause-bad
returns-in_default-given_packs-clause-bad c =
    pack_is_bad (asked_as c.args.asked.now) (c.in-Some.workers, c.in-Some.ensures.some) (c.in-Some-given_number.budget, c.in-Some-given_number.ensures.some)
    (c.in-Some-given_number-2.terms, subst (λ (r : Range). GivesNumber r.least r.most r.default (option_map (λ (s : Bor (List ℕ)). s.now) c.args.asked.now.texts.terms) c.in-Some-given_number-2.terms) c.terms_range.ensures c.in-Some-given_number-2.ensures.some) (λ g. c.in_default-given_packs.ensures.none refl g.0 g.1)

pub returns-in_default-given_number-3-clause-bad : goal.returns-in_default-given_number-3-clause-bad
returns-in_default-given_number-3-clause-bad c =
    number_is_bad (asked_as c.args.asked.now) (c.in-Some.workers, c.in-Some.ensures.some) (c.in-Some-given_number.budget, c.in-Some-given_number.ensures.some)
    (c.in-Some-given_number-2.terms, subst (λ (r : Range). GivesNumber r.least r.most r.default (option_map (λ (s : Bor (List ℕ)). s.now) c.args.asked.now.texts.terms) c.in-Some-given_number-2.terms) c.terms_range.ensures c.in-Some-given_number-2.ensures.some) (c.in-Some-given_packs.packs, c.in-Some-given_packs.ensures.some) (λ g. c.in_default-given_number-3.ensures.none refl g.0 g.1)
