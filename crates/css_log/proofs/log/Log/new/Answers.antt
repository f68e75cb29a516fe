use Rattle.std.proofs.Common.{rules, refl, ◌∙◌, arith}
use Rattle.css_log.proofs.Ends.{opens}
use Rattle.css_log.proofs.SplitsAndJoins.{births_as}
use Rattle.css_log.proofs.log.Log.new.Goals as goal

pub of_words-requires : goal.of_words-requires
of_words-requires c = opens _ _ (c.as_slice.ensures.value ∙ c.in_ok-zeros.ensures.items_if_clones_equal (λ y same. same)) (omega arith)

pub split_seat-reader-requires : goal.split_seat-reader-requires
split_seat-reader-requires c = (search rules, search rules, births_as _ _ _ (λ i. (c.in_ok-table.ensures.4 i).0) refl)
