use Rattle.std.proofs.Common.{◌<◌, ℕ, List, [], length, get_or, map, subst, Bor, arith}
use Rattle.std.specs.Prelude.{All}
use Rattle.std.proofs.lemmas.List.{length-map, get_or-map}
use Rattle.perm_core.specs.Basis.{IsBasisWord}
use Rattle.perm_core.proofs.Repeats.{distinct_from_test}
use Rattle.perm_core.proofs.basis.standardised_words.Goals as goal

word_at : (words : List (Bor (List ℕ))) (k : ℕ) (d : Bor (List ℕ)) → All IsBasisWord (map (λ w. w.now) words) → k < length words → IsBasisWord (get_or words k d).now
word_at words k d h l =
    let within : k < length (map (λ (w : Bor (List ℕ)). w.now) words) = omega (arith, length-map words (λ (w : Bor (List ℕ)). w.now)) in
    subst (λ (w : List ℕ). IsBasisWord w) (get_or-map (λ (w : Bor (List ℕ)). w.now) words k d d.now l) (h k d.now within)

pub standardised-requires-clause-distinct : goal.standardised-requires-clause-distinct
standardised-requires-clause-distinct c =
    distinct_from_test _ (word_at c.args.words.now c.loop-word.word-index (record { ref_ptr = (0, 0); now = [] }) c.requires c.loop-word-test.true).distinct

pub standardised-requires-clause-short : goal.standardised-requires-clause-short
standardised-requires-clause-short c =
    (word_at c.args.words.now c.loop-word.word-index (record { ref_ptr = (0, 0); now = [] }) c.requires c.loop-word-test.true).short
