-- Containment, avoiders and standardised words, computed.
use Rattle.std.specs.Prelude.{◌≡◌, true, false, List, [], ◌∷◌}
use Rattle.std.proofs.Common.{refl}
use Rattle.patterns.specs.Occurs.{occurs, contains, contains_in_cells, avoids, avoiders}
use Rattle.patterns.specs.Words.{all_perms, has_no_repeats}
use Rattle.patterns.specs.Ranks.{standardised}

last_falls : contains (1 ∷ 3 ∷ 0 ∷ 2 ∷ []) (0 ∷ 2 ∷ 1 ∷ []) ≡ true
unfolding occurs
last_falls = refl

no_three_fall : contains (1 ∷ 3 ∷ 0 ∷ 2 ∷ []) (2 ∷ 1 ∷ 0 ∷ []) ≡ false
unfolding occurs
no_three_fall = refl

not_backwards : contains (1 ∷ 0 ∷ []) (0 ∷ 1 ∷ []) ≡ false
unfolding occurs
not_backwards = refl

in_its_cells : contains_in_cells (0 ∷ 2 ∷ 1 ∷ []) (0 ∷ 0 ∷ 1 ∷ []) (1 ∷ 0 ∷ []) (0 ∷ 1 ∷ []) ≡ true
unfolding occurs
in_its_cells = refl

in_other_cells : contains_in_cells (0 ∷ 2 ∷ 1 ∷ []) (0 ∷ 0 ∷ 1 ∷ []) (1 ∷ 0 ∷ []) (0 ∷ 0 ∷ []) ≡ false
unfolding occurs
in_other_cells = refl

three_letters : all_perms 3 ≡ (0 ∷ 1 ∷ 2 ∷ []) ∷ (0 ∷ 2 ∷ 1 ∷ []) ∷ (1 ∷ 0 ∷ 2 ∷ []) ∷ (1 ∷ 2 ∷ 0 ∷ []) ∷ (2 ∷ 0 ∷ 1 ∷ []) ∷ (2 ∷ 1 ∷ 0 ∷ []) ∷ []
three_letters = refl

third_repeats : has_no_repeats (2 ∷ 0 ∷ 2 ∷ []) ≡ false
third_repeats = refl

fourteen : avoiders ((0 ∷ 2 ∷ 1 ∷ []) ∷ []) 4 ≡ 14
unfolding occurs
fourteen = refl

neither_way : avoiders ((0 ∷ 1 ∷ 2 ∷ []) ∷ (2 ∷ 1 ∷ 0 ∷ []) ∷ []) 4 ≡ 4
unfolding occurs
neither_way = refl

holds_the_second : avoids ((0 ∷ 1 ∷ 2 ∷ []) ∷ (2 ∷ 1 ∷ 0 ∷ []) ∷ []) (3 ∷ 0 ∷ 2 ∷ 1 ∷ []) ≡ false
unfolding occurs
holds_the_second = refl

closed_up : standardised (5 ∷ 9 ∷ 2 ∷ []) ≡ 1 ∷ 2 ∷ 0 ∷ []
closed_up = refl
