-- One step of the search, over the places of slices.
use Rattle.std.proofs.Common.{◌≡◌, ℕ, ◌+◌, ◌<◌, ◌≤◌, Bool, true, false, List, [], length, get_or, take, drop, set}
use Rattle.std.specs.Prelude.{◌&&◌, ◌||◌}
use Rattle.std.proofs.lemmas.List.{take_more, take_more_set, drop_more, drop_all}
use Rattle.patterns.specs.Occurs.{contains}
use Rattle.patterns.specs.Search.{is_found, letters_fit}
use Rattle.patterns.proofs.Searches.{found_from_start}

abbrev pub found : List ℕ → List ℕ → List ℕ → List ℕ → Bool
found = is_found (λ l. l) (λ _ _. true)

pub found_step : (chosen pattern whole : List ℕ) (taken from : ℕ) → taken < length chosen → taken < length pattern → from < length whole
    → found (take taken chosen) (take taken pattern) (drop from whole) (drop taken pattern)
    ≡ (letters_fit (get_or whole from 0) (get_or pattern taken 0) (take taken chosen) (take taken pattern)
    && found (take (taken + 1) (set chosen taken (get_or whole from 0))) (take (taken + 1) pattern) (drop (from + 1) whole) (drop (taken + 1) pattern)
    || found (take taken chosen) (take taken pattern) (drop (from + 1) whole) (drop taken pattern))
found_step chosen pattern whole taken from h k l =
    rw (drop_more whole from 0 l, drop_more pattern taken 0 k, take_more_set chosen taken (get_or whole from 0) h, take_more pattern taken 0 k)

pub found_none : (xs ys pattern whole : List ℕ) (taken from : ℕ) → taken < length pattern → length whole ≤ from → found xs ys (drop from whole) (drop taken pattern) ≡ false
found_none xs ys pattern whole taken from k l = rw (drop_all from whole l, drop_more pattern taken 0 k)

pub ruleset stepping = (found_step, found_none)

pub starting : (w p : List ℕ) → found [] [] w p ≡ contains w p
starting w p = found_from_start (λ l. l) (λ _ _. true) w p
