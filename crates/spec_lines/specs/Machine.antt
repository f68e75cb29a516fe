-- Going through lines, from place to place.
use Rattle.std.specs.Prelude.{ℕ, suc, List, [], ◌∷◌, Option, Some, None, option_map, option_and_then, unwrap_or}
use Rattle.spec_lines.specs.Lines.{Text}
use Rattle.spec_lines.specs.Forms.{Line}
use Rattle.spec_lines.specs.Follows.{Place, after}
use Rattle.spec_lines.specs.Readings.{line_at}

-- the place after a line that stands at a place
abbrev pub step : Place → Text → Option Place
step p t = option_and_then (after p) (line_at p t)

-- the place after these lines, and None where one of them isn't of the form or may not stand where it does
abbrev pub run : Place → List Text → Option Place
run p [] = Some p
run p (t ∷ ts) = option_and_then (λ q. run q ts) (step p t)

-- how many of the lines are gone through
abbrev pub gone_through : Place → List Text → ℕ
gone_through p [] = 0
gone_through p (t ∷ ts) = unwrap_or (option_map (λ q. suc (gone_through q ts)) (step p t)) 0

-- the values of the lines that are gone through, and the place after them
pub record Gone : Type 0 where
  pub values : List Line
  pub place : Place

abbrev pub with_front : Line → Gone → Gone
with_front l g = record g { values = l ∷ g.values }

abbrev pub gone_to : (Place → Gone) → Place → Option Place → Gone
gone_to further p None = record { values = []; place = p }
gone_to further p (Some q) = further q

abbrev pub gone_on : (Line → Place → Gone) → Place → Option Line → Gone
gone_on further p None = record { values = []; place = p }
gone_on further p (Some l) = gone_to (further l) p (after p l)

abbrev pub gone : Place → List Text → Gone
gone p [] = record { values = []; place = p }
gone p (t ∷ ts) = gone_on (λ l q. with_front l (gone q ts)) p (line_at p t)
