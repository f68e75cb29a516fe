use Rattle.std.proofs.Common.{true, false, refl, map, sym, ap, ◌≡◌, ◌∙◌, ◌+◌, ◌++◌, ◌∷◌, [], option_map, drop, Bor, List, ℕ}
use Rattle.std.specs.Prelude.{string_bytes, Option, Some, None, is_some}
use Rattle.std.proofs.lemmas.List.{map-append}
use Rattle.command_words.specs.Parts.{parts_from}
use Rattle.command_words.specs.Met.{part_as}
use Rattle.command_words.proofs.Growing.{parts_with, place_gives, place_waits, place_refused, list_ends, list_ends_waiting}
use Rattle.command_words.proofs.parts.parts_of.Goals.{in-Gives+in_ok-push-in-Gives, in-Waits}
use Rattle.command_words.proofs.parts.parts_of.Goals as goal

waits_as : (w : Option (Bor (List ℕ))) → is_some w ≡ true → is_some (option_map (λ (s : Bor (List ℕ)). s.now) w) ≡ true
waits_as None e = e
waits_as (Some name) e = e

waits_not : (w : Option (Bor (List ℕ))) → is_some w ≡ false → option_map (λ (s : Bor (List ℕ)). s.now) w ≡ None
waits_not None e = refl
waits_not (Some name) e = absurd cc

pub returns-in-Refused : goal.returns-in-Refused
returns-in-Refused c =
    place_refused string_bytes c.args.command c.args.words.now c.loop-word.word-index c.word-item.result c.as_str.result.now (map part_as c.loop-word.parts.items) (option_map (λ (s : Bor (List ℕ)). s.now) c.loop-word.waiting) _ c.loop-word-test.true c.word-item.is c.as_str.ensures.value c.loop-word.invariant c.in-Refused.ensures

pub loop-word-preserved : goal.loop-word-preserved
loop-word-preserved c = elim c.match-meet.branch [
  | in-Gives+in_ok-push-in-Gives w ↦
      let seen : map part_as c.match-meet.parts.items ≡ map part_as c.loop-word.parts.items ++ part_as w.in-Gives.part ∷ [] =
      ap (λ v. map part_as v.items) w.parts-is ∙ ap (map part_as) w.in_ok-push-in-Gives.ensures.items ∙ map-append part_as c.loop-word.parts.items (w.in-Gives.part ∷ []) in
      (λ i. parts_with (seen i) (parts_from c.args.command (map string_bytes (drop (c.loop-word.word-index + 1) c.args.words.now)) (option_map (λ (s : Bor (List ℕ)). s.now) (w.waiting-is i))))
      ∙ place_gives string_bytes c.args.command c.args.words.now c.loop-word.word-index c.word-item.result c.as_str.result.now (map part_as c.loop-word.parts.items) (option_map (λ (s : Bor (List ℕ)). s.now) c.loop-word.waiting) _ c.loop-word-test.true c.word-item.is c.as_str.ensures.value c.loop-word.invariant (part_as w.in-Gives.part) w.in-Gives.ensures
  | in-Waits w ↦
      (λ i. parts_with (map part_as (w.parts-is i).items) (parts_from c.args.command (map string_bytes (drop (c.loop-word.word-index + 1) c.args.words.now)) (option_map (λ (s : Bor (List ℕ)). s.now) (w.waiting-is i))))
      ∙ place_waits string_bytes c.args.command c.args.words.now c.loop-word.word-index c.word-item.result c.as_str.result.now (map part_as c.loop-word.parts.items) (option_map (λ (s : Bor (List ℕ)). s.now) c.loop-word.waiting) _ c.loop-word-test.true c.word-item.is c.as_str.ensures.value c.loop-word.invariant w.in-Waits.name.now w.in-Waits.ensures
]

pub returns-then-is_some : goal.returns-then-is_some
returns-then-is_some c =
    list_ends_waiting string_bytes c.args.command c.args.words.now c.loop-word.word-index (map part_as c.loop-word.parts.items) _ c.loop-word-test.false _ (waits_as c.loop-word.waiting (sym c.if-is_some.ensures)) c.loop-word.invariant

pub returns : goal.returns
returns c =
    list_ends string_bytes c.args.command c.args.words.now c.loop-word.word-index (map part_as c.loop-word.parts.items) _ c.loop-word-test.false _ (waits_not c.loop-word.waiting (sym c.if-is_some.ensures)) c.loop-word.invariant
