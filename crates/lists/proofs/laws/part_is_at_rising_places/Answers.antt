use Rattle.lists.proofs.Parts.{places_of, part_at_places}
use Rattle.lists.proofs.laws.part_is_at_rising_places.Goals as goal

pub returns : goal.returns
returns c = λ part whole. ((λ h. let k = places_of h in record { places = k.0; rising = k.1; there = k.2 }), (λ k. part_at_places whole k.places part k.rising k.there))
