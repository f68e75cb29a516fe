-- A pack that a text names has a letter.
use Rattle.std.proofs.Common.{◌≡◌, ◌<◌, ℕ, Bool, true, false, [], ◌∷◌, Some, None, refl, sym, subst, arith}
use Rattle.std.specs.Prelude.{◌==◌, ◌&&◌, not, if◌then◌else◌}
use Rattle.std.specs.List.{list_all}
use Rattle.std.proofs.Common.{⊎_elim}
use Rattle.std.proofs.lemmas.Bool.{eqb-true, and_parts, or_cases}
use Rattle.patterns.specs.Words.{has_no_repeats}
use Rattle.rule_kinds.specs.Choices.{Packs}
use Rattle.tile_rules.specs.Complete.{rulebook_of}
use Rattle.work_packs.specs.PackTexts.{Text, is_letter, is_pack_text, letters_in, read_packs}
use Rattle.command_words.specs.Requests.{IsSomePack, all_letters}
use Rattle.lists.specs.Members.{is_nil}

-- the number of the pack that a text with this byte names isn't 0
abbrev HasNumber : ℕ → Text → Type 0
HasNumber b rest = 0 < rulebook_of (letters_in (b ∷ rest))

by_letter : (b k : ℕ) (rest : Text) → HasNumber k rest → (b == k) ≡ true → HasNumber b rest
by_letter b k rest h e = subst (λ c. HasNumber c rest) (sym (eqb-true b k e)) h

first_letter : (b : ℕ) (rest : Text) → is_letter b ≡ true → HasNumber b rest
first_letter b rest h =
    ⊎_elim (by_letter b 105 rest (omega arith)) (λ h1.
    ⊎_elim (by_letter b 114 rest (omega arith)) (λ h2.
    ⊎_elim (by_letter b 99 rest (omega arith)) (λ h3.
    ⊎_elim (by_letter b 112 rest (omega arith)) (λ h4.
    ⊎_elim (by_letter b 102 rest (omega arith)) (λ h5.
    ⊎_elim (by_letter b 115 rest (omega arith)) (λ h6.
    ⊎_elim (by_letter b 110 rest (omega arith)) (λ h7. absurd cc)
    (or_cases (b == 110) _ h6)) (or_cases (b == 115) _ h5)) (or_cases (b == 102) _ h4)) (or_cases (b == 112) _ h3)) (or_cases (b == 99) _ h2)) (or_cases (b == 114) _ h1)) (or_cases (b == 105) _ h)

pub some_letter : (text : Text) (packs : Packs) → read_packs text ≡ Some packs → 0 < rulebook_of packs
some_letter [] packs e = absurd cc
some_letter (b ∷ rest) packs e = go (is_pack_text (b ∷ rest)) refl e
  where
    go : (v : Bool) → v ≡ is_pack_text (b ∷ rest) → (if v then Some (letters_in (b ∷ rest)) else None) ≡ Some packs → 0 < rulebook_of packs
    go false s n = absurd cc
    go true s n =
        let are = (and_parts (not (is_nil (b ∷ rest))) (list_all is_letter (b ∷ rest) && has_no_repeats (b ∷ rest)) (sym s)).1 in
        let letters = (and_parts (list_all is_letter (b ∷ rest)) (has_no_repeats (b ∷ rest)) are).0 in
        let first = (and_parts (is_letter b) (list_all is_letter rest) letters).0 in
        let same : letters_in (b ∷ rest) ≡ packs = cc in
        subst (λ (p : Packs). 0 < rulebook_of p) same (first_letter b rest first)

pub some_pack_letter : (packs : Packs) → IsSomePack packs → 0 < rulebook_of packs
some_pack_letter packs h = ⊎_elim (λ (e : packs ≡ all_letters). subst (λ (p : Packs). 0 < rulebook_of p) (sym e) (omega arith)) (λ named. some_letter named.0 packs named.1) h
