-- Rounds of growing.
use Rattle.std.proofs.Common.{◌≡◌, ◌-◌, ℕ, zero, suc, Bool, List, [], ◌∷◌, length, refl, sym, ap, ◌∙◌, subst, inl, ⊎_elim, arith}
use Rattle.std.specs.Prelude.{◌||◌}
use Rattle.std.specs.List.{list_any}
use Rattle.std.proofs.lemmas.Bool.{or_left}
use Rattle.lists.specs.Members.{IsIn, NoRepeats}
use Rattle.lists.specs.Members.IsIn.{here, later}
use Rattle.lists.specs.Members.NoRepeats.{one_more}
use Rattle.lists.proofs.Repeats.{NoRepeats-filter}
use Rattle.lists.proofs.Filters.{filter_all}
use Rattle.lists.proofs.Tests.{some_passes}
use Rattle.gridded.specs.declared.cell.Cell.{Cell}
use Rattle.gridded.specs.Orders.{cell_eq}
use Rattle.gridded.specs.OrderLaws.{cell_eq_decides}
use Rattle.gridded.specs.CellSets.{is_among, cells_that, IsCellSet, HasOneMore}
use Rattle.gridded.proofs.GriddedLists.{NoRepeats-cells_in}
use Rattle.rule_kinds.specs.Choices.{grown, grown_times, closure}

pub set_once : (set : List Cell) → IsCellSet set → NoRepeats set
unfolding cells_that
set_once set s = subst (λ (cells : List Cell). NoRepeats cells) (sym s) (NoRepeats-filter (λ c. is_among set c) (NoRepeats-cells_in 8 8))

-- a list with one cell alone
only_one : (c : Cell) (set : List Cell) → NoRepeats set → IsIn c set → ((d : Cell) → IsIn d set → d ≡ c) → set ≡ c ∷ []
only_one c [] r m h = elim m [ ]
only_one c (x ∷ []) r m h = ap (λ (d : Cell). d ∷ []) (h x here)
only_one c (x ∷ y ∷ set) (one_more out r) m h =
    let same : y ≡ x = h y (later x here) ∙ sym (h x here) in absurd (out (subst (λ (d : Cell). IsIn d (y ∷ set)) same here))

pub one_cell : (c : Cell) (set none : List Cell) → none ≡ [] → HasOneMore none c set → IsCellSet set → set ≡ c ∷ []
one_cell c set none n h s =
    only_one c set (set_once set s) ((h c).1 (inl refl))
    (λ d m. ⊎_elim {C = d ≡ c} (λ e. e) (λ i. let j : IsIn d [] = subst (λ (cells : List Cell). IsIn d cells) n i in elim j [ ]) ((h d).0 m))

module _ (link : Cell → Cell → Bool) (cells : List Cell) where
  -- before the first round
  pub begun : (c : Cell) (active : List Cell) (rounds : ℕ) (set : List Cell) → active ≡ cells → rounds ≡ length active → set ≡ c ∷ [] → grown_times (rounds - 0) link cells set ≡ closure link cells c
  begun c active rounds set a r o =
      let n : rounds - 0 ≡ length cells = omega (arith, r, ap (λ (l : List Cell). length l) a) in
      λ i. grown_times (n i) link cells (o i)

  -- one round is done
  pub round_done : (m n : ℕ) (set larger whole : List Cell) → m ≡ suc n → grown_times m link cells set ≡ whole → larger ≡ grown link cells set → grown_times n link cells larger ≡ whole
  round_done m n set larger whole l e f = ap (λ (some : List Cell). grown_times n link cells some) f ∙ ap (λ (k : ℕ). grown_times k link cells set) (sym l) ∙ e

  -- nothing more comes where a round adds nothing
  pub settled : (n : ℕ) (set whole : List Cell) → grown_times n link cells set ≡ whole → set ≡ grown link cells set → set ≡ whole
  settled n set whole e f = go n ∙ e
    where
      go : (k : ℕ) → set ≡ grown_times k link cells set
      go zero = refl
      go (suc k) = go k ∙ ap (λ (some : List Cell). grown_times k link cells some) f

  -- a set of all cells grows no more
  whole_stays : (set : List Cell) → set ≡ cells → set ≡ grown link cells set
  whole_stays set e =
      e
      ∙ sym (filter_all (λ d. list_any (λ c. cell_eq c d || link c d) cells) cells (λ d m. some_passes (λ c. cell_eq c d || link c d) m (or_left (cell_eq d d) (link d d) ((cell_eq_decides d d).1 refl))))
      ∙ ap (λ (some : List Cell). grown link cells some) (sym e)

  pub whole_settled : (n : ℕ) (set active whole : List Cell) → grown_times n link cells set ≡ whole → set ≡ active → active ≡ cells → set ≡ whole
  whole_settled n set active whole e f a = settled n set whole e (whole_stays set (f ∙ a))

  pub no_more : (n : ℕ) (set whole : List Cell) → n ≡ 0 → grown_times n link cells set ≡ whole → set ≡ whole
  no_more zero set whole z e = e
  no_more (suc n) set whole z e = absurd (omega arith)
