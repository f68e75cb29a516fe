-- Tilings are equal where they are the same.
use Rattle.std.specs.Prelude.{◌≡◌, Bool, ◌&&◌, nat_eq, Decides}
use Rattle.std.proofs.Common.{ap, refl, sym}
use Rattle.std.specs.Cmp.{IsEquivalence}
use Rattle.std.specs.Bool.{one_answer}
use Rattle.std.specs.Cmp.Lexicographic.{pointwise, pointwise_decides}
use Rattle.std.proofs.lemmas.Bool.Decides.{Decides-eqb, Decides-and, Decides-like}
use Rattle.gridded.specs.Orders.{gridded_eq}
use Rattle.gridded.specs.OrderLaws.{gridded_eq_decides}
use Rattle.tiling_core.specs.Tiles.{Tiles}

abbrev pub tiles_eq : Tiles → Tiles → Bool
tiles_eq s t = nat_eq s.width t.width && (nat_eq s.height t.height && (pointwise gridded_eq s.obstructions t.obstructions && pointwise (pointwise gridded_eq) s.requirements t.requirements))

pub tiles_eq_decides : (s t : Tiles) → Decides (tiles_eq s t) (s ≡ t)
tiles_eq_decides s t =
    Decides-like (tiles_eq s t)
    (λ h. λ i. record { width = h.0 i; height = h.1.0 i; obstructions = h.1.1.0 i; requirements = h.1.1.1 i })
    (λ e. (ap (λ (u : Tiles). u.width) e, (ap (λ (u : Tiles). u.height) e, (ap (λ (u : Tiles). u.obstructions) e, ap (λ (u : Tiles). u.requirements) e))))
    (Decides-and _ _ (Decides-eqb s.width t.width) (Decides-and _ _ (Decides-eqb s.height t.height)
    (Decides-and _ _ (pointwise_decides gridded_eq_decides s.obstructions t.obstructions) (pointwise_decides (pointwise_decides gridded_eq_decides) s.requirements t.requirements))))

pub tiles_equiv : IsEquivalence tiles_eq
tiles_equiv = record {
  refl = λ s. (tiles_eq_decides s s).1 refl;
  symm = λ s t. one_answer (tiles_eq s t) (tiles_eq t s) (tiles_eq_decides s t) (Decides-like (tiles_eq t s) sym sym (tiles_eq_decides t s));
  congr = λ s t u e. ap (λ (v : Tiles). tiles_eq v u) ((tiles_eq_decides s t).0 e);
}
