-- The point of a cell that is alone on its column and row can be put back into an occurrence.
use Rattle.std.proofs.Common.{◌≡◌, ℕ, ◌≤◌, Bool, true, false, List, [], ◌∷◌, refl, sym, ap, ◌∙◌, arith, subst}
use Rattle.std.specs.Prelude.{◌&&◌, ◌==◌, not, nat_lt, nat_le}
use Rattle.std.specs.Bool.{beq}
use Rattle.std.specs.List.{filter, list_any, list_all}
use Rattle.std.proofs.lemmas.Bool.Decides.{nat_tests, Decides-eqb}
use Rattle.std.proofs.lemmas.Bool.{and_parts as and_true, and_from as both_true, not-true as not_true}
use Rattle.lists.specs.Members.IsIn.{here, later}
use Rattle.lists.specs.Parts.IsPart.{kept, left_out}
use Rattle.lists.specs.Members.{IsIn}
use Rattle.lists.specs.Parts.{IsPart}
use Rattle.lists.proofs.Members.{IsIn-map, from_IsIn-filter}
use Rattle.lists.proofs.Parts.{IsIn-IsPart}
use Rattle.patterns.specs.Words.{has_no_repeats}
use Rattle.patterns.specs.Occurs.{stands_as, stand_alike, is_match}
use Rattle.gridded.specs.declared.cell.Cell.{Cell}
use Rattle.gridded.specs.Grids.{Point, same_cell, letter_of, may_follow, is_consistent, is_gridded}
use Rattle.gridded.specs.Orders.{cell_eq, letters_of}
use Rattle.gridded.specs.OrderLaws.{cell_eq_decides}
use Rattle.steps.proofs.ListTests.{each_passes, none_passes}
use Rattle.gridded.proofs.Holding.{same_cell_tells, same_cell_from}

-- ---- the points of a gridded permutation
pub record Follows (x y : Point) : Type 0 where
  pub consistent : may_follow x y ≡ true
  pub distinct : (x.letter == y.letter) ≡ false

pub gridded_tells : (x : Point) (g : List Point) → is_gridded (x ∷ g) ≡ true → (is_gridded g ≡ true) × ((y : Point) → IsIn y g → Follows x y)
gridded_tells x g e =
    let free = not (list_any (λ y. x.letter == y) (letters_of g)) in
    let follow = list_all (λ q. may_follow x q) g in
    let k = and_true (free && has_no_repeats (letters_of g)) (follow && is_consistent g) e in
    let l = and_true free (has_no_repeats (letters_of g)) k.0 in
    let m = and_true follow (is_consistent g) k.1 in (
      both_true (has_no_repeats (letters_of g)) (is_consistent g) l.1 m.1,
      (λ y i. record {
        consistent = each_passes (λ q. may_follow x q) m.0 i;
        distinct = none_passes (λ z. x.letter == z) (letters_of g) (not_true (list_any (λ z. x.letter == z) (letters_of g)) l.0) (IsIn-map letter_of i);
      }),
    )

columns_tell : (x y : Point) → Follows x y → x.cell.x ≤ y.cell.x
columns_tell x y h =
    let k = (and_true (nat_le x.cell.x y.cell.x) (not (nat_lt x.letter y.letter && nat_lt y.cell.y x.cell.y) && not (nat_lt y.letter x.letter && nat_lt x.cell.y y.cell.y)) h.consistent).0 in
    lower x.cell.x y.cell.x k
  where
    lower : (a b : ℕ) → nat_le a b ≡ true → a ≤ b
    lower a b e = grind (arith, nat_tests)

-- letters stand as rows do, where these differ
by_rows : (x y r s : ℕ) → not (nat_lt x y && nat_lt s r) ≡ true → not (nat_lt y x && nat_lt r s) ≡ true → (r == s) ≡ false → (x == y) ≡ false → (nat_lt x y ≡ nat_lt r s) × (nat_lt y x ≡ nat_lt s r)
by_rows x y r s e f n d = go (nat_lt r s) refl
  where
    go : (b : Bool) → nat_lt r s ≡ b → (nat_lt x y ≡ nat_lt r s) × (nat_lt y x ≡ nat_lt s r)
    go true h =
        let a : nat_lt y x ≡ false = grind (arith, nat_tests) in
        let b : nat_lt x y ≡ true = grind (arith, nat_tests) in
        let c : nat_lt s r ≡ false = grind (arith, nat_tests) in
        (b ∙ sym h, a ∙ sym c)
    go false h =
        let c : nat_lt s r ≡ true = grind (arith, nat_tests) in
        let b : nat_lt x y ≡ false = grind (arith, nat_tests) in
        let a : nat_lt y x ≡ true = grind (arith, nat_tests) in
        (b ∙ sym h, a ∙ sym c)

letters_by_rows : (x y : Point) → Follows x y → (x.cell.y == y.cell.y) ≡ false → (nat_lt x.letter y.letter ≡ nat_lt x.cell.y y.cell.y) × (nat_lt y.letter x.letter ≡ nat_lt y.cell.y x.cell.y)
letters_by_rows x y h n =
    let p = not (nat_lt x.letter y.letter && nat_lt y.cell.y x.cell.y) in
    let q = not (nat_lt y.letter x.letter && nat_lt x.cell.y y.cell.y) in
    let k = (and_true (nat_le x.cell.x y.cell.x) (p && q) h.consistent).1 in
    let l = and_true p q k in
    by_rows x.letter y.letter x.cell.y y.cell.y l.0 l.1 n h.distinct

same_beq : (p q : Bool) → p ≡ q → beq p q ≡ true
same_beq true q e = rw (← e) refl
same_beq false q e = rw (← e) refl

-- points of different rows stand to each other as their partners do
alike_by_rows : (x a y b : Point) → Follows x y → Follows a b → x.cell ≡ a.cell → y.cell ≡ b.cell → (x.cell.y == y.cell.y) ≡ false → stand_alike x.letter a.letter y.letter b.letter ≡ true
alike_by_rows x a y b h k e f n =
    let r : x.cell.y ≡ a.cell.y = ap (λ (c : Cell). c.y) e in
    let s : y.cell.y ≡ b.cell.y = ap (λ (c : Cell). c.y) f in
    let m : (a.cell.y == b.cell.y) ≡ false = rw (← r, ← s) n in
    let u = letters_by_rows x y h n in
    let v = letters_by_rows a b k m in
    let w : nat_lt x.letter y.letter ≡ nat_lt a.letter b.letter = u.0 ∙ rw (r, s) (sym v.0) in
    let z : nat_lt y.letter x.letter ≡ nat_lt b.letter a.letter = u.1 ∙ rw (r, s) (sym v.1) in
    both_true (beq (nat_lt x.letter y.letter) (nat_lt a.letter b.letter)) (beq (nat_lt y.letter x.letter) (nat_lt b.letter a.letter)) (same_beq (nat_lt x.letter y.letter) (nat_lt a.letter b.letter) w) (same_beq (nat_lt y.letter x.letter) (nat_lt b.letter a.letter) z)

-- ---- a point alone on its column and row
module _ (c : Cell) where
  pub record IsOffBoth (p : Point) : Type 0 where
    pub column : (p.cell.x == c.x) ≡ false
    pub row : (p.cell.y == c.y) ≡ false

  -- x is in c, and the others are off its column and row
  pub data IsLone (x : Point) : List Point → Type 0 where
    lone_first : {g : List Point} → x.cell ≡ c → ((q : Point) → IsIn q g → IsOffBoth q) → IsLone x (x ∷ g)
    lone_next : {g : List Point} (y : Point) → IsOffBoth y → IsLone x g → IsLone x (y ∷ g)

  -- a is in c, and the others are not
  pub data IsOnly (a : Point) : List Point → Type 0 where
    only_first : {p : List Point} → a.cell ≡ c → ((q : Point) → IsIn q p → cell_eq c q.cell ≡ false) → IsOnly a (a ∷ p)
    only_next : {p : List Point} (b : Point) → cell_eq c b.cell ≡ false → IsOnly a p → IsOnly a (b ∷ p)

  pub lone_is_in : {x : Point} {g : List Point} → IsLone x g → IsIn x g × (x.cell ≡ c)
  lone_is_in (lone_first e h) = (here, e)
  lone_is_in (lone_next y o l) = let k = lone_is_in l in (later y k.0, k.1)

  only_is_in : {a : Point} {p : List Point} → IsOnly a p → IsIn a p × (a.cell ≡ c)
  only_is_in (only_first e h) = (here, e)
  only_is_in (only_next b o l) = let k = only_is_in l in (later b k.0, k.1)

  -- the points outside c
  abbrev pub outside : List Point → List Point
  outside p = filter (λ q. not (cell_eq c q.cell)) p

  pub outside-all : (p : List Point) → ((q : Point) → IsIn q p → cell_eq c q.cell ≡ false) → outside p ≡ p
  outside-all [] h = refl
  outside-all (q ∷ p) h = rw (h q here) (ap (λ r. q ∷ r) (outside-all p (λ r m. h r (later q m))))

  -- a match of the pattern with its point in c
  pub record PutBack (x a : Point) (p g s q : List Point) : Type 0 where
    pub points : List Point
    pub chosen : IsPart points g
    pub fits : is_match letter_of same_cell points p ≡ true
    pub stands : (z d : Point) → stands_as letter_of same_cell z d s q ≡ true → stand_alike z.letter d.letter x.letter a.letter ≡ true → stands_as letter_of same_cell z d points p ≡ true

  -- x, in c, stands to points off its row as a does
  stand_all : (x a : Point) (s p : List Point) → x.cell ≡ c → a.cell ≡ c → is_match letter_of same_cell s p ≡ true → ((y : Point) → IsIn y s → Follows x y × IsOffBoth y) → ((b : Point) → IsIn b p → Follows a b) → stands_as letter_of same_cell x a s p ≡ true
  stand_all x a [] [] e f h k l = refl
  stand_all x a [] (b ∷ p) e f h k l = absurd cc
  stand_all x a (y ∷ s) [] e f h k l = absurd cc
  stand_all x a (y ∷ s) (b ∷ p) e f h k l =
      let m = and_true (same_cell y b) (stands_as letter_of same_cell y b s p && is_match letter_of same_cell s p) h in
      let n = and_true (stands_as letter_of same_cell y b s p) (is_match letter_of same_cell s p) m.1 in
      let o = k y here in
      let r : (c.y == y.cell.y) ≡ false = turned y.cell.y c.y o.1.row in
      let q : (x.cell.y == y.cell.y) ≡ false = rw e r in
      both_true (stand_alike x.letter a.letter y.letter b.letter) (stands_as letter_of same_cell x a s p)
      (alike_by_rows x a y b o.0 (l b here) (e ∙ sym f) (same_cell_tells y b m.0) q)
      (stand_all x a s p e f n.1 (λ z i. k z (later y i)) (λ z i. l z (later b i)))
    where
      turned : (i j : ℕ) → (i == j) ≡ false → (j == i) ≡ false
      turned i j h = grind (arith, nat_tests)

  first_of_match : (y : Point) (s q : List Point) → is_match letter_of same_cell (y ∷ s) q ≡ true → (b : Point) × IsIn b q × (y.cell ≡ b.cell)
  first_of_match y s [] e = absurd cc
  first_of_match y s (b ∷ q) e = (b, here, same_cell_tells y b (and_true (same_cell y b) (stands_as letter_of same_cell y b s q && is_match letter_of same_cell s q) e).0)

  match_of_first : (s q : List Point) (b : Point) → is_match letter_of same_cell s (b ∷ q) ≡ true → (y : Point) × IsIn y s × (y.cell ≡ b.cell)
  match_of_first [] q b e = absurd cc
  match_of_first (y ∷ s) q b e = (y, here, same_cell_tells y b (and_true (same_cell y b) (stands_as letter_of same_cell y b s q && is_match letter_of same_cell s q) e).0)

  in_c : (p : Point) → p.cell ≡ c → cell_eq c p.cell ≡ true
  in_c p e = (cell_eq_decides c p.cell).1 (sym e)

  not_in_c : (p : Point) → cell_eq c p.cell ≡ false → p.cell ≡ c → ⊥
  not_in_c p e f = let k = in_c p f in cc

  column_of : (p : Point) → p.cell ≡ c → p.cell.x ≡ c.x
  column_of p e = ap (λ (d : Cell). d.x) e

  off_column : (p : Point) → IsOffBoth p → p.cell.x ≡ c.x → ⊥
  off_column p o e = let k = (Decides-eqb p.cell.x c.x).1 e in let l = o.column in cc

  -- both first: x goes before all that was matched
  both_first : (g p s : List Point) (x a : Point) → x.cell ≡ c → ((q : Point) → IsIn q g → IsOffBoth q) → a.cell ≡ c → ((q : Point) → IsIn q p → cell_eq c q.cell ≡ false)
      → IsPart s g → is_gridded (x ∷ g) ≡ true → is_gridded (a ∷ p) ≡ true → is_match letter_of same_cell s p ≡ true → PutBack x a (a ∷ p) (x ∷ g) s p
  both_first g p s x a ex off ea other h k m e =
      let u = gridded_tells x g k in
      let v = gridded_tells a p m in
      let st = stand_all x a s p ex ea e (λ y i. let j = IsIn-IsPart h i in (u.1 y j, off y j)) (λ b i. v.1 b i) in
      record {
        points = x ∷ s;
        chosen = kept x h;
        fits = both_true (same_cell x a) (stands_as letter_of same_cell x a s p && is_match letter_of same_cell s p) (same_cell_from x a (ex ∙ sym ea)) (both_true (stands_as letter_of same_cell x a s p) (is_match letter_of same_cell s p) st e);
        stands = λ z d i j. both_true (stand_alike z.letter d.letter x.letter a.letter) (stands_as letter_of same_cell z d s p) j i;
      }

  -- one more point on both sides, before x and a
  one_before : (g p s q : List Point) (x a y b : Point) → IsOffBoth y → x.cell ≡ c → a.cell ≡ c → Follows y x → Follows b a → is_match letter_of same_cell (y ∷ s) (b ∷ q) ≡ true → PutBack x a p g s q → PutBack x a (b ∷ p) (y ∷ g) (y ∷ s) (b ∷ q)
  one_before g p s q x a y b off ex ea fy fb e r =
      let m = and_true (same_cell y b) (stands_as letter_of same_cell y b s q && is_match letter_of same_cell s q) e in
      let n = and_true (stands_as letter_of same_cell y b s q) (is_match letter_of same_cell s q) m.1 in
      let row : (y.cell.y == x.cell.y) ≡ false = rw ex off.row in
      let like = alike_by_rows y b x a fy fb (same_cell_tells y b m.0) (ex ∙ sym ea) row in
      let st = r.stands y b n.0 like in
      record {
        points = y ∷ r.points;
        chosen = kept y r.chosen;
        fits = both_true (same_cell y b) (stands_as letter_of same_cell y b r.points p && is_match letter_of same_cell r.points p) m.0 (both_true (stands_as letter_of same_cell y b r.points p) (is_match letter_of same_cell r.points p) st r.fits);
        stands = λ z d i j.
            let k = and_true (stand_alike z.letter d.letter y.letter b.letter) (stands_as letter_of same_cell z d s q) i in
            both_true (stand_alike z.letter d.letter y.letter b.letter) (stands_as letter_of same_cell z d r.points p) k.0 (r.stands z d k.1 j);
      }

  pub put_back : (g p s : List Point) (x a : Point) → IsLone x g → IsOnly a p → IsPart s g → is_gridded g ≡ true → is_gridded p ≡ true → is_match letter_of same_cell s (outside p) ≡ true → PutBack x a p g s (outside p)
  put_back [] p s x a l o h k m e = elim l [ ]
  put_back (y ∷ g) [] s x a l o h k m e = elim o [ ]
  put_back (_ ∷ g) p (_ ∷ s) x a (lone_first ex off) o (kept _ h) k m e =
      let b = first_of_match x s (outside p) e in
      let n = not_true (cell_eq c b.0.cell) (from_IsIn-filter (λ q. not (cell_eq c q.cell)) p b.1).1 in
      absurd (not_in_c b.0 n (sym b.2 ∙ ex))
  put_back (_ ∷ g) (_ ∷ p) s x a (lone_first ex off) (only_first ea other) (left_out _ h) k m e =
      let all : outside (a ∷ p) ≡ p = rw (in_c a ea) (outside-all p other) in
      let e' : is_match letter_of same_cell s p ≡ true = rw all at e in
      subst (λ (r : List Point). PutBack x a (a ∷ p) (x ∷ g) s r) (sym all) (both_first g p s x a ex off ea other h k m e')
  put_back (_ ∷ g) (b ∷ p) s x a (lone_first ex off) (only_next _ nb o) (left_out _ h) k m e =
      let all : outside (b ∷ p) ≡ b ∷ outside p = rw nb in
      let y = match_of_first s (outside p) b (rw all at e) in
      let i = IsIn-IsPart h y.1 in
      let u = columns_tell x y.0 ((gridded_tells x g k).1 y.0 i) in
      let w = only_is_in o in
      let v = columns_tell b a ((gridded_tells b p m).1 a w.0) in
      let yb : y.0.cell.x ≡ b.cell.x = ap (λ (d : Cell). d.x) y.2 in
      let xc = column_of x ex in
      let ac = column_of a w.1 in
      absurd (off_column y.0 (off y.0 i) (omega arith))
  put_back (y ∷ g) p s x a (lone_next _ oy l) o (left_out _ h) k m e =
      let r = put_back g p s x a l o h (gridded_tells y g k).0 m e in
      record { points = r.points; chosen = left_out y r.chosen; fits = r.fits; stands = r.stands }
  put_back (y ∷ g) (_ ∷ p) (_ ∷ s) x a (lone_next _ oy l) (only_first ea other) (kept _ h) k m e =
      let all : outside (a ∷ p) ≡ p = rw (in_c a ea) (outside-all p other) in
      let b = first_of_match y s p (rw all at e) in
      let v = columns_tell a b.0 ((gridded_tells a p m).1 b.0 b.1) in
      let w = lone_is_in l in
      let u = columns_tell y x ((gridded_tells y g k).1 x w.0) in
      let yb : y.cell.x ≡ b.0.cell.x = ap (λ (d : Cell). d.x) b.2 in
      let xc = column_of x w.1 in
      let ac = column_of a ea in
      absurd (off_column y oy (omega arith))
  put_back (y ∷ g) (b ∷ p) (_ ∷ s) x a (lone_next _ oy l) (only_next _ nb o) (kept _ h) k m e =
      let all : outside (b ∷ p) ≡ b ∷ outside p = rw nb in
      let e' : is_match letter_of same_cell (y ∷ s) (b ∷ outside p) ≡ true = rw all at e in
      let tail = (and_true (stands_as letter_of same_cell y b s (outside p)) (is_match letter_of same_cell s (outside p))
      (and_true (same_cell y b) (stands_as letter_of same_cell y b s (outside p) && is_match letter_of same_cell s (outside p)) e').1).1 in
      let u = gridded_tells y g k in
      let v = gridded_tells b p m in
      let lx = lone_is_in l in
      let la = only_is_in o in
      let r = put_back g p s x a l o h u.0 v.0 tail in
      subst (λ (q : List Point). PutBack x a (b ∷ p) (y ∷ g) (y ∷ s) q) (sym all) (one_before g p s (outside p) x a y b oy lx.1 la.1 (u.1 x lx.0) (v.1 a la.0) e' r)
