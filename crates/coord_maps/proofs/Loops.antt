-- What the loops over columns and rows have listed so far.
use Rattle.std.proofs.Common.{◌≡◌, ℕ, zero, suc, ◌+◌, ◌-◌, ◌<◌, ◌≤◌, Bool, true, false, List, [], ◌∷◌, ◌++◌, length, set, drop, refl, sym, ap, ◌∙◌, arith, append_assoc, append-nil, inl, inr, ⊎_elim}
use Rattle.std.specs.Prelude.{◌&&◌, ◌⊎◌, nat_le}
use Rattle.std.specs.List.{filter, range_with_len, flat_map}
use Rattle.std.proofs.lemmas.Bool.Decides.{nat_tests}
use Rattle.std.proofs.lemmas.List.Concat.{flat_map-append}
use Rattle.std.proofs.lemmas.List.Elements.{filter-append}
use Rattle.gridded.specs.declared.cell.Cell.{Cell}
use Rattle.gridded.specs.Grids.{Point}
use Rattle.coord_maps.specs.declared.grid_map.GridMap.{GridMap}
use Rattle.coord_maps.specs.LineMaps.{first_line, parts_of}
use Rattle.coord_maps.specs.Preimages.{may_come, put, completions, in_cell, in_column, placed_points, point_at}
use Rattle.coord_maps.specs.declared.listing.Room.{Room}
use Rattle.coord_maps.specs.Rooms.{IsRoom}
use Rattle.coord_maps.proofs.Placed.{placed-put}
use Rattle.lists.proofs.Ranges.{range_more}

flat_map_more : {Z : Type 0} (f : ℕ → List Z) (first y : ℕ) → first ≤ y → flat_map f (range_with_len first (y + 1 - first)) ≡ flat_map f (range_with_len first (y - first)) ++ f y
flat_map_more f first y h =
    let up : y + 1 - first ≡ suc (y - first) = omega arith in
    let there : first + (y - first) ≡ y = omega arith in
    ap (λ n. flat_map f (range_with_len first n)) up ∙ ap (flat_map f) (range_more first (y - first)) ∙ flat_map-append f (range_with_len first (y - first)) ((first + (y - first)) ∷ [])
    ∙ ap (λ r. flat_map f (range_with_len first (y - first)) ++ r) (append-nil (f (first + (y - first)))) ∙ ap (λ n. flat_map f (range_with_len first (y - first)) ++ f n) there

-- one more step of a loop that lists what passes a test
pub grown : {Z : Type 0} (test : Z → Bool) (f : ℕ → List Z) (base now next : List Z) (first y : ℕ) → first ≤ y
    → now ≡ base ++ filter test (flat_map f (range_with_len first (y - first))) → next ≡ now ++ filter test (f y) → next ≡ base ++ filter test (flat_map f (range_with_len first (y + 1 - first)))
grown test f base now next first y h e k =
    k ∙ ap (λ r. r ++ filter test (f y)) e ∙ append_assoc base (filter test (flat_map f (range_with_len first (y - first)))) (filter test (f y))
    ∙ ap (λ r. base ++ r) (sym (ap (filter test) (flat_map_more f first y h) ∙ filter-append test (flat_map f (range_with_len first (y - first))) (f y)))

-- a run that leaves out numbers which give nothing
flat_map-trim : {Z : Type 0} (f : ℕ → List Z) (a n b e : ℕ) → a ≤ b → e ≤ a + n → ((i : ℕ) → a ≤ i → i < a + n → (i < b) ⊎ (e ≤ i) → f i ≡ []) → flat_map f (range_with_len a n) ≡ flat_map f (range_with_len b (e - b))
flat_map-trim f a zero b e h k none = let empty : e - b ≡ 0 = omega arith in sym (ap (λ r. flat_map f (range_with_len b r)) empty)
flat_map-trim {Z} f a (suc n) b e h k none =
    go (b - a) refl (e - b) refl (λ c p. flat_map-trim f (a + 1) n c e p (omega arith))
  where
    skipped : (ys zs : List Z) → ys ≡ [] → ys ++ zs ≡ zs
    skipped ys zs q = ap (λ r. r ++ zs) q

    go : (d : ℕ) → b - a ≡ d → (l : ℕ) → e - b ≡ l → ((c : ℕ) → a + 1 ≤ c → ((i : ℕ) → a + 1 ≤ i → i < a + 1 + n → (i < c) ⊎ (e ≤ i) → f i ≡ []) → flat_map f (range_with_len (a + 1) n) ≡ flat_map f (range_with_len c (e - c))) → f a ++ flat_map f (range_with_len (a + 1) n) ≡ flat_map f (range_with_len b l)
    go (suc d) q l m ih =
        skipped (f a) _ (none a (omega arith) (omega arith) (inl (omega arith)))
        ∙ ih b (omega arith) (λ i u v w. none i (omega arith) (omega arith) w)
        ∙ ap (λ r. flat_map f (range_with_len b r)) m
    go zero q zero m ih =
        let empty : e - (a + 1) ≡ 0 = omega arith in
        skipped (f a) _ (none a (omega arith) (omega arith) (inr (omega arith)))
        ∙ ih (a + 1) (omega arith) (λ i u v w. none i (omega arith) (omega arith) (inr (omega arith)))
        ∙ ap (λ r. flat_map f (range_with_len (a + 1) r)) empty
    go zero q (suc l) m ih =
        let same : a ≡ b = omega arith in
        let rest : e - (a + 1) ≡ l = omega arith in
        ap (λ r. f a ++ r) (ih (a + 1) (omega arith) (λ i u v w. ⊎_elim {C = f i ≡ []} (λ t. absurd (omega arith)) (λ t. none i (omega arith) (omega arith) (inr t)) w)
        ∙ ap (λ r. flat_map f (range_with_len (a + 1) r)) rest)
        ∙ ap (λ r. flat_map f (range_with_len r (suc l))) same

-- the step in one cell
pub in_cell-come : (m : GridMap) (g : List Point) (cells : List Cell) (n x y : ℕ) → n < length g → n < length cells → may_come (placed_points g cells n) (put (point_at g n) x y) ≡ true
    → in_cell m (placed_points g cells n) (point_at g n) (drop (n + 1) g) x y ≡ completions m (placed_points g (set cells n (record { x = x; y = y })) (n + 1)) (drop (n + 1) g)
in_cell-come m g cells n x y h k test = rw (test, placed-put g cells n x y h k) refl

-- ---- what a room leaves out
module _ (m : GridMap) (s : List Point) (p : Point) (g : List Point) (r : Room) (room : IsRoom m s p r) where
  outside : (x y : ℕ) → first_line m.columns p.cell.x ≤ x → first_line m.rows p.cell.y ≤ y → y < first_line m.rows p.cell.y + parts_of m.rows p.cell.y → (nat_le r.left x && (nat_le r.low y && nat_le y r.top)) ≡ false → in_cell m s p g x y ≡ []
  outside x y a b c e = let test = room.told x y a b c ∙ e in rw test refl

  pub inside_room : (x y : ℕ) → r.left ≤ x → r.low ≤ y → y < r.top + 1 → may_come s (put p x y) ≡ true
  inside_room x y a b c =
      let left = room.left_in in
      let low = room.low_in in
      let top = room.top_in in
      room.told x y (omega arith) (omega arith) (omega arith) ∙ (grind (arith, nat_tests))

  pub column_listed : (x y : ℕ) → r.left ≤ x → r.top + 1 ≤ y → y ≤ r.low + (r.top + 1 - r.low) → flat_map (in_cell m s p g x) (range_with_len r.low (y - r.low)) ≡ in_column m s p g x
  column_listed x y a h k =
      let left = room.left_in in
      let top = room.top_in in
      let as_many : y - r.low ≡ r.top + 1 - r.low = omega arith in
      ap (λ n. flat_map (in_cell m s p g x) (range_with_len r.low n)) as_many
      ∙ sym (flat_map-trim (in_cell m s p g x) (first_line m.rows p.cell.y) (parts_of m.rows p.cell.y) r.low (r.top + 1) room.low_in (omega arith)
      (λ y u v w. outside x y (omega arith) u v (⊎_elim {C = (nat_le r.left x && (nat_le r.low y && nat_le y r.top)) ≡ false} (λ t. grind (arith, nat_tests)) (λ t. grind (arith, nat_tests)) w)))

  nothing_left : (x : ℕ) → first_line m.columns p.cell.x ≤ x → x < r.left → in_column m s p g x ≡ []
  nothing_left x a h =
      let none : first_line m.rows p.cell.y - first_line m.rows p.cell.y ≡ 0 = omega arith in
      flat_map-trim (in_cell m s p g x) (first_line m.rows p.cell.y) (parts_of m.rows p.cell.y) (first_line m.rows p.cell.y) (first_line m.rows p.cell.y) (omega arith) (omega arith) (λ y u v w. outside x y a u v (grind (arith, nat_tests)))
      ∙ ap (λ n. flat_map (in_cell m s p g x) (range_with_len (first_line m.rows p.cell.y) n)) none

  pub all_listed : (x : ℕ) → r.right ≤ x → x ≤ r.left + (r.right - r.left) → flat_map (in_column m s p g) (range_with_len r.left (x - r.left)) ≡ completions m s (p ∷ g)
  all_listed x h k =
      let right = room.right_is in
      let as_many : x - r.left ≡ r.right - r.left = omega arith in
      ap (λ n. flat_map (in_column m s p g) (range_with_len r.left n)) as_many
      ∙ sym (flat_map-trim (in_column m s p g) (first_line m.columns p.cell.x) (parts_of m.columns p.cell.x) r.left r.right room.left_in (omega arith)
      (λ x u v w. nothing_left x u (⊎_elim {C = x < r.left} (λ t. t) (λ t. absurd (omega arith)) w)))
