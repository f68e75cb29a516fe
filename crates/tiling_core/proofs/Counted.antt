-- The law of counts.
use Rattle.std.proofs.Common.{◌≡◌, ◌-◌, ◌<◌, ℕ, List, [], ◌∷◌, length, get_or, refl, ap, ◌∙◌, arith}
use Rattle.std.specs.Prelude.{map}
use Rattle.std.specs.List.{sum_by, AllByRecursion}
use Rattle.std.proofs.lemmas.List.{get_or-map, length-map}
use Rattle.std.proofs.lemmas.List.Elements.{filter_agree}
use Rattle.lists.proofs.Unions.{NoRepeats-numbered, within_from_IsIn, length-numbered, IsIn-numbered, from_IsIn-numbered}
use Rattle.lists.proofs.Counts.{sum_by-map}
use Rattle.lists.specs.Members.{IsIn, NoRepeats}
use Rattle.lists.specs.Unions.{numbered}
use Rattle.lists.proofs.Injections.{length-from_inverse}
use Rattle.gridded.specs.Grids.{Point, gridded_of}
use Rattle.tiling_core.specs.Tiles.{Tiles, is_member, count}
use Rattle.tiling_core.specs.Carried.{CountsAddUp, RenamingKeepsCounts}
use Rattle.tiling_core.proofs.Listed.{members, member_is_listed, listed_is_member, NoRepeats-members}

-- ---- the law
each_once : (n : ℕ) (children : List Tiles) → AllByRecursion (λ ys. NoRepeats ys) (map (λ child. members child n) children)
each_once n [] = tt
each_once n (child ∷ children) = (NoRepeats-members child n, each_once n children)

pub counts_add_up : CountsAddUp
counts_add_up t children forward back c n =
    length-from_inverse forward back (NoRepeats-members t n) (NoRepeats-numbered 0 lists (each_once n children)) there home
    ∙ length-numbered 0 lists
    ∙ sum_by-map (λ child. members child n) (λ ys. length ys) children
  where
    lists : List (List (List Point))
    lists = map (λ child. members child n) children

    there : (g : List Point) → IsIn g (members t n) → IsIn (forward g) (numbered 0 lists) × (back (forward g) ≡ g)
    there g m =
        let k = listed_is_member t n g m in
        let small = c.to_child n g k in
        let at : IsIn (forward g).1 (get_or lists (forward g).0 []) = rw (get_or-map (λ child. members child n) children (forward g).0 t [] small) (member_is_listed (get_or children (forward g).0 t) n (forward g).1 (c.carried n g k)) in
        let from_start : (forward g).0 - 0 ≡ (forward g).0 = omega arith in
        (IsIn-numbered 0 lists (forward g).0 (forward g).1 (omega arith) (rw from_start at), c.undone n g k)

    home : (p : ℕ × List Point) → IsIn p (numbered 0 lists) → IsIn (back p) (members t n) × (forward (back p) ≡ p)
    home p m =
        let from_start : p.0 - 0 ≡ p.0 = omega arith in
        let at : IsIn p.1 (get_or lists p.0 []) = rw from_start at (from_IsIn-numbered 0 lists p.0 p.1 m).1 in
        let small : p.0 < length children = omega (arith, within_from_IsIn lists p.0 at, length-map children (λ child. members child n)) in
        let k = listed_is_member (get_or children p.0 t) n p.1 (rw (get_or-map (λ child. members child n) children p.0 t [] small) at at) in
        (member_is_listed t n (back p) (c.brought n p.0 p.1 small k), c.redone n p.0 p.1 small k)

-- members renamed one to one are as many
pub renaming_keeps_counts : RenamingKeepsCounts
renaming_keeps_counts t child forward back c n =
    length-from_inverse forward back (NoRepeats-members t n) (NoRepeats-members child n)
    (λ g m. let k = listed_is_member t n g m in (member_is_listed child n (forward g) (c.carried n g k), c.undone n g k))
    (λ h m. let k = listed_is_member child n h m in (member_is_listed t n (back h) (c.brought n h k), c.redone n h k))

-- tilings with the same sides and the same members
pub same_members_count : (t child : Tiles) → t.width ≡ child.width → t.height ≡ child.height → ((g : List Point) → is_member t g ≡ is_member child g) → (n : ℕ) → count t n ≡ count child n
same_members_count t child e f h n =
    ap length (filter_agree (λ g. is_member t g) (λ g. is_member child g) h (gridded_of t.width t.height n)) ∙ rw (e, f) refl
