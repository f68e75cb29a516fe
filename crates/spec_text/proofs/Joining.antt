-- Entries that are built of drafts and the classes that these name are joined, and tell what the drafts tell.
use Rattle.std.proofs.Common.{◌≡◌, ◌+◌, ℕ, suc, List, [], ◌∷◌, ◌++◌, length, map, take, refl, sym, ap, subst, ◌∙◌, arith}
use Rattle.std.specs.Prelude.{All, Option, Some, None, slice_get, option_map}
use Rattle.std.specs.List.{zip}
use Rattle.std.proofs.lemmas.List.{length-map, map-append}
use Rattle.std.proofs.lemmas.List.Elements.{All-nil, All-cons, All-weaker}
use Rattle.std.proofs.lemmas.Option.{slice_get-map, slice_get_within, get_or_from_slice_get}
use Rattle.std.proofs.Math.Seq.{take-suc}
use Rattle.tiling_core.specs.Tiles.{Tiles}
use Rattle.css_domain.specs.Entries.{Entry}
use Rattle.rule_kinds.specs.Rules.{TilingRule}
use Rattle.spec_lines.specs.Files.{FileEntry}
use Rattle.spec_text.specs.Files.{file_entry}
use Rattle.spec_text.specs.Joined.{class_at, IsJoined}
use Rattle.spec_text.specs.Joining.{class_of, family_of, with_children, IsJoining}

-- ====== one child more ======
pub one_more_child : (drafts : List FileEntry) (numbers : List ℕ) (family : List Tiles) (i number : ℕ) (d : FileEntry)
    → map Some family ≡ family_of drafts (take i numbers) → slice_get numbers i ≡ Some number → slice_get drafts number ≡ Some d
    → map Some (family ++ d.class ∷ []) ≡ family_of drafts (take (i + 1) numbers)
one_more_child drafts numbers family i number d so_far here there =
    let next : i + 1 ≡ suc i = omega arith in
    let taken : take (i + 1) numbers ≡ take i numbers ++ number ∷ [] = rw (next, sym (get_or_from_slice_get numbers i number number here)) (take-suc numbers i number (slice_get_within numbers i number here)) in
    map-append Some family (d.class ∷ [])
    ∙ ap (λ xs. xs ++ Some d.class ∷ []) so_far
    ∙ ap (λ o. family_of drafts (take i numbers) ++ option_map (λ e. e.class) o ∷ []) (sym there)
    ∙ sym (map-append (class_of drafts) (take i numbers) (number ∷ []))
    ∙ ap (family_of drafts) (sym taken)

-- ====== the class of a number, by what the entries tell ======
pub class_is_told : (entries : List (Entry Tiles TilingRule)) (number : ℕ) → class_at entries number ≡ class_of (map file_entry entries) number
class_is_told entries number = by_entry (slice_get entries number) ∙ ap (option_map (λ d. d.class)) (sym (slice_get-map file_entry entries number)) where
  by_entry : (o : Option (Entry Tiles TilingRule)) → option_map (λ e. e.class) o ≡ option_map (λ d. d.class) (option_map file_entry o)
  by_entry None = refl
  by_entry (Some e) = refl

pub same_maps : {X Y : Type 0} (f g : X → Y) → ((x : X) → f x ≡ g x) → (xs : List X) → map f xs ≡ map g xs
same_maps f g same [] = refl
same_maps f g same (x ∷ xs) = ap (λ y. y ∷ map f xs) (same x) ∙ ap (λ ys. g x ∷ ys) (same_maps f g same xs)

pub family_is_told : (entries : List (Entry Tiles TilingRule)) (numbers : List ℕ) → map (class_at entries) numbers ≡ family_of (map file_entry entries) numbers
family_is_told entries numbers = same_maps (class_at entries) (class_of (map file_entry entries)) (class_is_told entries) numbers

-- ====== joined by the classes of drafts ======
pub record IsJoinedBy (drafts : List FileEntry) (e : Entry Tiles TilingRule) : Type 0 where
  pub own : e.rule.parent ≡ e.class
  pub children : map Some e.rule.children ≡ family_of drafts e.children

pub joined_by : (entries : List (Entry Tiles TilingRule)) (e : Entry Tiles TilingRule) → IsJoined entries e → IsJoinedBy (map file_entry entries) e
joined_by entries e joined = record { own = joined.own; children = joined.children ∙ family_is_told entries e.children }

joined_again : (entries : List (Entry Tiles TilingRule)) (e : Entry Tiles TilingRule) → IsJoinedBy (map file_entry entries) e → IsJoined entries e
joined_again entries e joined = record { own = joined.own; children = joined.children ∙ sym (family_is_told entries e.children) }

abbrev pub pair_entry : FileEntry × List Tiles → Entry Tiles TilingRule
pair_entry p = with_children p.0 p.1

same_entries : (drafts : List FileEntry) (families : List (List Tiles)) → length families ≡ length drafts → map file_entry (map pair_entry (zip drafts families)) ≡ drafts
same_entries [] families h = refl
same_entries (d ∷ drafts) [] h = absurd (omega (arith, h))
same_entries (d ∷ drafts) (family ∷ families) h = ap (λ ds. d ∷ ds) (same_entries drafts families (omega (arith, h)))

pub head_same : {X : Type 0} {x y : X} {xs ys : List X} → x ∷ xs ≡ y ∷ ys → x ≡ y
head_same {X} {x} {y} {xs} {ys} h = ap first h where
  first : List X → X
  first [] = x
  first (z ∷ zs) = z

pub tail_same : {X : Type 0} {x y : X} {xs ys : List X} → x ∷ xs ≡ y ∷ ys → xs ≡ ys
tail_same {X} {x} {y} {xs} {ys} h = ap rest h where
  rest : List X → List X
  rest [] = xs
  rest (z ∷ zs) = zs

each_joined : (all drafts : List FileEntry) (families : List (List Tiles)) → map (λ family. map Some family) families ≡ map (λ (d : FileEntry). family_of all d.children) drafts
    → All (λ e. IsJoinedBy all e) (map pair_entry (zip drafts families))
each_joined all [] families h = All-nil (λ e. IsJoinedBy all e)
each_joined all (d ∷ drafts) [] h = All-nil (λ e. IsJoinedBy all e)
each_joined all (d ∷ drafts) (family ∷ families) h =
    All-cons (λ e. IsJoinedBy all e) (with_children d family) (map pair_entry (zip drafts families)) (record { own = refl; children = head_same h }) (each_joined all drafts families (tail_same h))

pub built_are_joined : (drafts : List FileEntry) (families : List (List Tiles)) → map (λ family. map Some family) families ≡ map (λ (d : FileEntry). family_of drafts d.children) drafts
    → (entries : List (Entry Tiles TilingRule)) → entries ≡ map pair_entry (zip drafts families) → IsJoining drafts entries
built_are_joined drafts families h entries e =
    let many : length families ≡ length drafts = sym (length-map families (λ family. map Some family)) ∙ ap length h ∙ length-map drafts (λ (d : FileEntry). family_of drafts d.children) in
    let same : map file_entry entries ≡ drafts = ap (map file_entry) e ∙ same_entries drafts families many in
    let by_drafts : All (λ x. IsJoinedBy drafts x) entries = subst (λ es. All (λ x. IsJoinedBy drafts x) es) (sym e) (each_joined drafts drafts families h) in
    record {
      same = same;
      joined = All-weaker (λ x. IsJoinedBy (map file_entry entries) x) (λ x. IsJoined entries x) (joined_again entries) entries (subst (λ ds. All (λ x. IsJoinedBy ds x) entries) (sym same) by_drafts);
    }
