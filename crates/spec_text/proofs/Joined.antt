-- Joined entries name a class for each child, and are told by what their file says of them.
use Rattle.std.proofs.Common.{◌≡◌, ◌<◌, ℕ, List, [], ◌∷◌, length, map, refl, sym, ap, subst, ◌∙◌, arith}
use Rattle.std.specs.Prelude.{All, Option, Some, None, slice_get, slice_index, option_map, IsTrue}
use Rattle.std.proofs.lemmas.List.{length-map}
use Rattle.std.proofs.lemmas.List.Elements.{All-head, All-tail, All-weaker}
use Rattle.std.proofs.lemmas.Option.{same_Some, none-some, slice_get-map, slice_get-get_or}
use Rattle.tiling_core.specs.Tiles.{Tiles}
use Rattle.css_domain.specs.Entries.{Entry, IsLinked, can_keep_length}
use Rattle.rule_kinds.specs.Rules.{TilingRule}
use Rattle.tile_rules.specs.Meaning.{tile_meaning}
use Rattle.spec_lines.specs.Files.{FileEntry}
use Rattle.spec_text.specs.Files.{file_entry}
use Rattle.spec_text.specs.Joined.{class_at, IsJoined, AreJoined, IsNamedChild}
use Rattle.spec_text.specs.Joining.{family_of, with_children}
use Rattle.spec_text.proofs.Joining.{IsJoinedBy, joined_by, head_same, tail_same}

-- ====== one entry ======
pub joined_as_many : (entries : List (Entry Tiles TilingRule)) (e : Entry Tiles TilingRule) → IsJoined entries e → length e.children ≡ length e.rule.children
joined_as_many entries e joined = sym (length-map e.children (class_at entries)) ∙ sym (ap length joined.children) ∙ length-map e.rule.children Some

-- the class of a number that is one is that of an entry
named_by : (entries : List (Entry Tiles TilingRule)) (e : Entry Tiles TilingRule) (slot : ℕ) (there : Option (Entry Tiles TilingRule)) (child : Option Tiles)
    → slice_get entries (slice_index e.children slot) ≡ there → slice_get e.rule.children slot ≡ child → option_map Some child ≡ Some (option_map (λ x. x.class) there) → IsNamedChild entries e slot
named_by entries e slot (Some named) (Some t) there at same = record { named = named; there = there; class = at ∙ same_Some (Some t) (Some named.class) same }
named_by entries e slot None (Some t) there at same = absurd (none-some t (sym (same_Some (Some t) None same)))
named_by entries e slot there None is at same = absurd (none-some (option_map (λ x. x.class) there) same)

pub joined_child : (entries : List (Entry Tiles TilingRule)) (e : Entry Tiles TilingRule) → IsJoined entries e → (slot : ℕ) → slot < length e.children → IsNamedChild entries e slot
joined_child entries e joined slot within =
    let at : slice_get e.children slot ≡ Some (slice_index e.children slot) = slice_get-get_or e.children slot 0 within in
    named_by entries e slot (slice_get entries (slice_index e.children slot)) (slice_get e.rule.children slot) refl refl
    (sym (slice_get-map Some e.rule.children slot) ∙ ap (λ os. slice_get os slot) joined.children ∙ slice_get-map (class_at entries) e.children slot ∙ ap (option_map (class_at entries)) at)

-- where the ranks are right too, slot by slot
pub joined_is_linked : (entries : List (Entry Tiles TilingRule)) (e : Entry Tiles TilingRule) → IsJoined entries e
    → ((slot : ℕ) → slot < length e.children → (named : Entry Tiles TilingRule) → slice_get entries (slice_index e.children slot) ≡ Some named → IsTrue (can_keep_length tile_meaning e.rule slot) → named.rank < e.rank)
    → IsLinked tile_meaning entries e
joined_is_linked entries e joined ranks = record {
  own = joined.own;
  as_many = joined_as_many entries e joined;
  child = λ slot within.
      let child = joined_child entries e joined slot within in
      record { named = child.named; there = child.there; class = child.class; rank = ranks slot within child.named child.there };
}

-- ====== the list ======
same_by_some : (xs ys : List Tiles) → map Some xs ≡ map Some ys → xs ≡ ys
same_by_some [] [] h = refl
same_by_some [] (y ∷ ys) h = absurd (omega (arith, ap length h))
same_by_some (x ∷ xs) [] h = absurd (omega (arith, ap length h))
same_by_some (x ∷ xs) (y ∷ ys) h = ap (λ z. z ∷ xs) (same_Some x y (head_same h)) ∙ ap (λ zs. y ∷ zs) (same_by_some xs ys (tail_same h))

-- an entry that is joined by drafts is that of its draft and its children
entry_is : (drafts : List FileEntry) (e : Entry Tiles TilingRule) → IsJoinedBy drafts e → e ≡ with_children (file_entry e) e.rule.children
entry_is drafts e joined = ap (λ parent. record { class = e.class; rule = record { kind = e.rule.kind; parent = parent; children = e.rule.children; traces = e.rule.traces }; children = e.children; rank = e.rank }) joined.own

one_same : (drafts : List FileEntry) (e f : Entry Tiles TilingRule) → IsJoinedBy drafts e → IsJoinedBy drafts f → file_entry e ≡ file_entry f → e ≡ f
one_same drafts e f of_e of_f same =
    let children : e.rule.children ≡ f.rule.children = same_by_some e.rule.children f.rule.children (of_e.children ∙ ap (λ (d : FileEntry). family_of drafts d.children) same ∙ sym of_f.children) in
    entry_is drafts e of_e
    ∙ ap (λ d. with_children d e.rule.children) same
    ∙ ap (with_children (file_entry f)) children
    ∙ sym (entry_is drafts f of_f)

all_same : (drafts : List FileEntry) (es fs : List (Entry Tiles TilingRule)) → All (λ e. IsJoinedBy drafts e) es → All (λ f. IsJoinedBy drafts f) fs → map file_entry es ≡ map file_entry fs → es ≡ fs
all_same drafts [] [] of_es of_fs same = refl
all_same drafts [] (f ∷ fs) of_es of_fs same = absurd (omega (arith, ap length same))
all_same drafts (e ∷ es) [] of_es of_fs same = absurd (omega (arith, ap length same))
all_same drafts (e ∷ es) (f ∷ fs) of_es of_fs same =
    ap (λ x. x ∷ es) (one_same drafts e f (All-head (λ x. IsJoinedBy drafts x) e es of_es) (All-head (λ x. IsJoinedBy drafts x) f fs of_fs) (head_same same))
    ∙ ap (λ xs. f ∷ xs) (all_same drafts es fs (All-tail (λ x. IsJoinedBy drafts x) e es of_es) (All-tail (λ x. IsJoinedBy drafts x) f fs of_fs) (tail_same same))

by_own_drafts : (entries : List (Entry Tiles TilingRule)) → AreJoined entries → All (λ e. IsJoinedBy (map file_entry entries) e) entries
by_own_drafts entries joined = All-weaker (λ e. IsJoined entries e) (λ e. IsJoinedBy (map file_entry entries) e) (joined_by entries) entries joined

pub joined_are_told : (entries others : List (Entry Tiles TilingRule)) → AreJoined entries → AreJoined others → map file_entry entries ≡ map file_entry others → entries ≡ others
joined_are_told entries others of_entries of_others same =
    all_same (map file_entry others) entries others (subst (λ ds. All (λ e. IsJoinedBy ds e) entries) same (by_own_drafts entries of_entries)) (by_own_drafts others of_others) same
