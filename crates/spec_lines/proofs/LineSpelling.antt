-- Lines that are read are spelled so.
use Rattle.std.proofs.Common.{◌≡◌, ℕ, Bool, true, false, cond, List, [], ◌∷◌, ◌++◌, map, refl, ap, sym, subst, ◌∙◌, true≢false}
use Rattle.std.specs.Prelude.{◌&&◌, not, Option, Some, None, option_map, option_and_then, codes, decimal}
use Rattle.std.proofs.lemmas.Option.{none-some, same_Some, option_and_then_some}
use Rattle.spec_lines.specs.Lines.{Text, separated, or_dash, line}
use Rattle.spec_lines.specs.Patterns.{word_text, pattern_text}
use Rattle.spec_lines.specs.Forms.{Line, line_text, is_line, has_items}
use Rattle.spec_lines.specs.Follows.{Place, stands_at}
use Rattle.spec_lines.specs.Items.{keep_if, items, read_all, same, behind, dashed}
use Rattle.spec_lines.specs.Readings.{line_at, number_at, word_at, pattern_at, basis_of, count_of, grid_of, entry_of, child_of, step_at, list_at, kind_at, term_at, terms_at, value_at}
use Rattle.spec_lines.specs.Forms.Line.{First, Basis, Root, Count, Entry, Grid, Obstructions, Requirements, Rule, Child, Terms, End}
use Rattle.spec_lines.specs.Follows.Place.{AtFirst, AtBasis, AtRoot, AtCount, AtEntry, AtGrid, AtObstructions, AtRequirements, AtRule, AtChild, AtTerms, AtEnd, Done}
use Rattle.spec_lines.specs.Patterns.{list_text}
use Rattle.spec_lines.specs.Traces.{step_text}
use Rattle.spec_lines.specs.Terms.{term_text}
use Rattle.spec_lines.proofs.KindSpelling.{step_takes, list_takes, kind_takes, term_takes}
use Rattle.spec_lines.proofs.Items.{joined_items}
use Rattle.spec_lines.proofs.NumberSpelling.{number_takes}
use Rattle.spec_lines.proofs.PatternSpelling.{word_takes, pattern_takes}
use Rattle.spec_lines.proofs.Taking.{kept, mapped, bound, choose, all_take, same_text}

-- the word, and the items behind it
behind_on : (word t : Text) (ts us : List Text) (b : Bool) → (b ≡ true → t ≡ word) → cond b (Some ts) None ≡ Some us → t ∷ ts ≡ word ∷ us
behind_on word t ts us true e h = ap (λ w. w ∷ ts) (e refl) ∙ ap (λ vs. word ∷ vs) (same_Some ts us h)
behind_on word t ts us false e h = absurd (none-some us h)

behind_parts : (word : Text) (parts us : List Text) → behind word parts ≡ Some us → parts ≡ word ∷ us
behind_parts word [] us h = absurd (none-some us h)
behind_parts word (t ∷ ts) us h = behind_on word t ts us (same t word) (same_text t word) h

pub behind_takes : (word t : Text) (us : List Text) → behind word (items 32 t) ≡ Some us → t ++ codes "\n" ≡ line word us
behind_takes word t us h = ap (λ x. x ++ codes "\n") (sym (joined_items 32 t) ∙ ap (separated 32) (behind_parts word (items 32 t) us h))

-- items, or a dash where there is none
some_texts : {X : Type 0} (text : X → Text) (t : Text) (ts : List Text) (xs : List X) → t ∷ ts ≡ map text xs → t ∷ ts ≡ or_dash (map text xs)
some_texts text t ts [] h = absurd (true≢false (ap has_items h))
some_texts text t ts (x ∷ xs) h = h

lone : (t : Text) (ts : List Text) → not (has_items ts) ≡ true → t ∷ ts ≡ t ∷ []
lone t [] h = refl
lone t (u ∷ ts) h = absurd (true≢false (sym h))

dash_on : {X : Type 0} (read : Text → Option X) (text : X → Text) → ((t : Text) (x : X) → read t ≡ Some x → t ≡ text x) → (t : Text) (ts : List Text) (xs : List X) (b c : Bool) → (b ≡ true → t ≡ codes "-") → (c ≡ true → t ∷ ts ≡ t ∷ []) → cond (b && c) (Some []) (read_all read (t ∷ ts)) ≡ Some xs → t ∷ ts ≡ or_dash (map text xs)
dash_on read text takes t ts xs true true e f h = f refl ∙ ap (λ u. u ∷ []) (e refl) ∙ ap (λ ys. or_dash (map text ys)) (same_Some [] xs h)
dash_on read text takes t ts xs true false e f h = some_texts text t ts xs (all_take read text takes (t ∷ ts) xs h)
dash_on read text takes t ts xs false c e f h = some_texts text t ts xs (all_take read text takes (t ∷ ts) xs h)

pub dashed_takes : {X : Type 0} (read : Text → Option X) (text : X → Text) → ((t : Text) (x : X) → read t ≡ Some x → t ≡ text x) → (ts : List Text) (xs : List X) → dashed read ts ≡ Some xs → ts ≡ or_dash (map text xs)
dashed_takes read text takes [] xs h = absurd (none-some xs h)
dashed_takes read text takes (t ∷ ts) xs h = dash_on read text takes t ts xs (same t (codes "-")) (not (has_items ts)) (same_text t (codes "-")) (lone t ts) h

-- ====== lines ======
pub obstructions_take : (i left : ℕ) (t : Text) (l : Line) → value_at (AtObstructions i left) t ≡ Some l → t ++ codes "\n" ≡ line_text l
obstructions_take i left t l h =
    let ts = bound (λ ts. option_map Obstructions (dashed pattern_at ts)) (behind (codes "obs") (items 32 t)) l h in
    let gs = mapped Obstructions (dashed pattern_at (ts.0)) l (ts.2) in
    behind_takes (codes "obs") t (ts.0) (ts.1)
    ∙ ap (line (codes "obs")) (dashed_takes pattern_at pattern_text (λ u g e. (pattern_takes u g e).0) (ts.0) (gs.0) (gs.1))
    ∙ ap line_text (gs.2)

grid_parts : (ts : List Text) (l : Line) → grid_of ts ≡ Some l → line (codes "grid") ts ≡ line_text l
grid_parts [] l h = absurd (none-some l h)
grid_parts (w ∷ []) l h = absurd (none-some l h)
grid_parts (w ∷ u ∷ v ∷ ts) l h = absurd (none-some l h)
grid_parts (w ∷ u ∷ []) l h =
    let width = bound (λ width. option_map (λ height. Grid width height) (number_at u)) (number_at w) l h in
    let height = mapped (λ height. Grid (width.0) height) (number_at u) l (width.2) in
    ap (λ x. line (codes "grid") (x ∷ u ∷ [])) ((number_takes w (width.0) (width.1)).0)
    ∙ ap (λ y. line (codes "grid") (decimal (width.0) ∷ y ∷ [])) ((number_takes u (height.0) (height.1)).0)
    ∙ ap line_text (height.2)

pub grid_take : (i left : ℕ) (t : Text) (l : Line) → value_at (AtGrid i left) t ≡ Some l → t ++ codes "\n" ≡ line_text l
grid_take i left t l h =
    let ts = bound grid_of (behind (codes "grid") (items 32 t)) l h in
    behind_takes (codes "grid") t (ts.0) (ts.1) ∙ grid_parts (ts.0) l (ts.2)

basis_parts : (ts : List Text) (l : Line) → basis_of ts ≡ Some l → line (codes "basis") ts ≡ line_text l
basis_parts [] l h = absurd (none-some l h)
basis_parts (t ∷ u ∷ ts) l h = absurd (none-some l h)
basis_parts (t ∷ []) l h =
    let words = mapped Basis (read_all word_at (items 44 t)) l h in
    ap (λ x. line (codes "basis") (x ∷ [])) (sym (joined_items 44 t) ∙ ap (separated 44) (all_take word_at word_text (λ u w e. (word_takes u w e).0) (items 44 t) (words.0) (words.1)))
    ∙ ap line_text (words.2)

pub basis_take : (t : Text) (l : Line) → value_at AtBasis t ≡ Some l → t ++ codes "\n" ≡ line_text l
basis_take t l h =
    let ts = bound basis_of (behind (codes "basis") (items 32 t)) l h in
    behind_takes (codes "basis") t (ts.0) (ts.1) ∙ basis_parts (ts.0) l (ts.2)

pub root_take : (t : Text) (l : Line) → value_at AtRoot t ≡ Some l → t ++ codes "\n" ≡ line_text l
root_take t l h =
    let ts = bound (λ ts. option_map Root (dashed step_at ts)) (behind (codes "root") (items 32 t)) l h in
    let trace = mapped Root (dashed step_at (ts.0)) l (ts.2) in
    behind_takes (codes "root") t (ts.0) (ts.1) ∙ ap (line (codes "root")) (dashed_takes step_at step_text step_takes (ts.0) (trace.0) (trace.1)) ∙ ap line_text (trace.2)

pub requirements_take : (i left : ℕ) (t : Text) (l : Line) → value_at (AtRequirements i left) t ≡ Some l → t ++ codes "\n" ≡ line_text l
requirements_take i left t l h =
    let ts = bound (λ ts. option_map Requirements (dashed list_at ts)) (behind (codes "req") (items 32 t)) l h in
    let lists = mapped Requirements (dashed list_at (ts.0)) l (ts.2) in
    behind_takes (codes "req") t (ts.0) (ts.1) ∙ ap (line (codes "req")) (dashed_takes list_at list_text list_takes (ts.0) (lists.0) (lists.1)) ∙ ap line_text (lists.2)

pub rule_take : (i left : ℕ) (t : Text) (l : Line) → value_at (AtRule i left) t ≡ Some l → t ++ codes "\n" ≡ line_text l
rule_take i left t l h =
    let ts = bound (λ ts. option_map Rule (kind_at ts)) (behind (codes "rule") (items 32 t)) l h in
    let k = mapped Rule (kind_at (ts.0)) l (ts.2) in
    behind_takes (codes "rule") t (ts.0) (ts.1) ∙ ap (line (codes "rule")) (kind_takes (ts.0) (k.0) (k.1)) ∙ ap line_text (k.2)

pub terms_take : (t : Text) (l : Line) → value_at AtTerms t ≡ Some l → t ++ codes "\n" ≡ line_text l
terms_take t l h =
    let ts = bound (λ ts. option_map Terms (terms_at ts)) (behind (codes "terms") (items 32 t)) l h in
    let xs = mapped Terms (terms_at (ts.0)) l (ts.2) in
    behind_takes (codes "terms") t (ts.0) (ts.1) ∙ ap (line (codes "terms")) (all_take term_at term_text term_takes (ts.0) (xs.0) (xs.1)) ∙ ap line_text (xs.2)

count_parts : (ts : List Text) (l : Line) → count_of ts ≡ Some l → line (codes "entries") ts ≡ line_text l
count_parts [] l h = absurd (none-some l h)
count_parts (t ∷ u ∷ ts) l h = absurd (none-some l h)
count_parts (t ∷ []) l h = let n = mapped Count (number_at t) l h in ap (λ x. line (codes "entries") (x ∷ [])) ((number_takes t (n.0) (n.1)).0) ∙ ap line_text (n.2)

pub count_take : (t : Text) (l : Line) → value_at AtCount t ≡ Some l → t ++ codes "\n" ≡ line_text l
count_take t l h = let ts = bound count_of (behind (codes "entries") (items 32 t)) l h in behind_takes (codes "entries") t (ts.0) (ts.1) ∙ count_parts (ts.0) l (ts.2)

entry_parts : (ts : List Text) (l : Line) → entry_of ts ≡ Some l → line (codes "entry") ts ≡ line_text l
entry_parts [] l h = absurd (none-some l h)
entry_parts (i ∷ []) l h = absurd (none-some l h)
entry_parts (i ∷ w ∷ []) l h = absurd (none-some l h)
entry_parts (i ∷ w ∷ r ∷ u ∷ ts) l h = absurd (none-some l h)
entry_parts (i ∷ w ∷ r ∷ []) l h =
    let number = bound (λ number. option_and_then (λ rank. cond (same w (codes "rank")) (Some (Entry number rank)) None) (number_at r)) (number_at i) l h in
    let rank = bound (λ rank. cond (same w (codes "rank")) (Some (Entry (number.0) rank)) None) (number_at r) l (number.2) in
    choose (same w (codes "rank")) (Some (Entry (number.0) (rank.0))) None l (rank.2)
    (λ e f. ap (λ x. line (codes "entry") (x ∷ w ∷ r ∷ [])) ((number_takes i (number.0) (number.1)).0)
    ∙ ap (λ x. line (codes "entry") (decimal (number.0) ∷ x ∷ r ∷ [])) (same_text w (codes "rank") e)
    ∙ ap (λ x. line (codes "entry") (decimal (number.0) ∷ codes "rank" ∷ x ∷ [])) ((number_takes r (rank.0) (rank.1)).0)
    ∙ ap line_text (same_Some (Entry (number.0) (rank.0)) l f))
    (λ g. absurd (none-some l g))

pub entry_take : (i left : ℕ) (t : Text) (l : Line) → value_at (AtEntry i left) t ≡ Some l → t ++ codes "\n" ≡ line_text l
entry_take i left t l h = let ts = bound entry_of (behind (codes "entry") (items 32 t)) l h in behind_takes (codes "entry") t (ts.0) (ts.1) ∙ entry_parts (ts.0) l (ts.2)

child_parts : (ts : List Text) (l : Line) → child_of ts ≡ Some l → line (codes "to") ts ≡ line_text l
child_parts [] l h = absurd (none-some l h)
child_parts (c ∷ ts) l h =
    let child = bound (λ child. option_map (Child child) (dashed step_at ts)) (number_at c) l h in
    let trace = mapped (Child (child.0)) (dashed step_at ts) l (child.2) in
    ap (λ x. line (codes "to") (x ∷ ts)) ((number_takes c (child.0) (child.1)).0)
    ∙ ap (λ us. line (codes "to") (decimal (child.0) ∷ us)) (dashed_takes step_at step_text step_takes ts (trace.0) (trace.1))
    ∙ ap line_text (trace.2)

pub child_take : (i left more : ℕ) (t : Text) (l : Line) → value_at (AtChild i left more) t ≡ Some l → t ++ codes "\n" ≡ line_text l
child_take i left more t l h = let ts = bound child_of (behind (codes "to") (items 32 t)) l h in behind_takes (codes "to") t (ts.0) (ts.1) ∙ child_parts (ts.0) l (ts.2)

fixed_take : (word : Text) (v l : Line) (t : Text) → word ++ codes "\n" ≡ line_text v → cond (same t word) (Some v) None ≡ Some l → t ++ codes "\n" ≡ line_text l
fixed_take word v l t text h = choose (same t word) (Some v) None l h (λ e f. ap (λ x. x ++ codes "\n") (same_text t word e) ∙ text ∙ ap line_text (same_Some v l f)) (λ g. absurd (none-some l g))

-- each line that is read, with its line feed, is the text of its value
pub value_takes : (p : Place) (t : Text) (l : Line) → value_at p t ≡ Some l → t ++ codes "\n" ≡ line_text l
value_takes AtFirst t l h = fixed_take (codes "tilescope 1") First l t refl h
value_takes AtBasis t l h = basis_take t l h
value_takes AtRoot t l h = root_take t l h
value_takes AtCount t l h = count_take t l h
value_takes (AtEntry i left) t l h = entry_take i left t l h
value_takes (AtGrid i left) t l h = grid_take i left t l h
value_takes (AtObstructions i left) t l h = obstructions_take i left t l h
value_takes (AtRequirements i left) t l h = requirements_take i left t l h
value_takes (AtRule i left) t l h = rule_take i left t l h
value_takes (AtChild i left more) t l h = child_take i left more t l h
value_takes AtTerms t l h = terms_take t l h
value_takes AtEnd t l h = fixed_take (codes "end") End l t refl h
value_takes Done t l h = absurd (none-some l h)

-- ====== the kind of a line ======
made : {X : Type 0} (p : Place) (make : X → Line) (o : Option X) (l : Line) → option_map make o ≡ Some l → ((x : X) → stands_at p (make x) ≡ true) → stands_at p l ≡ true
made p make o l h each = let x = mapped make o l h in subst (λ m. stands_at p m ≡ true) (x.2) (each (x.0))

basis_stands : (ts : List Text) (l : Line) → basis_of ts ≡ Some l → stands_at AtBasis l ≡ true
basis_stands [] l h = absurd (none-some l h)
basis_stands (t ∷ u ∷ ts) l h = absurd (none-some l h)
basis_stands (t ∷ []) l h = made AtBasis Basis (read_all word_at (items 44 t)) l h (λ words. refl)

count_stands : (ts : List Text) (l : Line) → count_of ts ≡ Some l → stands_at AtCount l ≡ true
count_stands [] l h = absurd (none-some l h)
count_stands (t ∷ u ∷ ts) l h = absurd (none-some l h)
count_stands (t ∷ []) l h = made AtCount Count (number_at t) l h (λ entries. refl)

entry_stands : (i left : ℕ) (ts : List Text) (l : Line) → entry_of ts ≡ Some l → stands_at (AtEntry i left) l ≡ true
entry_stands i left [] l h = absurd (none-some l h)
entry_stands i left (n ∷ []) l h = absurd (none-some l h)
entry_stands i left (n ∷ w ∷ []) l h = absurd (none-some l h)
entry_stands i left (n ∷ w ∷ r ∷ u ∷ ts) l h = absurd (none-some l h)
entry_stands i left (n ∷ w ∷ r ∷ []) l h =
    let number = bound (λ number. option_and_then (λ rank. cond (same w (codes "rank")) (Some (Entry number rank)) None) (number_at r)) (number_at n) l h in
    let rank = bound (λ rank. cond (same w (codes "rank")) (Some (Entry (number.0) rank)) None) (number_at r) l (number.2) in
    choose (same w (codes "rank")) (Some (Entry (number.0) (rank.0))) None l (rank.2)
    (λ e f. subst (λ m. stands_at (AtEntry i left) m ≡ true) (same_Some (Entry (number.0) (rank.0)) l f) refl)
    (λ g. absurd (none-some l g))

grid_stands : (i left : ℕ) (ts : List Text) (l : Line) → grid_of ts ≡ Some l → stands_at (AtGrid i left) l ≡ true
grid_stands i left [] l h = absurd (none-some l h)
grid_stands i left (w ∷ []) l h = absurd (none-some l h)
grid_stands i left (w ∷ u ∷ v ∷ ts) l h = absurd (none-some l h)
grid_stands i left (w ∷ u ∷ []) l h =
    let width = bound (λ width. option_map (λ height. Grid width height) (number_at u)) (number_at w) l h in
    made (AtGrid i left) (λ height. Grid (width.0) height) (number_at u) l (width.2) (λ height. refl)

child_stands : (i left more : ℕ) (ts : List Text) (l : Line) → child_of ts ≡ Some l → stands_at (AtChild i left more) l ≡ true
child_stands i left more [] l h = absurd (none-some l h)
child_stands i left more (c ∷ ts) l h =
    let child = bound (λ child. option_map (Child child) (dashed step_at ts)) (number_at c) l h in
    made (AtChild i left more) (Child (child.0)) (dashed step_at ts) l (child.2) (λ trace. refl)

fixed_stands : (p : Place) (word : Text) (v l : Line) (t : Text) → stands_at p v ≡ true → cond (same t word) (Some v) None ≡ Some l → stands_at p l ≡ true
fixed_stands p word v l t there h = choose (same t word) (Some v) None l h (λ e f. subst (λ m. stands_at p m ≡ true) (same_Some v l f) there) (λ g. absurd (none-some l g))

value_stands : (p : Place) (t : Text) (l : Line) → value_at p t ≡ Some l → stands_at p l ≡ true
value_stands AtFirst t l h = fixed_stands AtFirst (codes "tilescope 1") First l t refl h
value_stands AtBasis t l h = let ts = bound basis_of (behind (codes "basis") (items 32 t)) l h in basis_stands (ts.0) l (ts.2)
value_stands AtRoot t l h = let ts = bound (λ ts. option_map Root (dashed step_at ts)) (behind (codes "root") (items 32 t)) l h in made AtRoot Root (dashed step_at (ts.0)) l (ts.2) (λ trace. refl)
value_stands AtCount t l h = let ts = bound count_of (behind (codes "entries") (items 32 t)) l h in count_stands (ts.0) l (ts.2)
value_stands (AtEntry i left) t l h = let ts = bound entry_of (behind (codes "entry") (items 32 t)) l h in entry_stands i left (ts.0) l (ts.2)
value_stands (AtGrid i left) t l h = let ts = bound grid_of (behind (codes "grid") (items 32 t)) l h in grid_stands i left (ts.0) l (ts.2)
value_stands (AtObstructions i left) t l h = let ts = bound (λ ts. option_map Obstructions (dashed pattern_at ts)) (behind (codes "obs") (items 32 t)) l h in made (AtObstructions i left) Obstructions (dashed pattern_at (ts.0)) l (ts.2) (λ patterns. refl)
value_stands (AtRequirements i left) t l h = let ts = bound (λ ts. option_map Requirements (dashed list_at ts)) (behind (codes "req") (items 32 t)) l h in made (AtRequirements i left) Requirements (dashed list_at (ts.0)) l (ts.2) (λ lists. refl)
value_stands (AtRule i left) t l h = let ts = bound (λ ts. option_map Rule (kind_at ts)) (behind (codes "rule") (items 32 t)) l h in made (AtRule i left) Rule (kind_at (ts.0)) l (ts.2) (λ k. refl)
value_stands (AtChild i left more) t l h = let ts = bound child_of (behind (codes "to") (items 32 t)) l h in child_stands i left more (ts.0) l (ts.2)
value_stands AtTerms t l h = let ts = bound (λ ts. option_map Terms (terms_at ts)) (behind (codes "terms") (items 32 t)) l h in made AtTerms Terms (terms_at (ts.0)) l (ts.2) (λ terms. refl)
value_stands AtEnd t l h = fixed_stands AtEnd (codes "end") End l t refl h
value_stands Done t l h = absurd (none-some l h)

-- ====== what is read ======
pub line_takes : (p : Place) (t : Text) (l : Line) → line_at p t ≡ Some l → t ++ codes "\n" ≡ line_text l
line_takes p t l h =
    let v = bound (λ l. keep_if (is_line l) l) (value_at p t) l h in
    let both = kept (is_line (v.0)) (v.0) l (v.2) in
    value_takes p t (v.0) (v.1) ∙ ap line_text (both.1)

-- a line that is read is of the form
pub read_in_form : (p : Place) (t : Text) (v : Line) → line_at p t ≡ Some v → is_line v ≡ true
read_in_form p t v e = option_and_then_some (λ l. keep_if (is_line l) l) (value_at p t) v e (λ l read on. let both = kept (is_line l) l v on in subst (λ m. is_line m ≡ true) (both.1) (both.0))

-- and of the kind that stands there
pub read_stands : (p : Place) (t : Text) (l : Line) → line_at p t ≡ Some l → stands_at p l ≡ true
read_stands p t l h =
    let v = bound (λ l. keep_if (is_line l) l) (value_at p t) l h in
    let both = kept (is_line (v.0)) (v.0) l (v.2) in
    subst (λ m. stands_at p m ≡ true) (both.1) (value_stands p t (v.0) (v.1))
