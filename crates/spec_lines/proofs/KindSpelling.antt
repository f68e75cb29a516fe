-- Steps, sets, lists, kinds and terms that are read are spelled so.
use Rattle.std.proofs.Common.{◌≡◌, ℕ, true, cond, List, [], ◌∷◌, ◌++◌, map, refl, ap, sym, ◌∙◌, true≢false, append_assoc}
use Rattle.std.specs.Prelude.{nat_eq, Some, None, option_map, codes, decimal}
use Rattle.std.proofs.lemmas.Option.{none-some, same_Some}
use Rattle.gridded.specs.declared.cell.Cell.{Cell}
use Rattle.gridded.specs.Grids.{Point}
use Rattle.steps.specs.declared.step.Step.{Step}
use Rattle.steps.specs.declared.step.Step.TheVariants as steps
use Rattle.rule_kinds.specs.Pointeds.{PointedPattern}
use Rattle.rule_kinds.specs.declared.kind.Direction.{Direction}
use Rattle.rule_kinds.specs.declared.kind.Direction.TheVariants.{North, South, East, West}
use Rattle.rule_kinds.specs.declared.kind.Kind.{Kind}
use Rattle.rule_kinds.specs.declared.kind.Kind.TheVariants as kind
use Rattle.css_terms.specs.declared.term.Term.{Term}
use Rattle.css_terms.specs.declared.term.Term.TheVariants.{Exact, Big}
use Rattle.spec_lines.specs.Lines.{Text, separated}
use Rattle.spec_lines.specs.Patterns.{cell_text, cells_text, pattern_text, list_text}
use Rattle.spec_lines.specs.Traces.{step_text}
use Rattle.spec_lines.specs.Terms.{term_text}
use Rattle.spec_lines.specs.Kinds.{direction_text, pointed_text, kind_word, kind_items}
use Rattle.spec_lines.specs.Forms.{has_items}
use Rattle.spec_lines.specs.Items.{items, read_all, same}
use Rattle.spec_lines.specs.Readings.{digit_at, cell_at, number_at, pattern_at, set_at, list_at, step_at, pointed_of, pointed_at, direction_at, alone, insert_at, place_at, cut_at, kind_at, term_at}
use Rattle.spec_lines.proofs.Items.{joined_items, some_items}
use Rattle.spec_lines.proofs.NumberSpelling.{number_takes}
use Rattle.spec_lines.proofs.Taking.{equal_numbers, mapped, bound, choose, all_take, same_text}
use Rattle.spec_lines.proofs.PatternSpelling.{cell_takes, digit_takes, pattern_takes}

one_byte : (k b : ℕ) → nat_eq k b ≡ true → k ∷ [] ≡ b ∷ []
one_byte k b e = ap (λ x. x ∷ []) (equal_numbers k b e)

pub step_takes : (t : Text) (s : Step) → step_at t ≡ Some s → t ≡ step_text s
step_takes [] s h = absurd (none-some s h)
step_takes (k ∷ []) s h =
    choose (nat_eq k 86) (Some steps.Void) (cond (nat_eq k 77) (Some steps.Min) (cond (nat_eq k 76) (Some steps.Lists) None)) s h
    (λ e f. one_byte k 86 e ∙ ap step_text (same_Some steps.Void s f))
    (λ g. choose (nat_eq k 77) (Some steps.Min) (cond (nat_eq k 76) (Some steps.Lists) None) s g
    (λ e f. one_byte k 77 e ∙ ap step_text (same_Some steps.Min s f))
    (λ g. choose (nat_eq k 76) (Some steps.Lists) None s g
    (λ e f. one_byte k 76 e ∙ ap step_text (same_Some steps.Lists s f))
    (λ g. absurd (none-some s g))))
step_takes (k ∷ a ∷ []) s h =
    let x = bound (λ x. cond (nat_eq k 67) (Some (steps.Column x)) (cond (nat_eq k 82) (Some (steps.Row x)) None)) (digit_at a) s h in
    let digit = (digit_takes a (x.0) (x.1)).0 in
    choose (nat_eq k 67) (Some (steps.Column (x.0))) (cond (nat_eq k 82) (Some (steps.Row (x.0))) None) s (x.2)
    (λ e f. ap (λ t. k ∷ t) digit ∙ ap (λ b. b ∷ decimal (x.0)) (equal_numbers k 67 e) ∙ ap step_text (same_Some (steps.Column (x.0)) s f))
    (λ g. choose (nat_eq k 82) (Some (steps.Row (x.0))) None s g
    (λ e f. ap (λ t. k ∷ t) digit ∙ ap (λ b. b ∷ decimal (x.0)) (equal_numbers k 82 e) ∙ ap step_text (same_Some (steps.Row (x.0)) s f))
    (λ g. absurd (none-some s g)))
step_takes (k ∷ a ∷ b ∷ []) s h =
    choose (nat_eq k 75) (option_map steps.Clean (cell_at (a ∷ b ∷ []))) None s h
    (λ e f. let c = mapped steps.Clean (cell_at (a ∷ b ∷ [])) s f in ap (λ t. k ∷ t) (cell_takes (a ∷ b ∷ []) (c.0) (c.1)) ∙ ap (λ b. b ∷ cell_text (c.0)) (equal_numbers k 75 e) ∙ ap step_text (c.2))
    (λ g. absurd (none-some s g))
step_takes (k ∷ a ∷ b ∷ d ∷ t) s h = absurd (none-some s h)

pub set_takes : (t : Text) (cells : List Cell) → set_at t ≡ Some cells → t ≡ cells_text cells
set_takes t cells h = sym (joined_items 46 t) ∙ ap (separated 46) (all_take cell_at cell_text cell_takes (items 46 t) cells h)

takes_pattern : (t : Text) (g : List Point) → pattern_at t ≡ Some g → t ≡ pattern_text g
takes_pattern t g h = (pattern_takes t g h).0

members : (t : Text) (parts : List Text) (gs : List (List Point)) → has_items parts ≡ true → t ≡ separated 124 parts → parts ≡ map pattern_text gs → t ≡ list_text gs
members t parts [] there e h = absurd (true≢false (sym there ∙ ap has_items h))
members t parts (g ∷ gs) there e h = e ∙ ap (separated 124) h

pub list_takes : (t : Text) (gs : List (List Point)) → list_at t ≡ Some gs → t ≡ list_text gs
list_takes t gs h =
    choose (same t (codes "x")) (Some []) (read_all pattern_at (items 124 t)) gs h
    (λ e f. same_text t (codes "x") e ∙ ap list_text (same_Some [] gs f))
    (λ f. members t (items 124 t) gs (some_items 124 t) (sym (joined_items 124 t)) (all_take pattern_at pattern_text takes_pattern (items 124 t) gs f))

pub term_takes : (t : Text) (x : Term) → term_at t ≡ Some x → t ≡ term_text x
term_takes t x h =
    choose (same t (codes "big")) (Some Big) (option_map Exact (number_at t)) x h
    (λ e f. same_text t (codes "big") e ∙ ap term_text (same_Some Big x f))
    (λ f. let n = mapped Exact (number_at t) x f in (number_takes t (n.0) (n.1)).0 ∙ ap term_text (n.2))

pub direction_takes : (t : Text) (d : Direction) → direction_at t ≡ Some d → t ≡ direction_text d
direction_takes t d h =
    choose (same t (codes "N")) (Some North) (cond (same t (codes "S")) (Some South) (cond (same t (codes "E")) (Some East) (cond (same t (codes "W")) (Some West) None))) d h
    (λ e f. same_text t (codes "N") e ∙ ap direction_text (same_Some North d f))
    (λ g. choose (same t (codes "S")) (Some South) (cond (same t (codes "E")) (Some East) (cond (same t (codes "W")) (Some West) None)) d g
    (λ e f. same_text t (codes "S") e ∙ ap direction_text (same_Some South d f))
    (λ g. choose (same t (codes "E")) (Some East) (cond (same t (codes "W")) (Some West) None) d g
    (λ e f. same_text t (codes "E") e ∙ ap direction_text (same_Some East d f))
    (λ g. choose (same t (codes "W")) (Some West) None d g
    (λ e f. same_text t (codes "W") e ∙ ap direction_text (same_Some West d f))
    (λ g. absurd (none-some d g)))))

pointed_parts : (parts : List Text) (q : PointedPattern) → pointed_of parts ≡ Some q → separated 94 parts ≡ pointed_text q
pointed_parts [] q h = absurd (none-some q h)
pointed_parts (g ∷ []) q h = absurd (none-some q h)
pointed_parts (g ∷ [] ∷ ts) q h = absurd (none-some q h)
pointed_parts (g ∷ (d ∷ e ∷ u) ∷ ts) q h = absurd (none-some q h)
pointed_parts (g ∷ (d ∷ []) ∷ v ∷ ts) q h = absurd (none-some q h)
pointed_parts (g ∷ (d ∷ []) ∷ []) q h =
    let p = bound (λ pattern. option_map (λ index. record { pattern = pattern; index = index }) (digit_at d)) (pattern_at g) q h in
    let i = mapped (λ index. record { pattern = p.0; index = index }) (digit_at d) q (p.2) in
    sym (append_assoc g (94 ∷ []) (d ∷ []))
    ∙ ap (λ x. x ++ codes "^" ++ d ∷ []) (takes_pattern g (p.0) (p.1))
    ∙ ap (λ x. pattern_text (p.0) ++ codes "^" ++ x) ((digit_takes d (i.0) (i.1)).0)
    ∙ ap pointed_text (i.2)

pub pointed_takes : (t : Text) (q : PointedPattern) → pointed_at t ≡ Some q → t ≡ pointed_text q
pointed_takes t q h = sym (joined_items 94 t) ∙ pointed_parts (items 94 t) q h

-- ====== kinds ======
abbrev kind_texts : Kind → List Text
kind_texts k = kind_word k ∷ kind_items k

alone_takes : (one k : Kind) (ts : List Text) → kind_items one ≡ [] → alone one ts ≡ Some k → kind_word one ∷ ts ≡ kind_texts k
alone_takes one k [] empty h = ap (λ x. kind_word one ∷ x) (sym empty) ∙ ap kind_texts (same_Some one k h)
alone_takes one k (t ∷ ts) empty h = absurd (none-some k h)

insert_takes : (ts : List Text) (k : Kind) → insert_at ts ≡ Some k → codes "insert" ∷ ts ≡ kind_texts k
insert_takes [] k h = absurd (none-some k h)
insert_takes (t ∷ u ∷ ts) k h = absurd (none-some k h)
insert_takes (t ∷ []) k h = let g = mapped kind.Insert (pattern_at t) k h in ap (λ x. codes "insert" ∷ x ∷ []) (takes_pattern t (g.0) (g.1)) ∙ ap kind_texts (g.2)

place_takes : (ts : List Text) (k : Kind) → place_at ts ≡ Some k → codes "place" ∷ ts ≡ kind_texts k
place_takes [] k h = absurd (none-some k h)
place_takes (t ∷ ts) k h =
    let d = bound (λ d. option_map (λ qs. kind.Place qs d) (read_all pointed_at ts)) (direction_at t) k h in
    let qs = mapped (λ qs. kind.Place qs (d.0)) (read_all pointed_at ts) k (d.2) in
    ap (λ x. codes "place" ∷ x ∷ ts) (direction_takes t (d.0) (d.1))
    ∙ ap (λ us. codes "place" ∷ direction_text (d.0) ∷ us) (all_take pointed_at pointed_text pointed_takes ts (qs.0) (qs.1))
    ∙ ap kind_texts (qs.2)

cut_takes : (cut : ℕ → List Cell → Kind) (word : Text) → ((y : ℕ) (set : List Cell) → word ∷ decimal y ∷ cells_text set ∷ [] ≡ kind_texts (cut y set)) → (ts : List Text) (k : Kind) → cut_at cut ts ≡ Some k → word ∷ ts ≡ kind_texts k
cut_takes cut word texts [] k h = absurd (none-some k h)
cut_takes cut word texts (n ∷ []) k h = absurd (none-some k h)
cut_takes cut word texts (n ∷ t ∷ u ∷ ts) k h = absurd (none-some k h)
cut_takes cut word texts (n ∷ t ∷ []) k h =
    let y = bound (λ y. option_map (cut y) (set_at t)) (number_at n) k h in
    let set = mapped (cut (y.0)) (set_at t) k (y.2) in
    ap (λ x. word ∷ x ∷ t ∷ []) ((number_takes n (y.0) (y.1)).0) ∙ ap (λ x. word ∷ decimal (y.0) ∷ x ∷ []) (set_takes t (set.0) (set.1)) ∙ texts (y.0) (set.0) ∙ ap kind_texts (set.2)

factor_takes : (ts : List Text) (k : Kind) → option_map kind.Factor (read_all set_at ts) ≡ Some k → codes "factor" ∷ ts ≡ kind_texts k
factor_takes ts k h = let sets = mapped kind.Factor (read_all set_at ts) k h in ap (λ us. codes "factor" ∷ us) (all_take set_at cells_text set_takes ts (sets.0) (sets.1)) ∙ ap kind_texts (sets.2)

infer_takes : (ts : List Text) (k : Kind) → option_map kind.Infer (read_all pattern_at ts) ≡ Some k → codes "infer" ∷ ts ≡ kind_texts k
infer_takes ts k h = let gs = mapped kind.Infer (read_all pattern_at ts) k h in ap (λ us. codes "infer" ∷ us) (all_take pattern_at pattern_text takes_pattern ts (gs.0) (gs.1)) ∙ ap kind_texts (gs.2)

headed : (w word : Text) (ts : List Text) (k : Kind) → same w word ≡ true → word ∷ ts ≡ kind_texts k → w ∷ ts ≡ kind_texts k
headed w word ts k e h = ap (λ x. x ∷ ts) (same_text w word e) ∙ h

pub kind_takes : (ts : List Text) (k : Kind) → kind_at ts ≡ Some k → ts ≡ kind_texts k
kind_takes [] k h = absurd (none-some k h)
kind_takes (w ∷ ts) k h =
    choose (same w (codes "unit")) _ _ k h (λ e f. headed w (codes "unit") ts k e (alone_takes kind.Unit k ts refl f))
    (λ g. choose (same w (codes "point")) _ _ k g (λ e f. headed w (codes "point") ts k e (alone_takes kind.Point k ts refl f))
    (λ g. choose (same w (codes "void")) _ _ k g (λ e f. headed w (codes "void") ts k e (alone_takes kind.Void k ts refl f))
    (λ g. choose (same w (codes "insert")) _ _ k g (λ e f. headed w (codes "insert") ts k e (insert_takes ts k f))
    (λ g. choose (same w (codes "place")) _ _ k g (λ e f. headed w (codes "place") ts k e (place_takes ts k f))
    (λ g. choose (same w (codes "rowcut")) _ _ k g (λ e f. headed w (codes "rowcut") ts k e (cut_takes kind.RowCut (codes "rowcut") (λ y set. refl) ts k f))
    (λ g. choose (same w (codes "colcut")) _ _ k g (λ e f. headed w (codes "colcut") ts k e (cut_takes kind.ColumnCut (codes "colcut") (λ x set. refl) ts k f))
    (λ g. choose (same w (codes "factor")) _ _ k g (λ e f. headed w (codes "factor") ts k e (factor_takes ts k f))
    (λ g. choose (same w (codes "infer")) _ _ k g (λ e f. headed w (codes "infer") ts k e (infer_takes ts k f))
    (λ g. absurd (none-some k g))))))))))
