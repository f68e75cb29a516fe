use Rattle.std.proofs.Common.{rules, arith, ◌≡◌, ◌<◌, ◌≤◌, ◌+◌, ◌-◌, ℕ, Bool, true, false, length, drop, sym, ap, ◌∙◌, refl, subst, get_or, List}
use Rattle.std.specs.List.{list_any, range_with_len}
use Rattle.std.proofs.lemmas.List.{length-map, take_all}
use Rattle.std.proofs.lemmas.List.Folds.{list_any_at}
use Rattle.std.proofs.Math.Bool.{or-true as or_all}
use Rattle.gridded.specs.declared.cell.Cell.{Cell}
use Rattle.gridded.specs.Grids.{Point, cell_of, holds}
use Rattle.gridded.specs.Orders.{cells_of}
use Rattle.emptiness.specs.Glueing.{stands_in, reaches, glues, glues_at, falls_on, joins_at, joins, onward, corner}
use Rattle.emptiness.proofs.Inserted.{length-inserted}
use Rattle.emptiness.proofs.Untouched.{any-there, member-avoiding}
use Rattle.emptiness.proofs.Steps.{stands-within, any_below-more, any_below-here, any_from_start-more, still-there, glues-end, glues-step, reaches-end, reaches-step, weight-step, longest-at, and_none, neither}
use Rattle.emptiness.proofs.glueing.+glueing.Goals as goal
use Rattle.emptiness.proofs.glueing.+glueing.Goals.{glues_at-then-stands_in+else-glues, glues_at-else-stands_in}

pub glues_at-glues-requires : goal.glues_at-glues-requires
glues_at-glues-requires t c =
    let there = stands-within c.args.place _ c.args.g.now (sym c.stands_in.ensures ∙ c.if-stands_in.true) in
    (search rules, (c.requires.indexed, (c.requires.avoids, (omega arith, (omega arith, (omega arith, omega arith))))))

pub glues-returns-then-holds-clause-value : goal.glues-returns-then-holds-clause-value
glues-returns-then-holds-clause-value t c =
    let N : List Point → Bool = λ h. reaches c.args.tiling.now (drop c.args.list c.args.tiling.now.requirements) h in
    let past : length (cells_of c.args.pattern.now) ≤ c.args.taken = omega (arith, ap (λ s. length s) c.cells.ensures.value) in
    let held : holds c.args.g.now c.args.pattern.now ≡ true = sym c.holds.ensures.tested ∙ c.if-holds.true in
    c.reaches.ensures.value ∙ sym (glues-end c.args.tiling.now.obstructions c.args.pattern.now N (cells_of c.args.pattern.now) c.args.taken c.args.from c.args.g.now past ∙ rw held refl)

pub glues-returns-else-holds-clause-value : goal.glues-returns-else-holds-clause-value
glues-returns-else-holds-clause-value t c =
    let N : List Point → Bool = λ h. reaches c.args.tiling.now (drop c.args.list c.args.tiling.now.requirements) h in
    let past : length (cells_of c.args.pattern.now) ≤ c.args.taken = omega (arith, ap (λ s. length s) c.cells.ensures.value) in
    let held : holds c.args.g.now c.args.pattern.now ≡ false = sym c.holds.ensures.tested ∙ c.if-holds.false in
    c.if-holds.false ∙ sym (glues-end c.args.tiling.now.obstructions c.args.pattern.now N (cells_of c.args.pattern.now) c.args.taken c.args.from c.args.g.now past ∙ rw held refl)

pub glues-returns-then-glues_at-clause-value : goal.glues-returns-then-glues_at-clause-value
glues-returns-then-glues_at-clause-value t c =
    let N : List Point → Bool = λ h. reaches c.args.tiling.now (drop c.args.list c.args.tiling.now.requirements) h in
    let F : ℕ → Bool = λ i. glues_at c.args.tiling.now.obstructions (onward c.args.tiling.now c.args.pattern.now c.args.list c.args.taken) (get_or (cells_of c.args.pattern.now) c.args.taken corner) c.args.g.now i in
    let not_all : c.args.taken < length (cells_of c.args.pattern.now) = omega (arith, length-map c.args.pattern.now cell_of, ap (λ s. length s) c.cells.ensures.value) in
    let many : length c.cells-2.result.now ≡ length c.args.g.now = ap (λ s. length s) c.cells-2.ensures.value ∙ length-map c.args.g.now cell_of in
    sym (glues-step c.args.tiling.now.obstructions c.args.pattern.now N (cells_of c.args.pattern.now) c.args.taken c.args.from c.args.g.now not_all
    ∙ any_below-here F c.args.from (length c.args.g.now + 1 - c.args.from) c.loop-place.place (omega arith) (omega arith) (sym c.glues_at.ensures.value ∙ c.if-glues_at.true))

pub glues-loop-place-preserved : goal.glues-loop-place-preserved
glues-loop-place-preserved t c =
    let F : ℕ → Bool = λ i. glues_at c.args.tiling.now.obstructions (onward c.args.tiling.now c.args.pattern.now c.args.list c.args.taken) (get_or (cells_of c.args.pattern.now) c.args.taken corner) c.args.g.now i in
    any_below-more F c.args.from c.loop-place.place (omega arith) c.loop-place.invariant (sym c.glues_at.ensures.value ∙ c.if-glues_at.false)

pub glues-returns-clause-value : goal.glues-returns-clause-value
glues-returns-clause-value t c =
    let N : List Point → Bool = λ h. reaches c.args.tiling.now (drop c.args.list c.args.tiling.now.requirements) h in
    let F : ℕ → Bool = λ i. glues_at c.args.tiling.now.obstructions (onward c.args.tiling.now c.args.pattern.now c.args.list c.args.taken) (get_or (cells_of c.args.pattern.now) c.args.taken corner) c.args.g.now i in
    let not_all : c.args.taken < length (cells_of c.args.pattern.now) = omega (arith, length-map c.args.pattern.now cell_of, ap (λ s. length s) c.cells.ensures.value) in
    let many : length c.cells-2.result.now ≡ length c.args.g.now = ap (λ s. length s) c.cells-2.ensures.value ∙ length-map c.args.g.now cell_of in
    let done : c.loop-place.place ≡ length c.args.g.now + 1 = omega arith in
    sym (glues-step c.args.tiling.now.obstructions c.args.pattern.now N (cells_of c.args.pattern.now) c.args.taken c.args.from c.args.g.now not_all
    ∙ subst (λ (m : ℕ). list_any F (range_with_len c.args.from (m - c.args.from)) ≡ false) done c.loop-place.invariant)

pub joins-holds_one_at-requires-clause-there : goal.joins-holds_one_at-requires-clause-there
joins-holds_one_at-requires-clause-there t c =
    let same : c.obstructions.result.now ≡ c.args.tiling.now.obstructions = c.obstructions.ensures.value in
    any-there _ _ _ c.args.g.now c.inserted-longer.result c.obstructions.result.now c.inserted-longer.ensures (rw same c.requires.avoids)

pub joins-glues-requires : goal.joins-glues-requires
joins-glues-requires t c =
    let longer : length c.inserted-longer.result ≡ length c.args.g.now + 1 = ap (λ s. length s) c.inserted-longer.ensures ∙ length-inserted _ _ _ c.args.g.now ∙ omega arith in
    let avoids = subst (λ os. list_any (λ p. holds c.inserted-longer.result p) os ≡ false) c.obstructions.ensures.value (sym c.holds_one_at.ensures ∙ c.if-holds_one_at.false) in
    (search rules, (c.requires.indexed, (avoids, (omega arith, (omega arith, (omega arith, omega arith))))))

pub glues_at-returns-then-joins-clause-value : goal.glues_at-returns-then-joins-clause-value
glues_at-returns-then-joins-clause-value t c =
    let N : ℕ → List Point → Bool = onward c.args.tiling.now c.args.pattern.now c.args.list c.args.taken in
    let C : Cell = get_or (cells_of c.args.pattern.now) c.args.taken corner in
    let F : ℕ → Bool = λ m. joins c.args.tiling.now.obstructions N C c.args.g.now c.args.place m in
    let many : length c.cells-2.result.now ≡ length c.args.g.now = ap (λ s. length s) c.cells-2.ensures.value ∙ length-map c.args.g.now cell_of in
    let at = any_below-here F 0 (length c.args.g.now + 1) c.loop-letter.letter (omega arith) (omega arith) (sym c.joins.ensures.value ∙ c.if-joins.true) in
    sym (rw at (or_all (falls_on N C c.args.g.now c.args.place)))

pub glues_at-loop-letter-preserved : goal.glues_at-loop-letter-preserved
glues_at-loop-letter-preserved t c =
    let F : ℕ → Bool = λ m. joins c.args.tiling.now.obstructions (onward c.args.tiling.now c.args.pattern.now c.args.list c.args.taken) (get_or (cells_of c.args.pattern.now) c.args.taken corner) c.args.g.now c.args.place m in
    any_from_start-more F c.loop-letter.letter c.loop-letter.invariant (sym c.joins.ensures.value ∙ c.if-joins.false)

pub glues_at-returns-clause-value : goal.glues_at-returns-clause-value
glues_at-returns-clause-value t c =
    let O : List (List Point) = c.args.tiling.now.obstructions in
    let N : ℕ → List Point → Bool = onward c.args.tiling.now c.args.pattern.now c.args.list c.args.taken in
    let C : Cell = get_or (cells_of c.args.pattern.now) c.args.taken corner in
    let F : ℕ → Bool = λ m. joins O N C c.args.g.now c.args.place m in
    let many : length c.cells-2.result.now ≡ length c.args.g.now = ap (λ s. length s) c.cells-2.ensures.value ∙ length-map c.args.g.now cell_of in
    let done : c.loop-letter.letter ≡ length c.args.g.now + 1 = omega arith in
    let none : joins_at O N C c.args.g.now c.args.place ≡ false = subst (λ (m : ℕ). list_any F (range_with_len 0 m) ≡ false) done c.loop-letter.invariant in
    let at : c.stands_in.result ≡ stands_in c.args.place C c.args.g.now = c.stands_in.ensures ∙ ap (λ cs. stands_in c.args.place (get_or cs c.args.taken corner) c.args.g.now) c.cells.ensures.value in
    let falls : falls_on N C c.args.g.now c.args.place ≡ false = elim c.if-stands_in.branch [
      | glues_at-then-stands_in+else-glues w ↦ and_none (stands_in c.args.place C c.args.g.now) (N (c.args.place + 1) c.args.g.now) (sym w.glues.ensures.value ∙ w.if-glues.false)
      | glues_at-else-stands_in w ↦ rw (sym at ∙ w.if-stands_in.false) refl
    ] in
    sym (neither (falls_on N C c.args.g.now c.args.place) (joins_at O N C c.args.g.now c.args.place) falls none)

pub reaches-returns-then-list-requirements-clause-value : goal.reaches-returns-then-list-requirements-clause-value
reaches-returns-then-list-requirements-clause-value t c = c.is_reached.ensures.value ∙ sym (reaches-end c.args.tiling.now c.args.tiling.now.requirements c.args.list c.args.g.now (omega (arith, ap (λ s. length s) c.requirements.ensures.value)))

pub reaches-returns-then-holds_one-clause-value : goal.reaches-returns-then-holds_one-clause-value
reaches-returns-then-holds_one-clause-value t c =
    let listed = still-there c.requirements-2.result.now c.args.tiling.now.requirements c.args.list c.index-requirements-list.result c.as_slice-patterns.result.now c.requirements-2.ensures.value c.index-requirements-list.is c.as_slice-patterns.ensures in
    let inside : c.args.list < length c.args.tiling.now.requirements = omega (arith, ap (λ s. length s) c.requirements.ensures.value) in
    c.reaches.ensures.value ∙ sym (reaches-step c.args.tiling.now c.args.tiling.now.requirements c.args.list c.as_slice-patterns.result.now c.args.g.now inside listed ∙ rw (sym c.holds_one.ensures ∙ c.if-holds_one.true) refl)

pub reaches-glues-requires : goal.reaches-glues-requires
reaches-glues-requires t c =
    let listed = still-there c.requirements-2.result.now c.args.tiling.now.requirements c.args.list c.index-requirements-list.result c.as_slice-patterns.result.now c.requirements-2.ensures.value c.index-requirements-list.is c.as_slice-patterns.ensures in
    let inside : c.args.list < length c.args.tiling.now.requirements = omega (arith, ap (λ s. length s) c.requirements.ensures.value) in
    let sum = weight-step c.args.tiling.now.requirements c.args.list c.as_slice-patterns.result.now inside listed in
    let small = longest-at c.as_slice-patterns.result.now c.loop-pattern.pattern-index c.pattern-item.result c.loop-pattern-test.true c.pattern-item.is in
    (search rules, (c.requires.indexed, (c.requires.avoids, (omega arith, (omega arith, (omega arith, omega arith))))))

pub reaches-returns-then-glues-clause-value : goal.reaches-returns-then-glues-clause-value
reaches-returns-then-glues-clause-value t c =
    let listed = still-there c.requirements-2.result.now c.args.tiling.now.requirements c.args.list c.index-requirements-list.result c.as_slice-patterns.result.now c.requirements-2.ensures.value c.index-requirements-list.is c.as_slice-patterns.ensures in
    let inside : c.args.list < length c.args.tiling.now.requirements = omega (arith, ap (λ s. length s) c.requirements.ensures.value) in
    let G : List Point → Bool = λ p. glues c.args.tiling.now.obstructions p (λ h. reaches c.args.tiling.now (drop (c.args.list + 1) c.args.tiling.now.requirements) h) (cells_of p) 0 c.args.g.now in
    let here : G (get_or c.as_slice-patterns.result.now c.loop-pattern.pattern-index c.pattern-item.result) ≡ true = rw (sym c.pattern-item.is) (sym c.glues.ensures.value ∙ c.if-glues.true) in
    sym (reaches-step c.args.tiling.now c.args.tiling.now.requirements c.args.list c.as_slice-patterns.result.now c.args.g.now inside listed ∙ rw (sym c.holds_one.ensures ∙ c.if-holds_one.false) (list_any_at G c.as_slice-patterns.result.now c.loop-pattern.pattern-index c.pattern-item.result c.loop-pattern-test.true here))

pub reaches-returns-clause-value : goal.reaches-returns-clause-value
reaches-returns-clause-value t c =
    let listed = still-there c.requirements-2.result.now c.args.tiling.now.requirements c.args.list c.index-requirements-list.result c.as_slice-patterns.result.now c.requirements-2.ensures.value c.index-requirements-list.is c.as_slice-patterns.ensures in
    let inside : c.args.list < length c.args.tiling.now.requirements = omega (arith, ap (λ s. length s) c.requirements.ensures.value) in
    let done = take_all c.loop-pattern.pattern-index c.as_slice-patterns.result.now (omega arith) in
    sym (reaches-step c.args.tiling.now c.args.tiling.now.requirements c.args.list c.as_slice-patterns.result.now c.args.g.now inside listed ∙ rw (sym c.holds_one.ensures ∙ c.if-holds_one.false) (rw done at c.loop-pattern.invariant))
