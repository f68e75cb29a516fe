-- The words of a record's children.
use Rattle.std.specs.Prelude.{ℕ, ◌+◌, ◌*◌, cond, List, map}
use Rattle.css_domain.specs.declared.record.Record.{Record}

abbrev pub child_words : Record → List ℕ
child_words r = map (λ child. 2 * child.0 + cond child.1 1 0) r.children
