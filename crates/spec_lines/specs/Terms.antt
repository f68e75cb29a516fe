-- The line of terms.
use Rattle.std.specs.Prelude.{List, map, codes, decimal}
use Rattle.css_terms.specs.declared.term.Term.{Term}
use Rattle.css_terms.specs.declared.term.Term.TheVariants.{Exact, Big}
use Rattle.spec_lines.specs.Lines.{Text, line}

abbrev pub term_text : Term → Text
term_text (Exact n) = decimal n
term_text Big = codes "big"

abbrev pub terms_line : List Term → Text
terms_line terms = line (codes "terms") (map term_text terms)
