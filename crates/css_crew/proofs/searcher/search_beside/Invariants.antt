use Rattle.std.proofs.Common.{◌≡◌}
use mathlib.Core.List.{IsPrefix}
use Rattle.css_domain.specs.Records.{words_of}
use Rattle.css_crew.proofs.searcher.search_beside.Given as goal

-- the records are those of the first words of the copy
abbrev pub invariant-loop : goal.invariant-loop
invariant-loop g l = record { log : l.reader.log ≡ g.N.StoreName.log; taken : IsPrefix (words_of l.pruner) l.reader.copy }
