-- The entries met on the way up are compared with the log's numbers from the last on.
use mathlib.Core.Path.{◌≡◌, sym, ap₂, ◌∙◌}
use mathlib.Core.List.{reverse}
use Rattle.std.proofs.Common.{rules, eqb}
use Rattle.std.proofs.lemmas.List.{map-id}
use Rattle.std.proofs.lemmas.Iterator.{YieldsList-from_map}
use Rattle.std.proofs.lemmas.Iterator.Adapters.{YieldsList-from_rev_slice}
use Rattle.std.proofs.lemmas.Iterator.Consumers.{YieldsList-from_first, YieldsList-from_filter, YieldsList-at}
use Rattle.std.specs.Cmp.Lexicographic.{pointwise}
use Rattle.rules.specs.Records.{at, is_entry}
use Rattle.rules.specs.Tree.{path}
use Rattle.rules.specs.State.{entries}
use Rattle.rules.proofs.Lists.{entries_filter}
use Rattle.paths.specs.Onward.{onward}
use Rattle.tables.proofs.Compared.{eq_from_yields_List}
use Rattle.tables.proofs.Matching.{read_back}
use Rattle.tables.proofs.log_along.Goals as goal

pub returns : goal.returns
returns c =
    let s = c.args in
    eq_from_yields_List (λ x y. y ≡ x) _ _ c.eq.ensures.ran
    (YieldsList-from_filter _ (λ j. is_entry (at s.records.now j))
    (YieldsList-at c.filter.ensures.source (YieldsList-from_first (λ x. x) onward (path s.records.now s.i) c.path.ensures.meets))
    c.filter.ensures.closure
    (λ x b q k. search rules))
    (λ it e. YieldsList-at e
    (YieldsList-from_map _ (λ n. n)
    (YieldsList-at c.map.ensures.source (YieldsList-from_rev_slice s.log.now (search rules)))
    c.map.ensures.closure
    (λ x r q k. search rules)))
    ∙ ap₂ (pointwise eqb) (sym (entries_filter s.records.now (path s.records.now s.i))) (map-id (reverse s.log.now))
    ∙ read_back s.log.now (entries s.records.now (path s.records.now s.i))
