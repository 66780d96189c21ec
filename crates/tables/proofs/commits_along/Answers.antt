-- The numbers that pass the filter are those of the commits on the path, which has no more records than there are.
use native.Mathlib.Omega.{arith}
use mathlib.Core.Path.{◌≡◌, ap, ◌∙◌}
use mathlib.Core.Logic.{inl}
use lib.ListN.{length}
use Rattle.std.proofs.Common.{rules}
use Rattle.std.proofs.lemmas.Iterator.Consumers.{YieldsList-from_first, YieldsList-from_filter, YieldsList-at, count_from_yields_List}
use Rattle.std.specs.Iterator.Adapters.{filter_source}
use Rattle.rules.specs.Records.{at, is_commit}
use Rattle.rules.specs.Tree.{path}
use Rattle.rules.proofs.Lists.{path_few}
use Rattle.paths.specs.Onward.{onward}
use Rattle.tables.proofs.Branch.{commits_filter}
use Rattle.tables.proofs.commits_along.Goals as goal

pub count-requires-clause-fits : goal.count-requires-clause-fits
count-requires-clause-fits c =
    let s = c.args in
    let e : onward (filter_source c.filter.result) ≡ path s.records.now s.i = cc in
    inl (omega (arith, ap length e, path_few s.records.now s.i))

pub returns : goal.returns
returns c =
    let s = c.args in
    count_from_yields_List c.filter.result _ c.count.ensures.ran
    (YieldsList-from_filter _ (λ j. is_commit (at s.records.now j))
    (YieldsList-at c.filter.ensures.source (YieldsList-from_first (λ x. x) onward (path s.records.now s.i) c.path.ensures.meets))
    c.filter.ensures.closure
    (λ x b q k. search rules))
    ∙ commits_filter s.records.now (path s.records.now s.i)
