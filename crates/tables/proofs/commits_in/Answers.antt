-- The records that pass the filter are the commits.
use mathlib.Core.Path.{sym, ◌∙◌}
use Rattle.std.proofs.Common.{rules}
use Rattle.std.proofs.lemmas.Iterator.{YieldsList-from_slice}
use Rattle.std.proofs.lemmas.Iterator.Consumers.{YieldsList-from_filter, YieldsList-at, count_from_yields_List}
use Rattle.rules.specs.Records.{blank, is_commit}
use Rattle.rules.proofs.Lists.{count_filter}
use Rattle.tables.specs.Table.{commits_in}
use Rattle.tables.proofs.commits_in.Goals as goal

pub returns : goal.returns
unfolding commits_in
returns c =
    let s = c.args in
    count_from_yields_List c.filter.result _ c.count.ensures.ran
    (YieldsList-from_filter _ (λ r. is_commit r)
    (YieldsList-at c.filter.ensures.source (YieldsList-from_slice s.records.now cc))
    c.filter.ensures.closure
    (λ x b q k. search rules))
    ∙ sym (count_filter blank (λ r. is_commit r) s.records.now)
