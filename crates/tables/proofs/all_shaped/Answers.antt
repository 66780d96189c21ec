-- Every record with its number is record 0 or well shaped.
use mathlib.Core.Path.{sym, ◌∙◌}
use mathlib.Core.Bool.{◌||◌}
use lib.Dec.{eqb}
use Rattle.std.proofs.Common.{rules, tests}
use Rattle.std.proofs.lemmas.Iterator.{YieldsList-from_slice}
use Rattle.std.proofs.lemmas.Iterator.Consumers.{YieldsList-from_enumerate, YieldsList-at}
use Rattle.std.proofs.lemmas.Iterator.Search.{all_from_yields_List}
use Rattle.rules.specs.Records.{blank}
use Rattle.rules.specs.State.{shaped, all_shaped}
use Rattle.rules.proofs.Lists.{every_numbered}
use Rattle.tables.proofs.all_shaped.Goals as goal

pub returns : goal.returns
unfolding all_shaped
returns c =
    let s = c.args in
    all_from_yields_List (λ q. eqb q.0 0 || shaped s.records.now q.1) _ _ _ c.all.ensures.ran
    (YieldsList-from_enumerate (YieldsList-at c.enumerate.ensures.source (YieldsList-from_slice s.records.now cc)) c.enumerate.ensures.count)
    (λ x b q k. search (rules, tests))
    ∙ sym (every_numbered blank (λ i r. eqb i 0 || shaped s.records.now r) s.records.now)
