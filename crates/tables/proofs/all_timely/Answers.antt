-- Every record with its number is timely.
use mathlib.Core.Path.{sym, ◌∙◌}
use Rattle.std.proofs.Common.{rules}
use Rattle.std.proofs.lemmas.Iterator.{YieldsList-from_slice}
use Rattle.std.proofs.lemmas.Iterator.Consumers.{YieldsList-from_enumerate, YieldsList-at}
use Rattle.std.proofs.lemmas.Iterator.Search.{all_from_yields_List}
use Rattle.rules.specs.Records.{blank}
use Rattle.rules.specs.State.{timely, all_timely}
use Rattle.rules.proofs.Lists.{every_numbered}
use Rattle.tables.proofs.all_timely.Goals as goal

pub returns : goal.returns
unfolding all_timely
returns c =
    let s = c.args in
    all_from_yields_List (λ q. timely s.clocks q.0 q.1) _ _ _ c.all.ensures.ran
    (YieldsList-from_enumerate (YieldsList-at c.enumerate.ensures.source (YieldsList-from_slice s.records.now cc)) c.enumerate.ensures.count)
    (λ x b q k. search rules)
    ∙ sym (every_numbered blank (λ i r. timely s.clocks i r) s.records.now)
