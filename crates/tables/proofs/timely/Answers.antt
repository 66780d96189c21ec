-- Each clock is at least the record's time, or is that of a node which the record doesn't concern.
use mathlib.Core.Path.{sym, ◌∙◌}
use mathlib.Core.Bool.{not, ◌||◌}
use lib.Dec.{leb}
use Rattle.std.proofs.Common.{rules, tests}
use Rattle.std.proofs.lemmas.Iterator.{YieldsList-from_slice}
use Rattle.std.proofs.lemmas.Iterator.Consumers.{YieldsList-from_enumerate, YieldsList-at}
use Rattle.std.proofs.lemmas.Iterator.Search.{all_from_yields_List}
use Rattle.tables.specs.Table.{concerns}
use Rattle.tables.proofs.Clauses.{timely_by}
use Rattle.tables.proofs.timely.Goals as goal

pub returns : goal.returns
returns c =
    let s = c.args in
    all_from_yields_List (λ q. leb s.r.time q.1 || not (concerns s.i s.r q.0)) _ _ _ c.all.ensures.ran
    (YieldsList-from_enumerate (YieldsList-at c.enumerate.ensures.source (YieldsList-from_slice s.clocks cc)) c.enumerate.ensures.count)
    (λ x b q k. search (rules, tests))
    ∙ sym (timely_by s.clocks s.i s.r (search rules))
