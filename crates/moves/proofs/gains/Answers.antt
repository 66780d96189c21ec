-- The walk's numbers before the stop are counted where they are entries.
use Rattle.std.proofs.Common.{rules, tests, not, ap, ◌≡◌, length, inl, arith}
use Rattle.std.proofs.Math.Dec.{eqb}
use Rattle.std.proofs.lemmas.Iterator.Consumers.{YieldsList-from_first, YieldsList-from_filter, YieldsList-at, count_from_yields_List}
use Rattle.std.proofs.lemmas.Iterator.Search.{YieldsList-from_take_while}
use Rattle.std.specs.List.{filter, take_while}
use Rattle.std.specs.Iterator.Adapters.{filter_source, take_while_source}
use Rattle.rules.specs.Records.{at, is_entry}
use Rattle.rules.specs.Tree.{path_of}
use Rattle.paths.specs.Onward.{onward}
use Rattle.moves.proofs.Gained.{gained_filter}
use Rattle.rules.proofs.Lists.{steps_few}
use Rattle.moves.proofs.gains.Goals as goal

pub count-requires-clause-fits : goal.count-requires-clause-fits
count-requires-clause-fits c =
    let s = c.args in
    let e : onward (take_while_source (filter_source c.filter.result)) ≡ path_of s.records.now s.steps s.i = cc in
    inl (omega (arith, ap length e, steps_few s.records.now s.steps s.i))

pub returns : goal.returns
returns c =
    let s = c.args in
    let p = path_of s.records.now s.steps s.i in
    let counted : c.count.result ≡ length (filter (λ j. is_entry (at s.records.now j)) (take_while (λ j. not (eqb s.stop j)) p)) =
    count_from_yields_List _ _ c.count.ensures.ran
    (YieldsList-from_filter _ _
    (YieldsList-at c.filter.ensures.source
    (YieldsList-from_take_while _ _
    (YieldsList-at c.take_while.ensures.source (YieldsList-from_first (λ x. x) onward p c.path_of.ensures.meets))
    c.take_while.ensures.closure
    c.take_while.ensures.done
    (λ x b q k. search (rules, tests))))
    c.filter.ensures.closure
    (λ x b q k. search (rules, tests)))
    in
    search (gained_filter s.records.now s.stop p)
