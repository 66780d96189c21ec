-- What `any` answers is that some record supersedes the target. A call leaves the closure as it was, and answers for its record.
use Rattle.std.proofs.Common.{rules, tests, sym, ◌∙◌}
use Rattle.std.proofs.lemmas.Iterator.{YieldsList-from_slice}
use Rattle.std.proofs.lemmas.Iterator.Search.{any_from_yields_List}
use Rattle.rules.specs.declared.Record.{Record}
use Rattle.rules.specs.Records.{blank}
use Rattle.rules.specs.Proposals.{supersedes, superseded}
use Rattle.rules.proofs.Lists.{some_any}
use Rattle.searches.proofs.superseded.Goals as goal

pub returns : goal.returns
unfolding superseded
returns c =
    let s = c.args in
    let wanted = λ (r : Record). supersedes r s.caller s.t in
    any_from_yields_List wanted _ _ _ c.any.ensures.ran (YieldsList-from_slice s.records.now cc)
    (λ x b q k. (search (rules, tests), search rules))
    ∙ sym (some_any blank wanted s.records.now)
