-- Some record of the walk is a commit of the time.
use Rattle.std.proofs.Common.{rules, tests, ◌&&◌, sym, ap, ◌∙◌}
use Rattle.std.proofs.Math.Dec.{eqb}
use Rattle.std.proofs.lemmas.Iterator.{YieldsList-from_map}
use Rattle.std.proofs.lemmas.Iterator.Consumers.{YieldsList-from_first}
use Rattle.std.proofs.lemmas.Iterator.Search.{any_from_yields_List}
use Rattle.rules.specs.Records.{at, is_commit}
use Rattle.rules.specs.Tree.{path_of}
use Rattle.paths.specs.Onward.{onward}
use Rattle.paths.proofs.Searches.{commit_any}
use Rattle.paths.proofs.commit_of_time.Goals as goal

pub returns : goal.returns
returns c =
    let s = c.args in
    any_from_yields_List (λ r. is_commit r && eqb r.time s.time) c.any.new.self _ _ c.any.ensures.ran
    (YieldsList-from_map _ (λ j. at s.records.now j)
    (YieldsList-from_first (λ x. x) onward (path_of s.records.now s.steps s.i) (ap onward c.map.ensures.source ∙ c.path_of.ensures.meets))
    c.map.ensures.closure
    (λ x r q k. search rules))
    (λ x b q k. (search (rules, tests), search (rules, tests)))
    ∙ sym (commit_any s.records.now s.time (path_of s.records.now s.steps s.i))
