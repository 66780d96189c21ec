-- Some record of the walk is the one sought.
use Rattle.std.proofs.Common.{rules, tests, sym, ◌∙◌}
use Rattle.std.proofs.Math.Dec.{eqb}
use Rattle.std.proofs.lemmas.Iterator.Consumers.{YieldsList-from_first}
use Rattle.std.proofs.lemmas.Iterator.Search.{any_from_yields_List}
use Rattle.rules.specs.Tree.{path_of}
use Rattle.paths.specs.Onward.{onward}
use Rattle.paths.proofs.Searches.{among_any}
use Rattle.paths.proofs.on_path.Goals as goal

pub returns : goal.returns
returns c =
    let s = c.args in
    any_from_yields_List (λ j. eqb s.a j) c.any.new.self _ _ c.any.ensures.ran
    (YieldsList-from_first (λ x. x) onward (path_of s.records.now s.steps s.i) c.path_of.ensures.meets)
    (λ x b q k. (search (rules, tests), search (rules, tests)))
    ∙ sym (among_any s.a (path_of s.records.now s.steps s.i))
