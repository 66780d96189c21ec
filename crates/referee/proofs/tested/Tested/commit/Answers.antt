-- The log has a place for what it gains, and what the struct shows afterwards is what rules make of the table.
use Rattle.std.proofs.Common.{◌≡◌, arith, sym, ap, ◌∙◌, length}
use Rattle.std.proofs.lemmas.Grind.{common_steps}
use Rattle.rules.specs.Tree.{number_of, on_path}
use Rattle.paths.proofs.Whole.{among_whole}
use Rattle.referee.proofs.Commits.{fits, seen_commit}
use Rattle.referee.proofs.tested.Tested.commit.Goals as goal

pub gained-requires : goal.gained-requires
gained-requires c =
    let w = c.args.self in
    let latest = c.number_of-last.ensures ∙ ap number_of c.last_commit.ensures in
    let on = ap (on_path w.records.now c.number_of-last.result) (sym c.from.ensures) ∙ sym (among_whole w.records.now c.number_of-last.result c.from.result) ∙ sym c.on_path.ensures ∙ c.if-not-on_path.false in
    record { fits = fits w.table.now w.sound w.places w.pages w.records.now w.in_use c.args.target c.number_of-last.result c.requires.target_known latest on }

pub returns : goal.returns
returns c =
    let w = c.args.self in
    let a = c.args in
    let latest = c.number_of-last.ensures ∙ ap number_of c.last_commit.ensures in
    let on = ap (on_path w.records.now c.number_of-last.result) (sym c.from.ensures) ∙ sym (among_whole w.records.now c.number_of-last.result c.from.result) ∙ sym c.on_path.ensures ∙ c.if-not-on_path.false in
    let n : c.in_ok-n.n ≡ length w.records.now = grind (arith, common_steps) in
    let whole = seen_commit w.table.now w.sound w.places w.pages w.records.now w.in_use a.target c.number_of-last.result c.requires.target_known latest on a.t a.caller a.voters c.in_ok-n.n n in
    rw (c.add.ensures, c.voted.ensures, c.adopted.ensures, c.gained.ensures) whole
