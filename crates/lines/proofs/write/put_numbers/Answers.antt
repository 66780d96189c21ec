-- The numbers that are left, laid over what is written so far, make them all.
use native.Mathlib.Omega.{arith}
use mathlib.Core.Path.{◌∙◌}
use Rattle.lines.proofs.Printed.{number_put}
use Rattle.lines.proofs.write.put_numbers.Goals as goal

pub loop-n-preserved : goal.loop-n-preserved
loop-n-preserved c =
    let now = c.loop-n in
    let p = c.put_number-place in
    let put = number_put c.args.numbers.now now.n-index now.place now.out p.new.out p.result (omega arith) (omega arith) (rw c.from.ensures at p.ensures) in
    (put.0 ∙ now.invariant.0, now.invariant.1, put.1 ∙ now.invariant.2, put.2 ∙ now.invariant.3)
