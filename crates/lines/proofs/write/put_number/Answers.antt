-- The digits of the rest, laid over what is written so far, make the whole number.
use native.Mathlib.Omega.{arith}
use mathlib.Core.Path.{sym, ◌∙◌}
use lib.ListN.{length-set}
use Rattle.lines.proofs.Digits.{digits_longer}
use Rattle.lines.proofs.Laid.{digit_laid}
use Rattle.lines.proofs.write.put_number.Goals as goal

pub loop-rest-preserved : goal.loop-rest-preserved
loop-rest-preserved c =
    let at = c.loop-rest in (
      omega (arith, digits_longer at.rest (omega arith)),
      omega arith,
      simp length-set at.invariant.2,
      sym (digit_laid at.rest c.args.at at.place at.out at.invariant.0 c.loop-rest-test.true) ∙ at.invariant.3,
    )
