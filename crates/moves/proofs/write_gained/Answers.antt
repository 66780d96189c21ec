-- What is written for the whole walk is what is written, from the present place on, for the part that it has before it.
use Rattle.moves.proofs.Written.{written_none}
use Rattle.moves.proofs.write_gained.Goals as goal

pub returns-then-j-stop : goal.returns-then-j-stop
returns-then-j-stop c = search (written_none, c.loop-j.invariant.1, c.in-Some.ensures.steps, c.then-j-stop.either)
