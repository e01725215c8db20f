-- `recogniser::may_be_left_out` meets its contract: the question is digit 0 of a join's number. Assumes nothing.
use mathlib.Core.Path.{sym}
use Rattle.recogniser.proofs.Numbers.{left-out-is}
use Rattle.recogniser.proofs.may_be_left_out.Goals as goal

pub returns : goal.returns
returns c = sym (left-out-is c.args.join)
