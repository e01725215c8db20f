-- `recogniser::is_shuffled` meets its contract: the question is digit 1 of a join's number. Assumes nothing.
use mathlib.Core.Path.{sym}
use Rattle.recogniser.proofs.Numbers.{shuffled-is}
use Rattle.recogniser.proofs.is_shuffled.Goals as goal

pub returns : goal.returns
returns c = sym (shuffled-is c.args.join)
