-- `rules::held` meets its contract: no rule steps, and the rules that are looked at are those whose deadline runs. Assumes nothing.
use Rattle.rules.proofs.Passing.{looks, none-step, all-without-none, none-and-all}
use Rattle.rules.proofs.held.Goals as goal

pub returns : goal.returns
returns c name was h =
    looks h (all-without-none _) c.all_waited-all.ensures (none-step _ _ name _ h) (none-and-all _) c.without.ensures c.told.ensures
