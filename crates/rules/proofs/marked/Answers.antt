-- `rules::marked` meets its contract: the shift and the `or` set the bits of rule r. Assumes nothing.
use Rattle.rules.proofs.Passing.{marks-or}
use Rattle.rules.proofs.marked.Goals as goal

pub returns : goal.returns
returns c =
    let a = c.args in marks-or a.all a.r a.standing c.requires (rw c.marks.ensures)
