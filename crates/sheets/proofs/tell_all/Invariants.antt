-- `sheets::tell_all` ends: less of the input is left after each sheet. Assumes nothing.
use Rattle.std.proofs.Common.{length}
use Rattle.sheets.proofs.tell_all.Given as goal

abbrev pub decreases-loop-rest : goal.decreases-loop-rest
decreases-loop-rest g l = length l.rest
