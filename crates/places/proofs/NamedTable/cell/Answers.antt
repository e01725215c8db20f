-- `places::NamedTable::cell` meets its contract: a place's name is at most 64, so its cell is in the table. Assumes nothing.
use native.Mathlib.Omega.{arith}
use Rattle.tables.proofs.Names.{name-few}
use Rattle.places.proofs.NamedTable.cell.Goals as goal

pub bounds-self-inside-r : goal.bounds-self-inside-r
bounds-self-inside-r c = let s = c.args in omega (arith, c.name-n.ensures, name-few s.self.now s.r s.f s.i)
