-- `sheet_writer::rule_size` meets its contract. The loop's invariant: the size is that of the first f fragments, 42 bytes each at most. Assumes nothing.
use mathlib.Core.Path.{◌≡◌, refl, ap}
use mathlib.Core.List.{List}
use Prim.Native.Nat.{ℕ}
use native.Mathlib.Omega.{arith}
use lib.ListN.{get_or}
use Rattle.tables.specs.Cells.{less_in, head_at}
use Rattle.sheet_writer.specs.Parts.{fragment_part, fragment_count}
use Rattle.sheet_writer.proofs.Lengths.{up_to-next, fragments-few, fragment-length, rule-length}
use Rattle.sheet_writer.proofs.rule_size.Goals as goal

pub loop-f-init : goal.loop-f-init
loop-f-init c = (rw c.fragment_count-f-end.ensures (fragments-few _), refl, omega arith)

pub loop-f-preserved : goal.loop-f-preserved
loop-f-preserved c =
    let s = c.args in
    let size = fragment-length s.places.now s.r c.loop-f.f in
    let less = c.less_in.ensures in
    (omega arith, omega (arith, up_to-next (fragment_part s.places.now s.r) c.loop-f.f, size, less, ap less_in c.cell.ensures), omega arith)

pub returns : goal.returns
returns c =
    let s = c.args in
    let e = ap (λ (t : List ℕ). fragment_count (get_or t (head_at s.r) 0)) c.table.ensures in
    let all : c.loop-f.f ≡ fragment_count (get_or s.places.now (head_at s.r) 0) = omega (arith, c.fragment_count-f-end.ensures, e) in
    rw (rule-length s.places.now s.r, ← all) c.loop-f.invariant.1
