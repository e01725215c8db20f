-- `sheet_writer::Writer::put_fragment` meets its contract. The loop's invariant: the ranges below i are put. Assumes nothing.
use mathlib.Core.Path.{◌≡◌, ap, ap₂}
use Prim.Native.Nat.{ℕ, suc, ◌+◌}
use native.Mathlib.Omega.{arith}
use Rattle.layout.specs.Layout.{le, range_bytes}
use Rattle.tables.specs.Cells.{less_in}
use Rattle.places.specs.Places.{cell_of}
use Rattle.sheet_writer.specs.Parts.{join_field, range_in, range_part, fragment_part}
use Rattle.sheet_writer.proofs.Lengths.{ranges-length, fragment-length}
use Rattle.sheet_writer.proofs.Putting.{wrote-is, wrote-then, wrote-long, wrote-part}
use Rattle.sheet_writer.proofs.Writer.put_fragment.Goals as goal

pub put-requires : goal.put-requires
put-requires c = let s = c.args in omega (arith, c.requires.2, fragment-length s.places.now s.r s.f)

pub put-requires-2 : goal.put-requires-2
put-requires-2 c =
    let s = c.args in
    let first = c.put.ensures in
    omega (arith, c.requires.2, fragment-length s.places.now s.r s.f, first.at, wrote-long first)

pub put_range-requires : goal.put_range-requires
put_range-requires c =
    let s = c.args in
    let first = wrote-then c.put.ensures c.put-2.ensures in
    let below = c.loop-i.invariant in
    let size = fragment-length s.places.now s.r s.f in
    omega (arith, c.requires.2, size, first.at, wrote-long first, below.at, wrote-long below, ranges-length s.places.now s.r s.f c.loop-i.i, c.less_in.ensures, c.cell-first.ensures)

pub loop-i-preserved : goal.loop-i-preserved
unfolding range_part
loop-i-preserved c =
    let s = c.args in
    let e = ap₂ (λ (n d : ℕ). range_bytes (range_in n d)) c.name.ensures c.cell.ensures in
    wrote-part (range_part s.places.now s.r s.f) c.loop-i.i c.loop-i.invariant (wrote-is e c.put_range.ensures)

pub returns : goal.returns
unfolding fragment_part
returns c =
    let s = c.args in
    let first : ℕ = cell_of s.places.now s.r s.f 0 in
    let join : c.join_field.result ≡ join_field first = rw c.join_field.ensures (ap join_field c.cell-first.ensures) in
    let count : c.less_in.result + 1 ≡ suc (less_in first) = omega (arith, c.less_in.ensures, ap less_in c.cell-first.ensures) in
    let all : c.loop-i.i ≡ suc (less_in first) = omega arith in
    let parts = rw all at c.loop-i.invariant in
    wrote-then (wrote-is (ap (le 1) join) c.put.ensures) (wrote-then (wrote-is (ap (le 1) count) c.put-2.ensures) parts)
