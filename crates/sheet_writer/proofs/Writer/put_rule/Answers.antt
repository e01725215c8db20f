-- `sheet_writer::Writer::put_rule` meets its contract. The loop's invariant: the fragments below f are put. Assumes nothing.
use mathlib.Core.Path.{◌≡◌, ap}
use mathlib.Core.List.{List}
use Prim.Native.Nat.{ℕ}
use native.Mathlib.Omega.{arith}
use lib.ListN.{get_or}
use Rattle.layout.specs.Layout.{le}
use Rattle.tables.specs.Cells.{head_at}
use Rattle.sheet_writer.specs.Parts.{fragment_part, fragment_count, rule_part}
use Rattle.sheet_writer.proofs.Lengths.{fragments-few, rule-length}
use Rattle.sheet_writer.proofs.Putting.{wrote-is, wrote-then, wrote-long, wrote-part, room-part}
use Rattle.sheet_writer.proofs.Writer.put_rule.Goals as goal

pub put-requires : goal.put-requires
put-requires c = let s = c.args in omega (arith, c.requires.1, rule-length s.places.now s.r)

pub put_fragment-requires : goal.put_fragment-requires
put_fragment-requires c =
    let s = c.args in
    let head : ℕ = get_or s.places.now (head_at s.r) 0 in
    let count : c.fragment_count-f-end.result ≡ fragment_count head = rw c.fragment_count-f-end.ensures (ap (λ (t : List ℕ). fragment_count (get_or t (head_at s.r) 0)) c.table.ensures) in
    let first = c.put.ensures in
    let room = room-part (fragment_part s.places.now s.r) c.loop-f.f c.loop-f.invariant (fragment_count head) (omega arith)
    (omega (arith, c.requires.1, rule-length s.places.now s.r, first.at, wrote-long first)) in
    (c.requires.0, omega (arith, fragments-few head), room)

pub loop-f-preserved : goal.loop-f-preserved
loop-f-preserved c =
    let s = c.args in
    wrote-part (fragment_part s.places.now s.r) c.loop-f.f c.loop-f.invariant c.put_fragment.ensures

pub returns : goal.returns
unfolding rule_part
returns c =
    let s = c.args in
    let head : c.table.result.now ≡ s.places.now = c.table.ensures in
    let count : c.fragment_count-f-end.result ≡ fragment_count (get_or s.places.now (head_at s.r) 0)
    = rw c.fragment_count-f-end.ensures (ap (λ (t : List ℕ). fragment_count (get_or t (head_at s.r) 0)) head) in
    let all : c.loop-f.f ≡ fragment_count (get_or s.places.now (head_at s.r) 0) = omega arith in
    wrote-then (wrote-is (ap (λ (t : List ℕ). le 8 (get_or t (head_at s.r) 0)) head) c.put.ensures) (rw all at c.loop-f.invariant)
