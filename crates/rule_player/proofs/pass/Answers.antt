-- `rule_player::pass` meets its contract. The loop's invariant is `Passing`: it stands where the definition does; records and fragments left get fewer. Assumes nothing.
use mathlib.Core.Path.{◌∙◌, ap}
use mathlib.Core.List.{List}
use Prim.Native.Nat.{ℕ}
use native.Mathlib.Numerals.{add-one}
use native.Mathlib.Omega.{arith}
use lib.ListN.{get_or}
use Rattle.tables.specs.Words.{round_in}
use Rattle.tables.specs.Cells.{head_at}
use Rattle.tables.proofs.Bounds.{round-small}
use Rattle.rule_player.specs.Said.{ranges_at}
use Rattle.rule_player.proofs.Passing.{taken_is, passing-start, passing-end, inside, passing-longer, passing-name, passing-leave}
use borrow.Author.Rules.{rules}
use Rattle.rule_player.proofs.pass.Goals as goal

pub loop-f-init : goal.loop-f-init
loop-f-init c =
    let s = c.args in
    let head = c.fragments_in_round-fragments.ensures ∙ ap (λ (t : List ℕ). round_in (get_or t (head_at s.r) 0)) c.table.ensures in (
      head,
      rw head (round-small _),
      c.room_in-room.ensures,
      search rules,
      rw (c.new-turn.ensures.0, c.new-turn.ensures.1) (passing-start s.places.now s.r s.time s.choice.now s.writes s.out.now),
    )

pub returns-then-n-room : goal.returns-then-n-room
returns-then-n-room c =
    let p = c.loop-f.invariant.4 in
    let i = c.in-Name.i in
    let step = taken_is _ _ _ _ _ _ p c.step_by-step.ensures c.byte_at.ensures c.in-Name.is in
    passing-longer _ _ _ _ _ _ p (omega (arith, c.loop-f-test.true, c.loop-f.invariant.0)) i step (omega (arith, c.if-n-room.true, c.loop-f.invariant.2))

pub bounds-turn-i : goal.bounds-turn-i
bounds-turn-i c =
    let p = c.loop-f.invariant.4 in
    let i = c.in-Name.i in
    let step = taken_is _ _ _ _ _ _ p c.step_by-step.ensures c.byte_at.ensures c.in-Name.is in
    omega (arith, inside _ _ _ _ _ _ p (omega (arith, c.loop-f-test.true, c.loop-f.invariant.0)) i step)

pub take-requires : goal.take-requires
take-requires c =
    let p = c.loop-f.invariant.4 in
    let i = c.in-Name.i in
    let step = taken_is _ _ _ _ _ _ p c.step_by-step.ensures c.byte_at.ensures c.in-Name.is in
    let within = inside _ _ _ _ _ _ p (omega (arith, c.loop-f-test.true, c.loop-f.invariant.0)) i step in
    (within, omega (arith, p.bound i, p.few, c.loop-f.invariant.2, c.loop-f.invariant.3))

pub loop-f-preserved-in-Name : goal.loop-f-preserved-in-Name
loop-f-preserved-in-Name c =
    let p = c.loop-f.invariant.4 in
    let i = c.in-Name.i in
    let step = taken_is _ _ _ _ _ _ p c.step_by-step.ensures c.byte_at.ensures c.in-Name.is in
    let put = c.put_record.ensures in
    let more = passing-name _ _ _ _ _ _ p (omega (arith, c.loop-f-test.true, c.loop-f.invariant.0)) i step
    (omega (arith, p.few, c.loop-f.invariant.2, c.if-n-room.false)) in
    let (a, b, d, e, q) = c.loop-f.invariant in
    (a, b, d, e, rw (add-one, c.take.ensures.0, c.take.ensures.1, put) more)

pub loop-f-preserved : goal.loop-f-preserved
loop-f-preserved c =
    let p = c.loop-f.invariant.4 in
    let s = c.args in
    let step = taken_is _ _ _ _ _ _ p c.step_by-step.ensures c.byte_at.ensures c.in-Leave.is in
    let (a, b, d, e, q) = c.loop-f.invariant in
    let there = passing-leave _ _ _ _ _ _ p (omega (arith, c.loop-f-test.true, a)) step in
    (a, b, d, e, rw (add-one, c.new-turn-in-Leave.ensures.0, c.new-turn-in-Leave.ensures.1) (there (λ h. ap (ranges_at s.places.now s.r) (omega (arith, h, a, b)))))

pub returns : goal.returns
returns c = passing-end _ _ _ _ _ _ c.loop-f.invariant.4 (omega (arith, c.loop-f-test.false, c.loop-f.invariant.0))
