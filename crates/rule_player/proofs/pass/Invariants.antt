-- `rule_player::pass` meets its contract. The loop's invariant is `Passing`: it stands where the definition does; records and fragments left get fewer. Assumes nothing.
use mathlib.Core.Path.{◌≡◌}
use Prim.Native.Nat.{◌+◌, ◌-◌, ◌/◌, ◌≤◌, ◌<◌}
use lib.ListN.{length}
use Rattle.rule_player.proofs.Passing.{fragment_count, Passing}
use Rattle.rule_player.proofs.pass.Given as goal

abbrev pub invariant-loop-f : goal.invariant-loop-f
invariant-loop-f l =
    (l.fragments ≡ fragment_count l.places l.r l.time l.choice l.writes l.initial.out) × (l.fragments ≤ 16) × (l.room ≡ length l.initial.out / 5) × (l.room < 4000000000000000000)
    × Passing l.places l.r l.time l.choice l.writes l.initial.out l.n l.f l.turn.ranges l.turn.filling l.out

abbrev pub decreases-loop-f : goal.decreases-loop-f
decreases-loop-f l = (l.room - l.n) + (l.fragments - l.f)
