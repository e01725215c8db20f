-- `rule_player::Ranges::at` meets its contract. The loop's invariant: below i the names and the cells are those of the places. Assumes nothing.
use native.Mathlib.Omega.{arith}
use Rattle.rule_player.proofs.Said.{all-listed}
use Rattle.rule_player.proofs.Ranges.at.Goals as goal

pub returns : goal.returns
returns c =
    let l = c.loop-i in
    let (names, cells, named, held) = l.invariant in
    let end-names = all-listed _ l.names 8 names (λ k h. named k (omega (arith, h))) in
    let end-cells = all-listed _ l.cells 8 cells (λ k h. held k (omega (arith, h))) in
    λ i. record { names = end-names i; cells = end-cells i }
