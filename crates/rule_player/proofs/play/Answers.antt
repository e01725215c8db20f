-- `rule_player::play` meets its contract: the first pass writes nothing, and the second is over the same round. Assumes nothing.
use mathlib.Core.Path.{◌≡◌, sym, ◌∙◌}
use mathlib.Core.Bool.{true}
use Rattle.rule_player.proofs.Playing.{of-sixteen, plays-none, plays-longer, plays-all}
use Rattle.rule_player.proofs.play.Goals as goal

pub returns-then-not-has_rule : goal.returns-then-not-has_rule
returns-then-not-has_rule c = let s = c.args in plays-none s.table.now s.rule s.time s.choice.now s.out.now (sym c.has_rule.ensures ∙ c.if-not-has_rule.true)

pub pass-requires : goal.pass-requires
pass-requires c =
    let s = c.args in
    let gave : c.has_rule.result ≡ true = assumption in
    let has = sym c.has_rule.ensures ∙ gave in
    of-sixteen s.table.now s.rule s.time s.choice.now s.out.now has

pub pass-requires-2 : goal.pass-requires-2
pass-requires-2 c =
    let s = c.args in
    let gave : c.has_rule.result ≡ true = assumption in
    let has = sym c.has_rule.ensures ∙ gave in
    of-sixteen s.table.now s.rule s.time s.choice.now s.out.now has

pub returns-in_default : goal.returns-in_default
returns-in_default c =
    let s = c.args in
    let gave : c.has_rule.result ≡ true = assumption in
    let has = sym c.has_rule.ensures ∙ gave in
    plays-longer s.table.now s.rule s.time s.choice.now s.out.now has c.pass.result c.in_default.is (rw c.new-places.ensures at c.pass.ensures)

pub returns : goal.returns
returns c =
    let s = c.args in
    let gave : c.has_rule.result ≡ true = assumption in
    let has = sym c.has_rule.ensures ∙ gave in
    plays-all s.table.now s.rule s.time s.choice.now s.out.now has c.pass.result c.pass-2.result c.pass.new.out
    c.in-Some.is (rw c.new-places.ensures at c.pass.ensures) (rw c.new-places.ensures at c.pass-2.ensures)
