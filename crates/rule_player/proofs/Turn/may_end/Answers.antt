-- `rule_player::Turn::may_end` meets its contract. Assumes nothing.
use mathlib.Core.Path.{◌≡◌, sym, ◌∙◌}
use lib.ListN.{length}
use Rattle.pattern.specs.Meaning.{may_be_left_out}
use Rattle.rule_player.specs.Said.{fragment_by}
use Rattle.rule_player.proofs.Said.{size_is}
use Rattle.rule_player.proofs.Turn.may_end.Goals as goal

pub returns : goal.returns
returns c =
    let optional : c.may_be_left_out-optional.result ≡ may_be_left_out (fragment_by c.args.self.now.ranges).join = rw (c.may_be_left_out-optional.ensures, c.join_in.ensures) in
    let size : c.count.result ≡ length (fragment_by c.args.self.now.ranges).ranges = c.count.ensures ∙ sym (size_is c.args.self.now.ranges) in
    cc
