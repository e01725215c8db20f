-- `book::put_rules` meets its contract: the loop has stored the heads and the cells of the rules passed. Assumes nothing.
use Rattle.std.proofs.Common.{◌≡◌, List, ℕ, get_or, arith}
use lib.ListN.{set}
use Rattle.tables.specs.Words.{round_in}
use Rattle.tables.specs.Cells.{head_at}
use Rattle.book.specs.Tables.{in_turn, put_fragment, put_rule}
use Rattle.book.proofs.Steps.{all_made, turn_more}
use Rattle.book.proofs.put_rules.Goals as goal

one : (heads fragments ranges : List ℕ) (r : ℕ) (table : List ℕ) {table' : List ℕ}
    → table' ≡ in_turn (put_fragment fragments ranges (get_or heads r 0) r) (round_in (get_or heads r 0)) (set table (head_at r) (get_or heads r 0)) → table' ≡ put_rule heads fragments ranges table r
unfolding put_rule
one heads fragments ranges r table e = e

pub loop-r-preserved : goal.loop-r-preserved
loop-r-preserved c =
    let t = c.args.rules.now in
    turn_more (put_rule t.heads t.fragments t.ranges) c.args.table.now c.loop-r.r c.loop-r.invariant
    (one t.heads t.fragments t.ranges c.loop-r.r c.loop-r.table c.put_fragments.ensures)

pub returns : goal.returns
returns c =
    all_made (λ n. in_turn (put_rule c.args.rules.now.heads c.args.rules.now.fragments c.args.rules.now.ranges) n c.args.table.now) {i = c.loop-r.r} {n = c.args.count} (omega arith) (omega arith) c.loop-r.invariant
