-- `book::put_fragments` meets its contract: the loop has stored the cells of the fragments passed. Assumes nothing.
use Rattle.std.proofs.Common.{◌≡◌, ap, ◌∙◌, List, ℕ, ◌+◌, ◌*◌, ◌<◌, get_or, arith}
use Rattle.tables.specs.Words.{round_in, count_in}
use Rattle.tables.proofs.Bounds.{round-small, count_small}
use Rattle.cells.specs.Making.{shared_cell}
use Rattle.cells.proofs.CellBounds.{shared-small}
use Rattle.book.specs.Tables.{in_turn, put_cell, put_fragment}
use Rattle.book.proofs.Steps.{all_made, turn_more}
use Rattle.book.proofs.put_fragments.Goals as goal

one : (fragments ranges : List ℕ) (head r f : ℕ) (table : List ℕ) {table' : List ℕ} {shared count : ℕ} → count ≡ count_in (get_or fragments (16 * r + f) 0)
    → shared ≡ shared_cell head (get_or fragments (16 * r + f) 0) f → table' ≡ in_turn (put_cell ranges r (16 * r + f) shared) count table → table' ≡ put_fragment fragments ranges head r table f
unfolding put_fragment
one fragments ranges head r f table ec es e = e ∙ rw (es, ec)

fits : (head word f : ℕ) {shared : ℕ} → f < round_in head → shared ≡ shared_cell head word f → shared < 4194304
fits head word f h e = rw e (shared-small head word f h)

pub overflow_add-k : goal.overflow_add-k
overflow_add-k c = omega (arith, c.fragments_in_round-all.ensures, round-small c.args.head)

pub bounds-rules-k : goal.bounds-rules-k
bounds-rules-k c = omega (arith, c.fragments_in_round-all.ensures, round-small c.args.head)

pub shared-requires : goal.shared-requires
shared-requires c = omega (arith, c.fragments_in_round-all.ensures)

pub put_ranges-requires : goal.put_ranges-requires
put_ranges-requires c =
    let few : c.loop-f.f < round_in c.args.head = omega (arith, c.fragments_in_round-all.ensures) in (
      omega arith,
      omega (arith, few, round-small c.args.head),
      fits c.args.head _ _ few c.shared.ensures,
      omega (arith, c.ranges_in-count.ensures, count_small (get_or c.args.rules.now.fragments (16 * c.args.r + c.loop-f.f) 0)),
    )

pub loop-f-preserved : goal.loop-f-preserved
loop-f-preserved c =
    let t = c.args.rules.now in
    turn_more (put_fragment t.fragments t.ranges c.args.head c.args.r) c.args.table.now c.loop-f.f c.loop-f.invariant
    (one t.fragments t.ranges c.args.head c.args.r c.loop-f.f c.loop-f.table c.ranges_in-count.ensures c.shared.ensures c.put_ranges.ensures)

pub returns : goal.returns
returns c =
    let made = λ (n : ℕ). in_turn (put_fragment c.args.rules.now.fragments c.args.rules.now.ranges c.args.head c.args.r) n c.args.table.now in
    all_made made {i = c.loop-f.f} (omega arith) (omega arith) c.loop-f.invariant ∙ ap made c.fragments_in_round-all.ensures
