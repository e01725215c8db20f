-- `book::book_of` meets its contract: the sets, the masks, the rules, then version and outputs. Assumes nothing.
use Rattle.std.proofs.Common.{◌≡◌, ap, ◌∙◌, List, ℕ, replicate, arith}
use lib.ListN.{set}
use Rattle.tables.specs.Words.{cap}
use Rattle.tables.specs.Cells.{version_at, outputs_at, table_length}
use Rattle.tables.proofs.Bounds.{cap-small}
use Rattle.book.specs.Tables.{stored, in_turn, name_table, rule_table, mask_of, put_rule, rules_of}
use Rattle.book.proofs.book_of.Goals as goal

made : (heads fragments ranges : List ℕ) (count : ℕ) {n : ℕ} {names sets masks table : List ℕ} → n ≡ cap 16 count → names ≡ name_table fragments ranges → sets ≡ rule_table heads names
    → masks ≡ stored (λ m. mask_of sets m n) 64 (replicate table_length 0) → table ≡ in_turn (put_rule heads fragments ranges) n masks → table ≡ rules_of heads fragments ranges count
unfolding rules_of
made heads fragments ranges count en ea es em et = et ∙ rw (em, es, ea, en)

pub put_masks-requires : goal.put_masks-requires
put_masks-requires c = omega (arith, c.few-n.ensures, cap-small 16 c.args.pages.now.count)

pub put_rules-requires : goal.put_rules-requires
put_rules-requires c = omega (arith, c.few-n.ensures, cap-small 16 c.args.pages.now.count)

pub returns : goal.returns
returns c =
    let p = c.args.pages.now in
    let t = p.tables in
    ap (λ (rules : List ℕ). record { table = set (set rules version_at p.version) outputs_at p.outputs })
    (made t.heads t.fragments t.ranges p.count c.few-n.ensures c.name_table-names.ensures c.rule_table-sets.ensures c.put_masks.ensures c.put_rules.ensures)
