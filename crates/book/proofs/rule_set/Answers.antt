-- `book::rule_set` meets its contract: the names of a piece of the fragments, one after the other. Assumes nothing.
use Rattle.std.proofs.Common.{◌≡◌, sym, ap, ◌∙◌, ℕ, ◌+◌, ◌-◌, ◌*◌, ◌≤◌, length, get_or, take, drop, bit_or, rules, arith}
use Rattle.std.specs.List.{fold}
use Rattle.tables.proofs.Bounds.{round-small}
use Rattle.book.specs.Tables.{union_from, rule_set}
use Rattle.book.proofs.Steps.{union-folded}
use Rattle.book.proofs.rule_set.Goals as goal

pub slice_bounds-of_fragments-end : goal.slice_bounds-of_fragments-end
slice_bounds-of_fragments-end c = omega (arith, c.fragments_in_round-count.ensures, round-small (get_or c.args.rules.now.heads c.args.r 0))

pub returns : goal.returns
unfolding rule_set
returns c =
    let names = c.args.names.now in
    let base : ℕ = 16 * c.args.r in
    let n : ℕ = c.fragments_in_round-count.result in
    let ran : c.fold.result ≡ fold bit_or 0 (take (base + n - base) (drop base names)) = search rules in
    let same : base + n - base ≡ n = omega arith in
    let within : base + n ≤ length names = omega (arith, c.fragments_in_round-count.ensures, round-small (get_or c.args.rules.now.heads c.args.r 0)) in
    ran ∙ rw same (sym (union-folded names base n within)) ∙ ap (union_from names base) c.fragments_in_round-count.ensures
