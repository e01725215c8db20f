-- `book::fragment_set` meets its contract: the names of a piece of the ranges, one after the other. Assumes nothing.
use Rattle.std.proofs.Common.{◌≡◌, sym, ap, ◌∙◌, ℕ, ◌+◌, ◌-◌, ◌*◌, ◌≤◌, length, get_or, take, drop, rules, arith}
use Rattle.std.specs.List.{fold}
use Rattle.names.specs.Names.{with_name}
use Rattle.tables.specs.Words.{bit_in}
use Rattle.tables.proofs.Bounds.{count_small}
use Rattle.book.specs.Tables.{names_from, fragment_set}
use Rattle.book.proofs.Steps.{names-folded}
use Rattle.book.proofs.fragment_set.Goals as goal

pub slice_bounds-ranges-end : goal.slice_bounds-ranges-end
slice_bounds-ranges-end c = omega (arith, c.ranges_in-count.ensures, count_small (get_or c.args.rules.now.fragments c.args.k 0))

pub returns : goal.returns
unfolding fragment_set
returns c =
    let ranges = c.args.rules.now.ranges in
    let base : ℕ = 8 * c.args.k in
    let n : ℕ = c.ranges_in-count.result in
    let ran : c.fold.result ≡ fold (λ set word. with_name set (bit_in word)) 0 (take (base + n - base) (drop base ranges)) = search rules in
    let same : base + n - base ≡ n = omega arith in
    let within : base + n ≤ length ranges = omega (arith, c.ranges_in-count.ensures, count_small (get_or c.args.rules.now.fragments c.args.k 0)) in
    ran ∙ rw same (sym (names-folded ranges base n within)) ∙ ap (names_from ranges base) c.ranges_in-count.ensures
