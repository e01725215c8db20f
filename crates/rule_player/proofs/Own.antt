-- In the table of a sheet's book the round that the table says is the rule's own: fragment by fragment, each range is looked up as the sheet has it. So the names that a call plays
-- are the chosen round's.
-- Assumes nothing.
use mathlib.Core.Path.{◌≡◌, refl, sym, ◌∙◌, ap}
use mathlib.Core.Logic.{◌≢◌}
use mathlib.Core.Bool.{Bool, true, false, cond, not, ◌&&◌}
use mathlib.Core.Option.{none, some}
use mathlib.Core.List.{List}
use Prim.Native.Nat.{ℕ, ◌≤◌, ◌<◌}
use native.Mathlib.Omega.{arith}
use lib.Dec.{eqb, ltb}
use lib.ListN.{length, get_or}
use lib.Seq.{ext_get_or}
use borrow.Author.Tests.{ltb-true, ltb-false, lt-ltb, eq-eqb, ne_eqb}
use Rattle.pattern.specs.Meaning.{Range, Join, all, any, all_shuffled, any_shuffled, Fragment, Rule, WellFormedFragment, WellFormed}
use Rattle.pattern.specs.Model.{round_of, no_fragment, fragment_at}
use Rattle.layout.specs.Layout.{Sheet, join_number, WellFormedSheet}
use Rattle.layout.specs.Pages.{no_range, rule_at, range_at}
use Rattle.layout.proofs.PageLaws.{round-formed, each_at}
use Rattle.layout.proofs.Accepted.{rule-formed}
use Rattle.recogniser.specs.Numbers.{join_of}
use Rattle.tables.specs.Words.{round_in}
use Rattle.tables.specs.Cells.{least_in, most_in, head_at, name_at}
use Rattle.tables.proofs.Names.{name-at}
use Rattle.cells.proofs.HeadLaws.{some-head, head-round}
use Rattle.places.specs.Places.{cell_of}
use Rattle.places.proofs.Reading.{cell-at}
use Rattle.book.specs.declared.Book.{Book}
use Rattle.book.specs.Looks.{Looks}
use Rattle.rule_player.specs.Choice.{chosen_in, chosen}
use Rattle.rule_player.specs.Said.{range_by, size_by, fragment_by, ranges_at, fragment_said, round_said, has_rule, chosen_said}
use Rattle.rule_player.specs.Playing.{chosen_of}
use Rattle.rule_player.proofs.Said.{length-listed, listed_at, size_is, range-is}

-- a cell's number of a join is the join's
join_is : (j : Join) → join_of (join_number j) ≡ j
join_is all = refl
join_is any = refl
join_is all_shuffled = refl
join_is any_shuffled = refl

module _ (S : Sheet) (b : Book) (formed : WellFormedSheet S) (looks : Looks S b) where
  abbrev table : List ℕ
  table = b.table

  module _ (r : ℕ) (here : r < length S.rules) where
    abbrev rule : Rule
    rule = rule_at S.rules r

    well : WellFormed rule
    well = rule-formed S formed r here

    module _ (f : ℕ) (inside : f < length (round_of rule)) where
      abbrev ranges : List Range
      ranges = (fragment_at rule f).ranges

      count : (0 < length ranges) × (length ranges ≤ 8)
      count = (each_at WellFormedFragment no_fragment (round_of rule) f (round-formed rule well) inside).count

      size : size_by (ranges_at table r f) ≡ length ranges
      size = (cell-at looks.table r here well f 0 inside count.0).less

      range-own : (i : ℕ) → i < length ranges → range_by (ranges_at table r f) i ≡ range_at rule f i
      range-own i within =
          let c = cell-at looks.table r here well f i inside within in
          let few : i < 8 = omega (arith, within, count.1) in
          let name = listed_at (name_at table r f) 0 8 i few ∙ name-at looks.table r here well f i inside within in
          let cell = listed_at (cell_of table r f) 0 8 i few in
          λ k. record { name = name k; u = (ap least_in cell ∙ c.u) k; v = (ap most_in cell ∙ c.v) k }

      fragment-own : fragment_said table r f ≡ fragment_at rule f
      unfolding fragment_said
      fragment-own =
          let x = ranges_at table r f in
          let join = ap join_of (cell-at looks.table r here well f 0 inside count.0).join ∙ join_is (fragment_at rule f).join in
          let long = size_is x in
          let same : (fragment_by x).ranges ≡ ranges = ext_get_or no_range _ _ (long ∙ size)
          (λ i h. let l : i < size_by x = omega (arith, h, long) in range-is x i l ∙ range-own i (omega (arith, l, size))) in
          λ k. record { join = join k; ranges = same k }

    round-own : round_said table r ≡ round_of rule
    unfolding round_said
    round-own =
        let count = ap round_in (looks.head r here) ∙ head-round rule well in
        let n = round_in (get_or table (head_at r) 0) in
        let long = length-listed (fragment_said table r) 0 n in
        ext_get_or no_fragment _ _ (long ∙ count)
        (λ f h. let l : f < n = omega (arith, h, long) in listed_at (fragment_said table r) no_fragment n f l ∙ fragment-own f (omega (arith, l, count)))

    -- a well-formed rule's head is not 0: P has a fragment
    has-own : has_rule table r ≡ true
    has-own =
        let some : get_or table (head_at r) 0 ≢ 0 = λ e. some-head rule well (sym (looks.head r here) ∙ e) in
        rw (lt-ltb r 16 (omega (arith, here, formed.count)), ne_eqb _ 0 some) refl

  none-else : (r : ℕ) → length S.rules ≤ r → has_rule table r ≡ false
  none-else r past = go (ltb r 16) refl
    where
      go : (c : Bool) → ltb r 16 ≡ c → (c && not (eqb (get_or table (head_at r) 0) 0)) ≡ false
      go true e = rw (eq-eqb (get_or table (head_at r) 0) 0 (looks.none r past (ltb-true r 16 e))) refl
      go false e = refl

  pub names-own : (r : ℕ) (choice : List ℕ) → chosen_said table r choice ≡ chosen_of S.rules r choice
  names-own r choice = go (ltb r (length S.rules)) refl
    where
      go : (c : Bool) → ltb r (length S.rules) ≡ c → chosen_said table r choice ≡ cond c (some (chosen (rule_at S.rules r) choice)) none
      go true e =
          let here = ltb-true r (length S.rules) e in
          rw (has-own r here) (ap (λ (fs : List Fragment). some (chosen_in fs choice)) (round-own r here))
      go false e = rw (none-else r (ltb-false r (length S.rules) e)) refl
