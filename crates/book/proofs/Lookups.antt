-- The book of a well-formed sheet, looked up: every entry is the part of the sheet that it stands for. This is what callers use of `book_of`.
-- Assumes nothing.
use mathlib.Core.Path.{◌≡◌, refl, ap, sym, subst, ◌∙◌}
use mathlib.Core.Bool.{Bool, true, false, ◌&&◌}
use mathlib.Core.List.{List}
use Prim.Native.Nat.{ℕ, ◌+◌, ◌*◌, ◌<◌, ◌≤◌, ◌^◌}
use native.Mathlib.Omega.{arith}
use lib.Dec.{ltb}
use lib.ListN.{length, get_or, set, replicate, length-set, length-map, length-replicate, get_or-replicate, get_or-map}
use lib.Seq.{take_all, get_or-set_same, get_or-set_other}
use borrow.Author.Tests.{ltb-true}
use Rattle.pattern.specs.Lists.{Distinct, is_in}
use Rattle.pattern.specs.Meaning.{Range, Fragment, fragment_names, ordering_names, Rule, names_of, WellFormedRange, WellFormedFragment, WellFormed}
use Rattle.pattern.specs.Model.{round_of, fragment_at, no_fragment}
use Rattle.names.specs.Names.{member}
use Rattle.layout.specs.Layout.{Sheet, header_of, WellFormedSheet}
use Rattle.layout.specs.Pages.{fragment_word, range_word, header_word, head_table, fragment_table, range_table, no_range, rule_at, range_at}
use Rattle.layout.proofs.PageLaws.{head_at_lem, fragment-at, range_at_lem, round-formed, round-few, each_at}
use Rattle.tables.specs.Words.{time_in, round_in, cap, bit_in, count_in}
use Rattle.tables.specs.Cells.{head_at, cell_at, version_at, outputs_at, table_length, mask_in, Cell, HoldsRules}
use Rattle.cells.proofs.HeadLaws.{head-round, looks-head}
use Rattle.cells.proofs.CellLaws.{rule-cell}
use Rattle.book.specs.Tables.{stored, fragment_set, name_table, rule_set, rule_table, mask_of, names_from, union_from, rules_of}
use Rattle.book.specs.Books.{book_of}
use Rattle.book.specs.Looks.{Looks}
use Rattle.tables.proofs.Bounds.{cap-of, cap-small}
use Rattle.tables.proofs.WordLaws.{count-in, bit_in_lem}
use Rattle.layout.proofs.Accepted.{rule-formed}
use Rattle.pattern.proofs.Numbering.{round-names}
use Rattle.layout.proofs.Once.{same_place}
use Rattle.book.proofs.Steps.{mask_below}
use Rattle.book.proofs.TableLaws.{rule-length, Once, mask-stays, none-stored, head-stored, cell-at}
use Rattle.book.proofs.Turns.{turn-length}
use Rattle.book.proofs.SetLaws.{stored-length, stored_at, stored_past, member-names, member_union, member-mask}

module _ (S : Sheet) (formed : WellFormedSheet S) where
  module _ (r : ℕ) (here : r < length S.rules) where
    good : WellFormed (rule_at S.rules r)
    good = rule-formed S formed r here

    few : r < 16
    few = omega (arith, here, formed.count)

    round : round_in (get_or (head_table S.rules) r 0) ≡ length (round_of (rule_at S.rules r))
    round = rw (head_at_lem S.rules r here few) (head-round (rule_at S.rules r) good)

    module _ (f : ℕ) (inside : f < length (round_of (rule_at S.rules r))) where
      fragment-formed : WellFormedFragment (fragment_at (rule_at S.rules r) f)
      fragment-formed = each_at WellFormedFragment no_fragment (round_of (rule_at S.rules r)) f (round-formed (rule_at S.rules r) good) inside

      fewer : f < 16
      fewer = omega (arith, inside, round-few (rule_at S.rules r) good)

      word : get_or (fragment_table S.rules) (16 * r + f) 0 ≡ fragment_word (fragment_at (rule_at S.rules r) f)
      word = fragment-at S.rules r here few f inside fewer

      count : count_in (get_or (fragment_table S.rules) (16 * r + f) 0) ≡ length (fragment_at (rule_at S.rules r) f).ranges
      count = ap count_in word ∙ count-in (fragment_at (rule_at S.rules r) f) fragment-formed

      module _ (s : ℕ) (within : s < length (fragment_at (rule_at S.rules r) f).ranges) where
        range-formed : WellFormedRange (range_at (rule_at S.rules r) f s)
        range-formed = each_at WellFormedRange no_range (fragment_at (rule_at S.rules r) f).ranges s fragment-formed.ranges within

        pub range-word : get_or (range_table S.rules) (8 * (16 * r + f) + s) 0 ≡ range_word (range_at (rule_at S.rules r) f s)
        range-word = range_at_lem S.rules r here few f inside fewer s within (omega (arith, within, fragment-formed.count))

        pub range-bit : bit_in (get_or (range_table S.rules) (8 * (16 * r + f) + s) 0) ≡ (range_at (rule_at S.rules r) f s).name
        range-bit = ap bit_in range-word ∙ bit_in_lem (range_at (rule_at S.rules r) f s) range-formed

      -- the names of a fragment's ranges, by their numbers
      names-by-number : (i : ℕ) → i < length (fragment_at (rule_at S.rules r) f).ranges
          → bit_in (get_or (range_table S.rules) (8 * (16 * r + f) + i) 0) ≡ get_or (fragment_names (fragment_at (rule_at S.rules r) f)) i 0
      names-by-number i l = range-bit i l ∙ sym (get_or-map (λ (x : Range). x.name) (fragment_at (rule_at S.rules r) f).ranges i no_range)

      fragment-names : (n : ℕ) → member (get_or (name_table (fragment_table S.rules) (range_table S.rules)) (16 * r + f) 0) n
          ≡ is_in n (fragment_names (fragment_at (rule_at S.rules r) f))
      unfolding name_table fragment_set
      fragment-names n =
          let fs : List ℕ = fragment_table S.rules in
          let rs : List ℕ = range_table S.rules in
          let ns : List ℕ = fragment_names (fragment_at (rule_at S.rules r) f) in
          let many : length ns ≡ length (fragment_at (rule_at S.rules r) f).ranges = length-map (fragment_at (rule_at S.rules r) f).ranges (λ (x : Range). x.name) in
          ap (λ (w : ℕ). member w n) (stored_at (fragment_set fs rs) 256 (replicate 256 0) (16 * r + f) (omega (arith, few, fewer)) (omega arith))
          ∙ ap (λ (k : ℕ). member (names_from rs (8 * (16 * r + f)) k) n) (count ∙ sym many)
          ∙ member-names rs (8 * (16 * r + f)) ns n (length ns) (omega arith) (λ i l. names-by-number i (subst (λ (k : ℕ). i < k) many l))
          ∙ ap (is_in n) (take_all (length ns) ns (omega arith))

    -- the set of a rule's names
    rule-names : (n : ℕ) → member (get_or (rule_table (head_table S.rules) (name_table (fragment_table S.rules) (range_table S.rules))) r 0) n ≡ is_in n (names_of (rule_at S.rules r))
    unfolding rule_table rule_set
    rule-names n =
        let names : List ℕ = name_table (fragment_table S.rules) (range_table S.rules) in
        let heads : List ℕ = head_table S.rules in
        let fs : List Fragment = round_of (rule_at S.rules r) in
        ap (λ (w : ℕ). member w n) (stored_at (rule_set heads names) 16 (replicate 16 0) r few (omega arith))
        ∙ ap (λ (k : ℕ). member (union_from names (16 * r) k) n) round
        ∙ member_union names (16 * r) fs n (length fs) (omega arith) (λ i l. fragment-names i l n)
        ∙ ap (λ (l : List Fragment). is_in n (ordering_names l)) (take_all (length fs) fs (omega arith))
        ∙ ap (is_in n) (round-names (rule_at S.rules r))

    -- no name occurs twice in the rule
    once : Once (head_table S.rules) (fragment_table S.rules) (range_table S.rules) r
    once m n i j hm hn hi hj e =
        let rule : Rule = rule_at S.rules r in
        let km : m < length (round_of (rule_at S.rules r)) = subst (λ (k : ℕ). m < k) round hm in
        let kn : n < length (round_of (rule_at S.rules r)) = subst (λ (k : ℕ). n < k) round hn in
        let ki : i < length (fragment_at (rule_at S.rules r) m).ranges = subst (λ (k : ℕ). i < k) (count m km) hi in
        let kj : j < length (fragment_at (rule_at S.rules r) n).ranges = subst (λ (k : ℕ). j < k) (count n kn) hj in
        same_place (round_of rule) (subst Distinct (sym (round-names rule)) good.distinct) m n i j km kn ki kj (sym (range-bit m km i ki) ∙ e ∙ range-bit n kn j kj)

  -- ---- the table

  abbrev sets : List ℕ
  sets = rule_table (head_table S.rules) (name_table (fragment_table S.rules) (range_table S.rules))

  -- the masks, before the rules are stored
  abbrev masks : List ℕ
  masks = stored (λ m. mask_of sets m (cap 16 (length S.rules))) 64 (replicate table_length 0)

  abbrev rules : List ℕ
  rules = rules_of (head_table S.rules) (fragment_table S.rules) (range_table S.rules) (length S.rules)

  abbrev table : List ℕ
  table = (book_of S).table

  size : length masks ≡ table_length
  size = stored-length (λ m. mask_of sets m (cap 16 (length S.rules))) 64 (replicate table_length 0) ∙ length-replicate {A = ℕ} table_length 0

  capped : cap 16 (length S.rules) ≤ 16
  capped = cap-small 16 (length S.rules)

  all : cap 16 (length S.rules) ≡ length S.rules
  all = cap-of 16 (length S.rules) formed.count.1

  rules-length : length rules ≡ table_length
  unfolding rules_of
  rules-length = turn-length _ (rule-length (head_table S.rules) (fragment_table S.rules) (range_table S.rules)) (cap 16 (length S.rules)) masks ∙ size

  -- version and outputs stand behind all else
  early : (j : ℕ) → j < version_at → get_or table j 0 ≡ get_or rules j 0
  early j h = get_or-set_other (set rules version_at _) outputs_at j _ 0 (λ e. omega (arith, h, e)) ∙ get_or-set_other rules version_at j _ 0 (λ e. omega (arith, h, e))

  last : (version : ℕ) → outputs_at < length (set rules version_at version)
  last version = omega (arith, length-set rules version_at version, rules-length)

  none : (r : ℕ) → length S.rules ≤ r → r < 16 → get_or table (head_at r) 0 ≡ 0
  unfolding rules_of
  none r h l =
      early (head_at r) (omega (arith, l))
      ∙ none-stored (head_table S.rules) (fragment_table S.rules) (range_table S.rules) (cap 16 (length S.rules)) capped masks size r (omega (arith, h, all)) l
      ∙ stored_past (λ m. mask_of sets m (cap 16 (length S.rules))) 64 (replicate table_length 0) (head_at r) (omega arith)
      ∙ get_or-replicate table_length (head_at r) 0 0 (omega (arith, l))

  module _ (r : ℕ) (here : r < length S.rules) where
    present : r < cap 16 (length S.rules)
    present = subst (λ (k : ℕ). r < k) (sym all) here

    pub head : get_or table (head_at r) 0 ≡ header_word (header_of (rule_at S.rules r))
    unfolding rules_of
    head =
        early (head_at r) (omega (arith, few r here))
        ∙ head-stored (head_table S.rules) (fragment_table S.rules) (range_table S.rules) (cap 16 (length S.rules)) capped masks size r present
        ∙ head_at_lem S.rules r here (few r here)

    cell : (n i : ℕ) → n < length (round_of (rule_at S.rules r)) → i < length (fragment_at (rule_at S.rules r) n).ranges
        → Cell (rule_at S.rules r) n i (get_or table (cell_at r (range_at (rule_at S.rules r) n i).name) 0)
    unfolding rules_of
    cell n i inside within =
        let rule : Rule = rule_at S.rules r in
        subst (Cell rule n i)
        (sym
        (ap (λ (m : ℕ). get_or table (cell_at r m) 0) (sym (range-bit r here n inside i within))
        ∙ early (cell_at r (bit_in (get_or (range_table S.rules) (8 * (16 * r + n) + i) 0))) (omega (arith, few r here))
        ∙ cell-at (head_table S.rules) (fragment_table S.rules) (range_table S.rules) (cap 16 (length S.rules)) capped masks size r present (once r here) n i
        (subst (λ (k : ℕ). n < k) (sym (round r here)) inside) (subst (λ (k : ℕ). i < k) (sym (count r here n inside)) within)
        ∙ rw (head_at_lem S.rules r here (few r here), word r here n inside, range-word r here n inside i within)))
        (rule-cell rule (good r here) n inside i within)

  holders : (n r : ℕ) → n < 64 → member (mask_in (get_or table n 0)) r ≡ (ltb r (length S.rules) && is_in n (names_of (rule_at S.rules r)))
  unfolding rules_of
  holders n r l =
      let few : mask_of sets n (cap 16 (length S.rules)) < 2 ^ 16 = mask_below sets n (cap 16 (length S.rules)) capped in
      ap (λ (w : ℕ). member (mask_in w) r)
      (early n (omega (arith, l)) ∙ mask-stays (head_table S.rules) (fragment_table S.rules) (range_table S.rules) (cap 16 (length S.rules)) capped masks size n l
      ∙ stored_at (λ m. mask_of sets m (cap 16 (length S.rules))) 64 (replicate table_length 0) n l (omega arith))
      ∙ ap (λ (w : ℕ). member w r) (omega (arith, few))
      ∙ member-mask sets n (cap 16 (length S.rules)) r
      ∙ ap (λ (k : ℕ). ltb r k && member (get_or sets r 0) n) all
      ∙ go (ltb r (length S.rules)) refl
    where
      go : (b : Bool) → ltb r (length S.rules) ≡ b → (b && member (get_or sets r 0) n) ≡ (b && is_in n (names_of (rule_at S.rules r)))
      go true e = rule-names r (ltb-true r (length S.rules) e) n
      go false e = refl

  holds-rules : HoldsRules table S.rules
  holds-rules = record { rule = λ r here. record { limit = ap time_in (head r here) ∙ (looks-head (rule_at S.rules r) (good r here)).time; cell = cell r here }; holders = holders }

  -- the book of a well-formed sheet is the sheet, looked up
  pub looks : Looks S (book_of S)
  looks = record {
    version' = get_or-set_other (set rules version_at _) outputs_at version_at _ 0 (λ e. omega arith) ∙ get_or-set_same rules version_at _ 0 (omega (arith, rules-length));
    outputs = get_or-set_same (set rules version_at _) outputs_at _ 0 (last _);
    head = head;
    none = none;
    table = holds-rules;
  }
