-- The number that is made of a well-formed rule's words is the cell of the rule's range: each field is read off it, and says what the rule does.
-- Assumes nothing.
use mathlib.Core.Path.{◌≡◌, refl, ◌∙◌}
use Prim.Native.Nat.{ℕ, ◌/◌, ◌<◌}
use native.Mathlib.Omega.{arith}
use lib.Dec.{eqb}
use lib.ListN.{length}
use Rattle.bits.specs.Bits.{flag}
use Rattle.bits.proofs.BitLaws.{flag_small, flag-says}
use Rattle.pattern.specs.Meaning.{Join, all, any, all_shuffled, any_shuffled, shuffled, Fragment, Kind, once, repeated, timed, Rule, WellFormedRange, WellFormedFragment, WellFormed}
use Rattle.pattern.specs.Model.{round_of, is_once, is_last, fragment_at, no_fragment}
use Rattle.layout.specs.Layout.{header_of, join_number, kind_number}
use Rattle.layout.specs.Pages.{header_word, fragment_word, range_word, no_range, range_at}
use Rattle.layout.proofs.PageLaws.{round-formed, round-few, each_at}
use Rattle.tables.specs.Cells.{is_timed, frees, is_in_p, is_in_q, ends_p, preceding, Cell}
use Rattle.tables.proofs.WordLaws.{join-few, join-in, count-in, low-in, high-in}
use Rattle.cells.specs.Making.{before_from, last_from, frees_from, order_from, fragment_from, in_p_from, in_q_from, ends_p_from, clock_from, shared_cell, cell_with}
use Rattle.cells.specs.Heads.{LooksHead}
use Rattle.cells.proofs.HeadLaws.{head-round, looks-head}
use Rattle.cells.proofs.CellBounds.{before_small}

kind-once : (K : Kind) → eqb (kind_number K) 0 ≡ is_once K
kind-once (once i) = refl
kind-once (repeated i) = refl
kind-once (timed q t) = refl

kind-timed : (K : Kind) → eqb (kind_number K) 2 ≡ is_timed K
kind-timed (once i) = refl
kind-timed (repeated i) = refl
kind-timed (timed q t) = refl

-- a join's number says in its second digit whether blocks are shuffled
join-shuffled : (j : Join) → join_number j / 2 ≡ flag (shuffled j)
join-shuffled all = refl
join-shuffled any = refl
join-shuffled all_shuffled = refl
join-shuffled any_shuffled = refl

module _ (rule : Rule) (formed : WellFormed rule) where
  abbrev head : ℕ
  head = header_word (header_of rule)

  h : LooksHead (header_word (header_of rule)) rule
  h = looks-head rule formed

  before-is : (n : ℕ) → before_from head n ≡ preceding rule n
  unfolding before_from preceding
  before-is n = rw (head-round rule formed)

  last-is : (n : ℕ) → last_from head n ≡ is_last rule n
  last-is n = rw (head-round rule formed)

  frees-is : (n : ℕ) → frees_from head n ≡ frees rule n
  frees-is n = rw (h.kind, h.count_p, kind-once rule.kind)

  in-p-is : (n : ℕ) → in_p_from head n ≡ is_in_p rule n
  in-p-is n = rw h.count_p

  in-q-is : (n : ℕ) → in_q_from head n ≡ is_in_q rule n
  in-q-is n = rw (h.kind, h.count_p, kind-timed rule.kind)

  ends-p-is : (n : ℕ) → ends_p_from head n ≡ ends_p rule n
  ends-p-is n = rw (h.kind, h.count_p, kind-timed rule.kind)

  module _ (n : ℕ) (inside : n < length (round_of rule)) (i : ℕ) (within : i < length (fragment_at rule n).ranges) where
    abbrev cell : ℕ
    cell = cell_with (shared_cell head (fragment_word (fragment_at rule n)) n) (range_word (range_at rule n i)) i

    pub rule-cell : Cell rule n i cell
    unfolding cell_with shared_cell order_from fragment_from clock_from
    rule-cell =
        let f : Fragment = fragment_at rule n in
        let wf : WellFormedFragment (fragment_at rule n) = each_at WellFormedFragment no_fragment (round_of rule) n (round-formed rule formed) inside in
        let wr : WellFormedRange (range_at rule n i) = each_at WellFormedRange no_range (fragment_at rule n).ranges i wf.ranges within in
        let hn = round-few rule formed in
        let hb = before_small head n (omega (arith, inside, head-round rule formed)) in
        let hl = flag_small (last_from head n) in
        let hr = flag_small (frees_from head n) in
        let hi : i < 8 = omega (arith, within, wf.count) in
        let hp = flag_small (in_p_from head n) in
        let hq = flag_small (in_q_from head n) in
        let he = flag_small (ends_p_from head n) in
        record {
          fragment = omega arith;
          before = omega (arith, before-is n);
          last = flag-says 8 cell (omega arith) ∙ last-is n;
          frees = flag-says 9 cell (omega arith) ∙ frees-is n;
          index = omega arith;
          less = omega (arith, count-in f wf, wf.count);
          join = omega (arith, join-in f, join-few f.join);
          shuffled = flag-says 17 cell (omega (arith, join-in f, join-few f.join, join-shuffled f.join));
          u = omega (arith, low-in (range_at rule n i) wr);
          v = omega (arith, high-in (range_at rule n i) wr);
          in_p = flag-says 19 cell (omega arith) ∙ in-p-is n;
          in_q = flag-says 20 cell (omega arith) ∙ in-q-is n;
          ends_p = flag-says 21 cell (omega arith) ∙ ends-p-is n;
        }
