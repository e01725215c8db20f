-- What the numbers of the tables hold: a well-formed fragment and a well-formed range are read off their words.
-- Assumes nothing.
use mathlib.Core.Path.{◌≡◌, ◌∙◌}
use Prim.Native.Nat.{◌^◌, ◌≤◌, ◌<◌}
use native.Mathlib.Omega.{arith}
use lib.ListN.{length}
use Rattle.bits.specs.Bits.{part}
use Rattle.bits.proofs.BitLaws.{lowest, higher}
use Rattle.pattern.specs.Meaning.{Range, Join, all, any, all_shuffled, any_shuffled, Fragment, WellFormedRange, WellFormedFragment}
use Rattle.layout.specs.Layout.{join_number}
use Rattle.layout.specs.Pages.{fragment_word, range_word}
use Rattle.tables.specs.Words.{join_in, count_in, name_in, bit_in, low_in, high_in}
use Rattle.tables.proofs.Bounds.{cap-of}

-- ---- a fragment's word

-- a join's number has two digits
pub join-few : (j : Join) → join_number j < 4
join-few all = omega arith
join-few any = omega arith
join-few all_shuffled = omega arith
join-few any_shuffled = omega arith

pub join-in : (f : Fragment) → join_in (fragment_word f) ≡ join_number f.join
join-in f = lowest 8 (length f.ranges) (omega (arith, join-few f.join))

pub count-in : (f : Fragment) → WellFormedFragment f → count_in (fragment_word f) ≡ length f.ranges
unfolding count_in
count-in f w =
    let few : length f.ranges ≤ 8 = w.count.1 in
    let count : part 8 8 (fragment_word f) ≡ length f.ranges = omega (arith, join-few f.join) in
    rw count (cap-of 8 (length f.ranges) few)

-- ---- a range's word

module _ (r : Range) (w : WellFormedRange r) where
  abbrev name-small : r.name < 2 ^ 8
  name-small = omega (arith, w.named)

  pub name_in_lem : name_in (range_word r) ≡ r.name
  name_in_lem = lowest 8 _ name-small

  pub bit_in_lem : bit_in (range_word r) ≡ r.name
  bit_in_lem = let h : r.name ≤ 63 = w.named in omega arith

  pub low-in : low_in (range_word r) ≡ r.u
  low-in = higher 8 0 16 _ name-small ∙ lowest 16 _ (omega (arith, w.small))

  pub high-in : high_in (range_word r) ≡ r.v
  high-in = let m : r.v ≤ 65535 = w.few in higher 8 16 16 _ name-small ∙ higher 16 0 16 _ (omega (arith, w.small)) ∙ omega arith
