-- The ranges of a fragment, their states and their counts by their places: what a move does at each place, and which slot stands there.
-- Assumes nothing.
use mathlib.Core.Path.{◌≡◌, refl, ap}
use mathlib.Core.Logic.{inl, inr}
use mathlib.Core.List.{List, [], ◌∷◌, map}
use Prim.Native.Nat.{ℕ, zero, suc, ◌≤◌, ◌<◌}
use native.Mathlib.Nat.{not-suc-le-zero}
use native.Mathlib.Omega.{arith}
use lib.ListN.{length, get_or}
use Rattle.pattern.specs.Lists.{In}
use Rattle.pattern.specs.Meaning.{Range, Join}
use Rattle.pattern.specs.Recogniser.{State, idle, unbegun, Class, move, Slot, slots, moves, tally, tallies, not_begun}
use Rattle.pattern.proofs.Running.{slot}
use Rattle.layout.specs.Pages.{no_range}

-- ---- a move, place by place

-- a state and a count for each range
pub record Long (rs : List Range) (ss : List State) (cs : List ℕ) : Type 0 where
  pub states : length rs ≤ length ss
  pub counts : length rs ≤ length cs

shorter : {r : Range} {rs : List Range} {s : State} {ss : List State} {c : ℕ} {cs : List ℕ} → Long (r ∷ rs) (s ∷ ss) (c ∷ cs) → Long rs ss cs
shorter l = record { states = let h = l.states in omega (arith, h); counts = let h = l.counts in omega (arith, h) }

module _ (j : Join) (cl : Range → Class) where
  pub moves-length : (rs : List Range) (ss : List State) (cs : List ℕ) → Long rs ss cs → length (moves j cl rs ss cs) ≡ length ss
  moves-length [] ss cs l = refl
  moves-length (r ∷ rs) [] cs l = absurd (not-suc-le-zero l.states)
  moves-length (r ∷ rs) (s ∷ ss) [] l = absurd (not-suc-le-zero l.counts)
  moves-length (r ∷ rs) (s ∷ ss) (c ∷ cs) l = ap suc (moves-length rs ss cs (shorter l))

  pub moves-at : (rs : List Range) (ss : List State) (cs : List ℕ) (k : ℕ) → Long rs ss cs → k < length rs
      → get_or (moves j cl rs ss cs) k idle ≡ move j (get_or rs k no_range) (get_or cs k 0) (get_or ss k idle) (cl (get_or rs k no_range))
  moves-at [] ss cs k l i = absurd (not-suc-le-zero i)
  moves-at (r ∷ rs) [] cs k l i = absurd (not-suc-le-zero l.states)
  moves-at (r ∷ rs) (s ∷ ss) [] k l i = absurd (not-suc-le-zero l.counts)
  moves-at (r ∷ rs) (s ∷ ss) (c ∷ cs) zero l i = refl
  moves-at (r ∷ rs) (s ∷ ss) (c ∷ cs) (suc k) l i = moves-at rs ss cs k (shorter l) (omega arith)

  pub moves-past : (rs : List Range) (ss : List State) (cs : List ℕ) (k : ℕ) → length rs ≤ k → get_or (moves j cl rs ss cs) k idle ≡ get_or ss k idle
  moves-past [] ss cs k i = refl
  moves-past (r ∷ rs) [] cs k i = refl
  moves-past (r ∷ rs) (s ∷ ss) [] k i = refl
  moves-past (r ∷ rs) (s ∷ ss) (c ∷ cs) zero i = absurd (not-suc-le-zero i)
  moves-past (r ∷ rs) (s ∷ ss) (c ∷ cs) (suc k) i = moves-past rs ss cs k (omega arith)

module _ (cl : Range → Class) where
  pub tallies-length : (rs : List Range) (ss : List State) (cs : List ℕ) → length (tallies cl rs ss cs) ≡ length cs
  tallies-length [] ss cs = refl
  tallies-length (r ∷ rs) [] cs = refl
  tallies-length (r ∷ rs) (s ∷ ss) [] = refl
  tallies-length (r ∷ rs) (s ∷ ss) (c ∷ cs) = ap suc (tallies-length rs ss cs)

  pub tallies-at : (rs : List Range) (ss : List State) (cs : List ℕ) (k : ℕ) → Long rs ss cs → k < length rs
      → get_or (tallies cl rs ss cs) k 0 ≡ tally (cl (get_or rs k no_range)) (get_or rs k no_range) (get_or cs k 0) (get_or ss k idle)
  tallies-at [] ss cs k l i = absurd (not-suc-le-zero i)
  tallies-at (r ∷ rs) [] cs k l i = absurd (not-suc-le-zero l.states)
  tallies-at (r ∷ rs) (s ∷ ss) [] k l i = absurd (not-suc-le-zero l.counts)
  tallies-at (r ∷ rs) (s ∷ ss) (c ∷ cs) zero l i = refl
  tallies-at (r ∷ rs) (s ∷ ss) (c ∷ cs) (suc k) l i = tallies-at rs ss cs k (shorter l) (omega arith)

  pub tallies-past : (rs : List Range) (ss : List State) (cs : List ℕ) (k : ℕ) → length rs ≤ k → get_or (tallies cl rs ss cs) k 0 ≡ get_or cs k 0
  tallies-past [] ss cs k i = refl
  tallies-past (r ∷ rs) [] cs k i = refl
  tallies-past (r ∷ rs) (s ∷ ss) [] k i = refl
  tallies-past (r ∷ rs) (s ∷ ss) (c ∷ cs) zero i = absurd (not-suc-le-zero i)
  tallies-past (r ∷ rs) (s ∷ ss) (c ∷ cs) (suc k) i = tallies-past rs ss cs k (omega arith)

-- ---- before the first event

pub fresh-length : (rs : List Range) (n : ℕ) → length (not_begun rs n) ≡ n
fresh-length rs zero = refl
fresh-length [] (suc n) = ap suc (fresh-length [] n)
fresh-length (r ∷ rs) (suc n) = ap suc (fresh-length rs n)

pub fresh_at : (rs : List Range) (n k : ℕ) → length rs ≤ n → k < length rs → get_or (not_begun rs n) k idle ≡ unbegun
fresh_at [] n k h i = absurd (not-suc-le-zero i)
fresh_at (r ∷ rs) zero k h i = absurd (not-suc-le-zero h)
fresh_at (r ∷ rs) (suc n) zero h i = refl
fresh_at (r ∷ rs) (suc n) (suc k) h i = fresh_at rs n k (omega arith) (omega arith)

pub fresh-past : (rs : List Range) (n k : ℕ) → length rs ≤ k → get_or (not_begun rs n) k idle ≡ idle
fresh-past rs zero k h = refl
fresh-past [] (suc n) zero h = refl
fresh-past [] (suc n) (suc k) h = fresh-past [] n k (omega arith)
fresh-past (r ∷ rs) (suc n) zero h = absurd (not-suc-le-zero h)
fresh-past (r ∷ rs) (suc n) (suc k) h = fresh-past rs n k (omega arith)

-- ---- slots

pub slot-ranges : (rs : List Range) (ss : List State) (cs : List ℕ) → Long rs ss cs → map (λ (x : Slot). x.range) (slots rs ss cs) ≡ rs
slot-ranges [] ss cs l = refl
slot-ranges (r ∷ rs) [] cs l = absurd (not-suc-le-zero l.states)
slot-ranges (r ∷ rs) (s ∷ ss) [] l = absurd (not-suc-le-zero l.counts)
slot-ranges (r ∷ rs) (s ∷ ss) (c ∷ cs) l = ap (λ (t : List Range). r ∷ t) (slot-ranges rs ss cs (shorter l))

abbrev pub slot_at : List Range → List State → List ℕ → ℕ → Slot
slot_at rs ss cs k = slot (get_or rs k no_range) (get_or ss k idle) (get_or cs k 0)

pub slot-at : (rs : List Range) (ss : List State) (cs : List ℕ) (k : ℕ) → Long rs ss cs → k < length rs → In (slot_at rs ss cs k) (slots rs ss cs)
slot-at [] ss cs k l i = absurd (not-suc-le-zero i)
slot-at (r ∷ rs) [] cs k l i = absurd (not-suc-le-zero l.states)
slot-at (r ∷ rs) (s ∷ ss) [] k l i = absurd (not-suc-le-zero l.counts)
slot-at (r ∷ rs) (s ∷ ss) (c ∷ cs) zero l i = inl refl
slot-at (r ∷ rs) (s ∷ ss) (c ∷ cs) (suc k) l i = inr (slot-at rs ss cs k (shorter l) (omega arith))

-- a slot and its place
pub record Placed (rs : List Range) (ss : List State) (cs : List ℕ) (x : Slot) : Type 0 where
  pub place : ℕ
  pub inside : place < length rs
  pub is : x ≡ slot_at rs ss cs place

pub placed : (rs : List Range) (ss : List State) (cs : List ℕ) (x : Slot) → In x (slots rs ss cs) → Placed rs ss cs x
placed [] ss cs x x3 = elim x3 [ ]
placed (r ∷ rs) [] cs x x6 = elim x6 [ ]
placed (r ∷ rs) (s ∷ ss) [] x x9 = elim x9 [ ]
placed (r ∷ rs) (s ∷ ss) (c ∷ cs) x (inl e) = record { place = 0; inside = omega arith; is = e }
placed (r ∷ rs) (s ∷ ss) (c ∷ cs) x (inr i) = let p = placed rs ss cs x i in record { place = suc p.place; inside = let h : p.place < length rs = p.inside in omega arith; is = p.is }

-- ---- ranges

pub range-in : (rs : List Range) (k : ℕ) → k < length rs → In (get_or rs k no_range) rs
range-in [] k i = absurd (not-suc-le-zero i)
range-in (r ∷ rs) zero i = inl refl
range-in (r ∷ rs) (suc k) i = inr (range-in rs k (omega arith))
