-- The recogniser of a fragment, its ranges' recognisers side by side: eight states and eight counts. What holds of it between two events of the fragment is `Sane`: each range waits, counts within its
-- bounds or is done, and in a row one range alone counts.
-- Assumes nothing.
use mathlib.Core.Path.{◌≡◌, refl, sym, ◌∙◌, ap}
use mathlib.Core.Logic.{inl, inr}
use mathlib.Core.Bool.{false, not}
use mathlib.Core.List.{List, [], ◌∷◌, map, map-id, map-map}
use Prim.Native.Nat.{ℕ, zero, suc, ◌≤◌}
use native.Mathlib.Nat.{not-suc-le-zero}
use native.Mathlib.Omega.{arith}
use lib.Dec.{T, T_not}
use lib.ListN.{length, replicate}
use borrow.Author.Tests.{eq-eqb, ne_eqb}
use Rattle.pattern.specs.Lists.{In, Distinct, is_in}
use Rattle.pattern.specs.Meaning.{Range, Join, shuffled, Fragment, AtMost, Between, fragment_names}
use Rattle.pattern.specs.Recogniser.{State, unbegun, waiting, counting, done, Class, next, has_enough, has_room, move, is_idle, is_error, Slot, slots, moves, tallies, not_begun, within, erred, complete, can_grow}
use Rattle.pattern.proofs.Basics.{some_in, true-or-false, same?, in_map, of_map, all→, any←}
use Rattle.pattern.proofs.Block.{fewer}
use Rattle.pattern.proofs.Running.{slot, turn_by, turn, roomy, counts-named}
use Rattle.pattern.proofs.Rounds.{Recogniser}

-- the eight states and the eight counts
pub record Held : Type 0 where
  pub states : List State
  pub counts : List ℕ

-- what the sheet guarantees of a fragment's ranges
pub record Fine (rs : List Range) : Type 0 where
  pub distinct : Distinct (map (λ (r : Range). r.name) rs)
  pub some : (r : Range) → In r rs → 1 ≤ r.u
  pub order : (r : Range) → In r rs → AtMost r r.u

-- a fragment with what the sheet guarantees of it
pub record Checked : Type 0 where
  pub fragment : Fragment
  pub fine : Fine fragment.ranges
  pub count : Between 1 8 (length fragment.ranges)

abbrev pub slots_in : Checked → Held → List Slot
slots_in f s = slots f.fragment.ranges s.states s.counts

abbrev pub X : Recogniser
X = record {
  Frag = Checked;
  St = Held;
  has = λ f m. is_in m (fragment_names f.fragment);
  start = λ f. record { states = not_begun f.fragment.ranges 8; counts = replicate 8 0 };
  step = λ f s m. record { states = moves f.fragment.join (within m) f.fragment.ranges s.states s.counts; counts = tallies (within m) f.fragment.ranges s.states s.counts };
  closed = λ f s. complete f.fragment.join (slots f.fragment.ranges s.states s.counts);
  good = λ f s. not (erred (slots f.fragment.ranges s.states s.counts));
  grows = λ f s. can_grow f.fragment.join (slots f.fragment.ranges s.states s.counts);
}

-- the slots after a move are the slots moved
pub slots-moves : (j : Join) (cl : Range → Class) (rs : List Range) (ss : List State) (cs : List ℕ) → slots rs (moves j cl rs ss cs) (tallies cl rs ss cs) ≡ map (turn_by j cl) (slots rs ss cs)
slots-moves j cl [] ss cs = refl
slots-moves j cl (r ∷ rs) [] cs = refl
slots-moves j cl (r ∷ rs) (s ∷ ss) [] = refl
slots-moves j cl (r ∷ rs) (s ∷ ss) (c ∷ cs) = ap (λ (l : List Slot). turn_by j cl (slot r s c) ∷ l) (slots-moves j cl rs ss cs)

pub slots-start : (rs : List Range) (n : ℕ) → length rs ≤ n → slots rs (not_begun rs n) (replicate n 0) ≡ map (λ (r : Range). slot r unbegun 0) rs
slots-start [] n h = refl
slots-start (r ∷ rs) zero h = absurd (not-suc-le-zero h)
slots-start (r ∷ rs) (suc n) h = ap (λ (l : List Slot). slot r unbegun 0 ∷ l) (slots-start rs n (omega arith))

-- ---- a state of a range after the fragment's first event, without error

pub data Open (j : Join) (x : Slot) : Type 0 where
  waits : x.state ≡ waiting → Open j x
  counts : x.state ≡ counting → AtMost x.range x.count → Open j x
  over : x.state ≡ done → shuffled j ≡ false → Open j x

-- a range after an event of the fragment: open, unless there is an error
module _ (j : Join) (m : ℕ) (r : Range) (one : AtMost r 1) (s : State) (c : ℕ) where
  open_turn : Open j (slot r s c) → (T (is_error (turn j m (slot r s c)).state) → ⊥) → Open j (turn j m (slot r s c))
  open_turn (waits q) fine = elim (same? m r.name) [ inl e ↦ rw (q, eq-eqb m r.name e) (counts refl one) | inr d ↦ rw (q, ne_eqb m r.name d) (waits refl) ]
  open_turn (counts q a) fine = elim (same? m r.name) [
    | inl e ↦ elim (true-or-false (has_room r c)) [
      | inl p ↦ rw (q, eq-eqb m r.name e, p) (counts refl (roomy r c p))
      | inr p ↦ absurd (fine (rw (q, eq-eqb m r.name e, p) tt))
    ]
    | inr d ↦ elim (true-or-false (shuffled j)) [
      | inl p ↦ rw (q, ne_eqb m r.name d, p) (counts refl a)
      | inr p ↦ elim (true-or-false (has_enough r c)) [
        | inl p' ↦ rw (q, ne_eqb m r.name d, p, p') (over refl p)
        | inr p' ↦ absurd (fine (rw (q, ne_eqb m r.name d, p, p') tt))
      ]
    ]
  ]
  open_turn (over q p) fine = elim (same? m r.name) [
    | inl e ↦ absurd (fine (rw (q, eq-eqb m r.name e) tt))
    | inr d ↦ rw (q, ne_eqb m r.name d) (over refl p)
  ]

  open-first : s ≡ unbegun → Open j (turn j m (slot r s c))
  open-first q = elim (same? m r.name) [ inl e ↦ rw (q, eq-eqb m r.name e) (counts refl one) | inr d ↦ rw (q, ne_eqb m r.name d) (waits refl) ]

module _ (f : Checked) where
  abbrev j : Join
  j = f.fragment.join

  abbrev rs : List Range
  rs = f.fragment.ranges

  pub one : (r : Range) → In r f.fragment.ranges → AtMost r 1
  one r i = fewer r (f.fine.some r i) (f.fine.order r i)

  -- what holds of the states that events without error lead to
  pub record Sane (s : Held) : Type 0 where
    pub ranges : map (λ (x : Slot). x.range) (slots_in f s) ≡ f.fragment.ranges
    pub each : (x : Slot) → In x (slots_in f s) → Open f.fragment.join x
    -- in a row one range alone counts
    pub lone : shuffled f.fragment.join ≡ false → (x y : Slot) → In x (slots_in f s) → In y (slots_in f s) → x.state ≡ counting → y.state ≡ counting → x.range.name ≡ y.range.name

  pub in-range : (s : Held) → map (λ (x : Slot). x.range) (slots_in f s) ≡ f.fragment.ranges → (x : Slot) → In x (slots_in f s) → In x.range f.fragment.ranges
  in-range s e x i = rw e at (in_map (λ (y : Slot). y.range) (slots_in f s) x i)

  -- the slot of a range
  pub slot_of : (s : Held) → Sane s → (r : Range) → In r f.fragment.ranges → (x : Slot) × In x (slots_in f s) × (r ≡ x.range)
  slot_of s h r i = of_map (λ (x : Slot). x.range) (slots_in f s) r (rw h.ranges i)

  pub some-slot : (s : Held) → Sane s → (x : Slot) × In x (slots_in f s)
  some-slot s h =
      let (r, i) = some_in rs f.count.0 in
      let (x, k, e) = slot_of s h r i in
      (x, k)

  -- ---- one event

  pub step-slots : (s : Held) (m : ℕ) → slots_in f (X.step f s m) ≡ map (turn f.fragment.join m) (slots_in f s)
  step-slots s m = slots-moves j (within m) rs s.states s.counts

  -- after an event that leaves each range open
  sane-after : (s : Held) (m : ℕ) → map (λ (x : Slot). x.range) (slots_in f s) ≡ rs → ((x : Slot) → In x (slots_in f s) → Open j (turn j m x)) → Sane (X.step f s m)
  sane-after s m ranges opened = record {
    ranges = ap (map (λ (x : Slot). x.range)) (step-slots s m) ∙ map-map (λ (x : Slot). x.range) (turn j m) (slots_in f s) ∙ ranges;
    each = λ y i. let (x, k, e) = of y i in rw e (opened x k);
    lone = λ p x y ix iy ex ey. sym (named p x ix ex) ∙ named p y iy ey;
  }
    where
      of : (y : Slot) → In y (slots_in f (X.step f s m)) → (x : Slot) × In x (slots_in f s) × (y ≡ turn j m x)
      of y i = of_map (turn j m) (slots_in f s) y (rw (step-slots s m) at i)

      named : shuffled j ≡ false → (y : Slot) → In y (slots_in f (X.step f s m)) → y.state ≡ counting → m ≡ y.range.name
      named p y i c = let (x, k, e) = of y i in counts-named j p m x (ap (λ (z : Slot). z.state) (sym e) ∙ c) ∙ ap (λ (z : Slot). z.range.name) (sym e)

  -- an event that is no error to any range
  pub sane-step : (s : Held) (m : ℕ) → Sane s → ((x : Slot) → In x (slots_in f s) → T (is_error (turn j m x).state) → ⊥) → Sane (X.step f s m)
  sane-step s m h fine = sane-after s m h.ranges (λ x i. open_turn j m x.range (one x.range (in-range s h.ranges x i)) x.state x.count (h.each x i) (fine x i))

  pub next_sane : (s : Held) (m : ℕ) → Sane s → T (X.has f m) → T (X.good f (X.step f s m)) → Sane (X.step f s m)
  next_sane s m h t g = sane-step s m h (λ x i u. T_not (erred (slots_in f (X.step f s m))) g (rw (step-slots s m) (errs x i u)))
    where
      errs : (x : Slot) → In x (slots_in f s) → T (is_error (turn j m x).state) → T (erred (map (turn j m) (slots_in f s)))
      errs x i u = any← (λ (y : Slot). is_error y.state) (map (turn j m) (slots_in f s)) (turn j m x) (in_map (turn j m) (slots_in f s) x i) u

  -- ---- the first event

  abbrev pub start_slots : List Slot
  start_slots = map (λ (r : Range). slot r unbegun 0) f.fragment.ranges

  pub start-slots : slots_in f (X.start f) ≡ start_slots
  start-slots = slots-start rs 8 f.count.1

  pub first : (m : ℕ) → T (X.has f m) → Sane (X.step f (X.start f) m)
  first m h = sane-after (X.start f) m ranges (λ x i. let (r, k, e) = of_map (λ (r : Range). slot r unbegun 0) rs x (rw start-slots at i) in rw e (open-first j m r (one r k) unbegun 0 refl))
    where
      ranges : map (λ (x : Slot). x.range) (slots_in f (X.start f)) ≡ rs
      ranges = ap (map (λ (x : Slot). x.range)) start-slots ∙ map-map (λ (x : Slot). x.range) (λ (r : Range). slot r unbegun 0) rs ∙ map-id rs

  pub not-closed : T (X.closed f (X.start f)) → ⊥
  not-closed t =
      let (r, i) = some_in rs f.count.0 in
      all→ (λ (x : Slot). is_idle (move j x.range x.count x.state next)) start_slots (rw start-slots at t) (slot r unbegun 0) (in_map (λ (r : Range). slot r unbegun 0) rs r i)
