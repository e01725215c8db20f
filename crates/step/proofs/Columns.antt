-- A fragment that has begun: its slots are what the numbers say, place by place; nothing lacks exactly where the fragment is complete, and every range is full exactly where it cannot grow.
-- Assumes nothing.
use mathlib.Core.Path.{◌≡◌, refl, sym, ◌∙◌, ap, subst}
use mathlib.Core.Bool.{Bool, true, false, cond, not, ◌&&◌}
use mathlib.Core.List.{List}
use Prim.Native.Nat.{ℕ, ◌≤◌, ◌<◌}
use native.Mathlib.Omega.{arith}
use lib.Dec.{T, ltb, eqb, not_T, T_not}
use lib.ListN.{length, get_or, get_or-map, length-map}
use borrow.Author.Tests.{lt-ltb, ltb-true, eq-eqb, eqb-true, eqb-false}
use Rattle.pattern.specs.Lists.{In, any_of}
use Rattle.pattern.specs.Meaning.{Range, Join, may_be_left_out, shuffled, Fragment, Rule}
use Rattle.pattern.specs.Recogniser.{State, idle, counting, error, state_number, own, next, has_enough, has_room, move, is_idle, is_unbegun, is_counting, is_error, Slot, erred, complete, can_grow}
use Rattle.pattern.specs.Model.{fragment_at, slots_of, join_of, at_rest}
use Rattle.pattern.specs.Model as M
use Rattle.pattern.proofs.Basics.{is_true, is_false, all→, all←, any→, any←}
use Rattle.pattern.proofs.Running.{slot}
use Rattle.pattern.proofs.Fragment.{Checked, Open, Sane}
use Rattle.pattern.proofs.Fragment as F
use Rattle.pattern.proofs.Keeps.{held}
use Rattle.recogniser.specs.Numbers.{state_of}
use Rattle.layout.specs.Pages.{range_at}
use Rattle.names.specs.Names.{member}
use Rattle.masks.proofs.Members.{member-mask_n}
use Rattle.rule_state.specs.declared.RuleState.{RuleState}
use Rattle.tables.specs.Cells.{Cell}
use Rattle.fragment.specs.Fragments.{ranges_of}
use Rattle.step.specs.Shows.{InPlay, waits, counts, closed, would_err, Counting, errs_to}
use Rattle.step.proofs.Sound.{Sound}
use Rattle.step.proofs.Indices.{Long, slot_at, slot-ranges, slot-at, placed}
use Rattle.step.proofs.Sets.{same_set, none_in, in-none, ranges-are}

-- two tests that imply each other are one
same_test : (a b : Bool) → (T a → T b) → (T b → T a) → a ≡ b
same_test true b f g = sym (is_true b (f tt))
same_test false true f g = absurd (g tt)
same_test false false f g = refl

no_test : (b : Bool) → (T b → ⊥) → b ≡ false
no_test b h = is_false b (not_T b h)

-- ---- a range in play

module _ {j : Join} {r : Range} {state count : ℕ} where
  -- *next* leaves it idle or is an error
  next-or : InPlay j r state count → is_idle (move j r count (state_of state) next) ≡ not (is_error (move j r count (state_of state) next))
  next-or (waits z y) = rw z (look (may_be_left_out j))
    where
      look : (b : Bool) → is_idle (cond b idle error) ≡ not (is_error (cond b idle error))
      look true = refl
      look false = refl
  next-or (counts z y) = rw z (look (has_enough r count))
    where
      look : (b : Bool) → is_idle (cond b idle error) ≡ not (is_error (cond b idle error))
      look true = refl
      look false = refl
  next-or (closed z y) = rw z

  -- *own* makes it count or is an error
  own-or : InPlay j r state count → is_counting (move j r count (state_of state) own) ≡ not (is_error (move j r count (state_of state) own))
  own-or (waits z y) = rw z
  own-or (counts z y) = rw z (look (has_room r count))
    where
      look : (b : Bool) → is_counting (cond b counting error) ≡ not (is_error (cond b counting error))
      look true = refl
      look false = refl
  own-or (closed z y) = rw z

  opens : InPlay j r state count → Open j (slot r (state_of state) count)
  opens (waits z y) = F.waits (rw z)
  opens (counts z y) = F.counts (rw z) y
  opens (closed z y) = F.over (rw z) y

  -- it counts where its number says so
  counts-three : InPlay j r state count → state_of state ≡ counting → state ≡ 3
  counts-three (waits z y) e = let q : ◌≡◌ {A = ℕ} 2 3 = ap (λ (n : ℕ). state_number (state_of n)) (sym z) ∙ ap state_number e in absurd (omega (arith, q))
  counts-three (counts z y) e = z
  counts-three (closed z y) e = let q : ◌≡◌ {A = ℕ} 4 3 = ap (λ (n : ℕ). state_number (state_of n)) (sym z) ∙ ap state_number e in absurd (omega (arith, q))

  begun-state : InPlay j r state count → (is_unbegun (state_of state) ≡ false) × (is_error (state_of state) ≡ false)
  begun-state (waits z y) = (rw z, rw z)
  begun-state (counts z y) = (rw z, rw z)
  begun-state (closed z y) = (rw z, rw z)

-- ---- the ranges of a fragment that has begun

module _ {rule : Rule} {st : RuleState} {S : M.RuleState} (sound : Sound rule) (w : Counting rule st S) where
  abbrev f : Fragment
  f = fragment_at rule S.fragment

  abbrev size : ℕ
  size = length (fragment_at rule S.fragment).ranges

  abbrev pub checked : Checked
  checked = record { fragment = fragment_at rule S.fragment; fine = sound.fine S.fragment w.inside; count = sound.count S.fragment w.inside }

  pub few : size ≤ 8
  few = (sound.count S.fragment w.inside).1

  pub states-eight : length S.states ≡ 8
  states-eight = sym (ap length w.states) ∙ length-map st.states state_of ∙ w.ranges.eight_states

  pub long : Long (fragment_at rule S.fragment).ranges S.states S.counts
  long = record { states = omega (arith, few, states-eight); counts = omega (arith, few, w.ranges.eight_counts) }

  -- the model's state at a place
  pub state-at : (k : ℕ) → get_or S.states k idle ≡ state_of (get_or st.states k 0)
  state-at k = ap (λ (l : List State). get_or l k idle) (sym w.states) ∙ get_or-map state_of st.states k 0

  abbrev pub numbered : ℕ → Slot
  numbered k = slot (range_at rule S.fragment k) (state_of (get_or st.states k 0)) (get_or S.counts k 0)

  slot_is : (k : ℕ) → slot_at (fragment_at rule S.fragment).ranges S.states S.counts k ≡ numbered k
  slot_is k = ap (λ (s : State). slot (range_at rule S.fragment k) s (get_or S.counts k 0)) (state-at k)

  pub slot-in : (k : ℕ) → k < size → In (numbered k) (slots_of rule S)
  slot-in k g = subst (λ (x : Slot). In x (slots_of rule S)) (slot_is k) (slot-at (fragment_at rule S.fragment).ranges S.states S.counts k long g)

  of-slot : (x : Slot) → In x (slots_of rule S) → (k : ℕ) × (k < size) × (x ≡ numbered k)
  of-slot x i = let p = placed (fragment_at rule S.fragment).ranges S.states S.counts x i in (p.place, p.inside, p.is ∙ slot_is p.place)

  pub sane : Sane checked (held S)
  sane = record {
    ranges = slot-ranges (fragment_at rule S.fragment).ranges S.states S.counts long;
    each = λ x i. (let (k, g, e) = of-slot x i in subst (Open f.join) (sym e) (opens (w.ranges.each k g)));
    lone = λ p x y ix iy ex ey. named p x (of-slot x ix) ex ∙ sym (named p y (of-slot y iy) ey);
  }
    where
      named : shuffled f.join ≡ false → (x : Slot) → (k : ℕ) × (k < size) × (x ≡ numbered k) → x.state ≡ counting → x.range.name ≡ (range_at rule S.fragment st.current).name
      named p x (k, g, e) z = ap (λ (y : Slot). y.range.name) e ∙ ap (λ (m : ℕ). (range_at rule S.fragment m).name) (look (eqb k st.current) refl)
        where
          three : get_or st.states k 0 ≡ 3
          three = counts-three (w.ranges.each k g) (ap (λ (y : Slot). y.state) (sym e) ∙ z)

          look : (b : Bool) → eqb k st.current ≡ b → k ≡ st.current
          look true q = eqb-true k st.current q
          look false q = absurd ((w.lone p).alone k g (eqb-false k st.current q) three)

  -- no range is before its first event, and none has an error
  none_so : (t : State → Bool) → ((k : ℕ) → k < size → t (state_of (get_or st.states k 0)) ≡ false) → any_of (λ (x : Slot). t x.state) (slots_of rule S) ≡ false
  none_so t h = no_test (any_of (λ (x : Slot). t x.state) (slots_of rule S)) (λ u. no (any→ (λ (y : Slot). t y.state) (slots_of rule S) u))
    where
      no : (x : Slot) × In x (slots_of rule S) × T (t x.state) → ⊥
      no (x, i, u) = let (k, g, e) = of-slot x i in subst T (ap (λ (y : Slot). t y.state) e ∙ h k g) u

  pub not-erred : erred (slots_of rule S) ≡ false
  not-erred = none_so is_error (λ k g. (begun-state (w.ranges.each k g)).1)

  pub restless : at_rest rule S ≡ false
  restless = rw (w.unfree, none_so is_unbegun (λ k g. (begun-state (w.ranges.each k g)).0))

  -- ---- the two sets

  -- a bit of a set, of a range of the fragment
  module _ (k : ℕ) (g : k < size) where
    pub lacking-bit : member st.lacking k ≡ errs_to rule S.fragment S.counts st next k
    lacking-bit = ap (λ (s : ℕ). member s k) w.ranges.lacking ∙ member-mask_n (would_err rule S.fragment S.counts st next) 8 k (omega (arith, g, few)) ∙ rw (lt-ltb k size g)

    pub full-bit : member st.full k ≡ errs_to rule S.fragment S.counts st own k
    full-bit = ap (λ (s : ℕ). member s k) w.ranges.full ∙ member-mask_n (would_err rule S.fragment S.counts st own) 8 k (omega (arith, g, few)) ∙ rw (lt-ltb k size g)

  abbrev idles : Slot → Bool
  idles x = is_idle (move f.join x.range x.count x.state next)

  pub complete-is : eqb st.lacking 0 ≡ complete (join_of rule S) (slots_of rule S)
  complete-is = same_test (eqb st.lacking 0) (complete (join_of rule S) (slots_of rule S)) to from
    where
      to : T (eqb st.lacking 0) → T (complete (join_of rule S) (slots_of rule S))
      to t = all← idles (slots_of rule S) (λ x i. (let (k, g, e) = of-slot x i in subst (λ (y : Slot). T (idles y)) (sym e) (at k g)))
        where
          none : st.lacking ≡ 0
          none = eqb-true st.lacking 0 (is_true (eqb st.lacking 0) t)

          at : (k : ℕ) → k < size → T (idles (numbered k))
          at k g =
              let e = in-none (would_err rule S.fragment S.counts st next) (sym w.ranges.lacking ∙ none) k (omega (arith, g, few)) in
              rw (next-or (w.ranges.each k g), rw (lt-ltb k size g) at e) tt

      from : T (complete (join_of rule S) (slots_of rule S)) → T (eqb st.lacking 0)
      from t = rw (eq-eqb st.lacking 0 (w.ranges.lacking ∙ none_in (would_err rule S.fragment S.counts st next) (λ k g. at k (ltb k size) refl))) tt
        where
          at : (k : ℕ) (a : Bool) → ltb k (size) ≡ a → (a && errs_to rule S.fragment S.counts st next k) ≡ false
          at k false q = refl
          at k true q =
              let g = ltb-true k size q in
              let u = all→ idles (slots_of rule S) t (numbered k) (slot-in k g) in
              is_false (errs_to rule S.fragment S.counts st next k) (rw (next-or (w.ranges.each k g)) at u)

  abbrev grows : Slot → Bool
  grows x = is_counting (move f.join x.range x.count x.state own)

  module _ {i cell : ℕ} (c : Cell rule S.fragment i cell) where
    -- every range is full
    abbrev every_full : Type 0
    every_full = (k : ℕ) → k < size → errs_to rule S.fragment S.counts st own k ≡ true

    full→ : st.full ≡ ranges_of cell → every_full
    full→ e k g = sym (full-bit k g) ∙ ap (λ (s : ℕ). member s k) (e ∙ ranges-are cell size c.less) ∙ member-mask_n (λ m. ltb m size) 8 k (omega (arith, g, few)) ∙ lt-ltb k size g

    full← : every_full → st.full ≡ ranges_of cell
    full← h = w.ranges.full ∙ same_set (would_err rule S.fragment S.counts st own) (λ k. ltb k size) (λ k g. at k (ltb k size) refl) ∙ sym (ranges-are cell size c.less)
      where
        at : (k : ℕ) (a : Bool) → ltb k (size) ≡ a → (a && errs_to rule S.fragment S.counts st own k) ≡ a
        at k false q = refl
        at k true q = h k (ltb-true k size q)

    pub grows-is : eqb st.full (ranges_of cell) ≡ not (can_grow (join_of rule S) (slots_of rule S))
    grows-is = same_test (eqb st.full (ranges_of cell)) (not (can_grow (join_of rule S) (slots_of rule S))) to from
      where
        to : T (eqb st.full (ranges_of cell)) → T (not (can_grow (join_of rule S) (slots_of rule S)))
        to t = not_T (can_grow (join_of rule S) (slots_of rule S)) (λ u. no (any→ grows (slots_of rule S) u))
          where
            no : (x : Slot) × In x (slots_of rule S) × T (grows x) → ⊥
            no (x, i', u) =
                let (k, g, e) = of-slot x i' in
                let all-full = full→ (eqb-true st.full (ranges_of cell) (is_true (eqb st.full (ranges_of cell)) t)) k g in
                subst T (ap grows e ∙ own-or (w.ranges.each k g) ∙ ap not all-full) u

        from : T (not (can_grow (join_of rule S) (slots_of rule S))) → T (eqb st.full (ranges_of cell))
        from t = rw (eq-eqb st.full (ranges_of cell) (full← (λ k g. look k g (errs_to rule S.fragment S.counts st own k) refl))) tt
          where
            look : (k : ℕ) → k < size → (b : Bool) → errs_to rule S.fragment S.counts st own k ≡ b → b ≡ true
            look k g true q = refl
            look k g false q = absurd (T_not (can_grow (join_of rule S) (slots_of rule S)) t (any← grows (slots_of rule S) (numbered k) (slot-in k g) (rw (own-or (w.ranges.each k g), q) tt)))
