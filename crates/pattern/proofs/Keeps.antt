-- The state of a rule as the model keeps it (fragment number, eight states, eight counts, the end of P) stands for a place of the plan, and one event moves both alike.
-- Assumes nothing.
use mathlib.Core.Path.{◌≡◌, refl, ◌∙◌, ap, subst}
use mathlib.Core.Logic.{◌⊎◌, inl, inr}
use mathlib.Core.Bool.{Bool, false, not}
use mathlib.Core.List.{List, [], ◌∷◌}
use Prim.Native.Nat.{ℕ}
use lib.Dec.{T, T_not, not_T}
use Rattle.pattern.specs.Lists.{In, all_of, any_of}
use Rattle.pattern.specs.Meaning.{Event, Range, Join, may_be_left_out, shuffled, Fragment, Rule}
use Rattle.pattern.specs.Recogniser.{State, idle, unbegun, waiting, counting, done, error, Class, own, sibling, next, other, has_enough, has_room, move, is_idle, is_unbegun, is_error, Slot, slots, moves, tallies, within, erred}
use Rattle.pattern.specs.Model.{RuleState, fragment_at, has, following, slots_of, released, late, class_of, moved, tallied, passes, stay, begin, step, at_rest, end_after}
use Rattle.pattern.proofs.Basics.{not-not, by_cond, both, both_r, either, either_l, is_true, is_false, in_map, of_map, all→, all←, any→, any←, not-all→}
use Rattle.pattern.proofs.Moves.{error-idle, error-stays}
use Rattle.pattern.proofs.Running.{turn_by}
use Rattle.pattern.proofs.Fragment.{X, Held, Checked, slots_in, Open, waits, counts, over, Sane, some-slot, slots-moves}

-- ---- the table: no move leads to *not begun*; *next* leaves a range that has begun idle, or is an error

module _ (j : Join) (r : Range) (c : ℕ) where
  abbrev Begun : State → Type 0
  Begun s = T (is_unbegun s) → ⊥

  not-unbegun : (s : State) (cl : Class) → T (is_unbegun (move j r c s cl)) → ⊥
  not-unbegun idle cl = λ t. t
  not-unbegun unbegun own = λ t. t
  not-unbegun unbegun sibling = λ t. t
  not-unbegun unbegun next = λ t. t
  not-unbegun unbegun other = λ t. t
  not-unbegun waiting own = λ t. t
  not-unbegun waiting sibling = λ t. t
  not-unbegun waiting next = by_cond Begun (may_be_left_out j) (λ t. t) (λ t. t)
  not-unbegun waiting other = λ t. t
  not-unbegun counting own = by_cond Begun (has_room r c) (λ t. t) (λ t. t)
  not-unbegun counting sibling = by_cond Begun (shuffled j) (λ t. t) (by_cond Begun (has_enough r c) (λ t. t) (λ t. t))
  not-unbegun counting next = by_cond Begun (has_enough r c) (λ t. t) (λ t. t)
  not-unbegun counting other = λ t. t
  not-unbegun done own = λ t. t
  not-unbegun done sibling = λ t. t
  not-unbegun done next = λ t. t
  not-unbegun done other = λ t. t
  not-unbegun error cl = λ t. t

  abbrev IdleOrError : State → Type 0
  IdleOrError s = T (not (is_idle s)) → T (is_error s)

  next-fails : (s : State) → (s ≡ counting) ⊎ ((s ≡ waiting) ⊎ (s ≡ done)) → T (not (is_idle (move j r c s next))) → T (is_error (move j r c s next))
  next-fails s (inl e) = rw e (by_cond IdleOrError (has_enough r c) (λ t. absurd t) (λ t. tt))
  next-fails s (inr (inl e)) = rw e (by_cond IdleOrError (may_be_left_out j) (λ t. absurd t) (λ t. tt))
  next-fails s (inr (inr e)) = rw e (λ t. absurd t)

pub moves-same : (j : Join) (cl cl' : Range → Class) (rs : List Range) (ss : List State) (cs : List ℕ) → ((r : Range) → cl r ≡ cl' r) → moves j cl rs ss cs ≡ moves j cl' rs ss cs
moves-same j cl cl' [] ss cs e = refl
moves-same j cl cl' (r ∷ rs) [] cs e = refl
moves-same j cl cl' (r ∷ rs) (s ∷ ss) [] e = refl
moves-same j cl cl' (r ∷ rs) (s ∷ ss) (c ∷ cs) e = rw (e r, moves-same j cl cl' rs ss cs e)

pub tallies-same : (cl cl' : Range → Class) (rs : List Range) (ss : List State) (cs : List ℕ) → ((r : Range) → cl r ≡ cl' r) → tallies cl rs ss cs ≡ tallies cl' rs ss cs
tallies-same cl cl' [] ss cs e = refl
tallies-same cl cl' (r ∷ rs) [] cs e = refl
tallies-same cl cl' (r ∷ rs) (s ∷ ss) [] e = refl
tallies-same cl cl' (r ∷ rs) (s ∷ ss) (c ∷ cs) e = rw (e r, tallies-same cl cl' rs ss cs e)

-- ---- the slots after a move

module _ (j : Join) (rs : List Range) (ss : List State) (cs : List ℕ) (cl : Range → Class) where
  abbrev pub after : Slot → Slot
  after = turn_by j cl

  abbrev pub moved-slots : List Slot
  moved-slots = slots rs (moves j cl rs ss cs) (tallies cl rs ss cs)

  pub in_moved : (x : Slot) → In x (slots rs ss cs) → In (after x) moved-slots
  in_moved x i = rw (slots-moves j cl rs ss cs) (in_map after (slots rs ss cs) x i)

  of-moved : (y : Slot) → In y moved-slots → (x : Slot) × In x (slots rs ss cs) × (y ≡ after x)
  of-moved y i = of_map after (slots rs ss cs) y (rw (slots-moves j cl rs ss cs) at i)

  -- a range to which the event is an error
  pub errs-at : (x : Slot) → In x (slots rs ss cs) → T (is_error (move j x.range x.count x.state (cl x.range))) → T (erred moved-slots)
  errs-at x i t = any← (λ (y : Slot). is_error y.state) moved-slots (after x) (in_moved x i) t

  pub all-begun : T (any_of (λ (x : Slot). is_unbegun x.state) moved-slots) → ⊥
  all-begun t =
      let (y, i, u) = any→ (λ (x : Slot). is_unbegun x.state) moved-slots t in
      let (x, k, e) = of-moved y i in
      not-unbegun j x.range x.count x.state (cl x.range) (subst (λ (z : Slot). T (is_unbegun z.state)) e u)

  still-erred : T (erred (slots rs ss cs)) → T (erred moved-slots)
  still-erred t =
      let (x, i, e) = any→ (λ (y : Slot). is_error y.state) (slots rs ss cs) t in
      errs-at x i (error-stays j x.range x.count x.state (cl x.range) e)

  erred-not-idle : T (erred moved-slots) → T (all_of (λ (x : Slot). is_idle x.state) moved-slots) → ⊥
  erred-not-idle t u =
      let (x, i, e) = any→ (λ (y : Slot). is_error y.state) moved-slots t in
      error-idle x.state e (all→ (λ (y : Slot). is_idle y.state) moved-slots u x i)

-- ---- a state that has an error: it is not at rest, and stays so

pub record Erred (r : Rule) (st : RuleState) : Type 0 where
  pub restless : T (not (at_rest r st))
  pub erred : T (erred (slots_of r st))

module _ (r : Rule) (st : RuleState) (e : Event) where
  abbrev g : Fragment
  g = fragment_at r st.fragment

  abbrev slots-then : List Slot
  slots-then = slots (fragment_at r st.fragment).ranges (moved r st e) (tallied r st e)

  abbrev some_unbegun : List Slot → Bool
  some_unbegun = any_of (λ (x : Slot). is_unbegun x.state)

  -- by an event that leads to an error the rule stays in its fragment
  pub stays-erred : T (not (released r st)) → T (erred (slots (fragment_at r st.fragment).ranges (moved r st e) (tallied r st e))) → Erred r (step r st e)
  stays-erred n t = rw stays (record { restless = not_T (at_rest r (stay r st e)) restless; erred = t })
    where
      passes-not : T (passes r st e) → ⊥
      passes-not b = erred-not-idle g.join g.ranges st.states st.counts (class_of r st e) t (both_r (not (has r st.fragment e.name)) (all_of (λ (x : Slot). is_idle x.state) slots-then) b)

      stays : step r st e ≡ stay r st e
      stays = rw (is_false (released r st) n, is_false (passes r st e) (not_T (passes r st e) passes-not))

      restless : T (at_rest r (stay r st e)) → ⊥
      restless b = elim (either (released r st) (some_unbegun slots-then) b) [
        | inl free ↦ T_not (released r st) n free
        | inr some ↦ all-begun g.join g.ranges st.states st.counts (class_of r st e) some
      ]

  pub erred-stays : Erred r st → Erred r (step r st e)
  erred-stays h = stays-erred (not_T (released r st) unreleased) (still-erred g.join g.ranges st.states st.counts (class_of r st e) h.erred)
    where
      unreleased : T (released r st) → ⊥
      unreleased b = T_not (at_rest r st) h.restless (either_l (released r st) (some_unbegun (slots_of r st)) b)

-- ---- one event, where a fragment has begun

abbrev pub held : RuleState → Held
held st = record { states = st.states; counts = st.counts }

-- the state that an event of the fragment leads to, by the fragment's recogniser
abbrev pub stepped : Rule → RuleState → Checked → Event → RuleState
stepped r st f e = record {
  fragment = st.fragment;
  states = (X.step f (held st) e.name).states;
  counts = (X.step f (held st) e.name).counts;
  end = end_after r st.fragment st.end e.time;
}

module _ (r : Rule) (st : RuleState) (f : Checked) (q : fragment_at r st.fragment ≡ f.fragment) (sane : Sane f (held st)) (n : T (not (released r st))) (e : Event) where
  abbrev cl : Range → Class
  cl = class_of r st e

  -- an event that one of the ranges sees as c, to which that is an error
  errs : (c : Class) (x : Slot) → In x (slots_in f (held st)) → class_of r st e x.range ≡ c → T (is_error (move f.fragment.join x.range x.count x.state c)) → Erred r (step r st e)
  errs c x i z t =
      let g : Fragment = fragment_at r st.fragment in
      stays-erred r st e n (errs-at g.join g.ranges st.states st.counts cl x (rw q i) (rw (z, q) t))

  -- an event that every range sees as *other*
  other-errs : ((x : Range) → class_of r st e x ≡ other) → Erred r (step r st e)
  other-errs h = let (x, i) = some-slot f (held st) sane in errs other x i (h x.range) (at x (sane.each x i))
    where
      at : (x : Slot) → Open f.fragment.join x → T (is_error (move f.fragment.join x.range x.count x.state other))
      at x (waits z) = rw z tt
      at x (counts z a) = rw z tt
      at x (over z p) = rw z tt

  -- late
  pub late-errs : T (late r st e) → Erred r (step r st e)
  late-errs l = other-errs (λ x. rw (is_true (late r st e) l))

  -- ---- an event of the fragment, in time: by the table, as the recogniser steps

  module _ (h : T (has r st.fragment e.name)) (l : T (not (late r st e))) where
    inside-class : (x : Range) → class_of r st e x ≡ within e.name x
    inside-class x = rw (is_false (late r st e) l, is_true (has r st.fragment e.name) h)

    pub inside-moved : moved r st e ≡ (X.step f (held st) e.name).states
    inside-moved =
        let g : Fragment = fragment_at r st.fragment in
        moves-same g.join cl (within e.name) g.ranges st.states st.counts inside-class
        ∙ ap (λ (x : Fragment). moves x.join (within e.name) x.ranges st.states st.counts) q

    pub inside-tallied : tallied r st e ≡ (X.step f (held st) e.name).counts
    inside-tallied =
        let g : Fragment = fragment_at r st.fragment in
        tallies-same cl (within e.name) g.ranges st.states st.counts inside-class
        ∙ ap (λ (x : Fragment). tallies (within e.name) x.ranges st.states st.counts) q

    pub inside_is : step r st e ≡ stepped r st f e
    inside_is =
        let p : passes r st e ≡ false = rw (is_true (has r st.fragment e.name) h) in
        let s : step r st e ≡ stay r st e = rw (is_false (released r st) n, p) in
        let ss : moved r st e ≡ (stepped r st f e).states = inside-moved in
        let cs : tallied r st e ≡ (stepped r st f e).counts = inside-tallied in
        s ∙ (λ i. record { fragment = st.fragment; states = ss i; counts = cs i; end = end_after r st.fragment st.end e.time })

    pub inside-errs : T (not (X.good f (X.step f (held st) e.name))) → Erred r (step r st e)
    inside-errs t = stays-erred r st e n (rw (inside-moved, inside-tallied, q) (not-not (erred (slots_in f (X.step f (held st) e.name))) t))

  -- ---- an event that is not of the fragment

  module _ (away : T (not (has r st.fragment e.name))) where
    abbrev there : Bool
    there = has r (following r st.fragment) e.name

    pub foreign-errs : T (not there) → Erred r (step r st e)
    foreign-errs t = other-errs (λ x. by_cond (λ (c : Class). c ≡ other) (late r st e) refl (rw (is_false (has r st.fragment e.name) away, is_false there t)))

    module _ (l : T (not (late r st e))) (t : T there) where
      next-class : (x : Range) → class_of r st e x ≡ next
      next-class x = rw (is_false (late r st e) l, is_false (has r st.fragment e.name) away, is_true there t)

      abbrev next_idle : Slot → Bool
      next_idle x = is_idle (move f.fragment.join x.range x.count x.state next)

      -- what every range sees as *next*, without error
      pub passing-is : T (X.closed f (held st)) → step r st e ≡ begin r (following r st.fragment) st.end e
      passing-is k = rw (is_false (released r st) n, is_true (passes r st e) (both (not (has r st.fragment e.name)) (all_of (λ (x : Slot). is_idle x.state) (slots-then r st e)) away idles))
        where
          g : Fragment
          g = fragment_at r st.fragment

          idle-at : (x : Slot) → In x (slots g.ranges st.states st.counts) → T (is_idle (move g.join x.range x.count x.state (cl x.range)))
          idle-at x i = rw (next-class x.range, q) (all→ next_idle (slots_in f (held st)) k x (rw q at i))

          idles : T (all_of (λ (x : Slot). is_idle x.state) (slots-then r st e))
          idles = all← (λ (x : Slot). is_idle x.state) (slots-then r st e) (λ y i. let (x, ix, z) = of-moved g.join g.ranges st.states st.counts cl y i in rw z (idle-at x ix))

      pub incomplete-errs : T (not (X.closed f (held st))) → Erred r (step r st e)
      incomplete-errs k =
          let (x, i, u) = not-all→ next_idle (slots_in f (held st)) k in
          errs next x i (next-class x.range) (next-fails f.fragment.join x.range x.count x.state (begun x (sane.each x i)) u)
        where
          begun : (x : Slot) → Open f.fragment.join x → (x.state ≡ counting) ⊎ ((x.state ≡ waiting) ⊎ (x.state ≡ done))
          begun x (waits z) = inr (inl z)
          begun x (counts z a) = inl z
          begun x (over z p) = inr (inr z)
