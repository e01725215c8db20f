-- "Version 1 sheets read as before" (document 02): a rule whose fragments are joined all or any and whose ranges have an upper end means what it meant (`plain-matches`, `plain-means`), so the same
-- oracles are right (`plain-right`) and every answer and verdict stays, the judge's (`plain-judged`) and the monitor's (`plain-agreement`). A fragment's match has the old types, but for a block, which
-- v = 0 does not allow more of, and for the list of blocks, where an induction says so.
-- Assumes nothing.
use mathlib.Core.Path.{◌≡◌, refl}
use mathlib.Core.Logic.Iff
use mathlib.Core.Logic.{◌⊎◌, inl, inr, ◌↔◌}
use mathlib.Core.Bool.{false}
use mathlib.Core.List.{List, [], ◌∷◌, ◌++◌}
use Prim.Native.Nat.{ℕ, zero, suc, ◌≤◌}
use native.Mathlib.Omega.{arith}
use Rattle.pattern.specs.Lists.{In, Each}
use Rattle.pattern.specs.Meaning.{Event, names, Range, AtMost, Block, Join, all, any, may_be_left_out, shuffled, Fragment, Blocks, Chosen, MatchesFragment, MatchesOrdering, Kind}
use Rattle.pattern.specs.Meaning.{once, repeated, timed, Rule, TriggeredRound, TimedRound, Rounds, Released, MatchesKind, Matches, Status, broken, whole, open', Broken, Judged}
use Rattle.pattern.specs.Judge.{Observation, trace_of, latest, EachJudged, Oracle, Right, nothing, judge_answers, judge_keeps}
use Rattle.pattern.specs.Agreement.{WellFormedRules}
use Rattle.pattern.specs.Before
use Rattle.pattern.specs.Before.{Bounded, PlainFragment, PlainKind, PlainRule}
use Rattle.pattern.proofs.Basics.{each_in}
use Rattle.pattern.proofs.Oracle.{one-judge}
use Rattle.pattern.proofs.Agreement.{agreement}

-- ---- a fragment

-- a range with an upper end has at most v occurrences
at-most-v : (r : Range) → Bounded r → (k : ℕ) → AtMost r k → k ≤ r.v
at-most-v r bounded k (inl z) = absurd (omega (arith, bounded, z))
at-most-v r bounded k (inr h) = h

-- so its blocks are what they were; nothing else in the meaning of a rule asks for v
pub plain-block : (r : Range) → Bounded r → (w : List ℕ) → Block r w ↔ Before.Block r w
plain-block r bounded w = (λ (k, e, m, q). (k, e, at-most-v r bounded k m, q), λ (k, e, m, q). (k, e, inr m, q))

blocks-in-a-row : (choice : List Range) → ((r : Range) → In r choice → Bounded r) → (w : List ℕ) → Blocks false choice w ↔ Before.Blocks choice w
blocks-in-a-row [] h w = Iff.rfl
blocks-in-a-row (r ∷ rs) h w = (
  λ (a, b, e, k, bs). (a, b, e, (plain-block r (h r (inl refl)) a).0 k, (blocks-in-a-row rs (λ x i. h x (inr i)) b).0 bs),
  λ (a, b, e, k, bs). (a, b, e, (plain-block r (h r (inl refl)) a).1 k, (blocks-in-a-row rs (λ x i. h x (inr i)) b).1 bs),
)

-- what a join that is not shuffled allows, and how its blocks stand
module _ (ranges choice : List Range) where
  plain-chosen : (j : Join) → (j ≡ all) ⊎ (j ≡ any) → Chosen (may_be_left_out j) ranges choice ↔ Before.Chosen j ranges choice
  plain-chosen j (inl e) = rw e Iff.rfl
  plain-chosen j (inr e) = rw e Iff.rfl

  plain-blocks : (j : Join) → (j ≡ all) ⊎ (j ≡ any) → ((r : Range) → In r choice → Bounded r) → (w : List ℕ) → Blocks (shuffled j) choice w ↔ Before.Blocks choice w
  plain-blocks j (inl e) h w = rw e (blocks-in-a-row choice h w)
  plain-blocks j (inr e) h w = rw e (blocks-in-a-row choice h w)

pub plain-matches : (f : Fragment) → PlainFragment f → (w : List ℕ) → MatchesFragment f w ↔ Before.MatchesFragment f w
plain-matches f p w = (
  λ h. record { choice = h.choice; once = h.once; within = h.within; chosen = (chosen h.choice).0 h.chosen; blocks = (blocks h.choice h.within).0 h.blocks },
  λ h. record { choice = h.choice; once = h.once; within = h.within; chosen = (chosen h.choice).1 h.chosen; blocks = (blocks h.choice h.within).1 h.blocks },
)
  where
    chosen : (choice : List Range) → Chosen (may_be_left_out f.join) f.ranges choice ↔ Before.Chosen f.join f.ranges choice
    chosen choice = plain-chosen f.ranges choice f.join p.join

    blocks : (choice : List Range) → ((r : Range) → In r choice → In r f.ranges) → Blocks (shuffled f.join) choice w ↔ Before.Blocks choice w
    blocks choice within = plain-blocks f.ranges choice f.join p.join (λ r i. each_in Bounded f.ranges p.ranges r (within r i)) w

-- ---- a rule

plain-ordering : (fs : List Fragment) → Each PlainFragment fs → (w : List Event) → MatchesOrdering fs w ↔ Before.MatchesOrdering fs w
plain-ordering [] p w = Iff.rfl
plain-ordering (f ∷ fs) p w = (
  λ (a, b, e, h, hs). (a, b, e, (plain-matches f p.0 (names a)).0 h, (plain-ordering fs p.1 b).0 hs),
  λ (a, b, e, h, hs). (a, b, e, (plain-matches f p.0 (names a)).1 h, (plain-ordering fs p.1 b).1 hs),
)

-- rounds of the one kind are rounds of the other
rounds-alike : {R S : List Event → Type 0} → ((w : List Event) → R w → S w) → (n : ℕ) (w : List Event) → Rounds R n w → Rounds S n w
rounds-alike h zero w e = e
rounds-alike h (suc n) w (a, b, e, round, rest) = (a, b, e, h a round, rounds-alike h n b rest)

module _ (p : List Fragment) (plain : Each PlainFragment p) where
  ordered : (w : List Event) → MatchesOrdering p w ↔ Before.MatchesOrdering p w
  ordered = plain-ordering p plain

  triggered : (i : ℕ) (w : List Event) → TriggeredRound p i w ↔ Before.TriggeredRound p i w
  triggered i w = (
    λ h. record { first = h.first; trigger = h.trigger; parts = h.parts; ordered = (ordered h.first).0 h.ordered; named = h.named },
    λ h. record { first = h.first; trigger = h.trigger; parts = h.parts; ordered = (ordered h.first).1 h.ordered; named = h.named },
  )

  timed-round : (q : List Fragment) → Each PlainFragment q → (t : ℕ) (w : List Event) → TimedRound p q t w ↔ Before.TimedRound p q t w
  timed-round q plain-q t w = (
    λ h. record { first = h.first; second = h.second; parts = h.parts; ordered = (ordered h.first).0 h.ordered; answered = (plain-ordering q plain-q h.second).0 h.answered; in_time = h.in_time },
    λ h. record { first = h.first; second = h.second; parts = h.parts; ordered = (ordered h.first).1 h.ordered; answered = (plain-ordering q plain-q h.second).1 h.answered; in_time = h.in_time },
  )

module _ (r : Rule) (plain : PlainRule r) where
  released : (i : ℕ) (w : List Event) → Released r i w ↔ Before.Released r i w
  released i w = (
    λ h. record { round = h.round; after = h.after; parts = h.parts; triggered = (triggered r.p plain.p i h.round).0 h.triggered; on = h.on },
    λ h. record { round = h.round; after = h.after; parts = h.parts; triggered = (triggered r.p plain.p i h.round).1 h.triggered; on = h.on },
  )

  plain-kind : (k : Kind) → PlainKind k → (w : List Event) → MatchesKind r k w ↔ Before.MatchesKind r k w
  plain-kind (once i) p w = (λ h. to h, λ h. from h)
    where
      to : (w ≡ []) ⊎ Released r i w → (w ≡ []) ⊎ Before.Released r i w
      to (inl e) = inl e
      to (inr h) = inr ((released i w).0 h)

      from : (w ≡ []) ⊎ Before.Released r i w → (w ≡ []) ⊎ Released r i w
      from (inl e) = inl e
      from (inr h) = inr ((released i w).1 h)
  plain-kind (repeated i) p w = (λ (n, h). (n, rounds-alike (λ a. (triggered r.p plain.p i a).0) n w h), λ (n, h). (n, rounds-alike (λ a. (triggered r.p plain.p i a).1) n w h))
  plain-kind (timed q t) p w = (λ (n, h). (n, rounds-alike (λ a. (timed-round r.p plain.p q p t a).0) n w h), λ (n, h). (n, rounds-alike (λ a. (timed-round r.p plain.p q p t a).1) n w h))

  pub plain-means : (w : List Event) → Matches r w ↔ Before.Matches r w
  plain-means w = plain-kind r.kind plain.kind w

  plain-broken : (trace : List Event) (now : ℕ) → Broken r trace now ↔ Before.Broken r trace now
  plain-broken trace now = (λ b w c m. b w c ((plain-means (trace ++ w)).1 m), λ b w c m. b w c ((plain-means (trace ++ w)).0 m))

  plain-status : (trace : List Event) (now : ℕ) (s : Status) → Judged r trace now s ↔ Before.Judged r trace now s
  plain-status trace now broken = plain-broken trace now
  plain-status trace now whole = plain-means trace
  plain-status trace now open' = Iff.and (Iff.not (plain-broken trace now)) (Iff.not (plain-means trace))

-- ---- the judge

plain-each : (rules : List Rule) → Each PlainRule rules → (os : List Observation) (ss : List Status) → EachJudged rules os ss ↔ Before.EachJudged rules os ss
plain-each [] p os [] = Iff.rfl
plain-each [] p os (s ∷ ss) = Iff.rfl
plain-each (r ∷ rs) p os [] = Iff.rfl
plain-each (r ∷ rs) p os (s ∷ ss) = Iff.and (plain-status r p.0 (trace_of r os) (latest os) s) (plain-each rs p.1 os ss)

module _ (rules : List Rule) (plain : Each PlainRule rules) where
  pub plain-right : (oracle : Oracle) → Right rules oracle ↔ Before.Right rules oracle
  plain-right oracle = (λ h os n. (plain-each rules plain os (oracle os)).0 (h os n), λ h os n. (plain-each rules plain os (oracle os)).1 (h os n))

  -- of two judges, one by the meaning and one by what it was before, each answer is the same, and what they keep
  pub plain-judged : (now before : Oracle) → Right rules now → Before.Right rules before → (os : List Observation)
      → (judge_answers now nothing os ≡ judge_answers before nothing os) × (judge_keeps now nothing os ≡ judge_keeps before nothing os)
  plain-judged now before p q os = one-judge rules now before p ((plain-right before).1 q) os

  -- demand 3 with the judge of before
  pub plain-agreement : WellFormedRules rules → (os : List Observation) → Before.Agreement rules os
  plain-agreement w os =
      let a = agreement rules w os in
      record { judged = (a.judged.0, (plain-right a.judged.0).0 a.judged.1); agrees = λ oracle q. a.agrees oracle ((plain-right oracle).1 q) }
