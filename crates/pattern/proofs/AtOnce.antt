-- Deadlines aside: a match stays one when all its times become 0, so that a trace which is broken at once is broken (`once-broken`).
-- Assumes nothing.
use mathlib.Core.Path.{◌≡◌, refl, ◌∙◌, ap}
use mathlib.Core.Logic.{inl, inr}
use mathlib.Core.List.{List, [], ◌∷◌, ◌++◌}
use Prim.Native.Nat.{ℕ, zero, suc, ◌≤◌}
use native.Mathlib.Nat.{le_refl, le_trans}
use native.Mathlib.Omega.{arith}
use Rattle.pattern.specs.Lists.{In, Each}
use Rattle.pattern.specs.Meaning.{Event, names, Range, Fragment, fragment_names, MatchesOrdering, Kind, once, repeated}
use Rattle.pattern.specs.Meaning.{timed, Rule, names_of, TriggeredRound, TimedRound, Rounds, MatchesKind, last_time, Rising, Broken}
use Rattle.pattern.specs.Model.{fragment_at}
use Rattle.pattern.specs.Endless.{all_at, at_once, UnderWay}

-- ---- events, all at one time

module _ (now : ℕ) where
  pub once-append : (a b : List Event) → all_at now (a ++ b) ≡ all_at now a ++ all_at now b
  once-append [] b = refl
  once-append (e ∷ a) b = ap (λ (l : List Event). record { name = e.name; time = now } ∷ l) (once-append a b)

  once-parts : (w a b : List Event) → w ≡ a ++ b → all_at now w ≡ all_at now a ++ all_at now b
  once-parts w a b e = ap (all_at now) e ∙ once-append a b

  once-names : (w : List Event) → names (all_at now w) ≡ names w
  once-names [] = refl
  once-names (e ∷ w) = ap (λ (l : List ℕ). e.name ∷ l) (once-names w)

  pub once-rising : (w : List Event) → Rising now (all_at now w)
  once-rising [] = tt
  once-rising (e ∷ w) = (le_refl now, once-rising w)

  pub once_last : (d : ℕ) (w : List Event) → d ≤ now → last_time d (all_at now w) ≤ now
  once_last d [] h = h
  once_last d (e ∷ w) h = once_last now w (le_refl now)

  -- what holds of each event by its name
  pub once-each : (P : ℕ → Type 0) (w : List Event) → Each (λ (e : Event). P e.name) w → Each (λ (e : Event). P e.name) (all_at now w)
  once-each P [] h = tt
  once-each P (e ∷ w) h = (h.0, once-each P w h.1)

  pub once-ordering : (fs : List Fragment) (w : List Event) → MatchesOrdering fs w → MatchesOrdering fs (all_at now w)
  once-ordering [] w e = ap (all_at now) e
  once-ordering (f ∷ fs) w (a, b, e, m, ms) = (all_at now a, all_at now b, once-parts w a b e, rw (once-names a) m, once-ordering fs b ms)

-- ---- at once, whatever the times were

once-rounds : {R : List Event → Type 0} → ((w : List Event) → R w → R (at_once w)) → (n : ℕ) (w : List Event) → Rounds R n w → Rounds R n (at_once w)
once-rounds h zero w e = ap at_once e
once-rounds h (suc n) w (a, b, e, o, rest) = (at_once a, at_once b, once-parts 0 w a b e, h a o, once-rounds h n b rest)

once-triggered : (p : List Fragment) (i : ℕ) (w : List Event) → TriggeredRound p i w → TriggeredRound p i (at_once w)
once-triggered p i w o = record {
  first = at_once o.first;
  trigger = record { name = o.trigger.name; time = 0 };
  parts = once-parts 0 w o.first (o.trigger ∷ []) o.parts;
  ordered = once-ordering 0 p o.first o.ordered;
  named = o.named;
}

once-timed : (p q : List Fragment) (t : ℕ) (w : List Event) → TimedRound p q t w → TimedRound p q t (at_once w)
once-timed p q t w o = record {
  first = at_once o.first;
  second = at_once o.second;
  parts = once-parts 0 w o.first o.second o.parts;
  ordered = once-ordering 0 p o.first o.ordered;
  answered = once-ordering 0 q o.second o.answered;
  in_time = le_trans (once_last 0 0 o.second (le_refl 0)) (omega arith);
}

once-matches : (r : Rule) (k : Kind) (w : List Event) → MatchesKind r k w → MatchesKind r k (at_once w)
once-matches r (once i) w (inl e) = inl (ap at_once e)
once-matches r (once i) w (inr o) = inr (record {
  round = at_once o.round;
  after = at_once o.after;
  parts = once-parts 0 w o.round o.after o.parts;
  triggered = once-triggered r.p i o.round o.triggered;
  on = once-each 0 (λ (m : ℕ). In m (names_of r)) o.after o.on;
})
once-matches r (repeated i) w (n, h) = (n, once-rounds (once-triggered r.p i) n w h)
once-matches r (timed q t) w (n, h) = (n, once-rounds (once-timed r.p q t) n w h)

-- so that what is broken at once is broken
pub once-broken : (r : Rule) (trace : List Event) (latest : ℕ) → Broken r (at_once trace) 0 → Broken r trace latest
once-broken r trace latest b w c m =
    b (at_once w) (record { on = once-each 0 (λ (n : ℕ). In n (names_of r)) w c.on; rising = once-rising 0 w }) (rw (← once-append 0 trace w) (once-matches r r.kind (trace ++ w) m))

-- and a range under way is so at once
pub once-under-way : (r : Rule) (n : ℕ) (x : Range) (trace : List Event) → UnderWay r n x trace → UnderWay r n x (at_once trace)
once-under-way r n x trace u = record {
  before = at_once u.before;
  part = at_once u.part;
  parts = once-parts 0 trace u.before u.part u.parts;
  inside = once-each 0 (λ (m : ℕ). In m (fragment_names (fragment_at r n))) u.part u.inside;
  begun = rw (once-names 0 u.part) u.begun;
  unclosed = λ p. let (a, e, q, k) = u.unclosed p in (at_once a, record { name = e.name; time = 0 }, once-parts 0 u.part a (e ∷ []) q, k);
}
