-- The monitor as a pure function (document 01, "The recogniser of a range" and "Observing"): for each rule its fragment number, eight recogniser states, eight counts and
-- the end time of P; for the book the latest time, the number taken and the verdict. The table of moves knows no time; the deadline is added in `late` and `overdue`.
-- Assumes nothing.
use Rattle.std.specs.Prelude.{Bool, true, false, cond, not, ◌&&◌, ◌||◌, List, [], ◌∷◌, ◌++◌, ℕ, suc, ◌+◌, leb, length, get_or, replicate}
use Rattle.std.proofs.Math.Option.{Option, none, some}
use Rattle.pattern.specs.Lists.{is_in, all_of, any_of}
use Rattle.pattern.specs.Meaning.{Event, Range, Join, all, Fragment, fragment_names, Kind, once, repeated, timed, Rule, names_of, Status, broken, whole, open'}
use Rattle.pattern.specs.Judge.{Observation, event, clock, time_of, Verdict, all_whole, some_open, broken_at, Answer, verdict, refused, verdict_of, refusal}
use Rattle.pattern.specs.Recogniser.{State, idle, Class, next, other, Slot, slots, moves, tallies, not_begun, within, is_idle, is_unbegun, erred, complete, can_grow}

-- ---- the round of a rule

-- "A trigger counts as a last fragment of one range [1,1]"
abbrev pub trigger_fragment : ℕ → Fragment
trigger_fragment i = record { join = all; ranges = record { name = i; u = 1; v = 1 } ∷ [] }

abbrev pub last_fragments : Kind → List Fragment
last_fragments (once i) = trigger_fragment i ∷ []
last_fragments (repeated i) = trigger_fragment i ∷ []
last_fragments (timed q t) = q

abbrev pub round_of : Rule → List Fragment
round_of r = r.p ++ last_fragments r.kind

abbrev pub no_fragment : Fragment
no_fragment = record { join = all; ranges = [] }

-- the one test of time: now is at most t after the end of P
abbrev pub in_time : Kind → ℕ → ℕ → Bool
in_time (once i) end now = true
in_time (repeated i) end now = true
in_time (timed q t) end now = leb now (end + t)

abbrev pub is_once : Kind → Bool
is_once (once i) = true
is_once (repeated i) = false
is_once (timed q t) = false

-- ---- one rule

-- "for each rule, its fragment number, eight recogniser states, .. and the end time of P"; "The state keeps eight counts for a fragment where it kept one"
pub record RuleState : Type 0 where
  pub fragment : ℕ
  pub states : List State
  pub counts : List ℕ
  pub end : ℕ

module _ (r : Rule) where
  abbrev pub fragment_at : ℕ → Fragment
  fragment_at n = get_or (round_of r) n no_fragment

  abbrev pub has : ℕ → ℕ → Bool
  has n m = is_in m (fragment_names (fragment_at n))

  abbrev pub is_last : ℕ → Bool
  is_last n = leb (length (round_of r)) (suc n)

  -- "the first fragment follows the last"
  abbrev pub following : ℕ → ℕ
  following n = cond (is_last n) 0 (suc n)

  -- fragment n comes after P: it is the trigger's or one of Q's
  abbrev pub after_p : ℕ → Bool
  after_p n = leb (length r.p) n

  abbrev pub slots_of : RuleState → List Slot
  slots_of st = slots (fragment_at st.fragment).ranges st.states st.counts

  abbrev pub join_of : RuleState → Join
  join_of st = (fragment_at st.fragment).join

  -- nothing has come
  abbrev pub fresh : RuleState
  fresh = record { fragment = 0; states = not_begun (fragment_at 0).ranges 8; counts = replicate 8 0; end = 0 }

  -- "Kind 0 is released by its first valid trigger": only a released rule of kind 0 stands at its trigger's fragment
  abbrev pub released : RuleState → Bool
  released st = is_once r.kind && after_p st.fragment

  -- a Q event after end of P + t: the event is of the current fragment, or else it could only be of the following one
  abbrev pub late : RuleState → Event → Bool
  late st e = after_p (cond (has st.fragment e.name) st.fragment (following st.fragment)) && not (in_time r.kind st.end e.time)

  -- how a range of the current fragment sees an event; an event that is late is *other*, an error to every range
  abbrev pub class_of : RuleState → Event → Range → Class
  class_of st e range =
      cond (late st e) other
      (cond (has st.fragment e.name) (within e.name range)
      (cond (has (following st.fragment) e.name) next other))

  -- the end of P after an event of fragment n
  abbrev pub end_after : ℕ → ℕ → ℕ → ℕ
  end_after n end now = cond (after_p n) end now

  -- "the first event of the following one"
  abbrev pub begin : ℕ → ℕ → Event → RuleState
  begin n end e =
      let f : Fragment = fragment_at n in
      let start : List State = not_begun f.ranges 8 in
      record {
        fragment = n;
        states = cond (is_once r.kind && after_p n) (replicate 8 idle) (moves f.join (within e.name) f.ranges start (replicate 8 0));
        counts = tallies (within e.name) f.ranges start (replicate 8 0);
        end = end_after n end e.time;
      }

  -- the states after the event, by the table, and the counts
  abbrev pub moved : RuleState → Event → List State
  moved st e = moves (join_of st) (class_of st e) (fragment_at st.fragment).ranges st.states st.counts

  abbrev pub tallied : RuleState → Event → List ℕ
  tallied st e = tallies (class_of st e) (fragment_at st.fragment).ranges st.states st.counts

  -- "seen as next by every range of the fragment, without error"
  abbrev pub passes : RuleState → Event → Bool
  passes st e = not (has st.fragment e.name) && all_of (λ (x : Slot). is_idle x.state) (slots (fragment_at st.fragment).ranges (moved st e) (tallied st e))

  abbrev pub stay : RuleState → Event → RuleState
  stay st e = record {
    fragment = st.fragment;
    states = moved st e;
    counts = tallied st e;
    end = end_after st.fragment st.end e.time;
  }

  -- one event on one of the rule's names
  abbrev pub step : RuleState → Event → RuleState
  step st e = cond (released st) st (cond (passes st e) (begin (following st.fragment) st.end e) (stay st e))

  -- ---- the status

  -- nothing has come, or the rule is released
  abbrev pub at_rest : RuleState → Bool
  at_rest st = released st || any_of (λ (x : Slot). is_unbegun x.state) (slots_of st)

  -- the rule's next event would have to be of Q and in time: Q has begun and is not complete, or P is complete and cannot grow
  abbrev pub pressed : RuleState → Bool
  pressed st =
      let done : Bool = complete (join_of st) (slots_of st) in
      cond (after_p st.fragment)
      (not (done && is_last st.fragment))
      (after_p (following st.fragment) && done && not (can_grow (join_of st) (slots_of st)))

  -- broken by the clock
  abbrev pub overdue : RuleState → ℕ → Bool
  overdue st now = pressed st && not (in_time r.kind st.end now)

  abbrev pub status_at : RuleState → ℕ → Status
  status_at st now =
      cond (at_rest st) whole
      (cond (erred (slots_of st) || overdue st now) broken
      (cond (complete (join_of st) (slots_of st) && is_last st.fragment) whole open'))

  -- a rule's state after an observation: one that is not its own changes nothing
  abbrev pub after : RuleState → Observation → RuleState
  after st (event n t) = cond (is_in n (names_of r)) (step st (record { name = n; time = t })) st
  after st (clock t) = st

-- ---- the book's monitor

pub record Monitor : Type 0 where
  pub rules : List RuleState
  pub latest : ℕ
  pub taken : ℕ
  pub verdict : Verdict

abbrev pub fresh_states : List Rule → List RuleState
fresh_states [] = []
fresh_states (r ∷ rs) = fresh r ∷ fresh_states rs

-- "A fresh monitor has taken nothing and its latest time is 0"
abbrev pub fresh_monitor : List Rule → Monitor
fresh_monitor rules = record { rules = fresh_states rules; latest = 0; taken = 0; verdict = all_whole }

abbrev pub after_all : List Rule → List RuleState → Observation → List RuleState
after_all [] sts o = []
after_all (r ∷ rs) [] o = []
after_all (r ∷ rs) (st ∷ sts) o = after r st o ∷ after_all rs sts o

abbrev pub statuses : List Rule → List RuleState → ℕ → List Status
statuses [] sts now = []
statuses (r ∷ rs) [] now = []
statuses (r ∷ rs) (st ∷ sts) now = status_at r st now ∷ statuses rs sts now

pub record Reply : Type 0 where
  pub answer : Answer
  pub monitor : Monitor

module _ (rules : List Rule) where
  abbrev pub take : Monitor → Observation → Monitor
  take m o =
      let sts : List RuleState = after_all rules m.rules o in
      record { rules = sts; latest = time_of o; taken = suc m.taken; verdict = verdict_of (suc m.taken) (statuses rules sts (time_of o)) }

  abbrev pub or_refuse : Monitor → Observation → Option ℕ → Reply
  or_refuse m o (some n) = record { answer = refused n; monitor = m }
  or_refuse m o none = let m' : Monitor = take m o in record { answer = verdict m'.verdict; monitor = m' }

  -- "A stopped book gives that same answer to every later observation, unchecked"
  abbrev pub or_stopped : Monitor → Observation → Verdict → Reply
  or_stopped m o (broken_at k b) = record { answer = verdict (broken_at k b); monitor = m }
  or_stopped m o all_whole = or_refuse m o (refusal m.latest m.taken o)
  or_stopped m o (some_open b) = or_refuse m o (refusal m.latest m.taken o)

  abbrev pub observe : Monitor → Observation → Reply
  observe m o = or_stopped m o m.verdict

  abbrev pub answers : Monitor → List Observation → List Answer
  answers m [] = []
  answers m (o ∷ os) = (observe m o).answer ∷ answers (observe m o).monitor os

  abbrev pub monitor_after : Monitor → List Observation → Monitor
  monitor_after m [] = m
  monitor_after m (o ∷ os) = monitor_after (observe m o).monitor os
