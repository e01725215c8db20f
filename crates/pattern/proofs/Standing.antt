-- The status of a rule at the place where its trace leads is the status that the trace has by its meaning.
-- Assumes nothing.
use mathlib.Core.Path.{sym, subst}
use mathlib.Core.Bool.{Bool, true, false, cond, not}
use mathlib.Core.List.{List, [], ◌++◌, append-nil}
use Prim.Native.Nat.{ℕ, ◌+◌, ◌≤◌}
use native.Mathlib.Nat.{le_trans}
use native.Mathlib.Omega.{arith}
use lib.Dec.{T, leb→le, le→leb, T_not}
use Rattle.pattern.specs.Lists.{Distinct}
use Rattle.pattern.specs.Meaning.{Event, Kind, once, repeated, timed, names_of, Matches, last_time, Rising, Status, broken, whole, open', Broken, Judged}
use Rattle.pattern.specs.Model.{in_time}
use Rattle.pattern.proofs.Rounds.{Place, fresh, To, Fits, run, run_fits, run→, run←, is_whole, whole→, whole←}
use Rattle.pattern.proofs.Fragment.{X}
use Rattle.pattern.proofs.Alive.{laws}
use Rattle.pattern.proofs.Deadline.{is_broken, broken→, broken←}
use Rattle.pattern.proofs.Orderings.{rising-append, rising-from}
use Rattle.pattern.proofs.Rules.{CheckedRule, rule_of, plan_of, ending_of, matches→, matches←, on←, chained}

-- the two facts of the test of time
pub earlier : (k : Kind) (end a b : ℕ) → a ≤ b → T (in_time k end b) → T (in_time k end a)
earlier (once i) end a b l t = tt
earlier (repeated i) end a b l t = tt
earlier (timed q t) end a b l h = le→leb a (end + t) (le_trans l (leb→le b (end + t) h))

pub itself : (k : Kind) (a : ℕ) → T (in_time k a a)
itself (once i) a = tt
itself (repeated i) a = tt
itself (timed q t) a = le→leb a (a + t) (omega arith)

module _ (c : CheckedRule) where
  abbrev pub place_after : List Event → Place X
  place_after = run X laws (plan_of c) (ending_of c.kind) fresh

  abbrev pub status_of : Place X → ℕ → Status
  status_of p now = cond (is_broken X laws (plan_of c) p now) broken (cond (is_whole X laws (plan_of c) (ending_of c.kind) p) whole open')

  module _ (d : Distinct (names_of (rule_of c))) (trace : List Event) (latest : ℕ) (rising : Rising 0 trace) (past : last_time 0 trace ≤ latest) where
    abbrev here : Place X
    here = place_after trace

    fits : Fits X laws (plan_of c) (ending_of c.kind) here
    fits = run_fits X laws (plan_of c) (ending_of c.kind) fresh trace (chained c d) tt

    to : (w : List Event) → Rising latest w → Matches (rule_of c) (trace ++ w) → To X laws (plan_of c) (ending_of c.kind) here w
    to w r m = run→ X laws (plan_of c) (ending_of c.kind) fresh trace w (chained c d) tt (matches→ c (trace ++ w) (rising-append 0 trace w rising (rising-from (last_time 0 trace) latest w past r)) m)

    of : (w : List Event) → To X laws (plan_of c) (ending_of c.kind) here w → Matches (rule_of c) (trace ++ w)
    of w h = matches← c (trace ++ w) (run← X laws (plan_of c) (ending_of c.kind) fresh trace w h)

    pub is-broken : T (is_broken X laws (plan_of c) here latest) → Broken (rule_of c) trace latest
    is-broken b w k m = broken→ X laws (plan_of c) (earlier (rule_of c).kind) (itself (rule_of c).kind) (ending_of c.kind) here latest w fits b k.rising (to w k.rising m)

    pub not-broken : T (not (is_broken X laws (plan_of c) here latest)) → ¬ Broken (rule_of c) trace latest
    not-broken b k =
        let g = broken← X laws (plan_of c) (earlier (rule_of c).kind) (itself (rule_of c).kind) (ending_of c.kind) here latest fits b in
        k g.w (record { on = on← c g.w g.on; rising = g.rising }) (of g.w g.goes)

    is-whole : T (is_whole X laws (plan_of c) (ending_of c.kind) here) → Matches (rule_of c) trace
    is-whole b = subst (λ (l : List Event). Matches (rule_of c) l) (append-nil trace) (of [] (whole→ X laws (plan_of c) (ending_of c.kind) here b))

    not-whole : T (not (is_whole X laws (plan_of c) (ending_of c.kind) here)) → ¬ Matches (rule_of c) trace
    not-whole b m =
        let m' : Matches (rule_of c) (trace ++ []) = subst (λ (l : List Event). Matches (rule_of c) l) (sym (append-nil trace)) m in
        T_not (is_whole X laws (plan_of c) (ending_of c.kind) here) b (whole← X laws (plan_of c) (ending_of c.kind) here (to [] tt m'))

    pub judged : Judged (rule_of c) trace latest (status_of here latest)
    judged = look (is_broken X laws (plan_of c) here latest) (is_whole X laws (plan_of c) (ending_of c.kind) here) is-broken not-broken is-whole not-whole
      where
        look : (x y : Bool) → (T x → Broken (rule_of c) trace latest) → (T (not x) → ¬ Broken (rule_of c) trace latest) → (T y → Matches (rule_of c) trace) → (T (not y) → ¬ Matches (rule_of c) trace)
            → Judged (rule_of c) trace latest (cond x broken (cond y whole open'))
        look true y a b e g = a tt
        look false true a b e g = e tt
        look false false a b e g = (b tt, g tt)
