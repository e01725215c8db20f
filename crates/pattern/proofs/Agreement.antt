-- Demand 3 on the model, `agreement`: along every list of observations the monitor answers what the judge answers. The invariant between the two: each rule's state is the run of the judge's list,
-- and latest, taken and verdict are the judge's. One induction over the whole list; refused observations and those after a break are in it.
-- Assumes nothing.
use mathlib.Core.Path.{◌≡◌, refl, sym, ◌∙◌, ap, ap₂, subst}
use mathlib.Core.Option.{Option, none, some}
use mathlib.Core.List.{List, [], ◌∷◌, ◌++◌}
use Prim.Native.Nat.{ℕ, suc}
use native.Mathlib.Omega.{arith}
use lib.ListN.{length, length-append}
use Rattle.pattern.specs.Meaning.{Rule, Status}
use Rattle.pattern.specs.Judge.{Observation, time_of, latest, Oracle, Right, Verdict, all_whole, some_open, broken_at, Answer, verdict, verdict_of, refusal, Kept, nothing, Turn, joining, unless_refused, unless_broken, judge, judge_answers, judge_keeps}
use Rattle.pattern.specs.Model.{RuleState, fresh, after, Monitor, fresh_states, fresh_monitor, after_all, statuses, status_at, Reply, take, or_refuse, or_stopped, observe, answers, monitor_after}
use Rattle.pattern.specs.Agreement.{WellFormedRules, state_after, states_after, Follows, Agrees, Agreement}
use Rattle.pattern.proofs.Traces.{latest-snoc}
use Rattle.pattern.proofs.Oracle.{model_oracle, right-oracle, one-judge}

-- ---- the states of all rules after a list

fresh-states : (rules : List Rule) → fresh_states rules ≡ states_after rules []
fresh-states [] = refl
fresh-states (r ∷ rs) = ap (λ (l : List RuleState). fresh r ∷ l) (fresh-states rs)

state-snoc : (r : Rule) (st : RuleState) (os : List Observation) (o : Observation) → after r (state_after r st os) o ≡ state_after r st (os ++ (o ∷ []))
state-snoc r st [] o = refl
state-snoc r st (x ∷ os) o = state-snoc r (after r st x) os o

states-snoc : (rules : List Rule) (os : List Observation) (o : Observation) → after_all rules (states_after rules os) o ≡ states_after rules (os ++ (o ∷ []))
states-snoc [] os o = refl
states-snoc (r ∷ rs) os o = ap₂ (λ (st : RuleState) (l : List RuleState). st ∷ l) (state-snoc r (fresh r) os o) (states-snoc rs os o)

statuses-are : (rules : List Rule) (os : List Observation) → statuses rules (states_after rules os) (latest os) ≡ model_oracle rules os
statuses-are [] os = refl
statuses-are (r ∷ rs) os = ap (λ (l : List Status). status_at r (state_after r (fresh r) os) (latest os) ∷ l) (statuses-are rs os)

-- ---- one turn keeps the invariant

module _ (rules : List Rule) where
  -- the judge that asks the model's own oracle; `one-judge` makes it any judge
  abbrev oracle : Oracle
  oracle = model_oracle rules

  pub record Together (reply : Reply) (turn : Turn) : Type 0 where
    pub answer : reply.answer ≡ turn.answer
    pub follows : Follows rules turn.kept reply.monitor

  module _ (k : Kept) (m : Monitor) (f : Follows rules k m) (o : Observation) where
    abbrev os : List Observation
    os = k.taken ++ (o ∷ [])

    one_more : suc m.taken ≡ length os
    one_more = let h = length-append k.taken (o ∷ []) in omega (arith, f.taken)

    states-are : after_all rules m.rules o ≡ states_after rules os
    states-are = ap (λ (l : List RuleState). after_all rules l o) f.states ∙ states-snoc rules k.taken o

    time-is : time_of o ≡ latest os
    time-is = sym (latest-snoc 0 k.taken o)

    verdict-is : (take rules m o).verdict ≡ verdict_of (length os) (oracle os)
    verdict-is = ap₂ verdict_of one_more (ap₂ (statuses rules) states-are time-is ∙ statuses-are rules os)

    taking : Together (or_refuse rules m o none) (joining oracle k o)
    taking = record { answer = ap verdict verdict-is; follows = record { states = states-are; time = time-is; taken = one_more; verdict = verdict-is } }

    refusing : (n : Option ℕ) → Together (or_refuse rules m o n) (unless_refused oracle k o n)
    refusing (some n) = record { answer = refl; follows = f }
    refusing none = taking

    same-refusal : refusal m.latest m.taken o ≡ refusal (latest k.taken) (length k.taken) o
    same-refusal = ap₂ (λ (a b : ℕ). refusal a b o) f.time f.taken

    by-verdict : (v : Verdict) → Together (or_stopped rules m o v) (unless_broken oracle k o v)
    by-verdict (broken_at n b) = record { answer = refl; follows = f }
    by-verdict all_whole = rw same-refusal (refusing (refusal (latest k.taken) (length k.taken) o))
    by-verdict (some_open b) = rw same-refusal (refusing (refusal (latest k.taken) (length k.taken) o))

    pub together : Together (observe rules m o) (judge oracle k o)
    together = subst (λ (v : Verdict). Together (observe rules m o) (unless_broken oracle k o v)) f.verdict (by-verdict m.verdict)

  -- ---- the whole list

  pub record Along (k : Kept) (m : Monitor) (list : List Observation) : Type 0 where
    pub answered : answers rules m list ≡ judge_answers oracle k list
    pub follows : Follows rules (judge_keeps oracle k list) (monitor_after rules m list)

  along : (list : List Observation) (k : Kept) (m : Monitor) → Follows rules k m → Along k m list
  along [] k m f = record { answered = refl; follows = f }
  along (o ∷ list) k m f =
      let t = together k m f o in
      let a = along list (judge oracle k o).kept (observe rules m o).monitor t.follows in
      record { answered = ap₂ (λ (x : Answer) (l : List Answer). x ∷ l) t.answer a.answered; follows = a.follows }

  pub fresh-follows : Follows rules nothing (fresh_monitor rules)
  fresh-follows = record { states = fresh-states rules; time = refl; taken = refl; verdict = refl }

pub agreement : (rules : List Rule) → WellFormedRules rules → (os : List Observation) → Agreement rules os
agreement rules w list = record { judged = (model_oracle rules, right); agrees = agrees }
  where
    right : Right rules (model_oracle rules)
    right = right-oracle rules w.each

    agrees : (oracle : Oracle) → Right rules oracle → Agrees rules oracle list
    agrees oracle p =
        let a = along rules list nothing (fresh_monitor rules) (fresh-follows rules) in
        let (e, z) = one-judge rules (model_oracle rules) oracle right p list in
        record {
          answered = a.answered ∙ e;
          taken = a.follows.taken ∙ ap (λ (x : Kept). length x.taken) z;
          verdict = a.follows.verdict ∙ ap (λ (x : Kept). x.verdict) z;
        }
