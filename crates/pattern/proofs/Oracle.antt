-- The judge is a function of its input: a right oracle exists for well-formed rules (`right-oracle`), all right oracles say the same (`one-oracle`), and so all judges answer the same (`one-judge`).
-- Assumes nothing.
use mathlib.Core.Path.{◌≡◌, refl, sym, ◌∙◌, ap, ap₂, subst}
use mathlib.Core.Bool.{Bool, true, false, cond}
use mathlib.Core.Option.{Option, none, some}
use mathlib.Core.List.{List, [], ◌∷◌, ◌++◌, append-nil, append_assoc}
use Prim.Native.Nat.{ℕ, ◌≤◌}
use native.Mathlib.Nat.{le_refl}
use lib.Dec.{ltb, nltb→le}
use lib.ListN.{length}
use Rattle.pattern.specs.Lists.{Each, is_in}
use Rattle.pattern.specs.Meaning.{Event, Rule, names_of, Matches, Status, broken, whole, open', Broken, Judged, WellFormed}
use Rattle.pattern.specs.Judge.{Observation, event, clock, time_of, own, trace_of, latest, NeverFalls, EachJudged, Oracle, Right, Verdict, all_whole, some_open, broken_at, verdict, verdict_of, bad_name, refusal, Kept, nothing, Turn, joining, unless_refused, unless_broken, judge, judge_answers, judge_keeps}
use Rattle.pattern.specs.Model.{RuleState, fresh, step, status_at, after}
use Rattle.pattern.specs.Agreement.{state_after}
use Rattle.pattern.proofs.Basics.{zero_one}
use Rattle.pattern.proofs.Tracks.{Tracks, tracks-fresh, tracks-step, tracks-status}
use Rattle.pattern.proofs.Traces.{never-falls-snoc, trace-rises, trace-past}

-- ---- a right oracle: the model's states

abbrev pub model_oracle : List Rule → Oracle
model_oracle [] os = []
model_oracle (r ∷ rs) os = status_at r (state_after r (fresh r) os) (latest os) ∷ model_oracle rs os

tracks-own : (r : Rule) (trace : List Event) (st : RuleState) (o : Observation) → Tracks r trace st → Tracks r (trace ++ own r o) (after r st o)
tracks-own r trace st (event n t) h = look (is_in n (names_of r)) refl
  where
    look : (b : Bool) → is_in n (names_of r) ≡ b → Tracks r (trace ++ cond b (record { name = n; time = t } ∷ []) []) (cond b (step r st (record { name = n; time = t })) st)
    look true q = tracks-step r trace st (record { name = n; time = t }) (rw q tt) h
    look false q = rw append-nil h
tracks-own r trace st (clock t) h = rw append-nil h

tracks-all : (r : Rule) (os : List Observation) (trace : List Event) (st : RuleState) → Tracks r trace st → Tracks r (trace ++ trace_of r os) (state_after r st os)
tracks-all r [] trace st h = rw append-nil h
tracks-all r (o ∷ os) trace st h = rw append_assoc at (tracks-all r os (trace ++ own r o) (after r st o) (tracks-own r trace st o h))

pub right-oracle : (rules : List Rule) → Each WellFormed rules → Right rules (model_oracle rules)
right-oracle [] w os n = tt
right-oracle (r ∷ rs) w os n = (
  tracks-status r (trace_of r os) (state_after r (fresh r) os) (latest os) (trace-rises r 0 os n) (trace-past r 0 0 os (le_refl 0) n) (tracks-all r os [] (fresh r) (tracks-fresh r w.0)),
  right-oracle rs w.1 os n,
)

-- ---- a trace has at most one status

module _ (r : Rule) (trace : List Event) (now : ℕ) where
  -- a match is not broken: nothing more has to come
  pub not-both : Broken r trace now → Matches r trace → ⊥
  not-both b m = b [] (record { on = tt; rising = tt }) (subst (λ (w : List Event). Matches r w) (sym (append-nil trace)) m)

  pub one-status : (s s' : Status) → Judged r trace now s → Judged r trace now s' → s ≡ s'
  one-status broken broken p q = refl
  one-status broken whole p q = absurd (not-both p q)
  one-status broken open' p q = absurd (q.0 p)
  one-status whole broken p q = absurd (not-both q p)
  one-status whole whole p q = refl
  one-status whole open' p q = absurd (q.1 p)
  one-status open' broken p q = absurd (p.0 q)
  one-status open' whole p q = absurd (p.1 q)
  one-status open' open' p q = refl

pub each-one : (rs : List Rule) (os : List Observation) (ss ss' : List Status) → EachJudged rs os ss → EachJudged rs os ss' → ss ≡ ss'
each-one [] os [] [] p q = refl
each-one [] os [] (s ∷ ss') p q = absurd q
each-one [] os (s ∷ ss) ss' p q = absurd p
each-one (r ∷ rs) os [] ss' p q = absurd p
each-one (r ∷ rs) os (s ∷ ss) [] p q = absurd q
each-one (r ∷ rs) os (s ∷ ss) (s' ∷ ss') p q = ap₂ (λ (x : Status) (l : List Status). x ∷ l) (one-status r (trace_of r os) (latest os) s s' p.0 q.0) (each-one rs os ss ss' p.1 q.1)

pub one-oracle : (rules : List Rule) (a b : Oracle) → Right rules a → Right rules b → (os : List Observation) → NeverFalls 0 os → a os ≡ b os
one-oracle rules a b p q os n = each-one rules os (a os) (b os) (p os n) (q os n)

-- ---- the judge's list never falls, and so one judge answers as another

-- an observation that is not refused is not before the latest
pub not-before : (late count : ℕ) (o : Observation) → refusal late count o ≡ none → late ≤ time_of o
not-before late count o e = look (bad_name o) (ltb (time_of o) late) refl _ e
  where
    look : (a b : Bool) → ltb (time_of o) late ≡ b → (n : Option ℕ) → cond a (some 12) (cond b (some 11) n) ≡ none → late ≤ time_of o
    look true b q n z = let x : ◌≡◌ {A = ℕ} 0 1 = cc in absurd (zero_one x)
    look false true q n z = let x : ◌≡◌ {A = ℕ} 0 1 = cc in absurd (zero_one x)
    look false false q n z = nltb→le (time_of o) late (rw q tt)

module _ (rules : List Rule) (a b : Oracle) (p : Right rules a) (q : Right rules b) where
  pub record Same (x y : Turn) : Type 0 where
    pub is : x ≡ y
    pub falls : NeverFalls 0 x.kept.taken

  same-joining : (k : Kept) (o : Observation) → NeverFalls 0 k.taken → latest k.taken ≤ time_of o → Same (joining a k o) (joining b k o)
  same-joining k o n l =
      let os : List Observation = k.taken ++ (o ∷ []) in
      let f : NeverFalls 0 os = never-falls-snoc 0 k.taken o n l in
      record { is = ap (λ (ss : List Status). record { answer = verdict (verdict_of (length os) ss); kept = record { taken = os; verdict = verdict_of (length os) ss } }) (one-oracle rules a b p q os f); falls = f }

  same-unless : (k : Kept) (o : Observation) → NeverFalls 0 k.taken → (n : Option ℕ) → refusal (latest k.taken) (length k.taken) o ≡ n → Same (unless_refused a k o n) (unless_refused b k o n)
  same-unless k o f (some n) e = record { is = refl; falls = f }
  same-unless k o f none e = same-joining k o f (not-before (latest k.taken) (length k.taken) o e)

  same_turn : (k : Kept) (o : Observation) → NeverFalls 0 k.taken → (v : Verdict) → Same (unless_broken a k o v) (unless_broken b k o v)
  same_turn k o f (broken_at n m) = record { is = refl; falls = f }
  same_turn k o f all_whole = same-unless k o f (refusal (latest k.taken) (length k.taken) o) refl
  same_turn k o f (some_open m) = same-unless k o f (refusal (latest k.taken) (length k.taken) o) refl

  -- one turn of any judge is a turn of any other, and its list never falls
  pub one-turn : (k : Kept) (o : Observation) → NeverFalls 0 k.taken → Same (judge a k o) (judge b k o)
  one-turn k o f = same_turn k o f k.verdict

  same-answers : (os : List Observation) (k : Kept) → NeverFalls 0 k.taken → (judge_answers a k os ≡ judge_answers b k os) × (judge_keeps a k os ≡ judge_keeps b k os)
  same-answers [] k f = (refl, refl)
  same-answers (o ∷ os) k f =
      let s = one-turn k o f in
      let r = same-answers os (judge a k o).kept s.falls in
      let z : judge a k o ≡ judge b k o = s.is in (
        ap₂ (λ x l. x ∷ l) (ap (λ (t : Turn). t.answer) z) (r.0 ∙ ap (λ (t : Turn). judge_answers b t.kept os) z),
        r.1 ∙ ap (λ (t : Turn). judge_keeps b t.kept os) z,
      )

-- one answer for each input, whatever right oracle the judge asks
pub one-judge : (rules : List Rule) (a b : Oracle) → Right rules a → Right rules b → (os : List Observation)
    → (judge_answers a nothing os ≡ judge_answers b nothing os) × (judge_keeps a nothing os ≡ judge_keeps b nothing os)
one-judge rules a b p q os = same-answers rules a b p q os nothing tt
