-- Facts by name: a broken rule stays broken; a rule's status depends on its own events and the times only; the judge's list never has more than 4,294,967,295 observations.
-- Assumes nothing.
use mathlib.Core.Path.{◌≡◌, refl, sym, ◌∙◌, ap, subst}
use mathlib.Core.Bool.{Bool, true, false, cond}
use mathlib.Core.Option.{Option, none, some}
use mathlib.Core.List.{List, [], ◌∷◌, ◌++◌, map, append_assoc, append-nil}
use Prim.Native.Nat.{ℕ, ◌+◌, ◌≤◌}
use native.Mathlib.Omega.{arith}
use lib.Dec.{leb, ltb, lit≤}
use lib.ListN.{length, length-append}
use borrow.Author.Tests.{leb-false}
use Rattle.pattern.specs.Lists.{is_in}
use Rattle.pattern.specs.Meaning.{Event, Rule, names_of, Matches, Continuation, Status, broken, Broken, Judged}
use Rattle.pattern.specs.Judge.{Observation, event, clock, time_of, own, trace_of, latest, latest_from, NeverFalls, Oracle, Verdict, all_whole, some_open, broken_at, bad_name, refusal, Kept, nothing, unless_refused, unless_broken, judge, judge_keeps}
use Rattle.pattern.proofs.Basics.{is_in→, zero_one}
use Rattle.pattern.proofs.Orderings.{rising-from}
use Rattle.pattern.proofs.Traces.{trace-snoc, latest-snoc}

-- ---- broken stays broken

-- an observation of the rule, and what may come after it, is what may come before it
own-continues : (r : Rule) (now : ℕ) (o : Observation) (w : List Event) → now ≤ time_of o → Continuation r (time_of o) w → Continuation r now (own r o ++ w)
own-continues r now (event n t) w l c = look (is_in n (names_of r)) refl
  where
    look : (b : Bool) → is_in n (names_of r) ≡ b → Continuation r now (cond b (record { name = n; time = t } ∷ []) [] ++ w)
    look true q = record { on = (is_in→ n (names_of r) (rw q tt), c.on); rising = (l, c.rising) }
    look false q = record { on = c.on; rising = rising-from now t w l c.rising }
own-continues r now (clock t) w l c = record { on = c.on; rising = rising-from now t w l c.rising }

still-broken : (r : Rule) (trace : List Event) (now : ℕ) (o : Observation) → now ≤ time_of o → Broken r trace now → Broken r (trace ++ own r o) (time_of o)
still-broken r trace now o l b w c m = b (own r o ++ w) (own-continues r now o w l c) (subst (λ (x : List Event). Matches r x) (append_assoc trace (own r o) w) m)

never-falls-right : (t : ℕ) (os more : List Observation) → NeverFalls t (os ++ more) → NeverFalls (latest_from t os) more
never-falls-right t [] more n = n
never-falls-right t (o ∷ os) more n = never-falls-right (time_of o) os more n.1

-- whatever is observed after a rule is broken, it is broken
pub broken-stays-broken : (r : Rule) (os more : List Observation) → NeverFalls 0 (os ++ more) → Judged r (trace_of r os) (latest os) broken → Judged r (trace_of r (os ++ more)) (latest (os ++ more)) broken
broken-stays-broken r os [] n b = subst (λ (l : List Observation). Judged r (trace_of r l) (latest l) broken) (sym (append-nil os)) b
broken-stays-broken r os (o ∷ more) n b =
    let l : latest os ≤ time_of o = (never-falls-right 0 os (o ∷ more) n).0 in
    let e : (os ++ (o ∷ [])) ++ more ≡ os ++ (o ∷ more) = append_assoc os (o ∷ []) more in
    let b' : Judged r (trace_of r (os ++ (o ∷ []))) (latest (os ++ (o ∷ []))) broken = rw (trace-snoc r os o, latest-snoc 0 os o) (still-broken r (trace_of r os) (latest os) o l b) in
    subst (λ (x : List Observation). Judged r (trace_of r x) (latest x) broken) e (broken-stays-broken r (os ++ (o ∷ [])) more (subst (λ (x : List Observation). NeverFalls 0 x) (sym e) n) b')

-- ---- own events and times only

-- what a rule sees of an observation: "an event on a name that isn't in it is a clock reading at that time"
abbrev pub as_seen_by : Rule → Observation → Observation
as_seen_by r (event n t) = cond (is_in n (names_of r)) (event n t) (clock t)
as_seen_by r (clock t) = clock t

own-seen : (r : Rule) (o : Observation) → own r (as_seen_by r o) ≡ own r o
own-seen r (event n t) = look (is_in n (names_of r)) refl
  where
    look : (b : Bool) → is_in n (names_of r) ≡ b → own r (cond b (event n t) (clock t)) ≡ cond b (record { name = n; time = t } ∷ []) []
    look true q = rw q
    look false q = refl
own-seen r (clock t) = refl

time-seen : (r : Rule) (o : Observation) → time_of (as_seen_by r o) ≡ time_of o
time-seen r (event n t) = look (is_in n (names_of r))
  where
    look : (b : Bool) → time_of (cond b (event n t) (clock t)) ≡ t
    look true = refl
    look false = refl
time-seen r (clock t) = refl

trace-seen : (r : Rule) (os : List Observation) → trace_of r (map (as_seen_by r) os) ≡ trace_of r os
trace-seen r [] = refl
trace-seen r (o ∷ os) = rw (own-seen r o, trace-seen r os)

latest-seen : (r : Rule) (d : ℕ) (os : List Observation) → latest_from d (map (as_seen_by r) os) ≡ latest_from d os
latest-seen r d [] = refl
latest-seen r d (o ∷ os) = latest-seen r (time_of (as_seen_by r o)) os ∙ ap (λ (t : ℕ). latest_from t os) (time-seen r o)

-- two lists that look the same to a rule give it the same status
pub own-events-only : (r : Rule) (os os' : List Observation) → map (as_seen_by r) os ≡ map (as_seen_by r) os' → (s : Status) → Judged r (trace_of r os) (latest os) s → Judged r (trace_of r os') (latest os') s
own-events-only r os os' e s j =
    let t : trace_of r os ≡ trace_of r os' = sym (trace-seen r os) ∙ ap (trace_of r) e ∙ trace-seen r os' in
    let l : latest os ≡ latest os' = sym (latest-seen r 0 os) ∙ ap latest e ∙ latest-seen r 0 os' in
    subst (λ (x : List Event). Judged r x (latest os') s) t (subst (λ (n : ℕ). Judged r (trace_of r os) n s) l j)

-- ---- the number taken fits a u32: refusal 13

module _ (oracle : Oracle) where
  fits-unless : (k : Kept) (o : Observation) (n : Option ℕ) → refusal (latest k.taken) (length k.taken) o ≡ n → length k.taken ≤ 4294967295 → length (unless_refused oracle k o n).kept.taken ≤ 4294967295
  fits-unless k o (some n) e h = h
  fits-unless k o none e h = rw (length-append k.taken (o ∷ [])) (look (bad_name o) (ltb (time_of o) (latest k.taken)) (leb 4294967295 (length k.taken)) refl 12 11 13 e)
    where
      look : (a b d : Bool) → leb 4294967295 (length k.taken) ≡ d → (x y z : ℕ) → cond a (some x) (cond b (some y) (cond d (some z) none)) ≡ none → length k.taken + 1 ≤ 4294967295
      look true b d q x y z e' = let c : ◌≡◌ {A = ℕ} 0 1 = cc in absurd (zero_one c)
      look false true d q x y z e' = let c : ◌≡◌ {A = ℕ} 0 1 = cc in absurd (zero_one c)
      look false false true q x y z e' = let c : ◌≡◌ {A = ℕ} 0 1 = cc in absurd (zero_one c)
      look false false false q x y z e' = omega (arith, leb-false 4294967295 (length k.taken) q)

  fits-turn : (k : Kept) (o : Observation) (v : Verdict) → length k.taken ≤ 4294967295 → length (unless_broken oracle k o v).kept.taken ≤ 4294967295
  fits-turn k o (broken_at n m) h = h
  fits-turn k o all_whole h = fits-unless k o (refusal (latest k.taken) (length k.taken) o) refl h
  fits-turn k o (some_open m) h = fits-unless k o (refusal (latest k.taken) (length k.taken) o) refl h

  fits_all : (os : List Observation) (k : Kept) → length k.taken ≤ 4294967295 → length (judge_keeps oracle k os).taken ≤ 4294967295
  fits_all [] k h = h
  fits_all (o ∷ os) k h = fits_all os (judge oracle k o).kept (fits-turn k o k.verdict h)

  pub taken-fits : (os : List Observation) → length (judge_keeps oracle nothing os).taken ≤ 4294967295
  taken-fits os = fits_all os nothing (lit≤ tt)
