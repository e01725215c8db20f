-- A rule's trace, as observations join the judge's list: it grows by the rule's own events, its times never fall, and it ends at the latest observation or before.
-- Assumes nothing.
use mathlib.Core.Path.{◌≡◌, refl, sym, ◌∙◌, ap}
use mathlib.Core.Bool.{Bool, true, false, cond}
use mathlib.Core.List.{List, [], ◌∷◌, ◌++◌, append_assoc, append-nil}
use Prim.Native.Nat.{ℕ, ◌≤◌}
use native.Mathlib.Nat.{le_trans, le_refl}
use Rattle.pattern.specs.Lists.{is_in}
use Rattle.pattern.specs.Meaning.{Event, Rule, names_of, last_time, Rising}
use Rattle.pattern.specs.Judge.{Observation, event, clock, time_of, own, trace_of, latest_from, NeverFalls}
use Rattle.pattern.proofs.Orderings.{rising-from}

pub never-falls-snoc : (t : ℕ) (os : List Observation) (o : Observation) → NeverFalls t os → latest_from t os ≤ time_of o → NeverFalls t (os ++ (o ∷ []))
never-falls-snoc t [] o r l = (l, tt)
never-falls-snoc t (x ∷ os) o r l = (r.0, never-falls-snoc (time_of x) os o r.1 l)

pub latest-snoc : (t : ℕ) (os : List Observation) (o : Observation) → latest_from t (os ++ (o ∷ [])) ≡ time_of o
latest-snoc t [] o = refl
latest-snoc t (x ∷ os) o = latest-snoc (time_of x) os o

pub trace-snoc : (r : Rule) (os : List Observation) (o : Observation) → trace_of r (os ++ (o ∷ [])) ≡ trace_of r os ++ own r o
trace-snoc r [] o = append-nil (own r o)
trace-snoc r (x ∷ os) o = ap (λ (l : List Event). own r x ++ l) (trace-snoc r os o) ∙ sym (append_assoc (own r x) (trace_of r os) (own r o))

own-rises : (r : Rule) (t : ℕ) (o : Observation) (w : List Event) → t ≤ time_of o → Rising (time_of o) w → Rising t (own r o ++ w)
own-rises r t (event n s) w l h = look (is_in n (names_of r))
  where
    look : (b : Bool) → Rising t (cond b (record { name = n; time = s } ∷ []) [] ++ w)
    look true = (l, h)
    look false = rising-from t s w l h
own-rises r t (clock s) w l h = rising-from t s w l h

pub trace-rises : (r : Rule) (t : ℕ) (os : List Observation) → NeverFalls t os → Rising t (trace_of r os)
trace-rises r t [] h = tt
trace-rises r t (o ∷ os) h = own-rises r t o (trace_of r os) h.0 (trace-rises r (time_of o) os h.1)

own-last : (r : Rule) (t : ℕ) (o : Observation) (w : List Event) (b : ℕ) → t ≤ time_of o → ((s : ℕ) → s ≤ time_of o → last_time s w ≤ b) → last_time t (own r o ++ w) ≤ b
own-last r t (event n s) w b l h = look (is_in n (names_of r))
  where
    look : (x : Bool) → last_time t (cond x (record { name = n; time = s } ∷ []) [] ++ w) ≤ b
    look true = h s (le_refl s)
    look false = h t l
own-last r t (clock s) w b l h = h t l

pub trace-past : (r : Rule) (t u : ℕ) (os : List Observation) → t ≤ u → NeverFalls u os → last_time t (trace_of r os) ≤ latest_from u os
trace-past r t u [] l h = l
trace-past r t u (o ∷ os) l h = own-last r t o (trace_of r os) (latest_from (time_of o) os) (le_trans l h.0) (λ s k. trace-past r s (time_of o) os k h.1)
