-- "It looks at no record after such a stop or after the budget": two logs of one length that agree on the records that are looked at have the same outcome, `same-looked`. No more than the budget is
-- looked at, `looked-within`.
-- Assumes nothing.
use mathlib.Core.Path.{◌≡◌, refl, ◌∙◌, ap}
use mathlib.Core.Bool.{Bool, true, false, cond}
use mathlib.Core.List.{List}
use Prim.Native.Nat.{ℕ, zero, suc, ◌+◌, ◌≤◌, ◌<◌}
use native.Mathlib.Omega.{arith}
use lib.ListN.{length}
use Rattle.pattern.specs.Judge.{Observation, Oracle, Kept, nothing, judge}
use Rattle.records.specs.Records.{record_at}
use Rattle.runner.specs.Log.{bad_length, stops, turn_at, play, looked_from, at_most, run_of, looked_at}
use Rattle.runner.specs.declared.Outcome.{Outcome}
use Rattle.runner.proofs.Judging.{play_by}

-- by one test, two outcomes that differ at most where it fails
either : (s : Outcome) {u v : Outcome} (x : Bool) → (x ≡ false → u ≡ v) → cond x s u ≡ cond x s v
either s true e = refl
either s false e = e refl

-- ---- the same outcome

module _ (oracle : Oracle) (a b : List ℕ) where
  -- the two logs agree on the records from i on that are looked at in a
  abbrev Agree : Kept → ℕ → ℕ → Type 0
  Agree k i n = (j : ℕ) → i ≤ j → j < i + looked_from oracle a k i n → record_at a j ≡ record_at b j

  -- a record that is played is looked at; and the logs agree on the rest, if the run goes on
  agree-first : (k : Kept) (i n : ℕ) → Agree k i (suc n) → record_at a i ≡ record_at b i
  unfolding looked_from
  agree-first k i n same = same i (omega arith) (omega arith)

  agree-rest : (k : Kept) (i n : ℕ) → Agree k i (suc n) → stops (turn_at oracle a k i).answer ≡ false → Agree (turn_at oracle a k i).kept (suc i) n
  unfolding looked_from
  agree-rest k i n same q j l h = same j (omega arith) (rw q (omega arith))

  same_from : (n : ℕ) (k : Kept) (i : ℕ) → Agree k i n → play oracle a k i n ≡ play oracle b k i n
  unfolding play
  same_from zero k i same = refl
  same_from (suc n) k i same =
      either _ (stops (turn_at oracle a k i).answer) (λ q. same_from n (turn_at oracle a k i).kept (suc i) (agree-rest k i n same q))
      ∙ ap (λ (o : Observation). play_by oracle b k i n (judge oracle k o)) (agree-first k i n same)

  pub same-looked : (budget : ℕ) → length a ≡ length b → ((j : ℕ) → j < looked_at oracle a budget → record_at a j ≡ record_at b j) → run_of oracle a budget ≡ run_of oracle b budget
  unfolding run_of
  same-looked budget e same =
      rw (← e) (either _ (bad_length a) (λ q. same_from (at_most a budget) nothing 0 (λ j l h. same j (rw q (omega arith)))))

-- ---- within the budget

module _ (oracle : Oracle) (log : List ℕ) where
  looked-few : (n : ℕ) (k : Kept) (i : ℕ) → looked_from oracle log k i n ≤ n
  unfolding looked_from
  looked-few zero k i = omega arith
  looked-few (suc n) k i = look (stops (turn_at oracle log k i).answer) (looked-few n (turn_at oracle log k i).kept (suc i))
    where
      look : (t : Bool) → looked_from oracle log (turn_at oracle log k i).kept (suc i) n ≤ n → suc (cond t 0 (looked_from oracle log (turn_at oracle log k i).kept (suc i) n)) ≤ suc n
      look true h = omega arith
      look false h = omega arith

  pub looked-within : (budget : ℕ) → looked_at oracle log budget ≤ budget
  looked-within budget = look (bad_length log) (looked-few (at_most log budget) nothing 0)
    where
      look : (t : Bool) → looked_from oracle log nothing 0 (at_most log budget) ≤ at_most log budget → cond t 0 (looked_from oracle log nothing 0 (at_most log budget)) ≤ budget
      look true h = omega arith
      look false h = omega arith
