-- One record of a run, by the definition: what is left to play after it, and the judge's turn. A judge whose verdict is not broken refuses the record, breaks at it or goes on: `unbroken-turn`.
-- Assumes nothing.
use mathlib.Core.Path.{◌≡◌, refl}
use mathlib.Core.Bool.{Bool, true, false, cond}
use mathlib.Core.Option.{Option, none, some}
use mathlib.Core.List.{List, [], ◌∷◌, ◌++◌}
use Prim.Native.Nat.{ℕ, suc, ◌*◌}
use native.Mathlib.Omega.{arith}
use lib.Dec.{eqb}
use lib.ListN.{length}
use Rattle.pattern.specs.Judge.{Observation, Oracle, Verdict, all_whole, some_open, broken_at, is_broken, is_open, mask, Answer, verdict, refused, Kept, latest, refusal, Turn, unless_refused, unless_broken, judge}
use Rattle.runner.specs.Log.{ended, stops, stopped_by, turn_at, play}
use Rattle.runner.specs.declared.Outcome.{Outcome}

pub never : {A : Type 0} → true ≡ false → A
never e = let z : ◌≡◌ {A = ℕ} 0 1 = cc in absurd (omega arith)

-- ---- what is left to play

module _ (oracle : Oracle) (log : List ℕ) (k : Kept) (i : ℕ) where
  pub play-end : play oracle log k i 0 ≡ ended k.verdict (length k.taken)
  unfolding play
  play-end = refl

  -- by the judge's turn
  abbrev pub play_by : ℕ → Turn → Outcome
  play_by n t = cond (stops t.answer) (stopped_by t.answer k t.kept (5 * i)) (play oracle log t.kept (suc i) n)

  pub play-turn : (n : ℕ) {a : Answer} → a ≡ (turn_at oracle log k i).answer → play oracle log k i (suc n) ≡ play_by n (record { answer = a; kept = (turn_at oracle log k i).kept })
  unfolding play
  play-turn n e = rw e

-- ---- the judge's turn

-- an observation that is taken joins the list
abbrev pub longer : Kept → Observation → List Observation
longer k o = k.taken ++ (o ∷ [])

abbrev pub joined : Kept → Observation → Verdict → Turn
joined k o v = record { answer = verdict v; kept = record { taken = longer k o; verdict = v } }

pub data UnbrokenTurn (k : Kept) (o : Observation) : Turn → Type 0 where
  refusing : (number : ℕ) → refusal (latest k.taken) (length k.taken) o ≡ some number → UnbrokenTurn k o (record { answer = refused number; kept = k })
  breaking : (broken : ℕ) → refusal (latest k.taken) (length k.taken) o ≡ none → UnbrokenTurn k o (joined k o (broken_at (length (longer k o)) broken))
  going_on : (v : Verdict) → stops (verdict v) ≡ false → refusal (latest k.taken) (length k.taken) o ≡ none → UnbrokenTurn k o (joined k o v)

module _ (oracle : Oracle) (k : Kept) (o : Observation) where
  joins : refusal (latest k.taken) (length k.taken) o ≡ none → UnbrokenTurn k o (unless_refused oracle k o none)
  joins e = look (eqb (mask is_broken (oracle (longer k o))) 0) (eqb (mask is_open (oracle (longer k o))) 0)
    where
      look : (x y : Bool) → UnbrokenTurn k o (joined k o (cond x (cond y all_whole (some_open (mask is_open (oracle (longer k o))))) (broken_at (length (longer k o)) (mask is_broken (oracle (longer k o))))))
      look true true = going_on all_whole refl e
      look true false = going_on (some_open (mask is_open (oracle (longer k o)))) refl e
      look false y = breaking (mask is_broken (oracle (longer k o))) e

  -- a verdict that is not broken is not told again: the judge looks for a refusal
  pub unbroken-turn : stops (verdict k.verdict) ≡ false → UnbrokenTurn k o (judge oracle k o)
  unbroken-turn = look k.verdict (found (refusal (latest k.taken) (length k.taken) o) refl)
    where
      found : (r : Option ℕ) → refusal (latest k.taken) (length k.taken) o ≡ r → UnbrokenTurn k o (unless_refused oracle k o r)
      found none e = joins e
      found (some number) e = refusing number e

      look : (v : Verdict) → UnbrokenTurn k o (unless_refused oracle k o (refusal (latest k.taken) (length k.taken) o)) → stops (verdict v) ≡ false → UnbrokenTurn k o (unless_broken oracle k o v)
      look all_whole t s = t
      look (some_open m) t s = t
      look (broken_at j m) t s = never s
