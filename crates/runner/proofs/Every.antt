-- What every run has in common: `every-run`, under whatever table, and `no-thirteen`, "In a log 13 can't arise", for every oracle. Both follow from the records being played, `every`; and the judge's
-- run, right or not, is played too: `played-by-judge`.
-- Assumes nothing.
use mathlib.Core.Path.{◌≡◌, refl, sym, ◌∙◌, subst}
use mathlib.Core.Bool.{Bool, true, false, cond, not}
use mathlib.Core.Option.{none, some}
use mathlib.Core.List.{List, [], ◌∷◌}
use Prim.Native.Nat.{ℕ, zero, suc, ◌+◌, ◌*◌, ◌%◌, ◌≤◌, ◌<◌}
use native.Mathlib.Omega.{arith}
use lib.Dec.{ltb, eqb}
use lib.ListN.{length, length-append}
use borrow.Author.Tests.{lt-ltb, ltb-false, lt-leb}
use Rattle.pattern.specs.Judge.{Observation, Oracle, Verdict, all_whole, some_open, broken_at, time_of, bad_name, refusal, verdict, Kept, nothing, latest, Turn}
use Rattle.pattern.proofs.Traces.{latest-snoc}
use Rattle.layout.proofs.Sets.{neither}
use Rattle.records.specs.Records.{record_at}
use Rattle.runner.specs.Log.{bad_length, ended, turned_away, stops, play, at_most, run_of}
use Rattle.runner.specs.Runs.{time_before, Accepted, Ends, Played, stays-whole, stays_open, breaks, refuses, Runs, EveryRun}
use Rattle.runner.specs.declared.Outcome.{Outcome}
use Rattle.runner.proofs.Judging.{never, play_by, longer, UnbrokenTurn, refusing, breaking, going_on, unbroken-turn}
use Rattle.runner.proofs.Going.{accepted-more, played}
use Rattle.runner.proofs.Running.{run-turned, run-played}

-- ---- the judge's run

-- a judge that keeps this has taken i records, and has not stopped
record Keeping (log : List ℕ) (k : Kept) (i : ℕ) : Type 0 where
  runs : stops (verdict k.verdict) ≡ false
  taken : length k.taken ≡ i
  last : latest k.taken ≡ time_before log i
  accepted : Accepted log i

module _ (oracle : Oracle) (log : List ℕ) (n : ℕ) where
  ends : (k : Kept) → Keeping log k n → Played log n (ended k.verdict (length k.taken))
  ends k g = look k.verdict g.runs
    where
      look : (v : Verdict) → stops (verdict v) ≡ false → Played log n (ended v (length k.taken))
      look all_whole s = played g.accepted g.taken (stays-whole (rw g.taken))
      look (some_open m) s = played g.accepted g.taken (stays_open m (rw g.taken))
      look (broken_at j m) s = never s

  module _ {k : Kept} {i : ℕ} (g : Keeping log k i) (h : i < n) where
    one_more : length (longer k (record_at log i)) ≡ suc i
    one_more = length-append k.taken (record_at log i ∷ []) ∙ omega (arith, g.taken)

    plays-more : (left : ℕ) {t : Turn} → UnbrokenTurn k (record_at log i) t
        → ((next : Kept) → Keeping log next (suc i) → Played log n (play oracle log next (suc i) left)) → Played log n (play_by oracle log k i left t)
    plays-more left (refusing number e) rest = played g.accepted g.taken (refuses i number k.verdict h (rw (g.last, g.taken) at e) (rw g.taken))
    plays-more left (breaking mask e) rest = played (accepted-more log i g.accepted (rw (g.last, g.taken) at e)) one_more (breaks i mask h (rw one_more))
    plays-more left (going_on v s e) rest = rw s
        (rest (record { taken = longer k (record_at log i); verdict = v })
        (record { runs = s; taken = one_more; last = latest-snoc 0 k.taken (record_at log i); accepted = accepted-more log i g.accepted (rw (g.last, g.taken) at e) }))

  plays : (left : ℕ) (k : Kept) (i : ℕ) → Keeping log k i → i + left ≡ n → Played log n (play oracle log k i left)
  unfolding play
  plays zero k i g e = ends k (subst (Keeping log k) (omega arith) g)
  plays (suc left) k i g e = plays-more g (omega arith) left (unbroken-turn oracle k (record_at log i) g.runs) (λ next g'. plays left next (suc i) g' (omega arith))

  pub played-by-judge : Played log n (play oracle log nothing 0 n)
  played-by-judge = plays n nothing 0 (record { runs = refl; taken = refl; last = refl; accepted = λ j h. absurd (omega arith) }) (omega arith)

-- ---- every run

-- 13 is for more records than a log can have
small : (late count : ℕ) (o : Observation) {number : ℕ} → count < 4294967295 → refusal late count o ≡ some number → number < 13
small late count o {number} h e = look (bad_name o) (ltb (time_of o) late) (rw (lt-leb 4294967295 count h) at e)
  where
    look : (x y : Bool) → cond x (some 12) (cond y (some 11) none) ≡ some number → number < 13
    look true y e = let z : number ≡ 12 = cc in omega arith
    look false true e = let z : number ≡ 11 = cc in omega arith
    look false false e = let z : ◌≡◌ {A = ℕ} 0 1 = cc in omega arith

module _ {log : List ℕ} {budget : ℕ} where
  -- the place follows from the answer
  every-place : (r : Outcome) → r.answer < 4 → r.place ≡ cond (ltb r.answer 2) 0 (cond (eqb r.answer 2) r.taken (5 * r.taken)) → r.taken ≤ budget → r.refusal < 13 → EveryRun log budget r
  every-place r a e t n = record {
    fourteen = λ z. absurd (omega arith);
    thirteen = λ z. omega arith;
    taken = t;
    answer = a;
    place-open = λ z. e ∙ rw (lt-ltb r.answer 2 z);
    place-broken = λ z. e ∙ rw z;
    place-refused = λ z. e ∙ rw z;
  }

  every-played : {r : Outcome} → bad_length log ≡ false → Ends log (at_most log budget) r → EveryRun log budget r
  every-played e (stays-whole q) = rw q (every-place _ (omega arith) refl (omega arith) (omega arith))
  every-played e (stays_open mask q) = rw q (every-place _ (omega arith) refl (omega arith) (omega arith))
  every-played e (breaks i mask h q) = rw q (every-place _ (omega arith) refl (omega arith) (omega arith))
  every-played e (refuses i number before h f q) =
      let short : length log ≤ 4294967295 = ltb-false 4294967295 (length log) (neither (not (eqb (length log % 5) 0)) (ltb 4294967295 (length log)) e).1 in
      rw q (every-place _ (omega arith) refl (omega arith) (small (time_before log i) i (record_at log i) (omega arith) f))

  every : {r : Outcome} → (bad_length log ≡ true → r ≡ turned_away 14 0) → (bad_length log ≡ false → Played log (at_most log budget) r) → EveryRun log budget r
  every {r} uneven even = look (bad_length log) refl
    where
      look : (x : Bool) → bad_length log ≡ x → EveryRun log budget r
      look true e = rw (uneven e)
          (record { fourteen = λ z. e; thirteen = λ z. omega arith; taken = omega arith; answer = omega arith; place-open = λ z. refl; place-broken = λ z. refl; place-refused = λ z. refl })
      look false e = every-played e (even e).ends

  pub every-run : {table : List ℕ} {r : Outcome} → Runs table log budget r → EveryRun log budget r
  every-run runs = every runs.uneven runs.even

pub no-thirteen : (oracle : Oracle) (log : List ℕ) (budget : ℕ) → (run_of oracle log budget).refusal ≡ 13 → ⊥
no-thirteen oracle log budget =
    (every (run-turned oracle log budget) (λ e. subst (Played log (at_most log budget)) (sym (run-played oracle log budget e)) (played-by-judge oracle log (at_most log budget)))).thirteen
