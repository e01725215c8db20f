-- "says how many it took": the taken count is the number of records consumed, and those records are the list that the judge keeps: `taken-is-consumed`.
-- Assumes nothing.
use mathlib.Core.Path.{◌≡◌, refl, sym, ◌∙◌, ap}
use mathlib.Core.Bool.{Bool, true, false, cond}
use mathlib.Core.List.{List, [], ◌∷◌, ◌++◌, append_assoc, append-nil}
use Prim.Native.Nat.{ℕ, zero, suc, ◌+◌, ◌*◌, ◌/◌, ◌≤◌, ◌<◌, min}
use native.Mathlib.Omega.{arith}
use lib.ListN.{length, length-append}
use Rattle.pattern.specs.Judge.{Oracle, verdict, Kept, nothing, Turn, judge_keeps}
use Rattle.records.specs.Records.{record_at}
use Rattle.runner.specs.Log.{records_from, bad_length, turned_away, stops, is_refusal, turn_at, play, consumed_from, at_most, run_of, consumed}
use Rattle.runner.specs.declared.Outcome.{Outcome}
use Rattle.runner.proofs.Judging.{play_by, longer, UnbrokenTurn, refusing, breaking, going_on, unbroken-turn}

module _ (oracle : Oracle) (log : List ℕ) where
  -- of n records from i on, by a judge that keeps k, c are consumed
  record Takes (k : Kept) (i n : ℕ) (r : Outcome) (c : ℕ) : Type 0 where
    taken : r.taken ≡ length k.taken + c
    few : c ≤ n
    list : (judge_keeps oracle k (records_from log i c)).taken ≡ k.taken ++ records_from log i c
    all : r.answer < 2 → c ≡ n

  abbrev count_by : ℕ → ℕ → Turn → ℕ
  count_by i n t = cond (is_refusal t.answer) 0 (suc (cond (stops t.answer) 0 (consumed_from oracle log t.kept (suc i) n)))

  module _ (k : Kept) (i n : ℕ) where
    one_more : length (longer k (record_at log i)) ≡ length k.taken + 1
    one_more = length-append k.taken (record_at log i ∷ [])

    takes-more : {t : Turn} → UnbrokenTurn k (record_at log i) t → turn_at oracle log k i ≡ t
        → ((next : Kept) → stops (verdict next.verdict) ≡ false → Takes next (suc i) n (play oracle log next (suc i) n) (consumed_from oracle log next (suc i) n))
        → Takes k i (suc n) (play_by oracle log k i n t) (count_by i n t)
    takes-more (refusing number e) q rest = record { taken = omega arith; few = omega arith; list = sym (append-nil k.taken); all = λ h. absurd (omega arith) }
    takes-more (breaking mask e) q rest = record { taken = one_more; few = omega arith; list = ap (λ (t : Turn). t.kept.taken) q; all = λ h. absurd (omega arith) }
    takes-more (going_on v s e) q rest = rw s
        (let next : Kept = record { taken = longer k (record_at log i); verdict = v } in
        let more = records_from log (suc i) (consumed_from oracle log next (suc i) n) in
        let r = rest next s in
        record {
          taken = omega (arith, r.taken, one_more);
          few = omega (arith, r.few);
          list = ap (λ (t : Turn). (judge_keeps oracle t.kept more).taken) q ∙ r.list ∙ append_assoc k.taken (record_at log i ∷ []) more;
          all = λ h. ap suc (r.all h);
        })

  takes : (n : ℕ) (k : Kept) (i : ℕ) → stops (verdict k.verdict) ≡ false → Takes k i n (play oracle log k i n) (consumed_from oracle log k i n)
  unfolding play consumed_from
  takes zero k i s = record { taken = omega arith; few = omega arith; list = sym (append-nil k.taken); all = λ h. refl }
  takes (suc n) k i s = takes-more k i n (unbroken-turn oracle k (record_at log i) s) refl (λ next. takes n next (suc i))

  -- the taken count is the number of records consumed, which is at most the budget and what the log has; they are the list that the judge keeps; and none is left but by a refusal or a break
  pub record Consumes (budget : ℕ) : Type 0 where
    pub count' : (run_of oracle log budget).taken ≡ consumed oracle log budget
    pub within : consumed oracle log budget ≤ budget
    pub inside : 5 * consumed oracle log budget ≤ length log
    pub kept : (judge_keeps oracle nothing (records_from log 0 (consumed oracle log budget))).taken ≡ records_from log 0 (consumed oracle log budget)
    pub used-up : (run_of oracle log budget).answer < 2 → consumed oracle log budget ≡ min budget (length log / 5)

  pub taken-is-consumed : (budget : ℕ) → Consumes budget
  unfolding run_of
  taken-is-consumed budget =
      let t = look (bad_length log) in
      record { count' = t.taken ∙ omega arith; within = omega (arith, t.few); inside = omega (arith, t.few); kept = t.list; used-up = t.all }
    where
      -- a log that is no list of records is turned away, and none is consumed
      look : (x : Bool) → Takes nothing 0 (at_most log budget) (cond x (turned_away 14 0) (play oracle log nothing 0 (at_most log budget))) (cond x 0 (consumed_from oracle log nothing 0 (at_most log budget)))
      look true = record { taken = refl; few = omega arith; list = refl; all = λ h. absurd (omega arith) }
      look false = takes (at_most log budget) nothing 0 refl
