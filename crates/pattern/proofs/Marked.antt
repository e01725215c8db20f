-- The traces that settle arguments: one computed test runs the model over every row of the table, and one law, from `agreement`, turns the test into the judge's answer at each row.
-- Assumes nothing.
use mathlib.Core.Path.{◌≡◌, refl, sym, ◌∙◌, ap, ap₂}
use mathlib.Core.Bool.{Bool, true, false, ◌&&◌}
use mathlib.Core.List.{List, [], ◌∷◌, ◌++◌}
use Prim.Native.Nat.{ℕ}
use lib.Dec.{T, eqb, eqb→eq}
use lib.ListN.{length}
use Rattle.pattern.specs.Lists.{In}
use Rattle.pattern.specs.Judge.{Oracle, Right, Verdict, all_whole, some_open, broken_at, Answer, verdict, refused, nothing, judge_answers, judge_keeps}
use Rattle.pattern.specs.Model.{fresh_monitor, answers, monitor_after}
use Rattle.pattern.specs.Agreement.{WellFormedRules}
use Rattle.pattern.specs.Traces.{Row, marked, unmarked, misreadings, refusals, masks, shuffled_rows, endless_rows}
use Rattle.pattern.proofs.Basics.{both_l, both_r, all→}
use Rattle.pattern.proofs.WellFormed.{ok_rules, oks→}
use Rattle.pattern.proofs.Agreement.{agreement}

-- ---- the test of a row

abbrev same_verdict : Verdict → Verdict → Bool
same_verdict all_whole all_whole = true
same_verdict all_whole (some_open m) = false
same_verdict all_whole (broken_at k m) = false
same_verdict (some_open m) all_whole = false
same_verdict (some_open m) (some_open m') = eqb m m'
same_verdict (some_open m) (broken_at k m') = false
same_verdict (broken_at k m) all_whole = false
same_verdict (broken_at k m) (some_open m') = false
same_verdict (broken_at k m) (broken_at k' m') = eqb k k' && eqb m m'

abbrev same_answer : Answer → Answer → Bool
same_answer (verdict v) (verdict v') = same_verdict v v'
same_answer (verdict v) (refused n) = false
same_answer (refused n) (verdict v) = false
same_answer (refused n) (refused n') = eqb n n'

verdict→ : (v v' : Verdict) → T (same_verdict v v') → v ≡ v'
verdict→ all_whole all_whole t = refl
verdict→ all_whole (some_open m) t = absurd t
verdict→ all_whole (broken_at k m) t = absurd t
verdict→ (some_open m) all_whole t = absurd t
verdict→ (some_open m) (some_open m') t = ap some_open (eqb→eq m m' t)
verdict→ (some_open m) (broken_at k m') t = absurd t
verdict→ (broken_at k m) all_whole t = absurd t
verdict→ (broken_at k m) (some_open m') t = absurd t
verdict→ (broken_at k m) (broken_at k' m') t = ap₂ broken_at (eqb→eq k k' (both_l (eqb k k') (eqb m m') t)) (eqb→eq m m' (both_r (eqb k k') (eqb m m') t))

answer→ : (a a' : Answer) → T (same_answer a a') → a ≡ a'
answer→ (verdict v) (verdict v') t = ap verdict (verdict→ v v' t)
answer→ (verdict v) (refused n) t = absurd t
answer→ (refused n) (verdict v) t = absurd t
answer→ (refused n) (refused n') t = ap refused (eqb→eq n n' t)

-- the last answer; before any, the verdict
abbrev pub last_of : Answer → List Answer → Answer
last_of d [] = d
last_of d (a ∷ as') = last_of a as'

module _ (row : Row) where
  abbrev last_answer : Answer
  last_answer = last_of (verdict all_whole) (answers row.rules (fresh_monitor row.rules) row.seen)

  abbrev final_taken : ℕ
  final_taken = (monitor_after row.rules (fresh_monitor row.rules) row.seen).taken

  abbrev final_verdict : Verdict
  final_verdict = (monitor_after row.rules (fresh_monitor row.rules) row.seen).verdict

  abbrev answers-so : Bool
  answers-so = same_answer last_answer row.answer

  abbrev takes-so : Bool
  takes-so = eqb final_taken row.taken

  abbrev ends_so : Bool
  ends_so = same_verdict final_verdict row.verdict

  abbrev right : Bool
  right = ok_rules row.rules && (answers-so && (takes-so && ends_so))

  -- ---- what a passed test says of the judge

  pub record Settled : Type 0 where
    -- a judge exists, and every judge's last answer, list and verdict are the row's
    pub exists : (oracle : Oracle) × Right row.rules oracle
    pub answer : (oracle : Oracle) → Right row.rules oracle → last_of (verdict all_whole) (judge_answers oracle nothing row.seen) ≡ row.answer
    pub taken : (oracle : Oracle) → Right row.rules oracle → length (judge_keeps oracle nothing row.seen).taken ≡ row.taken
    pub verdict : (oracle : Oracle) → Right row.rules oracle → (judge_keeps oracle nothing row.seen).verdict ≡ row.verdict

  settled : T right → Settled
  settled t =
      let t₁ = both_r (ok_rules row.rules) (answers-so && (takes-so && ends_so)) t in
      let t₂ = both_r answers-so (takes-so && ends_so) t₁ in
      let w : WellFormedRules row.rules = oks→ row.rules (both_l (ok_rules row.rules) (answers-so && (takes-so && ends_so)) t) in
      let a = agreement row.rules w row.seen in
      record {
        exists = a.judged;
        answer = λ o p. ap (last_of (verdict all_whole)) (sym (a.agrees o p).answered) ∙ answer→ last_answer row.answer (both_l answers-so (takes-so && ends_so) t₁);
        taken = λ o p. sym (a.agrees o p).taken ∙ eqb→eq final_taken row.taken (both_l takes-so ends_so t₂);
        verdict = λ o p. sym (a.agrees o p).verdict ∙ verdict→ final_verdict row.verdict (both_r takes-so ends_so t₂);
      }

-- ---- the whole table

abbrev pub table : List Row
table = marked ++ (unmarked ++ (misreadings ++ (refusals ++ (masks ++ (shuffled_rows ++ endless_rows)))))

pub settles : (row : Row) → In row table → Settled row
settles row i = settled row (all→ right table tt row i)
