-- A rule at a fragment that has begun, in time: its standing is the model's status. What is to be shown of a step, and that an error shows it.
-- Assumes nothing.
use mathlib.Core.Path.{◌≡◌, refl, sym, ◌∙◌, ap}
use mathlib.Core.Bool.{Bool, true, false, cond, not, ◌&&◌, ◌||◌, and-false}
use Prim.Native.Nat.{ℕ}
use Rattle.pattern.specs.Meaning.{Rule}
use Rattle.pattern.specs.Recogniser.{erred, complete, can_grow}
use Rattle.pattern.specs.Model.{in_time, is_last, after_p, slots_of, join_of, end_after, at_rest, status_at, pressed}
use Rattle.pattern.specs.Model as M
use Rattle.pattern.proofs.Basics.{is_true, is_false}
use Rattle.pattern.proofs.Standing.{itself}
use Rattle.pattern.proofs.Keeps.{Erred}
use Rattle.rule_state.specs.declared.RuleState.{RuleState}
use Rattle.tables.specs.Cells.{is_in_q, ends_p, Cell}
use Rattle.step.specs.declared.Stepped.{Stepped}
use Rattle.step.specs.Standings.{status_of, is_broken, is_due}
use Rattle.step.specs.Steps.{broken_of, spent_of, standing_of}
use Rattle.step.specs.Shows.{Counting, Shows, begun, running}
use Rattle.step.proofs.Sound.{Sound}
use Rattle.step.proofs.Columns as K
use Rattle.step.proofs.Flags.{clash, standing_by, status-by, running-by}

-- what is to be shown of a step
pub record Linked (rule : Rule) (time : ℕ) (s : Stepped) (S : M.RuleState) : Type 0 where
  pub status : status_of s.standing ≡ status_at rule S time
  pub due : is_broken s.standing ≡ false → is_due s.standing ≡ running rule S
  pub shows : is_broken s.standing ≡ false → Shows rule s.state S

-- an error
pub erred-linked : (rule : Rule) (time : ℕ) (st : RuleState) (S : M.RuleState) → Erred rule S → Linked rule time (broken_of st) S
erred-linked rule time st S e = record {
  status = sym (rw (is_false (at_rest rule S) e.restless, is_true (erred (slots_of rule S)) e.erred));
  due = λ z. clash (sym z);
  shows = λ z. clash (sym z);
}

-- an event of a fragment is in time where its end of P leaves it so
pub timely : (rule : Rule) (n end time : ℕ) → (after_p rule n ≡ true → in_time rule.kind end time ≡ true) → in_time rule.kind (end_after rule n end time) time ≡ true
timely rule n end time h = look (after_p rule n) h
  where
    look : (a : Bool) → (a ≡ true → in_time rule.kind end time ≡ true) → in_time rule.kind (cond a end time) time ≡ true
    look true g = g refl
    look false g = is_true (in_time rule.kind time time) (itself rule.kind time)

-- ---- a state at which a fragment has begun, in time

module _ {rule : Rule} (sound : Sound rule) (time : ℕ) {st : RuleState} {S : M.RuleState} {i cell : ℕ} (w : Counting rule st S) (c : Cell rule S.fragment i cell) where
  abbrev n : ℕ
  n = S.fragment

  abbrev C : Bool
  C = complete (join_of rule S) (slots_of rule S)

  abbrev G : Bool
  G = can_grow (join_of rule S) (slots_of rule S)

  abbrev D : Bool
  D = is_in_q rule n || ends_p rule n && (C && not G)

  standing-is : standing_of cell st.lacking st.full ≡ standing_by (is_last rule n) C D
  unfolding standing_of spent_of
  standing-is = rw (c.last, c.in_q, c.ends_p, K.complete-is sound w, K.grows-is sound w c)

  pub settled : in_time rule.kind S.end time ≡ true → Linked rule time (record { state = st; standing = standing_of cell st.lacking st.full }) S
  settled t = record {
    status = ap status_of standing-is ∙ status-by (is_last rule n) C D ∙ sym (rw (K.restless sound w, K.not-erred sound w, t, and-false (pressed rule S)));
    due = λ z. ap is_due standing-is ∙ running-by sound n w.inside C G ∙ sym (rw (K.restless sound w, K.not-erred sound w));
    shows = λ z. begun w;
  }
