-- `every-monitor`: what an observation is answered for every table and every monitor, by the tests of the definition, in their order.
-- Assumes nothing.
use mathlib.Core.Path.{◌≡◌, refl, sym, subst}
use mathlib.Core.Bool.{Bool, true, false, cond}
use mathlib.Core.Option.{Option, none, some}
use mathlib.Core.List.{List}
use Prim.Native.Nat.{ℕ, ◌+◌}
use native.Mathlib.Omega.{arith}
use lib.Dec.{leb, ltb, eqb}
use lib.ListN.{get_or}
use borrow.Author.Tests.{eq-eqb, ne_eqb}
use Rattle.pattern.specs.Judge.{refusal, time_of}
use Rattle.tables.specs.Cells.{mask_in}
use Rattle.words.specs.Words.{Held}
use Rattle.rules.specs.Pass.{Pass, pass_of}
use Rattle.answers.specs.Cases.{seen, number_of}
use Rattle.answers.specs.Observe.{Observed, judged_by, judged_of, refused_of, taken_of, looked_of, observe_of}
use Rattle.answers.specs.Every.{Counted, Refused, Every}
use Rattle.answers.specs.declared.Refusal.{Refusal}
use Rattle.answers.specs.declared.Refusal.TheVariants.{BadName, FallingTime, FullCount}
use Rattle.answers.specs.declared.Observation.{Observation}
use Rattle.answers.specs.declared.Observation.TheVariants.{Event, Clock}

-- what a refusal's number, or none, makes of a monitor
abbrev By : Held → Observation → Option ℕ → Observed → Type 0
By m o (some n) r = Refused m n r
By m o none r = Counted m o r

-- by whether the time is early, and whether the count is full
abbrev numbered : Bool → Bool → Option ℕ
numbered early full = cond early (some 11) (cond full (some 13) none)

refused : (m : Held) (why : Refusal) → Refused m (number_of why) (refused_of m why)
refused m why = record { why = why; number = refl; stays = refl }

module _ (table : List ℕ) (m : Held) where
  counted : (o : Observation) (p : Pass) (time : ℕ) → time_of (seen o) ≡ time → Counted m o (judged_of p (m.taken + 1) time)
  unfolding judged_of
  counted o p time when = look (eqb p.broken 0) (eqb p.opens 0)
    where
      look : (x y : Bool) → Counted m o (judged_by x y p (m.taken + 1) time)
      look true true = record { verdict = omega arith; holds = refl; mask = refl; taken = refl; latest = sym when; place = λ z. absurd (omega arith) }
      look true false = record { verdict = omega arith; holds = refl; mask = refl; taken = refl; latest = sym when; place = λ z. absurd (omega arith) }
      look false y = record { verdict = omega arith; holds = refl; mask = refl; taken = refl; latest = sym when; place = λ z. refl }

  named : (o : Observation) (concerned name time : ℕ) → time_of (seen o) ≡ time → By m o (numbered (ltb time m.latest) (leb 4294967295 m.taken)) (taken_of table m concerned name time)
  unfolding taken_of
  named o concerned name time when = look (ltb time m.latest) (leb 4294967295 m.taken)
    where
      taken : Observed
      taken = judged_of (pass_of table concerned m.mask m.dues m.rules name time) (m.taken + 1) time

      look : (x y : Bool) → By m o (numbered x y) (cond x (refused_of m FallingTime) (cond y (refused_of m FullCount) taken))
      look true y = refused m FallingTime
      look false true = refused m FullCount
      look false false = counted o (pass_of table concerned m.mask m.dues m.rules name time) time when

  looked : (o : Observation) → By m o (refusal m.latest m.taken (seen o)) (looked_of table m o)
  unfolding looked_of
  looked (Clock time) = named (Clock time) 0 0 time refl
  looked (Event name time) = look (leb 64 name)
    where
      look : (x : Bool) → By m (Event name time) (cond x (some 12) (numbered (ltb time m.latest) (leb 4294967295 m.taken)))
          (cond x (refused_of m BadName) (taken_of table m (mask_in (get_or table name 0)) name time))
      look true = refused m BadName
      look false = named (Event name time) (mask_in (get_or table name 0)) name time refl

  running : (o : Observation) → (m.verdict ≡ 2 → ⊥) → observe_of table m o ≡ looked_of table m o
  unfolding observe_of
  running o h = rw (ne_eqb m.verdict 2 h)

  pub every-monitor : (o : Observation) → Every table m o
  unfolding observe_of
  every-monitor o = record {
    stopped = λ h. rw (eq-eqb m.verdict 2 h);
    refuses = λ h n e. subst (Refused m n) (sym (running o h)) (subst (λ (x : Option ℕ). By m o x (looked_of table m o)) e (looked o));
    takes = λ h e. subst (Counted m o) (sym (running o h)) (subst (λ (x : Option ℕ). By m o x (looked_of table m o)) e (looked o));
  }
