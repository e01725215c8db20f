-- What the clock can change of a rule's status: nothing, unless its deadline runs; then it is open up to the deadline and broken after it.
-- Assumes nothing.
use mathlib.Core.Path.{◌≡◌, refl, sym}
use mathlib.Core.Bool.{Bool, true, false, cond, not, ◌&&◌}
use Prim.Native.Nat.{ℕ, ◌≤◌}
use lib.ListN.{length}
use borrow.Author.Tests.{lt-leb}
use Rattle.pattern.specs.Meaning.{Kind, once, repeated, timed, Rule, broken, open'}
use Rattle.pattern.specs.Recogniser.{erred, complete}
use Rattle.tables.specs.Cells.{is_timed}
use Rattle.pattern.specs.Model.{RuleState, in_time, is_last, after_p, slots_of, join_of, at_rest, pressed, status_at}
use Rattle.step.specs.Shows.{running}
use Rattle.step.proofs.Flags.{clash}

-- kinds 0 and 1 are always in time
always : (k : Kind) → is_timed k ≡ false → (end now : ℕ) → in_time k end now ≡ true
always (once i) e end now = refl
always (repeated i) e end now = refl
always (timed q t) e end now = clash (sym e)

module _ (r : Rule) (st : RuleState) where
  still : (k a e p : Bool) → is_timed r.kind ≡ k → at_rest r st ≡ a → erred (slots_of r st) ≡ e → pressed r st ≡ p → (k && (not a && (not e && p))) ≡ false
      → (now now' : ℕ) → status_at r st now ≡ status_at r st now'
  still k true e p qk qa qe qp h now now' = rw qa
  still k false true p qk qa qe qp h now now' = rw (qa, qe)
  still k false false false qk qa qe qp h now now' = rw (qa, qe, qp)
  still false false false true qk qa qe qp h now now' = rw (qa, qe, qp, always r.kind qk st.end now, always r.kind qk st.end now')
  still true false false true qk qa qe qp h now now' = clash (sym h)

  -- no deadline runs: the time plays no part
  pub time-alone : running r st ≡ false → (now now' : ℕ) → status_at r st now ≡ status_at r st now'
  time-alone h now now' = still (is_timed r.kind) (at_rest r st) (erred (slots_of r st)) (pressed r st) refl refl refl refl h now now'

-- the first fragment is of P
after-zero : (r : Rule) → 1 ≤ length r.p → after_p r 0 ≡ false
after-zero r h = lt-leb (length r.p) 0 h

module _ (r : Rule) (some : 1 ≤ length r.p) (st : RuleState) where
  -- a rule that is pressed is not whole
  pressed-not-last : pressed r st ≡ true → (complete (join_of r st) (slots_of r st) && is_last r st.fragment) ≡ false
  pressed-not-last h = look (after_p r st.fragment) refl (complete (join_of r st) (slots_of r st)) refl (is_last r st.fragment) refl h
    where
      look : (a : Bool) → after_p r st.fragment ≡ a → (d : Bool) → complete (join_of r st) (slots_of r st) ≡ d → (b : Bool) → is_last r st.fragment ≡ b → pressed r st ≡ true → (d && b) ≡ false
      look a qa false qd b qb e = refl
      look a qa true qd false qb e = refl
      look true qa true qd true qb e = clash (rw (qa, qd, qb) at e)
      look false qa true qd true qb e = clash (rw (qa, qb, after-zero r some) at e)

  -- a deadline runs: open up to it, broken after it
  pub running-is : running r st ≡ true → (now : ℕ) → status_at r st now ≡ cond (in_time r.kind st.end now) open' broken
  running-is h now = look (is_timed r.kind) refl (at_rest r st) refl (erred (slots_of r st)) refl (pressed r st) refl h
    where
      timing : (b : Bool) → cond (not b) broken open' ≡ cond b open' broken
      timing true = refl
      timing false = refl

      look : (k : Bool) → is_timed r.kind ≡ k → (a : Bool) → at_rest r st ≡ a → (e : Bool) → erred (slots_of r st) ≡ e → (p : Bool) → pressed r st ≡ p → (k && (not a && (not e && p))) ≡ true
          → status_at r st now ≡ cond (in_time r.kind st.end now) open' broken
      look false qk a qa e qe p qp z = clash z
      look true qk true qa e qe p qp z = clash z
      look true qk false qa true qe p qp z = clash z
      look true qk false qa false qe false qp z = clash z
      look true qk false qa false qe true qp z = rw (qa, qe, qp, pressed-not-last qp) (timing (in_time r.kind st.end now))
