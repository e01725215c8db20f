-- A whole run: a log that is no list of records is turned away, and of another the records are played. Assumes nothing.
use mathlib.Core.Path.{◌≡◌, sym, ◌∙◌}
use mathlib.Core.Bool.{true, false, not, or-true}
use mathlib.Core.List.{List}
use Prim.Native.Nat.{ℕ, ◌%◌, ◌≤◌, ◌<◌}
use lib.Dec.{eqb}
use lib.ListN.{length}
use borrow.Author.Tests.{lt-ltb, le-ltb, eq-eqb, ne_eqb}
use Rattle.pattern.specs.Judge.{Oracle, nothing}
use Rattle.runner.specs.Log.{bad_length, turned_away, play, at_most, run_of}
use Rattle.runner.specs.Runs.{Runs, Plays}
use Rattle.runner.specs.declared.Outcome.{Outcome}
use Rattle.runner.proofs.Judging.{never}

module _ (log : List ℕ) where
  pub uneven : (length log % 5 ≡ 0 → ⊥) → bad_length log ≡ true
  uneven h = rw (ne_eqb (length log % 5) 0 h)

  pub long : 4294967295 < length log → bad_length log ≡ true
  long h = rw (lt-ltb 4294967295 (length log) h) (or-true (not (eqb (length log % 5) 0)))

  pub good : length log % 5 ≡ 0 → length log ≤ 4294967295 → bad_length log ≡ false
  good e h = rw (eq-eqb (length log % 5) 0 e, le-ltb 4294967295 (length log) h)

module _ (oracle : Oracle) (log : List ℕ) (budget : ℕ) where
  pub run-turned : bad_length log ≡ true → run_of oracle log budget ≡ turned_away 14 0
  unfolding run_of
  run-turned e = rw e

  pub run-played : bad_length log ≡ false → run_of oracle log budget ≡ play oracle log nothing 0 (at_most log budget)
  unfolding run_of
  run-played e = rw e

module _ {table log : List ℕ} {budget : ℕ} {r : Outcome} where
  pub runs-turned : bad_length log ≡ true → r ≡ turned_away 14 0 → Runs table log budget r
  runs-turned e is = record {
    uneven = λ z. is;
    even = λ z. never (sym e ∙ z);
    judged = λ S b formed looks lent oracle right. is ∙ sym (run-turned oracle log budget e);
  }

  pub runs-played : bad_length log ≡ false → Plays table log (at_most log budget) r → Runs table log budget r
  runs-played e plays = record {
    uneven = λ z. never (sym z ∙ e);
    even = λ z. plays.played;
    judged = λ S b formed looks lent oracle right. plays.judged S b formed looks lent oracle right ∙ sym (run-played oracle log budget e);
  }
