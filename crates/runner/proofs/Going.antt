-- The records one after the other, under whatever table. After i records of a run that goes on the monitor has taken i, has the time of the last of them and holds no break: `Going`. One record
-- more keeps it so, or stops the run; and what the run says is `Played`, whether it stops or comes to its end.
-- Assumes nothing.
use mathlib.Core.Path.{◌≡◌, refl, sym, ◌∙◌, ap, subst}
use mathlib.Core.Bool.{Bool, true, false, cond}
use mathlib.Core.Option.{Option, none, some}
use mathlib.Core.List.{List}
use Rattle.std.specs.Prelude.{Some, None, Ok, Err, MatchOption}
use Rattle.std.specs.Prelude as P
use Prim.Native.Nat.{ℕ, suc, ◌*◌, ◌<◌}
use native.Mathlib.Numerals.{add-one}
use native.Mathlib.Omega.{arith}
use lib.Dec.{eqb}
use borrow.Author.Count.{below_more}
use borrow.Author.Tests.{ne_eqb}
use Rattle.pattern.specs.Judge.{Verdict, all_whole, some_open, broken_at, time_of, refusal}
use Rattle.words.specs.Words.{Held, held_by, Fits}
use Rattle.opening.specs.Fresh.{fresh_held}
use Rattle.answers.specs.Observe.{Observed, refused_of}
use Rattle.answers.specs.Every.{Counted}
use Rattle.answers.proofs.Every.{every-monitor}
use Rattle.answers.specs.declared.Observation.{Observation}
use Rattle.answers.specs.Cases.{Answer, number_of}
use Rattle.answers.specs.declared.Verdict.TheVariants.{Whole, Open, Broken}
use Rattle.answers.specs.declared.Refusal.{Refusal}
use Rattle.monitor.specs.Promise.{seen, verdict_in, in_memory, Freshes}
use Rattle.records.specs.Records.{record_at}
use Rattle.runner.specs.Log.{ended, refused_at}
use Rattle.runner.specs.Runs.{time_before, Accepted, Ends, Played, stays-whole, stays_open, breaks, refuses, stopped_at, Turns, ended_in}
use Rattle.runner.specs.declared.Outcome.{Outcome}

pub record Going (log m : List ℕ) (i : ℕ) : Type 0 where
  pub fits : Fits m
  pub runs : (held_by m).verdict ≡ 2 → ⊥
  pub taken : (held_by m).taken ≡ i
  pub latest : (held_by m).latest ≡ time_before log i
  pub accepted : Accepted log i

pub going_start : {log m : List ℕ} → Freshes in_memory m → Going log m 0
unfolding fresh_held
going_start fresh =
    let e = fresh.holds in
    record {
      fits = fresh.fits;
      runs = λ z. omega (arith, ap (λ (h : Held). h.verdict) e);
      taken = ap (λ (h : Held). h.taken) e;
      latest = ap (λ (h : Held). h.latest) e;
      accepted = λ j h. absurd (omega arith);
    }

pub accepted-more : (log : List ℕ) (i : ℕ) → Accepted log i → refusal (time_before log i) i (record_at log i) ≡ none → Accepted log (suc i)
accepted-more log i all here j h = below_more (λ (j : ℕ). refusal (time_before log j) j (record_at log j) ≡ none) i all here j (omega arith)

pub played : {log : List ℕ} {n c : ℕ} {r : Outcome} → Accepted log c → r.taken ≡ c → Ends log n r → Played log n r
played all e ends = record { accepted = λ j h. all j (omega arith); ends = ends }

pub going_done : {log m : List ℕ} {i : ℕ} {r : Outcome} → Going log m i → r ≡ ended_in m → Played log i r
going_done {log} {m} {i} {r} g e = look (eqb (held_by m).verdict 1) (e ∙ rw (ne_eqb (held_by m).verdict 2 g.runs, g.taken))
  where
    look : (x : Bool) → r ≡ ended (cond x (some_open (held_by m).mask) all_whole) i → Played log i r
    look true q = played g.accepted (ap (λ (x : Outcome). x.taken) q) (stays_open (held_by m).mask q)
    look false q = played g.accepted (ap (λ (x : Outcome). x.taken) q) (stays-whole q)

module _ {table log m after : List ℕ} {i n : ℕ} {o : Observation} {t : P.Option Outcome} (g : Going log m i) (h : i < n) (is : seen o ≡ record_at log i) (turns : Turns table m o (5 * i) t after) where
  more : refusal (time_before log i) i (record_at log i) ≡ none → Accepted log (suc i)
  more e = accepted-more log i g.accepted e

  goes : refusal (time_before log i) i (record_at log i) ≡ none
      → {a : Answer} → Counted (held_by m) o (record { monitor = held_by after; answer = a }) → ((held_by after).verdict ≡ 2 → ⊥) → Going log after (suc i)
  goes e c runs = record { fits = turns.observes.fits g.fits; runs = runs; taken = omega (arith, c.taken, g.taken); latest = c.latest ∙ ap time_of is; accepted = more e }

  -- the run goes on, or it has stopped with an outcome
  abbrev Next : P.Option Outcome → Type 0
  Next x = MatchOption x (Going log after (suc i)) (Played log n)

  -- by the monitor and the answer that the record leaves
  abbrev By : Observed → Type 0
  By x = Next (stopped_at x.answer x.monitor (5 * i))

  by-taken : refusal (time_before log i) i (record_at log i) ≡ none
      → (a : Answer) → Counted (held_by m) o (record { monitor = held_by after; answer = a }) → By (record { monitor = held_by after; answer = a })
  by-taken e (Ok Whole) c = goes e c (λ z. omega (arith, c.holds))
  by-taken e (Ok (Open x)) c = goes e c (λ z. omega (arith, c.holds))
  by-taken e (Ok (Broken k x)) c =
      let q : ended (broken_at k x) (held_by after).taken ≡ ended (broken_at (suc i) x) (suc i) = rw (c.place refl, c.taken, g.taken, add-one) in
      played (more e) (ap (λ (r : Outcome). r.taken) q) (breaks i x h q)
  by-taken e (Err why) c = absurd (omega (arith, c.verdict))

  by-refused : (why : Refusal) → refusal (time_before log i) i (record_at log i) ≡ some (number_of why) → By (refused_of (held_by m) why)
  unfolding refused_of
  by-refused why e =
      let before : Verdict = verdict_in (held_by m) in
      let q : refused_at (number_of why) before (held_by m).taken (5 * i) ≡ refused_at (number_of why) before i (5 * i) = rw g.taken in
      played g.accepted (ap (λ (r : Outcome). r.taken) q) (refuses i (number_of why) before h e q)

  found : refusal (held_by m).latest (held_by m).taken (seen o) ≡ refusal (time_before log i) i (record_at log i)
  found = rw (g.latest, g.taken, is)

  pub going_next : Next t
  going_next = rw turns.says (look (refusal (time_before log i) i (record_at log i)) refl)
    where
      look : (x : Option ℕ) → refusal (time_before log i) i (record_at log i) ≡ x → By (record { monitor = held_by after; answer = turns.answer })
      look none e = by-taken e turns.answer (subst (Counted (held_by m) o) (sym (turns.observes.holds g.fits)) ((every-monitor table (held_by m) o).takes g.runs (found ∙ e)))
      look (some number) e =
          let f = (every-monitor table (held_by m) o).refuses g.runs number (found ∙ e) in
          subst By (sym (turns.observes.holds g.fits ∙ f.stays)) (by-refused f.why (e ∙ ap (λ (k : ℕ). some k) (sym f.number)))
