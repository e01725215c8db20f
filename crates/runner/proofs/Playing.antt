-- The records one after the other, under whatever table (`Going`), and under the table of a sheet's book, where the monitor follows what the judge keeps, and what is left to play from there is what
-- was to be played: `Reached`. A turn that does not stop keeps both so; a turn that stops, and the end, give the outcome.
-- Assumes nothing.
use mathlib.Core.Path.{◌≡◌, refl, sym, ◌∙◌, ap, ap₂, subst}
use mathlib.Core.List.{List}
use Rattle.std.specs.Prelude.{Option, Some, None, Ok, Err, MatchOption}
use Prim.Native.Nat.{ℕ, suc, ◌-◌, ◌*◌, ◌≤◌, ◌<◌}
use native.Mathlib.Omega.{arith}
use lib.ListN.{length}
use Rattle.pattern.specs.Judge.{Oracle, Right, all_whole, some_open, broken_at, Kept, nothing, Turn}
use Rattle.pattern.specs.Judge as J
use Rattle.pattern.specs.Values.{answer_values}
use Rattle.pattern.proofs.Values.{same_answer_lem}
use Rattle.layout.specs.Layout.{Sheet, WellFormedSheet}
use Rattle.book.specs.Looks.{Looks}
use Rattle.book.specs.declared.Book.{Book}
use Rattle.words.specs.Words.{held_by}
use Rattle.answers.specs.declared.Observation.{Observation}
use Rattle.answers.specs.Cases.{Answer, number_of}
use Rattle.answers.specs.declared.Verdict.TheVariants.{Whole, Open, Broken}
use Rattle.monitor.specs.Promise.{seen, values_of, verdict_in, in_memory, Follows, Freshes}
use Rattle.monitor.proofs.Agreement.{tracks-taken, tracks-verdict}
use Rattle.records.specs.Records.{record_at}
use Rattle.runner.specs.Log.{ended, turn_at, play}
use Rattle.runner.specs.Runs.{Played, Plays, stopped_at, Turns, ended_in}
use Rattle.runner.specs.declared.Outcome.{Outcome}
use Rattle.runner.proofs.Judging.{play-end, play_by, play-turn}
use Rattle.runner.proofs.Going.{Going, going_start, going_done, going_next}

-- ---- under the table of a sheet's book

pub record Reached (oracle : Oracle) (S : Sheet) (b : Book) (log : List ℕ) (n : ℕ) (m : List ℕ) (i : ℕ) : Type 0 where
  pub k : Kept
  pub follows : Follows in_memory S k b m
  pub rest : play oracle log nothing 0 n ≡ play oracle log k i (n - i)

module _ {oracle : Oracle} {S : Sheet} {b : Book} {log m : List ℕ} {n i : ℕ} (p : Reached oracle S b log n m i) where
  taken : (held_by m).taken ≡ length p.k.taken
  taken = tracks-taken S p.k b (held_by m) p.follows.tracks

  verdict : verdict_in (held_by m) ≡ p.k.verdict
  verdict = tracks-verdict S p.k b (held_by m) p.follows.tracks

  reached-done : n ≡ i → ended_in m ≡ play oracle log nothing 0 n
  reached-done e =
      ap₂ ended verdict taken ∙ sym (p.rest ∙ ap (play oracle log p.k i) (omega arith) ∙ play-end oracle log p.k i)

  module _ {table after : List ℕ} {o : Observation} {t : Option Outcome} (h : i < n) (is : seen o ≡ record_at log i) (lent : b.table ≡ table) (right : Right S.rules oracle)
      (turns : Turns table m o (5 * i) t after) where
    abbrev turn : Turn
    turn = turn_at oracle log p.k i

    left : {a : J.Answer} → a ≡ turn.answer → play oracle log nothing 0 n ≡ play_by oracle log p.k i (n - suc i) (record { answer = a; kept = turn.kept })
    left j = p.rest ∙ ap (play oracle log p.k i) (omega arith) ∙ play-turn oracle log p.k i (n - suc i) j

    answers : values_of turns.answer ≡ answer_values turn.answer
    answers = rw is at (turns.observes.answers b lent S p.k p.follows oracle right)

    follows : Follows in_memory S turn.kept b after
    follows = rw is at (turns.observes.follows b lent S p.k p.follows oracle right)

    -- after a record: what a run that stops says is what the judge's says, or the monitor follows what the judge then keeps
    abbrev Next : Option Outcome → Type 0
    Next x = MatchOption x (Reached oracle S b log n after (suc i)) (λ r. r ≡ play oracle log nothing 0 n)

    reached-next : Next t
    reached-next = rw turns.says (look turns.answer answers turns.observes.unchanged)
      where
        look : (a : Answer) → values_of a ≡ answer_values turn.answer → ((values_of a).answer ≡ 3 → after ≡ m) → Next (stopped_at a (held_by after) (5 * i))
        look (Ok Whole) j u = record { k = turn.kept; follows = follows; rest = left (same_answer_lem (J.verdict all_whole) turn.answer j) }
        look (Ok (Open x)) j u = record { k = turn.kept; follows = follows; rest = left (same_answer_lem (J.verdict (some_open x)) turn.answer j) }
        look (Ok (Broken k x)) j u =
            ap (ended (broken_at k x)) (tracks-taken S turn.kept b (held_by after) follows.tracks) ∙ sym (left (same_answer_lem (J.verdict (broken_at k x)) turn.answer j))
        look (Err why) j u = rw (u refl, verdict, taken) (sym (left (same_answer_lem (J.refused (number_of why)) turn.answer j)))

-- ---- the loop

-- for the table of a well-formed sheet's book, whatever judge
abbrev UnderBook : List ℕ → (Oracle → Sheet → Book → Type 0) → Type 0
UnderBook table P = (S : Sheet) (b : Book) → WellFormedSheet S → Looks S b → b.table ≡ table → (oracle : Oracle) → Right S.rules oracle → P oracle S b

pub record Playing (table log : List ℕ) (n : ℕ) (m : List ℕ) (i : ℕ) : Type 0 where
  pub within : i ≤ n
  pub going : Going log m i
  pub judged : UnderBook table (λ oracle S b. Reached oracle S b log n m i)

pub start : {table log : List ℕ} {n : ℕ} {m : List ℕ} → Freshes in_memory m → Playing table log n m 0
start {log = log} fresh = record {
  within = omega arith;
  going = going_start fresh;
  judged = λ S b formed looks lent oracle right. record { k = nothing; follows = fresh.follows S b formed looks; rest = ap (play oracle log nothing 0) (omega arith) };
}

module _ {table log : List ℕ} {n : ℕ} {m : List ℕ} {i : ℕ} (p : Playing table log n m i) where
  pub done : {r : Outcome} → n ≤ i → r ≡ ended_in m → Plays table log n r
  done {r} h e =
      let z : i ≡ n = let w = p.within in omega arith in
      record {
        played = subst (λ (x : ℕ). Played log x r) z (going_done p.going e);
        judged = λ S b formed looks lent oracle right. e ∙ reached-done (p.judged S b formed looks lent oracle right) (sym z);
      }

  module _ {after : List ℕ} {o : Observation} {t : Option Outcome} (h : i < n) (is : seen o ≡ record_at log i) (turns : Turns table m o (5 * i) t after) where
    abbrev pub Turned : Option Outcome → Type 0
    Turned x = MatchOption x (Playing table log n after (suc i)) (Plays table log n)

    pub next : Turned t
    next = look t (going_next p.going h is turns) (λ S b formed looks lent oracle right. reached-next (p.judged S b formed looks lent oracle right) h is lent right turns)
      where
        look : (x : Option Outcome) → MatchOption x (Going log after (suc i)) (Played log n)
            → UnderBook table (λ oracle S b. MatchOption x (Reached oracle S b log n after (suc i)) (λ r. r ≡ play oracle log nothing 0 n)) → Turned x
        look (Some r) g j = record { played = g; judged = j }
        look None g j = record { within = omega arith; going = g; judged = j }
