-- A live session: opening, and demand 3 for the calls one after the other, `live-agreement`. The calls are a run of the monitor part's, whose answers are told as numbers.
-- Assumes nothing.
use mathlib.Core.Path.{◌≡◌, refl, sym, ◌∙◌, ap, ap₂, subst}
use mathlib.Core.Option.{Option}
use mathlib.Core.List.{List, [], ◌∷◌, map, map-map}
use Prim.Native.Nat.{ℕ, ◌%◌, ◌≤◌, ◌<◌}
use native.Mathlib.Omega.{arith}
use lib.ListN.{length}
use Rattle.pattern.specs.Judge.{nothing, judge_answers}
use Rattle.pattern.specs.Values.{refused_values, answer_values}
use Rattle.layout.specs.Terms.{today}
use Rattle.layout.specs.Layout.{Sheet, WellFormedSheet, Bytes}
use Rattle.layout.specs.Reading.{Outcome, accepted, refused, read_sheet}
use Rattle.layout.specs.Pages.{rule_at}
use Rattle.layout.proofs.Accepted.{rules-formed}
use Rattle.layout.proofs.Acceptance.{Accepts, accepted-is-encoded}
use Rattle.std.specs.Prelude.{Ok, Err}
use Rattle.fields.specs.Faults as F
use Rattle.fields.specs.declared.Refused.{Refused}
use Rattle.sheet.proofs.Cases.{AnswerOf}
use Rattle.book.specs.declared.Book.{Book}
use Rattle.book.specs.Books.{Translates, book_of}
use Rattle.book.proofs.Lookups.{looks}
use Rattle.book.proofs.Translated.{answered}
use Rattle.words.specs.Words.{held_by}
use Rattle.monitor.specs.Promise.{Answer, seen, values_of, verdict_in, in_memory, Observes, Freshes, Run, done, more}
use Rattle.monitor.proofs.Agreement.{agrees_from}
use Rattle.answers.specs.declared.Verdict.TheVariants.{Whole, Open, Broken}
use Rattle.answers.specs.declared.Observation.{Observation}
use Rattle.replies.specs.Replies.{word_of}
use Rattle.sheet_writer.proofs.Writing.{short, long, same_bytes}
use Rattle.rule_player.specs.Choice.{chosen}
use Rattle.rule_player.specs.Rounds.{fed, Spares}
use Rattle.rule_player.specs.Playing.{Playing, playing_of}
use Rattle.rule_player.proofs.Sentences.{judged-keeps}
use Rattle.live.specs.Live.{Arrays, OpensBy, Opens, Notes, Live, none, call, LiveAgreement, number_of, Stores, StoredBack, PlaysInto, PlaysChosen}

-- ---- opening

module _ (sheet : List ℕ) (before : Arrays) where
  pub opens-accepted : (b : Book) → Translates sheet (Ok b) → (first : List ℕ) → Freshes in_memory first → Opens sheet before 0 (record { table = b.table; monitor = first })
  opens-accepted b translates first fresh = look (read_sheet sheet) refl (answered sheet (Ok b) translates)
    where
      look : (x : Outcome) → read_sheet sheet ≡ x → AnswerOf {A = Book} x (Ok b) → Opens sheet before 0 (record { table = b.table; monitor = first })
      look (accepted S) f p = record { answers = rw f; opens = rw f (let own : b ≡ book_of S = cc (translates.keeps S f) in ap (λ (b : Book). b.table) own, fresh) }
      look (refused k q) f p = absurd p

  pub opens-refused : (e : Refused) → Translates sheet (Err e) → (r : ℕ) → r ≡ word_of (refused_values (F.number_of e.fault) e.place) → Opens sheet before r before
  opens-refused e translates r is = look (read_sheet sheet) refl (answered sheet (Err e) translates)
    where
      look : (x : Outcome) → read_sheet sheet ≡ x → AnswerOf {A = Book} x (Err e) → Opens sheet before r before
      look (accepted S) f p = absurd p
      look (refused k q) f p = record { answers = is ∙ ap₂ (λ (x y : ℕ). word_of (refused_values x y)) p.0 p.1 ∙ sym (rw f); opens = rw f refl }

-- ---- what a number tells

-- the lowest eight bits are the answer
low_byte : (a : Answer) → word_of (values_of a) % 256 ≡ (values_of a).answer
low_byte (Ok Whole) = refl
low_byte (Ok (Open m)) = omega arith
low_byte (Ok (Broken k m)) = omega arith
low_byte (Err why) = omega arith

-- so a host that reads a refusal off the number has the monitor that it lent
pub refused-unchanged : {table before after : List ℕ} {o : Observation} {r : ℕ} → Notes table before o r after → r % 256 ≡ 3 → after ≡ before
refused-unchanged c e = c.observes.unchanged (sym (low_byte c.answer) ∙ ap (λ (n : ℕ). n % 256) (sym c.number) ∙ e)

-- ---- the whole list

-- the calls, with the answers that their numbers tell
record Calls (table m : List ℕ) (os : List Observation) (rs last : List ℕ) : Type 0 where
  answers : List Answer
  numbers : rs ≡ map (λ (a : Answer). word_of (values_of a)) answers
  run : Run (Observes in_memory table) m os answers last

calls : {table m last rs : List ℕ} {os : List Observation} → Live table m os rs last → Calls table m os rs last
calls none = record { answers = []; numbers = refl; run = done }
calls (call c rest) =
    let r = calls rest in
    record { answers = c.answer ∷ r.answers; numbers = ap₂ (λ (x : ℕ) (l : List ℕ). x ∷ l) c.number r.numbers; run = more c.observes r.run }

module _ (S : Sheet) (formed : WellFormedSheet S) {m : List ℕ} (fresh : Freshes in_memory m) {os : List Observation} {rs last : List ℕ} where
  agrees : Live (book_of S).table m os rs last → LiveAgreement S os rs last
  agrees live =
      let r = calls live in
      let a = agrees_from in_memory (book_of S) S formed m (fresh.follows S (book_of S) formed (looks S formed)) r.run in
      record {
        judged = a.judged;
        agrees = λ oracle right. record {
          answered =
              r.numbers ∙ sym (map-map word_of values_of r.answers) ∙ ap (map word_of) (a.agrees oracle right).answered
              ∙ map-map word_of answer_values (judge_answers oracle nothing (map seen os));
          taken = (a.agrees oracle right).taken;
          verdict = (a.agrees oracle right).verdict;
        };
      }

-- for every accepted sheet, the arrays that opening left and every list of observations, events and clock readings: a judge exists, and the calls one after the other answer what it answers
pub live-agreement : (sheet : List ℕ) → Bytes sheet → (before after : Arrays) (r : ℕ) → Opens sheet before r after → (S : Sheet) → read_sheet sheet ≡ accepted S
    → (os : List Observation) (rs last : List ℕ) → Live after.table after.monitor os rs last → LiveAgreement S os rs last
live-agreement sheet bytes before after r opens S is os rs last live =
    let o : OpensBy (accepted S) before after = subst (λ (x : Outcome). OpensBy x before after) is opens.opens in
    agrees S (accepted-is-encoded sheet bytes is).formed o.1 (subst (λ (t : List ℕ). Live t after.monitor os rs last) o.0 live)

-- and so from the monitor that `guard4_start` left, under the book of any accepted sheet
pub started-agreement : (m : List ℕ) → Freshes in_memory m → (sheet : List ℕ) → Bytes sheet → (S : Sheet) → read_sheet sheet ≡ accepted S
    → (os : List Observation) (rs last : List ℕ) → Live (book_of S).table m os rs last → LiveAgreement S os rs last
started-agreement m fresh sheet bytes S is os rs last = agrees S (accepted-is-encoded sheet bytes is).formed fresh

-- ---- writing

-- for every accepted sheet, the arrays that opening left and whatever buffer: writing the book gives the sheet's own bytes, and opening these gives the same table
pub opened-writes-back : (sheet : List ℕ) → Bytes sheet → (lent opened : Arrays) (r : ℕ) → Opens sheet lent r opened → (S : Sheet) → read_sheet sheet ≡ accepted S
    → (before after : List ℕ) (n : ℕ) → Stores opened.table before n after → StoredBack sheet opened before n after
opened-writes-back sheet bytes lent opened r opens S is before after n stores =
    let accepts : Accepts today sheet S = accepted-is-encoded sheet bytes is in
    let o : OpensBy (accepted S) lent opened = subst (λ (x : Outcome). OpensBy x lent opened) is opens.opens in
    let l = looks S accepts.formed in
    let w = stores.writes in
    record {
      own = λ h. let (a, e) = long w sheet S (book_of S) accepts l (sym o.0) h in (stores.number ∙ ap number_of a, e);
      short = λ h. let (a, e) = short w sheet S (book_of S) accepts l (sym o.0) h in (stores.number ∙ ap number_of a, e);
      again = λ h before' after' answer v.
          let v : Opens sheet before' answer after' = subst (λ (x : List ℕ). Opens x before' answer after') (same_bytes w sheet S (book_of S) accepts l (sym o.0) h) v in
          let a : OpensBy (accepted S) before' after' = subst (λ (x : Outcome). OpensBy x before' after') is v.opens in
          (v.answers ∙ rw is refl, a.0 ∙ sym o.0);
    }

-- ---- playing

-- for every accepted sheet and the arrays that opening left: the number and the output are those of the round that the choice bytes pick
pub opened-plays : (sheet : List ℕ) → Bytes sheet → (lent opened : Arrays) (r : ℕ) → Opens sheet lent r opened → (S : Sheet) → read_sheet sheet ≡ accepted S
    → (rule time : ℕ) (choice before after : List ℕ) (n : ℕ) → PlaysInto opened.table rule time choice before n after → PlaysChosen S.rules rule time choice before n after
opened-plays sheet bytes lent opened r opens S is rule time choice before after n p =
    let formed = (accepted-is-encoded sheet bytes is).formed in
    let o : OpensBy (accepted S) lent opened = subst (λ (x : Outcome). OpensBy x lent opened) is opens.opens in
    let e = p.plays.call ∙ ap (λ (names : Option (List ℕ)). playing_of names time before) (p.plays.own S (book_of S) formed (looks S formed) (sym o.0)) in
    record { answers = p.number ∙ ap (λ (x : Playing). number_of x.answer) e; output = ap (λ (x : Playing). x.output) e }

-- a session from the monitor that opening left, in which every observation is of a round that was played: the verdict has nothing to say of its rule
pub session-keeps-the-rule : (sheet : List ℕ) → Bytes sheet → (before after : Arrays) (r : ℕ) → Opens sheet before r after → (S : Sheet) → read_sheet sheet ≡ accepted S
    → (rule : ℕ) → rule < length S.rules → (time : ℕ) (choice : List ℕ) → length (chosen (rule_at S.rules rule) choice) ≤ 4294967295
    → (os : List Observation) (rs last : List ℕ) → map seen os ≡ fed time (chosen (rule_at S.rules rule) choice) → Live after.table after.monitor os rs last → Spares rule (verdict_in (held_by last))
session-keeps-the-rule sheet bytes before after r opens S is rule here time choice few os rs last e live =
    let formed = (accepted-is-encoded sheet bytes is).formed in
    let a = live-agreement sheet bytes before after r opens S is os rs last live in
    let (oracle, right) = a.judged in
    rw ((a.agrees oracle right).verdict, e) (judged-keeps S.rules (rules-formed S formed) rule here time choice few oracle right)
