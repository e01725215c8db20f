-- Playing a round (document 02, change 5): "Given a book, a rule number, a time, lent choice bytes and an output, write one round of that rule as log records, all at that time."
-- Assumes nothing.
use Rattle.std.specs.Prelude.{◌≡◌, cond, Result, Ok, Err, List, ◌++◌, ℕ, ◌*◌, ltb, length, drop}
use Rattle.std.proofs.Math.Option.{Option, none, some}
use Rattle.pattern.specs.Meaning.{Rule}
use Rattle.layout.specs.Layout.{Sheet, le, each, WellFormedSheet}
use Rattle.layout.specs.Pages.{rule_at}
use Rattle.book.specs.Looks.{Looks}
use Rattle.book.specs.declared.Book.{Book}
use Rattle.store.specs.Answers.{Answer, written, refused}
use Rattle.rule_player.specs.declared.Refusal.{Refusal}
use Rattle.rule_player.specs.declared.Refusal.TheVariants.{NoRule, TooLong}
use Rattle.rule_player.specs.Choice.{chosen}

-- ---- what a call answers

-- document 02's number for each case of the code's answer
abbrev pub answer_of : Result ℕ Refusal → Answer
answer_of (Ok n) = written n
answer_of (Err NoRule) = refused 17
answer_of (Err TooLong) = refused 18

-- ---- the call

-- what it answers, and what it leaves in the output
pub record Playing : Type 0 where
  pub answer : Answer
  pub output : List ℕ

-- "log records": a name and the time
abbrev pub record_bytes : ℕ → ℕ → List ℕ
record_bytes time name = le 1 name ++ le 4 time

abbrev pub records_of : ℕ → List ℕ → List ℕ
records_of time names = each (record_bytes time) names

-- "The answer is the number of records; later bytes don't change"
abbrev pub writing : ℕ → List ℕ → List ℕ → Playing
writing time names out = record { answer = written (length names); output = records_of time names ++ drop (5 * length names) out }

-- the call that writes the round of these names, if there is one: "17, no such rule; 18, the chosen round is longer than the output; 17 is looked at first, and neither writes anything"
abbrev pub playing_of : Option (List ℕ) → ℕ → List ℕ → Playing
playing_of none time out = record { answer = refused 17; output = out }
playing_of (some names) time out = cond (ltb (length out) (5 * length names)) (record { answer = refused 18; output = out }) (writing time names out)

-- the names of the round of a rule that the choice bytes pick; none if there is no such rule
abbrev pub chosen_of : List Rule → ℕ → List ℕ → Option (List ℕ)
chosen_of rules r choice = cond (ltb r (length rules)) (some (chosen (rule_at rules r) choice)) none

-- the promise: whatever the table, the call is one for some names or none, and for the table of a sheet's book these are the chosen round's
pub record Plays (table : List ℕ) (r time : ℕ) (choice before : List ℕ) (answer : Result ℕ Refusal) (after : List ℕ) : Type 0 where
  pub names : Option (List ℕ)
  pub call : record { answer = answer_of answer; output = after } ≡ playing_of names time before
  pub own : (S : Sheet) (b : Book) → WellFormedSheet S → Looks S b → b.table ≡ table → names ≡ chosen_of S.rules r choice
