-- What a session promises, in the words of the monitor part's promises.
-- Assumes nothing.
use Rattle.std.specs.Prelude.{◌≡◌, List, map, ℕ, length, Result, Ok, ⊤}
use Rattle.pattern.specs.Judge.{Oracle, Right, nothing, judge_keeps}
use Rattle.pattern.specs.Values.{verdict_values}
use Rattle.layout.specs.Layout.{Sheet}
use Rattle.layout.specs.Reading.{Outcome, accepted, refused, read_sheet}
use Rattle.fields.specs.declared.Refused.{Refused}
use Rattle.sheet.specs.Answers as R
use Rattle.book.specs.Books.{book_of}
use Rattle.book.specs.declared.Book.{Book}
use Rattle.monitor.specs.Promise.{Answer, seen, values_of, Says, Observes, Freshes, Run, CodeAgreement}
use Rattle.value.specs.Value.{numbers_of, by_value}
use Rattle.value.specs.declared.Monitor.{Monitor}
use Rattle.answers.specs.declared.Observation.{Observation}
use Rattle.answers.specs.declared.Verdict.{Verdict}

-- ---- opening: the book and the monitor that a host lends

pub record Lent : Type 0 where
  pub book : Book
  pub monitor : Monitor

-- an accepted sheet gives its book and a fresh monitor; "A refused sheet gives no monitor": both stay as they were
abbrev pub OpensBy : Outcome → Lent → Lent → Type 0
OpensBy (accepted S) before after = (after.book ≡ book_of S) × Freshes by_value after.monitor
OpensBy (refused number place) before after = (after.book ≡ before.book) × (after.monitor ≡ before.monitor)

pub record Opens (bytes : List ℕ) (before : Lent) (r : Result ⊤ Refused) (after : Lent) : Type 0 where
  pub answers : R.values_of r ≡ R.read_values (read_sheet bytes)
  pub opens : OpensBy (read_sheet bytes) before after

-- ---- a session

-- one call after the other, all lent the same book's table, each on the monitor that the last one left in place
abbrev pub Session : List ℕ → Monitor → List Observation → List Answer → Monitor → Type 0
Session table = Run (Observes by_value table)

-- demand 3 for a session: its answers, its count and its verdict are the judge's; and so is what the calls `taken` and `verdict` then answer
pub record SessionAgreement (S : Sheet) (os : List Observation) (as' : List Answer) (last : Monitor) : Type 0 where
  pub agrees : CodeAgreement S os as' (numbers_of last)
  pub counts : (oracle : Oracle) → Right S.rules oracle → (n : ℕ) → n ≡ last.taken → n ≡ length (judge_keeps oracle nothing (map seen os)).taken
  pub says : (oracle : Oracle) → Right S.rules oracle → (v : Verdict) → Says v (numbers_of last) → values_of (Ok v) ≡ verdict_values (judge_keeps oracle nothing (map seen os)).verdict
