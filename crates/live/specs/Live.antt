-- A live session of a C host (document 01, "Observing": "The host's session keeps one monitor, lent to the guard and changed in place"): the calls, in terms of the judge.
-- An answer is one number (`replies/specs/Replies`).
-- Assumes nothing.
use Rattle.std.specs.Prelude.{◌≡◌, Result, List, [], ◌∷◌, ◌++◌, map, ℕ, ◌-◌, ◌^◌, ◌≤◌, ◌<◌, length, take, drop}
use Rattle.pattern.specs.Meaning.{Rule}
use Rattle.pattern.specs.Judge.{Oracle, Right, nothing, judge_answers, judge_keeps}
use Rattle.pattern.specs.Judge as J
use Rattle.pattern.specs.Values.{verdict_values, answer_values}
use Rattle.layout.specs.Layout.{Sheet}
use Rattle.layout.specs.Reading.{Outcome, accepted, refused, read_sheet}
use Rattle.sheet.specs.Answers.{read_values}
use Rattle.book.specs.Books.{book_of}
use Rattle.words.specs.Words.{held_by}
use Rattle.answers.specs.declared.Observation.{Observation}
use Rattle.replies.specs.Replies.{word_of}
use Rattle.sheet_writer.specs.declared.TooShort.{TooShort}
use Rattle.sheet_writer.specs.Writing.{answer_of, Writes}
use Rattle.store.specs.Answers as S
use Rattle.rule_player.specs.declared.Refusal.{Refusal}
use Rattle.rule_player.specs.Playing.{playing_of, chosen_of, Plays}
use Rattle.rule_player.specs.Playing as P
use Rattle.monitor.specs.Promise.{Answer, seen, values_of, verdict_in, in_memory, Observes, Freshes}

-- it rises with each call that is added or changed, as opening is by the sheets that it reads, and with the memory that a host lends
abbrev pub library_version : ℕ
library_version = 8

-- ---- opening: the two arrays that a host lends

pub record Arrays : Type 0 where
  pub table : List ℕ
  pub monitor : List ℕ

-- the table of an accepted sheet's book stands in the first, and a fresh monitor in the other; "A refused sheet gives no monitor", and both stay as they were
abbrev pub OpensBy : Outcome → Arrays → Arrays → Type 0
OpensBy (accepted S) before after = (after.table ≡ (book_of S).table) × Freshes in_memory after.monitor
OpensBy (refused number place) before after = after ≡ before

pub record Opens (sheet : List ℕ) (before : Arrays) (r : ℕ) (after : Arrays) : Type 0 where
  pub answers : r ≡ word_of (read_values (read_sheet sheet))
  pub opens : OpensBy (read_sheet sheet) before after

-- ---- observing: the number of an answer such as every form of the call promises

pub record Notes (table before : List ℕ) (o : Observation) (r : ℕ) (after : List ℕ) : Type 0 where
  pub answer : Answer
  pub number : r ≡ word_of (values_of answer)
  pub observes : Observes in_memory table before o answer after

-- the verdict that the monitor in these bytes holds
abbrev pub verdict_is : ℕ → List ℕ → Type 0
verdict_is r m = r ≡ word_of (verdict_values (verdict_in (held_by m)))

-- ---- a session: one call after the other, each on the bytes that the last one left: an event by its call, a clock reading by its own

pub data Live (table : List ℕ) : List ℕ → List Observation → List ℕ → List ℕ → Type 0 where
  none : {m : List ℕ} → Live table m [] [] m
  call : {m next last : List ℕ} {o : Observation} {os : List Observation} {r : ℕ} {rs : List ℕ} → Notes table m o r next → Live table next os rs last → Live table m (o ∷ os) (r ∷ rs) last

-- demand 3 for such a session: the judge's answers in order, the length of its list, and its verdict
pub record LiveAgrees (os : List Observation) (rs last : List ℕ) (oracle : Oracle) : Type 0 where
  pub answered : rs ≡ map (λ (a : J.Answer). word_of (answer_values a)) (judge_answers oracle nothing (map seen os))
  pub taken : (held_by last).taken ≡ length (judge_keeps oracle nothing (map seen os)).taken
  pub verdict : verdict_in (held_by last) ≡ (judge_keeps oracle nothing (map seen os)).verdict

pub record LiveAgreement (S : Sheet) (os : List Observation) (rs last : List ℕ) : Type 0 where
  -- a judge exists, and with every one of them the session agrees
  pub judged : (oracle : Oracle) × Right S.rules oracle
  pub agrees : (oracle : Oracle) → Right S.rules oracle → LiveAgrees os rs last oracle

-- ---- writing: so many bytes, or so many records; or a refusal as its number below 0, in 64 bits

abbrev pub below_0 : ℕ → ℕ
below_0 number = 2 ^ 64 - number

abbrev pub number_of : S.Answer → ℕ
number_of (S.written n) = n
number_of (S.refused number) = below_0 number

-- the number of an answer such as the writer promises
pub record Stores (table before : List ℕ) (r : ℕ) (after : List ℕ) : Type 0 where
  pub answer : Result ℕ TooShort
  pub number : r ≡ number_of (answer_of answer)
  pub writes : Writes table before answer after

-- a sheet that was opened into these arrays, and its book written into a buffer
pub record StoredBack (sheet : List ℕ) (opened : Arrays) (before : List ℕ) (r : ℕ) (after : List ℕ) : Type 0 where
  pub own : length sheet ≤ length before → (r ≡ length sheet) × (after ≡ sheet ++ drop (length sheet) before)
  pub short : length before < length sheet → (r ≡ 2 ^ 64 - 16) × (after ≡ before)
  -- the bytes are opened into the same table, whatever arrays are lent
  pub again : length sheet ≤ length before → (lent now : Arrays) (answer : ℕ) → Opens (take (length sheet) after) lent answer now → (answer ≡ 0) × (now.table ≡ opened.table)

-- ---- playing: the number of an answer such as the player promises

pub record PlaysInto (table : List ℕ) (rule time : ℕ) (choice before : List ℕ) (r : ℕ) (after : List ℕ) : Type 0 where
  pub answer : Result ℕ Refusal
  pub number : r ≡ number_of (P.answer_of answer)
  pub plays : Plays table rule time choice before answer after

-- the call with a sheet's opened book: the number and the output of the round that the choice bytes pick, or of 17 or 18
pub record PlaysChosen (rules : List Rule) (rule time : ℕ) (choice before : List ℕ) (r : ℕ) (after : List ℕ) : Type 0 where
  pub answers : r ≡ number_of (playing_of (chosen_of rules rule choice) time before).answer
  pub output : after ≡ (playing_of (chosen_of rules rule choice) time before).output
