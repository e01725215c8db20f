-- How the code tells what it read: the value, and the reader stands after it; or the refusal, with the fault's number and its place, at which the reader stands. These are the contracts of
-- the reader's own functions, here and, for the parts and the sheet, in the crates above. The exported one's is `Answers` of the crate `sheet`.
-- Assumes nothing.
use Rattle.std.specs.Prelude.{◌≡◌, List, ℕ, ◌+◌, ◌<◌, ◌≤◌, length, Option, Result, Ok, Err, MatchOption, MatchResult}
use Rattle.layout.specs.Form.{Form, Got, got, stopped, number, field_at, read}
use Rattle.layout.specs.Terms.{today}
use Rattle.fields.specs.Faults.{number_of}
use Rattle.fields.specs.Values.{Value}
use Rattle.fields.specs.declared.Fault.{Fault}
use Rattle.fields.specs.declared.Fault.TheVariants.{DoesNotFit, BytesLeftOver}
use Rattle.fields.specs.declared.Refused.{Refused}
use Rattle.fields.specs.declared.Reader.{Reader}

-- ---- what a definition reads of some bytes from an offset on

-- a field of n bytes, with the faults of its value
abbrev pub a_field : ℕ → (ℕ → ℕ) → List ℕ → ℕ → Got ℕ
a_field n fault s = field_at s n fault

-- a part, on today's terms
abbrev pub a_part : {A : Type 0} → Form A → List ℕ → ℕ → Got A
a_part m s = read today s m

-- ---- what the code tells of it

-- what was read is the definition's, up to the reader's place, and the code's value shows it
pub record Read {V A : Type 0} (Shows : V → A → Type 0) (place : ℕ) (g : Got A) (v : V) : Type 0 where
  pub value : A
  pub reads : g ≡ got value place
  pub shows : Shows v value

-- the reading stopped at the reader's place
pub record Stopped {A : Type 0} (place : ℕ) (g : Got A) (e : Refused) : Type 0 where
  pub stops : g ≡ stopped (number_of e.fault) e.place
  pub stands : place ≡ e.place

-- the result is what the definition reads from the reader's place on
pub record Told {V A : Type 0} (Shows : V → A → Type 0) (old new : Reader) (r : Result V Refused) (G : List ℕ → ℕ → Got A) : Type 0 where
  pub same : new.bytes.now ≡ old.bytes.now
  pub says : MatchResult r (Read Shows new.at (G old.bytes.now old.at)) (Stopped new.at (G old.bytes.now old.at))

-- no bytes are left over, or the first that are is refused
abbrev pub Ended : Reader → Result (Unit {0}) Refused → Type 0
Ended r (Ok x) = length r.bytes.now ≤ r.at
Ended r (Err e) = (r.at < length r.bytes.now) × (e ≡ record { fault = BytesLeftOver; place = r.at })

-- ---- the two steps of a field

-- the number of the n bytes from the reader's place on, or that they are not there
abbrev pub Looked : ℕ → Reader → Result ℕ Refused → Type 0
Looked n r (Ok x) = (r.at + n ≤ length r.bytes.now) × Value n x (number r.bytes.now n r.at)
Looked n r (Err e) = (length r.bytes.now < r.at + n) × (e ≡ record { fault = DoesNotFit; place = r.at })

-- a value with a fault is refused at the reader's place, and one with none is passed over
pub record Settled (n x : ℕ) (fault : Option Fault) (old new : Reader) (r : Result ℕ Refused) : Type 0 where
  pub same : new.bytes.now ≡ old.bytes.now
  pub says : MatchOption fault ((r ≡ Ok x) × (new.at ≡ old.at + n)) (λ k. (r ≡ Err (record { fault = k; place = old.at })) × (new.at ≡ old.at))
