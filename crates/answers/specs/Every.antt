-- What an observation is answered for every table and every monitor, also such as these calls did not make: only the verdict of one that is taken is the table's and the monitor's own affair.
-- Assumes nothing.
use Rattle.std.specs.Prelude.{◌≡◌, List, ℕ, ◌+◌, ◌<◌, Ok}
use Rattle.std.proofs.Math.Option.{none, some}
use Rattle.pattern.specs.Judge.{refusal, time_of}
use Rattle.words.specs.Words.{Held}
use Rattle.answers.specs.Cases.{seen, number_of, values_of}
use Rattle.answers.specs.Observe.{Observed, refused_of, observe_of}
use Rattle.answers.specs.declared.Observation.{Observation}
use Rattle.answers.specs.declared.Verdict.TheVariants.{Broken}
use Rattle.answers.specs.declared.Refusal.{Refusal}

-- an observation that is taken: whole, open or broken; the monitor counts it and has its time, and a break has its number as k
pub record Counted (m : Held) (o : Observation) (r : Observed) : Type 0 where
  pub verdict : (values_of r.answer).answer < 3
  pub holds : (values_of r.answer).answer ≡ r.monitor.verdict
  pub mask : (values_of r.answer).mask ≡ r.monitor.mask
  pub taken : r.monitor.taken ≡ m.taken + 1
  pub latest : r.monitor.latest ≡ time_of (seen o)
  pub place : (values_of r.answer).answer ≡ 2 → (values_of r.answer).place ≡ m.taken + 1

-- an observation that is refused by its number; nothing changes
pub record Refused (m : Held) (n : ℕ) (r : Observed) : Type 0 where
  pub why : Refusal
  pub number : number_of why ≡ n
  pub stays : r ≡ refused_of m why

pub record Every (table : List ℕ) (m : Held) (o : Observation) : Type 0 where
  -- "A stopped book gives that same answer to every later observation, unchecked"
  pub stopped : m.verdict ≡ 2 → observe_of table m o ≡ record { monitor = m; answer = Ok (Broken m.taken m.mask) }
  -- 12, 11 and 13, in this order, by the numbers that the monitor holds; nothing changes
  pub refuses : (m.verdict ≡ 2 → ⊥) → (n : ℕ) → refusal m.latest m.taken (seen o) ≡ some n → Refused m n (observe_of table m o)
  -- nothing else is refused
  pub takes : (m.verdict ≡ 2 → ⊥) → refusal m.latest m.taken (seen o) ≡ none → Counted m o (observe_of table m o)
