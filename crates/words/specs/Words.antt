-- A monitor's memory, and what it holds (document 01, "The recogniser of a range"; document 02, change 1): "The monitor's state holds, for each rule, its fragment number, eight recogniser
-- states, .. and the end time of P", with "eight counts for a fragment where it kept one". It is bytes: 32 for each rule, rule r's from 32 r on, and then the monitor's own 16. Numbers of
-- two and four bytes are little-endian, as in a sheet and in a log (`number`). Every list of bytes holds some monitor.
-- Assumes nothing.
use Rattle.std.specs.Prelude.{◌≡◌, List, [], ◌∷◌, ℕ, zero, suc, ◌+◌, ◌*◌, length, get_or, set, replicate}
use Rattle.layout.specs.Form.{number}
use Rattle.rule_state.specs.declared.RuleState.{RuleState}
use Rattle.words.specs.Upto.{map_n}

-- ---- a rule's 32 bytes

-- n numbers of some bytes each, one after the other from an offset on
abbrev pub numbers_from : List ℕ → (size n at : ℕ) → List ℕ
numbers_from bytes size zero at = []
numbers_from bytes size (suc n) at = number bytes size at ∷ numbers_from bytes size n (at + size)

-- where a rule's bytes begin
abbrev pub rule_offset : ℕ → ℕ
rule_offset r = 32 * r

-- the state of a rule whose bytes begin at k
unfoldable pub state_in : List ℕ → ℕ → RuleState
state_in bytes k = record {
  fragment = get_or bytes k 0;
  current = get_or bytes (k + 1) 0;
  lacking = get_or bytes (k + 2) 0;
  full = get_or bytes (k + 3) 0;
  end = number bytes 4 (k + 4);
  states = numbers_from bytes 1 8 (k + 8);
  counts = numbers_from bytes 2 8 (k + 16);
}

-- a state for numbers past the sixteenth, which are not looked at
abbrev pub no_state : RuleState
no_state = record { fragment = 0; current = 0; states = replicate 8 0; counts = replicate 8 0; lacking = 0; full = 0; end = 0 }

unfoldable pub rules_in : List ℕ → List RuleState
rules_in bytes = map_n (λ r st. state_in bytes (rule_offset r)) 0 16 (replicate 16 no_state)

-- ---- the monitor: what its bytes hold

-- The verdict is 0 whole, 1 open, 2 broken; the mask is of the open rules, or of those that broke; the dues are the rules whose deadline runs.
pub record Held : Type 0 where
  pub rules : List RuleState
  pub taken : ℕ
  pub latest : ℕ
  pub verdict : ℕ
  pub mask : ℕ
  pub dues : ℕ

-- its own 16 bytes: four for the number taken, four for the latest time, one for the verdict, one that holds nothing, two for the mask, two for the dues, two that hold nothing
abbrev pub taken_at : ℕ
taken_at = 512

abbrev pub latest_at : ℕ
latest_at = 516

abbrev pub verdict_at : ℕ
verdict_at = 520

abbrev pub mask_at : ℕ
mask_at = 522

abbrev pub dues_at : ℕ
dues_at = 524

-- the monitor that the bytes hold
abbrev pub held_by : List ℕ → Held
held_by bytes = record {
  rules = rules_in bytes;
  taken = number bytes 4 taken_at;
  latest = number bytes 4 latest_at;
  verdict = get_or bytes verdict_at 0;
  mask = number bytes 2 mask_at;
  dues = number bytes 2 dues_at;
}

-- as many bytes as a monitor has: 32 for each of the sixteen rules, and its own 16
abbrev pub memory_length : ℕ
memory_length = 528

abbrev pub Fits : List ℕ → Type 0
Fits bytes = length bytes ≡ memory_length

-- these bytes are a monitor's memory, and hold m
pub record Holds (bytes : List ℕ) (m : Held) : Type 0 where
  pub fits : Fits bytes
  pub held : held_by bytes ≡ m

-- bytes 521, 526 and 527 are 0: these hold nothing, and every other byte holds something
abbrev pub Blank : List ℕ → Type 0
Blank bytes = (get_or bytes 521 0 ≡ 0) × (number bytes 2 526 ≡ 0)

-- the bytes hold m, and nothing beside it
pub record Clean (bytes : List ℕ) (m : Held) : Type 0 where
  pub holds : Holds bytes m
  pub blank : Blank bytes

-- ---- the changes

-- a monitor with other states of its rules; and one that has taken nothing
abbrev pub with_rules : Held → List RuleState → Held
with_rules m rules = record { rules = rules; taken = m.taken; latest = m.latest; verdict = m.verdict; mask = m.mask; dues = m.dues }

abbrev pub nothing_taken : List RuleState → Held
nothing_taken rules = record { rules = rules; taken = 0; latest = 0; verdict = 0; mask = 0; dues = 0 }

-- rule r gets a state, and nothing else changes
pub record Stores (before : List ℕ) (r : ℕ) (st : RuleState) (after : List ℕ) : Type 0 where
  pub holds : {m : Held} → Holds before m → Holds after (with_rules m (set m.rules r st))
  pub blank : Blank before → Blank after
