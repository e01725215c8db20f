-- A pass over the round that a table says: it counts the records, and writes them or does not.
-- Assumes nothing.
use Rattle.std.specs.Prelude.{◌≡◌, Bool, true, false, Option, Some, None, List, ℕ, ◌*◌, ◌≤◌, ◌<◌, length, get_or}
use Rattle.std.proofs.lemmas.List.Edits.{sets}
use Rattle.rule_player.specs.Choice.{chosen_in}
use Rattle.rule_player.specs.Said.{round_said}
use Rattle.rule_player.specs.Playing.{records_of}

-- "missing choice bytes counting as 0"
abbrev pub byte_at : List ℕ → ℕ → ℕ
byte_at choice at = get_or choice at 0

-- bytes put from an offset on, or not; and what a pass leaves in the output
abbrev pub put_if : Bool → List ℕ → ℕ → List ℕ → List ℕ
put_if true out at bytes = sets out at bytes
put_if false out at bytes = out

abbrev pub leaves : Bool → ℕ → List ℕ → List ℕ → List ℕ
leaves writes time names out = put_if writes out 0 (records_of time names)

-- these names fit, and are written or not; or they do not, and a pass that writes nothing leaves the output as it was
abbrev pub PassesBy : List ℕ → ℕ → Bool → List ℕ → Option ℕ → List ℕ → Type 0
PassesBy names time writes before (Some n) after = (5 * length names ≤ length before) × (n ≡ length names) × (after ≡ leaves writes time names before)
PassesBy names time writes before None after = (length before < 5 * length names) × (writes ≡ false → after ≡ before)

abbrev pub Passes : List ℕ → ℕ → ℕ → List ℕ → Bool → List ℕ → Option ℕ → List ℕ → Type 0
Passes table r time choice writes before l after = PassesBy (chosen_in (round_said table r) choice) time writes before l after
