-- The round that a table says, whatever the table: each fragment by the cells of the names at its places. For the table of a sheet's book it is the rule's own (`names-own`).
-- Assumes nothing.
use Rattle.std.specs.Prelude.{Bool, cond, not, ◌&&◌, List, [], ◌∷◌, ℕ, zero, suc, ltb, eqb, get_or}
use Rattle.std.proofs.Math.Option.{Option, none, some}
use Rattle.pattern.specs.Meaning.{Range, Fragment}
use Rattle.recogniser.specs.Numbers.{join_of}
use Rattle.tables.specs.Words.{round_in}
use Rattle.tables.specs.Cells.{less_in, join_of_cell, least_in, most_in, head_at, name_at}
use Rattle.places.specs.Places.{cell_of}
use Rattle.rule_player.specs.declared.Ranges.{Ranges}
use Rattle.rule_player.specs.Choice.{chosen_in}

-- g of n numbers, from k on
abbrev pub listed : {A : Type 0} → (ℕ → A) → ℕ → ℕ → List A
listed g k zero = []
listed g k (suc n) = g k ∷ listed g (suc k) n

-- ---- a fragment by the names and the cells of its ranges; the first cell has its join and its count

abbrev pub range_by : Ranges → ℕ → Range
range_by x i = record { name = get_or x.names i 0; u = least_in (get_or x.cells i 0); v = most_in (get_or x.cells i 0) }

abbrev pub size_by : Ranges → ℕ
size_by x = suc (less_in (get_or x.cells 0 0))

abbrev pub fragment_by : Ranges → Fragment
fragment_by x = record { join = join_of (join_of_cell (get_or x.cells 0 0)); ranges = listed (range_by x) 0 (size_by x) }

-- ---- in a table

-- the eight places of fragment f of rule r
abbrev pub ranges_at : List ℕ → ℕ → ℕ → Ranges
ranges_at table r f = record { names = listed (name_at table r f) 0 8; cells = listed (cell_of table r f) 0 8 }

unfoldable pub fragment_said : List ℕ → ℕ → ℕ → Fragment
fragment_said table r f = fragment_by (ranges_at table r f)

unfoldable pub round_said : List ℕ → ℕ → List Fragment
round_said table r = listed (fragment_said table r) 0 (round_in (get_or table (head_at r) 0))

-- the table has a rule of this number: no rule has the head 0
abbrev pub has_rule : List ℕ → ℕ → Bool
has_rule table r = ltb r 16 && not (eqb (get_or table (head_at r) 0) 0)

-- the names of the round that is picked, if there is such a rule
abbrev pub chosen_said : List ℕ → ℕ → List ℕ → Option (List ℕ)
chosen_said table r choice = cond (has_rule table r) (some (chosen_in (round_said table r) choice)) none
