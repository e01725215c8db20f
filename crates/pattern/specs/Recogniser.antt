-- The recogniser of a range (document 01, "The recogniser of a range"), and the recognisers of a fragment's ranges side by side: eight states and eight counts.
-- Assumes nothing.
use Rattle.std.specs.Prelude.{Bool, true, false, cond, ◌||◌, List, [], ◌∷◌, ℕ, zero, suc, leb, ltb, eqb}
use Rattle.pattern.specs.Lists.{all_of, any_of}
use Rattle.pattern.specs.Meaning.{Range, Join, may_be_left_out, shuffled}

-- ---- one range

-- "0 idle, 1 fragment not begun, 2 waiting while a sibling has begun, 3 counting, 4 done, 5 error"
pub data State : Type 0 where
  idle unbegun waiting counting done error : State

-- its number
abbrev pub state_number : State → ℕ
state_number idle = 0
state_number unbegun = 1
state_number waiting = 2
state_number counting = 3
state_number done = 4
state_number error = 5

-- "own, sibling (same fragment), next (a name of the following fragment) or other"
pub data Class : Type 0 where
  own sibling next other : Class

-- count ≥ u; count < v, and where v is 0 always: "can this range take one more"
abbrev pub has_enough : Range → ℕ → Bool
has_enough r count = leb r.u count

abbrev pub has_room : Range → ℕ → Bool
has_room r count = eqb r.v 0 || ltb count r.v

-- the table of moves
abbrev pub move : Join → Range → ℕ → State → Class → State
move j r count idle c = idle
move j r count unbegun own = counting
move j r count unbegun sibling = waiting
move j r count unbegun next = error
move j r count unbegun other = error
move j r count waiting own = counting
move j r count waiting sibling = waiting
move j r count waiting next = cond (may_be_left_out j) idle error
move j r count waiting other = error
move j r count counting own = cond (has_room r count) counting error
move j r count counting sibling = cond (shuffled j) counting (cond (has_enough r count) done error)
move j r count counting next = cond (has_enough r count) idle error
move j r count counting other = error
move j r count done own = error
move j r count done sibling = done
move j r count done next = idle
move j r count done other = error
move j r count error c = error

abbrev pub is_idle : State → Bool
is_idle idle = true
is_idle unbegun = false
is_idle waiting = false
is_idle counting = false
is_idle done = false
is_idle error = false

abbrev pub is_unbegun : State → Bool
is_unbegun idle = false
is_unbegun unbegun = true
is_unbegun waiting = false
is_unbegun counting = false
is_unbegun done = false
is_unbegun error = false

abbrev pub is_counting : State → Bool
is_counting idle = false
is_counting unbegun = false
is_counting waiting = false
is_counting counting = true
is_counting done = false
is_counting error = false

abbrev pub is_error : State → Bool
is_error idle = false
is_error unbegun = false
is_error waiting = false
is_error counting = false
is_error done = false
is_error error = true

-- the count after an event of the range's own: one more while its block goes on, 1 where a block begins. A count that has no room stays
abbrev pub next_count : Range → ℕ → State → ℕ
next_count r count idle = 1
next_count r count unbegun = 1
next_count r count waiting = 1
next_count r count counting = cond (has_room r count) (suc count) count
next_count r count done = 1
next_count r count error = 1

-- ---- the ranges of a fragment

-- a range beside its state and its count
pub record Slot : Type 0 where
  pub range : Range
  pub state : State
  pub count : ℕ

-- states and counts past the last range's are not looked at
abbrev pub slots : List Range → List State → List ℕ → List Slot
slots [] ss cs = []
slots (r ∷ rs) [] cs = []
slots (r ∷ rs) (s ∷ ss) [] = []
slots (r ∷ rs) (s ∷ ss) (c ∷ cs) = record { range = r; state = s; count = c } ∷ slots rs ss cs

-- the states after an event, of which each range says how it sees it
abbrev pub moves : Join → (Range → Class) → List Range → List State → List ℕ → List State
moves j class [] ss cs = ss
moves j class (r ∷ rs) [] cs = []
moves j class (r ∷ rs) (s ∷ ss) [] = s ∷ ss
moves j class (r ∷ rs) (s ∷ ss) (c ∷ cs) = move j r c s (class r) ∷ moves j class rs ss cs

-- the count of a range after an event of a class: only its own counts
abbrev pub tally : Class → Range → ℕ → State → ℕ
tally own r count s = next_count r count s
tally sibling r count s = count
tally next r count s = count
tally other r count s = count

-- the counts after an event
abbrev pub tallies : (Range → Class) → List Range → List State → List ℕ → List ℕ
tallies class [] ss cs = cs
tallies class (r ∷ rs) [] cs = cs
tallies class (r ∷ rs) (s ∷ ss) [] = []
tallies class (r ∷ rs) (s ∷ ss) (c ∷ cs) = tally (class r) r c s ∷ tallies class rs ss cs

-- n states, where no event of the fragment has come
abbrev pub not_begun : List Range → ℕ → List State
not_begun rs zero = []
not_begun [] (suc n) = idle ∷ not_begun [] n
not_begun (r ∷ rs) (suc n) = unbegun ∷ not_begun rs n

-- how a range sees an event of its own fragment
abbrev pub within : ℕ → Range → Class
within m r = cond (eqb m r.name) own sibling

-- ---- what the states of a fragment's ranges say

-- some range has an error
abbrev pub erred : List Slot → Bool
erred = any_of (λ (x : Slot). is_error x.state)

-- the fragment may be followed: *next* is an error to no range
abbrev pub complete : Join → List Slot → Bool
complete j = all_of (λ (x : Slot). is_idle (move j x.range x.count x.state next))

-- the fragment can take one more event: one of its ranges can
abbrev pub can_grow : Join → List Slot → Bool
can_grow j = any_of (λ (x : Slot). is_counting (move j x.range x.count x.state own))
