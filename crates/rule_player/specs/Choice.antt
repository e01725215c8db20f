-- Which round some choice bytes pick (document 02, change 5): "Every choice gives a round that matches, missing choice bytes counting as 0; which bytes pick which round is the builder's, written in
-- docs/". docs/PLAYING.md says it in words. It is a function of the round's fragments and of the bytes alone: one byte a step, and a step is a name that comes, or the end of a fragment.
-- Assumes nothing.
use Rattle.std.specs.Prelude.{Bool, true, false, cond, not, ◌&&◌, ◌||◌, Option, Some, None, is_some, is_none, List, [], ◌∷◌, ◌++◌, ℕ, zero, suc, ◌+◌, ◌-◌, ◌%◌, ltb, eqb, length, get_or, set, replicate}
use Rattle.std.specs.Option.{option_eq}
use Rattle.pattern.specs.Meaning.{Range, may_be_left_out, shuffled, Fragment, Rule}
use Rattle.pattern.specs.Recogniser.{has_enough, has_room}
use Rattle.pattern.specs.Model.{round_of}
use Rattle.layout.specs.Pages.{no_range}
use Rattle.tables.specs.Cells.{first_from}
use Rattle.rule_player.specs.declared.Filling.{Filling}
use Rattle.rule_player.specs.declared.Step.{Step}
use Rattle.rule_player.specs.declared.Step.TheVariants.{Name, Leave}

-- ---- filling a fragment: how often each of its names has come, and which range's came last, if any has

abbrev pub empty : Filling
empty = record { counts = replicate 8 0; last = None }

abbrev pub count_of : Filling → ℕ → ℕ
count_of s i = get_or s.counts i 0

-- the name of range i comes
abbrev pub comes : Filling → ℕ → Filling
comes s i = record { counts = set s.counts i (suc (count_of s i)); last = Some i }

-- it has not come in this fragment
abbrev pub is_new : Filling → ℕ → Bool
is_new s i = eqb (count_of s i) 0

-- a range, of which so many have come: one more may; these are enough. The recogniser's two tests
abbrev pub room_for : Range → ℕ → Bool
room_for r count = has_room r count

abbrev pub enough_for : Range → ℕ → Bool
enough_for r count = has_enough r count

module _ (f : Fragment) where
  abbrev pub range_of : ℕ → Range
  range_of i = get_or f.ranges i no_range

  abbrev pub enough_of : Filling → ℕ → Bool
  enough_of s i = enough_for (range_of i) (count_of s i)

  -- range i's block goes on: blocks are shuffled, or it came last. Or it begins: it is new, and nothing has come, or the last block has enough
  abbrev pub goes_on : Filling → ℕ → Bool
  goes_on s i = shuffled f.join || option_eq eqb s.last (Some i)

  abbrev pub may_follow : Filling → Option ℕ → Bool
  may_follow s None = true
  may_follow s (Some l) = enough_of s l

  abbrev pub may_change : Filling → Bool
  may_change s = may_follow s s.last

  -- range i's name may come now: it goes on and has room, or it may begin
  abbrev pub may_come : Filling → ℕ → Bool
  may_come s i = cond (goes_on s i) (room_for (range_of i) (count_of s i)) (is_new s i && may_change s)

  -- the first range that has not enough: of all ranges, or of those that have come; past the last if there is none
  abbrev pub is_short : Filling → Bool → ℕ → Bool
  is_short s every i = not (enough_of s i) && (every || ltb 0 (count_of s i))

  abbrev pub first_short : Filling → Bool → ℕ
  first_short s every = first_from (is_short s every) 0 (length f.ranges)

  -- every range has to come
  abbrev pub needs_every : Bool
  needs_every = not (may_be_left_out f.join)

  -- the fragment may be left: something has come, and each range has enough, or has not come and may be left out
  abbrev pub may_end : Filling → Bool
  may_end s = is_some s.last && eqb (first_short s needs_every) (length f.ranges)

  -- i if it is a range's number, else the other
  abbrev pub within : ℕ → ℕ → ℕ
  within i other = cond (ltb i (length f.ranges)) i other

  -- what must come next, where it may not be left: a block that has begun goes on, since in a row no other could come; else the first range that has not enough. Where none lacks and nothing
  -- has come, as under no sheet, range 0
  abbrev pub needed : Filling → ℕ
  needed s = within (first_short s false) (within (first_short s true) 0)

  -- ---- one byte, one step

  -- 0: "towards the end". k: range k - 1, if it may come now, else as 0
  abbrev pub towards_the_end : Filling → Step
  towards_the_end s = cond (may_end s) Leave (Name (needed s))

  abbrev pub picked : Filling → ℕ → Step
  picked s zero = towards_the_end s
  picked s (suc i) = cond (may_come s i) (Name i) (towards_the_end s)

  abbrev pub step_by : Filling → ℕ → Step
  step_by s byte = picked s (byte % suc (length f.ranges))

-- ---- the round: step after step, until no fragment is left

-- "missing choice bytes counting as 0"
abbrev pub first_byte : List ℕ → ℕ
first_byte [] = 0
first_byte (b ∷ bs) = b

abbrev pub other_bytes : List ℕ → List ℕ
other_bytes [] = []
other_bytes (b ∷ bs) = bs

-- where the playing of a round stands: the fragments left, the filling of the first of them, and the bytes left
pub record Stand : Type 0 where
  pub fragments : List Fragment
  pub filling : Filling
  pub bytes : List ℕ

abbrev pub start : List Fragment → List ℕ → Stand
start fs bytes = record { fragments = fs; filling = empty; bytes = bytes }

-- the names that a step writes, and where it leads
abbrev pub said_by : Fragment → Step → List ℕ
said_by f (Name i) = (range_of f i).name ∷ []
said_by f Leave = []

abbrev pub leads_to : Fragment → List Fragment → Filling → List ℕ → Step → Stand
leads_to f fs s bytes (Name i) = record { fragments = f ∷ fs; filling = comes s i; bytes = bytes }
leads_to f fs s bytes Leave = start fs bytes

abbrev pub said_at : List Fragment → Filling → List ℕ → List ℕ
said_at [] s bytes = []
said_at (f ∷ fs) s bytes = said_by f (step_by f s (first_byte bytes))

abbrev pub next_at : List Fragment → Filling → List ℕ → Stand
next_at [] s bytes = record { fragments = []; filling = s; bytes = bytes }
next_at (f ∷ fs) s bytes = leads_to f fs s (other_bytes bytes) (step_by f s (first_byte bytes))

abbrev pub said : Stand → List ℕ
said p = said_at p.fragments p.filling p.bytes

abbrev pub next : Stand → Stand
next p = next_at p.fragments p.filling p.bytes

-- so many steps
unfoldable pub walk : ℕ → Stand → List ℕ
walk zero p = []
walk (suc n) p = said p ++ walk n (next p)

-- steps enough for every choice: each takes a byte, or is the first of its fragment, or fills a range below its u, or leaves the fragment
abbrev pub sum_to : (ℕ → ℕ) → ℕ → ℕ
sum_to g zero = 0
sum_to g (suc n) = sum_to g n + g n

abbrev pub lack_in : Fragment → Filling → ℕ
lack_in f s = cond (is_none s.last) 1 0 + sum_to (λ (i : ℕ). (range_of f i).u - count_of s i) (length f.ranges)

abbrev pub lack_at : List Fragment → Filling → ℕ
lack_at [] s = 0
lack_at (f ∷ fs) s = suc (lack_in f s) + lack_at fs empty

abbrev pub steps : Stand → ℕ
steps p = length p.bytes + lack_at p.fragments p.filling

unfoldable pub chosen_from : Stand → List ℕ
chosen_from p = walk (steps p) p

-- the names of the round of these fragments that these bytes pick; and of a rule's
abbrev pub chosen_in : List Fragment → List ℕ → List ℕ
chosen_in fs bytes = chosen_from (start fs bytes)

abbrev pub chosen : Rule → List ℕ → List ℕ
chosen r bytes = chosen_in (round_of r) bytes
