-- Document 02, change 2, of a range without an upper end (v = 0): "Deadlines aside, and while the rule isn't broken, 'can this range take one more' is now yes for such a range from its first event
-- until the next fragment begins or, in a fragment that isn't shuffled, a sibling closes its block, and until Q or the trigger comes, a finished P whose last event is on such a range can grow."
-- Here is what its parts mean; that it holds is `endless-takes-one-more` (`proofs/Endless`) and `endless-p-grows` (`proofs/Growing`), and that such a P waits, `endless-p-waits` (`proofs/Waiting`).
-- Assumes nothing.
use Rattle.std.specs.Prelude.{◌≡◌, false, List, [], ◌∷◌, ◌++◌, ℕ}
use Rattle.pattern.specs.Lists.{In, Each}
use Rattle.pattern.specs.Meaning.{Event, names, Range, shuffled, fragment_names, Rule}
use Rattle.pattern.specs.Model.{fragment_at}

-- "Deadlines aside": the same events, all at one time. Every deadline is then kept, whatever t is
abbrev pub all_at : ℕ → List Event → List Event
all_at now [] = []
all_at now (e ∷ es) = record { name = e.name; time = now } ∷ all_at now es

abbrev pub at_once : List Event → List Event
at_once = all_at 0

-- the last event is on the name n
abbrev pub EndsOn : ℕ → List Event → Type 0
EndsOn n w = (a : List Event) × (e : Event) × (w ≡ a ++ (e ∷ [])) × (e.name ≡ n)

-- the range x of the rule's fragment n is under way
pub record UnderWay (r : Rule) (n : ℕ) (x : Range) (trace : List Event) : Type 0 where
  pub before : List Event
  pub part : List Event
  pub parts : trace ≡ before ++ part
  -- "until the next fragment begins": the trace ends in events of the fragment
  pub inside : Each (λ (e : Event). In e.name (fragment_names (fragment_at r n))) part
  -- "from its first event"
  pub begun : In x.name (names part)
  -- "or, in a fragment that isn't shuffled, a sibling closes its block"
  pub unclosed : shuffled (fragment_at r n).join ≡ false → EndsOn x.name part
