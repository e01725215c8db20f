-- What a rule's numbers stand for, in the words of the crate `pattern`: which state of the model a state of the code shows. It is the invariant of the step.
-- Assumes nothing.
use Rattle.std.specs.Prelude.{◌≡◌, Bool, true, false, not, ◌&&◌, List, map, ℕ, ◌≤◌, ◌<◌, ltb, length, get_or}
use Rattle.masks.specs.Masks.{mask_n}
use Rattle.pattern.specs.Meaning.{Range, Join, shuffled, AtMost, Rule}
use Rattle.pattern.specs.Recogniser.{Class, own, next, move, is_error, erred}
use Rattle.pattern.specs.Model.{round_of, fragment_at, slots_of, released, fresh, at_rest, pressed}
use Rattle.pattern.specs.Model as M
use Rattle.recogniser.specs.Numbers.{state_of}
use Rattle.recogniser.specs.Counts.{saturated}
use Rattle.layout.specs.Pages.{range_at}
use Rattle.rule_state.specs.declared.RuleState.{RuleState}
use Rattle.tables.specs.Cells.{is_timed}

-- ---- the ranges of a fragment that has begun

-- a range waits, and none of its events has come; or it counts; or it is done, which it is only where blocks stand in a row
pub data InPlay (j : Join) (r : Range) (state count : ℕ) : Type 0 where
  waits : state ≡ 2 → count ≡ 0 → InPlay j r state count
  counts : state ≡ 3 → AtMost r count → InPlay j r state count
  closed : state ≡ 4 → shuffled j ≡ false → InPlay j r state count

module _ (rule : Rule) (n : ℕ) (cs : List ℕ) (st : RuleState) where
  -- an event of this class would be an error to range k of fragment n, by its state and by how many of its events have come; and there is such a range
  abbrev pub errs_to : Class → ℕ → Bool
  errs_to class k = is_error (move (fragment_at rule n).join (range_at rule n k) (get_or cs k 0) (state_of (get_or st.states k 0)) class)

  abbrev pub would_err : Class → ℕ → Bool
  would_err class k = ltb k (length (fragment_at rule n).ranges) && errs_to class k

  -- of range k of fragment n so many events have come as `cs` says
  pub record Ranges : Type 0 where
    pub eight_states : length st.states ≡ 8
    pub eight_counts : length cs ≡ 8
    -- a count stops at 65,535
    pub stored : st.counts ≡ map saturated cs
    pub each : (k : ℕ) → k < length (fragment_at rule n).ranges → InPlay (fragment_at rule n).join (range_at rule n k) (get_or st.states k 0) (get_or cs k 0)
    -- past the last range
    pub idle : (k : ℕ) → length (fragment_at rule n).ranges ≤ k → k < 8 → get_or st.states k 0 ≡ 0
    -- the sets of the ranges to which *next*, and to which *own*, would be an error: two columns of the table of moves
    pub lacking : st.lacking ≡ mask_n (would_err next) 8
    pub full : st.full ≡ mask_n (would_err own) 8

module _ (rule : Rule) (n : ℕ) (st : RuleState) where
  -- no range but range j counts
  abbrev pub AloneBut : ℕ → Type 0
  AloneBut j = (k : ℕ) → k < length (fragment_at rule n).ranges → (k ≡ j → ⊥) → get_or st.states k 0 ≡ 3 → ⊥

  -- the current range counts, and no other
  pub record Lone : Type 0 where
    pub held : st.current < length (fragment_at rule n).ranges
    pub counts : get_or st.states st.current 0 ≡ 3
    pub alone : AloneBut st.current

-- ---- a state

-- a fragment has begun
pub record Counting (rule : Rule) (st : RuleState) (S : M.RuleState) : Type 0 where
  pub inside : S.fragment < length (round_of rule)
  pub unfree : released rule S ≡ false
  pub fragment : st.fragment ≡ S.fragment
  pub states : map state_of st.states ≡ S.states
  pub end : st.end ≡ S.end
  pub ranges : Ranges rule S.fragment S.counts st
  -- in a row
  pub lone : shuffled (fragment_at rule S.fragment).join ≡ false → Lone rule S.fragment st

pub data Shows (rule : Rule) (st : RuleState) (S : M.RuleState) : Type 0 where
  -- nothing has come
  untouched : get_or st.states 0 0 ≡ 1 → S ≡ fresh rule → Shows rule st S
  -- the trigger of kind 0 has come
  freed : get_or st.states 0 0 ≡ 0 → released rule S ≡ true → Shows rule st S
  begun : Counting rule st S → Shows rule st S

-- ---- the deadline

-- the rule's deadline runs: the clock alone can break it
abbrev pub running : Rule → M.RuleState → Bool
running rule S = is_timed rule.kind && (not (at_rest rule S) && (not (erred (slots_of rule S)) && pressed rule S))
