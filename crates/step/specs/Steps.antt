-- One rule over a book's table, in numbers: what the code's functions compute, for every table and every state. For the table of a sheet it is the crate `pattern`'s model (`proofs/Links`
-- proves that). No promise of an exported call cites it.
-- Assumes nothing.
use Rattle.std.specs.Prelude.{Bool, cond, not, ◌&&◌, ◌||◌, List, ℕ, ◌+◌, ◌%◌, eqb, get_or, set}
use Rattle.names.specs.Names.{member}
use Rattle.masks.specs.Masks.{mask_n}
use Rattle.recogniser.specs.Numbers.{next_state}
use Rattle.recogniser.specs.Counts.{saturated}
use Rattle.rule_state.specs.declared.RuleState.{RuleState}
use Rattle.tables.specs.Cells.{fragment_in, before_in, last_in, frees_in, index_in, join_of_cell, shuffled_in, least_in, most_in, in_q_in, ends_p_in, cell_at, limit_of}
use Rattle.fragment.specs.Fragments.{zeros, waiting_of, ranges_of}
use Rattle.deadline.specs.Deadlines.{late_of, end_of}
use Rattle.step.specs.declared.Standing.{Standing}
use Rattle.step.specs.declared.Standing.TheVariants.{Whole, Open, Due, Broken}
use Rattle.step.specs.declared.Stepped.{Stepped}
use Rattle.step.specs.declared.Seen.{Seen}
use Rattle.step.specs.declared.Seen.TheVariants.{Error, Releases, Taken}
use Rattle.step.specs.declared.Ready.{Ready}

-- an error: the state is not looked at any more
abbrev pub broken_of : RuleState → Stepped
broken_of st = record { state = st; standing = Broken }

-- a set of eight ranges, with range i in it or not
unfoldable pub put_of : ℕ → ℕ → Bool → ℕ
put_of ranges i on = mask_n (λ k. cond (eqb k i) on (member ranges k)) 8

-- ---- the table of moves, for a cell's range: states 0 idle to 5 error; own 0, sibling 1, next 2

abbrev pub moved_by : ℕ → ℕ → ℕ → ℕ → ℕ
moved_by cell state class count = next_state state class (join_of_cell cell) count (least_in cell) (most_in cell)

-- the move is an error, where the range counts
abbrev pub errs_of : ℕ → ℕ → ℕ → Bool
errs_of cell class count = eqb (moved_by cell 3 class count) 5

-- ---- after an event that is no error, on a name with this cell

-- a P that a deadline follows is complete, and no range can take one more
unfoldable pub spent_of : ℕ → ℕ → ℕ → Bool
spent_of cell lacking full = ends_p_in cell && (eqb lacking 0 && eqb full (ranges_of cell))

-- whole at the end of a round; the deadline runs in Q up to that, and from a P that is spent
unfoldable pub standing_of : ℕ → ℕ → ℕ → Standing
standing_of cell lacking full = cond (last_in cell && eqb lacking 0) Whole (cond (in_q_in cell || spent_of cell lacking full) Due Open)

-- the cell's range counts, one more than before
abbrev pub count_of : ℕ → RuleState → ℕ
count_of cell st = saturated (get_or st.counts (index_in cell) 0 + 1)

abbrev pub taken_state : ℕ → RuleState → ℕ → RuleState
taken_state cell st now = record {
  fragment = fragment_in cell;
  current = index_in cell;
  states = set st.states (index_in cell) (moved_by cell 2 0 (count_of cell st));
  counts = set st.counts (index_in cell) (count_of cell st);
  lacking = put_of st.lacking (index_in cell) (errs_of cell 2 (count_of cell st));
  full = put_of st.full (index_in cell) (errs_of cell 0 (count_of cell st));
  end = end_of cell st.end now;
}

unfoldable pub taken_of : ℕ → RuleState → ℕ → Stepped
taken_of cell st now =
    let o : RuleState = taken_state cell st now in
    record { state = o; standing = standing_of cell o.lacking o.full }

-- ---- an event

-- the cell's fragment before its first event: each of its ranges waits, and counts begin again
unfoldable pub opened_of : ℕ → RuleState → RuleState
opened_of cell st = record {
  fragment = fragment_in cell;
  current = 0;
  states = waiting_of cell;
  counts = zeros;
  lacking = cond (eqb (moved_by cell 2 2 0) 5) (ranges_of cell) 0;
  full = 0;
  end = st.end;
}

-- done (4): what a sibling's event makes of a range that counts and has enough
abbrev pub closed_state : ℕ
closed_state = next_state 3 1 0 1 1 1

unfoldable pub closed_of : RuleState → RuleState
closed_of st = record {
  fragment = st.fragment;
  current = st.current;
  states = set st.states (st.current % 8) closed_state;
  counts = st.counts;
  lacking = st.lacking;
  full = put_of st.full (st.current % 8) (eqb (next_state closed_state 0 0 1 1 1) 5);
  end = st.end;
}

-- the rule stands at the cell's fragment, which has begun
unfoldable pub is_at : ℕ → RuleState → Bool
is_at cell st = not (eqb (get_or st.states 0 0) 1) && eqb (fragment_in cell) st.fragment

abbrev pub ready_as : Seen → RuleState → Ready
ready_as seen st = record { seen = seen; state = st }

-- an event of the fragment at which the rule stands: an error to its own range if that is full, and to the one that counts if that lacks and blocks stand in a row
unfoldable pub inside_of : ℕ → RuleState → Ready
inside_of cell st =
    cond (member st.full (index_in cell)) (ready_as Error st)
    (cond (eqb (index_in cell) st.current || shuffled_in cell) (ready_as Taken st)
    (cond (member st.lacking (st.current % 8)) (ready_as Error st) (ready_as Taken (closed_of st))))

-- an event that is not of it may only be the first of the fragment that follows; where nothing has come, of the first
unfoldable pub follows_of : ℕ → RuleState → Bool
follows_of cell st = cond (eqb (get_or st.states 0 0) 1) (eqb (fragment_in cell) 0) (eqb (before_in cell) st.fragment && eqb st.lacking 0)

unfoldable pub outside_of : ℕ → RuleState → Ready
outside_of cell st = cond (follows_of cell st) (cond (frees_in cell) (ready_as Releases st) (ready_as Taken (opened_of cell st))) (ready_as Error st)

unfoldable pub seen_of : ℕ → ℕ → RuleState → ℕ → Ready
seen_of cell limit st now = cond (late_of cell limit st.end now) (ready_as Error st) (cond (is_at cell st) (inside_of cell st) (outside_of cell st))

-- the trigger of kind 0 has come: the rule is released
unfoldable pub freed_of : ℕ → RuleState → Stepped
freed_of cell st = record { state = record { fragment = fragment_in cell; current = 0; states = zeros; counts = zeros; lacking = 0; full = 0; end = st.end }; standing = Whole }

-- the rule after an event that is seen so
abbrev pub step_by : ℕ → RuleState → ℕ → RuleState → Seen → Stepped
step_by cell st now before Error = broken_of st
step_by cell st now before Releases = freed_of cell st
step_by cell st now before Taken = taken_of cell before now

abbrev pub step_of : ℕ → RuleState → ℕ → Ready → Stepped
step_of cell st now x = step_by cell st now x.state x.seen

abbrev pub cell_in : List ℕ → ℕ → ℕ → ℕ
cell_in table r name = get_or table (cell_at r (name % 64)) 0

-- an event on one of the rule's names; the first state is 1 where nothing has come, and 0 where the rule is released
unfoldable pub act_of : List ℕ → ℕ → RuleState → ℕ → ℕ → Stepped
act_of table r st name now =
    let cell : ℕ = cell_in table r name in
    cond (eqb (get_or st.states 0 0) 0) (record { state = st; standing = Whole }) (step_of cell st now (seen_of cell (limit_of table r) st now))
