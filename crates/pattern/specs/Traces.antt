-- Document 01's "Traces to settle arguments" as one table, the misreadings at its end turned into traces among them, and the traces that settle document 02's changes. That the judge gives each row's
-- verdict is proved in `proofs/Marked`.
-- Assumes nothing.
use Rattle.std.specs.Prelude.{List, [], ◌∷◌, ℕ}
use Rattle.pattern.specs.Meaning.{Range, Join, all, any, all_shuffled, any_shuffled, Fragment, Rule, once, repeated, timed}
use Rattle.pattern.specs.Judge.{Observation, event, clock, Verdict, all_whole, some_open, broken_at, Answer, verdict, refused}

-- "n[u,v]"
abbrev pub range : ℕ → ℕ → ℕ → Range
range n u v = record { name = n; u = u; v = v }

abbrev pub fragment : Join → List Range → Fragment
fragment j rs = record { join = j; ranges = rs }

-- "Rule T: kind 2, P = 0[2,3], Q = 1[1,2], t = 10"
abbrev pub T : Rule
T = record { kind = timed (fragment all (range 1 1 2 ∷ []) ∷ []) 10; p = fragment all (range 0 2 3 ∷ []) ∷ [] }

-- "Rule R: kind 1, {0, 1} all before 2, bounds [1,1]"
abbrev pub R : Rule
R = record { kind = repeated 2; p = fragment all (range 0 1 1 ∷ range 1 1 1 ∷ []) ∷ [] }

-- "Rule N: R as kind 0 with any"
abbrev pub N : Rule
N = record { kind = once 2; p = fragment any (range 0 1 1 ∷ range 1 1 1 ∷ []) ∷ [] }

abbrev pub only_t : List Rule
only_t = T ∷ []

abbrev pub only_r : List Rule
only_r = R ∷ []

abbrev pub only_n : List Rule
only_n = N ∷ []

-- the rules of a sheet, what is observed, and what is due: the last answer, the number taken and the verdict
pub record Row : Type 0 where
  pub rules : List Rule
  pub seen : List Observation
  pub answer : Answer
  pub taken : ℕ
  pub verdict : Verdict

abbrev pub row : List Rule → List Observation → ℕ → Verdict → Row
row rs os n v = record { rules = rs; seen = os; answer = verdict v; taken = n; verdict = v }

abbrev pub refused_row : List Rule → List Observation → ℕ → ℕ → Verdict → Row
refused_row rs os number n v = record { rules = rs; seen = os; answer = refused number; taken = n; verdict = v }

-- the verdicts on a sheet of one rule, whose bit is 1
abbrev pub is_open : Verdict
is_open = some_open 1

abbrev pub broken_now : ℕ → Verdict
broken_now k = broken_at k 1

-- the traces marked ★
abbrev pub marked : List Row
marked =
    row only_t [] 0 all_whole
    ∷ row only_t (event 0 0 ∷ event 0 5 ∷ event 1 15 ∷ []) 3 all_whole
    ∷ row only_t (event 0 0 ∷ event 0 5 ∷ event 1 16 ∷ []) 3 (broken_now 3)
    ∷ row only_t (event 0 0 ∷ event 0 5 ∷ clock 100 ∷ []) 3 is_open
    ∷ row only_t (event 0 0 ∷ event 0 1 ∷ event 0 2 ∷ clock 12 ∷ []) 4 is_open
    ∷ row only_t (event 0 0 ∷ event 0 1 ∷ event 0 2 ∷ clock 13 ∷ []) 4 (broken_now 4)
    ∷ row only_t (event 0 0 ∷ event 0 5 ∷ event 1 15 ∷ clock 99 ∷ []) 4 all_whole
    ∷ row only_t (event 0 0 ∷ event 0 5 ∷ event 1 15 ∷ clock 99 ∷ event 1 99 ∷ []) 5 (broken_now 5)
    ∷ row only_t (event 0 0 ∷ event 0 0 ∷ event 0 0 ∷ event 0 0 ∷ []) 4 (broken_now 4)
    ∷ row only_r (event 1 0 ∷ event 0 0 ∷ event 2 0 ∷ []) 3 all_whole
    ∷ row only_r (event 0 0 ∷ event 1 0 ∷ event 0 0 ∷ []) 3 (broken_now 3)
    ∷ row only_n (event 0 0 ∷ event 2 0 ∷ event 2 0 ∷ event 1 0 ∷ []) 4 all_whole
    ∷ []

-- the others, and the printed case
abbrev pub unmarked : List Row
unmarked =
    row only_t (event 0 0 ∷ event 1 0 ∷ []) 2 (broken_now 2)
    ∷ refused_row only_t (event 0 7 ∷ event 1 6 ∷ []) 11 1 is_open
    ∷ row only_n (event 2 0 ∷ []) 1 (broken_now 1)
    ∷ row only_r (event 1 5 ∷ event 0 5 ∷ event 2 9 ∷ event 2 10 ∷ []) 4 (broken_now 4)
    ∷ []

-- "Misreadings to shut out", each by a trace at which it would answer otherwise
abbrev pub misreadings : List Row
misreadings =
    -- P's end taken when u is reached: then 1@15 would be late
    row only_t (event 0 0 ∷ event 0 1 ∷ event 0 5 ∷ event 1 15 ∷ []) 4 all_whole
    -- a block reopened after a sibling, in a second round
    ∷ row only_r (event 1 0 ∷ event 0 0 ∷ event 2 0 ∷ event 0 0 ∷ event 1 0 ∷ event 0 0 ∷ []) 6 (broken_now 6)
    -- a deadline that fires only on the rule's own events: an event on another name is past it
    ∷ row only_t (event 0 0 ∷ event 0 1 ∷ event 0 2 ∷ event 7 13 ∷ []) 4 (broken_now 4)
    -- t itself counted as late, by the clock
    ∷ row only_t (event 0 0 ∷ event 0 1 ∷ event 0 2 ∷ clock 12 ∷ event 1 12 ∷ []) 5 all_whole
    -- a finished Q called late by the clock alone: the next P may start at any time
    ∷ row only_t (event 0 0 ∷ event 0 5 ∷ event 1 15 ∷ clock 99 ∷ event 0 200 ∷ []) 5 is_open
    ∷ []

-- refusals, and observations after a break: "A stopped book gives that same answer to every later observation, unchecked"
abbrev pub refusals : List Row
refusals =
    refused_row only_t (event 0 7 ∷ event 64 6 ∷ []) 12 1 is_open
    ∷ row only_t (event 0 7 ∷ event 64 9 ∷ clock 3 ∷ event 0 7 ∷ []) 2 is_open
    ∷ row only_t (event 0 7 ∷ event 1 8 ∷ event 64 0 ∷ clock 0 ∷ []) 2 (broken_now 2)
    ∷ []

-- two rules on the same names, R being rule 0 and T rule 1: which bits are set, and that a broken mask has the rules broken at k only
abbrev pub masks : List Row
masks =
    row (R ∷ T ∷ []) (event 0 0 ∷ []) 1 (some_open 3)
    ∷ row (R ∷ T ∷ []) (event 0 0 ∷ event 1 0 ∷ []) 2 (broken_at 2 2)
    ∷ row (R ∷ T ∷ []) (event 0 0 ∷ event 0 0 ∷ []) 2 (broken_at 2 1)
    ∷ row (R ∷ T ∷ []) (event 1 0 ∷ []) 1 (broken_at 1 2)
    ∷ row (T ∷ R ∷ N ∷ []) (event 2 0 ∷ []) 1 (broken_at 1 6)
    ∷ row (N ∷ R ∷ []) (event 1 0 ∷ event 0 0 ∷ event 2 0 ∷ event 2 0 ∷ []) 4 (broken_at 4 2)
    ∷ row (T ∷ N ∷ []) (event 0 0 ∷ event 2 1 ∷ []) 2 (some_open 1)
    ∷ []

-- ---- document 02, change 1: shuffled fragments

-- S: kind 2, P = {0[1,2], 1[1,1]} all, shuffled, Q = 9[1,2], t = 10
abbrev pub S : Rule
S = record { kind = timed (fragment all (range 9 1 2 ∷ []) ∷ []) 10; p = fragment all_shuffled (range 0 1 2 ∷ range 1 1 1 ∷ []) ∷ [] }

-- O: kind 1, {0[2,3], 1[1,2]} any, shuffled, before 2
abbrev pub O : Rule
O = record { kind = repeated 2; p = fragment any_shuffled (range 0 2 3 ∷ range 1 1 2 ∷ []) ∷ [] }

-- W: kind 1, {0[1,2], 1[2,2]} all, shuffled, then {3[1,1], 4[2,2]} any, shuffled, before 2
abbrev pub W : Rule
W = record { kind = repeated 2; p = fragment all_shuffled (range 0 1 2 ∷ range 1 2 2 ∷ []) ∷ fragment any_shuffled (range 3 1 1 ∷ range 4 2 2 ∷ []) ∷ [] }

abbrev pub only_s : List Rule
only_s = S ∷ []

abbrev pub only_o : List Rule
only_o = O ∷ []

abbrev pub only_w : List Rule
only_w = W ∷ []

abbrev pub shuffled_rows : List Row
shuffled_rows =
    -- "Blocks need not be in a row"; "what lies between u and v": one more than v breaks at once
    row only_s (event 0 0 ∷ event 1 0 ∷ event 0 0 ∷ event 9 10 ∷ []) 4 all_whole
    ∷ row only_s (event 0 0 ∷ event 1 0 ∷ event 1 0 ∷ []) 3 (broken_now 3)
    -- "Join 2 needs every name"
    ∷ row only_s (event 0 0 ∷ event 0 0 ∷ event 9 0 ∷ []) 3 (broken_now 3)
    -- P can grow while any range is below v, whichever came last; else the deadline runs
    ∷ row only_s (event 0 0 ∷ event 1 0 ∷ clock 99 ∷ []) 3 is_open
    ∷ row only_s (event 0 0 ∷ event 1 0 ∷ event 0 0 ∷ clock 99 ∷ []) 4 (broken_now 4)
    -- "each name used must reach u": asked when the fragment is left, and not before
    ∷ row only_o (event 0 0 ∷ event 1 0 ∷ event 1 0 ∷ []) 3 is_open
    ∷ row only_o (event 0 0 ∷ event 1 0 ∷ event 2 0 ∷ []) 3 (broken_now 3)
    ∷ row only_o (event 0 0 ∷ event 1 0 ∷ event 0 0 ∷ event 2 0 ∷ []) 4 all_whole
    -- "join 3 needs at least one"
    ∷ row only_o (event 1 0 ∷ event 2 0 ∷ []) 2 all_whole
    ∷ row only_o (event 2 0 ∷ []) 1 (broken_now 1)
    ∷ row only_o (event 1 0 ∷ event 0 0 ∷ event 1 0 ∷ event 1 0 ∷ []) 4 (broken_now 4)
    -- a round's counts are its own, and so are a fragment's
    ∷ row only_o (event 1 0 ∷ event 1 0 ∷ event 2 0 ∷ event 1 0 ∷ event 1 0 ∷ event 2 0 ∷ []) 6 all_whole
    ∷ row only_w (event 0 0 ∷ event 1 0 ∷ event 0 0 ∷ event 1 0 ∷ event 4 0 ∷ event 3 0 ∷ event 4 0 ∷ event 2 0 ∷ []) 8 all_whole
    ∷ row only_w (event 0 0 ∷ event 1 0 ∷ event 0 0 ∷ event 1 0 ∷ event 4 0 ∷ event 3 0 ∷ event 2 0 ∷ []) 7 (broken_now 7)
    ∷ []

-- ---- document 02, change 2: ranges without an upper end

-- E: kind 2, P = 0[2,0], Q = 9[1,2], t = 10
abbrev pub E : Rule
E = record { kind = timed (fragment all (range 9 1 2 ∷ []) ∷ []) 10; p = fragment all (range 0 2 0 ∷ []) ∷ [] }

-- F: kind 2, P = {0[1,0], 1[1,1]} all, Q = 9[1,0], t = 10; G: the same with P shuffled
abbrev pub FG : Join → Rule
FG j = record { kind = timed (fragment all (range 9 1 0 ∷ []) ∷ []) 10; p = fragment j (range 0 1 0 ∷ range 1 1 1 ∷ []) ∷ [] }

-- H: kind 1, {0[2,0]} all, then {1[1,0], 3[2,2]} any, shuffled, before 2
abbrev pub H : Rule
H = record { kind = repeated 2; p = fragment all (range 0 2 0 ∷ []) ∷ fragment any_shuffled (range 1 1 0 ∷ range 3 2 2 ∷ []) ∷ [] }

abbrev pub only_e : List Rule
only_e = E ∷ []

abbrev pub only_f : List Rule
only_f = FG all ∷ []

abbrev pub only_g : List Rule
only_g = FG all_shuffled ∷ []

abbrev pub only_h : List Rule
only_h = H ∷ []

abbrev pub endless_rows : List Row
endless_rows =
    -- "u or more occurrences": below u the next fragment may not begin, and from u on there is no event too many
    row only_e (event 0 0 ∷ event 9 0 ∷ []) 2 (broken_now 2)
    ∷ row only_e (event 0 0 ∷ event 0 0 ∷ event 9 10 ∷ []) 3 all_whole
    ∷ row only_e (event 0 0 ∷ event 0 0 ∷ event 0 0 ∷ event 0 0 ∷ event 0 0 ∷ event 9 10 ∷ []) 6 all_whole
    -- "a finished P whose last event is on such a range can grow": the deadline does not run yet
    ∷ row only_e (event 0 0 ∷ event 0 0 ∷ event 0 0 ∷ event 0 0 ∷ clock 99 ∷ []) 5 is_open
    -- and once Q comes, it is held to the end of P, which is P's last event
    ∷ row only_e (event 0 0 ∷ event 0 0 ∷ event 0 50 ∷ event 9 60 ∷ []) 4 all_whole
    ∷ row only_e (event 0 0 ∷ event 0 0 ∷ event 0 50 ∷ event 9 61 ∷ []) 4 (broken_now 4)
    -- "until the next fragment begins"
    ∷ row only_e (event 0 0 ∷ event 0 0 ∷ event 9 0 ∷ event 9 0 ∷ event 9 0 ∷ []) 5 (broken_now 5)
    ∷ row only_h (event 0 0 ∷ event 0 0 ∷ event 1 0 ∷ event 0 0 ∷ []) 4 (broken_now 4)
    -- "or, in a fragment that isn't shuffled, a sibling closes its block": then neither it nor P can grow
    ∷ row only_f (event 0 0 ∷ event 0 0 ∷ event 1 0 ∷ event 0 0 ∷ []) 4 (broken_now 4)
    ∷ row only_f (event 0 0 ∷ event 0 0 ∷ event 1 0 ∷ clock 11 ∷ []) 4 (broken_now 4)
    ∷ row only_f (event 1 0 ∷ event 0 0 ∷ event 0 0 ∷ clock 99 ∷ []) 4 is_open
    -- shuffled, it goes on after a sibling, and P can grow whatever came last
    ∷ row only_g (event 0 0 ∷ event 0 0 ∷ event 1 0 ∷ event 0 0 ∷ event 9 10 ∷ []) 5 all_whole
    ∷ row only_g (event 0 0 ∷ event 0 0 ∷ event 1 0 ∷ clock 99 ∷ []) 4 is_open
    ∷ row only_h (event 0 0 ∷ event 0 0 ∷ event 1 0 ∷ event 3 0 ∷ event 1 0 ∷ event 3 0 ∷ event 1 0 ∷ event 2 0 ∷ []) 8 all_whole
    ∷ row only_h (event 0 0 ∷ event 0 0 ∷ event 1 0 ∷ event 3 0 ∷ event 1 0 ∷ event 2 0 ∷ []) 6 (broken_now 6)
    -- a complete Q with such a range is whole: the clock alone does not break it, more of it after the limit does
    ∷ row only_f (event 1 0 ∷ event 0 0 ∷ event 9 1 ∷ event 9 2 ∷ event 9 10 ∷ clock 99 ∷ []) 6 all_whole
    ∷ row only_f (event 1 0 ∷ event 0 0 ∷ event 9 1 ∷ event 9 2 ∷ event 9 10 ∷ clock 99 ∷ event 9 99 ∷ []) 7 (broken_now 7)
    ∷ row only_f (event 1 0 ∷ event 0 0 ∷ event 9 1 ∷ event 9 2 ∷ event 9 10 ∷ clock 99 ∷ event 0 99 ∷ []) 7 is_open
    ∷ []
