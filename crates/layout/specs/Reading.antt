-- Reading a sheet field by field (document 01, "The sheet"): the sheet as a form, and the whole answer.
-- Assumes nothing.
use Rattle.std.specs.Prelude.{◌≡◌, ◌⊎◌, Bool, true, false, cond, List, [], ◌∷◌, ℕ, zero, suc, ◌+◌, ◌≤◌, ltb, length}
use Rattle.pattern.specs.Meaning.{Range, Join, all, any, all_shuffled, any_shuffled, Fragment, fragment_names, ordering_names, Kind, once, repeated, timed, Rule}
use Rattle.names.specs.Names.{member, insert, insert_all}
use Rattle.layout.specs.Terms.{Terms, with_shuffles, with_endless, today}
use Rattle.layout.specs.Layout.{Sheet, Header, last_name, Input}
use Rattle.layout.specs.Faults.{by_kind, mark_field, version_field, outputs_field, rule_count_field, kind_field, count_p_field, count_q_field, trigger_field, time_field, join_field, range_count_field, name_field, u_field, v_field}
use Rattle.layout.specs.Form.{Form, done, ◌>>=◌, ask, Got, got, stopped, number, read, ComesTo}

-- ---- the sheet as a form

-- n of them, one after the other; `used` is the set of names so far, to which each adds its own
unfoldable pub several : {A : Type 0} → (ℕ → Form A) → (A → List ℕ) → ℕ → ℕ → Form (List A)
several one names used zero = done []
several one names used (suc n) = do
  x ← one used
  xs ← several one names (insert_all used (names x)) n
  done (x ∷ xs)

-- the join of a number from 0 to 3
abbrev pub join_of : ℕ → Join
join_of zero = all
join_of (suc zero) = any
join_of (suc (suc zero)) = all_shuffled
join_of (suc (suc (suc n))) = any_shuffled

abbrev pub kind_of : ℕ → ℕ → List Fragment → ℕ → Kind
kind_of zero i q t = once i
kind_of (suc zero) i q t = repeated i
kind_of (suc (suc k)) i q t = timed q t

-- a rule's names before its first fragment: the trigger, where there is one
abbrev pub trigger_set : Header → ℕ
trigger_set h = by_kind h.kind 0 (insert 0 h.trigger)

abbrev pub range_name : Range → List ℕ
range_name r = r.name ∷ []

module _ (version outputs : ℕ) where
  unfoldable pub range : Bool → ℕ → Form Range
  range of_q used = do
    n ← ask (name_field outputs of_q used)
    u ← ask u_field
    v ← ask (v_field version u)
    done (record { name = n; u = u; v = v })

  unfoldable pub ranges : Bool → ℕ → ℕ → Form (List Range)
  ranges of_q used n = several (range of_q) range_name used n

  unfoldable pub fragment : Bool → ℕ → Form Fragment
  fragment of_q used = do
    j ← ask (join_field version)
    n ← ask range_count_field
    rs ← ranges of_q used n
    done (record { join = join_of j; ranges = rs })

  unfoldable pub fragments : Bool → ℕ → ℕ → Form (List Fragment)
  fragments of_q used n = several (fragment of_q) fragment_names used n

  unfoldable pub header : Form Header
  header = do
    k ← ask (kind_field version)
    p ← ask count_p_field
    q ← ask (count_q_field k)
    i ← ask (trigger_field k outputs)
    t ← ask (time_field k)
    done (record { kind = k; count_p = p; count_q = q; trigger = i; time = t })

  unfoldable pub rule : Form Rule
  rule = do
    h ← header
    p ← fragments false (trigger_set h) h.count_p
    q ← fragments true (insert_all (trigger_set h) (ordering_names p)) h.count_q
    done (record { kind = kind_of h.kind h.trigger q h.time; p = p })

  unfoldable pub rules : ℕ → Form (List Rule)
  rules n = several (λ _. rule) (λ _. []) 0 n

unfoldable pub sheet : Form Sheet
sheet = do
  m ← ask mark_field
  v ← ask version_field
  o ← ask outputs_field
  n ← ask rule_count_field
  rs ← rules v o n
  done (record { version = v; outputs = o; rules = rs })

-- bytes in which the version's field, two bytes after the mark, fits and has this value
abbrev pub HasVersion : ℕ → List ℕ → Type 0
HasVersion version s = (5 ≤ length s) × (number s 2 3 ≡ version)

-- ---- the whole answer

-- accepted with the sheet, or refused with the number and the place of the first faulty field
pub data Outcome : Type 0 where
  accepted : Sheet → Outcome
  refused : (number place : ℕ) → Outcome

-- "after the last rule | 10 bytes left over"; its place is "of the first byte left over"
abbrev pub at_end : List ℕ → Got Sheet → Outcome
at_end s (got S end) = cond (ltb end (length s)) (refused 10 end) (accepted S)
at_end s (stopped k place) = refused k place

-- what the caller's terms say of the number of bytes comes before the first field, and its place is 0
abbrev pub unless_long : ℕ → Outcome → Outcome
unless_long zero o = o
unless_long (suc k) o = refused (suc k) 0

unfoldable pub read_sheet_on : Terms → List ℕ → Outcome
read_sheet_on T s = unless_long (T.bytes (length s)) (at_end s (read T s sheet 0))

abbrev pub read_sheet : List ℕ → Outcome
read_sheet = read_sheet_on today

-- ---- change 2

-- bytes whose answer change 2 changed: of version 2, and the reading comes to a v that is 0, at which the terms of before said 7 and those with it do not
pub record EndlessRefused (s : List ℕ) : Type 0 where
  pub version : HasVersion 2 s
  pub u : ℕ
  pub place : ℕ
  pub comes : ComesTo with_endless s sheet 0 (v_field 2 u) place
  pub inside : place + 2 ≤ length s
  pub zero : number s 2 place ≡ 0
  pub old : read_sheet_on with_shuffles s ≡ refused 7 place
  pub new : ¬ (read_sheet_on with_endless s ≡ refused 7 place)

-- ---- change 6

-- bytes whose answer change 6 changes: "those sheets whose first fault is a Q name that is an input and already in the rule". The reading comes to a range's name in Q, every field before it being
-- right; `outputs` are the sheet's, and `used` is the set of the rule's names before it
pub record ReusedInput (s : List ℕ) (place : ℕ) : Type 0 where
  pub outputs : ℕ
  pub used : ℕ
  pub comes : ComesTo today s sheet 0 (name_field outputs true used) place
  -- it is there, and no greater than 63: it has neither 1 nor 6
  pub inside : place + 1 ≤ length s
  pub known : number s 1 place ≤ last_name
  pub input : Input outputs (number s 1 place)
  pub again : member used (number s 1 place) ≡ true

-- "8 becomes 9, same place"
pub record EightToNine (s : List ℕ) (place : ℕ) : Type 0 where
  pub old : read_sheet_on with_endless s ≡ refused 8 place
  pub new : read_sheet s ≡ refused 9 place

-- "The old answers that change are those sheets", and "No other sheet is affected"
pub record EightBecomesNine (s : List ℕ) : Type 0 where
  pub alone : (read_sheet s ≡ read_sheet_on with_endless s) ⊎ ((place : ℕ) × ReusedInput s place × EightToNine s place)
  pub every : (place : ℕ) → ReusedInput s place → EightToNine s place
