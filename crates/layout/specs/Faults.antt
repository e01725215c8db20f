-- The fields of a sheet, and where each refusal is found (document 01's table of that name): for each field how many bytes it has, and the faults that its value may have, on some terms.
-- Assumes nothing.
use Rattle.std.specs.Prelude.{Bool, cond, not, ◌&&◌, ℕ, ltb, eqb}
use Rattle.names.specs.Names.{member}
use Rattle.layout.specs.Terms.{◌when◌or◌, no_fault, Terms}
use Rattle.layout.specs.Layout.{mark, last_kind, most_fragments, most_ranges, last_name}

-- ---- the faults of a field's value: the number of the first that it has, or 0

-- a value from first to last, and the fault of any other
abbrev pub outside : ℕ → ℕ → ℕ → ℕ → ℕ
outside k first last x = k when ltb x first or k when ltb last x or 0

-- a field that must have one value: "mark | 2 other bytes"
abbrev pub unlike : ℕ → ℕ → ℕ → ℕ
unlike k due = outside k due due

abbrev pub mark_fault : ℕ → ℕ
mark_fault = unlike 2 mark

-- "Q count, trigger, t | 5 not 0 where 0 is due": such a field is looked at for 1 and 5 only
abbrev pub due_zero : ℕ → ℕ
due_zero = unlike 5 0

-- "count, kind, join | 4 outside its values": a count, from 1 on
abbrev pub count_fault : ℕ → ℕ → ℕ
count_fault most = outside 4 1 most

-- "u; v | 7 u is 0; v < u": a bound below the least that it may be, 1 for u and u for v
abbrev pub below : ℕ → ℕ → ℕ
below least x = 7 when ltb x least or 0

abbrev pub least_fault : ℕ → ℕ
least_fault = below 1

-- v; "at field v refusal 7 is not given for v = 0" where the version lets it in
abbrev pub most_fault : Bool → ℕ → ℕ → ℕ
most_fault endless u v = cond (endless && eqb v 0) 0 (below u v)

-- a trigger is the first name of its rule: "9 trigger .. an output"
abbrev pub trigger_fault : ℕ → ℕ → ℕ
trigger_fault outputs i = 6 when ltb last_name i or 9 when member outputs i or 0

module _ (T : Terms) where
  -- "version | 3 not 1", of document 02: "refusal 3 is for versions other than 1 and 2"
  abbrev pub version_fault : ℕ → ℕ
  version_fault = outside 3 1 T.newest

  -- "rule count (1 to 16)"
  abbrev pub rules_fault : ℕ → ℕ
  rules_fault = count_fault T.most_rules

  -- "kind (0, 1, 2)"
  abbrev pub kind_fault : ℕ → ℕ → ℕ
  kind_fault version = outside 4 (T.first_kind version) last_kind

  -- "join (0 all, 1 any)", and what a version adds
  abbrev pub join_fault : ℕ → ℕ → ℕ
  join_fault version = outside 4 0 (T.last_join version)

  -- a range's name: "9 .. Q name .. an input"; "8 already in the rule", of which `used` is the set of names so far
  abbrev pub name_fault : ℕ → Bool → ℕ → ℕ → ℕ
  name_fault outputs of_q used n = T.in_order (ltb last_name n) (member used n) (of_q && not (member outputs n))

-- what goes by a rule's kind
abbrev pub by_kind : {A : Type 0} → ℕ → A → A → A
by_kind k when_timed when_not = cond (eqb k 2) when_timed when_not

-- ---- the fields

-- each with what its faults go by: the version, the rule's kind, the sheet's outputs, whether it stands in Q, the set of the rule's names before it, the range's u
pub data Field : Type 0 where
  mark_field : Field
  version_field : Field
  outputs_field : Field
  rule_count_field : Field
  kind_field : (version : ℕ) → Field
  count_p_field : Field
  count_q_field : (kind : ℕ) → Field
  trigger_field : (kind outputs : ℕ) → Field
  time_field : (kind : ℕ) → Field
  join_field : (version : ℕ) → Field
  range_count_field : Field
  name_field : (outputs : ℕ) (of_q : Bool) (used : ℕ) → Field
  u_field : Field
  v_field : (version u : ℕ) → Field

-- its bytes
abbrev pub size_of : Field → ℕ
size_of mark_field = 3
size_of version_field = 2
size_of outputs_field = 8
size_of rule_count_field = 1
size_of (kind_field version) = 1
size_of count_p_field = 1
size_of (count_q_field kind) = 1
size_of (trigger_field kind outputs) = 1
size_of (time_field kind) = 4
size_of (join_field version) = 1
size_of range_count_field = 1
size_of (name_field outputs of_q used) = 1
size_of u_field = 2
size_of (v_field version u) = 2

-- the number of the first fault that a value has, or 0
abbrev pub fault_of : Terms → Field → ℕ → ℕ
fault_of T mark_field = mark_fault
fault_of T version_field = version_fault T
fault_of T outputs_field = no_fault
fault_of T rule_count_field = rules_fault T
fault_of T (kind_field version) = kind_fault T version
fault_of T count_p_field = count_fault most_fragments
fault_of T (count_q_field kind) = by_kind kind (count_fault most_fragments) due_zero
fault_of T (trigger_field kind outputs) = by_kind kind due_zero (trigger_fault outputs)
fault_of T (time_field kind) = by_kind kind no_fault due_zero
fault_of T (join_field version) = join_fault T version
fault_of T range_count_field = count_fault most_ranges
fault_of T (name_field outputs of_q used) = name_fault T outputs of_q used
fault_of T u_field = least_fault
fault_of T (v_field version u) = most_fault (T.endless version) u
