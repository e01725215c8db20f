-- The bytes of a sheet, and which sheets are well-formed (document 01, "The sheet"; document 02 for version 2). This is the format, said without a reader: a sheet's bytes are `encode S`,
-- and S is one that may be written if it is well-formed. What a rule is, and when it is well-formed by itself, is the crate `pattern`'s.
-- Assumes nothing.
use Rattle.std.specs.Prelude.{◌≡◌, true, false, List, [], ◌∷◌, ◌++◌, ℕ, zero, suc, ◌/◌, ◌%◌, ◌^◌, ◌<◌, ◌≤◌, length}
use Rattle.pattern.specs.Lists.{Each}
use Rattle.pattern.specs.Meaning.{Range, Join, all, any, all_shuffled, any_shuffled, Fragment, Kind, once, repeated, timed, Rule, ordering_names, Between, WellFormed}
use Rattle.names.specs.Names.{member}
use Rattle.layout.specs.Terms.{Terms, today}

pub record Sheet : Type 0 where
  -- "version (u16, 1)", and 2 since change 1
  pub version : ℕ
  -- "bit n is set if name n is an output of the plugin, clear if an input"
  pub outputs : ℕ
  -- "Rules are numbered from 0 in file order"
  pub rules : List Rule

-- ---- the layout

-- a field of n bytes, little-endian
abbrev pub le : ℕ → ℕ → List ℕ
le zero x = []
le (suc n) x = x % 256 ∷ le n (x / 256)

-- f of each element, one after the other
abbrev pub each : {A B : Type 0} → (A → List B) → List A → List B
each f [] = []
each f (x ∷ xs) = f x ++ each f xs

-- "kind (0, 1, 2)"; "fragments in P (1 to 8)"; "range count (1 to 8)"; names are 0 to 63
abbrev pub last_kind : ℕ
last_kind = 2

abbrev pub most_fragments : ℕ
most_fragments = 8

abbrev pub most_ranges : ℕ
most_ranges = 8

abbrev pub last_name : ℕ
last_name = 63

-- "join (0 all, 1 any)", and in version 2 "join 2 (all, shuffled) and 3 (any, shuffled)"
abbrev pub join_number : Join → ℕ
join_number all = 0
join_number any = 1
join_number all_shuffled = 2
join_number any_shuffled = 3

-- "kind (0, 1, 2)"
abbrev pub kind_number : Kind → ℕ
kind_number (once i) = 0
kind_number (repeated i) = 1
kind_number (timed q t) = 2

-- the fragments of Q: none for kinds 0 and 1
abbrev pub in_q : Kind → List Fragment
in_q (once i) = []
in_q (repeated i) = []
in_q (timed q t) = q

-- "trigger (a name that is an input; 0 for kind 2)"
abbrev pub trigger_of : Kind → ℕ
trigger_of (once i) = i
trigger_of (repeated i) = i
trigger_of (timed q t) = 0

-- "t (u32; 0 for kinds 0 and 1)"
abbrev pub time_of : Kind → ℕ
time_of (once i) = 0
time_of (repeated i) = 0
time_of (timed q t) = t

-- "each range as name, u (u16), v (u16)"
abbrev pub range_bytes : Range → List ℕ
range_bytes r = le 1 r.name ++ (le 2 r.u ++ le 2 r.v)

-- "join .., range count (1 to 8), and each range"
abbrev pub fragment_bytes : Fragment → List ℕ
fragment_bytes f = le 1 (join_number f.join) ++ (le 1 (length f.ranges) ++ each range_bytes f.ranges)

-- "Each rule, 8 bytes: kind; fragments in P; fragments in Q; trigger; t"
pub record Header : Type 0 where
  pub kind : ℕ
  pub count_p : ℕ
  pub count_q : ℕ
  pub trigger : ℕ
  pub time : ℕ

abbrev pub header_of : Rule → Header
header_of r = record {
  kind = kind_number r.kind;
  count_p = length r.p;
  count_q = length (in_q r.kind);
  trigger = trigger_of r.kind;
  time = time_of r.kind;
}

abbrev pub header_bytes : Header → List ℕ
header_bytes h = le 1 h.kind ++ (le 1 h.count_p ++ (le 1 h.count_q ++ (le 1 h.trigger ++ le 4 h.time)))

-- "Then the fragments, P's first"
abbrev pub rule_bytes : Rule → List ℕ
rule_bytes r = header_bytes (header_of r) ++ (each fragment_bytes r.p ++ each fragment_bytes (in_q r.kind))

-- "the mark 4C 4F 42 ("LOB")", as one little-endian number
abbrev pub mark : ℕ
mark = 0x42_4F_4C

-- "Header, 14 bytes: the mark, version (u16), outputs (u64), rule count (1 to 16)", then each rule
abbrev pub encode : Sheet → List ℕ
encode S = le 3 mark ++ (le 2 S.version ++ (le 8 S.outputs ++ (le 1 (length S.rules) ++ each rule_bytes S.rules)))

-- ---- well-formed

abbrev pub Input : ℕ → ℕ → Type 0
Input outputs n = member outputs n ≡ false

abbrev pub Output : ℕ → ℕ → Type 0
Output outputs n = member outputs n ≡ true

-- "trigger (a name that is an input)"; "Every name in Q is an output"
abbrev pub Directed : ℕ → Kind → Type 0
Directed outputs (once i) = Input outputs i
Directed outputs (repeated i) = Input outputs i
Directed outputs (timed q t) = Each (Output outputs) (ordering_names q)

module _ (T : Terms) where
  -- the version allows the range's v: 0 only where the version has it
  abbrev pub EndAllowed : ℕ → Range → Type 0
  EndAllowed version r = r.v ≡ 0 → T.endless version ≡ true

  -- the version allows the fragment
  pub record Allowed (version : ℕ) (f : Fragment) : Type 0 where
    pub join : join_number f.join ≤ T.last_join version
    pub ends : Each (EndAllowed version) f.ranges

  -- a rule that may stand in a sheet of this version with these outputs
  pub record WellFormedRule (version outputs : ℕ) (r : Rule) : Type 0 where
    pub formed : WellFormed r
    pub directed : Directed outputs r.kind
    -- the version allows its kind, its joins and its ranges' ends
    pub kinds : T.first_kind version ≤ kind_number r.kind
    pub allowed_p : Each (Allowed version) r.p
    pub allowed_q : Each (Allowed version) (in_q r.kind)

  pub record WellFormedOn (S : Sheet) : Type 0 where
    pub known : Between 1 T.newest S.version
    pub outputs : S.outputs < 2 ^ 64
    pub count : Between 1 T.most_rules (length S.rules)
    pub rules : Each (WellFormedRule S.version S.outputs) S.rules

abbrev pub WellFormedSheet : Sheet → Type 0
WellFormedSheet = WellFormedOn today

-- "A sheet has at most 5,774 bytes"
abbrev pub longest : ℕ
longest = 5774

-- every element is a byte
abbrev pub Bytes : List ℕ → Type 0
Bytes = Each (λ (b : ℕ). b < 256)
