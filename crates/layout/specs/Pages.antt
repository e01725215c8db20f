-- A sheet's pages: all that its rules say, as tables of numbers in file order. Rule r stands at r; its fragment f at 16 r + f; that fragment's range s at 8 (16 r + f) + s.
-- A rule's fragments are those of its round, so that a trigger has its own, the last: "A trigger counts as a last fragment of one range [1,1]".
-- Assumes nothing.
use Rattle.std.specs.Prelude.{List, [], ◌∷◌, ℕ, suc, ◌*◌, length, get_or, set, replicate}
use Rattle.bits.specs.Bits.{over}
use Rattle.pattern.specs.Meaning.{Range, Fragment, timed, Rule}
use Rattle.pattern.specs.Model.{trigger_fragment, round_of, fragment_at}
use Rattle.layout.specs.Layout.{Header, header_of, join_number}
use Rattle.layout.specs.Faults.{by_kind}

-- ---- a part as one number: its own bytes, little-endian

abbrev pub range_word : Range → ℕ
range_word r = over 8 r.name (over 16 r.u r.v)

abbrev pub fragment_word : Fragment → ℕ
fragment_word f = over 8 (join_number f.join) (length f.ranges)

abbrev pub header_word : Header → ℕ
header_word h = over 8 h.kind (over 8 h.count_p (over 8 h.count_q (over 8 h.trigger h.time)))

-- ---- tables

-- each element of the list is put into the table, at the numbers from k on
abbrev pub fill : {A : Type 0} → (List ℕ → ℕ → A → List ℕ) → List ℕ → ℕ → List A → List ℕ
fill put table k [] = table
fill put table k (x ∷ xs) = fill put (put table k x) (suc k) xs

abbrev pub put_range : List ℕ → ℕ → Range → List ℕ
put_range table k r = set table k (range_word r)

abbrev pub put_ranges : List ℕ → ℕ → Fragment → List ℕ
put_ranges table k f = fill put_range table (8 * k) f.ranges

abbrev pub put_fragment : List ℕ → ℕ → Fragment → List ℕ
put_fragment table k f = set table k (fragment_word f)

abbrev pub put_rule_ranges : List ℕ → ℕ → Rule → List ℕ
put_rule_ranges table k r = fill put_ranges table (16 * k) (round_of r)

abbrev pub put_rule_fragments : List ℕ → ℕ → Rule → List ℕ
put_rule_fragments table k r = fill put_fragment table (16 * k) (round_of r)

abbrev pub put_rule : List ℕ → ℕ → Rule → List ℕ
put_rule table k r = set table k (header_word (header_of r))

unfoldable pub head_table : List Rule → List ℕ
head_table rules = fill put_rule (replicate 16 0) 0 rules

unfoldable pub fragment_table : List Rule → List ℕ
fragment_table rules = fill put_rule_fragments (replicate 256 0) 0 rules

unfoldable pub range_table : List Rule → List ℕ
range_table rules = fill put_rule_ranges (replicate 2048 0) 0 rules

-- the trigger's fragment, where there is a trigger
abbrev pub trigger_fragments : ℕ → ℕ → List Fragment
trigger_fragments kind i = by_kind kind [] (trigger_fragment i ∷ [])

-- ---- the parts by their numbers

-- what is looked up where nothing is
abbrev pub no_range : Range
no_range = record { name = 0; u = 0; v = 0 }

abbrev pub no_rule : Rule
no_rule = record { kind = timed [] 0; p = [] }

-- rule r
abbrev pub rule_at : List Rule → ℕ → Rule
rule_at rules r = get_or rules r no_rule

-- range s of fragment f of a rule's round
abbrev pub range_at : Rule → ℕ → ℕ → Range
range_at rule f s = get_or (fragment_at rule f).ranges s no_range
