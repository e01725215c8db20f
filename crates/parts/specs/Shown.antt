-- What the code shows of a part that it read: the names so far, and the part's words in the tables.
-- Assumes nothing.
use Rattle.std.specs.Prelude.{◌≡◌, List, map, ℕ, ◌^◌, ◌<◌, ◌≤◌, replicate}
use Rattle.pattern.specs.Meaning.{Range, Fragment, fragment_names, ordering_names, Rule}
use Rattle.names.specs.Names.{insert, insert_all}
use Rattle.layout.specs.Layout.{Header, last_kind, most_fragments}
use Rattle.layout.specs.Terms.{no_fault}
use Rattle.layout.specs.Faults.{by_kind, count_fault, due_zero, trigger_fault}
use Rattle.layout.specs.Reading.{trigger_set}
use Rattle.layout.specs.Pages.{header_word, fill, put_range, put_ranges, put_fragment, put_rule, put_rule_fragments, put_rule_ranges}
use Rattle.parts.specs.declared.Heading.{Heading}
use Rattle.parts.specs.declared.RuleTables.{RuleTables}

-- the tables of no rules
abbrev pub no_rules : RuleTables
no_rules = record { heads = replicate 16 0; fragments = replicate 256 0; ranges = replicate 2048 0 }

-- a range: the set of names with its own, and its word in the table
pub record RangeShown (before k : ℕ) (table₀ table : List ℕ) (used : ℕ) (r : Range) : Type 0 where
  pub names : used ≡ insert before r.name
  pub ranges : table ≡ put_range table₀ k r

-- ranges: the set of names with theirs, and their words in the table from an index on
pub record RangesShown (before base : ℕ) (table₀ table : List ℕ) (used : ℕ) (rs : List Range) : Type 0 where
  pub names : used ≡ insert_all before (map (λ (r : Range). r.name) rs)
  pub ranges : table ≡ fill put_range table₀ base rs

-- a fragment, of number k
pub record FragmentShown (before k : ℕ) (t₀ t : RuleTables) (used : ℕ) (f : Fragment) : Type 0 where
  pub names : used ≡ insert_all before (fragment_names f)
  pub heads' : t.heads ≡ t₀.heads
  pub fragments : t.fragments ≡ put_fragment t₀.fragments k f
  pub ranges : t.ranges ≡ put_ranges t₀.ranges k f

-- fragments in their tables, numbered from k on
pub record Stored (k : ℕ) (t₀ t : RuleTables) (fs : List Fragment) : Type 0 where
  pub heads' : t.heads ≡ t₀.heads
  pub fragments : t.fragments ≡ fill put_fragment t₀.fragments k fs
  pub ranges : t.ranges ≡ fill put_ranges t₀.ranges k fs

-- fragments, with the set of their names
pub record FragmentsShown (before k : ℕ) (t₀ t : RuleTables) (used : ℕ) (fs : List Fragment) : Type 0 where
  pub names : used ≡ insert_all before (ordering_names fs)
  pub stored : Stored k t₀ t fs

-- a rule's eight bytes
pub record HeaderShown (outputs : ℕ) (w : Heading) (h : Header) : Type 0 where
  pub kinds : w.kind ≡ h.kind
  pub count_p : w.p ≡ h.count_p
  pub count_q : w.q ≡ h.count_q
  pub triggers : w.trigger ≡ h.trigger
  pub set : w.used ≡ trigger_set h
  pub bytes : w.word ≡ header_word h
  pub few : (w.p ≤ 8) × (w.q ≤ 8) × (w.trigger ≤ 63) × (h.time < 256 ^ 4)
  -- those that go by the kind have no fault
  pub kind_right : h.kind ≤ last_kind
  pub count_right : by_kind h.kind (count_fault most_fragments) due_zero h.count_q ≡ 0
  pub trigger_right : by_kind h.kind due_zero (trigger_fault outputs) h.trigger ≡ 0
  pub time_right : by_kind h.kind no_fault due_zero h.time ≡ 0

-- a rule, of number k
pub record RuleShown (k : ℕ) (t₀ t : RuleTables) (r : Rule) : Type 0 where
  pub head : t.heads ≡ put_rule t₀.heads k r
  pub fragments : t.fragments ≡ put_rule_fragments t₀.fragments k r
  pub ranges : t.ranges ≡ put_rule_ranges t₀.ranges k r

-- the rules, from number 0 on
pub record RulesShown (t₀ t : RuleTables) (rs : List Rule) : Type 0 where
  pub heads' : t.heads ≡ fill put_rule t₀.heads 0 rs
  pub fragments : t.fragments ≡ fill put_rule_fragments t₀.fragments 0 rs
  pub ranges : t.ranges ≡ fill put_rule_ranges t₀.ranges 0 rs
