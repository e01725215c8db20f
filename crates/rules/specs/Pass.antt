-- One observation over the sixteen rules: the rules that have the name step, those whose deadline runs are held to it, and no other rule is looked at.
-- Assumes nothing.
use Rattle.std.specs.Prelude.{◌≡◌, Bool, cond, ◌&&◌, ◌||◌, List, ℕ, ◌+◌, ◌*◌, ◌/◌, ◌%◌, ◌^◌, ◌<◌, get_or, set}
use Rattle.names.specs.Names.{member}
use Rattle.rule_state.specs.declared.RuleState.{RuleState}
use Rattle.step.specs.declared.Stepped.{Stepped}
use Rattle.words.specs.Words.{no_state, Held, Holds, with_rules}
use Rattle.rules.specs.declared.Masks.{Masks}
use Rattle.masks.specs.Masks.{mask_n, Union, With}
use Rattle.words.specs.Upto.{map_n}
use Rattle.tables.specs.Cells.{limit_of}
use Rattle.deadline.specs.Deadlines.{overdue_of}
use Rattle.step.specs.declared.Standing.{Standing}
use Rattle.step.specs.declared.Standing.TheVariants.{Due, Broken}
use Rattle.step.specs.Standings.{is_broken, is_open, is_due}
use Rattle.step.specs.Steps.{act_of}

-- a rule that is held to its deadline; at an observation a rule is that, or it steps (`act_of`), at an event on one of its names
abbrev pub waited_of : List ℕ → ℕ → RuleState → ℕ → Stepped
waited_of table r st time = record { state = st; standing = cond (overdue_of (limit_of table r) st.end time) Broken Due }

unfoldable pub rule_of : List ℕ → ℕ → ℕ → RuleState → ℕ → ℕ → Stepped
rule_of table concerned r st name time = cond (member concerned r) (act_of table r st name time) (waited_of table r st time)

-- what one observation made of the rules: their states, and the masks of those that broke, are open, and have a deadline that runs
pub record Pass : Type 0 where
  pub rules : List RuleState
  pub broken : ℕ
  pub opens : ℕ
  pub dues : ℕ

module _ (table : List ℕ) (concerned opens dues : ℕ) (old : List RuleState) (name time : ℕ) where
  -- the rules that are looked at
  abbrev pub touched : ℕ → Bool
  touched r = member concerned r || member dues r

  abbrev pub step_of : ℕ → RuleState → Stepped
  step_of r st = rule_of table concerned r st name time

  abbrev pub standing_at : ℕ → Standing
  standing_at r = (step_of r (get_or old r no_state)).standing

  abbrev pub state_at : ℕ → RuleState → RuleState
  state_at r st = cond (touched r) (step_of r st).state st

  abbrev pub broken_at : ℕ → Bool
  broken_at r = touched r && is_broken (standing_at r)

  abbrev pub open_at : ℕ → Bool
  open_at r = cond (touched r) (is_open (standing_at r)) (member opens r)

  abbrev pub due_at : ℕ → Bool
  due_at r = touched r && is_due (standing_at r)

unfoldable pub pass_of : List ℕ → ℕ → ℕ → ℕ → List RuleState → ℕ → ℕ → Pass
pass_of table concerned opens dues old name time = record {
  rules = map_n (state_at table concerned opens dues old name time) 0 16 old;
  broken = mask_n (broken_at table concerned opens dues old name time) 16;
  opens = mask_n (open_at table concerned opens dues old name time) 16;
  dues = mask_n (due_at table concerned opens dues old name time) 16;
}

-- ---- three masks in one word

abbrev pub broken_in : ℕ → ℕ
broken_in all = all % 65536

abbrev pub open_in : ℕ → ℕ
open_in all = all / 65536 % 65536

abbrev pub due_in : ℕ → ℕ
due_in all = all / 4294967296 % 65536

-- how a rule stands, as the lowest bits of the three
unfoldable pub marks_of : Standing → ℕ
marks_of k = cond (is_broken k) 1 0 + 65536 * cond (is_open k) 1 0 + 4294967296 * cond (is_due k) 1 0

-- the masks of a word with rule r in those that its standing says
pub record Marks (all r : ℕ) (standing : Standing) (made : ℕ) : Type 0 where
  pub broke : With (broken_in all) r (is_broken standing) (broken_in made)
  pub opened : With (open_in all) r (is_open standing) (open_in made)
  pub due : With (due_in all) r (is_due standing) (due_in made)

-- the masks of a word, with those rules of `who` in each that their standing says
pub record Notes (noted who : ℕ) (stands : ℕ → Standing) (all : ℕ) : Type 0 where
  pub broke : (k : ℕ) → member (broken_in all) k ≡ (member (broken_in noted) k || member who k && is_broken (stands k))
  pub opened : (k : ℕ) → member (open_in all) k ≡ (member (open_in noted) k || member who k && is_open (stands k))
  pub due : (k : ℕ) → member (due_in all) k ≡ (member (due_in noted) k || member who k && is_due (stands k))

-- the rules of `who` held to their deadlines
abbrev pub Waits : List ℕ → ℕ → ℕ → List RuleState → ℕ → Type 0
Waits table who time old all = Notes 0 who (λ k. (waited_of table k (get_or old k no_state) time).standing) all

-- the three masks of a word, and the open rules that are left
pub record Tells (all left : ℕ) (p : Masks) : Type 0 where
  pub broke : p.broken ≡ broken_in all
  pub opened : Union left (open_in all) p.opens
  pub opened< : p.opens < 2 ^ 16
  pub due : p.dues ≡ due_in all

-- ---- in the memory of a monitor m

-- rule r becomes s: how it stands, and the bytes that it leaves
pub record Steps (s : Stepped) (r : ℕ) (m : Held) (standing : Standing) (after : List ℕ) : Type 0 where
  pub stands : standing ≡ s.standing
  pub holds : Holds after (with_rules m (set m.rules r s.state))

-- the rules of `who` step
abbrev pub steps_at : List ℕ → ℕ → ℕ → ℕ → ℕ → RuleState → RuleState
steps_at table who name time k st = cond (member who k) (act_of table k st name time).state st

pub record StepsAll (table : List ℕ) (noted who name time : ℕ) (m : Held) (all : ℕ) (after : List ℕ) : Type 0 where
  pub notes : Notes noted who (λ k. (act_of table k (get_or m.rules k no_state) name time).standing) all
  pub holds : Holds after (with_rules m (map_n (steps_at table who name time) 0 16 m.rules))

-- all of them
pub record Passes (pass : Pass) (m : Held) (p : Masks) (after : List ℕ) : Type 0 where
  pub masks : p ≡ record { broken = pass.broken; opens = pass.opens; dues = pass.dues }
  pub holds : Holds after (with_rules m pass.rules)
