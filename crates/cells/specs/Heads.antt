-- What is looked up in the head of a rule: each of its parts is the rule's own.
-- Assumes nothing.
use Rattle.std.specs.Prelude.{◌≡◌, ℕ, length}
use Rattle.pattern.specs.Meaning.{Rule}
use Rattle.layout.specs.Layout.{kind_number, in_q, trigger_of, time_of}
use Rattle.tables.specs.Words.{kind_in, count_p_in, count_q_in, trigger_in, time_in}

-- a rule's head
pub record LooksHead (head : ℕ) (r : Rule) : Type 0 where
  pub kind : kind_in head ≡ kind_number r.kind
  pub count_p : count_p_in head ≡ length r.p
  pub count_q : count_q_in head ≡ length (in_q r.kind)
  pub trigger : trigger_in head ≡ trigger_of r.kind
  pub time : time_in head ≡ time_of r.kind
