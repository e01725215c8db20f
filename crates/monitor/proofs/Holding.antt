-- The book of a well-formed sheet has each of its rules, and each is sound, as a rule's step asks.
-- Assumes nothing.
use Prim.Native.Nat.{ℕ, ◌<◌}
use lib.ListN.{length}
use Rattle.layout.specs.Layout.{Sheet, WellFormedSheet}
use Rattle.layout.specs.Pages.{rule_at}
use Rattle.layout.proofs.Accepted.{rule-formed}
use Rattle.step.proofs.Sound.{Sound, sound}

module _ (S : Sheet) (formed : WellFormedSheet S) (r : ℕ) (here : r < length S.rules) where
  pub rule-sound : Sound (rule_at S.rules r)
  rule-sound = sound (rule_at S.rules r) (rule-formed S formed r here)
