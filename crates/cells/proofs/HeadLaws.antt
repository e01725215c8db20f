-- A rule's head: what it holds is read off the number of a well-formed rule.
-- Assumes nothing.
use mathlib.Core.Path.{◌≡◌, sym, ◌∙◌, ap}
use mathlib.Core.List.{List, [], ◌∷◌, ◌++◌}
use Prim.Native.Nat.{◌+◌, ◌<◌}
use native.Mathlib.Omega.{arith}
use lib.ListN.{length, length-append}
use Rattle.pattern.specs.Meaning.{Fragment, Kind, once, repeated, timed, Rule, WellFormed}
use Rattle.pattern.specs.Model.{trigger_fragment, last_fragments, round_of}
use Rattle.layout.specs.Layout.{header_of, kind_number, in_q, trigger_of, time_of}
use Rattle.layout.specs.Faults.{by_kind}
use Rattle.layout.specs.Pages.{header_word}
use Rattle.layout.proofs.PageLaws.{round-few}
use Rattle.tables.specs.Words.{count_p_in, round_in}
use Rattle.tables.proofs.Bounds.{cap-of}
use Rattle.cells.specs.Heads.{LooksHead}

-- ---- a rule's head

record Small (K : Kind) (p : List Fragment) : Type 0 where
  kind : kind_number K < 256
  count_p : length p < 256
  count_q : length (in_q K) < 256
  trigger : trigger_of K < 256
  time : time_of K < 4294967296

small : (K : Kind) (p : List Fragment) → WellFormed (record { kind = K; p = p }) → Small K p
small (once i) p w = record { kind = omega arith; count_p = omega (arith, w.p.count); count_q = omega arith; trigger = omega (arith, w.kind); time = omega arith }
small (repeated i) p w = record { kind = omega arith; count_p = omega (arith, w.p.count); count_q = omega arith; trigger = omega (arith, w.kind); time = omega arith }
small (timed q t) p w = record { kind = omega arith; count_p = omega (arith, w.p.count); count_q = omega (arith, w.kind.0.count); trigger = omega arith; time = omega (arith, w.kind.1) }

-- its round's length, from what the head says
pub round-length : (K : Kind) (p : List Fragment) → length p + by_kind (kind_number K) (length (in_q K)) 1 ≡ length (p ++ last_fragments K)
round-length (once i) p = sym (length-append p (trigger_fragment i ∷ []))
round-length (repeated i) p = sym (length-append p (trigger_fragment i ∷ []))
round-length (timed q t) p = sym (length-append p q)

-- the sheet's head of a rule, and its round
pub looks-head : (r : Rule) → WellFormed r → LooksHead (header_word (header_of r)) r
looks-head r w = let s = small r.kind r.p w in record { kind = omega arith; count_p = omega arith; count_q = omega arith; trigger = omega arith; time = omega arith }

pub head-round : (r : Rule) → WellFormed r → round_in (header_word (header_of r)) ≡ length (round_of r)
unfolding round_in
head-round r w = let h = looks-head r w in rw (h.count_p, h.kind, h.count_q, round-length r.kind r.p) (cap-of 16 (length (round_of r)) (round-few r w))

-- a well-formed rule's head is not 0: P has a fragment
pub some-head : (r : Rule) → WellFormed r → header_word (header_of r) ≡ 0 → ⊥
some-head r w e = let z : 0 ≡ length r.p = ap count_p_in (sym e) ∙ (looks-head r w).count_p in omega (arith, z, w.p.count)
