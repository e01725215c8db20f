-- What follows for an accepted sheet: one sheet for the same bytes, at most 5,774 of them, and 1 to 16 rules that are all well-formed.
-- Assumes nothing.
use mathlib.Core.Path.{◌≡◌, ap, sym, subst, ◌∙◌}
use mathlib.Core.List.{List, [], ◌∷◌}
use Prim.Native.Nat.{ℕ, ◌≤◌, ◌<◌}
use lib.ListN.{length}
use Rattle.pattern.specs.Lists.{Each}
use Rattle.pattern.specs.Meaning.{Rule, WellFormed}
use Rattle.pattern.specs.Agreement.{WellFormedRules}
use Rattle.layout.specs.Terms.{today}
use Rattle.layout.specs.Layout.{Sheet, encode, WellFormedRule, WellFormedSheet, longest, Bytes}
use Rattle.layout.specs.Pages.{rule_at, no_rule}
use Rattle.layout.specs.Reading.{accepted, read_sheet}
use Rattle.layout.proofs.Acceptance.{accepted-is-encoded, encoded-is-accepted}
use Rattle.layout.proofs.Length.{sheet-length}
use Rattle.layout.proofs.PageLaws.{each_at}

sheet-of : {S T : Sheet} → accepted S ≡ accepted T → S ≡ T
sheet-of e = cc e

-- two well-formed sheets with the same bytes are the same
pub same-bytes-same-sheet : (S T : Sheet) → WellFormedSheet S → WellFormedSheet T → encode S ≡ encode T → S ≡ T
same-bytes-same-sheet S T v w e = sheet-of (sym (encoded-is-accepted S v) ∙ ap read_sheet e ∙ encoded-is-accepted T w)

-- "A sheet has at most 5,774 bytes"
pub accepted-length : (s : List ℕ) → Bytes s → {S : Sheet} → read_sheet s ≡ accepted S → length s ≤ longest
accepted-length s bytes {S} e =
    let a = accepted-is-encoded s bytes e in
    subst (λ (l : List ℕ). length l ≤ longest) (sym a.bytes) (sheet-length S a.formed)

-- rule r
pub rule-formed : (S : Sheet) → WellFormedSheet S → (r : ℕ) → r < length S.rules → WellFormed (rule_at S.rules r)
rule-formed S w r here = (each_at (WellFormedRule today S.version S.outputs) no_rule S.rules r w.rules here).formed

-- a well-formed sheet's rules are what the agreement theorem asks for
pub rules-formed : (S : Sheet) → WellFormedSheet S → WellFormedRules S.rules
rules-formed S w = record { count = w.count; each = go S.rules w.rules }
  where
    go : (rs : List Rule) → Each (WellFormedRule today S.version S.outputs) rs → Each WellFormed rs
    go [] g = tt
    go (r ∷ rs) g = (g.0.formed, go rs g.1)

pub accepted-rules : (s : List ℕ) → Bytes s → {S : Sheet} → read_sheet s ≡ accepted S → WellFormedRules S.rules
accepted-rules s bytes {S} e = rules-formed S (accepted-is-encoded s bytes e).formed
