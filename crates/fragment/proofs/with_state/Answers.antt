-- `fragment::with_state` meets its contract: the word less the old byte at its place, with the new one there, is the word of the list with that byte replaced.
-- Which byte that is, each need below reads from the shifts; that it is byte i is said at the return alone.
-- Assumes nothing.
use mathlib.Core.Path.{◌∙◌, ap}
use Prim.Native.Nat.{ℕ, ◌<◌}
use native.Mathlib.Omega.{arith}
use lib.ListN.{get_or, set}
use mir.Syntax.{w8}
use mir.Val.{Fits}
use Rattle.fragment.proofs.Bytes.{from-le, low-digits, old_below, replaced-below, replaced-bytes}
use borrow.Author.Rules.{rules}
use Rattle.fragment.proofs.with_state.Goals as goal

pub overflow_sub-word : goal.overflow_sub-word
overflow_sub-word c =
    let fits : (k : ℕ) → Fits w8 (get_or c.args.x k 0) = λ k. search rules in
    old_below c.args.x _ c.args.state _ (search rules) (λ k g. (fits k).fits) (search rules) c.ranges.state.fits (c.from_le_bytes-word.ensures ∙ from-le c.args.x (search rules))

pub overflow_add-word : goal.overflow_add-word
overflow_add-word c =
    let fits : (k : ℕ) → Fits w8 (get_or c.args.x k 0) = λ k. search rules in
    let small : c.from.result < 256 = omega arith in
    record { fits = replaced-below c.args.x _ c.from.result _ (search rules) (λ k g. (fits k).fits) (search rules) small (c.from_le_bytes-word.ensures ∙ from-le c.args.x (search rules)) }

pub returns : goal.returns
returns c =
    let fits : (k : ℕ) → Fits w8 (get_or c.args.x k 0) = λ k. search rules in
    let small : c.from.result < 256 = omega arith in
    c.to_le_bytes.ensures ∙ low-digits 8 _
    ∙ replaced-bytes c.args.x _ c.from.result _ (search rules) (λ k g. (fits k).fits) (search rules) small (c.from_le_bytes-word.ensures ∙ from-le c.args.x (search rules))
    ∙ ap (set c.args.x c.args.i) c.from.ensures
