-- `rules::stepped` meets its contract: a rule's number is its own remainder by 16. Assumes nothing.
use mathlib.Core.Path.{◌≡◌, ap}
use Prim.Native.Nat.{◌%◌}
use native.Mathlib.Omega.{arith}
use Rattle.step.specs.declared.Stepped.{Stepped}
use Rattle.words.specs.Words.{Held}
use Rattle.rules.proofs.stepped.Goals as goal

pub returns : goal.returns
returns c was h =
    let own : c.args.r % 16 ≡ c.args.r = omega (arith, c.requires) in
    let e = rw (c.load.ensures, own, ap (λ (x : Held). x.rules) h.held) at c.act-s.ensures in
    record { stands = ap (λ (s : Stepped). s.standing) e; holds = rw (← e, ← own) (c.store.ensures.holds h) }
