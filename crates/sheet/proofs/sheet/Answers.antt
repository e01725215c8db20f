-- `sheet::sheet` meets its contract: the header's four fields and the rules are read one after the other. Assumes nothing.
use Rattle.std.proofs.Common.{◌≡◌, refl, sym, List, ℕ, length}
use Rattle.pattern.specs.Meaning.{Rule}
use Rattle.layout.specs.Form.{got, read}
use Rattle.layout.specs.Terms.{today}
use Rattle.layout.specs.Reading.{rules}
use Rattle.layout.proofs.Forms.{several-length}
use Rattle.layout.proofs.Values.{today-covered}
use Rattle.layout.proofs.Acceptance.{read-sheet}
use Rattle.fields.proofs.Telling.{by_same, fails, last, then}
use Rattle.sheet.proofs.sheet.Goals as goal

rules-length : (s : List ℕ) (version outputs n at : ℕ) {end : ℕ} {rs : List Rule} → read today s (rules version outputs n) at ≡ got rs end → length rs ≡ n
unfolding rules
rules-length s version outputs n at e = several-length today s _ _ n 0 at e

pub returns-in_err-mark : goal.returns-in_err-mark
returns-in_err-mark c = by_same (read-sheet today-covered) (fails _ c.in_err-mark.ensures c.from_residual.ensures.1)

pub returns-in_err-version : goal.returns-in_err-version
returns-in_err-version c =
    by_same (read-sheet today-covered) (then _ c.in_ok-mark.ensures (fails _ c.in_err-version.ensures c.from_residual-in_err-version.ensures.1))

pub returns-in_err-outputs : goal.returns-in_err-outputs
returns-in_err-outputs c =
    by_same (read-sheet today-covered)
    (then _ c.in_ok-mark.ensures (then _ c.in_ok-version.ensures (fails _ c.in_err-outputs.ensures c.from_residual-in_err-outputs.ensures.1)))

pub returns-in_err-count : goal.returns-in_err-count
returns-in_err-count c =
    by_same (read-sheet today-covered)
    (then _ c.in_ok-mark.ensures (then _ c.in_ok-version.ensures (then _ c.in_ok-outputs.ensures
    (fails _ c.in_err-count.ensures c.from_residual-in_err-count.ensures.1))))

pub returns : goal.returns
returns c =
    by_same (read-sheet today-covered)
    (then _ c.in_ok-mark.ensures (then _ c.in_ok-version.ensures (then _ c.in_ok-outputs.ensures (then _ c.in_ok-count.ensures
    (last _ (λ _ rs e shown. record { version' = refl; outputs' = refl; count' = sym (rules-length _ _ _ _ _ e); tables' = shown }) c.rules.ensures)))))
