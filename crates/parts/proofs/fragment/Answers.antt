-- `parts::fragment` meets its contract: its join and its count are read and stored, and then its ranges are. Assumes nothing.
use Rattle.std.proofs.Common.{refl}
use Rattle.layout.proofs.Parts.{join-number, ranges-length, read-fragment}
use Rattle.layout.proofs.Values.{today-covered}
use Rattle.fields.proofs.Telling.{by_same, fails, last, number-is, then}
use Rattle.parts.proofs.fragment.Goals as goal

pub returns-in_err-join : goal.returns-in_err-join
returns-in_err-join c =
    let a = c.args in
    by_same (λ s at. read-fragment today-covered s a.sheet.version a.sheet.outputs a.of_q a.before at) (fails _ c.in_err-join.ensures c.from_residual.ensures.1)

pub returns-in_err-count : goal.returns-in_err-count
returns-in_err-count c =
    let a = c.args in
    by_same (λ s at. read-fragment today-covered s a.sheet.version a.sheet.outputs a.of_q a.before at)
    (then _ c.in_ok-join.ensures (fails _ c.in_err-count.ensures c.from_residual-in_err-count.ensures.1))

pub returns : goal.returns
returns c =
    let a = c.args in
    let join = number-is c.in_ok-join.ensures in
    by_same (λ s at. read-fragment today-covered s a.sheet.version a.sheet.outputs a.of_q a.before at)
    (then _ c.in_ok-join.ensures (then _ c.in_ok-count.ensures
    (last _ (λ used rs e shown. record {
      names = shown.names;
      heads' = refl;
      fragments = rw (c.fragment_word.ensures, join-number today-covered a.sheet.version _ join, ranges-length today-covered _ a.sheet.version a.sheet.outputs a.of_q a.before _ _ e);
      ranges = shown.ranges;
    }) c.ranges-2.ensures)))
