-- `sheet::read` meets its contract: what is read into new pages is the sheet's. Assumes nothing.
use Rattle.std.proofs.Common.{ap, Ok}
use Rattle.std.proofs.lemmas.Result.{err_from_is_err_and}
use Rattle.sheet.proofs.read.Goals as goal

pub returns-in_err-read_into : goal.returns-in_err-read_into
returns-in_err-read_into c =
    let p = err_from_is_err_and c.from_residual.result c.from_residual.ensures.1 in
    let reads = c.in_err-read_into.ensures in
    rw (p.1, p.2) (record { answers = reads.answers; keeps = λ S e. let none = (reads.keeps c.new-pages.ensures S e).0 in cc })

pub returns : goal.returns
returns c =
    let reads = c.in_ok-read_into.ensures in
    record { answers = reads.answers; keeps = λ S e. ap Ok (reads.keeps c.new-pages.ensures S e).1 }
