-- `log_line::line_of` meets its contract: the numbers one before the other, from the last one on. Assumes nothing.
use Rattle.std.proofs.Common.{rules}
use Rattle.log_line.proofs.Digits.{made}
use Rattle.log_line.proofs.line_of.Goals as goal

pub returns : goal.returns
returns c =
    made c.args.o {mask = c.from.result} {refusal = c.from-2.result} {answer = c.from-3.result}
    c.new-line.ensures.long c.new-line.ensures.start c.new-line.ensures.nothing
    c.put.ensures c.put-2.ensures c.put-3.ensures c.put-4.ensures c.put-5.ensures (search rules) (search rules) (search rules)
