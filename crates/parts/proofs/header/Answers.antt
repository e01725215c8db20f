-- `parts::header` meets its contract: its five fields are read one after the other. Assumes nothing.
use Rattle.std.proofs.Common.{refl}
use Rattle.layout.specs.Reading.{header}
use Rattle.fields.proofs.Telling.{done, fails, no-fault, number-is, then}
use Rattle.parts.proofs.header.Goals as goal

pub returns-in_err-kind : goal.returns-in_err-kind
unfolding header
returns-in_err-kind c = fails _ c.in_err-kind.ensures c.from_residual.ensures.1

pub returns-in_err-p : goal.returns-in_err-p
unfolding header
returns-in_err-p c = then _ c.in_ok-kind.ensures (fails _ c.in_err-p.ensures c.from_residual-in_err-p.ensures.1)

pub returns-in_err-q : goal.returns-in_err-q
unfolding header
returns-in_err-q c = then _ c.in_ok-kind.ensures (then _ c.in_ok-p.ensures (fails _ c.in_err-q.ensures c.from_residual-in_err-q.ensures.1))

pub returns-in_err-trigger : goal.returns-in_err-trigger
unfolding header
returns-in_err-trigger c =
    then _ c.in_ok-kind.ensures (then _ c.in_ok-p.ensures (then _ c.in_ok-q.ensures (fails _ c.in_err-trigger.ensures c.from_residual-in_err-trigger.ensures.1)))

pub returns-in_err-time : goal.returns-in_err-time
unfolding header
returns-in_err-time c =
    then _ c.in_ok-kind.ensures (then _ c.in_ok-p.ensures (then _ c.in_ok-q.ensures (then _ c.in_ok-trigger.ensures
    (fails _ c.in_err-time.ensures c.from_residual-in_err-time.ensures.1))))

pub returns : goal.returns
unfolding header
returns c =
    then _ c.in_ok-kind.ensures (then _ c.in_ok-p.ensures (then _ c.in_ok-q.ensures (then _ c.in_ok-trigger.ensures (then _ c.in_ok-time.ensures
    (done (record {
      kinds = refl;
      count_p = refl;
      count_q = refl;
      triggers = refl;
      set = c.trigger_set.ensures;
      bytes = c.header_word.ensures;
      few = ((number-is c.in_ok-p.ensures).1, (number-is c.in_ok-q.ensures).1, (number-is c.in_ok-trigger.ensures).1, number-is c.in_ok-time.ensures);
      kind_right = (number-is c.in_ok-kind.ensures).1;
      count_right = no-fault _ _ c.in_ok-q.ensures;
      trigger_right = no-fault _ _ c.in_ok-trigger.ensures;
      time_right = no-fault _ _ c.in_ok-time.ensures;
    }))))))
