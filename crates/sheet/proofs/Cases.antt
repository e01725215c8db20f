-- For callers: the values of an answer tell its case, so that an answer with the values due for an outcome is that outcome's.
-- Assumes nothing.
use Rattle.std.proofs.Common.{◌≡◌, ap, Result, Ok, Err, arith}
use Rattle.pattern.specs.Values.{Values}
use Rattle.layout.specs.Reading.{Outcome, accepted, refused}
use Rattle.fields.specs.Faults.{number_of}
use Rattle.fields.specs.declared.Refused.{Refused}
use Rattle.sheet.specs.Answers.{values_of, read_values}

-- it is the answer of the outcome
abbrev pub AnswerOf : {A : Type 0} → Outcome → Result A Refused → Type 0
AnswerOf (accepted S) (Ok a) = Unit {0}
AnswerOf (accepted S) (Err e) = ⊥
AnswerOf (refused number place) (Ok a) = ⊥
AnswerOf (refused number place) (Err e) = (number_of e.fault ≡ number) × (e.place ≡ place)

pub answer-is : {A : Type 0} (r : Result A Refused) (x : Outcome) → values_of r ≡ read_values x → AnswerOf x r
answer-is (Ok a) (accepted S) e = tt
answer-is (Ok a) (refused k q) e = absurd (omega (arith, ap (λ (v : Values). v.answer) e))
answer-is (Err f) (accepted S) e = absurd (omega (arith, ap (λ (v : Values). v.answer) e))
answer-is (Err f) (refused k q) e = (ap (λ (v : Values). v.refusal) e, ap (λ (v : Values). v.place) e)
