-- Document 01's numbers for an answer ("Running a log"): "answer (0 whole, 1 open, 2 broken, 3 refused); refusal number or 0; mask (u16); .. place (u32)". In whatever form a call answers, as an
-- enum, one number or twelve bytes, its promise is held to these; the taken count is no part of an answer.
-- Assumes nothing.
use Rattle.std.specs.Prelude.{ℕ}
use Rattle.pattern.specs.Judge.{Verdict, all_whole, some_open, broken_at, Answer, verdict, refused}

pub record Values : Type 0 where
  pub answer : ℕ
  pub refusal : ℕ
  pub mask : ℕ
  pub place : ℕ

-- "Place is k for broken, the offset named below for refused, else 0. Mask is 0 for whole"
abbrev pub verdict_values : Verdict → Values
verdict_values all_whole = record { answer = 0; refusal = 0; mask = 0; place = 0 }
verdict_values (some_open mask) = record { answer = 1; refusal = 0; mask = mask; place = 0 }
verdict_values (broken_at k mask) = record { answer = 2; refusal = 0; mask = mask; place = k }

-- a refusal at a place
abbrev pub refused_values : ℕ → ℕ → Values
refused_values number place = record { answer = 3; refusal = number; mask = 0; place = place }

-- the judge's answer to an observation: "A refused one answers its refusal number alone"
abbrev pub answer_values : Answer → Values
answer_values (verdict v) = verdict_values v
answer_values (refused number) = refused_values number 0
