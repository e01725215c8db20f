-- The line that the program prints (document 01, "Running a log"): "prints these five numbers with single spaces and a newline", as bytes.
-- Assumes nothing.
use Rattle.std.specs.Prelude.{◌≡◌, cond, List, [], ◌∷◌, ◌++◌, ℕ, zero, suc, ◌+◌, ◌/◌, ◌%◌, ◌≤◌, ltb, length, drop}
use Rattle.runner.specs.declared.Outcome.{Outcome}
use Rattle.log_line.specs.declared.text.Line.{Line}

-- the characters
abbrev pub digit : ℕ → ℕ
digit d = 48 + d

abbrev pub space : ℕ
space = 32

abbrev pub newline : ℕ
newline = 10

-- a number's decimal digits, the highest first; n is at least how many there are
abbrev pub decimal : ℕ → ℕ → List ℕ
decimal zero x = []
decimal (suc n) x = cond (ltb x 10) (digit x ∷ []) (decimal n (x / 10) ++ (digit (x % 10) ∷ []))

-- a u32 has at most ten
abbrev pub numeral : ℕ → List ℕ
numeral x = decimal 10 x

-- answer, refusal, mask, taken, place
abbrev pub line_of : Outcome → List ℕ
line_of o = numeral o.answer ++ (space ∷ (numeral o.refusal ++ (space ∷ (numeral o.mask ++ (space ∷ (numeral o.taken ++ (space ∷ (numeral o.place ++ (newline ∷ [])))))))))

-- what is written of a line
abbrev pub text : Line → List ℕ
text l = drop l.start l.bytes

-- the line stands at the end of a buffer of 55 bytes
pub record Made (o : Outcome) (r : Line) : Type 0 where
  pub long : length r.bytes ≡ 55
  pub inside : r.start ≤ 55
  pub line : text r ≡ line_of o

-- ---- how it is written: from the end of a buffer on

-- the characters stand before what was written; they are at most n
pub record Before (n : ℕ) (chars : List ℕ) (before after : Line) : Type 0 where
  pub long : length after.bytes ≡ length before.bytes
  pub inside : after.start ≤ before.start
  pub few : before.start ≤ after.start + n
  pub written : text after ≡ chars ++ text before
