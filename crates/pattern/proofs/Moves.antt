-- An error stays an error by every move, and is neither idle nor counting.
-- Assumes nothing.
use Prim.Native.Nat.{ℕ}
use lib.Dec.{T}
use Rattle.pattern.specs.Meaning.{Range, Join}
use Rattle.pattern.specs.Recogniser.{State, idle, unbegun, waiting, counting, done, error, Class, next, move, is_idle, is_counting, is_error}

pub error-idle : (s : State) → T (is_error s) → T (is_idle s) → ⊥
error-idle idle t u = t
error-idle unbegun t u = u
error-idle waiting t u = u
error-idle counting t u = u
error-idle done t u = u
error-idle error t u = u

pub counting-error : (s : State) → T (is_counting s) → T (is_error s) → ⊥
counting-error idle t u = t
counting-error unbegun t u = t
counting-error waiting t u = t
counting-error counting t u = u
counting-error done t u = t
counting-error error t u = t

module _ (j : Join) (r : Range) (c : ℕ) where
  pub error-stays : (s : State) (cl : Class) → T (is_error s) → T (is_error (move j r c s cl))
  error-stays error cl t = tt
  error-stays idle cl t = absurd t
  error-stays unbegun cl t = absurd t
  error-stays waiting cl t = absurd t
  error-stays counting cl t = absurd t
  error-stays done cl t = absurd t

  pub error-not-idle : (s : State) → T (is_error s) → T (is_idle (move j r c s next)) → ⊥
  error-not-idle s t = error-idle (move j r c s next) (error-stays s next t)
