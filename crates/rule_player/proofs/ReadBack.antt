-- What is played is read back: record i of the bytes of some names is the event on name i. Its five bytes stand behind those of the records before it.
-- Assumes nothing.
use mathlib.Core.Path.{◌≡◌, refl, sym, ◌∙◌, ap}
use mathlib.Core.List.{List, [], ◌∷◌, ◌++◌, append_assoc}
use Prim.Native.Nat.{ℕ, zero, suc, ◌+◌, ◌*◌, ◌≤◌, ◌<◌}
use native.Mathlib.Nat.{add-zero}
use native.Mathlib.Omega.{arith}
use lib.ListN.{length, get_or, drop}
use lib.Seq.{get_or-drop, drop-drop}
use borrow.Author.Tests.{ne_eqb}
use Rattle.pattern.specs.Lists.{Each}
use Rattle.pattern.specs.Judge.{event}
use Rattle.layout.specs.Form.{number}
use Rattle.layout.proofs.PageLaws.{each_at}
use Rattle.layout.proofs.Fields.{number_of}
use Rattle.records.specs.Records.{record_at}
use Rattle.rule_player.specs.Playing.{record_bytes, records_of}

-- past i records stands record i
at-record : (time : ℕ) (names rest : List ℕ) (i : ℕ) → i < length names → (more : List ℕ) × (drop (5 * i) (records_of time names ++ rest) ≡ record_bytes time (get_or names i 0) ++ more)
at-record time [] rest i l = absurd (omega (arith, l))
at-record time (n ∷ names) rest zero l = (records_of time names ++ rest, append_assoc (record_bytes time n) (records_of time names) rest)
at-record time (n ∷ names) rest (suc i) l =
    let (more, e) = at-record time names rest i (omega (arith, l)) in
    let five : 5 * suc i ≡ 5 + 5 * i = omega arith in
    (more, ap (λ (k : ℕ). drop k (records_of time (n ∷ names) ++ rest)) five ∙ sym (drop-drop (5 * i) 5 (records_of time (n ∷ names) ++ rest)) ∙ e)

pub played-is-read : (time : ℕ) → time ≤ 4294967295 → (names rest : List ℕ) → Each (λ (n : ℕ). n ≤ 63) names → (i : ℕ) → i < length names
    → record_at (records_of time names ++ rest) i ≡ event (get_or names i 0) time
played-is-read time small names rest few i l =
    let log : List ℕ = records_of time names ++ rest in
    let name : ℕ = get_or names i 0 in
    let named : name ≤ 63 = each_at (λ (n : ℕ). n ≤ 63) 0 names i few l in
    let (more, e) = at-record time names rest i l in
    let first : get_or log (5 * i) 0 ≡ name
    = ap (λ (k : ℕ). get_or log k 0) (sym (add-zero (5 * i))) ∙ sym (get_or-drop (5 * i) log 0 0) ∙ ap (λ (w : List ℕ). get_or w 0 0) e ∙ omega (arith, named) in
    let second : number log 4 (5 * i + 1) ≡ time = number_of log 4 time (5 * i + 1) more (omega (arith, small)) (sym (drop-drop 1 (5 * i) log) ∙ ap (drop 1) e) in
    rw (first, second, ne_eqb name 255 (λ q. omega (arith, q, named))) refl
