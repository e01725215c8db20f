-- A loop over `several`: what is read so far, and the rest. The three loops of the reader, over ranges, fragments and rules, have this one invariant.
-- Assumes nothing.
use Rattle.std.proofs.Common.{◌≡◌, refl, ap, sym, ◌∙◌, List, [], ◌∷◌, ◌++◌, map, append_assoc, ℕ, suc, ◌+◌, ◌-◌, ◌<◌, ◌≤◌, add-zero, arith, length, length-append, Result, Ok, Err, IsErrAnd}
use mathlib.Core.List.{append-nil}
use Prim.Native.Nat.{zero-le}
use native.Mathlib.Nat.{sub-zero}
use lib.Seq.{append_snoc}
use Rattle.pattern.specs.Meaning.{Range, Fragment, fragment_names, ordering_names}
use Rattle.names.specs.Names.{insert, insert_all}
use Rattle.layout.specs.Layout.{each}
use Rattle.layout.specs.Terms.{today}
use Rattle.layout.specs.Form.{Form, Got, got, stopped, next, read}
use Rattle.layout.specs.Reading.{several, range_name}
use Rattle.layout.specs.Pages.{fill}
use Rattle.layout.proofs.Forms.{read-several}
use Rattle.fields.specs.Told.{Told, a_part}
use Rattle.fields.specs.declared.Reader.{Reader}
use Rattle.fields.specs.declared.Refused.{Refused}
use Rattle.std.proofs.lemmas.Result.{err_from_is_err_and}

-- ---- sets and tables, one more at the end

insert_all-append : (w : ℕ) (a b : List ℕ) → insert_all w (a ++ b) ≡ insert_all (insert_all w a) b
insert_all-append w [] b = refl
insert_all-append w (n ∷ a) b = insert_all-append (insert w n) a b

module _ {A : Type 0} (put : List ℕ → ℕ → A → List ℕ) where
  pub fill-append : (t : List ℕ) (k : ℕ) (xs ys : List A) → fill put t k (xs ++ ys) ≡ fill put (fill put t k xs) (k + length xs) ys
  fill-append t k [] ys = rw add-zero
  fill-append t k (x ∷ xs) ys = fill-append (put t k x) (suc k) xs ys ∙ ap (λ (n : ℕ). fill put (fill put (put t k x) (suc k) xs) n ys) (omega arith)

  pub fill-snoc : (t : List ℕ) (k : ℕ) (xs : List A) (x : A) → fill put t k (xs ++ (x ∷ [])) ≡ put (fill put t k xs) (k + length xs) x
  fill-snoc t k xs x = fill-append t k xs (x ∷ [])

  -- a table in which the first of them are, and one more is put
  pub one-more : (t₀ : List ℕ) (k : ℕ) {t t' : List ℕ} {i : ℕ} (xs : List A) {x : A} → t ≡ fill put t₀ k xs → length xs ≡ i → t' ≡ put t (k + i) x → t' ≡ fill put t₀ k (xs ++ (x ∷ []))
  one-more t₀ k xs {x} e n e' = e' ∙ rw (e, ← n) (sym (fill-snoc t₀ k xs x))

-- the names of ranges, and of fragments
pub names-of-ranges : (rs : List Range) → each range_name rs ≡ map (λ (r : Range). r.name) rs
names-of-ranges [] = refl
names-of-ranges (r ∷ rs) = ap (r.name ∷◌) (names-of-ranges rs)

pub names-of-fragments : (fs : List Fragment) → each fragment_names fs ≡ ordering_names fs
names-of-fragments [] = refl
names-of-fragments (f ∷ fs) = ap (fragment_names f ++◌) (names-of-fragments fs)

-- ---- the loop

-- xs, and then what g has
abbrev after : {A : Type 0} → List A → Got (List A) → Got (List A)
after xs g = next g (λ ys at. got (xs ++ ys) at)

after-nil : {A : Type 0} (g : Got (List A)) → after [] g ≡ g
after-nil (got xs at) = refl
after-nil (stopped k p) = refl

after-snoc : {A : Type 0} (xs : List A) (x : A) (g : Got (List A)) → after xs (next g (λ ys at. got (x ∷ ys) at)) ≡ after (xs ++ (x ∷ [])) g
after-snoc xs x (got ys at) = ap (λ (zs : List _). got zs at) (sym (append_snoc xs x ys))
after-snoc xs x (stopped k p) = refl

module _ {A : Type 0} (old : Reader) (one : ℕ → Form A) (names : A → List ℕ) (before count : ℕ) where
  each_snoc : (xs : List A) (x : A) → each names (xs ++ (x ∷ [])) ≡ each names xs ++ names x
  each_snoc [] x = append-nil (names x)
  each_snoc (y ∷ xs) x = ap (names y ++◌) (each_snoc xs x) ∙ sym (append_assoc (names y) (each names xs) (names x))

  -- what is to be read in all, and what of it is left at an offset
  abbrev all : Got (List A)
  all = read today old.bytes.now (several one names before count) old.at

  abbrev left : ℕ → ℕ → ℕ → Got (List A)
  left used n at = read today old.bytes.now (several one names used n) at

  -- i of them are read, up to the reader's place
  pub record SoFar (now : Reader) (used i : ℕ) (xs : List A) : Type 0 where
    pub few : i ≤ count
    pub same : now.bytes.now ≡ old.bytes.now
    pub many : length xs ≡ i
    pub set' : used ≡ insert_all before (each names xs)
    pub rest : all ≡ after xs (left used (count - i) now.at)

  pub begin : SoFar old before 0 []
  begin = record { few = zero-le; same = refl; many = refl; set' = refl; rest = rw sub-zero (sym (after-nil _)) }

  module _ {now : Reader} {used i : ℕ} {xs : List A} (f : SoFar now used i xs) where
    pub finish : {V : Type 0} {Shows : V → List A → Type 0} {v : V} → count ≤ i → Shows v xs → Told Shows old now (Ok v) (a_part (several one names before count))
    unfolding several
    finish h shows =
        let z : count - i ≡ 0 = omega (arith, h) in
        record { same = f.same; says = record { value = xs; reads = f.rest ∙ rw z (ap (λ (ys : List A). got ys now.at) (append-nil xs)); shows = shows } }

    turn : i < count → {g : Got A} → read today now.bytes.now (one used) now.at ≡ g
        → all ≡ after xs (next g (λ x j. next (left (insert_all used (names x)) (count - (i + 1)) j) (λ ys l. got (x ∷ ys) l)))
    turn h {g} e =
        let m : ℕ = count - (i + 1) in
        let more : count - i ≡ suc m = omega (arith, h) in
        let e' : read today old.bytes.now (one used) now.at ≡ g = rw f.same at e in
        let rest : left used (count - i) now.at ≡ next g (λ x j. next (left (insert_all used (names x)) m j) (λ ys l. got (x ∷ ys) l))
        = rw more (read-several today old.bytes.now one names used m now.at ∙ rw e') in
        f.rest ∙ ap (after xs) rest

    module _ (h : i < count) {U : Type 0} {First : U → A → Type 0} {new : Reader} where
      -- the next of them is refused, and so are all
      pub refused : {V : Type 0} {Shows : V → List A → Type 0} {r : Result V Refused} {e : Refused} → Told First now new (Err e) (a_part (one used)) → IsErrAnd r (λ y. y ≡ e)
          → Told Shows old new r (a_part (several one names before count))
      refused {r} told err =
          let p = err_from_is_err_and r err in
          record { same = told.same ∙ f.same; says = rw (p.1, p.2) (record { stops = turn h told.says.stops; stands = told.says.stands }) }

      -- or it is read
      pub more : {u : U} {used' : ℕ} (told : Told First now new (Ok u) (a_part (one used))) → used' ≡ insert_all used (names told.says.value)
          → SoFar new used' (i + 1) (xs ++ (told.says.value ∷ []))
      more {used'} told u =
          let x : A = told.says.value in
          record {
            few = omega (arith, h);
            same = told.same ∙ f.same;
            many = length-append xs (x ∷ []) ∙ ap (◌+ 1) f.many;
            set' = u ∙ ap (λ (w : ℕ). insert_all w (names x)) f.set' ∙ sym (insert_all-append before (each names xs) (names x)) ∙ ap (insert_all before) (sym (each_snoc xs x));
            rest = rw u (turn h told.says.reads ∙ after-snoc xs x (left (insert_all used (names x)) (count - (i + 1)) new.at));
          }
