-- The loops over the rules of a mask. `todo` is the mask of those that are left, so a rule has been seen if it is in the mask `who` and not in `todo`. The three masks of the word `all`
-- speak of the rules seen; where they step, the states of those are new. When nothing is left, the rules seen are all of `who`, and a mask is settled by its members.
-- Assumes nothing.
use mathlib.Core.Path.{◌≡◌, refl, sym, subst, ap, ◌∙◌}
use mathlib.Core.Bool.{Bool, true, false, cond, not, ◌&&◌, ◌||◌, and-true, and-false, or-false, or_self, and-not_self}
use mathlib.Core.List.{List}
use Prim.Native.Nat.{ℕ, ◌+◌, ◌*◌, ◌/◌, ◌%◌, ◌^◌, ◌<◌}
use native.Mathlib.Nat.{zero-add}
use native.Mathlib.Omega.{arith}
use lib.Bits.{bit_or, or_zero_r, or_mod, or_shr}
use lib.Dec.{eqb}
use lib.ListN.{length, get_or}
use lib.Pow.{pow-lt, shl_exact}
use borrow.Author.Tests.{eqb-true, eq-eqb, ne_eqb, lt-ltb}
use Rattle.names.specs.Names.{member}
use Rattle.names.proofs.Digits.{member-or, member-power}
use Rattle.names.proofs.Sets.{member-empty}
use Rattle.masks.specs.Masks.{Union, Without, With, Less}
use Rattle.masks.proofs.Members.{mask_is}
use Rattle.rule_state.specs.declared.RuleState.{RuleState}
use Rattle.step.specs.declared.Stepped.{Stepped}
use Rattle.step.specs.declared.Standing.{Standing}
use Rattle.step.specs.Standings.{is_broken, is_open, is_due}
use Rattle.step.specs.Steps.{act_of}
use Rattle.words.specs.Upto.{map_n}
use Rattle.words.specs.Words.{no_state, Held, held_by, Holds, with_rules}
use Rattle.words.proofs.Laws.{sixteen}
use Rattle.words.proofs.Places.{map_n-alike, map_n-same, set-map_n, get_d-map_n}
use Rattle.rules.specs.declared.Masks.{Masks}
use Rattle.rules.specs.Pass.{Marks, Notes, Waits, Tells, Steps, StepsAll, Passes}
use Rattle.rules.specs.Pass.{broken_in, open_in, due_in, marks_of, steps_at, waited_of, rule_of, state_at, broken_at, open_at, due_at, pass_of}

-- ---- one rule's marks

-- a word of three numbers, each shifted or left out
spread : (b o d : Bool) (p : ℕ) → (cond b 1 0 + 65536 * cond o 1 0 + 4294967296 * cond d 1 0) * p ≡ cond b p 0 + 65536 * cond o p 0 + 4294967296 * cond d p 0
spread true true true p = omega arith
spread true true false p = omega arith
spread true false true p = omega arith
spread true false false p = omega arith
spread false true true p = omega arith
spread false true false p = omega arith
spread false false true p = omega arith
spread false false false p = omega arith

below : (b : Bool) (p n : ℕ) → p < n → cond b p 0 < n
below true p n h = h
below false p n h = omega arith

small : (b o d : Bool) → cond b 1 0 + 65536 * cond o 1 0 + 4294967296 * cond d 1 0 < 2 ^ 33
small true true true = omega arith
small true true false = omega arith
small true false true = omega arith
small true false false = omega arith
small false true true = omega arith
small false true false = omega arith
small false false true = omega arith
small false false false = omega arith

-- the two upper ones of three numbers in a word
middle : (below d above w : ℕ) → below < 65536 → d < 65536 → w ≡ below + 65536 * (d + 65536 * above) → w / 65536 % 65536 ≡ d
middle below d above w l h e = omega arith

upper : (below d w : ℕ) → below < 4294967296 → d < 65536 → w ≡ below + 4294967296 * d → w / 4294967296 % 65536 ≡ d
upper below d w l h e = omega arith

-- a mask that got rule r if `on`
with-rule : (on : Bool) (mask r made : ℕ) → r < 16 → made ≡ bit_or mask (cond on (2 ^ r) 0) → With mask r on made
with-rule true mask r made h e = record {
  members = λ k. ap (λ (m : ℕ). member m k) e ∙ member-or mask (2 ^ r) k ∙ ap (λ (t : Bool). member mask k || t) (member-power r k)
      ∙ ap (λ (t : Bool). member mask k || t && eqb k r) (sym (lt-ltb r 16 h));
}
with-rule false mask r made h e = record { members = λ k. ap (λ (m : ℕ). member m k) (e ∙ or_zero_r mask) ∙ sym (or-false (member mask k)) }

module _ (all r : ℕ) (k : Standing) (rule : r < 16) where
  abbrev b : ℕ
  b = cond (is_broken k) (2 ^ r) 0

  abbrev o : ℕ
  o = cond (is_open k) (2 ^ r) 0

  abbrev d : ℕ
  d = cond (is_due k) (2 ^ r) 0

  pub marks-or : {made : ℕ} → made ≡ bit_or all (marks_of k * 2 ^ r % 2 ^ 64) → Marks all r k made
  unfolding marks_of
  marks-or {made} e =
      let p : 2 ^ r < 65536 = pow-lt rule in
      let hb : b < 65536 = below (is_broken k) (2 ^ r) 65536 p in
      let ho : o < 65536 = below (is_open k) (2 ^ r) 65536 p in
      let hd : d < 65536 = below (is_due k) (2 ^ r) 65536 p in
      let x : ℕ = b + 65536 * o + 4294967296 * d in
      let f : made ≡ bit_or all x =
      e ∙ ap (bit_or all) (shl_exact 33 r 64 (small (is_broken k) (is_open k) (is_due k)) (omega arith) ∙ spread (is_broken k) (is_open k) (is_due k) (2 ^ r)) in
      let fb : x % 65536 ≡ b = omega arith in
      let fo : x / 65536 % 65536 ≡ o = middle b o d x hb ho (omega arith) in
      let fd : x / 4294967296 % 65536 ≡ d = upper (b + 65536 * o) d x (omega arith) hd (omega arith) in
      record {
        broke = with-rule (is_broken k) (broken_in all) r (broken_in made) rule (ap broken_in f ∙ or_mod all x 16 ∙ ap (bit_or (broken_in all)) fb);
        opened = with-rule (is_open k) (open_in all) r (open_in made) rule
            (ap open_in f ∙ ap (λ (y : ℕ). y % 65536) (or_shr all x 16) ∙ or_mod (all / 65536) (x / 65536) 16 ∙ ap (bit_or (open_in all)) fo);
        due = with-rule (is_due k) (due_in all) r (due_in made) rule
            (ap due_in f ∙ ap (λ (y : ℕ). y % 65536) (or_shr all x 32) ∙ or_mod (all / 4294967296) (x / 4294967296) 16 ∙ ap (bit_or (due_in all)) fd);
      }

-- ---- the rules of a mask, one by one

-- a rule that leaves `todo`: t if it is this one, m if it was in `todo`, u if it is to be looked at
leaves : (t m u : Bool) → (t ≡ true → u ≡ true) → (u && not (m && not t)) ≡ (t || u && not m)
leaves true m u h = rw (h refl, and-false m)
leaves false m u h = rw (and-true m)

-- a mask of those noted before and of the rules seen that pass a test, and one rule more
gathers : (t x p on n : Bool) → (t ≡ true → on ≡ p) → ((n || x && p) || on && (true && t)) ≡ (n || (t || x) && p)
gathers t x p on true h = refl
gathers true true p on false h = rw (h refl, and-true p, or_self p)
gathers true false p on false h = and-true on ∙ h refl
gathers false x p on false h = rw (and-false on, or-false (x && p))

first : (x y : Bool) → (x && y) ≡ true → x ≡ true
first true y h = refl
first false y h = h

module _ (noted who : ℕ) (stands : ℕ → Standing) where
  -- the rules that have been seen
  abbrev seen : ℕ → ℕ → Bool
  seen todo k = member who k && not (member todo k)

  pub record Noting (todo all : ℕ) : Type 0 where
    pub within : (k : ℕ) → member todo k ≡ true → member who k ≡ true
    pub broke : (k : ℕ) → member (broken_in all) k ≡ (member (broken_in noted) k || seen todo k && is_broken (stands k))
    pub opened : (k : ℕ) → member (open_in all) k ≡ (member (open_in noted) k || seen todo k && is_open (stands k))
    pub due : (k : ℕ) → member (due_in all) k ≡ (member (due_in noted) k || seen todo k && is_due (stands k))

  none_seen : (x : Bool) (t : Bool) (k : ℕ) → x ≡ (x || seen who k && t)
  none_seen x t k = rw (and-not_self (member who k)) (sym (or-false x))

  pub noting-start : Noting who noted
  noting-start = record {
    within = λ k h. h;
    broke = λ k. none_seen (member (broken_in noted) k) (is_broken (stands k)) k;
    opened = λ k. none_seen (member (open_in noted) k) (is_open (stands k)) k;
    due = λ k. none_seen (member (due_in noted) k) (is_due (stands k)) k;
  }

  -- one turn: rule r leaves `todo`
  module _ {todo todo' r : ℕ} (within : (k : ℕ) → member todo k ≡ true → member who k ≡ true) (inside : member todo r ≡ true) (left : Less todo r todo') where
    seen_more : (k : ℕ) → seen todo' k ≡ (eqb k r || seen todo k)
    seen_more k =
        ap (λ (m : Bool). member who k && not m) (left.members k)
        ∙ leaves (eqb k r) (member todo k) (member who k) (λ e. ap (member who) (eqb-true k r e) ∙ within r inside)

    pub seen_other : (k : ℕ) → (k ≡ r → ⊥) → seen todo' k ≡ seen todo k
    seen_other k n = seen_more k ∙ ap (λ (t : Bool). t || seen todo k) (ne_eqb k r n)

    pub seen-this : seen todo' r ≡ true
    seen-this = seen_more r ∙ ap (λ (t : Bool). t || seen todo r) (eq-eqb r r refl)

    gathers-more : (P : Standing → Bool) (n m m' : ℕ) (s : Standing) → r < 16 → s ≡ stands r → With m r (P s) m'
        → ((k : ℕ) → member m k ≡ (member n k || seen todo k && P (stands k))) → (k : ℕ) → member m' k ≡ (member n k || seen todo' k && P (stands k))
    gathers-more P n m m' s rule e w h k =
        w.members k ∙ ap (λ (t : Bool). member m k || P s && (t && eqb k r)) (lt-ltb r 16 rule)
        ∙ ap (λ (t : Bool). t || P s && (true && eqb k r)) (h k)
        ∙ gathers (eqb k r) (seen todo k) (P (stands k)) (P s) (member n k) (λ f. ap P (e ∙ ap stands (sym (eqb-true k r f))))
        ∙ ap (λ (t : Bool). member n k || t && P (stands k)) (sym (seen_more k))

  pub noting-more : {todo todo' all made r : ℕ} {s : Standing} → Noting todo all → member todo r ≡ true → r < 16 → Less todo r todo' → s ≡ stands r → Marks all r s made → Noting todo' made
  noting-more {todo} {todo'} {all} {made} {r} {s} p inside rule left e w = record {
    within = λ k h. p.within k (first (member todo k) (not (eqb k r)) (sym (left.members k) ∙ h));
    broke = gathers-more p.within inside left is_broken (broken_in noted) (broken_in all) (broken_in made) s rule e w.broke p.broke;
    opened = gathers-more p.within inside left is_open (open_in noted) (open_in all) (open_in made) s rule e w.opened p.opened;
    due = gathers-more p.within inside left is_due (due_in noted) (due_in all) (due_in made) s rule e w.due p.due;
  }

  all_seen : {todo : ℕ} → todo ≡ 0 → (k : ℕ) → seen todo k ≡ member who k
  all_seen e k = ap (λ (t : Bool). member who k && not t) (ap (λ (m : ℕ). member m k) e ∙ member-empty k) ∙ and-true (member who k)

  -- nothing is left
  pub noting-end : {todo all : ℕ} → Noting todo all → todo ≡ 0 → Notes noted who stands all
  noting-end p e = record {
    broke = λ k. p.broke k ∙ ap (λ (t : Bool). member (broken_in noted) k || t && is_broken (stands k)) (all_seen e k);
    opened = λ k. p.opened k ∙ ap (λ (t : Bool). member (open_in noted) k || t && is_open (stands k)) (all_seen e k);
    due = λ k. p.due k ∙ ap (λ (t : Bool). member (due_in noted) k || t && is_due (stands k)) (all_seen e k);
  }

-- ---- where they step

module _ (table : List ℕ) (noted who name time : ℕ) (m : Held) where
  abbrev stands : ℕ → Standing
  stands k = (act_of table k (get_or m.rules k no_state) name time).standing

  abbrev seen_state : ℕ → ℕ → RuleState → RuleState
  seen_state todo k st = cond (seen noted who stands todo k) (act_of table k st name time).state st

  abbrev stepped : ℕ → Held
  stepped todo = with_rules m (map_n (seen_state todo) 0 16 m.rules)

  pub record Stepping (bytes : List ℕ) (todo all : ℕ) : Type 0 where
    pub many : length m.rules ≡ 16
    pub holds : Holds bytes (stepped todo)
    pub notes : Noting noted who stands todo all

  pub stepping-start : {bytes : List ℕ} → Holds bytes m → Stepping bytes who noted
  stepping-start {bytes} h = record {
    many = subst (λ (x : Held). length x.rules ≡ 16) h.held (sixteen bytes);
    holds = rw (map_n-same (seen_state who) 0 16 m.rules (λ k st. ap (λ (t : Bool). cond t (act_of table k st name time).state st) (and-not_self (member who k)))) h;
    notes = noting-start noted who stands;
  }

  -- one turn: rule r leaves `todo`. A rule that is left stands as it did
  module _ {bytes : List ℕ} {todo todo' all r : ℕ} (p : Stepping bytes todo all) (inside : member todo r ≡ true) (rule : r < 16) (left : Less todo r todo') where
    was : get_or (stepped todo).rules r no_state ≡ get_or m.rules r no_state
    was =
        let unseen : seen noted who stands todo (0 + r) ≡ false = rw (ap (member todo) (zero-add r) ∙ inside) (and-false (member who (0 + r))) in
        get_d-map_n (seen_state todo) no_state 0 16 m.rules r rule (omega (arith, p.many)) ∙ rw unseen

    this : (act_of table r (get_or m.rules r no_state) name time).state ≡ seen_state todo' r (get_or m.rules r no_state)
    this = rw (seen-this noted who stands p.notes.within inside left)

    pub stepping-more : {after : List ℕ} {made : ℕ} {s : Standing} → ((k : Held) → Holds bytes k → Steps (act_of table r (get_or k.rules r no_state) name time) r k s after) → Marks all r s made
        → Stepping after todo' made
    stepping-more st w = let t = rw was at (st _ p.holds) in record {
      many = p.many;
      holds = rw (
        this,
        set-map_n (seen_state todo) (seen_state todo') 16 r m.rules no_state rule (omega (arith, p.many))
            (λ j x n. ap (λ (t : Bool). cond t (act_of table j x name time).state x) (sym (seen_other noted who stands p.notes.within inside left j n))),
      ) at t.holds;
      notes = noting-more noted who stands p.notes inside rule left t.stands w;
    }

  pub stepping-end : {bytes : List ℕ} {todo all : ℕ} → Stepping bytes todo all → todo ≡ 0 → StepsAll table noted who name time m all bytes
  stepping-end {todo = todo} p e = record {
    notes = noting-end noted who stands p.notes e;
    holds = rw (map_n-alike (seen_state todo) (steps_at table who name time) 0 16 m.rules (λ k st h. ap (λ (t : Bool). cond t (act_of table k st name time).state st) (all_seen noted who stands e k)))
        at p.holds;
  }

-- ---- one observation

-- the rules held to a deadline and those that step, as those that are looked at; c if a rule has the name, d if its deadline runs
either : (c d : Bool) (x y : Stepped) (P : Standing → Bool) → ((false || (d && not c) && P y.standing) || c && P x.standing) ≡ ((c || d) && P (cond c x y).standing)
either true true x y P = refl
either true false x y P = refl
either false true x y P = or-false (P y.standing)
either false false x y P = refl

opens-either : (c d o : Bool) (x y : Stepped) (P : Standing → Bool)
    → (o && not (c || d) || ((false || (d && not c) && P y.standing) || c && P x.standing)) ≡ cond (c || d) (P (cond c x y).standing) o
opens-either true d o x y P = rw (and-false o, and-false d)
opens-either false true o x y P = rw (and-false o, or-false (P y.standing))
opens-either false false o x y P = rw (and-true o, or-false o)

state-either : (c d : Bool) (x : Stepped) (st : RuleState) (standing : Standing) → cond c x.state st ≡ cond (c || d) (cond c x (record { state = st; standing = standing })).state st
state-either true d x st k = refl
state-either false true x st k = refl
state-either false false x st k = refl

pub looks : {table : List ℕ} {concerned opens dues name time : ℕ} {before after : List ℕ} {m : Held} {who touched left held all : ℕ} {p : Masks} → Holds before m
    → Without dues concerned who → Waits table who time (held_by before).rules held → StepsAll table held concerned name time m all after
    → Union concerned dues touched → Without opens touched left → Tells all left p → Passes (pass_of table concerned opens dues m.rules name time) m p after
unfolding pass_of rule_of
looks {table} {concerned} {opens} {dues} {name} {time} {m = m} {who} {held = held} {all} {p} holds w waited s u l t =
    let acted : ℕ → Stepped = λ k. act_of table k (get_or m.rules k no_state) name time in
    let waits : ℕ → Stepped = λ k. waited_of table k (get_or m.rules k no_state) time in
    let h = subst (λ (x : Held). Waits table who time x.rules held) holds.held waited in
    let members : (f : ℕ → ℕ) (P : Standing → Bool) → ((k : ℕ) → member (f held) k ≡ (member (f 0) k || member who k && P (waits k).standing))
    → ((k : ℕ) → member (f all) k ≡ (member (f held) k || member concerned k && P (acted k).standing)) → f 0 ≡ 0
    → (k : ℕ) → member (f all) k ≡ ((false || (member dues k && not (member concerned k)) && P (waits k).standing) || member concerned k && P (acted k).standing) =
    λ f P x y z k. y k ∙ ap (λ (t : Bool). t || member concerned k && P (acted k).standing)
    (x k ∙ ap (λ (t : Bool). t || member who k && P (waits k).standing) (ap (λ (m : ℕ). member m k) z ∙ member-empty k)
    ∙ ap (λ (t : Bool). false || t && P (waits k).standing) (w.members k)) in
    let broke = t.broke ∙ mask_is 16 (broken_in all) (broken_at table concerned opens dues m.rules name time) (omega arith)
    (λ k n. members broken_in is_broken h.broke s.notes.broke refl k ∙ either (member concerned k) (member dues k) (acted k) (waits k) is_broken) in
    let opened = mask_is 16 p.opens (open_at table concerned opens dues m.rules name time) t.opened<
    (λ k n. t.opened.members k ∙ ap (λ (x : Bool). x || member (open_in all) k) (l.members k ∙ ap (λ (x : Bool). member opens k && not x) (u.members k))
    ∙ ap (λ (x : Bool). member opens k && not (member concerned k || member dues k) || x) (members open_in is_open h.opened s.notes.opened refl k)
    ∙ opens-either (member concerned k) (member dues k) (member opens k) (acted k) (waits k) is_open) in
    let due = t.due ∙ mask_is 16 (due_in all) (due_at table concerned opens dues m.rules name time) (omega arith)
    (λ k n. members due_in is_due h.due s.notes.due refl k ∙ either (member concerned k) (member dues k) (acted k) (waits k) is_due) in
    record {
      masks = λ i. record { broken = broke i; opens = opened i; dues = due i };
      holds = rw (map_n-alike (steps_at table concerned name time) (state_at table concerned opens dues m.rules name time) 0 16 m.rules
          (λ k st n. state-either (member concerned k) (member dues k) (act_of table k st name time) st _)) at s.holds;
    }

-- no rule has the name: none steps
pub none-step : (table : List ℕ) (held name time : ℕ) {bytes : List ℕ} {m : Held} → Holds bytes m → StepsAll table held 0 name time m held bytes
none-step table held name time {m = m} h = stepping-end table held 0 name time m (stepping-start table held 0 name time m h) refl

pub all-without-none : (a : ℕ) → Without a 0 a
all-without-none a = record { members = λ k. sym (ap (λ (t : Bool). member a k && not t) (member-empty k) ∙ and-true (member a k)) }

pub none-and-all : (a : ℕ) → Union 0 a a
none-and-all a = record { members = λ k. ap (λ (t : Bool). t || member a k) (sym (member-empty k)) }
