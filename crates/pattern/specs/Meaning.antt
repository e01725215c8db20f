-- What a rule means (document 01, "What a rule means"), in its order and read literally. Nothing here mentions a state, a table or a recogniser.
-- Names and times are numbers. Assumes nothing.
use Rattle.std.specs.Prelude.{◌≡◌, ◌⊎◌, ◌≢◌, Bool, true, false, List, [], ◌∷◌, ◌++◌, map, ℕ, zero, suc, ◌+◌, ◌≤◌, length, replicate}
use Rattle.pattern.specs.Lists.{In, Distinct, Each}

-- "An event is a name at a time."
pub record Event : Type 0 where
  pub name : ℕ
  pub time : ℕ

abbrev pub names : List Event → List ℕ
names [] = []
names (e ∷ es) = e.name ∷ names es

-- ---- range

-- n[u,v]; of document 02, change 2: "v = 0 means that u or more occurrences are allowed"
pub record Range : Type 0 where
  pub name : ℕ
  pub u : ℕ
  pub v : ℕ

-- k occurrences are enough; k occurrences are not too many, as none are where v is 0
abbrev pub Enough : Range → ℕ → Type 0
Enough r k = r.u ≤ k

abbrev pub AtMost : Range → ℕ → Type 0
AtMost r k = (r.v ≡ 0) ⊎ (k ≤ r.v)

-- "n occurs k times in a row, u ≤ k ≤ v", or u ≤ k where v is 0: a block of the range
abbrev pub Block : Range → List ℕ → Type 0
Block r w = (k : ℕ) × Enough r k × AtMost r k × (w ≡ replicate k r.name)

-- ---- fragment

-- 0 all, 1 any; 2 all, shuffled; 3 any, shuffled
pub data Join : Type 0 where
  all any all_shuffled any_shuffled : Join

-- the two questions that a join answers: may a range be left out; need the blocks not stand in a row
abbrev pub may_be_left_out : Join → Bool
may_be_left_out all = false
may_be_left_out any = true
may_be_left_out all_shuffled = false
may_be_left_out any_shuffled = true

abbrev pub shuffled : Join → Bool
shuffled all = false
shuffled any = false
shuffled all_shuffled = true
shuffled any_shuffled = true

pub record Fragment : Type 0 where
  pub join : Join
  pub ranges : List Range

-- w is a shuffle of a and b: their events, interleaved in any way (document 000, Definition 8)
abbrev pub Shuffle : List ℕ → List ℕ → List ℕ → Type 0
Shuffle a b [] = (a ≡ []) × (b ≡ [])
Shuffle a b (m ∷ w) = ((a' : List ℕ) × (a ≡ m ∷ a') × Shuffle a' b w) ⊎ ((b' : List ℕ) × (b ≡ m ∷ b') × Shuffle a b' w)

-- a and b make w: concatenated, or shuffled
abbrev pub Together : Bool → List ℕ → List ℕ → List ℕ → Type 0
Together false a b w = w ≡ a ++ b
Together true a b w = Shuffle a b w

-- one block of each range of the list, concatenated in the list's order, or shuffled
abbrev pub Blocks : Bool → List Range → List ℕ → Type 0
Blocks s [] w = w ≡ []
Blocks s (r ∷ rs) w = (a : List ℕ) × (b : List ℕ) × Together s a b w × Block r a × Blocks s rs b

-- which choices of its ranges a fragment allows: every range, or some non-empty subset
abbrev pub Chosen : Bool → List Range → List Range → Type 0
Chosen false ranges choice = (r : Range) → In r ranges → In r choice
Chosen true ranges choice = choice ≢ []

-- "one block of each range, concatenated in any order", "the same over some non-empty subset of the ranges"; shuffled, "blocks need not be in a row"
pub record MatchesFragment (f : Fragment) (w : List ℕ) : Type 0 where
  pub choice : List Range
  pub once : Distinct choice
  pub within : (r : Range) → In r choice → In r f.ranges
  pub chosen : Chosen (may_be_left_out f.join) f.ranges choice
  pub blocks : Blocks (shuffled f.join) choice w

-- ---- ordering

-- the fragments in the order given
abbrev pub MatchesOrdering : List Fragment → List Event → Type 0
MatchesOrdering [] w = w ≡ []
MatchesOrdering (f ∷ fs) w = (a : List Event) × (b : List Event) × (w ≡ a ++ b) × MatchesFragment f (names a) × MatchesOrdering fs b

-- ---- rule

pub data Kind : Type 0 where
  -- P before the trigger: not repeated (0), repeated (1)
  once repeated : (trigger : ℕ) → Kind
  -- P then Q within t (2)
  timed : (q : List Fragment) (t : ℕ) → Kind

pub record Rule : Type 0 where
  pub kind : Kind
  pub p : List Fragment

-- a rule's names: those of P, and the trigger's or Q's
abbrev pub fragment_names : Fragment → List ℕ
fragment_names f = map (λ (r : Range). r.name) f.ranges

abbrev pub ordering_names : List Fragment → List ℕ
ordering_names [] = []
ordering_names (f ∷ fs) = fragment_names f ++ ordering_names fs

abbrev pub kind_names : Kind → List ℕ
kind_names (once i) = i ∷ []
kind_names (repeated i) = i ∷ []
kind_names (timed q t) = ordering_names q

abbrev pub names_of : Rule → List ℕ
names_of r = ordering_names r.p ++ kind_names r.kind

-- every event is on one of the rule's names
abbrev pub On : Rule → List Event → Type 0
On r = Each (λ (e : Event). In e.name (names_of r))

-- "a P and then one i"
pub record TriggeredRound (p : List Fragment) (i : ℕ) (w : List Event) : Type 0 where
  pub first : List Event
  pub trigger : Event
  pub parts : w ≡ first ++ (trigger ∷ [])
  pub ordered : MatchesOrdering p first
  pub named : trigger.name ≡ i

-- the time of the last event; an ordering's list is never empty, so that 0 stands for nothing
abbrev pub last_time : ℕ → List Event → ℕ
last_time d [] = d
last_time d (e ∷ es) = last_time e.time es

-- "the last event of Q at most t after the last event of P"; equality is allowed
abbrev pub InTime : ℕ → List Event → List Event → Type 0
InTime t p q = last_time 0 q ≤ last_time 0 p + t

-- "a P and then a Q", in time
pub record TimedRound (p q : List Fragment) (t : ℕ) (w : List Event) : Type 0 where
  pub first : List Event
  pub second : List Event
  pub parts : w ≡ first ++ second
  pub ordered : MatchesOrdering p first
  pub answered : MatchesOrdering q second
  pub in_time : InTime t first second

-- n rounds, one after the other
abbrev pub Rounds : (List Event → Type 0) → ℕ → List Event → Type 0
Rounds Round zero w = w ≡ []
Rounds Round (suc n) w = (a : List Event) × (b : List Event) × (w ≡ a ++ b) × Round a × Rounds Round n b

-- "P, then i, then any events on the rule's names"
pub record Released (r : Rule) (i : ℕ) (w : List Event) : Type 0 where
  pub round : List Event
  pub after : List Event
  pub parts : w ≡ round ++ after
  pub triggered : TriggeredRound r.p i round
  pub on : On r after

abbrev pub MatchesKind : Rule → Kind → List Event → Type 0
MatchesKind r (once i) w = (w ≡ []) ⊎ Released r i w
MatchesKind r (repeated i) w = (n : ℕ) × Rounds (TriggeredRound r.p i) n w
MatchesKind r (timed q t) w = (n : ℕ) × Rounds (TimedRound r.p q t) n w

abbrev pub Matches : Rule → List Event → Type 0
Matches r w = MatchesKind r r.kind w

-- ---- continuation; broken, whole, open

-- times never fall, and none is before t
abbrev pub Rising : ℕ → List Event → Type 0
Rising t [] = Unit {0}
Rising t (e ∷ es) = (t ≤ e.time) × Rising e.time es

-- "zero or more further events on its names, times never falling and none before the latest observation"; no bound on length or times
pub record Continuation (r : Rule) (latest : ℕ) (w : List Event) : Type 0 where
  pub on : On r w
  pub rising : Rising latest w

pub data Status : Type 0 where
  broken whole open' : Status

module _ (r : Rule) (trace : List Event) (latest : ℕ) where
  -- "no continuation makes a match"
  abbrev pub Broken : Type 0
  Broken = (w : List Event) → Continuation r latest w → ¬ Matches r (trace ++ w)

  -- the status of a rule whose own events so far are the trace, where the latest observation was at this time
  abbrev pub Judged : Status → Type 0
  Judged broken = Broken
  Judged whole = Matches r trace
  Judged open' = (¬ Broken) × ¬ Matches r trace

-- ---- which rules there are

abbrev pub Between : ℕ → ℕ → ℕ → Type 0
Between a b n = (a ≤ n) × (n ≤ b)

-- "1 ≤ u ≤ v ≤ 65535", or v = 0, which does not bound u; "a name is a number 0 to 63"
pub record WellFormedRange (r : Range) : Type 0 where
  pub named : r.name ≤ 63
  pub some : 1 ≤ r.u
  pub small : r.u ≤ 65535
  pub order : AtMost r r.u
  pub few : r.v ≤ 65535

-- "1 to 8 ranges"
pub record WellFormedFragment (f : Fragment) : Type 0 where
  pub count : Between 1 8 (length f.ranges)
  pub ranges : Each WellFormedRange f.ranges

-- "1 to 8 fragments"
pub record WellFormedOrdering (fs : List Fragment) : Type 0 where
  pub count : Between 1 8 (length fs)
  pub fragments : Each WellFormedFragment fs

-- the trigger is a name; Q is an ordering and t a u32
abbrev pub WellFormedKind : Kind → Type 0
WellFormedKind (once i) = i ≤ 63
WellFormedKind (repeated i) = i ≤ 63
WellFormedKind (timed q t) = WellFormedOrdering q × (t ≤ 4294967295)

-- "No name occurs twice in a rule"
pub record WellFormed (r : Rule) : Type 0 where
  pub p : WellFormedOrdering r.p
  pub kind : WellFormedKind r.kind
  pub distinct : Distinct (names_of r)
