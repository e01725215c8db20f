-- The terms on which a sheet is read: which versions there are and what each allows, what a caller allows, and the order of the faults at a range's name. The format, the reading and what is
-- well-formed are defined over any terms. Today's are one value; terms of before a change are another, so that what the change affects is a statement about two readings
-- (`parts`, `other-versions-stay`, `endless-alone-changes`, `eight-becomes-nine`).
-- Assumes nothing.
use Rattle.std.specs.Prelude.{◌≡◌, Bool, false, cond, not, ℕ, ◌<◌, ◌≤◌, ltb}

-- the number of a fault where it is met, or what the rest says
infixr 20 ◌when◌or◌
abbrev pub ◌when◌or◌ : ℕ → Bool → ℕ → ℕ
k when b or rest = cond b k rest

abbrev pub no_fault : ℕ → ℕ
no_fault x = 0

pub record Terms : Type 0 where
  -- versions 1 to this one are read
  pub newest : ℕ
  -- what a version allows: kinds from this one on, joins up to this one, and v = 0
  pub first_kind : ℕ → ℕ
  pub last_join : ℕ → ℕ
  pub endless : ℕ → Bool
  -- what a caller allows: the fault that so many bytes have before their first field, or 0; and the most rules
  pub bytes : ℕ → ℕ
  pub most_rules : ℕ
  -- the order of the faults at a range's name: above the last name, already in the rule, of the wrong direction
  pub in_order : Bool → Bool → Bool → ℕ

-- document 01: "At one field the order is 1, 6, 8, 9": 1 comes before any look at the value, and here stand the others
abbrev pub eight_first : Bool → Bool → Bool → ℕ
eight_first above again misdirected = 6 when above or 8 when again or 9 when misdirected or 0

-- document 02, change 6: "At a range name the order becomes 1, 6, 9, 8"
abbrev pub nine_first : Bool → Bool → Bool → ℕ
nine_first above again misdirected = 6 when above or 9 when misdirected or 8 when again or 0

-- document 01's: "version (u16, 1)", "kind (0, 1, 2)", "join (0 all, 1 any)", no v = 0, "rule count (1 to 16)". That "A sheet has at most 5,774 bytes" follows (`accepted-length`), and is no fault
abbrev pub base : Terms
base = record {
  newest = 1;
  first_kind = λ version. 0;
  last_join = λ version. 1;
  endless = λ version. false;
  bytes = no_fault;
  most_rules = 16;
  in_order = eight_first;
}

-- document 02, change 1: "Version 2 sheets add join 2 (all, shuffled) and 3 (any, shuffled)", "Version 1 sheets read as before"
abbrev pub first_shuffled : ℕ
first_shuffled = 2

-- document 01's with change 1: "refusal 3 is for versions other than 1 and 2". No version has v = 0: these are the terms of before change 2
abbrev pub with_shuffles : Terms
with_shuffles = record {
  newest = 2;
  first_kind = base.first_kind;
  last_join = λ version. cond (ltb version first_shuffled) 1 3;
  endless = base.endless;
  bytes = base.bytes;
  most_rules = base.most_rules;
  in_order = base.in_order;
}

-- document 02, change 2: "In version 2, v = 0 means that u or more occurrences are allowed, so at field v refusal 7 is not given for v = 0; u = 0 still meets it"
abbrev pub first_endless : ℕ
first_endless = 2

-- with change 2. These are the terms of before change 6
abbrev pub with_endless : Terms
with_endless = record {
  newest = with_shuffles.newest;
  first_kind = with_shuffles.first_kind;
  last_join = with_shuffles.last_join;
  endless = λ version. not (ltb version first_endless);
  bytes = with_shuffles.bytes;
  most_rules = with_shuffles.most_rules;
  in_order = with_shuffles.in_order;
}

-- with change 6
abbrev pub today : Terms
today = record {
  newest = with_endless.newest;
  first_kind = with_endless.first_kind;
  last_join = with_endless.last_join;
  endless = with_endless.endless;
  bytes = with_endless.bytes;
  most_rules = with_endless.most_rules;
  in_order = nine_first;
}

-- terms that let in no more than rules mean and fields hold: no join that the meaning does not have, versions of 16 bits, rules for 16 of which there is room, and at a name the three faults
pub record Covered (T : Terms) : Type 0 where
  pub versions : T.newest < 65536
  pub joins : (version : ℕ) → T.last_join version ≤ 3
  pub rules : T.most_rules ≤ 16
  pub faultless : (above again misdirected : Bool) → T.in_order above again misdirected ≡ 0 → (above ≡ false) × (again ≡ false) × (misdirected ≡ false)
  pub right : T.in_order false false false ≡ 0
