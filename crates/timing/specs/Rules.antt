-- Groups, classes, modes, and the rules 1 to 19 as a list.
use Rattle.std.specs.Prelude.{Bool, true, false, cond, ◌&&◌, ◌||◌, List, [], ◌∷◌, ℕ, ◌/◌, eqb, ltb}
use Rattle.timing.specs.declared.kinds.CommandKind.{CommandKind}
use Rattle.timing.specs.declared.kinds.CommandKind.TheVariants.{Act, Rd, Wr, Prepb, Preab, Refab, Refpb}
use Rattle.timing.specs.declared.rules.Opening.{Opening}
use Rattle.timing.specs.declared.rules.Command.{Command}
use Rattle.timing.specs.declared.rules.Class.{Class}
use Rattle.timing.specs.declared.rules.Class.TheVariants.{SameBank, SameGroup, Apart}
use Rattle.timing.specs.Kinds.{same_kind, all_banks}
use Rattle.timing.specs.Editions.{document_one, any_precharge, has}

-- four groups of four banks in mode 2, else eight of two
abbrev pub group_of : Opening → ℕ → ℕ
group_of o bank = cond (eqb o.mode 2) (bank / 4) (bank / 2)

-- class 0: both name the same bank; 1: different banks, same group; 2: everything else, and always when either is PREAB or REFAB
abbrev pub nearness : Opening → ℕ → ℕ → ℕ
nearness o a b = cond (eqb a b) 0 (cond (eqb (group_of o a) (group_of o b)) 1 2)

-- the program's classes by these numbers
abbrev pub class_number : Class → ℕ
class_number SameBank = 0
class_number SameGroup = 1
class_number Apart = 2

abbrev pub class_for : CommandKind → CommandKind → ℕ → ℕ
class_for a b near = cond (all_banks a || all_banks b) 2 near

abbrev pub class_of : Opening → Command → Command → ℕ
class_of o x y = class_for x.kind y.kind (nearness o x.bank y.bank)

-- what a rule names of the modes, or of the classes
pub data Named : Type 0 where
  every : Named
  one : ℕ → Named
  two : ℕ → ℕ → Named

abbrev pub names : Named → ℕ → Bool
names every x = true
names (one a) x = eqb x a
names (two a b) x = eqb x a || eqb x b

pub record Pair : Type 0 where
  pub first : CommandKind
  pub second : CommandKind
  pub classes : Named

infix 70 ◌to◌within◌
abbrev pub ◌to◌within◌ : CommandKind → CommandKind → Named → Pair
a to b within c = record { first = a; second = b; classes = c }

pub record Rule : Type 0 where
  pub number : ℕ
  pub since : ℕ
  pub modes : Named
  pub pairs : List Pair

-- a line of document 01, which holds in every edition; and one that holds from an edition on
abbrev pub rule : ℕ → Named → List Pair → Rule
rule n modes pairs = record { number = n; since = document_one; modes = modes; pairs = pairs }

abbrev pub from : ℕ → Rule → Rule
from edition r = record { number = r.number; since = edition; modes = r.modes; pairs = r.pairs }

-- the rules 1 to 19, a line for each row of the table, and one for what an edition adds to a row. One that names no class holds for every class, and
-- one that names no mode for every mode
unfoldable pub rules : List Rule
rules =
    rule 1 every (Act to Act within one 0 ∷ []) ∷
    rule 2 every (Act to Act within two 1 2 ∷ []) ∷
    rule 3 every (Act to Rd within one 0 ∷ Act to Wr within one 0 ∷ []) ∷
    rule 4 every (Act to Prepb within one 0 ∷ Act to Preab within every ∷ []) ∷
    rule 5 (one 0) (Rd to Rd within every ∷ Wr to Wr within every ∷ []) ∷
    rule 6 (two 1 2) (Rd to Rd within two 0 1 ∷ Wr to Wr within two 0 1 ∷ []) ∷
    rule 7 (two 1 2) (Rd to Rd within one 2 ∷ Wr to Wr within one 2 ∷ []) ∷
    rule 8 every (Rd to Wr within every ∷ []) ∷
    rule 9 every (Rd to Prepb within one 0 ∷ Rd to Preab within every ∷ []) ∷
    rule 10 (one 0) (Wr to Rd within every ∷ []) ∷
    rule 11 (two 1 2) (Wr to Rd within two 0 1 ∷ []) ∷
    rule 12 (two 1 2) (Wr to Rd within one 2 ∷ []) ∷
    rule 13 every (Wr to Prepb within one 0 ∷ Wr to Preab within every ∷ []) ∷
    rule 14 every (Prepb to Act within one 0 ∷ Prepb to Refpb within one 0 ∷ []) ∷
    rule 15 every (Preab to Act within every ∷ Preab to Refab within every ∷ []) ∷
    from any_precharge (rule 15 every (Prepb to Refab within every ∷ Preab to Refpb within every ∷ [])) ∷
    rule 16 every (Prepb to Prepb within every ∷ []) ∷
    rule 17 every (Refab to Act within every ∷ Refab to Refab within every ∷ []) ∷
    rule 18 every (Refpb to Act within one 0 ∷ Refpb to Refpb within one 0 ∷ []) ∷
    rule 19 every (Refpb to Refpb within two 1 2 ∷ []) ∷
    []

-- some pair of the rule is these two kinds, and names the class
unfoldable pub covers : ℕ → CommandKind → CommandKind → List Pair → Bool
covers class a b [] = false
covers class a b (p ∷ ps) = same_kind a p.first && same_kind b p.second && names p.classes class || covers class a b ps

-- the rule holds in the opening's edition and mode, for a class and two kinds
abbrev pub matches : Opening → ℕ → CommandKind → CommandKind → Rule → Bool
matches o class a b r = has o r.since && names r.modes o.mode && covers class a b r.pairs

-- a rule binds two commands of one rank
abbrev pub binds : Opening → Rule → Command → Command → Bool
binds o r x y = eqb x.rank y.rank && matches o (class_of o x y) x.kind y.kind r

-- the numbers of the rules of a list that hold
unfoldable pub matching : Opening → ℕ → CommandKind → CommandKind → List Rule → List ℕ
matching o class a b [] = []
matching o class a b (r ∷ rs) = cond (matches o class a b r) (r.number ∷ matching o class a b rs) (matching o class a b rs)

abbrev pub first_or0 : List ℕ → ℕ
first_or0 [] = 0
first_or0 (n ∷ ns) = n

abbrev pub mode_count : ℕ
mode_count = 3

-- the number of the rule that holds, 0 where none does
unfoldable pub rule_gap : Opening → ℕ → CommandKind → CommandKind → ℕ
rule_gap o class a b = first_or0 (matching o class a b rules)

-- the table's entry: the number of the rule that holds; 0 where none does, and in a mode that no opening has
unfoldable pub table_gap : Opening → ℕ → CommandKind → CommandKind → ℕ
table_gap o class a b = cond (ltb o.mode mode_count) (rule_gap o class a b) 0

-- the kinds by their places in a row or a column of the table
abbrev pub kind_at : ℕ → CommandKind
kind_at i =
    cond (eqb i 1) Rd (cond (eqb i 2) Wr (cond (eqb i 3) Prepb (cond (eqb i 4) Preab (cond (eqb i 5) Refab (cond (eqb i 6) Refpb Act)))))
