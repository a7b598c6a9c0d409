-- The constant table of 882 gap numbers, over edition, mode, class, first and second kind (0: none), and the test of its agreement with the list of
-- rules. Editions and modes that don't differ share a layer.
use Rattle.std.specs.Prelude.{Bool, true, false, cond, ◌&&◌, List, [], ◌∷◌, ℕ, zero, suc, ◌+◌, ◌-◌, ◌*◌, ◌/◌, ◌%◌, eqb, ltb, get_or}
use Rattle.timing.specs.declared.kinds.CommandKind.{CommandKind}
use Rattle.timing.specs.declared.rules.Opening.{Opening}
use Rattle.timing.specs.Kinds.{code_of}
use Rattle.timing.specs.Editions.{any_precharge, rule_editions, has}
use Rattle.timing.specs.Rules.{rules, matching, kind_at}

-- a row for each first kind, ACT RD WR PREPB PREAB REFAB REFPB, and in it a number for each second kind. Edition 0, mode 0
unfoldable pub ungrouped : List ℕ
ungrouped =
    -- class 0
    1 ∷ 3 ∷ 3 ∷ 4 ∷ 4 ∷ 0 ∷ 0 ∷
    0 ∷ 5 ∷ 8 ∷ 9 ∷ 9 ∷ 0 ∷ 0 ∷
    0 ∷ 10 ∷ 5 ∷ 13 ∷ 13 ∷ 0 ∷ 0 ∷
    14 ∷ 0 ∷ 0 ∷ 16 ∷ 0 ∷ 0 ∷ 14 ∷
    15 ∷ 0 ∷ 0 ∷ 0 ∷ 0 ∷ 15 ∷ 0 ∷
    17 ∷ 0 ∷ 0 ∷ 0 ∷ 0 ∷ 17 ∷ 0 ∷
    18 ∷ 0 ∷ 0 ∷ 0 ∷ 0 ∷ 0 ∷ 18 ∷
    -- class 1
    2 ∷ 0 ∷ 0 ∷ 0 ∷ 4 ∷ 0 ∷ 0 ∷
    0 ∷ 5 ∷ 8 ∷ 0 ∷ 9 ∷ 0 ∷ 0 ∷
    0 ∷ 10 ∷ 5 ∷ 0 ∷ 13 ∷ 0 ∷ 0 ∷
    0 ∷ 0 ∷ 0 ∷ 16 ∷ 0 ∷ 0 ∷ 0 ∷
    15 ∷ 0 ∷ 0 ∷ 0 ∷ 0 ∷ 15 ∷ 0 ∷
    17 ∷ 0 ∷ 0 ∷ 0 ∷ 0 ∷ 17 ∷ 0 ∷
    0 ∷ 0 ∷ 0 ∷ 0 ∷ 0 ∷ 0 ∷ 19 ∷
    -- class 2
    2 ∷ 0 ∷ 0 ∷ 0 ∷ 4 ∷ 0 ∷ 0 ∷
    0 ∷ 5 ∷ 8 ∷ 0 ∷ 9 ∷ 0 ∷ 0 ∷
    0 ∷ 10 ∷ 5 ∷ 0 ∷ 13 ∷ 0 ∷ 0 ∷
    0 ∷ 0 ∷ 0 ∷ 16 ∷ 0 ∷ 0 ∷ 0 ∷
    15 ∷ 0 ∷ 0 ∷ 0 ∷ 0 ∷ 15 ∷ 0 ∷
    17 ∷ 0 ∷ 0 ∷ 0 ∷ 0 ∷ 17 ∷ 0 ∷
    0 ∷ 0 ∷ 0 ∷ 0 ∷ 0 ∷ 0 ∷ 19 ∷
    []

-- modes 1 and 2: the rules are the same, the groups are not
unfoldable pub grouped : List ℕ
grouped =
    -- class 0
    1 ∷ 3 ∷ 3 ∷ 4 ∷ 4 ∷ 0 ∷ 0 ∷
    0 ∷ 6 ∷ 8 ∷ 9 ∷ 9 ∷ 0 ∷ 0 ∷
    0 ∷ 11 ∷ 6 ∷ 13 ∷ 13 ∷ 0 ∷ 0 ∷
    14 ∷ 0 ∷ 0 ∷ 16 ∷ 0 ∷ 0 ∷ 14 ∷
    15 ∷ 0 ∷ 0 ∷ 0 ∷ 0 ∷ 15 ∷ 0 ∷
    17 ∷ 0 ∷ 0 ∷ 0 ∷ 0 ∷ 17 ∷ 0 ∷
    18 ∷ 0 ∷ 0 ∷ 0 ∷ 0 ∷ 0 ∷ 18 ∷
    -- class 1
    2 ∷ 0 ∷ 0 ∷ 0 ∷ 4 ∷ 0 ∷ 0 ∷
    0 ∷ 6 ∷ 8 ∷ 0 ∷ 9 ∷ 0 ∷ 0 ∷
    0 ∷ 11 ∷ 6 ∷ 0 ∷ 13 ∷ 0 ∷ 0 ∷
    0 ∷ 0 ∷ 0 ∷ 16 ∷ 0 ∷ 0 ∷ 0 ∷
    15 ∷ 0 ∷ 0 ∷ 0 ∷ 0 ∷ 15 ∷ 0 ∷
    17 ∷ 0 ∷ 0 ∷ 0 ∷ 0 ∷ 17 ∷ 0 ∷
    0 ∷ 0 ∷ 0 ∷ 0 ∷ 0 ∷ 0 ∷ 19 ∷
    -- class 2
    2 ∷ 0 ∷ 0 ∷ 0 ∷ 4 ∷ 0 ∷ 0 ∷
    0 ∷ 7 ∷ 8 ∷ 0 ∷ 9 ∷ 0 ∷ 0 ∷
    0 ∷ 12 ∷ 7 ∷ 0 ∷ 13 ∷ 0 ∷ 0 ∷
    0 ∷ 0 ∷ 0 ∷ 16 ∷ 0 ∷ 0 ∷ 0 ∷
    15 ∷ 0 ∷ 0 ∷ 0 ∷ 0 ∷ 15 ∷ 0 ∷
    17 ∷ 0 ∷ 0 ∷ 0 ∷ 0 ∷ 17 ∷ 0 ∷
    0 ∷ 0 ∷ 0 ∷ 0 ∷ 0 ∷ 0 ∷ 19 ∷
    []

-- from edition 1 on: PREPB to REFAB and PREAB to REFPB too. Mode 0
unfoldable pub ungrouped_since1 : List ℕ
ungrouped_since1 =
    -- class 0
    1 ∷ 3 ∷ 3 ∷ 4 ∷ 4 ∷ 0 ∷ 0 ∷
    0 ∷ 5 ∷ 8 ∷ 9 ∷ 9 ∷ 0 ∷ 0 ∷
    0 ∷ 10 ∷ 5 ∷ 13 ∷ 13 ∷ 0 ∷ 0 ∷
    14 ∷ 0 ∷ 0 ∷ 16 ∷ 0 ∷ 15 ∷ 14 ∷
    15 ∷ 0 ∷ 0 ∷ 0 ∷ 0 ∷ 15 ∷ 15 ∷
    17 ∷ 0 ∷ 0 ∷ 0 ∷ 0 ∷ 17 ∷ 0 ∷
    18 ∷ 0 ∷ 0 ∷ 0 ∷ 0 ∷ 0 ∷ 18 ∷
    -- class 1
    2 ∷ 0 ∷ 0 ∷ 0 ∷ 4 ∷ 0 ∷ 0 ∷
    0 ∷ 5 ∷ 8 ∷ 0 ∷ 9 ∷ 0 ∷ 0 ∷
    0 ∷ 10 ∷ 5 ∷ 0 ∷ 13 ∷ 0 ∷ 0 ∷
    0 ∷ 0 ∷ 0 ∷ 16 ∷ 0 ∷ 15 ∷ 0 ∷
    15 ∷ 0 ∷ 0 ∷ 0 ∷ 0 ∷ 15 ∷ 15 ∷
    17 ∷ 0 ∷ 0 ∷ 0 ∷ 0 ∷ 17 ∷ 0 ∷
    0 ∷ 0 ∷ 0 ∷ 0 ∷ 0 ∷ 0 ∷ 19 ∷
    -- class 2
    2 ∷ 0 ∷ 0 ∷ 0 ∷ 4 ∷ 0 ∷ 0 ∷
    0 ∷ 5 ∷ 8 ∷ 0 ∷ 9 ∷ 0 ∷ 0 ∷
    0 ∷ 10 ∷ 5 ∷ 0 ∷ 13 ∷ 0 ∷ 0 ∷
    0 ∷ 0 ∷ 0 ∷ 16 ∷ 0 ∷ 15 ∷ 0 ∷
    15 ∷ 0 ∷ 0 ∷ 0 ∷ 0 ∷ 15 ∷ 15 ∷
    17 ∷ 0 ∷ 0 ∷ 0 ∷ 0 ∷ 17 ∷ 0 ∷
    0 ∷ 0 ∷ 0 ∷ 0 ∷ 0 ∷ 0 ∷ 19 ∷
    []

-- modes 1 and 2
unfoldable pub grouped_since1 : List ℕ
grouped_since1 =
    -- class 0
    1 ∷ 3 ∷ 3 ∷ 4 ∷ 4 ∷ 0 ∷ 0 ∷
    0 ∷ 6 ∷ 8 ∷ 9 ∷ 9 ∷ 0 ∷ 0 ∷
    0 ∷ 11 ∷ 6 ∷ 13 ∷ 13 ∷ 0 ∷ 0 ∷
    14 ∷ 0 ∷ 0 ∷ 16 ∷ 0 ∷ 15 ∷ 14 ∷
    15 ∷ 0 ∷ 0 ∷ 0 ∷ 0 ∷ 15 ∷ 15 ∷
    17 ∷ 0 ∷ 0 ∷ 0 ∷ 0 ∷ 17 ∷ 0 ∷
    18 ∷ 0 ∷ 0 ∷ 0 ∷ 0 ∷ 0 ∷ 18 ∷
    -- class 1
    2 ∷ 0 ∷ 0 ∷ 0 ∷ 4 ∷ 0 ∷ 0 ∷
    0 ∷ 6 ∷ 8 ∷ 0 ∷ 9 ∷ 0 ∷ 0 ∷
    0 ∷ 11 ∷ 6 ∷ 0 ∷ 13 ∷ 0 ∷ 0 ∷
    0 ∷ 0 ∷ 0 ∷ 16 ∷ 0 ∷ 15 ∷ 0 ∷
    15 ∷ 0 ∷ 0 ∷ 0 ∷ 0 ∷ 15 ∷ 15 ∷
    17 ∷ 0 ∷ 0 ∷ 0 ∷ 0 ∷ 17 ∷ 0 ∷
    0 ∷ 0 ∷ 0 ∷ 0 ∷ 0 ∷ 0 ∷ 19 ∷
    -- class 2
    2 ∷ 0 ∷ 0 ∷ 0 ∷ 4 ∷ 0 ∷ 0 ∷
    0 ∷ 7 ∷ 8 ∷ 0 ∷ 9 ∷ 0 ∷ 0 ∷
    0 ∷ 12 ∷ 7 ∷ 0 ∷ 13 ∷ 0 ∷ 0 ∷
    0 ∷ 0 ∷ 0 ∷ 16 ∷ 0 ∷ 15 ∷ 0 ∷
    15 ∷ 0 ∷ 0 ∷ 0 ∷ 0 ∷ 15 ∷ 15 ∷
    17 ∷ 0 ∷ 0 ∷ 0 ∷ 0 ∷ 17 ∷ 0 ∷
    0 ∷ 0 ∷ 0 ∷ 0 ∷ 0 ∷ 0 ∷ 19 ∷
    []

-- the table's layer for an opening's edition and mode
abbrev pub layer_of : Opening → List ℕ
layer_of o = cond (has o any_precharge) (cond (eqb o.mode 0) ungrouped_since1 grouped_since1) (cond (eqb o.mode 0) ungrouped grouped)

abbrev pub layer_place : ℕ → CommandKind → CommandKind → ℕ
layer_place class a b = (class * 7 + (code_of a - 1)) * 7 + (code_of b - 1)

-- the table: for each edition that adds rules three modes of 147 entries
abbrev pub table_length : ℕ
table_length = rule_editions * 441

abbrev pub opened_as : ℕ → ℕ → Opening
opened_as edition mode = record { ratio = 1; ranks = 1; mode = mode; edition = edition; client = 0 }

abbrev pub layer_at : ℕ → Opening
layer_at i = opened_as (i / 441) (i / 147 % 3)

abbrev pub matching_at : ℕ → List ℕ
matching_at i = matching (layer_at i) (i / 49 % 3) (kind_at (i / 7 % 7)) (kind_at (i % 7)) rules

-- 0 stands where no rule holds, and a number where that rule holds and no other
abbrev pub alone : ℕ → List ℕ → Bool
alone n [] = eqb n 0
alone n (m ∷ []) = eqb n m && ltb 0 m
alone n (m ∷ k ∷ ms) = false

abbrev pub entry_at : ℕ → ℕ
entry_at i = get_or (layer_of (layer_at i)) (i % 147) 0

-- the test of agreement with the list, at the first n entries, and at all
unfoldable pub agrees_below : ℕ → Bool
agrees_below zero = true
agrees_below (suc i) = alone (entry_at i) (matching_at i) && agrees_below i

unfoldable pub agrees : Bool
agrees = agrees_below table_length
