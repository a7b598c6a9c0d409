-- The seven command kinds, their names and their code numbers: ACT 1, RD 2, WR 3, PREPB 4, PREAB 5, REFAB 6, REFPB 7.
use Rattle.std.specs.Prelude.{ℕ, Bool, true, false, cond, eqb, List, codes, Option, Some, None}
use Rattle.timing.specs.declared.kinds.CommandKind.{CommandKind}
use Rattle.timing.specs.declared.kinds.CommandKind.TheVariants.{Act, Rd, Wr, Prepb, Preab, Refab, Refpb}

abbrev pub code_of : CommandKind → ℕ
code_of Act = 1
code_of Rd = 2
code_of Wr = 3
code_of Prepb = 4
code_of Preab = 5
code_of Refab = 6
code_of Refpb = 7

abbrev pub name_of : CommandKind → List ℕ
name_of Act = codes "ACT"
name_of Rd = codes "RD"
name_of Wr = codes "WR"
name_of Prepb = codes "PREPB"
name_of Preab = codes "PREAB"
name_of Refab = codes "REFAB"
name_of Refpb = codes "REFPB"

abbrev pub kind_of : ℕ → Option CommandKind
kind_of n =
    cond (eqb n 1) (Some Act)
    (cond (eqb n 2) (Some Rd)
    (cond (eqb n 3) (Some Wr)
    (cond (eqb n 4) (Some Prepb)
    (cond (eqb n 5) (Some Preab)
    (cond (eqb n 6) (Some Refab)
    (cond (eqb n 7) (Some Refpb) None))))))

abbrev pub same_kind : CommandKind → CommandKind → Bool
same_kind a b = eqb (code_of a) (code_of b)

-- the two kinds that name no bank
abbrev pub all_banks : CommandKind → Bool
all_banks Act = false
all_banks Rd = false
all_banks Wr = false
all_banks Prepb = false
all_banks Preab = true
all_banks Refab = true
all_banks Refpb = false
