-- The editions of the rules: what each adds, and which is the newest. A later edition includes the earlier ones.
use Rattle.std.specs.Prelude.{Bool, ℕ, suc, leb}
use Rattle.timing.specs.declared.rules.Opening.{Opening}

-- edition 0: document 01
abbrev pub document_one : ℕ
document_one = 0

-- edition 1, request 2026-05: a precharge of one kind holds back a refresh of the other
abbrev pub any_precharge : ℕ
any_precharge = 1

-- edition 2, request 2026-07: a command is refused where its bank can't do it
abbrev pub bank_states : ℕ
bank_states = 2

-- a live opening writes the newest
abbrev pub newest : ℕ
newest = bank_states

-- the last edition that adds a pair rule: later ones have the rules that it has
abbrev pub last_rules : ℕ
last_rules = any_precharge

abbrev pub rule_editions : ℕ
rule_editions = suc last_rules

-- the opening's edition has what an edition added
abbrev pub has : Opening → ℕ → Bool
has o edition = leb edition o.edition

-- an edition whose rules are in the table, and one that the program knows
abbrev pub has_rules : ℕ → Bool
has_rules edition = leb edition last_rules

abbrev pub known_edition : ℕ → Bool
known_edition edition = leb edition newest
