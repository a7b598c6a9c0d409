-- The cases checked by hand, K1 to K13, those of mode 2 and those of the editions: settings, the records that stand, a question, and the answer that
-- it must get.
use Rattle.std.specs.Prelude.{Bool, true, ◌&&◌, List, [], ◌∷◌, ◌++◌, map, reverse, ℕ, ◌+◌, ◌-◌, ◌%◌, eqb, set}
use Rattle.timing.specs.declared.clocks.DramCycles.{DramCycles}
use Rattle.timing.specs.declared.kinds.CommandKind.{CommandKind}
use Rattle.timing.specs.declared.kinds.CommandKind.TheVariants.{Act, Rd, Wr, Prepb, Preab, Refab, Refpb}
use Rattle.timing.specs.Kinds.{code_of}
use Rattle.timing.specs.Editions.{document_one, any_precharge, bank_states}
use Rattle.timing.specs.Earliest.{Settings}
use Rattle.history.specs.Records.{Record, opening, command, take_back_record, History}
use Rattle.history.specs.Answers.{Reply, reply_of, max_records, offer_on, earliest_on, fine}

abbrev pub gaps : List ℕ → List DramCycles
gaps ns = map (λ n. record { 0 = n }) ns

-- settings of an edition, at a ratio and a mode: one rank, client 7
abbrev pub settings_in : ℕ → ℕ → ℕ → List ℕ → Settings
settings_in edition ratio mode gs = record { opening = record { ratio = ratio; ranks = 1; mode = mode; edition = edition; client = 7 }; gaps = gaps gs }

-- the K cases keep edition 0
abbrev pub settings : ℕ → ℕ → List ℕ → Settings
settings = settings_in document_one

abbrev pub gaps_a : List ℕ
gaps_a = 60 ∷ 8 ∷ 18 ∷ 42 ∷ 8 ∷ 8 ∷ 6 ∷ 20 ∷ 7 ∷ 30 ∷ 30 ∷ 25 ∷ 40 ∷ 18 ∷ 21 ∷ 2 ∷ 280 ∷ 140 ∷ 90 ∷ 32 ∷ []

-- gap n is v instead
abbrev pub changed : ℕ → ℕ → List ℕ → List ℕ
changed n v gs = set gs (n - 1) v

-- a command of rank 0 of the session that record 0 opened
abbrev pub at : CommandKind → ℕ → ℕ → Record
at kind bank cycle = command 0 (record { kind = kind; rank = 0; bank = bank }) cycle

pub data Question : Type 0 where
  earliest : CommandKind → ℕ → Question
  offer : CommandKind → ℕ → ℕ → Question

pub record Case : Type 0 where
  pub records : History
  pub question : Question
  pub answer : Reply

-- a reply whose gap loses so many DRAM cycles; and one that loses none
abbrev pub losing : ℕ → ℕ → ℕ → ℕ → Reply
losing loss n cycle gap = record { number = n; cycle = cycle; gap = gap; loss = loss }

abbrev pub reply : ℕ → ℕ → ℕ → Reply
reply = losing 0

-- a session with these settings, its records after the opening, oldest first, a question, and its answer
abbrev pub case : Settings → List Record → Question → Reply → Case
case s rs q r = record { records = reverse (opening s ∷ rs); question = q; answer = r }

-- K1 to K12
abbrev pub k_first : List Case
k_first =
    let a = settings 4 0 gaps_a in
    let four = at Act 0 0 ∷ at Act 1 2 ∷ at Act 2 4 ∷ at Act 3 6 ∷ [] in
    let wide = settings 4 0 (changed 20 40 gaps_a) in
    let grouped = settings 1 1 gaps_a in
    let short = settings 1 0 (changed 2 8 (changed 1 4 gaps_a)) in
    case a [] (earliest Act 0) (reply 0 0 0) ∷
    case a (at Act 0 0 ∷ []) (offer Rd 0 4) (losing 2 7 5 3) ∷
    case a (at Act 0 0 ∷ []) (offer Rd 0 5) (reply 0 5 0) ∷
    case a (at Act 0 0 ∷ []) (earliest Act 1) (reply 0 2 2) ∷
    case a (at Act 0 0 ∷ []) (earliest Act 0) (reply 0 15 1) ∷
    case a four (earliest Act 4) (reply 0 8 2) ∷
    case wide four (earliest Act 4) (reply 0 10 20) ∷
    case wide (four ++ take_back_record 0 ∷ []) (earliest Act 4) (reply 0 6 2) ∷
    case a (at Act 0 0 ∷ at Prepb 0 20 ∷ []) (earliest Act 0) (losing 2 0 25 14) ∷
    case grouped (at Rd 0 10 ∷ []) (earliest Rd 1) (reply 0 18 6) ∷
    case grouped (at Rd 0 10 ∷ []) (earliest Rd 2) (reply 0 16 7) ∷
    case short (at Act 0 0 ∷ []) (earliest Act 0) (reply 0 4 1) ∷
    []

-- K13: any command at the last cycle, then a PREPB that no gap holds back, of the next bank, asked and offered
abbrev pub k_last : CommandKind → ℕ → List Case
k_last kind bank =
    let a = settings 4 0 gaps_a in
    let other = (bank + 1) % 16 in
    case a (at kind bank 1099511627775 ∷ []) (earliest Prepb other) (reply 0 1099511627776 0) ∷
    case a (at kind bank 1099511627775 ∷ []) (offer Prepb other 1099511627776) (reply 5 0 0) ∷
    []

unfoldable pub k_lasts : CommandKind → List ℕ → List Case
k_lasts kind [] = []
k_lasts kind (bank ∷ banks) = k_last kind bank ++ k_lasts kind banks

-- every kind, and every bank that it may name: PREAB and REFAB name bank 0
abbrev pub sixteen : List ℕ
sixteen = 0 ∷ 1 ∷ 2 ∷ 3 ∷ 4 ∷ 5 ∷ 6 ∷ 7 ∷ 8 ∷ 9 ∷ 10 ∷ 11 ∷ 12 ∷ 13 ∷ 14 ∷ 15 ∷ []

abbrev pub k_thirteen : List Case
k_thirteen =
    k_lasts Act sixteen ++ k_lasts Rd sixteen ++ k_lasts Wr sixteen ++ k_lasts Prepb sixteen ++ k_lasts Preab (0 ∷ []) ++ k_lasts Refab (0 ∷ []) ++ k_lasts Refpb sixteen

unfoldable pub k_cases : List Case
k_cases = k_first ++ k_thirteen

-- mode 2, no K: four groups of four
unfoldable pub group_cases : List Case
group_cases =
    let grouped = settings 1 2 gaps_a in
    case grouped (at Rd 0 10 ∷ []) (earliest Rd 3) (reply 0 18 6) ∷
    case grouped (at Rd 0 10 ∷ []) (earliest Rd 4) (reply 0 16 7) ∷
    case grouped (at Wr 0 10 ∷ []) (earliest Rd 3) (reply 0 40 11) ∷
    case grouped (at Wr 0 10 ∷ []) (earliest Rd 4) (reply 0 35 12) ∷
    []

-- a refresh after the other kind of precharge, no K: in edition 0 the next cycle, from edition 1 on tRPab after it; any bank, any mode
abbrev pub precharge_cases : ℕ → ℕ → Reply → List Case
precharge_cases edition mode r =
    let a = settings_in edition 4 mode gaps_a in
    case a (at Prepb 3 10 ∷ []) (earliest Refab 0) r ∷
    case a (at Preab 0 10 ∷ []) (earliest Refpb 0) r ∷
    case a (at Preab 0 10 ∷ []) (earliest Refpb 5) r ∷
    []

unfoldable pub edition_cases : List Case
edition_cases =
    let next = reply 0 11 0 in
    let later = losing 3 0 16 15 in
    precharge_cases document_one 0 next ++ precharge_cases document_one 1 next ++ precharge_cases document_one 2 next
    ++ precharge_cases any_precharge 0 later ++ precharge_cases any_precharge 1 later ++ precharge_cases any_precharge 2 later

-- what the ratio costs, no K: tRCD is 18 and tRPab 21, at ratios 1, 2 and 4; too early, and asked
abbrev pub ratio_cases : ℕ → Reply → Reply → Reply → List Case
ratio_cases ratio early asked precharge =
    let a = settings ratio 0 gaps_a in
    case a (at Act 0 0 ∷ []) (offer Rd 0 1) early ∷
    case a (at Act 0 0 ∷ []) (earliest Rd 0) asked ∷
    case a (at Preab 0 0 ∷ []) (earliest Act 0) precharge ∷
    []

unfoldable pub loss_cases : List Case
loss_cases =
    ratio_cases 1 (reply 7 18 3) (reply 0 18 3) (reply 0 21 15)
    ++ ratio_cases 2 (reply 7 9 3) (reply 0 9 3) (losing 1 0 11 15)
    ++ ratio_cases 4 (losing 2 7 5 3) (losing 2 0 5 3) (losing 3 0 6 15)

-- what a bank can do, no K: 12 in edition 2, after 6 and before 7; before that edition no bank is looked at
abbrev pub state_cases : ℕ → Reply → List Case
state_cases edition wrong =
    let a = settings_in edition 4 0 gaps_a in
    let two = at Act 0 0 ∷ at Act 3 2 ∷ [] in
    case a [] (offer Rd 0 100) wrong ∷
    case a (at Act 0 0 ∷ []) (offer Act 0 100) wrong ∷
    case a (at Act 0 0 ∷ []) (offer Act 0 0) (reply 6 0 0) ∷
    case a two (offer Refab 0 100) wrong ∷
    case a two (offer Refpb 3 100) wrong ∷
    case a (two ++ at Preab 0 20 ∷ []) (offer Wr 3 100) wrong ∷
    case a (two ++ at Preab 0 20 ∷ []) (offer Refab 0 100) (reply 0 100 0) ∷
    case a (two ++ at Preab 0 20 ∷ take_back_record 0 ∷ []) (offer Wr 3 100) (reply 0 100 0) ∷
    case a (two ++ at Preab 0 20 ∷ at Preab 0 40 ∷ take_back_record 0 ∷ []) (offer Wr 3 100) wrong ∷
    case a (two ++ at Prepb 3 20 ∷ []) (offer Wr 0 100) (reply 0 100 0) ∷
    []

unfoldable pub bank_cases : List Case
bank_cases =
    state_cases any_precharge (reply 0 100 0) ++ state_cases bank_states (reply 12 0 0)
    ++ case (settings_in bank_states 4 0 gaps_a) (at Act 0 0 ∷ []) (offer Act 0 1) (reply 12 0 0) ∷ []

abbrev pub answered : History → Question → Reply
answered h (earliest k bank) = earliest_on h (code_of k) 0 bank
answered h (offer k bank t) = reply_of (offer_on max_records h (code_of k) 0 bank t)

abbrev pub same : Reply → Reply → Bool
same x y = eqb x.number y.number && eqb x.cycle y.cycle && eqb x.gap y.gap && eqb x.loss y.loss

-- the records stand, and the question gets the answer
abbrev pub right : Case → Bool
right k = fine k.records && same (answered k.records k.question) k.answer

unfoldable pub all_right : List Case → Bool
all_right [] = true
all_right (k ∷ ks) = right k && all_right ks
