-- Demand 2: which line gives a move's number, and what the answer to an offer and to an earliest question means, in the words of the rule.
use Rattle.std.specs.Prelude.{◌≡◌, ◌↔◌, Bool, true, false, List, [], ◌∷◌, ◌++◌, ℕ, ◌≤◌, ◌<◌, Option, Some, None}
use Rattle.timing.specs.declared.kinds.CommandKind.{CommandKind}
use Rattle.timing.specs.declared.rules.Command.{Command}
use Rattle.timing.specs.Kinds.{kind_of}
use Rattle.timing.specs.Banks.{wrong_bank}
use Rattle.timing.specs.Earliest.{loss_of, Standing, AsksFor, Legal, NamedGap, floor, earliest}
use Rattle.history.specs.Records.{Current, closed, session}
use Rattle.history.specs.Answers.{Refusal, ◌gives◌, first_of, open_lines, place_lines, stamp_lines, offer_lines, depth_lines, room_lines, Reply}
use Rattle.history.specs.Struck.{open_session, offer, take_back}
use Rattle.statements.specs.Calls.{Move, calls, asks_earliest, asks_status, asks_stretch}

-- a number is given by the line that holds where none before it does; 0 where none holds
pub data Given : List Refusal → ℕ → Type 0 where
  none : Given [] 0
  this : {test : Bool} {n : ℕ} {ls : List Refusal} → test ≡ true → Given ((test gives n) ∷ ls) n
  a_later : {test : Bool} {m n : ℕ} {ls : List Refusal} → test ≡ false → Given ls n → Given ((test gives m) ∷ ls) n

-- every move's lines in document 01's order, by the room, the count of records and what stands
abbrev pub kind_lines : Option CommandKind → (CommandKind → List Refusal) → List Refusal
kind_lines None more = (true gives 2) ∷ []
kind_lines (Some k) more = (false gives 2) ∷ more k

abbrev pub opened_lines : Current → (Standing → List Refusal) → List Refusal
opened_lines closed more = (true gives 1) ∷ []
opened_lines (session st) more = (false gives 1) ∷ more st

unfoldable pub lines_of : ℕ → ℕ → Current → Move → List Refusal
lines_of room count now (calls (open_session o)) = open_lines o.opening ++ room_lines room count
lines_of room count now (calls (offer kind rank bank t)) =
    opened_lines now
    (λ st.
    kind_lines (kind_of kind)
    (λ k.
    let c : Command = record { kind = k; rank = rank; bank = bank } in
    offer_lines st.settings.opening (floor st) (wrong_bank st c) (earliest st c) c t ++ room_lines room count))
lines_of room count now (calls take_back) = opened_lines now (λ st. depth_lines st.depth ++ room_lines room count)
lines_of room count now (asks_earliest kind rank bank) =
    opened_lines now (λ st. kind_lines (kind_of kind) (λ k. place_lines st.settings.opening (record { kind = k; rank = rank; bank = bank })))
lines_of room count now asks_status = opened_lines now (λ st. [])
lines_of room count now asks_stretch = []

-- lines 1 to 6 don't hold for this command at this cycle
pub record Ready (now : Current) (kind : ℕ) (c : Command) (t : ℕ) (st : Standing) : Type 0 where
  pub stands : now ≡ session st
  pub known : kind_of kind ≡ Some c.kind
  pub placed : first_of (place_lines st.settings.opening c ++ stamp_lines t) ≡ 0
  pub after : floor st ≤ t

-- a survivor and a rule of the list that binds them, or the fourth activate, asks for more than the cycle
pub record AsksMore (st : Standing) (c : Command) (t : ℕ) : Type 0 where
  pub gap : ℕ
  pub cycle : ℕ
  pub asks : AsksFor st c gap cycle
  pub more : t < cycle

-- with lines 1 to 6 passed
pub record OfferMeans (room count : ℕ) (st : Standing) (c : Command) (t : ℕ) (reply : Reply) : Type 0 where
  pub wrong_state : (reply.number ≡ 12) ↔ (wrong_bank st c ≡ true)
  pub too_early : (reply.number ≡ 7) ↔ ((wrong_bank st c ≡ false) × AsksMore st c t)
  pub legal : reply.number ≡ 7 → Legal st c reply.cycle
  pub smallest : reply.number ≡ 7 → (u : ℕ) → Legal st c u → reply.cycle ≤ u
  pub gap : reply.number ≡ 7 → NamedGap st c (record { cycle = reply.cycle; gap = reply.gap })
  pub loss : reply.number ≡ 7 → reply.loss ≡ loss_of st.settings reply.gap
  pub accepted : (reply.number ≡ 0) ↔ (Legal st c t × (wrong_bank st c ≡ false) × (count < room))
  pub full : (reply.number ≡ 9) ↔ (Legal st c t × (wrong_bank st c ≡ false) × (room ≤ count))

-- lines 1 to 4 don't hold for this command
pub record Askable (now : Current) (kind : ℕ) (c : Command) (st : Standing) : Type 0 where
  pub stands : now ≡ session st
  pub known : kind_of kind ≡ Some c.kind
  pub placed : first_of (place_lines st.settings.opening c) ≡ 0

-- with lines 1 to 4 passed: what an offer's 7 names
pub record EarliestMeans (st : Standing) (c : Command) (reply : Reply) : Type 0 where
  pub answered : reply.number ≡ 0
  pub legal : Legal st c reply.cycle
  pub smallest : (u : ℕ) → Legal st c u → reply.cycle ≤ u
  pub gap : NamedGap st c (record { cycle = reply.cycle; gap = reply.gap })
  pub loss : reply.loss ≡ loss_of st.settings reply.gap
