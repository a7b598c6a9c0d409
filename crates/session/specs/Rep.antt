-- What it means that the arrays stand for a list of surviving commands. (Nobody need believe this text: it only carries the proofs, from the fresh
-- state through every call, and what is promised speaks of the survivors alone.)
use Rattle.std.specs.Prelude.{◌≡◌, cond, List, [], ◌∷◌, map, ℕ, ◌+◌, ◌-◌, ◌%◌, ◌<◌, ◌≤◌, T, eqb, length, get_or, drop}
use Rattle.timing.specs.declared.kinds.CommandKind.TheVariants.{Act}
use Rattle.timing.specs.declared.rules.Command.{Command}
use Rattle.timing.specs.Kinds.{same_kind}
use Rattle.timing.specs.Earliest.{Stamped, cycle_after, acts}
use Rattle.session.specs.declared.stamps.Stamp.{Stamp}
use Rattle.session.specs.declared.state.Entry.{Entry}
use Rattle.session.specs.declared.state.Progress.{Progress}
use Rattle.session.specs.declared.state.Session.{Session}
use Rattle.session.specs.Stamps.{stamp, cycle_bound}
use Rattle.session.specs.State.{slots, max_depth, slot_of, stamp_at, banks_after, no_entry}

-- the stamp of the latest survivor of a slot, 0 where there is none
unfoldable pub stamp_in : ℕ → List Stamped → ℕ
stamp_in slot [] = 0
stamp_in slot (x ∷ xs) = cond (eqb (slot_of x.command) slot) (x.cycle + 1) (stamp_in slot xs)

-- the stamp of the i-th latest ACT of a rank, counted from 0; 0 where there is none
abbrev pub act_in : ℕ → ℕ → List Stamped → ℕ
act_in rank i xs = get_or (map (λ x. x.cycle + 1) (acts rank xs)) i 0

abbrev pub acts_in : List Stamped → List Stamp
acts_in xs =
    stamp (act_in 0 0 xs) ∷
    stamp (act_in 0 1 xs) ∷
    stamp (act_in 0 2 xs) ∷
    stamp (act_in 0 3 xs) ∷
    stamp (act_in 1 0 xs) ∷
    stamp (act_in 1 1 xs) ∷
    stamp (act_in 1 2 xs) ∷
    stamp (act_in 1 3 xs) ∷
    []

-- which banks the survivors leave open, from the oldest on
unfoldable pub banks_in : List Stamped → ℕ
banks_in [] = 0
banks_in (x ∷ xs) = banks_after (banks_in xs) (slot_of x.command)

-- a command in its place, at a cycle that a stamp holds
pub record Placed (c : Command) (t : ℕ) : Type 0 where
  pub rank : c.rank < 2
  pub bank : c.bank < 16
  pub cycle : t < cycle_bound

-- survivors, newest first: each placed, and each later than those behind it
abbrev pub Rising : List Stamped → Type 0
Rising [] = Unit {0}
Rising (x ∷ xs) = Placed x.command x.cycle × (cycle_after xs ≤ x.cycle) × Rising xs

-- an entry puts back what stood before the newest of these survivors
abbrev pub Undoes : Entry → List Stamped → Type 0
Undoes e [] = Unit {0}
Undoes e (x ∷ xs) =
    (e.slot ≡ slot_of x.command)
    × (e.earlier ≡ stamp (stamp_in (slot_of x.command) xs))
    × (T (same_kind x.command.kind Act) → e.pushed_out ≡ stamp (act_in x.command.rank 3 xs))
    × (e.latest ≡ stamp (cycle_after xs))
    × (e.open_banks ≡ banks_in xs)

-- the place in the ring of the entry for the i-th latest survivor
abbrev pub ring_at : Progress → ℕ → ℕ
ring_at p i = (p.position + (max_depth - 1) - i) % max_depth

pub record Stands (s : Session) (xs : List Stamped) (d : ℕ) : Type 0 where
  pub rising : Rising xs
  pub last_size : length s.last ≡ slots
  pub last : (i : ℕ) → i < slots → stamp_at s.last i ≡ stamp (stamp_in i xs)
  pub activates : s.progress.activates ≡ acts_in xs
  pub latest : s.progress.latest ≡ stamp (cycle_after xs)
  pub banks : s.progress.open_banks ≡ banks_in xs
  pub survivors : s.progress.survivors ≡ length xs
  pub depth : s.progress.depth ≡ d
  pub shallow : d ≤ length xs
  pub deepest : d ≤ max_depth
  pub position : s.progress.position < max_depth
  pub entries_size : length s.entries ≡ max_depth
  pub entries : (i : ℕ) → i < d → Undoes (get_or s.entries (ring_at s.progress i) no_entry) (drop i xs)
