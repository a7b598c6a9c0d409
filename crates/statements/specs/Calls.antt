-- What each call hands back, by its name: a call's `ensures` cites its own, and so do the demands. Any move's outcome is put together from them.
use Rattle.std.specs.Prelude.{List, ℕ, ◌+◌, length}
use Rattle.std.specs.Borrow.{Bor}
use Rattle.timing.specs.declared.clocks.DramCycles.{DramCycles}
use Rattle.timing.specs.Editions.{newest}
use Rattle.timing.specs.Earliest.{Settings}
use Rattle.history.specs.Answers.{room_of, Reply, Status, open_on, offer_on, earliest_on, take_back_on, status_on}
use Rattle.history.specs.Struck.{Call, open_session, offer, take_back}
use Rattle.session.specs.declared.state.Session.{Session}
use Rattle.journal.specs.Restore.{Part, part_of, stretch_of}
use Rattle.statements.specs.Exact.{open_in, offer_in, earliest_in, take_back_in, status_in, stretch_in}
use Rattle.statements.specs.Statements.{Called, Told}

-- what a live opening says: its caller's numbers, and the newest edition
abbrev pub given : ℕ → ℕ → ℕ → ℕ → List DramCycles → Settings
given ratio ranks mode client gaps = record { opening = record { ratio = ratio; ranks = ranks; mode = mode; edition = newest; client = client }; gaps = gaps }

-- the calls that may write: from a state and lent bytes to a reply, a state and bytes
abbrev pub Opens : Session → List ℕ → Settings → Reply → Session → List ℕ → Type 0
Opens s lent o = Called (open_in (room_of (length lent)) s o) (λ h. open_on (room_of (length lent)) h o) s lent

abbrev pub Offers : Session → List ℕ → ℕ → ℕ → ℕ → ℕ → Reply → Session → List ℕ → Type 0
Offers s lent kind rank bank t = Called (offer_in (room_of (length lent)) s kind rank bank t) (λ h. offer_on (room_of (length lent)) h kind rank bank t) s lent

abbrev pub TakesBack : Session → List ℕ → Reply → Session → List ℕ → Type 0
TakesBack s lent = Called (take_back_in (room_of (length lent)) s) (λ h. take_back_on (room_of (length lent)) h) s lent

-- the questions
abbrev pub TellsEarliest : Session → ℕ → ℕ → ℕ → Reply → Type 0
TellsEarliest s kind rank bank = Told (earliest_in s kind rank bank) (λ h. earliest_on h kind rank bank) s

abbrev pub TellsStatus : Session → Status → Type 0
TellsStatus s = Told (status_in s) (λ h. status_on h) s

-- where the stretch stands in so many lent bytes
abbrev pub PlacesStretch : Session → ℕ → Part → Type 0
PlacesStretch s lent = Told (stretch_in s lent) (λ h. stretch_of h lent) s

-- what a reference shows: bytes, and where they stand: a block of memory and a place in it
pub record Seen : Type 0 where
  pub block : ℕ
  pub place : ℕ
  pub bytes : List ℕ

abbrev pub seen : Bor (List ℕ) → Seen
seen r = record { block = r.ref_ptr.0; place = r.ref_ptr.1; bytes = r.now }

-- a part of them, that part itself and not a copy: its place is theirs, and its start more
abbrev pub part_in : Part → Seen → Seen
part_in p x = record { block = x.block; place = p.start + x.place; bytes = part_of p x.bytes }

abbrev pub HandsStretch : Session → Seen → Seen → Type 0
HandsStretch s x = Told (part_in (stretch_in s (length x.bytes)) x) (λ h. part_in (stretch_of h (length x.bytes)) x) s

-- an outcome of a call that may write
abbrev pub Outcome : Call → Session → List ℕ → Reply → Session → List ℕ → Type 0
Outcome (open_session o) s lent = Opens s lent o
Outcome (offer kind rank bank t) s lent = Offers s lent kind rank bank t
Outcome take_back s lent = TakesBack s lent

-- a move: a call that may write, or a question
pub data Move : Type 0 where
  calls : Call → Move
  asks_earliest : ℕ → ℕ → ℕ → Move
  asks_status : Move
  asks_stretch : Move

-- what it is answered with: a number with a cycle and a gap; a status; the stretch's place and its bytes
pub data Heard : Type 0 where
  replied : Reply → Heard
  stated : Status → Heard
  handed : Part → List ℕ → Heard

-- a move's outcome. A question takes the state and the bytes and hands back neither, so both stay
pub data Does : Move → Session → List ℕ → Heard → Session → List ℕ → Type 0 where
  by_call : {c : Call} {s next : Session} {lent bytes : List ℕ} {reply : Reply} → Outcome c s lent reply next bytes → Does (calls c) s lent (replied reply) next bytes
  by_earliest : {kind rank bank : ℕ} {s : Session} {lent : List ℕ} {reply : Reply} → TellsEarliest s kind rank bank reply
      → Does (asks_earliest kind rank bank) s lent (replied reply) s lent
  by_status : {s : Session} {lent : List ℕ} {status : Status} → TellsStatus s status → Does asks_status s lent (stated status) s lent
  by_stretch : {s : Session} {lent part : List ℕ} {place : Part} → (b p b' p' : ℕ) → PlacesStretch s (length lent) place
      → HandsStretch s (record { block = b; place = p; bytes = lent }) (record { block = b'; place = p'; bytes = part }) → Does asks_stretch s lent (handed place part) s lent
