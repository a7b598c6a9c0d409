-- What a request comes to.
use Rattle.std.specs.Prelude.{◌≡◌, cond, List, [], ◌∷◌, ◌++◌, ℕ, zero, suc, ◌+◌, ◌*◌, ◌/◌, ◌%◌, min, leb, ltb, length, take, drop, set, get_or}
use Rattle.timing.specs.declared.clocks.DramCycles.{DramCycles}
use Rattle.timing.specs.Clocks.{cycles}
use Rattle.timing.specs.Editions.{newest}
use Rattle.timing.specs.Earliest.{Settings}
use Rattle.history.specs.Answers.{Reply, Verdict, reply_of, room_of}
use Rattle.session.specs.declared.state.Session.{Session}
use Rattle.journal.specs.declared.records.Offer.{Offer}
use Rattle.journal.specs.Restore.{bytes_after, part_of}
use Rattle.statements.specs.Bursts.{over, Burst, burst_in}
use Rattle.statements.specs.Exact.{
  open_in,
  offer_in,
  earliest_in,
  take_back_in,
  status_in,
  stretch_in,
  state_after,
  RestoredIn,
  restore_in,
  restored_number,
  restored_at,
  restored_state,
}
use Rattle.requests.specs.declared.forms.Request.{Request}
use Rattle.requests.specs.declared.forms.Request.TheVariants as asks
use Rattle.requests.specs.Requests.{Asking}
use Rattle.console.specs.declared.respond.Response.{Response}
use Rattle.datasheet.specs.Sheet.{picoseconds, gaps_in}
use Rattle.console.specs.Say.{brief, full, status_numbers, gaps_numbers, burst_numbers}

-- the request whose word the answer has, its numbers, the journal's bytes that are printed behind them as hexadecimal and the place where they stand, the
-- state, how much is lent, and the journal
pub record Outcome : Type 0 where
  pub request : Request
  pub numbers : List ℕ
  pub printed : List ℕ
  pub place : ℕ
  pub state : Session
  pub lent : ℕ
  pub journal : List ℕ

-- numbers and bytes, and numbers alone
abbrev pub prints : Request → List ℕ → ℕ → List ℕ → Session → ℕ → List ℕ → Outcome
prints q ns place printed s lent j = record { request = q; numbers = ns; printed = printed; place = place; state = s; lent = lent; journal = j }

abbrev pub says : Request → List ℕ → Session → ℕ → List ℕ → Outcome
says q ns s lent j = prints q ns 0 [] s lent j

-- a call sees the first bytes of the journal, as many as are lent; those behind them stay
abbrev pub called : Request → (Reply → List ℕ) → Verdict → Session → ℕ → List ℕ → Outcome
called q numbers v s lent j = says q (numbers (reply_of v)) (state_after s v) lent (bytes_after (take lent j) s.progress.records v ++ drop lent j)

-- a request's numbers; 0 where it has none
abbrev pub at : List ℕ → ℕ → ℕ
at ns i = get_or ns i 0

-- n of them from place i on, each made a value of its kind
unfoldable pub each_from : {A : Type 0} → (ℕ → A) → ℕ → ℕ → List ℕ → List A
each_from make zero i ns = []
each_from make (suc n) i ns = make (at ns i) ∷ each_from make n (suc i) ns

-- a client holds 32 bits and a gap 16: a line's always do, and any other value is reduced
abbrev pub gap_from : ℕ → DramCycles
gap_from n = record { 0 = n % 65536 }

abbrev pub settings_of : List ℕ → Settings
settings_of ns =
    record {
      opening = record { ratio = at ns 0; ranks = at ns 1; mode = at ns 2; edition = newest; client = at ns 3 % 4294967296 };
      gaps = each_from gap_from 20 4 ns;
    }

-- the commands of a burst, four numbers each
abbrev pub offer_at : List ℕ → ℕ → Offer
offer_at ns i = record { kind = at ns (4 * i); rank = at ns (4 * i + 1); bank = at ns (4 * i + 2); cycle = cycles (at ns (4 * i + 3)) }

-- n of them from the i-th on
unfoldable pub offers_in : ℕ → ℕ → List ℕ → List Offer
offers_in zero i ns = []
offers_in (suc n) i ns = offer_at ns i ∷ offers_in n (i + 1) ns

abbrev pub offers_of : List ℕ → List Offer
offers_of ns = offers_in (length ns / 4) 0 ns

abbrev pub bursts : Burst Session → ℕ → List ℕ → Outcome
bursts b lent j = says asks.Burst (burst_numbers b.count b.reply) b.left.what lent (b.left.journal ++ drop lent j)

-- more than there is, is all of it
abbrev pub lends : ℕ → Session → List ℕ → Outcome
lends count s j = let n = min count (length j) in says asks.Lend (n ∷ []) s n j

abbrev pub restores : RestoredIn → ℕ → List ℕ → Outcome
restores v lent j = says asks.Restore (restored_number v ∷ restored_at v ∷ []) (restored_state v) lent j

abbrev pub pokes : ℕ → ℕ → Session → ℕ → List ℕ → Outcome
pokes place byte s lent j = cond (ltb place (length j)) (says asks.Poke (place ∷ byte ∷ []) s lent (set j place byte)) (says asks.Malformed [] s lent j)

abbrev pub shows : ℕ → ℕ → Session → ℕ → List ℕ → Outcome
shows from count s lent j = cond (leb (from + count) (length j)) (prints asks.Bytes [] from (take count (drop from j)) s lent j) (says asks.Malformed [] s lent j)

abbrev pub room : ℕ → List ℕ → ℕ
room lent j = room_of (length (take lent j))

-- A REQUEST, with its numbers
unfoldable pub outcome_in : Session → List ℕ → ℕ → Request → List ℕ → Outcome
outcome_in s j lent asks.Nothing ns = says asks.Nothing [] s lent j
outcome_in s j lent asks.Malformed ns = says asks.Malformed [] s lent j
outcome_in s j lent asks.Open ns = called asks.Open brief (open_in (room lent j) s (settings_of ns)) s lent j
outcome_in s j lent asks.Offer ns = called asks.Offer full (offer_in (room lent j) s (at ns 0) (at ns 1) (at ns 2) (at ns 3)) s lent j
outcome_in s j lent asks.Ask ns = says asks.Ask (full (earliest_in s (at ns 0) (at ns 1) (at ns 2))) s lent j
outcome_in s j lent asks.Back ns = called asks.Back brief (take_back_in (room lent j) s) s lent j
outcome_in s j lent asks.Status ns = says asks.Status (status_numbers (status_in s)) s lent j
outcome_in s j lent asks.Stretch ns = let part = stretch_in s lent in prints asks.Stretch (part.size ∷ []) part.start (part_of part j) s lent j
outcome_in s j lent asks.Lend ns = lends (at ns 0) s j
outcome_in s j lent asks.Restore ns = restores (restore_in (take (at ns 0) j)) lent j
outcome_in s j lent asks.Poke ns = pokes (at ns 0) (at ns 1 % 256) s lent j
outcome_in s j lent asks.Bytes ns = shows (at ns 0) (at ns 1) s lent j
outcome_in s j lent asks.Gaps ns = says asks.Gaps (gaps_numbers (gaps_in (picoseconds (at ns 0)) (each_from picoseconds 20 1 ns))) s lent j
outcome_in s j lent asks.Burst ns = bursts (burst_in (over s (take lent j)) (offers_of ns)) lent j

-- no more is lent than there is
abbrev pub outcome : Session → List ℕ → ℕ → Asking → Outcome
outcome s j lent a = outcome_in s j (min lent (length j)) a.request a.numbers

pub record Responds (o : Outcome) (r : Response) (after : List ℕ) : Type 0 where
  pub request : r.said.request ≡ o.request
  pub counted : r.said.count ≡ length o.numbers
  pub numbers : take r.said.count r.said.numbers ≡ o.numbers
  pub place : r.said.hex_from ≡ o.place
  pub count : r.said.hex_count ≡ length o.printed
  pub printed : take r.said.hex_count (drop r.said.hex_from after) ≡ o.printed
  pub state : r.session ≡ o.state
  pub lent : r.lent ≡ o.lent
  pub journal : after ≡ o.journal
