-- What the state becomes, for every state value: fresh, opened, a command pushed, a command popped. Each change but the first is one record more.
use Rattle.std.specs.Prelude.{Bool, cond, List, [], ◌∷◌, map, ℕ, ◌+◌, ◌-◌, ◌*◌, ◌/◌, ◌%◌, ◌^◌, min, eqb, ltb, get_or, set, replicate}
use Rattle.timing.specs.declared.clocks.ControllerCycles.{ControllerCycles}
use Rattle.timing.specs.declared.clocks.DramCycles.{DramCycles}
use Rattle.timing.specs.declared.kinds.CommandKind.{CommandKind}
use Rattle.timing.specs.declared.kinds.CommandKind.TheVariants.{Act, Prepb, Preab}
use Rattle.timing.specs.declared.rules.Opening.{Opening}
use Rattle.timing.specs.declared.rules.Command.{Command}
use Rattle.timing.specs.Clocks.{cycles, rounded_up}
use Rattle.timing.specs.Kinds.{code_of}
use Rattle.session.specs.declared.stamps.Stamp.{Stamp}
use Rattle.session.specs.declared.state.Entry.{Entry}
use Rattle.session.specs.declared.state.Progress.{Progress}
use Rattle.session.specs.declared.state.Terms.{Terms}
use Rattle.session.specs.declared.state.Session.{Session}
use Rattle.session.specs.Stamps.{stamp, stored}

-- a stamp for each of two ranks, seven kinds and sixteen banks; and how many commands can be taken back
abbrev pub slots : ℕ
slots = 224

abbrev pub rank_slots : ℕ
rank_slots = 112

abbrev pub max_depth : ℕ
max_depth = 64

-- the place of a rank, kind and bank among the last stamps
abbrev pub slot_of : Command → ℕ
slot_of c = (c.rank % 2 * 7 + (code_of c.kind - 1)) * 16 + c.bank % 16

abbrev pub stamp_at : List Stamp → ℕ → Stamp
stamp_at l i = get_or l i (stamp 0)

abbrev pub gap_at : List ControllerCycles → ℕ → ControllerCycles
gap_at l i = get_or l i (cycles 0)

-- an ACT's slot moves the four activates of its rank on by one; no other does
abbrev pub shifted_of : List Stamp → ℕ → Stamp → List Stamp
shifted_of a slot new =
    cond (eqb (slot / 16 % 7) 0)
    (cond (ltb slot rank_slots)
    (new ∷ stamp_at a 0 ∷ stamp_at a 1 ∷ stamp_at a 2 ∷ stamp_at a 4 ∷ stamp_at a 5 ∷ stamp_at a 6 ∷ stamp_at a 7 ∷ [])
    (stamp_at a 0 ∷ stamp_at a 1 ∷ stamp_at a 2 ∷ stamp_at a 3 ∷ new ∷ stamp_at a 4 ∷ stamp_at a 5 ∷ stamp_at a 6 ∷ []))
    a

abbrev pub unshifted_of : List Stamp → ℕ → Stamp → List Stamp
unshifted_of a slot old =
    cond (eqb (slot / 16 % 7) 0)
    (cond (ltb slot rank_slots)
    (stamp_at a 1 ∷ stamp_at a 2 ∷ stamp_at a 3 ∷ old ∷ stamp_at a 4 ∷ stamp_at a 5 ∷ stamp_at a 6 ∷ stamp_at a 7 ∷ [])
    (stamp_at a 0 ∷ stamp_at a 1 ∷ stamp_at a 2 ∷ stamp_at a 3 ∷ stamp_at a 5 ∷ stamp_at a 6 ∷ stamp_at a 7 ∷ old ∷ []))
    a

-- the fourth activate of the slot's rank
abbrev pub fourth_of : List Stamp → ℕ → Stamp
fourth_of a slot = cond (ltb slot rank_slots) (stamp_at a 3) (stamp_at a 7)

-- WHICH BANKS ARE OPEN: a number with a bit for each bank, the sixteen of rank 0 first
abbrev pub is_up : ℕ → ℕ → Bool
is_up up bit = eqb (up / 2 ^ bit % 2) 1

abbrev pub opened : ℕ → ℕ → ℕ
opened up bit = cond (is_up up bit) up (up + 2 ^ bit)

abbrev pub closed : ℕ → ℕ → ℕ
closed up bit = cond (is_up up bit) (up - 2 ^ bit) up

-- a slot's kind, the first bit of its rank, and its bank's bit
abbrev pub slot_is : CommandKind → ℕ → Bool
slot_is k slot = eqb (slot / 16 % 7) (code_of k - 1)

abbrev pub first_bit : ℕ → ℕ
first_bit slot = cond (ltb slot rank_slots) 0 16

abbrev pub bit_of : ℕ → ℕ
bit_of slot = first_bit slot + slot % 16

abbrev pub rank_closed : ℕ → ℕ → ℕ
rank_closed up slot = cond (ltb slot rank_slots) (up / 65536 * 65536) (up % 65536)

-- an ACT's slot opens its bank, a PREPB's closes its own, a PREAB's all of its rank; no other changes anything
unfoldable pub banks_after : ℕ → ℕ → ℕ
banks_after up slot =
    cond (slot_is Act slot) (opened up (bit_of slot))
    (cond (slot_is Prepb slot) (closed up (bit_of slot))
    (cond (slot_is Preab slot) (rank_closed up slot)
    up))

-- the twenty gaps, rounded once at the opening
unfoldable pub rounded_gaps : Opening → List DramCycles → List ControllerCycles
rounded_gaps o gaps = map (λ g. cycles (rounded_up o g)) gaps

-- one more; a count that no call reaches is reduced first
abbrev pub one_more : ℕ → ℕ
one_more n = n % 4294967296 + 1

-- the place of the next entry in the ring, and of the latest
abbrev pub place_next : Progress → ℕ
place_next p = p.position % max_depth

abbrev pub place_back : Progress → ℕ
place_back p = (p.position % max_depth + (max_depth - 1)) % max_depth

-- an entry: what a take-back of the command at a slot must put back
abbrev pub no_entry : Entry
no_entry = record { slot = 0; open_banks = 0; earlier = stamp 0; pushed_out = stamp 0; latest = stamp 0 }

abbrev pub slot_in : Entry → ℕ
slot_in e = e.slot % slots

abbrev pub entry_for : Progress → ℕ → Stamp → Entry
entry_for p slot earlier = record { slot = slot; open_banks = p.open_banks; earlier = earlier; pushed_out = fourth_of p.activates slot; latest = p.latest }

-- THE SMALL NUMBERS: at the start, a command pushed, a command popped
abbrev pub started : ℕ → Progress
started records =
    record { activates = replicate 8 (stamp 0); latest = stamp 0; position = 0; survivors = 0; depth = 0; records = records; open_banks = 0 }

unfoldable pub pushed_progress : Progress → ℕ → Stamp → Progress
pushed_progress p slot new =
    record {
      activates = shifted_of p.activates slot new;
      latest = new;
      position = (place_next p + 1) % max_depth;
      survivors = one_more p.survivors;
      depth = min max_depth (p.depth + 1);
      records = one_more p.records;
      open_banks = banks_after p.open_banks slot;
    }

unfoldable pub popped_progress : Progress → Entry → Progress
popped_progress p e =
    record {
      activates = unshifted_of p.activates (slot_in e) e.pushed_out;
      latest = e.latest;
      position = place_back p;
      survivors = p.survivors - 1;
      depth = p.depth - 1;
      records = one_more p.records;
      open_banks = e.open_banks;
    }

abbrev pub no_terms : Terms
no_terms =
    record { rounded = replicate 20 (cycles 0); gaps = replicate 20 (record { 0 = 0 }); opening = record { ratio = 0; ranks = 0; mode = 0; edition = 0; client = 0 }; number = 0; is_open = 0 }

-- THE STATE
abbrev pub cleared : Progress → Terms → Session
cleared p terms = record { last = replicate slots (stamp 0); entries = replicate max_depth no_entry; progress = p; terms = terms }

unfoldable pub fresh_state : Session
fresh_state = cleared (started 0) no_terms

-- an opening clears what the session before it left, and begins at the present record
unfoldable pub opened_state : ℕ → Opening → List DramCycles → Session
opened_state records o gaps =
    cleared (started (one_more records)) (record { rounded = rounded_gaps o gaps; gaps = gaps; opening = o; number = records % 4294967296; is_open = 1 })

-- a command: its entry into the ring, its stamp into its slot
unfoldable pub pushed_state : Session → Command → ℕ → Session
pushed_state s c t =
    let slot = slot_of c in
    let new = stamp (stored t) in
    record {
      last = set s.last slot new;
      entries = set s.entries (place_next s.progress) (entry_for s.progress slot (stamp_at s.last slot));
      progress = pushed_progress s.progress slot new;
      terms = s.terms;
    }

-- a take-back: the latest entry puts back what stood before
abbrev pub entry_back : Session → Entry
entry_back s = get_or s.entries (place_back s.progress) no_entry

unfoldable pub popped_state : Session → Session
popped_state s =
    let e = entry_back s in
    record { last = set s.last (slot_in e) e.earlier; entries = s.entries; progress = popped_progress s.progress e; terms = s.terms }
