-- The state's open banks: what a command leaves open, what it looks at, and that they are what the worded rule reads off all survivors.
use mathlib.Core.Path.{◌≡◌, refl, sym, ◌∙◌, ap}
use mathlib.Core.Bool.{Bool, true, false, cond, not, ◌&&◌, ◌||◌}
use mathlib.Core.List.{List, [], ◌∷◌}
use Prim.Native.Nat.{ℕ, zero, suc, ◌+◌, ◌-◌, ◌*◌, ◌/◌, ◌%◌, ◌^◌, ◌≤◌, ◌<◌}
use native.Mathlib.Nat.{mod-lt}
use native.Mathlib.Omega.{arith}
use lib.Dec.{eqb, ltb}
use lib.Bits.{bit_and, bit_or, and_mask, and_zero_r, or_zero_r}
use borrow.Author.Tests.{eq-eqb, ne_eqb, eqb-true, eqb-false, ltb-true, ltb-false}
use Rattle.timing.specs.declared.kinds.CommandKind.{CommandKind}
use Rattle.timing.specs.declared.kinds.CommandKind.TheVariants.{Act, Rd, Wr, Prepb, Preab, Refab, Refpb}
use Rattle.timing.specs.declared.rules.Command.{Command}
use Rattle.timing.specs.Kinds.{code_of, same_kind}
use Rattle.timing.specs.Earliest.{Stamped}
use Rattle.timing.specs.Banks.{speaks_of, is_open_bank, some_bank, wrong_for}
use Rattle.timing.proofs.KindLaws.{code_low, code_high}
use Rattle.session.specs.declared.state.Session.{Session}
use Rattle.session.specs.State.{rank_slots, slot_of, is_up, opened, closed, slot_is, first_bit, bit_of, rank_closed, banks_after}
use Rattle.session.specs.Banks.{open_by, bit_for, looked_at, wanted}
use Rattle.session.specs.Rep.{banks_in, Rising, Stands}
use Rattle.session.proofs.BitLaws.{up_from, opened_up, closed_up, low_up, multiple_down, none_up, some_up, or_bit, less_bit, less_lower, less_upper}

-- a command's bits, closed and then opened, as a word's operations do it
module _ (up slot : ℕ) (word : up < 4294967296) where
  abbrev place : ℕ
  place = slot / 16 % 7

  abbrev bit : ℕ
  bit = bit_of slot

  abbrev all : ℕ
  all = 65535 * 2 ^ first_bit slot

  none : (n : ℕ) → n - 0 ≡ n
  none n = omega arith

  rank_closed_lem : up - bit_and up all ≡ rank_closed up slot
  rank_closed_lem = go (ltb slot rank_slots)
    where
      go : (b : Bool) → up - bit_and up (65535 * 2 ^ cond b 0 16) ≡ cond b (up / 65536 * 65536) (up % 65536)
      go true = less_lower up
      go false = less_upper up word

  pub after_bits : bit_or (up - bit_and up (cond (eqb place 3) (2 ^ bit) (cond (eqb place 4) all 0))) (cond (eqb place 0) (2 ^ bit) 0) ≡ banks_after up slot
  unfolding banks_after
  after_bits = go (eqb place 0) (eqb place 3) (eqb place 4) refl refl refl
    where
      alone : eqb place 0 ≡ true → (eqb place 3 ≡ false) × (eqb place 4 ≡ false)
      alone e = let n = eqb-true place 0 e in (ne_eqb place 3 (omega arith), ne_eqb place 4 (omega arith))

      go : (a b c : Bool) → eqb place 0 ≡ a → eqb place 3 ≡ b → eqb place 4 ≡ c
          → bit_or (up - bit_and up (cond (eqb place 3) (2 ^ bit) (cond (eqb place 4) all 0))) (cond (eqb place 0) (2 ^ bit) 0)
          ≡ cond (eqb place 0) (opened up bit) (cond (eqb place 3) (closed up bit) (cond (eqb place 4) (rank_closed up slot) up))
      go true b c e f g = rw (e, (alone e).0, (alone e).1, and_zero_r up, none up) (or_bit up bit)
      go false true c e f g = rw (e, f) (or_zero_r (up - bit_and up (2 ^ bit)) ∙ less_bit up bit)
      go false false true e f g = rw (e, f, g) (or_zero_r (up - bit_and up all) ∙ rank_closed_lem)
      go false false false e f g = rw (e, f, g) (or_zero_r (up - bit_and up 0) ∙ ap (λ (n : ℕ). up - n) (and_zero_r up) ∙ none up)

-- a command's look at the bits from its own on
module _ (up rank bank : ℕ) where
  abbrev from : ℕ
  from = up / 2 ^ (rank % 2 * 16)

  some_open : not (eqb (bit_and from 65535) 0) ≡ some_bank 16 (λ b. open_by up rank b)
  some_open =
      ap (λ (n : ℕ). not (eqb n 0)) (and_mask from 16) ∙ sym (some_up from 16) ∙ (λ i. some_bank 16 (λ b. sym (up_from up (rank % 2 * 16) b) i))

  abbrev own : ℕ
  own = up / 2 ^ (rank % 2 * 16 + bank)

  is_open : not (eqb (bit_and own 1) 0) ≡ open_by up rank bank
  is_open = ap (λ (n : ℕ). not (eqb n 0)) (and_mask own 1) ∙ go (own % 2) (mod-lt own (omega arith))
    where
      go : (n : ℕ) → n < 2 → not (eqb n 0) ≡ eqb n 1
      go zero l = refl
      go (suc zero) l = refl
      go (suc (suc n)) l = absurd (omega (arith, l))

  is_closed_lem : not (eqb (bit_and own 1) 1) ≡ not (open_by up rank bank)
  is_closed_lem = ap (λ (n : ℕ). not (eqb n 1)) (and_mask own 1)

  pub looks : (k : CommandKind) → not (eqb (bit_and (up / 2 ^ bit_for k rank bank) (looked_at k)) (wanted k)) ≡ wrong_for k bank (λ b. open_by up rank b)
  looks Act = is_open
  looks Rd = is_closed_lem
  looks Wr = is_closed_lem
  looks Prepb = ap (λ (n : ℕ). not (eqb n 0)) (and_zero_r own)
  looks Preab = ap (λ (n : ℕ). not (eqb n 0)) (and_zero_r from)
  looks Refab = some_open
  looks Refpb = is_open

-- A PLACED COMMAND BY ITS SLOT: its kind, and its bank's bit
module _ (c : Command) (rl : c.rank < 2) (bl : c.bank < 16) where
  slot_is_lem : (k : CommandKind) → slot_is k (slot_of c) ≡ same_kind c.kind k
  slot_is_lem k = go (same_kind c.kind k) refl
    where
      tells : slot_of c / 16 % 7 ≡ code_of c.kind - 1
      tells = omega (arith, code_low c.kind, code_high c.kind)

      go : (b : Bool) → same_kind c.kind k ≡ b → slot_is k (slot_of c) ≡ b
      go true e = eq-eqb (slot_of c / 16 % 7) (code_of k - 1) (tells ∙ ap (λ (n : ℕ). n - 1) (eqb-true (code_of c.kind) (code_of k) e))
      go false e = ne_eqb (slot_of c / 16 % 7) (code_of k - 1) (let n = eqb-false (code_of c.kind) (code_of k) e in omega (arith, tells, code_low c.kind, code_low k))

  first_is : first_bit (slot_of c) ≡ c.rank * 16
  first_is = go (ltb (slot_of c) rank_slots) refl
    where
      go : (b : Bool) → ltb (slot_of c) rank_slots ≡ b → cond b 0 16 ≡ c.rank * 16
      go true e = omega (arith, ltb-true (slot_of c) rank_slots e, code_low c.kind)
      go false e = omega (arith, ltb-false (slot_of c) rank_slots e, code_high c.kind)

  bit_is : bit_of (slot_of c) ≡ c.rank * 16 + c.bank
  bit_is = let own : slot_of c % 16 ≡ c.bank = omega arith in λ i. first_is i + own i

  module _ (rank bank : ℕ) (rankl : rank < 2) (bankl : bank < 16) where
    same_bit : eqb (bit_of (slot_of c)) (rank % 2 * 16 + bank) ≡ (eqb c.rank rank && eqb c.bank bank)
    same_bit = rw bit_is (go (eqb c.rank rank) (eqb c.bank bank) refl refl)
      where
        go : (p q : Bool) → eqb c.rank rank ≡ p → eqb c.bank bank ≡ q → eqb (c.rank * 16 + c.bank) (rank % 2 * 16 + bank) ≡ (p && q)
        go true true e f = eq-eqb (c.rank * 16 + c.bank) (rank % 2 * 16 + bank) (omega (arith, eqb-true c.rank rank e, eqb-true c.bank bank f))
        go true false e f = ne_eqb (c.rank * 16 + c.bank) (rank % 2 * 16 + bank) (let n = eqb-false c.bank bank f in omega (arith, eqb-true c.rank rank e))
        go false q e f = ne_eqb (c.rank * 16 + c.bank) (rank % 2 * 16 + bank) (let n = eqb-false c.rank rank e in omega arith)

    -- what the command leaves of a bank: closed with its rank, opened or closed by itself, or as it was
    rank_closed_up : (m : ℕ) → is_up (rank_closed m (slot_of c)) (rank % 2 * 16 + bank) ≡ cond (eqb c.rank rank) false (is_up m (rank % 2 * 16 + bank))
    rank_closed_up m = go (ltb (slot_of c) rank_slots) refl rank rankl
      where
        at : (r : ℕ) (n : ℕ) → is_up n (r % 2 * 16 + bank) ≡ is_up (n / 2 ^ (r % 2 * 16)) bank
        at r n = up_from n (r % 2 * 16) bank

        lower : (n : ℕ) → n / 1 ≡ n
        lower n = omega arith

        go : (b : Bool) → ltb (slot_of c) rank_slots ≡ b → (r : ℕ) → r < 2
            → is_up (cond b (m / 65536 * 65536) (m % 65536)) (r % 2 * 16 + bank) ≡ cond (eqb c.rank r) false (is_up m (r % 2 * 16 + bank))
        go true e zero l =
            let own : eqb c.rank 0 ≡ true = eq-eqb c.rank 0 (omega (arith, ltb-true (slot_of c) rank_slots e, code_low c.kind)) in
            rw own (at 0 (m / 65536 * 65536) ∙ ap (λ (n : ℕ). is_up n bank) (lower (m / 65536 * 65536)) ∙ multiple_down (m / 65536) 16 bank bankl)
        go true e (suc zero) l =
            let other : eqb c.rank 1 ≡ false = ne_eqb c.rank 1 (omega (arith, ltb-true (slot_of c) rank_slots e, code_low c.kind)) in
            let above : m / 65536 * 65536 / 65536 ≡ m / 65536 = omega arith in
            rw other (at 1 (m / 65536 * 65536) ∙ ap (λ (n : ℕ). is_up n bank) above ∙ sym (at 1 m))
        go false e zero l =
            let other : eqb c.rank 0 ≡ false = ne_eqb c.rank 0 (omega (arith, ltb-false (slot_of c) rank_slots e, code_high c.kind)) in
            rw other (at 0 (m % 65536) ∙ ap (λ (n : ℕ). is_up n bank) (lower (m % 65536)) ∙ low_up m 16 bank bankl ∙ sym (ap (λ (n : ℕ). is_up n bank) (lower m)) ∙ sym (at 0 m))
        go false e (suc zero) l =
            let own : eqb c.rank 1 ≡ true = eq-eqb c.rank 1 (omega (arith, ltb-false (slot_of c) rank_slots e, code_high c.kind)) in
            let above : m % 65536 / 65536 ≡ 0 = omega arith in
            rw own (at 1 (m % 65536) ∙ ap (λ (n : ℕ). is_up n bank) above ∙ none_up bank)
        go b e (suc (suc r)) l = absurd (omega (arith, l))

    after_up : (m : ℕ) → is_up (banks_after m (slot_of c)) (rank % 2 * 16 + bank) ≡ cond (speaks_of rank bank c) (same_kind c.kind Act) (is_up m (rank % 2 * 16 + bank))
    unfolding banks_after
    after_up m = rw (slot_is_lem Act, slot_is_lem Prepb, slot_is_lem Preab) (by c.kind (eqb c.rank rank) (eqb c.bank bank) same_bit (rank_closed_up m))
      where
        bit : ℕ
        bit = bit_of (slot_of c)

        j : ℕ
        j = rank % 2 * 16 + bank

        silent : (b : Bool) → is_up m j ≡ cond (b && false) false (is_up m j)
        silent true = refl
        silent false = refl

        by : (k : CommandKind) (here own : Bool) → eqb bit j ≡ (here && own) → is_up (rank_closed m (slot_of c)) j ≡ cond here false (is_up m j)
            → is_up (cond (same_kind k Act) (opened m bit) (cond (same_kind k Prepb) (closed m bit) (cond (same_kind k Preab) (rank_closed m (slot_of c)) m))) j
            ≡ cond (here && (same_kind k Preab || (same_kind k Act || same_kind k Prepb) && own)) (same_kind k Act) (is_up m j)
        by Act here own same all = opened_up m bit j ∙ ap (λ (b : Bool). cond b true (is_up m j)) same
        by Rd here own same all = silent here
        by Wr here own same all = silent here
        by Prepb here own same all = closed_up m bit j ∙ ap (λ (b : Bool). cond b false (is_up m j)) same
        by Preab true own same all = all
        by Preab false own same all = all
        by Refab here own same all = silent here
        by Refpb here own same all = silent here

-- THE SURVIVORS' BANKS
pub banks_in_lem : (rank bank : ℕ) → rank < 2 → bank < 16 → (xs : List Stamped) → Rising xs → open_by (banks_in xs) rank bank ≡ is_open_bank rank bank xs
unfolding banks_in is_open_bank
banks_in_lem rank bank rl bl [] r = none_up (rank % 2 * 16 + bank)
banks_in_lem rank bank rl bl (x ∷ xs) r =
    after_up x.command r.0.rank r.0.bank rank bank rl bl (banks_in xs)
    ∙ ap (λ (b : Bool). cond (speaks_of rank bank x.command) (same_kind x.command.kind Act) b) (banks_in_lem rank bank rl bl xs r.2)

module _ (s : Session) (xs : List Stamped) (d : ℕ) (stands : Stands s xs d) where
  abbrev up : ℕ
  up = s.progress.open_banks

  pub banks_same : (rank bank : ℕ) → rank < 2 → bank < 16 → open_by up rank bank ≡ is_open_bank rank bank xs
  banks_same rank bank rl bl = ap (λ (n : ℕ). open_by n rank bank) stands.banks ∙ banks_in_lem rank bank rl bl xs stands.rising

  some_same : (n rank : ℕ) → n ≤ 16 → rank < 2 → some_bank n (λ bank. open_by up rank bank) ≡ some_bank n (λ bank. is_open_bank rank bank xs)
  unfolding some_bank
  some_same zero rank l rl = refl
  some_same (suc n) rank l rl = λ i. banks_same rank n rl (omega (arith, l)) i || some_same n rank (omega (arith, l)) rl i

  pub wrong_same : (c : Command) → c.rank < 2 → c.bank < 16
      → wrong_for c.kind c.bank (λ bank. open_by up c.rank bank) ≡ wrong_for c.kind c.bank (λ bank. is_open_bank c.rank bank xs)
  wrong_same c rl bl = by c.kind
    where
      here : open_by up c.rank c.bank ≡ is_open_bank c.rank c.bank xs
      here = banks_same c.rank c.bank rl bl

      by : (k : CommandKind) → wrong_for k c.bank (λ bank. open_by up c.rank bank) ≡ wrong_for k c.bank (λ bank. is_open_bank c.rank bank xs)
      by Act = here
      by Rd = ap not here
      by Wr = ap not here
      by Prepb = refl
      by Preab = refl
      by Refab = some_same 16 c.rank (omega arith) rl
      by Refpb = here
