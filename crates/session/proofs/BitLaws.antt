-- Bits of a number: what opening, closing and closing a rank make of each, and what a word's operations come to.
use mathlib.Core.Path.{◌≡◌, refl, sym, ◌∙◌, ap}
use mathlib.Core.Bool.{Bool, true, false, cond, not, ◌||◌, false≢true}
use Prim.Native.Nat.{ℕ, zero, suc, ◌+◌, ◌-◌, ◌*◌, ◌/◌, ◌%◌, ◌^◌, ◌≤◌, ◌<◌, min}
use native.Mathlib.Nat.{pow-suc, div-div-eq-div-mul, div-eq_of_lt, mod-lt, mul_comm, one-mul, min-zero, div-one}
use native.Mathlib.Numerals.{add-one, one-add}
use native.Mathlib.Omega.{arith}
use lib.Dec.{eqb, ltb}
use lib.Bits.{bit_and, bit_or, and_step, and_mask, and_high, or_add_and, shifted_half, shifted_even}
use lib.Pow.{pow_pos, shr-shr, field, mod-mod-pow, mod-pow-add, shl_exact}
use borrow.Author.Tests.{eq-eqb, ne_eqb, eqb-true, eqb-false, ltb-true, ltb-false}
use Rattle.timing.specs.Banks.{some_bank}
use Rattle.session.specs.State.{is_up, opened, closed}

-- the lowest bit, and a bit further up, which is that bit of the half
up_low : (m : ℕ) → is_up m 0 ≡ eqb (m % 2) 1
up_low m = ap (λ (n : ℕ). eqb (n % 2) 1) (div-one m)

up_next : (m i : ℕ) → is_up m (suc i) ≡ is_up (m / 2) i
up_next m i =
    let halved : m / 2 ^ suc i ≡ m / 2 / 2 ^ i = ap (λ (n : ℕ). m / n) (pow-suc 2 i ∙ mul_comm (2 ^ i) 2) ∙ sym (div-div-eq-div-mul m 2 (2 ^ i)) in
    ap (λ (n : ℕ). eqb (n % 2) 1) halved

pub up_from : (m first i : ℕ) → is_up m (first + i) ≡ is_up (m / 2 ^ first) i
up_from m first i = ap (λ (n : ℕ). eqb (n % 2) 1) (sym (shr-shr m first i))

-- a number below a power of two has no bit there
low_down : (m i : ℕ) → m < 2 ^ i → is_up m i ≡ false
low_down m i l = ap (λ (n : ℕ). eqb (n % 2) 1) (div-eq_of_lt l)

up_least : (m i : ℕ) → is_up m i ≡ true → 2 ^ i ≤ m
up_least m i up = go (ltb m (2 ^ i)) refl
  where
    go : (b : Bool) → ltb m (2 ^ i) ≡ b → 2 ^ i ≤ m
    go true e = absurd (false≢true (sym (low_down m i (ltb-true m (2 ^ i) e)) ∙ up))
    go false e = ltb-false m (2 ^ i) e

eqb_suc : (i j : ℕ) → eqb (suc i) (suc j) ≡ eqb i j
eqb_suc i j = go (eqb i j) refl
  where
    go : (b : Bool) → eqb i j ≡ b → eqb (suc i) (suc j) ≡ b
    go true e = eq-eqb (suc i) (suc j) (ap suc (eqb-true i j e))
    go false e = ne_eqb (suc i) (suc j) (let n = eqb-false i j e in omega arith)

-- A STEP THAT PUTS ONE BIT, known by halves: the bit it puts, and no other
module _ (put : ℕ → ℕ → ℕ) (up : Bool) (lowest : (m : ℕ) → (put m 0 / 2 ≡ m / 2) × (eqb (put m 0 % 2) 1 ≡ up))
    (further : (m i : ℕ) → (put m (suc i) / 2 ≡ put (m / 2) i) × (put m (suc i) % 2 ≡ m % 2)) where
  put_up : (m i j : ℕ) → is_up (put m i) j ≡ cond (eqb i j) up (is_up m j)
  put_up m zero zero = up_low (put m 0) ∙ (lowest m).1
  put_up m zero (suc j) = up_next (put m 0) j ∙ ap (λ (n : ℕ). is_up n j) (lowest m).0 ∙ sym (up_next m j) ∙ sym (ap (λ (b : Bool). cond b up (is_up m (suc j))) (ne_eqb 0 (suc j) (omega arith)))
  put_up m (suc i) zero = up_low (put m (suc i)) ∙ ap (λ (n : ℕ). eqb n 1) (further m i).1 ∙ sym (up_low m) ∙ sym (ap (λ (b : Bool). cond b up (is_up m 0)) (ne_eqb (suc i) 0 (omega arith)))
  put_up m (suc i) (suc j) =
      up_next (put m (suc i)) j ∙ ap (λ (n : ℕ). is_up n j) (further m i).0 ∙ put_up (m / 2) i j
      ∙ (λ k. cond (sym (eqb_suc i j) k) up (sym (up_next m j) k))

opened_lowest : (m : ℕ) → (opened m 0 / 2 ≡ m / 2) × (eqb (opened m 0 % 2) 1 ≡ true)
opened_lowest m = rw (up_low m) (go (eqb (m % 2) 1) refl)
  where
    go : (b : Bool) → eqb (m % 2) 1 ≡ b → (cond b m (m + 1) / 2 ≡ m / 2) × (eqb (cond b m (m + 1) % 2) 1 ≡ true)
    go true e = (refl, e)
    go false e = let n = eqb-false (m % 2) 1 e in (omega arith, eq-eqb ((m + 1) % 2) 1 (omega arith))

closed_lowest : (m : ℕ) → (closed m 0 / 2 ≡ m / 2) × (eqb (closed m 0 % 2) 1 ≡ false)
closed_lowest m = rw (up_low m) (go (eqb (m % 2) 1) refl)
  where
    go : (b : Bool) → eqb (m % 2) 1 ≡ b → (cond b (m - 1) m / 2 ≡ m / 2) × (eqb (cond b (m - 1) m % 2) 1 ≡ false)
    go true e = let n = eqb-true (m % 2) 1 e in (omega arith, ne_eqb ((m - 1) % 2) 1 (omega arith))
    go false e = (refl, e)

opened_further : (m i : ℕ) → (opened m (suc i) / 2 ≡ opened (m / 2) i) × (opened m (suc i) % 2 ≡ m % 2)
opened_further m i = rw (up_next m i) (go (is_up (m / 2) i) (2 ^ suc i) (pow-suc 2 i))
  where
    go : (b : Bool) (p : ℕ) → p ≡ 2 ^ i * 2 → (cond b m (m + p) / 2 ≡ cond b (m / 2) (m / 2 + 2 ^ i)) × (cond b m (m + p) % 2 ≡ m % 2)
    go true p e = (refl, refl)
    go false p e = (omega arith, omega arith)

closed_further : (m i : ℕ) → (closed m (suc i) / 2 ≡ closed (m / 2) i) × (closed m (suc i) % 2 ≡ m % 2)
closed_further m i = rw (up_next m i) (go (is_up (m / 2) i) refl (2 ^ suc i) (pow-suc 2 i))
  where
    go : (b : Bool) → is_up (m / 2) i ≡ b → (p : ℕ) → p ≡ 2 ^ i * 2 → (cond b (m - p) m / 2 ≡ cond b (m / 2 - 2 ^ i) (m / 2)) × (cond b (m - p) m % 2 ≡ m % 2)
    go true up p e = let least = up_least (m / 2) i up in (omega arith, omega arith)
    go false up p e = (refl, refl)

pub opened_up : (m i j : ℕ) → is_up (opened m i) j ≡ cond (eqb i j) true (is_up m j)
opened_up = put_up opened true opened_lowest opened_further

pub closed_up : (m i j : ℕ) → is_up (closed m i) j ≡ cond (eqb i j) false (is_up m j)
closed_up = put_up closed false closed_lowest closed_further

-- BITS BELOW A PLACE: kept by the remainder, gone from a multiple
pub low_up : (m k j : ℕ) → j < k → is_up (m % 2 ^ k) j ≡ is_up m j
low_up m zero j l = absurd (omega (arith, l))
low_up m (suc k) zero l = up_low (m % 2 ^ suc k) ∙ ap (λ (n : ℕ). eqb n 1) (ap (λ (n : ℕ). m % 2 ^ n % 2) (sym (add-one k)) ∙ mod-mod-pow m k 1) ∙ sym (up_low m)
low_up m (suc k) (suc j) l =
    up_next (m % 2 ^ suc k) j ∙ ap (λ (n : ℕ). is_up n j) (ap (λ (n : ℕ). m % 2 ^ n / 2) (sym (add-one k)) ∙ field m k 1) ∙ low_up (m / 2) k j (omega (arith, l))
    ∙ sym (up_next m j)

pub multiple_down : (q k j : ℕ) → j < k → is_up (q * 2 ^ k) j ≡ false
multiple_down q zero j l = absurd (omega (arith, l))
multiple_down q (suc k) zero l = up_low (q * 2 ^ suc k) ∙ ap (λ (n : ℕ). eqb n 1) (shifted_even q k)
multiple_down q (suc k) (suc j) l = up_next (q * 2 ^ suc k) j ∙ ap (λ (n : ℕ). is_up n j) (shifted_half q k) ∙ multiple_down q k j (omega (arith, l))

pub none_up : (j : ℕ) → is_up 0 j ≡ false
none_up j = low_down 0 j (pow_pos j)

-- some bit below a place is up exactly if the remainder is not 0
pub some_up : (m k : ℕ) → some_bank k (λ i. is_up m i) ≡ not (eqb (m % 2 ^ k) 0)
unfolding some_bank
some_up m zero = ap (λ (n : ℕ). not (eqb n 0)) (sym (the_rest m))
  where
    the_rest : (n : ℕ) → n % 1 ≡ 0
    the_rest n = omega arith
some_up m (suc k) = rw (some_up m k) (go (m / 2 ^ k % 2) (mod-lt (m / 2 ^ k) (omega arith)) whole)
  where
    whole : m % 2 ^ suc k ≡ m / 2 ^ k % 2 * 2 ^ k + m % 2 ^ k
    whole = ap (λ (n : ℕ). m % 2 ^ n) (sym (one-add k)) ∙ mod-pow-add m 1 k

    go : (b : ℕ) → b < 2 → m % 2 ^ suc k ≡ b * 2 ^ k + m % 2 ^ k → (eqb b 1 || not (eqb (m % 2 ^ k) 0)) ≡ not (eqb (m % 2 ^ suc k) 0)
    go zero l e = let same : m % 2 ^ k ≡ m % 2 ^ suc k = omega (arith, e) in ap (λ (n : ℕ). not (eqb n 0)) same
    go (suc zero) l e = ap not (sym (ne_eqb (m % 2 ^ suc k) 0 (let p = pow_pos k in omega (arith, e))))
    go (suc (suc b)) l e = absurd (omega (arith, l))

-- A WORD'S OPERATIONS
pub one_shifted : (i : ℕ) → i < 32 → (1 * 2 ^ i) % 4294967296 ≡ 2 ^ i
one_shifted i l = shl_exact 1 i 32 (omega arith) (omega (arith, l)) ∙ one-mul (2 ^ i)

pub all_shifted : (i : ℕ) → i ≤ 16 → (65535 * 2 ^ i) % 4294967296 ≡ 65535 * 2 ^ i
all_shifted i l = shl_exact 16 i 32 (omega arith) (omega (arith, l))

pub and_bit : (m i : ℕ) → bit_and m (2 ^ i) ≡ cond (is_up m i) (2 ^ i) 0
and_bit m zero = and_mask m 1 ∙ go (m % 2) (mod-lt m (omega arith)) ∙ sym (ap (λ (b : Bool). cond b 1 0) (up_low m))
  where
    go : (n : ℕ) → n < 2 → n ≡ cond (eqb n 1) 1 0
    go zero l = refl
    go (suc zero) l = refl
    go (suc (suc n)) l = absurd (omega (arith, l))
and_bit m (suc i) =
    and_step m (2 ^ suc i)
    ∙ (λ k. bit_and (m / 2) (half k) * 2 + min (m % 2) (even k))
    ∙ ap (λ (n : ℕ). bit_and (m / 2) (2 ^ i) * 2 + n) (min-zero (m % 2))
    ∙ go (is_up (m / 2) i) (and_bit (m / 2) i) (2 ^ suc i) (pow-suc 2 i)
    ∙ sym (ap (λ (b : Bool). cond b (2 ^ suc i) 0) (up_next m i))
  where
    half : 2 ^ suc i / 2 ≡ 2 ^ i
    half = go (2 ^ suc i) (pow-suc 2 i)
      where
        go : (p : ℕ) → p ≡ 2 ^ i * 2 → p / 2 ≡ 2 ^ i
        go p e = omega arith

    even : 2 ^ suc i % 2 ≡ 0
    even = go (2 ^ suc i) (pow-suc 2 i)
      where
        go : (p : ℕ) → p ≡ 2 ^ i * 2 → p % 2 ≡ 0
        go p e = omega arith

    go : (b : Bool) → bit_and (m / 2) (2 ^ i) ≡ cond b (2 ^ i) 0 → (p : ℕ) → p ≡ 2 ^ i * 2 → bit_and (m / 2) (2 ^ i) * 2 + 0 ≡ cond b p 0
    go true e p f = omega (arith, e, f)
    go false e p f = omega (arith, e)

pub or_bit : (m i : ℕ) → bit_or m (2 ^ i) ≡ opened m i
or_bit m i = go (is_up m i) (and_bit m i)
  where
    go : (b : Bool) → bit_and m (2 ^ i) ≡ cond b (2 ^ i) 0 → bit_or m (2 ^ i) ≡ cond b m (m + 2 ^ i)
    go true e = omega (arith, e, or_add_and m (2 ^ i))
    go false e = omega (arith, e, or_add_and m (2 ^ i))

pub less_bit : (m i : ℕ) → m - bit_and m (2 ^ i) ≡ closed m i
less_bit m i = rw (and_bit m i) (go (is_up m i))
  where
    go : (b : Bool) → m - cond b (2 ^ i) 0 ≡ cond b (m - 2 ^ i) m
    go true = refl
    go false = omega arith

pub less_lower : (m : ℕ) → m - bit_and m 65535 ≡ m / 65536 * 65536
less_lower m = rw (and_mask m 16) (omega arith)

pub less_upper : (m : ℕ) → m < 4294967296 → m - bit_and m 4294901760 ≡ m % 65536
less_upper m l = rw (and_high m 16 16) (omega arith)
