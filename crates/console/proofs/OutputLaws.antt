-- Bytes as hexadecimal: two digits for each byte.
use mathlib.Core.Path.{◌≡◌, refl}
use mathlib.Core.List.{List, [], ◌∷◌}
use Prim.Native.Nat.{ℕ, zero, suc, ◌+◌, ◌*◌, ◌/◌, ◌%◌, ◌≤◌, ◌<◌}
use native.Mathlib.Omega.{arith}
use lib.ListN.{length, get_or, set}
use lib.Seq.{paste, paste-suc}
use Rattle.console.specs.Output.{hex_digit, hex_text}

pub hex_size : (bytes : List ℕ) → length (hex_text bytes) ≡ 2 * length bytes
unfolding hex_text
hex_size [] = refl
hex_size (b ∷ bs) = omega (arith, hex_size bs)

hex_at : (bytes : List ℕ) (i : ℕ) → i < length bytes → (get_or (hex_text bytes) (2 * i) 0 ≡ hex_digit (get_or bytes i 0 / 16)) × (get_or (hex_text bytes) (suc (2 * i)) 0 ≡ hex_digit (get_or bytes i 0 % 16))
unfolding hex_text
hex_at [] i low = absurd (omega arith)
hex_at (b ∷ bs) zero low = (refl, refl)
hex_at (b ∷ bs) (suc i) low =
    let twice : 2 * suc i ≡ suc (suc (2 * i)) = omega arith in
    let more = hex_at bs i (omega arith) in
    (rw twice more.0, rw twice more.1)

-- a turn of the loop: both digits of a byte
pub hex_next : (bytes out : List ℕ) (at i : ℕ) → i < length bytes → at + 2 * length bytes ≤ length out
    → set (set (paste out at (hex_text bytes) (2 * i)) (at + 2 * i) (hex_digit (get_or bytes i 0 / 16))) (at + 2 * i + 1) (hex_digit (get_or bytes i 0 % 16)) ≡ paste out at (hex_text bytes) (2 * (i + 1))
hex_next bytes out at i low room =
    let all = hex_size bytes in
    let digits = hex_at bytes i low in
    let place : at + 2 * i + 1 ≡ at + suc (2 * i) = omega arith in
    let twice : 2 * (i + 1) ≡ suc (suc (2 * i)) = omega arith in
    rw (← digits.0, ← digits.1, place, twice, paste-suc out at (hex_text bytes) (2 * i) 0 (omega arith) (omega arith))
    (paste-suc out at (hex_text bytes) (suc (2 * i)) 0 (omega arith) (omega arith))
