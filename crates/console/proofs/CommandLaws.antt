-- Four numbers of a request are a command.
use mathlib.Core.Path.{◌≡◌, refl, ◌∙◌}
use mathlib.Core.List.{List}
use Prim.Native.Nat.{ℕ, zero, suc, ◌+◌, ◌*◌, ◌<◌}
use native.Mathlib.Omega.{arith}
use lib.ListN.{take, drop, get_or}
use Rattle.std.specs.Prelude.{map}
use Rattle.std.specs.Simd.{first_chunks}
use Rattle.std.proofs.lemmas.List.{drop-drop, get_or-take, get_or-drop}
use Rattle.console.specs.Respond.{offer_at, offers_in}

number_is : (ns : List ℕ) (m k : ℕ) → k < 4 → get_or (take 4 (drop m ns)) k 0 ≡ get_or ns (m + k) 0
number_is ns m k low = get_or-take 4 (drop m ns) k 0 low ∙ get_or-drop m ns k 0

command_is : (ns : List ℕ) (i : ℕ) → offer_at (take 4 (drop (4 * i) ns)) 0 ≡ offer_at ns i
command_is ns i =
    let m = 4 * i in
    let none : m + 0 ≡ m = omega arith in
    rw (number_is ns m 0 (omega arith), number_is ns m 1 (omega arith), number_is ns m 2 (omega arith), number_is ns m 3 (omega arith), none) refl

-- the library's chunks of four from the i-th on
pub commands_are : (n i : ℕ) (ns : List ℕ) → map (λ command. offer_at command 0) (first_chunks 4 n (drop (4 * i) ns)) ≡ offers_in n i ns
unfolding offers_in
commands_are zero i ns = refl
commands_are (suc n) i ns =
    let next : 4 * i + 4 ≡ 4 * (i + 1) = omega arith in
    rw (command_is ns i, drop-drop 4 (4 * i) ns, next, commands_are n (i + 1) ns) refl
