-- Laws about the code numbers of the kinds.
use mathlib.Core.Path.{◌≡◌, refl, sym, ◌∙◌, ap}
use mathlib.Core.Bool.{Bool, true, false, cond}
use Prim.Native.Nat.{ℕ, zero, suc, ◌-◌, ◌<◌, ◌≤◌}
use native.Mathlib.Omega.{arith}
use lib.Dec.{lit≤, eqb}
use borrow.Author.Tests.{eqb-true}
use Rattle.std.specs.Prelude.{Option, Some, None}
use Rattle.timing.specs.declared.kinds.CommandKind.{CommandKind}
use Rattle.timing.specs.declared.kinds.CommandKind.TheVariants.{Act, Rd, Wr, Prepb, Preab, Refab, Refpb}
use Rattle.timing.specs.Kinds.{code_of, kind_of}
use Rattle.timing.specs.Rules.{kind_at}

-- every fact about a kind that holds at the seven holds at each
by_kind : (P : CommandKind → Type 0) → P Act → P Rd → P Wr → P Prepb → P Preab → P Refab → P Refpb → (k : CommandKind) → P k
by_kind P a b c d e f g Act = a
by_kind P a b c d e f g Rd = b
by_kind P a b c d e f g Wr = c
by_kind P a b c d e f g Prepb = d
by_kind P a b c d e f g Preab = e
by_kind P a b c d e f g Refab = f
by_kind P a b c d e f g Refpb = g

pub code_low : (k : CommandKind) → 1 ≤ code_of k
code_low = by_kind (λ k. 1 ≤ code_of k) (lit≤ tt) (lit≤ tt) (lit≤ tt) (lit≤ tt) (lit≤ tt) (lit≤ tt) (lit≤ tt)

pub code_high : (k : CommandKind) → code_of k ≤ 7
code_high = by_kind (λ k. code_of k ≤ 7) (lit≤ tt) (lit≤ tt) (lit≤ tt) (lit≤ tt) (lit≤ tt) (lit≤ tt) (lit≤ tt)

-- from a kind to its number and back
pub kind_of_code : (k : CommandKind) → kind_of (code_of k) ≡ Some k
kind_of_code = by_kind (λ k. kind_of (code_of k) ≡ Some k) refl refl refl refl refl refl refl

pub kind_at_code : (k : CommandKind) → kind_at (code_of k - 1) ≡ k
kind_at_code = by_kind (λ k. kind_at (code_of k - 1) ≡ k) refl refl refl refl refl refl refl

-- the place of the kind at a place
pub place_at_lem : (i : ℕ) → i < 7 → code_of (kind_at i) - 1 ≡ i
place_at_lem zero l = refl
place_at_lem (suc zero) l = refl
place_at_lem (suc (suc zero)) l = refl
place_at_lem (suc (suc (suc zero))) l = refl
place_at_lem (suc (suc (suc (suc zero)))) l = refl
place_at_lem (suc (suc (suc (suc (suc zero))))) l = refl
place_at_lem (suc (suc (suc (suc (suc (suc zero)))))) l = refl
place_at_lem (suc (suc (suc (suc (suc (suc (suc n))))))) l = absurd (omega (arith, l))

abbrev kind_or : Option CommandKind → CommandKind
kind_or (Some k) = k
kind_or None = Act

-- and from a number that names a kind to the kind and back
pub code_of_kind : (n : ℕ) (k : CommandKind) → kind_of n ≡ Some k → code_of k ≡ n
code_of_kind n k = go (eqb n 1) (eqb n 2) (eqb n 3) (eqb n 4) (eqb n 5) (eqb n 6) (eqb n 7) refl refl refl refl refl refl refl
  where
    by : (m : ℕ) (j : CommandKind) → code_of j ≡ m → eqb n m ≡ true → Some j ≡ Some k → code_of k ≡ n
    by m j c e q = ap code_of (sym (ap kind_or q)) ∙ c ∙ sym (eqb-true n m e)

    go : (a b c d e f g : Bool) → eqb n 1 ≡ a → eqb n 2 ≡ b → eqb n 3 ≡ c → eqb n 4 ≡ d → eqb n 5 ≡ e → eqb n 6 ≡ f → eqb n 7 ≡ g
        → cond a (Some Act) (cond b (Some Rd) (cond c (Some Wr) (cond d (Some Prepb) (cond e (Some Preab) (cond f (Some Refab) (cond g (Some Refpb) None)))))) ≡ Some k
        → code_of k ≡ n
    go true b c d e f g p1 p2 p3 p4 p5 p6 p7 q = by 1 Act refl p1 q
    go false true c d e f g p1 p2 p3 p4 p5 p6 p7 q = by 2 Rd refl p2 q
    go false false true d e f g p1 p2 p3 p4 p5 p6 p7 q = by 3 Wr refl p3 q
    go false false false true e f g p1 p2 p3 p4 p5 p6 p7 q = by 4 Prepb refl p4 q
    go false false false false true f g p1 p2 p3 p4 p5 p6 p7 q = by 5 Preab refl p5 q
    go false false false false false true g p1 p2 p3 p4 p5 p6 p7 q = by 6 Refab refl p6 q
    go false false false false false false true p1 p2 p3 p4 p5 p6 p7 q = by 7 Refpb refl p7 q
    go false false false false false false false p1 p2 p3 p4 p5 p6 p7 q = absurd (let z : ◌≡◌ {A = ℕ} 0 1 = cc in omega arith)
