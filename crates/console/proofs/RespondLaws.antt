-- Laws of responses.
use mathlib.Core.Path.{◌≡◌, refl, sym, ◌∙◌, ap, subst}
use mathlib.Core.List.{List, [], ◌∷◌, ◌++◌}
use Prim.Native.Nat.{ℕ, zero, suc, ◌+◌, ◌≤◌, ◌<◌}
use native.Mathlib.Omega.{arith}
use lib.ListN.{length, take, drop, length-drop}
use lib.Seq.{length-take-le}
use denote.Param.Members.{Mut, Called}
use Rattle.std.specs.List.{slice_index_or}
use Rattle.std.specs.Array.{IsFromFnResultFrom, IsFromFnResult}
use Rattle.history.specs.Answers.{Reply, Verdict}
use Rattle.session.specs.declared.state.Session.{Session}
use Rattle.statements.specs.Bursts.{Burst, ended, over}
use Rattle.journal.specs.Restore.{Part, part_of}
use Rattle.statements.specs.Exact.{Left, RestoredIn, RestoreLeft, stretch_in}
use Rattle.requests.specs.declared.forms.Request.{Request}
use Rattle.requests.specs.declared.forms.Request.TheVariants as asks
use Rattle.console.specs.declared.say.Said.{Said}
use Rattle.console.specs.declared.respond.Response.{Response}
use Rattle.console.specs.Say.{burst_numbers, said_of, with_bytes}
use Rattle.console.specs.Respond.{at, each_from, prints, says, called, bursts, restores, Responds}
use Rattle.console.proofs.SayLaws.{array_front}

abbrev pub response_of : Session → ℕ → Said → Response
response_of s lent a = record { session = s; lent = lent; said = a }

module _ (q : Request) (ns : List ℕ) (s : Session) (lent : ℕ) (j : List ℕ) where
  -- numbers alone
  pub says_is : (a : Said) → a ≡ said_of q ns → Responds (says q ns s lent j) (response_of s lent a) j
  says_is a e = rw e (record { request = refl; counted = refl; numbers = array_front ns; place = refl; count = refl; printed = refl; state = refl; lent = refl; journal = refl })

  -- with the journal's bytes behind them
  pub prints_is : (a told : Said) (from size : ℕ) → told ≡ said_of q ns → a ≡ with_bytes told from size → from + size ≤ length j
      → Responds (prints q ns from (take size (drop from j)) s lent j) (response_of s lent a) j
  prints_is a told from size e f room =
      let left : size ≤ length (drop from j) = simp length-drop (omega arith) in
      rw (f, e)
      (record { request = refl; counted = refl; numbers = array_front ns; place = refl; count = sym (length-take-le size (drop from j) left); printed = refl; state = refl; lent = refl; journal = refl })

-- a call's answer, which saw the first bytes of the journal
pub called_is : (q : Request) (numbers : Reply → List ℕ) (v : Verdict) (before next : Session) (lent : ℕ) (j : List ℕ) (reply : Reply) (bytes : List ℕ) (a : Said) → Left v before (take lent j) reply next bytes → a ≡ said_of q (numbers reply)
    → Responds (called q numbers v before lent j) (response_of next lent a) (bytes ++ drop lent j)
called_is q numbers v before next lent j reply bytes a left e = rw (← left.answer, ← left.state, ← left.written) (says_is q (numbers reply) next lent (bytes ++ drop lent j) a e)

pub bursts_is : (b : Burst Session) (n : ℕ) (reply : Reply) (next : Session) (lent : ℕ) (j bytes : List ℕ) (a : Said) → ended n reply (over next bytes) ≡ b → a ≡ said_of asks.Burst (burst_numbers n reply)
    → Responds (bursts b lent j) (response_of next lent a) (bytes ++ drop lent j)
bursts_is b n reply next lent j bytes a is e = rw (← is) (says_is asks.Burst (burst_numbers n reply) next lent (bytes ++ drop lent j) a e)

pub restores_is : (v : RestoredIn) (next : Session) (lent : ℕ) (j : List ℕ) (number at : ℕ) (a : Said) → RestoreLeft v number at next → a ≡ said_of asks.Restore (number ∷ at ∷ []) → Responds (restores v lent j) (response_of next lent a) j
restores_is v next lent j number at a left e = rw (← left.answer, ← left.beside, ← left.state) (says_is asks.Restore (number ∷ at ∷ []) next lent j a e)

-- the client's part of what is lent is as long as its place says
pub stretch_size : (s : Session) (lent : ℕ) (j : List ℕ) (p : Part) (bytes : List ℕ) → p ≡ stretch_in s lent → p.start + p.size ≤ lent → lent ≤ length j
    → bytes ≡ part_of (stretch_in s (length (take lent j))) (take lent j) → length bytes ≡ p.size
stretch_size s lent j p bytes e inside low is =
    let all : length (take lent j) ≡ lent = length-take-le lent j low in
    let same : stretch_in s (length (take lent j)) ≡ p = ap (stretch_in s) all ∙ sym e in
    let left : p.size ≤ length (drop p.start (take lent j)) = simp length-drop (omega (arith, all)) in
    ap length (is ∙ ap (λ (q : Part). part_of q (take lent j)) same) ∙ length-take-le p.size (drop p.start (take lent j)) left

-- values made of a request's numbers, place by place
each_is : {A : Type 0} (make : ℕ → A) (n i : ℕ) (ns : List ℕ) (l : List A) → length l ≡ n → ((k : ℕ) (d : A) → k < n → slice_index_or l k d ≡ make (at ns (i + k))) → l ≡ each_from make n i ns
unfolding each_from
each_is make zero i ns [] size each = refl
each_is make zero i ns (x ∷ l) size each = absurd (omega arith)
each_is make (suc n) i ns [] size each = absurd (omega arith)
each_is make (suc n) i ns (x ∷ l) size each =
    let here : i + 0 ≡ i = omega arith in
    let first : x ≡ make (at ns i) = each 0 x (omega arith) ∙ ap (λ (k : ℕ). make (at ns k)) here in
    let rest : l ≡ each_from make n (suc i) ns =
    each_is make n (suc i) ns l (omega arith) (λ k d low. let next : i + suc k ≡ suc i + k = omega arith in each (suc k) d (omega arith) ∙ ap (λ (m : ℕ). make (at ns m)) next) in
    rw (first, rest) refl

-- by a closure that changes nothing
module _ {F A : Type 0} (g : Mut F (ℕ × Unit {0}) A) (f : F) (make : ℕ → A) (from : ℕ) (ns : List ℕ) (pure : (i : ℕ) (y : A) (q : F) → Called g f (i, tt) y q → (y ≡ make (at ns (from + i))) × (q ≡ f)) where
  made_at : (n i : ℕ) (l : List A) → IsFromFnResultFrom g f l i n → (k : ℕ) (d : A) → k < n → slice_index_or l (i + k) d ≡ make (at ns (from + (i + k)))
  made_at zero i l made k d low = absurd (omega arith)
  made_at (suc n) i l (q, y, here, made, more) zero d low = let none : i + 0 ≡ i = omega arith in rw none (here.1 d ∙ (pure i y q made).0)
  made_at (suc n) i l (q, y, here, made, more) (suc k) d low =
      let next : i + suc k ≡ i + 1 + k = omega arith in
      rw next (made_at n (i + 1) l (subst (λ (p : F). IsFromFnResultFrom g p l (i + 1) n) (pure i y q made).1 more) k d (omega arith))

  pub made_is : (n : ℕ) (l : List A) → IsFromFnResult g f l n → l ≡ each_from make n from ns
  made_is n l made = each_is make n from ns l made.long (λ k d low. let none : 0 + k ≡ k = omega arith in subst (λ (m : ℕ). slice_index_or l m d ≡ make (at ns (from + m))) none (made_at n 0 l made.each k d low))
