-- Determined: what it means that nothing is left open.
use Rattle.std.specs.Prelude.{◌≡◌, List, [], ◌∷◌, ℕ}
use Rattle.session.specs.declared.state.Session.{Session}
use Rattle.statements.specs.Calls.{Move, Heard, Does}

-- two outcomes of one move are the same
pub record Same (a a' : Heard) (next next' : Session) (b b' : List ℕ) : Type 0 where
  pub answer : a ≡ a'
  pub state : next ≡ next'
  pub bytes : b ≡ b'

-- a move with the bytes lent to it; an answer with the bytes after it
pub record Lent : Type 0 where
  pub move : Move
  pub bytes : List ℕ

pub record Had : Type 0 where
  pub answer : Heard
  pub bytes : List ℕ

-- later moves from a state, oldest first, each with its own lent bytes of any length
pub data Later : Session → List Lent → List Had → Type 0 where
  ends : {s : Session} → Later s [] []
  goes : {s next : Session} {m : Move} {a : Heard} {lent bytes : List ℕ} {ls : List Lent} {hs : List Had}
      → Does m s lent a next bytes → Later next ls hs → Later s (record { move = m; bytes = lent } ∷ ls) (record { answer = a; bytes = bytes } ∷ hs)

-- for every list of later moves the same answers, stretches and bytes
abbrev pub Alike : Session → Session → Type 0
Alike s t = (ls : List Lent) (hs gs : List Had) → Later s ls hs → Later t ls gs → hs ≡ gs
