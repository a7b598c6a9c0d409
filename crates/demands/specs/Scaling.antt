-- Document 02, request 2026-06: given journal room, a session at ratio r and one with ratio 1, otherwise equal settings and every cycle times r, still
-- within the limit, accept the same offers and take-backs, call for call.
use Rattle.std.specs.Prelude.{List, [], ◌∷◌, ℕ, ◌<◌, length}
use Rattle.history.specs.Answers.{room_of, Reply}
use Rattle.history.specs.Struck.{Call}
use Rattle.history.specs.Scaled.{scaled, Within}
use Rattle.session.specs.declared.state.Session.{Session}
use Rattle.statements.specs.Calls.{Outcome}

-- two runs of calls, refused ones among them, each over its own journal with room at every call: the numbers that each call got at ratio r and at ratio 1
pub data SideBySide (r : ℕ) : Session → List ℕ → Session → List ℕ → List Call → List ℕ → List ℕ → Type 0 where
  ends : {s s' : Session} {j j' : List ℕ} → SideBySide r s j s' j' [] [] []
  goes : {s s' next next' : Session} {j j' after after' : List ℕ} {c : Call} {cs : List Call} {ns ns' : List ℕ} (reply reply' : Reply)
      → Within r c → s.progress.records < room_of (length j) → s'.progress.records < room_of (length j')
      → Outcome c s j reply next after → Outcome (scaled r c) s' j' reply' next' after' → SideBySide r next after next' after' cs ns ns'
      → SideBySide r s j s' j' (c ∷ cs) (reply.number ∷ ns) (reply'.number ∷ ns')
