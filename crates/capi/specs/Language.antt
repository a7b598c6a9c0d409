-- What a line of the console's language comes to, as it crosses to C.
use Rattle.std.specs.Prelude.{◌≡◌, not, List, ℕ, eqb}
use Rattle.session.specs.declared.state.Session.{Session}
use Rattle.text.specs.Lines.{Put}
use Rattle.requests.specs.Requests.{asked}
use Rattle.console.specs.declared.respond.Response.{Response}
use Rattle.console.specs.Respond.{Outcome, outcome, Responds}
use Rattle.console.specs.Say.{said_text}
use Rattle.capi.specs.declared.language.LineGiven.{LineGiven}
use Rattle.capi.specs.declared.language.LinePlayed.{LinePlayed}

-- there is a response that the console's own statement allows; its state, what it lends and the place of its bytes cross as they are, and
-- its answer as text at the front of a buffer. Behind the text stand, as hexadecimal, the bytes at that place of the journal
pub record PlaysLine (o : Outcome) (journal before after : List ℕ) (r : LinePlayed) : Type 0 where
  pub response : Response
  pub responds : Responds o response journal
  pub session : r.session ≡ response.session
  pub lent : r.lent ≡ response.lent
  pub text : Put (said_text response.said) 0 before after r.written
  pub place : r.hex_from ≡ response.said.hex_from
  pub count : r.hex_count ≡ response.said.hex_count

-- the call by its name: state, journal and line; what is given beside them; the journal and the buffer after it
abbrev pub Plays : Session → List ℕ → List ℕ → LineGiven → List ℕ → List ℕ → List ℕ → LinePlayed → Type 0
Plays s j line given journal before after r =
    let a = asked line (not (eqb given.ended 0)) (not (eqb given.in_file 0)) in
    PlaysLine (outcome s j given.lent a) journal before after r
