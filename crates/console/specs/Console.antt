-- What a step of a console does, which is changed in place.
use Rattle.std.specs.Prelude.{◌≡◌, List, ℕ}
use Rattle.requests.specs.declared.forms.Request.{Request}
use Rattle.console.specs.declared.respond.Console.{Console}
use Rattle.console.specs.declared.respond.Response.{Response}
use Rattle.console.specs.declared.say.Said.{Said}
use Rattle.console.specs.Respond.{outcome_in, Responds}

abbrev pub response_by : Console → Said → Response
response_by c said = record { session = c.session; lent = c.lent; said = said }

-- a request performed, over the same journal
pub record Performs (q : Request) (before : Console) (ns : List ℕ) (c : Console) (said : Said) : Type 0 where
  pub responds : Responds (outcome_in before.session before.journal.now before.lent q ns) (response_by c said) c.journal.now
  pub same : c.journal.ghost_name ≡ before.journal.ghost_name

-- a question leaves all as it was
abbrev pub Answers : Request → Console → List ℕ → Said → Type 0
Answers q c ns said = Responds (outcome_in c.session c.journal.now c.lent q ns) (response_by c said) c.journal.now
