-- A line that crosses to C: nothing of the outcome is left open.
use mathlib.Core.Path.{◌≡◌, sym, ◌∙◌}
use mathlib.Core.List.{List}
use Prim.Native.Nat.{ℕ}
use lib.ListN.{length}
use Rattle.text.specs.Lines.{Put}
use Rattle.console.specs.Respond.{Outcome}
use Rattle.console.specs.Say.{line_text}
use Rattle.capi.specs.declared.language.LinePlayed.{LinePlayed}
use Rattle.capi.specs.Language.{PlaysLine}

-- the text is the outcome's own: its word, its numbers, and a space before the bytes, where there are any
pub said : {o : Outcome} {journal before after : List ℕ} {r : LinePlayed} → PlaysLine o journal before after r
    → Put (line_text o.request o.numbers (length o.printed)) 0 before after r.written
said p = rw (p.responds.request, p.responds.numbers, p.responds.count) at p.text

-- DETERMINED, for every state value, any lent bytes, any line and any buffer
pub line_determined : {o : Outcome} {journal journal' before after after' : List ℕ} {r r' : LinePlayed}
    → PlaysLine o journal before after r → PlaysLine o journal' before after' r'
    → (journal ≡ journal') × (after ≡ after') × (r.session ≡ r'.session) × (r.lent ≡ r'.lent) × (r.written ≡ r'.written)
    × (r.hex_from ≡ r'.hex_from) × (r.hex_count ≡ r'.hex_count)
line_determined p q = (
  p.responds.journal ∙ sym q.responds.journal,
  (said p).bytes ∙ sym (said q).bytes,
  p.session ∙ p.responds.state ∙ sym (q.session ∙ q.responds.state),
  p.lent ∙ p.responds.lent ∙ sym (q.lent ∙ q.responds.lent),
  (said p).place ∙ sym (said q).place,
  p.place ∙ p.responds.place ∙ sym (q.place ∙ q.responds.place),
  p.count ∙ p.responds.count ∙ sym (q.count ∙ q.responds.count),
)
