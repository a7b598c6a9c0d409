-- `Question::rank` meets its contract: by the kind asked for, its rows.
use mathlib.Core.Path.{sym, ◌∙◌}
use native.Mathlib.Omega.{arith}
use Rattle.scan.proofs.KindRows.{act_rows, data_rows, prepb_rows, preab_rows, refab_rows, refpb_rows}
use Rattle.scan.proofs.timings.Question.rank.Goals as goal

pub returns-in-Act : goal.returns-in-Act
returns-in-Act c =
    let q = c.args.self.now in
    c.max-in-Act.ensures
    ∙ rw (c.max.ensures, c.max-closed.ensures, c.max-open.ensures, c.bank-in-Act.ensures, c.flat-in-Act.ensures, c.flat.ensures, c.bank.ensures, c.row.ensures)
    (sym (act_rows q.timings.now.steps q.last.now q.timings.now.opening q.second q.spot q.timings.now.no_step (omega arith) c.in-Act.is))

pub returns-in-Rd : goal.returns-in-Rd
returns-in-Rd c =
    let q = c.args.self.now in
    c.max-in-Rd-2.ensures
    ∙ rw (c.max-in-Rd.ensures, c.row-in-Rd-2.ensures, c.row-in-Rd.ensures, c.bank-act.ensures)
    (sym (data_rows q.timings.now.steps q.last.now q.timings.now.opening q.second q.spot q.timings.now.no_step (omega arith) c.in-Rd.is))

pub returns-in-Prepb : goal.returns-in-Prepb
returns-in-Prepb c =
    let q = c.args.self.now in
    c.max-in-Prepb-2.ensures
    ∙ rw (c.max-moved.ensures, c.max-in-Prepb.ensures, c.row-in-Prepb.ensures, c.bank-in-Prepb-2.ensures, c.bank-in-Prepb.ensures, c.bank-act-in-Prepb.ensures)
    (sym (prepb_rows q.timings.now.steps q.last.now q.timings.now.opening q.second q.spot q.timings.now.no_step (omega arith) c.in-Prepb.is))

pub returns-in-Preab : goal.returns-in-Preab
returns-in-Preab c =
    let q = c.args.self.now in
    c.max-in-Preab-2.ensures
    ∙ rw (c.max-in-Preab.ensures, c.flat-in-Preab-2.ensures, c.flat-in-Preab.ensures, c.flat-act.ensures)
    (sym (preab_rows q.timings.now.steps q.last.now q.timings.now.opening q.second q.spot q.timings.now.no_step (omega arith) c.in-Preab.is))

pub returns-in-Refab : goal.returns-in-Refab
returns-in-Refab c =
    let q = c.args.self.now in
    c.max-in-Refab-2.ensures
    ∙ rw (c.max-in-Refab.ensures, c.flat-in-Refab-2.ensures, c.flat-in-Refab.ensures, c.flat-prepb.ensures)
    (sym (refab_rows q.timings.now.steps q.last.now q.timings.now.opening q.second q.spot q.timings.now.no_step (omega arith) c.in-Refab.is))

pub returns-in-Refpb : goal.returns-in-Refpb
returns-in-Refpb c =
    let q = c.args.self.now in
    c.max-in-Refpb-2.ensures
    ∙ rw (c.max-in-Refpb.ensures, c.row-in-Refpb.ensures, c.flat-in-Refpb.ensures, c.bank-prepb.ensures)
    (sym (refpb_rows q.timings.now.steps q.last.now q.timings.now.opening q.second q.spot q.timings.now.no_step (omega arith) c.in-Refpb.is))
