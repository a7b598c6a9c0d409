-- `Session::fresh` meets its contract: each number of it is 0.
use lib.ListN.{replicate}
use Rattle.timing.specs.declared.clocks.ControllerCycles.{ControllerCycles}
use Rattle.timing.specs.declared.clocks.DramCycles.{DramCycles}
use Rattle.timing.specs.Clocks.{cycles}
use Rattle.session.specs.declared.stamps.Stamp.{Stamp}
use Rattle.session.specs.Stamps.{stamp}
use Rattle.session.specs.State.{max_depth, slots, fresh_state}
use Rattle.session.proofs.FreshLaws.{all_same}
use Rattle.session.proofs.state.Session.fresh.Goals as goal

pub returns : goal.returns
unfolding fresh_state
returns c =
    let s = c.default.ensures in
    let e = c.default-2.ensures in
    let p = c.default-3.ensures in
    let t = c.default-4.ensures in
    let activates = all_same _ (stamp 0) (λ (x : Stamp) z. λ i. record { 0 = z i }) c.default-3.result.activates 8 p.0 in
    let rounded = all_same _ (cycles 0) (λ (x : ControllerCycles) z. λ i. record { 0 = z i }) c.default-4.result.rounded 20 t.0 in
    let gaps = all_same _ (record { 0 = 0 }) (λ (x : DramCycles) z. λ i. record { 0 = z i }) c.default-4.result.gaps 20 t.1.0 in
    λ i.
    record {
      last = replicate slots (record { 0 = s i });
      entries = replicate max_depth (record { slot = e.0 i; open_banks = e.1.0 i; earlier = record { 0 = e.1.1.0 i }; pushed_out = record { 0 = e.1.1.1.0 i }; latest = record { 0 = e.1.1.1.1 i } });
      progress =
          record { activates = activates i; latest = record { 0 = p.1.0 i }; position = p.1.1.0 i; survivors = p.1.1.1.0 i; depth = p.1.1.1.1.0 i; records = p.1.1.1.1.1.0 i; open_banks = p.1.1.1.1.1.1 i };
      terms =
          record {
            rounded = rounded i;
            gaps = gaps i;
            opening = record { ratio = t.1.1.0.0 i; ranks = t.1.1.0.1.0 i; mode = t.1.1.0.1.1.0 i; edition = t.1.1.0.1.1.1.0 i; client = t.1.1.0.1.1.1.1 i };
            number = t.1.1.1.0 i;
            is_open = t.1.1.1.1 i;
          };
    }
