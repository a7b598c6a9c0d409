-- Which rows can ask, by the kind asked for: the rows that are left out ask for nothing, and those looked up at one bank for nothing elsewhere. Whether a
-- gap stands between two kinds is computed from the list of rules, for every edition and mode.
use mathlib.Core.Path.{◌≡◌, refl, sym, ◌∙◌, subst}
use mathlib.Core.Logic.{◌⊎◌, ⊎_elim}
use mathlib.Core.Bool.{Bool, ◌&&◌}
use mathlib.Core.List.{List}
use Prim.Native.Nat.{ℕ, ◌%◌, ◌<◌, max}
use native.Mathlib.Nat.{zero-max, max-zero}
use lib.Dec.{T}
use lib.ListN.{get_or}
use Rattle.timing.specs.declared.kinds.CommandKind.{CommandKind}
use Rattle.timing.specs.declared.kinds.CommandKind.TheVariants.{Act, Rd, Wr, Prepb, Preab, Refab, Refpb}
use Rattle.timing.specs.declared.rules.Opening.{Opening}
use Rattle.timing.specs.Rules.{class_for, rules, covers, matching, rule_gap}
use Rattle.timing.proofs.TableLaws.{silent, silent_below}
use Rattle.timing.proofs.Truth.{and_left, and_right}
use Rattle.session.specs.declared.stamps.Stamp.{Stamp}
use Rattle.scan.specs.Rows.{max_to, bank_ask, row_ask, rank_ask}
use Rattle.scan.proofs.RowLaws.{one_whole, none_whole}

-- no gap from a first kind in any class but 0, and none in any
unfoldable lonely : CommandKind → CommandKind → Bool
lonely first second = silent (class_for first second 1) first second && silent (class_for first second 2) first second

unfoldable mute : CommandKind → CommandKind → Bool
mute first second = silent (class_for first second 0) first second && lonely first second

act_gaps : T (mute Rd Act) × T (mute Wr Act) × T (lonely Prepb Act) × T (lonely Refpb Act)
unfolding mute lonely silent silent_below rule_gap matching covers rules
act_gaps = (tt, tt, tt, tt)

rd_gaps : T (lonely Act Rd) × T (mute Prepb Rd) × T (mute Preab Rd) × T (mute Refab Rd) × T (mute Refpb Rd)
unfolding mute lonely silent silent_below rule_gap matching covers rules
rd_gaps = (tt, tt, tt, tt, tt)

wr_gaps : T (lonely Act Wr) × T (mute Prepb Wr) × T (mute Preab Wr) × T (mute Refab Wr) × T (mute Refpb Wr)
unfolding mute lonely silent silent_below rule_gap matching covers rules
wr_gaps = (tt, tt, tt, tt, tt)

prepb_gaps : T (lonely Act Prepb) × T (lonely Rd Prepb) × T (lonely Wr Prepb) × T (mute Preab Prepb) × T (mute Refab Prepb) × T (mute Refpb Prepb)
unfolding mute lonely silent silent_below rule_gap matching covers rules
prepb_gaps = (tt, tt, tt, tt, tt, tt)

preab_gaps : T (mute Prepb Preab) × T (mute Preab Preab) × T (mute Refab Preab) × T (mute Refpb Preab)
unfolding mute lonely silent silent_below rule_gap matching covers rules
preab_gaps = (tt, tt, tt, tt)

refab_gaps : T (mute Act Refab) × T (mute Rd Refab) × T (mute Wr Refab) × T (mute Refpb Refab)
unfolding mute lonely silent silent_below rule_gap matching covers rules
refab_gaps = (tt, tt, tt, tt)

refpb_gaps : T (lonely Prepb Refpb) × T (mute Act Refpb) × T (mute Rd Refpb) × T (mute Wr Refpb) × T (mute Refab Refpb)
unfolding mute lonely silent silent_below rule_gap matching covers rules
refpb_gaps = (tt, tt, tt, tt, tt)

module _ (steps : List ℕ) (last : List Stamp) (o : Opening) (second : CommandKind) (spot : ℕ) (none : get_or steps 0 0 ≡ 0) (bank : spot % 16 < 16) where
  abbrev row : CommandKind → ℕ
  row = row_ask steps last o second spot

  abbrev one : CommandKind → ℕ
  one first = bank_ask steps last o second spot first (spot % 16)

  seven : rank_ask steps last o second spot ≡ max (max (max (max (max (max (max 0 (row Act)) (row Rd)) (row Wr)) (row Prepb)) (row Preab)) (row Refab)) (row Refpb)
  unfolding rank_ask max_to
  seven = refl

  module _ {kind : CommandKind} (asked : second ≡ kind) (first : CommandKind) where
    lone : T (lonely first kind) → row first ≡ one first
    unfolding lonely
    lone t = sym (one_whole steps last o second spot first none bank (subst (λ (k : CommandKind). T (lonely first k)) (sym asked) t))

    off : T (mute first kind) → row first ≡ 0
    unfolding mute lonely
    off t =
        let known : T (mute first (second)) = subst (λ (k : CommandKind). T (mute first k)) (sym asked) t in
        let own = silent (class_for first (second) 0) first (second) in
        none_whole steps last o second spot first none bank (and_left own (lonely first (second)) known) (and_right own (lonely first (second)) known)

  pub act_rows : second ≡ Act → rank_ask steps last o second spot ≡ max (max (max (max (row Act) (one Prepb)) (row Preab)) (row Refab)) (one Refpb)
  act_rows e =
      let g = act_gaps in
      seven ∙ rw (off e Rd g.0, off e Wr g.1, lone e Prepb g.2, lone e Refpb g.3) (simp (zero-max, max-zero))

  pub data_rows : (second ≡ Rd) ⊎ (second ≡ Wr) → rank_ask steps last o second spot ≡ max (max (one Act) (row Rd)) (row Wr)
  data_rows =
      ⊎_elim (λ e. let g = rd_gaps in seven ∙ rw (lone e Act g.0, off e Prepb g.1, off e Preab g.2, off e Refab g.3, off e Refpb g.4) (simp (zero-max, max-zero)))
      (λ e. let g = wr_gaps in seven ∙ rw (lone e Act g.0, off e Prepb g.1, off e Preab g.2, off e Refab g.3, off e Refpb g.4) (simp (zero-max, max-zero)))

  pub prepb_rows : second ≡ Prepb → rank_ask steps last o second spot ≡ max (max (max (one Act) (one Rd)) (one Wr)) (row Prepb)
  prepb_rows e =
      let g = prepb_gaps in
      seven ∙ rw (lone e Act g.0, lone e Rd g.1, lone e Wr g.2, off e Preab g.3, off e Refab g.4, off e Refpb g.5) (simp (zero-max, max-zero))

  pub preab_rows : second ≡ Preab → rank_ask steps last o second spot ≡ max (max (row Act) (row Rd)) (row Wr)
  preab_rows e =
      let g = preab_gaps in
      seven ∙ rw (off e Prepb g.0, off e Preab g.1, off e Refab g.2, off e Refpb g.3) (simp (zero-max, max-zero))

  pub refab_rows : second ≡ Refab → rank_ask steps last o second spot ≡ max (max (row Prepb) (row Preab)) (row Refab)
  refab_rows e =
      let g = refab_gaps in
      seven ∙ rw (off e Act g.0, off e Rd g.1, off e Wr g.2, off e Refpb g.3) (simp (zero-max, max-zero))

  pub refpb_rows : second ≡ Refpb → rank_ask steps last o second spot ≡ max (max (one Prepb) (row Preab)) (row Refpb)
  refpb_rows e =
      let g = refpb_gaps in
      seven ∙ rw (lone e Prepb g.0, off e Act g.1, off e Rd g.2, off e Wr g.3, off e Refab g.4) (simp (zero-max, max-zero))
