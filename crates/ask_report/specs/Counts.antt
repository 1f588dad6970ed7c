-- What the counts of a report come to. Assumes nothing.
use Rattle.std.specs.Prelude.{◌≡◌, ℕ, zero, suc, ◌-◌, ◌≤◌, ◌<◌, pos, Float}
use Rattle.std.proofs.Math.Path.{refl, ap}
use Rattle.std.proofs.Common.{sym, ◌∙◌, arith, ne_eqb}
use Rattle.std.specs.Float.{binary64}
use Rattle.std.specs.Float.Ieee.{div, of_int}
use Rattle.std.specs.declared.option.Option.{Option}
use Rattle.std.specs.declared.option.Option.TheVariants.{None, Some}
use Rattle.std.specs.declared.result.Result.TheVariants.{Ok}
use Rattle.model.specs.declared.ReportAnswer.TheVariants as given
use Rattle.model.specs.Table.{Table}
use Rattle.model.specs.Report.{racing, share_of, report_of, with_share, report_on, told_answer}
use Rattle.model_laws.specs.ShareLaws.{MOST, divided}
use Rattle.sets_races.specs.declared.Counts.{Counts}
use Rattle.sets_races.specs.Counted.{Counted}

-- ---- laws: the report

-- one division of two 16-bit counts
pub share_some : (n d : ℕ) → n ≤ MOST → d ≤ MOST → (d ≡ 0 → ⊥) → Some (div binary64 (of_int binary64 (pos n)) (of_int binary64 (pos d))) ≡ share_of n d
unfolding share_of
share_some n d h k f = rw (ne_eqb d 0 f) (ap (λ (x : Float). Some x) (divided n d h k (positive d f)))
  where
    positive : (m : ℕ) → (m ≡ 0 → ⊥) → 0 < m
    positive zero g = absurd (g refl)
    positive (suc m) g = omega arith

-- the four counts, and the share
module _ {t : Table} {c : Counts} (h : Counted t c) {r : ℕ} {s : Option Float} (rest : r ≡ c.conflicting - c.mutuals - c.ordered) (share_is : s ≡ share_of r c.conflicting) where
  racing_is : r ≡ racing t
  racing_is = let e = h.racing in omega arith

  shared : with_share s t ≡ report_on t
  unfolding report_on
  shared = rw (← racing_is, ← h.conflicting, share_is) refl

  pub counted_none : s ≡ None → Ok given.NoPairs ≡ told_answer (report_on t)
  unfolding with_share told_answer
  counted_none e = ap told_answer (ap (λ (z : Option Float). with_share z t) (sym e) ∙ shared)

  pub counted_some : (f : Float) → s ≡ Some f
      → Ok (given.Report (record { conflicting = c.conflicting; mutuals = c.mutuals; ordered = c.ordered; racing = r; share = f }))
      ≡ told_answer (report_on t)
  unfolding with_share report_of told_answer
  counted_some f e =
      let told : with_share (Some f) t ≡ report_on t = ap (λ (z : Option Float). with_share z t) (sym e) ∙ shared in
      rw (h.conflicting, h.mutuals, h.ordered, racing_is) (ap told_answer told)
