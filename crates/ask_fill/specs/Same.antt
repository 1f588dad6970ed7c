-- The two engines give the same answers. To be read like crates/model_promises/specs/Main.antt: each proof names a
-- theorem of SameLaws.antt.
--
-- `check` and `check_by_flags` (`ask_check::check`) promise `Checked` by their contracts, `fill` and `fill_by_flags`
-- (here) promise `FilledBy`: of the table s the answer r, and what the work area w and the other buffer c hold
-- afterwards. Whoever keeps such a promise, on any table and with chains on or off, answers and leaves what every other
-- does.
use Rattle.std.specs.Prelude.{◌≡◌, Bool, List, ℕ, ◌<◌, get_or}
use Rattle.std.specs.declared.result.Result.{Result}
use Rattle.std.specs.declared.result.Result.TheVariants.{Ok}
use Rattle.model.specs.declared.Refusal.{Refusal}
use Rattle.model.specs.declared.CheckAnswer.{CheckAnswer}
use Rattle.model.specs.declared.CheckAnswer.TheVariants as checks
use Rattle.model.specs.declared.FillAnswer.{FillAnswer}
use Rattle.model.specs.declared.FillAnswer.TheVariants as fills
use Rattle.model.specs.Limits.{CYCLE, SOURCES}
use Rattle.model.specs.Header.{rows_at}
use Rattle.ask_check.specs.Whole.{Checked}
use Rattle.ask_fill.specs.Whole.{FilledBy}
use Rattle.ask_fill.specs.SameLaws.{LongEnough}
use Rattle.ask_fill.specs as beside

-- with the same buffers: the same answer, and the same in both buffers
module _ (chains : Bool) (s w c : List ℕ) {u v d e : List ℕ} where
  pub check_same : {r q : Result CheckAnswer Refusal} → Checked chains s r w u c d → Checked chains s q w v c e
      → (r ≡ q) × (u ≡ v) × (d ≡ e)
  check_same h g = beside.SameLaws.check_same chains s w c h g

  pub fill_same : {r q : Result FillAnswer Refusal} → FilledBy chains s r w u c d → FilledBy chains s q w v c e
      → (r ≡ q) × (u ≡ v) × (d ≡ e)
  fill_same h g = beside.SameLaws.fill_same chains s w c h g

-- with other buffers, none of which is refused for its length (11): the same answer, and the same cycle or sources
module _ (chains : Bool) (s w x c b : List ℕ) {u v d e : List ℕ} where
  pub check_alike : {r q : Result CheckAnswer Refusal} → LongEnough CYCLE w c → LongEnough CYCLE x b
      → Checked chains s r w u c d → Checked chains s q x v b e
      → (r ≡ q) × ((n : ℕ) → r ≡ Ok (checks.Cycle n) → (k : ℕ) → k < CYCLE → get_or d k 0 ≡ get_or e k 0)
  check_alike long wide h g = beside.SameLaws.check_alike chains s w x c b long wide h g

  pub fill_alike : {r q : Result FillAnswer Refusal} → LongEnough SOURCES w c → LongEnough SOURCES x b
      → FilledBy chains s r w u c d → FilledBy chains s q x v b e
      → (r ≡ q) × (r ≡ Ok fills.Filled → (k : ℕ) → k < rows_at s → get_or d k 0 ≡ get_or e k 0)
  fill_alike long wide h g = beside.SameLaws.fill_alike chains s w x c b long wide h g
