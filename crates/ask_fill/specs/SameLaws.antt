-- What the page Same says, proved. Assumes nothing.
use Rattle.std.specs.Prelude.{◌≡◌, refl, Bool, true, false, cond, List, ◌++◌, ℕ, ◌≤◌, ◌<◌, ltb, length, get_or, drop}
use Rattle.std.proofs.Common.{sym, ap, ◌∙◌, arith, le-leb}
use Rattle.std.proofs.Math.ListN.{get_or-append}
use Rattle.finite.specs.Logic.{◌and◌, and_true}
use Rattle.finite.specs.Lists.{tabulate, length_tabulate}
use Rattle.std.specs.declared.result.Result.{Result}
use Rattle.std.specs.declared.result.Result.TheVariants.{Ok, Err}
use Rattle.model.specs.declared.Admission.{Admission}
use Rattle.model.specs.declared.Admission.TheVariants.{Admitted, Refused}
use Rattle.model.specs.declared.Refusal.{Refusal}
use Rattle.model.specs.declared.CheckAnswer.{CheckAnswer}
use Rattle.model.specs.declared.CheckAnswer.TheVariants as checks
use Rattle.model.specs.declared.FillAnswer.{FillAnswer}
use Rattle.model.specs.declared.FillAnswer.TheVariants as fills
use Rattle.model.specs.Limits.{WORK, CYCLE, SOURCES}
use Rattle.model.specs.Table.{Table, table_under, decode, sources_of}
use Rattle.model.specs.Header.{rows_at}
use Rattle.model.specs.Refusal.{buffers_fit, admission, when_admitted}
use Rattle.model.specs.Check as verdict
use Rattle.model.specs.Check.{Verdict, check, check_answer, cycle_after, cycle_number}
use Rattle.model.specs.Fill as outcome
use Rattle.model.specs.Fill.{Outcome, fill, fill_answer, sources_after}
use Rattle.model.specs.Race.{race_row}
use Rattle.model.specs.Edge.{consistent}
use Rattle.door_pieces.specs.Entry.{left_same}
use Rattle.ask_check.specs.Whole.{Said, Checked}
use Rattle.ask_fill.specs.Whole.{Filled, FilledBy}

-- no buffer is refused for its length (11)
abbrev pub LongEnough : ℕ → List ℕ → List ℕ → Type 0
LongEnough needs w c = (WORK ≤ length w) × (needs ≤ length c)

-- ---- with the same buffers: the same answer, and the same in both buffers

module _ (chains : Bool) (s w c : List ℕ) {u v d e : List ℕ} where
  pub check_same : {r q : Result CheckAnswer Refusal} → Checked chains s r w u c d → Checked chains s q w v c e → (r ≡ q) × (u ≡ v) × (d ≡ e)
  check_same h g = (h.0 ∙ sym g.0, h.1 ∙ sym g.1, h.2 ∙ sym g.2)

  pub fill_same : {r q : Result FillAnswer Refusal} → FilledBy chains s r w u c d → FilledBy chains s q w v c e → (r ≡ q) × (u ≡ v) × (d ≡ e)
  fill_same h g = (h.0 ∙ sym g.0, h.1 ∙ sym g.1, h.2 ∙ sym g.2)

-- ---- laws: what is said where no buffer is short

fits : (needs : ℕ) (w c : List ℕ) → LongEnough needs w c → buffers_fit needs (length w) (length c) ≡ true
unfolding buffers_fit
fits needs w c long = and_true (le-leb WORK (length w) long.0) (le-leb needs (length c) long.1)

abbrev said_of : Bool → List ℕ → Verdict
said_of chains s = when_admitted verdict.refused (admission false s) (verdict.verdict (table_under chains s) (sources_of s))

check_is : (chains : Bool) (s w c : List ℕ) → LongEnough CYCLE w c → check chains s (length w) (length c) ≡ said_of chains s
unfolding check
check_is chains s w c long = rw (fits CYCLE w c long) refl

abbrev filled_of : Bool → List ℕ → Outcome
filled_of chains s = when_admitted outcome.refused (admission true s) (outcome.outcome (table_under chains s) (sources_of s))

fill_is : (chains : Bool) (s w c : List ℕ) → LongEnough SOURCES w c → fill chains s (length w) (length c) ≡ filled_of chains s
unfolding fill
fill_is chains s w c long = rw (fits SOURCES w c long) refl

-- a list that begins with n numbers begins so whatever comes after
begins : (f : ℕ → ℕ) (n : ℕ) (x y : List ℕ) (k : ℕ) → k < n → get_or (tabulate f n ++ x) k 0 ≡ get_or (tabulate f n ++ y) k 0
begins f n x y k l =
    let m : k < length (tabulate f n) = rw (length_tabulate f n) l in
    get_or-append (tabulate f n) x 0 k m ∙ sym (get_or-append (tabulate f n) y 0 k m)

-- ---- laws: the cycle

abbrev cycles : Result CheckAnswer Refusal → ℕ
cycles (Ok (checks.Cycle l)) = 1
cycles (Err x) = 0
cycles (Ok (checks.Overwritten o)) = 0
cycles (Ok (checks.Race r)) = 0
cycles (Ok checks.RaceFree) = 0

no_cycle : {A : Type 0} {n : ℕ} (a : Result CheckAnswer Refusal) → cycles a ≡ 0 → a ≡ Ok (checks.Cycle n) → A
no_cycle a z h = let q : ◌≡◌ {A = ℕ} 0 1 = sym z ∙ ap cycles h in absurd (omega arith)

cycle_same : (v : Verdict) {n : ℕ} → check_answer v ≡ Ok (checks.Cycle n) → (c e : List ℕ) (k : ℕ) → k < CYCLE → get_or (cycle_after v c) k 0 ≡ get_or (cycle_after v e) k 0
unfolding check_answer cycle_after
cycle_same (verdict.cyclic rows edges) h c e k l = begins (cycle_number rows edges) CYCLE (drop CYCLE c) (drop CYCLE e) k l
cycle_same (verdict.refused m i) h c e k l = no_cycle (check_answer (verdict.refused m i)) refl h
cycle_same (verdict.overwritten y z b) h c e k l = no_cycle (check_answer (verdict.overwritten y z b)) refl h
cycle_same (verdict.race x y b) h c e k l = no_cycle (check_answer (verdict.race x y b)) refl h
cycle_same verdict.race_free h c e k l = no_cycle (check_answer verdict.race_free) refl h

-- ---- laws: the sources

abbrev fillings : Result FillAnswer Refusal → ℕ
fillings (Ok fills.Filled) = 1
fillings (Err x) = 0
fillings (Ok (fills.Race r)) = 0
fillings (Ok fills.None) = 0

not_filled : {A : Type 0} (a : Result FillAnswer Refusal) → fillings a ≡ 0 → a ≡ Ok fills.Filled → A
not_filled a z h = let q : ◌≡◌ {A = ℕ} 0 1 = sym z ∙ ap fillings h in absurd (omega arith)

-- n sources that are no matter of the buffer
abbrev Sources : ℕ → Outcome → Type 0
Sources n o = fill_answer o ≡ Ok fills.Filled → (c e : List ℕ) (k : ℕ) → k < n → get_or (sources_after o c) k 0 ≡ get_or (sources_after o e) k 0

sources_filled : (f : ℕ → ℕ) (n : ℕ) → Sources n (outcome.filled (tabulate f n))
unfolding sources_after
sources_filled f n h c e k l = begins f n (drop (length (tabulate f n)) c) (drop (length (tabulate f n)) e) k l

sources_none : (n : ℕ) → Sources n outcome.none
unfolding fill_answer
sources_none n h c e k l = not_filled (fill_answer outcome.none) refl h

sources_race : (n x y b : ℕ) → Sources n (outcome.race x y b)
unfolding fill_answer
sources_race n x y b h c e k l = not_filled (fill_answer (outcome.race x y b)) refl h

sources_refused : (n m i : ℕ) → Sources n (outcome.refused m i)
unfolding fill_answer
sources_refused n m i h c e k l = not_filled (fill_answer (outcome.refused m i)) refl h

sources_either : (n : ℕ) (b : Bool) (x y : Outcome) → Sources n x → Sources n y → Sources n (cond b x y)
sources_either n true x y f g = f
sources_either n false x y f g = g

sources_chosen : (t : Table) (source : ℕ → ℕ) → Sources t.rows (outcome.filled_or outcome.none t source)
unfolding outcome.filled_or
sources_chosen t source = sources_either t.rows (outcome.sources_fit t source and consistent t source) _ _
    (sources_filled source t.rows) (sources_none t.rows)

sources_outcome : (t : Table) (source : ℕ → ℕ) → Sources t.rows (outcome.outcome t source)
unfolding outcome.outcome verdict.race_or
sources_outcome t source = sources_either t.rows (ltb (race_row t) t.rows) _ _ (sources_race t.rows _ _ _) (sources_chosen t (outcome.chosen t source))

sources_same : (chains : Bool) (s : List ℕ) → Sources (rows_at s) (filled_of chains s)
unfolding when_admitted table_under decode
sources_same chains s = go (admission true s)
  where
    go : (a : Admission) → Sources (rows_at s) (when_admitted outcome.refused a (outcome.outcome (table_under chains s) (sources_of s)))
    go (Refused m i) = sources_refused (rows_at s) m i
    go (Admitted a n) = sources_outcome (table_under chains s) (sources_of s)

-- ---- with other buffers, 11 aside: the same answer, and the same cycle or the same sources

module _ (chains : Bool) (s w x c b : List ℕ) {u v d e : List ℕ} where
  pub check_alike : {r q : Result CheckAnswer Refusal} → LongEnough CYCLE w c → LongEnough CYCLE x b → Checked chains s r w u c d → Checked chains s q x v b e
      → (r ≡ q) × ((n : ℕ) → r ≡ Ok (checks.Cycle n) → (k : ℕ) → k < CYCLE → get_or d k 0 ≡ get_or e k 0)
  check_alike {r} {q} long wide h g = (one.0 ∙ sym two.0, at)
    where
      one : Said (said_of chains s) r w u c d
      one = left_same check_answer verdict.work_after cycle_after (sym (check_is chains s w c long)) h

      two : Said (said_of chains s) q x v b e
      two = left_same check_answer verdict.work_after cycle_after (sym (check_is chains s x b wide)) g

      at : (n : ℕ) → r ≡ Ok (checks.Cycle n) → (k : ℕ) → k < CYCLE → get_or d k 0 ≡ get_or e k 0
      at n a k l = rw (one.2, two.2) (cycle_same (said_of chains s) (sym one.0 ∙ a) c b k l)

  pub fill_alike : {r q : Result FillAnswer Refusal} → LongEnough SOURCES w c → LongEnough SOURCES x b → FilledBy chains s r w u c d → FilledBy chains s q x v b e
      → (r ≡ q) × (r ≡ Ok fills.Filled → (k : ℕ) → k < rows_at s → get_or d k 0 ≡ get_or e k 0)
  fill_alike {r} {q} long wide h g = (one.0 ∙ sym two.0, at)
    where
      one : Filled (filled_of chains s) r w u c d
      one = left_same fill_answer outcome.work_after sources_after (sym (fill_is chains s w c long)) h

      two : Filled (filled_of chains s) q x v b e
      two = left_same fill_answer outcome.work_after sources_after (sym (fill_is chains s x b wide)) g

      at : r ≡ Ok fills.Filled → (k : ℕ) → k < rows_at s → get_or d k 0 ≡ get_or e k 0
      at a k l = rw (one.2, two.2) (sources_same chains s (sym one.0 ∙ a) c b k l)
