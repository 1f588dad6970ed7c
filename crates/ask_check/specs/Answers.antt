-- What the searches of a check found, as its answer, and what the calls of a check come to. Assumes nothing.
use Rattle.std.specs.Prelude.{◌≡◌, refl, Bool, true, false, cond, List, ℕ, ◌*◌, ◌≤◌, ◌<◌, length, ltb, MatchOption}
use Rattle.std.proofs.Common.{sym, ap, ◌∙◌, arith, lt-ltb, le-ltb}
use Rattle.std.specs.declared.option.Option.{Option}
use Rattle.std.specs.declared.option.Option.TheVariants.{None, Some}
use Rattle.std.specs.declared.result.Result.{Result}
use Rattle.std.specs.declared.result.Result.TheVariants.{Ok}
use Rattle.model.specs.declared.{Refusal.Refusal, Race.Race, Overwritten.Overwritten}
use Rattle.model.specs.declared.CheckAnswer.{CheckAnswer}
use Rattle.model.specs.declared.CheckAnswer.TheVariants as said
use Rattle.model.specs.Table.{Table}
use Rattle.model.specs.Race.{race_row, race_partner, race_byte}
use Rattle.model.specs.Edge.{edge, over_reader, over_writer, over_byte, cycle_row, cycle_rows, cycle_edges}
use Rattle.model.specs.Check.{Verdict, cyclic, overwritten, race, race_free, race_or, overwritten_or, cyclic_or, verdict, check_answer, cycle_after}
use Rattle.finite.specs.Walk.{cycle_start}
use Rattle.finite.specs.Cycle.{cycle_canonical}
use Rattle.bits.specs.Matrix.{rel}
use Rattle.bits.specs.Within.{Within, within_trans, within_widen}
use Rattle.bits.specs.Stage.{Holds, Made, holds_kept}
use Rattle.work_area.specs.Regions.{MUTUAL, LOCATION_END, LOCATED_END, EDGE, EDGE_END, GRID, LAYERS, LAYERS_END}
use Rattle.work_area.specs.State.{Placed, MadeOrdered, MadePlaced, placed_kept}
use Rattle.find_cycle.specs.Shown.{held_start}
use Rattle.find_race.specs.Bytes.{Ready}
use Rattle.find_race.specs.First.{found_at, race_of, found_race}
use Rattle.find_axioms.specs.Overwritten.{over_at, overwrite_of, found_overwrite}
use Rattle.ask_check.specs.Shown.{CycleFrom}

-- ---- definitions

unfoldable pub race_answer : Option Race → CheckAnswer
race_answer (Some r) = said.Race r
race_answer None = said.RaceFree

-- what was found to be overwritten, else the answer that comes next
unfoldable pub overwrite_or : Option Overwritten → Result CheckAnswer Refusal → Result CheckAnswer Refusal
overwrite_or (Some o) next = Ok (said.Overwritten o)
overwrite_or None next = next

-- ---- laws: the searches

pub race_mapped : (f : Option Race) (r : CheckAnswer) → MatchOption f (r ≡ said.RaceFree) (λ x. r ≡ said.Race x) → r ≡ race_answer f
unfolding race_answer
race_mapped (Some x) r e = e
race_mapped None r e = e

pub race_answered : (t : Table) (f : Option Race) → f ≡ found_race t → Ok (race_answer f) ≡ check_answer (race_or race race_free t)
unfolding race_answer found_race race_of race_or check_answer
race_answered t f e = rw e (go (ltb (race_row t) t.rows))
  where
    go : (b : Bool)
        → Ok (race_answer (cond b (found_at (race_row t) (race_partner t (race_row t)) (race_byte t (race_row t) (race_partner t (race_row t)))) None))
        ≡ check_answer (cond b (race (race_row t) (race_partner t (race_row t)) (race_byte t (race_row t) (race_partner t (race_row t)))) race_free)
    go true = refl
    go false = refl

pub overwrite_answered : (t : Table) (source : ℕ → ℕ) (next : Verdict) (o : Option Overwritten) → o ≡ found_overwrite t source
    → overwrite_or o (check_answer next) ≡ check_answer (overwritten_or next t source)
unfolding overwrite_or found_overwrite overwrite_of overwritten_or check_answer
overwrite_answered t source next o e = rw e (go (ltb y t.rows))
  where
    y : ℕ
    y = over_reader t source

    z : ℕ
    z = over_writer t source y

    go : (b : Bool)
        → overwrite_or (cond b (over_at y z (over_byte t source y z)) None) (check_answer next) ≡ check_answer
        (cond b (overwritten y z (over_byte t source y z)) next)
    go true = refl
    go false = refl

pub settle_over : (t : Table) (source : ℕ → ℕ) (next : Verdict) (o : Option Overwritten) {x : Overwritten} → o ≡ found_overwrite t source
    → o ≡ Some x → Ok (said.Overwritten x) ≡ check_answer (overwritten_or next t source)
unfolding overwrite_or
settle_over t source next o {x} over_is found =
    let a : overwrite_or o (check_answer next) ≡ Ok (said.Overwritten x) = rw found refl in
    sym a ∙ overwrite_answered t source next o over_is

pub settle_on : (t : Table) (source : ℕ → ℕ) (o : Option Overwritten) (f : Option Race) (r : CheckAnswer) → o ≡ found_overwrite t source → o ≡ None
    → f ≡ found_race t → r ≡ race_answer f
    → Ok r ≡ check_answer (overwritten_or (race_or race race_free t) t source)
unfolding overwrite_or
settle_on t source o f r over_is none race_is answered =
    let a : overwrite_or o (check_answer (race_or race race_free t)) ≡ check_answer (race_or race race_free t) = rw none refl in
    ap (λ (x : CheckAnswer). Ok x) answered ∙ race_answered t f race_is ∙ sym a ∙ overwrite_answered t source (race_or race race_free t) o over_is

-- ---- laws: the verdict

-- where there is a cycle, and where there is none
pub verdict_cyclic : (t : Table) (source : ℕ → ℕ) (n x : ℕ) → n ≡ t.rows → x ≡ cycle_row t source → x < n
    → verdict t source ≡ cyclic (cycle_rows t source) (cycle_edges t source)
unfolding verdict cyclic_or
verdict_cyclic t source n x e q l = rw (lt-ltb (cycle_row t source) t.rows (rw (← q, ← e) l)) refl

pub verdict_on : (t : Table) (source : ℕ → ℕ) (n x : ℕ) → n ≡ t.rows → x ≡ cycle_row t source → n ≤ x
    → verdict t source ≡ overwritten_or (race_or race race_free t) t source
unfolding verdict cyclic_or
verdict_on t source n x e q l = rw (le-ltb (cycle_row t source) t.rows (rw (← q, ← e) l)) refl

-- a verdict that is no cycle leaves the cycle buffer alone
race_keeps : (t : Table) (c : List ℕ) → cycle_after (race_or race race_free t) c ≡ c
unfolding race_or cycle_after
race_keeps t c = go (ltb (race_row t) t.rows)
  where
    go : (b : Bool) → cycle_after (cond b (race (race_row t) (race_partner t (race_row t)) (race_byte t (race_row t) (race_partner t (race_row t)))) race_free) c ≡ c
    go true = refl
    go false = refl

pub settled_keeps : (t : Table) (source : ℕ → ℕ) (c : List ℕ) → cycle_after (overwritten_or (race_or race race_free t) t source) c ≡ c
unfolding overwritten_or cycle_after
settled_keeps t source c = go (ltb y t.rows)
  where
    y : ℕ
    y = over_reader t source

    z : ℕ
    z = over_writer t source y

    go : (b : Bool) → cycle_after (cond b (overwritten y z (over_byte t source y z)) (race_or race race_free t)) c ≡ c
    go true = refl
    go false = race_keeps t c

pub cyclic_answered : (v : Verdict) (l m : List ℕ) (size : ℕ) → v ≡ cyclic l m → size ≡ length l → Ok (said.Cycle size) ≡ check_answer v
unfolding check_answer
cyclic_answered v l m size e s = rw (e, s) refl

-- ---- laws: the stages

pub placed_made : {t : Table} {n : ℕ} {w v u : List ℕ} → MadeOrdered t n w v → MadePlaced t n v u → Placed t n u × Within MUTUAL LOCATED_END w u
placed_made o l =
    (l.placed, within_trans (within_widen MUTUAL LOCATED_END (omega arith) (omega arith) o.frame) (within_widen MUTUAL LOCATED_END (omega arith) (omega arith) l.frame))

-- what edges are read from is kept by every later stage
pub known_kept : {t : Table} {n c d : ℕ} {w u : List ℕ} → LOCATION_END ≤ c → Ready t n w → Within c d w u → Ready t n u
known_kept l k f = let e = f.len in let g = k.1 in (k.0, omega arith, k.2, placed_kept l f k.3)

-- edges made, then the search for a cycle, which leaves them
pub edges_held : {n : ℕ} {r : ℕ → ℕ → Bool} {w v u : List ℕ} → Made EDGE EDGE_END EDGE GRID n r w v → Within LAYERS LAYERS_END v u
    → Holds EDGE GRID n r u × Within EDGE LAYERS_END w u
edges_held {n} m f =
    let g : n ≤ 64 * GRID = m.holds.fits in (
      holds_kept (λ l. absurd (omega arith)) f m.holds,
      within_trans (within_widen EDGE LAYERS_END (omega arith) (omega arith) m.frame) (within_widen EDGE LAYERS_END (omega arith) (omega arith) f),
    )

pub start_found : (t : Table) (source : ℕ → ℕ) (n x : ℕ) (w v : List ℕ) → n ≡ t.rows → Made EDGE EDGE_END EDGE GRID n (edge t source) w v
    → x ≡ cycle_start n (rel v EDGE GRID)
    → x ≡ cycle_row t source
unfolding cycle_row
start_found t source n x w v e m q = q ∙ held_start m.holds ∙ ap (λ (k : ℕ). cycle_start k (edge t source)) e

-- a cycle that is shown has at most as many rows as the table
pub rows_few : (t : Table) (source : ℕ → ℕ) (n x : ℕ) → n ≡ t.rows → x ≡ cycle_row t source → x < n → length (cycle_rows t source) ≤ n
unfolding cycle_row cycle_rows
rows_few t source n x e q l = rw e (cycle_canonical t.rows (edge t source) (rw (← q, ← e) l)).rows

-- ---- laws: the calls of a verdict, one after the other

-- the area as the edges are made, and as the search for a cycle leaves it
module _ (t : Table) (source : ℕ → ℕ) (n x : ℕ) (w v u : List ℕ) (all : n ≡ t.rows) (made : Made EDGE EDGE_END EDGE GRID n (edge t source) w v)
    (start : x ≡ cycle_start n (rel v EDGE GRID)) (frame : Within LAYERS LAYERS_END v u) where
  row : x ≡ cycle_row t source
  row = start_found t source n x w v all made start

  pub show_asked : Ready t n w → x < n → CycleFrom t source n x u
  show_asked k l = record { start = l; first = row; ready = known_kept (omega arith) k (edges_held made frame).1; edges = (edges_held made frame).0 }

  pub judge_cyclic : (size : ℕ) (z c d : List ℕ) → x < n → size ≡ length (cycle_rows t source)
      → d ≡ cycle_after (cyclic (cycle_rows t source) (cycle_edges t source)) c → Within LAYERS LAYERS_END u z
      → (Ok (said.Cycle size) ≡ check_answer (verdict t source)) × (d ≡ cycle_after (verdict t source) c) × Within EDGE LAYERS_END w z
  judge_cyclic size z c d l s e f =
      let q = verdict_cyclic t source n x all row l in (
        cyclic_answered (verdict t source) _ _ size q s,
        e ∙ ap (λ (y : Verdict). cycle_after y c) (sym q),
        within_trans (edges_held made frame).1 (within_widen EDGE LAYERS_END (omega arith) (omega arith) f),
      )

  pub judge_on : (r : CheckAnswer) (c : List ℕ) → n ≤ x → Ok r ≡ check_answer (overwritten_or (race_or race race_free t) t source)
      → (Ok r ≡ check_answer (verdict t source)) × (c ≡ cycle_after (verdict t source) c) × Within EDGE LAYERS_END w u
  judge_on r c l e =
      let q = verdict_on t source n x all row l in
      (e ∙ ap check_answer (sym q), sym (ap (λ (y : Verdict). cycle_after y c) q ∙ settled_keeps t source c), (edges_held made frame).1)
