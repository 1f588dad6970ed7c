-- The axioms of two tables that are alike, with renumbered sources: A and B hold of both or of neither. Assumes nothing.
use Rattle.std.specs.Prelude.{◌≡◌, ℕ, ◌≤◌, ltb, eqb}
use Rattle.std.proofs.Math.Path.{refl, sym, ap, ap₂}
use Rattle.std.proofs.Common.{◌∙◌, subst, arith}
use Rattle.std.proofs.Math.Bool.{not}
use Rattle.finite.specs.Logic.{◌and◌}
use Rattle.finite.specs.Below.{any_below, any_cong, least_cong, least_any, least_stops}
use Rattle.finite.specs.Walk.{on_cycle, cycle_start}
use Rattle.model.specs.Limits.{LONGEST, INITIAL, ROWS}
use Rattle.model.specs.Table.{Table}
use Rattle.model.specs.Location.{before}
use Rattle.model.specs.Race.{nth}
use Rattle.model.specs.Edge.{before_nth, before_some, reads_from, from_reads, edge_number, edge, cycle_row, overwrites, overwrites_nth, over_nth, overwriting, over_writer}
use Rattle.model.specs.Edge.{is_overwritten, over_reader, consistent}
use Rattle.model_page_order.specs.Renumber.{Renumbering, eqb_to, eqb_stays, ltb_to, some_cycle_to}
use Rattle.model_page_order.specs.Alike.{Alike, some_row}
use Rattle.model_page_order.specs.OrderAlike.{follows_alike}
use Rattle.model_page_order.specs.LocationAlike.{before_alike}

module _ {t u : Table} {π : Renumbering t.rows} (M : Alike t u π) where
  pub nth_alike : (x y z k : ℕ) → before u (π.to x) (π.to y) (nth u (π.to z) k) ≡ before t x y (nth t z k)
  nth_alike x y z k = rw (M.row z) (before_alike M x y (nth t z k))

  pub some_alike : (x y : ℕ) → before_some u (π.to x) (π.to y) ≡ before_some t x y
  unfolding before_some before_nth
  some_alike x y = any_cong (λ k. before u (π.to x) (π.to y) (nth u (π.to x) k)) (λ k. before t x y (nth t x k)) LONGEST (λ k l. nth_alike x y x k)

  module _ (few : t.rows ≤ ROWS) (a b : ℕ → ℕ) (source : (i : ℕ) → b (π.to i) ≡ π.to (a i)) where
    -- ---- edges

    reads_alike : (x y : ℕ) → reads_from u b (π.to x) (π.to y) ≡ reads_from t a x y
    unfolding reads_from
    reads_alike x y = rw (M.row y, source y, eqb_to π (a y) x) refl

    initial : (y : ℕ) → eqb (π.to (a y)) INITIAL ≡ eqb (a y) INITIAL
    initial y = eqb_stays π (a y) INITIAL (omega arith)

    from_alike : (y z : ℕ) → from_reads u b (π.to y) (π.to z) ≡ from_reads t a y z
    unfolding from_reads
    from_alike y z = rw (eqb_to π y z, M.row y, M.row z, source y, initial y, follows_alike M (a y) z) refl

    edge_alike : (x y : ℕ) → edge u b (π.to x) (π.to y) ≡ edge t a x y
    unfolding edge edge_number
    edge_alike x y = rw (some_alike x y, follows_alike M x y, reads_alike x y, from_alike x y) refl

    -- ---- axiom A

    cycles : any_below u.rows (on_cycle u.rows (edge u b)) ≡ any_below t.rows (on_cycle t.rows (edge t a))
    cycles = subst (λ (n : ℕ). any_below n (on_cycle n (edge u b)) ≡ any_below t.rows (on_cycle t.rows (edge t a))) (sym M.rows)
        (some_cycle_to π (edge t a) (edge u b) edge_alike)

    pub cyclic_alike : ltb (cycle_row u b) u.rows ≡ ltb (cycle_row t a) t.rows
    unfolding cycle_row cycle_start
    cyclic_alike = least_any u.rows (on_cycle u.rows (edge u b)) ∙ cycles ∙ sym (least_any t.rows (on_cycle t.rows (edge t a)))

    acyclic_alike : eqb (cycle_row u b) u.rows ≡ eqb (cycle_row t a) t.rows
    unfolding cycle_row cycle_start
    acyclic_alike = least_stops u.rows (on_cycle u.rows (edge u b)) ∙ ap not cycles ∙ sym (least_stops t.rows (on_cycle t.rows (edge t a)))

    -- ---- axiom B

    overwrites_alike : (y z k : ℕ) → overwrites u b (π.to y) (π.to z) k ≡ overwrites t a y z k
    unfolding overwrites
    overwrites_alike y z k =
        rw (M.row y, M.row z, source y, before_alike M (a y) z k, before_alike M z y k, M.rows, ltb_to π (a y)) refl

    over_nth_lem : (y z : ℕ) → over_nth u b (π.to y) (π.to z) ≡ over_nth t a y z
    unfolding over_nth overwrites_nth
    over_nth_lem y z = least_cong (λ k. overwrites u b (π.to y) (π.to z) (nth u (π.to y) k)) (λ k. overwrites t a y z (nth t y k)) LONGEST
        (λ k l. rw (M.row y) (overwrites_alike y z (nth t y k)))

    overwriting_alike : (y z : ℕ) → overwriting u b (π.to y) (π.to z) ≡ overwriting t a y z
    unfolding overwriting
    overwriting_alike y z = rw (over_nth_lem y z) refl

    overwritten_alike : (y : ℕ) → is_overwritten u b (π.to y) ≡ is_overwritten t a y
    unfolding is_overwritten over_writer
    overwritten_alike y =
        least_any u.rows (overwriting u b (π.to y)) ∙ some_row M (overwriting t a y) (overwriting u b (π.to y)) (overwriting_alike y)
        ∙ sym (least_any t.rows (overwriting t a y))

    readers : any_below u.rows (is_overwritten u b) ≡ any_below t.rows (is_overwritten t a)
    readers = some_row M (is_overwritten t a) (is_overwritten u b) overwritten_alike

    pub reader_alike : ltb (over_reader u b) u.rows ≡ ltb (over_reader t a) t.rows
    unfolding over_reader
    reader_alike = least_any u.rows (is_overwritten u b) ∙ readers ∙ sym (least_any t.rows (is_overwritten t a))

    unread_alike : eqb (over_reader u b) u.rows ≡ eqb (over_reader t a) t.rows
    unfolding over_reader
    unread_alike = least_stops u.rows (is_overwritten u b) ∙ ap not readers ∙ sym (least_stops t.rows (is_overwritten t a))

    -- consistent of both or of neither
    pub consistent_alike : consistent u b ≡ consistent t a
    unfolding consistent
    consistent_alike = ap₂ ◌and◌ acyclic_alike unread_alike
