-- An agent's place in a run, read alone. Assumes nothing.
use Rattle.std.specs.Prelude.{◌≡◌, refl, List, [], ◌∷◌, ℕ, ◌≤◌, ◌<◌}
use Rattle.finite.specs.Lists.{length_tabulate, get_d_tabulate}
use Rattle.model.specs.Limits.{AGENTS}
use Rattle.model.specs.Header.{slot_at, places_of}
use Rattle.door_rows.specs.Places.{IsPlace, place_none}
use Rattle.run.specs.Layout.{places_in}

pub place_at_lem : (t : List ℕ) (a : ℕ) (x : List ℕ) → a < AGENTS → x ≡ slot_at t a → IsPlace (places_in t) a x
unfolding places_in places_of IsPlace
place_at_lem t a x l e k o = rw (get_d_tabulate (slot_at t) AGENTS a [] l, e) refl

pub place_past : (t : List ℕ) (a : ℕ) → AGENTS ≤ a → IsPlace (places_in t) a (0 ∷ 0 ∷ 0 ∷ 0 ∷ [])
unfolding places_in places_of
place_past t a l = place_none (places_of t) a (rw (length_tabulate (slot_at t) AGENTS) l)
