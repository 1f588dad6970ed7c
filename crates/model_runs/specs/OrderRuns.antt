-- Runs that hold the order of the answers and the reader's class sets, which no run of the papers does. Assumes nothing.
use Rattle.std.specs.Prelude.{◌≡◌, refl, List, [], ◌∷◌, map, ℕ}
use Rattle.model.specs.Check.{overwritten}
use Rattle.model.specs.Fill.{filled, none}
use Rattle.model.specs.Reason as reason
use Rattle.model_runs.specs.Runs.{checked, filling, reasoned, as_check, as_fill, as_chain, Run, answer, change, two, write, read, P}

-- a private write of the data by agent 1
abbrev private : List ℕ
private = 1 ∷ 1 ∷ 0 ∷ 0 ∷ 0 ∷ 0 ∷ 0 ∷ 4 ∷ 0 ∷ 0 ∷ 0 ∷ 1 ∷ 255 ∷ 255 ∷ 0 ∷ 0 ∷ []

-- two writes of the data and a read of the first of them, by agent 0; the private write races with all three
abbrev stale : List ℕ
stale = change 2 2 1 0 (two (write ∷ write ∷ read ∷ private ∷ []))

-- inconsistent comes before race
abbrev pub stales : List Run
stales = record { ask = as_check; table = stale; gives = checked (overwritten 2 1 0) } ∷ []

pub stales_hold : map (λ r. answer r.ask r.table) stales ≡ map (λ r. r.gives) stales
unfolding answer
stales_hold = refl

-- a relaxed write of the flag by agent 0, of this rank
abbrev ranked : ℕ → List ℕ
ranked rank = 3 ∷ 0 ∷ 0 ∷ 2 ∷ 0 ∷ 1 ∷ 0 ∷ 4 ∷ 0 ∷ 4 ∷ 0 ∷ 2 ∷ 255 ∷ 255 ∷ 0 ∷ rank ∷ []

-- a write of the data, a blank read of it, and two writes of the flag of these ranks, all by agent 0
abbrev blank : ℕ → ℕ → List ℕ
blank a b = change 2 1 1 0 (change 2 1 12 255 (change 2 1 13 254 (two (write ∷ read ∷ ranked a ∷ ranked b ∷ []))))

-- a source that fits is no filling where the table is inconsistent for another reason: ranks against program order
abbrev pub blanks : List Run
blanks =
    record { ask = as_fill; table = blank 1 2; gives = filling (filled (65535 ∷ 0 ∷ 65535 ∷ 65535 ∷ [])) }
    ∷ record { ask = as_fill; table = blank 2 1; gives = filling none }
    ∷ []

pub blanks_hold : map (λ r. answer r.ask r.table) blanks ≡ map (λ r. r.gives) blanks
unfolding answer
blanks_hold = refl

-- synchronizes-with, from the release to the acquire: for Uniform, and for no class, a class too many and all bits
abbrev pub class_sets : List Run
class_sets =
    record { ask = as_chain 4 7 1 (519 ∷ []); table = P; gives = reasoned reason.accepted }
    ∷ record { ask = as_chain 4 7 0 (519 ∷ []); table = P; gives = reasoned reason.not_accepted }
    ∷ record { ask = as_chain 4 7 16 (519 ∷ []); table = P; gives = reasoned reason.not_accepted }
    ∷ record { ask = as_chain 4 7 255 (519 ∷ []); table = P; gives = reasoned reason.not_accepted }
    ∷ []

pub class_sets_hold : map (λ r. answer r.ask r.table) class_sets ≡ map (λ r. r.gives) class_sets
unfolding answer
class_sets_hold = refl
