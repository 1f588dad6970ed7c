-- Runs of control barriers, counted ranks and reports, which change requests brought, computed from the definitions. Assumes nothing.
use Rattle.std.specs.Prelude.{◌≡◌, refl, false, List, [], ◌∷◌, map, ℕ, set, pos, negsuc, Float}
use Rattle.std.specs.Float.{fin}
use Rattle.model.specs.Report as told
use Rattle.model.specs.Check.{refused, cyclic, race, race_free}
use Rattle.model_runs.specs.Runs.{Answer, checked, reported, as_check, as_report, Run, answer, table, change, agent₀, agent₁, agent₂, two, write, read, P, Q_rmw}

-- ---- control barriers

-- a control barrier of instance 7, workgroup execution scope, release and acquire for Uniform, which makes available and visible
abbrev pub meet : ℕ → List ℕ
meet a = 6 ∷ a ∷ 3 ∷ 2 ∷ 1 ∷ 6 ∷ 2 ∷ 0 ∷ 0 ∷ 7 ∷ 0 ∷ 0 ∷ 255 ∷ 255 ∷ 0 ∷ 0 ∷ []

-- one without memory semantics
abbrev bare : ℕ → List ℕ
bare a = 6 ∷ a ∷ 0 ∷ 2 ∷ 0 ∷ 0 ∷ 2 ∷ 0 ∷ 0 ∷ 7 ∷ 0 ∷ 0 ∷ 255 ∷ 255 ∷ 0 ∷ 0 ∷ []

-- a release barrier that makes available, an acquire barrier that makes visible
abbrev out : ℕ → List ℕ
out a = 5 ∷ a ∷ 2 ∷ 2 ∷ 1 ∷ 2 ∷ 0 ∷ 0 ∷ 0 ∷ 0 ∷ 0 ∷ 0 ∷ 255 ∷ 255 ∷ 0 ∷ 0 ∷ []

abbrev into : ℕ → List ℕ
into a = 5 ∷ a ∷ 1 ∷ 2 ∷ 1 ∷ 4 ∷ 0 ∷ 0 ∷ 0 ∷ 0 ∷ 0 ∷ 0 ∷ 255 ∷ 255 ∷ 0 ∷ 0 ∷ []

abbrev M : List ℕ
M = two (write ∷ meet 0 ∷ meet 1 ∷ read ∷ [])

abbrev pub controls : List Run
controls =
    -- both barriers are the control barrier
    record { ask = as_check; table = M; gives = checked race_free }
    -- the other way round in the table
    ∷ record { ask = as_check; table = two (write ∷ meet 1 ∷ meet 0 ∷ read ∷ []); gives = checked race_free }
    -- neither is, or one of them
    ∷ record { ask = as_check; table = two (write ∷ out 0 ∷ bare 0 ∷ bare 1 ∷ into 1 ∷ read ∷ []); gives = checked race_free }
    ∷ record { ask = as_check; table = two (write ∷ out 0 ∷ bare 0 ∷ meet 1 ∷ read ∷ []); gives = checked race_free }
    ∷ record { ask = as_check; table = two (write ∷ meet 0 ∷ bare 1 ∷ into 1 ∷ read ∷ []); gives = checked race_free }
    -- no memory semantics; another instance; the acquire before the control barrier
    ∷ record { ask = as_check; table = two (write ∷ bare 0 ∷ bare 1 ∷ read ∷ []); gives = checked (race 0 3 0) }
    ∷ record { ask = as_check; table = change 2 2 9 8 M; gives = checked (race 0 3 0) }
    ∷ record { ask = as_check; table = two (write ∷ out 0 ∷ bare 0 ∷ into 1 ∷ bare 1 ∷ read ∷ []); gives = checked (race 0 5 0) }
    -- one agent twice, another execution scope, agents in two workgroups: 14 at the later row
    ∷ record { ask = as_check; table = two (write ∷ meet 0 ∷ meet 0 ∷ read ∷ []); gives = checked (refused 14 2) }
    ∷ record { ask = as_check; table = change 2 2 6 3 M; gives = checked (refused 14 2) }
    ∷ record { ask = as_check; table = set M 17 1; gives = checked (refused 14 2) }
    -- an execution scope over 4, a kind over 6: 5; a length: 6
    ∷ record { ask = as_check; table = change 2 1 6 5 M; gives = checked (refused 5 1) }
    ∷ record { ask = as_check; table = change 2 1 0 7 M; gives = checked (refused 5 1) }
    ∷ record { ask = as_check; table = change 2 1 7 4 M; gives = checked (refused 6 1) }
    ∷ []

-- ---- counted ranks

-- Q_rmw with the release at rank 65535 and the RMW at rank 0, in version v
abbrev wrapped : ℕ → List ℕ
wrapped v = set (change 3 1 14 255 (change 3 1 15 255 (change 3 2 15 0 Q_rmw))) 4 v

-- three relaxed writes of the flag, by three agents in invocation scope, so that none is mutually-ordered with another
abbrev flag : ℕ → ℕ → ℕ → List ℕ
flag a h l = 3 ∷ a ∷ 0 ∷ 0 ∷ 0 ∷ 1 ∷ 0 ∷ 4 ∷ 0 ∷ 4 ∷ 0 ∷ 2 ∷ 255 ∷ 255 ∷ h ∷ l ∷ []

abbrev flags : ℕ → List (List ℕ) → List ℕ
flags v r = set (table (agent₀ ∷ agent₁ ∷ agent₂ ∷ []) r) 4 v

abbrev pub counts : List Run
counts =
    record { ask = as_check; table = wrapped 2; gives = checked race_free }
    ∷ record { ask = as_check; table = wrapped 1; gives = checked (cyclic (1 ∷ 2 ∷ []) (3 ∷ 2 ∷ [])) }
    ∷ record { ask = as_check; table = wrapped 4; gives = checked (refused 2 0) }
    ∷ record { ask = as_check; table = wrapped 0; gives = checked (refused 2 0) }
    -- ranks 0, 20000, 45000: two of them fit, three don't
    ∷ record { ask = as_check; table = flags 2 (flag 0 0 0 ∷ flag 1 78 32 ∷ flag 2 175 200 ∷ []); gives = checked (refused 15 2) }
    ∷ record { ask = as_check; table = flags 1 (flag 0 0 0 ∷ flag 1 78 32 ∷ flag 2 175 200 ∷ []); gives = checked (race 0 1 4) }
    -- ranks 32768 apart, and 32767
    ∷ record { ask = as_check; table = flags 2 (flag 0 0 0 ∷ flag 1 128 0 ∷ []); gives = checked (refused 15 1) }
    ∷ record { ask = as_check; table = flags 2 (flag 0 0 0 ∷ flag 1 127 255 ∷ []); gives = checked (race 0 1 4) }
    ∷ []

pub counts_hold : map (λ r. answer r.ask r.table) counts ≡ map (λ r. r.gives) counts
unfolding answer
counts_hold = refl

-- ---- reports

-- the counts, and the share
abbrev says : ℕ → ℕ → ℕ → ℕ → Float → Answer
says c m o r f = reported (told.reported (record { conflicting = c; mutuals = m; ordered = o; racing = r; share = f }))

-- 0.0, 0.5, 1.0
abbrev none : Float
none = fin false 0 (pos 0)

abbrev half : Float
half = fin false 1 (negsuc 0)

abbrev whole : Float
whole = fin false 1 (pos 0)

-- a private write of one byte
abbrev lone : ℕ → List ℕ
lone a = 1 ∷ a ∷ 0 ∷ 0 ∷ 0 ∷ 0 ∷ 0 ∷ 1 ∷ 0 ∷ 0 ∷ 0 ∷ 1 ∷ 255 ∷ 255 ∷ 0 ∷ 0 ∷ []

abbrev pub reports : List Run
reports =
    -- the flag's pair is mutually-ordered, the data's ordered
    record { ask = as_report; table = P; gives = says 2 1 1 0 none }
    -- row 3 private: the data's pair races
    ∷ record { ask = as_report; table = change 2 3 5 0 P; gives = says 2 1 0 1 half }
    ∷ []

pub reports_hold : map (λ r. answer r.ask r.table) reports ≡ map (λ r. r.gives) reports
unfolding answer
reports_hold = refl

abbrev pub reports₂ : List Run
reports₂ =
    -- the one conflicting pair races
    record { ask = as_report; table = two (lone 0 ∷ lone 1 ∷ []); gives = says 1 0 0 1 whole }
    -- row 3 reads the initial value
    ∷ record { ask = as_report; table = change 2 3 12 255 (change 2 3 13 255 P); gives = reported (told.cyclic 2) }
    -- row 3 blank
    ∷ record { ask = as_report; table = change 2 3 12 255 (change 2 3 13 254 P); gives = reported (told.refused 9 3) }
    -- no rows
    ∷ record { ask = as_report; table = table [] []; gives = reported told.no_pairs }
    ∷ []

pub reports₂_hold : map (λ r. answer r.ask r.table) reports₂ ≡ map (λ r. r.gives) reports₂
unfolding answer
reports₂_hold = refl
