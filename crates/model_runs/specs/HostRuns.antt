-- Document 02's run of host agents, and what would fool us there, computed from the definitions. Assumes nothing.
use Rattle.std.specs.Prelude.{List, [], ◌∷◌, ◌++◌, ℕ, ◌+◌, ◌*◌, length, set}
use Rattle.model.specs.Check.{refused, race, race_free}
use Rattle.model.specs.Fill.{filled}
use Rattle.model_runs.specs.Runs.{checked, filling, as_check, as_fill, Run, joined, write, read}
use Rattle.model_runs.specs.RequestRuns.{meet}

-- ---- tables

-- with host agents: places, rows and dependencies
abbrev hosted : List (List ℕ) → List (List ℕ) → List (List ℕ) → List ℕ
hosted p r d =
    0 ∷ 0 ∷ 0 ∷ (6 + 8 * length p + 16 * length r + 4 * length d) ∷ 3 ∷ length p ∷ length r ∷ 0
    ∷ (joined p ++ (joined r ++ (0 ∷ length d ∷ joined d)))

-- a place of this family, with what the agent is
abbrev agent : ℕ → ℕ → List ℕ
agent family kind = 0 ∷ family ∷ 0 ∷ 0 ∷ 0 ∷ 0 ∷ 0 ∷ kind ∷ []

-- a private write and read of four bytes
abbrev hidden : ℕ → ℕ → ℕ → List ℕ
hidden a start reference = 1 ∷ a ∷ 0 ∷ 0 ∷ 0 ∷ 0 ∷ 0 ∷ 4 ∷ 0 ∷ start ∷ 0 ∷ reference ∷ 255 ∷ 255 ∷ 0 ∷ 0 ∷ []

abbrev seen : ℕ → ℕ → ℕ → ℕ → List ℕ
seen a reference high low = 0 ∷ a ∷ 0 ∷ 0 ∷ 0 ∷ 0 ∷ 0 ∷ 4 ∷ 0 ∷ 0 ∷ 0 ∷ reference ∷ high ∷ low ∷ 0 ∷ 0 ∷ []

-- an operation on a domain, by agent 1
abbrev perform : ℕ → List ℕ
perform kind = kind ∷ 1 ∷ 0 ∷ 0 ∷ 0 ∷ 0 ∷ 0 ∷ 0 ∷ 0 ∷ 0 ∷ 0 ∷ 0 ∷ 255 ∷ 255 ∷ 0 ∷ 0 ∷ []

abbrev dependency₁ : ℕ → ℕ → List ℕ
dependency₁ a b = 0 ∷ a ∷ 0 ∷ b ∷ []

-- each of the rows 0 to 4 on the one before
abbrev each : List (List ℕ)
each = dependency₁ 0 1 ∷ dependency₁ 1 2 ∷ dependency₁ 2 3 ∷ dependency₁ 3 4 ∷ []

-- a host, a queue and a shader agent
abbrev three : List (List ℕ)
three = agent 0 1 ∷ agent 0 2 ∷ agent 0 0 ∷ []

-- ---- host agents

-- the upload of docs/RULES.md: a host write, made available to the host domain, carried to the device domain, made visible from it, read by a shader
abbrev pub upload : List ℕ
upload = hosted three (hidden 0 0 1 ∷ perform 7 ∷ perform 11 ∷ perform 10 ∷ seen 2 7 0 0 ∷ []) each

abbrev pub hosts : List Run
hosts =
    record { ask = as_check; table = upload; gives = checked race_free }
    -- the read blank
    ∷ record {
      ask = as_fill;
      table = hosted three (hidden 0 0 1 ∷ perform 7 ∷ perform 11 ∷ perform 10 ∷ seen 2 7 255 254 ∷ []) each;
      gives = filling (filled (65535 ∷ 65535 ∷ 65535 ∷ 65535 ∷ 0 ∷ []));
    }
    -- without the domain operation
    ∷ record {
      ask = as_check;
      table = hosted three (hidden 0 0 1 ∷ perform 7 ∷ perform 10 ∷ seen 2 7 0 0 ∷ [])
          (dependency₁ 0 1 ∷ dependency₁ 1 2 ∷ dependency₁ 2 3 ∷ []);
      gives = checked (race 0 3 0);
    }
    -- with the other domain operation
    ∷ record { ask = as_check; table = hosted three (hidden 0 0 1 ∷ perform 7 ∷ perform 12 ∷ perform 10 ∷ seen 2 7 0 0 ∷ []) each; gives = checked (race 0 4 0) }
    -- program order between the queue agent's own rows serves as well
    ∷ record {
      ask = as_check;
      table = hosted three (hidden 0 0 1 ∷ perform 7 ∷ perform 11 ∷ perform 10 ∷ seen 2 7 0 0 ∷ [])
          (dependency₁ 0 1 ∷ dependency₁ 3 4 ∷ []);
      gives = checked race_free;
    }
    -- closing happens-before over program order: the dependency is of the host's next row
    ∷ record {
      ask = as_check;
      table = hosted three (hidden 0 0 1 ∷ hidden 0 8 1 ∷ perform 7 ∷ perform 11 ∷ perform 10 ∷ seen 2 7 0 0 ∷ [])
          (dependency₁ 1 2 ∷ dependency₁ 2 3 ∷ dependency₁ 3 4 ∷ dependency₁ 4 5 ∷ []);
      gives = checked (race 0 5 0);
    }
    -- from the device to the host
    ∷ record { ask = as_check; table = hosted three (hidden 2 0 1 ∷ perform 8 ∷ perform 12 ∷ perform 9 ∷ seen 0 7 0 0 ∷ []) each; gives = checked race_free }
    -- a private host read, and a shader's write after it
    ∷ record {
      ask = as_check;
      table = hosted three (seen 0 1 255 255 ∷ perform 10 ∷ hidden 2 0 7 ∷ [])
          (dependency₁ 0 1 ∷ dependency₁ 1 2 ∷ []);
      gives = checked race_free;
    }
    -- a write after a write needs no visibility operation
    ∷ record {
      ask = as_check;
      table = hosted three (hidden 0 0 1 ∷ perform 7 ∷ perform 11 ∷ hidden 2 0 7 ∷ [])
          (dependency₁ 0 1 ∷ dependency₁ 1 2 ∷ dependency₁ 2 3 ∷ []);
      gives = checked race_free;
    }
    -- between two shader agents nothing needs to be carried
    ∷ record {
      ask = as_check;
      table = hosted (agent 0 0 ∷ agent 0 2 ∷ agent 5 0 ∷ [])
          (hidden 0 0 1 ∷ perform 8 ∷ perform 10 ∷ seen 2 7 0 0 ∷ []) (dependency₁ 0 1 ∷ dependency₁ 1 2 ∷ dependency₁ 2 3 ∷ []);
      gives =
          checked race_free;
    }
    -- refusals: a fourth number over 2; a dependency that names no row; a host agent's operation; a field outside an operation's layout
    ∷ record { ask = as_check; table = hosted (agent 0 3 ∷ []) (hidden 0 0 1 ∷ []) []; gives = checked (refused 16 0) }
    ∷ record { ask = as_check; table = hosted three (hidden 0 0 1 ∷ []) (dependency₁ 0 1 ∷ []); gives = checked (refused 18 0) }
    ∷ record { ask = as_check; table = hosted (agent 0 0 ∷ agent 0 1 ∷ []) (hidden 0 0 1 ∷ perform 7 ∷ []) []; gives = checked (refused 19 1) }
    ∷ record { ask = as_check; table = set (hosted three (hidden 0 0 1 ∷ perform 7 ∷ []) []) 52 1; gives = checked (refused 20 1) }
    -- a control barrier of two shader agents beside a host agent; a host agent has none
    ∷ record { ask = as_check; table = hosted (agent 0 0 ∷ agent 0 0 ∷ agent 0 1 ∷ []) (write ∷ meet 0 ∷ meet 1 ∷ read ∷ []) []; gives = checked race_free }
    ∷ record { ask = as_check; table = hosted (agent 0 1 ∷ []) (meet 0 ∷ []) []; gives = checked (refused 19 0) }
    -- a missing count; an empty table of version 3; version 4
    ∷ record { ask = as_check; table = 0 ∷ 0 ∷ 0 ∷ 4 ∷ 3 ∷ 0 ∷ 0 ∷ 0 ∷ []; gives = checked (refused 4 0) }
    ∷ record { ask = as_check; table = hosted [] [] []; gives = checked race_free }
    ∷ record { ask = as_check; table = 0 ∷ 0 ∷ 0 ∷ 4 ∷ 4 ∷ 0 ∷ 0 ∷ 0 ∷ []; gives = checked (refused 2 0) }
    ∷ []
