-- The sets of n rows by their codes and by tests: which are filed where, and what each set of a test says. Assumes nothing.
use Rattle.std.specs.Prelude.{List, ℕ, ◌≤◌}
use Rattle.std.proofs.Common.{arith}
use Rattle.model.specs.declared.Row.{Row}
use Rattle.model.specs.Row.{reads, writes, access, atomic, ranked, barrier, acquires, releases, non_private}
use Rattle.model_placing.specs.Elements.{avails, shews}
use Rattle.bits.specs.Within.{Within, within_trans, within_widen}
use Rattle.sets_of_rows.specs.Kept.{set_at}
use Rattle.sets_of_table.specs.Says.{Says, Ground, says_kept, ground_kept}

-- ---- the layout, in words: after the sets of codes

abbrev pub READS : ℕ
READS = 184

abbrev pub WRITES : ℕ
WRITES = 186

abbrev pub ACCESS : ℕ
ACCESS = 188

abbrev pub ATOMIC : ℕ
ATOMIC = 190

abbrev pub RANKED : ℕ
RANKED = 192

abbrev pub BARRIER : ℕ
BARRIER = 194

abbrev pub ACQUIRES : ℕ
ACQUIRES = 196

abbrev pub RELEASES : ℕ
RELEASES = 198

abbrev pub PUBLIC : ℕ
PUBLIC = 200

abbrev pub AVAILABLE : ℕ
AVAILABLE = 202

abbrev pub VISIBLE : ℕ
VISIBLE = 204

abbrev pub TESTS_END : ℕ
TESTS_END = 206

-- ---- definitions

pub record Accesses (row : ℕ → Row) (n : ℕ) (s : List ℕ) : Type 0 where
  pub reads : Says row n reads (set_at s READS)
  pub writes : Says row n writes (set_at s WRITES)
  pub access : Says row n access (set_at s ACCESS)

pub record Kinds (row : ℕ → Row) (n : ℕ) (s : List ℕ) : Type 0 where
  pub atomic : Says row n atomic (set_at s ATOMIC)
  pub ranked : Says row n ranked (set_at s RANKED)
  pub barrier : Says row n barrier (set_at s BARRIER)

pub record Orders (row : ℕ → Row) (n : ℕ) (s : List ℕ) : Type 0 where
  pub acquires : Says row n acquires (set_at s ACQUIRES)
  pub releases : Says row n releases (set_at s RELEASES)

pub record Marked (row : ℕ → Row) (n : ℕ) (s : List ℕ) : Type 0 where
  pub public : Says row n non_private (set_at s PUBLIC)
  pub available : Says row n avails (set_at s AVAILABLE)
  pub visible : Says row n shews (set_at s VISIBLE)

-- each set by a code and each set by a test has the rows that pass, of n, and nothing else
pub record Tested (row : ℕ → Row) (n : ℕ) (s : List ℕ) : Type 0 where
  pub ground : Ground row n s
  pub accesses : Accesses row n s
  pub kinds : Kinds row n s
  pub orders : Orders row n s
  pub marked : Marked row n s

-- what is made of filed rows, within the words a..b
pub record Makes (a b : ℕ) (k : (ℕ → Row) → ℕ → List ℕ → Type 0) (s u : List ℕ) : Type 0 where
  pub made : (row : ℕ → Row) (n : ℕ) → Ground row n s → k row n u
  pub frame : Within a b s u

-- ---- laws: a change elsewhere

accesses_kept : {row : ℕ → Row} {n a b : ℕ} {s u : List ℕ} → ATOMIC ≤ a → Within a b s u → Accesses row n s → Accesses row n u
accesses_kept l f h =
    record {
      reads = says_kept READS reads (λ o. absurd (omega arith)) f h.reads;
      writes = says_kept WRITES writes (λ o. absurd (omega arith)) f h.writes;
      access = says_kept ACCESS access (λ o. absurd (omega arith)) f h.access;
    }

kinds_kept : {row : ℕ → Row} {n a b : ℕ} {s u : List ℕ} → ACQUIRES ≤ a → Within a b s u → Kinds row n s → Kinds row n u
kinds_kept l f h =
    record {
      atomic = says_kept ATOMIC atomic (λ o. absurd (omega arith)) f h.atomic;
      ranked = says_kept RANKED ranked (λ o. absurd (omega arith)) f h.ranked;
      barrier = says_kept BARRIER barrier (λ o. absurd (omega arith)) f h.barrier;
    }

orders_kept : {row : ℕ → Row} {n a b : ℕ} {s u : List ℕ} → PUBLIC ≤ a → Within a b s u → Orders row n s → Orders row n u
orders_kept l f h =
    record {
      acquires = says_kept ACQUIRES acquires (λ o. absurd (omega arith)) f h.acquires;
      releases = says_kept RELEASES releases (λ o. absurd (omega arith)) f h.releases;
    }

marked_kept : {row : ℕ → Row} {n a b : ℕ} {s u : List ℕ} → TESTS_END ≤ a → Within a b s u → Marked row n s → Marked row n u
marked_kept l f h =
    record {
      public = says_kept PUBLIC non_private (λ o. absurd (omega arith)) f h.public;
      available = says_kept AVAILABLE avails (λ o. absurd (omega arith)) f h.available;
      visible = says_kept VISIBLE shews (λ o. absurd (omega arith)) f h.visible;
    }

-- what is known stays so while later words change
pub tested_kept : {row : ℕ → Row} {n a b : ℕ} {s u : List ℕ} → TESTS_END ≤ a → Within a b s u → Tested row n s → Tested row n u
tested_kept l f h =
    record {
      ground = ground_kept (omega arith) f h.ground;
      accesses = accesses_kept (omega arith) f h.accesses;
      kinds = kinds_kept (omega arith) f h.kinds;
      orders = orders_kept (omega arith) f h.orders;
      marked = marked_kept l f h.marked;
    }

-- the four groups, one after the other
pub tested_all : {s u v w z : List ℕ} → Makes READS ATOMIC Accesses s u → Makes ATOMIC ACQUIRES Kinds u v → Makes ACQUIRES PUBLIC Orders v w
    → Makes PUBLIC TESTS_END Marked w z → Makes READS TESTS_END Tested s z
tested_all {s} {u} {v} {w} {z} a b c d = record { made = all; frame = wide }
  where
    wide : Within READS TESTS_END s z
    wide =
        within_trans
        (within_trans (within_trans (within_widen READS TESTS_END (omega arith) (omega arith) a.frame) (within_widen READS TESTS_END (omega arith) (omega arith) b.frame))
        (within_widen READS TESTS_END (omega arith) (omega arith) c.frame)) (within_widen READS TESTS_END (omega arith) (omega arith) d.frame)

    all : (row : ℕ → Row) (n : ℕ) → Ground row n s → Tested row n z
    all row n g =
        let gu : Ground row n u = ground_kept (omega arith) a.frame g in
        let gv : Ground row n v = ground_kept (omega arith) b.frame gu in
        let gw : Ground row n w = ground_kept (omega arith) c.frame gv in
        record {
          ground = ground_kept (omega arith) d.frame gw;
          accesses = accesses_kept (omega arith) d.frame (accesses_kept (omega arith) c.frame (accesses_kept (omega arith) b.frame (a.made row n g)));
          kinds = kinds_kept (omega arith) d.frame (kinds_kept (omega arith) c.frame (b.made row n gu));
          orders = orders_kept (omega arith) d.frame (c.made row n gv);
          marked = d.made row n gw;
        }
