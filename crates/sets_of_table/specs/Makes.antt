-- The four groups of tests, from what is computed and put. Assumes nothing.
use Rattle.std.specs.Prelude.{◌≡◌, not, List, ℕ}
use Rattle.std.proofs.Common.{ap, ap₂, ◌∙◌, arith}
use Rattle.std.proofs.Math.Dec.{eqb}
use Rattle.finite.specs.Logic.{◌and◌, ◌or◌}
use Rattle.model.specs.declared.Row.{Row}
use Rattle.model.specs.Row.{reads, writes, access, atomic, ranked, barrier, acquires, releases, non_private, makes_available, makes_visible}
use Rattle.model_placing.specs.Elements.{avails, shews}
use Rattle.bits.specs.Within.{within_trans, within_widen}
use Rattle.sets_of_rows.specs.declared.Set.{Set}
use Rattle.sets_of_rows.specs.Member.{in_set}
use Rattle.sets_of_rows.specs.Kept.{Stored}
use Rattle.sets_of_rows.specs.Family.{nth}
use Rattle.sets_of_table.specs.Says.{says_reads, says_writes, says_access, says_atomic, says_ranked, says_barrier, says_acquires, says_releases}
use Rattle.sets_of_table.specs.Filed.{SCOPE}
use Rattle.sets_of_table.specs.Says.{Says, Ground, says_scope, says_less, says_public, says_available, says_visible, says_put, says_kept}
use Rattle.sets_of_table.specs.Tested.{READS, WRITES, ACCESS, ATOMIC, RANKED, BARRIER, ACQUIRES, RELEASES, PUBLIC, AVAILABLE, VISIBLE, TESTS_END}
use Rattle.sets_of_table.specs.Tested.{Accesses, Kinds, Orders, Marked, Makes}

pub accesses_made : {s u v w : List ℕ} (x y z : Set)
    → ((j : ℕ) → in_set x j ≡ (in_set (nth s 0 0) j or in_set (nth s 0 2) j or in_set (nth s 0 4) j))
    → ((j : ℕ) → in_set y j ≡ (in_set (nth s 0 1) j or in_set (nth s 0 3) j or in_set (nth s 0 4) j))
    → ((j : ℕ) → in_set z j ≡ (in_set x j or in_set y j))
    → Stored READS (in_set x) s u
    → Stored WRITES (in_set y) u v
    → Stored ACCESS (in_set z) v w
    → Makes READS ATOMIC Accesses s w
accesses_made {s} {u} {v} {w} x y z e f h i k l =
    record {
      made = λ row n g.
          record {
            reads = says_kept READS reads (λ o. absurd (omega arith)) l.frame (says_kept READS reads (λ o. absurd (omega arith)) k.frame (says_put reads i (says_reads g e)));
            writes = says_kept WRITES writes (λ o. absurd (omega arith)) l.frame (says_put writes k (says_writes g f));
            access = says_put access l (says_access (says_reads g e) (says_writes g f) h);
          };
      frame = within_trans (within_trans (within_widen READS ATOMIC (omega arith) (omega arith) i.frame) (within_widen READS ATOMIC (omega arith) (omega arith) k.frame)) (within_widen READS ATOMIC (omega arith) (omega arith) l.frame);
    }

pub kinds_made : {s u v w : List ℕ} (x y z : Set)
    → ((j : ℕ) → in_set x j ≡ (in_set (nth s 0 2) j or in_set (nth s 0 3) j or in_set (nth s 0 4) j))
    → ((j : ℕ) → in_set y j ≡ (in_set (nth s 0 3) j or in_set (nth s 0 4) j))
    → ((j : ℕ) → in_set z j ≡ (in_set (nth s 0 5) j or in_set (nth s 0 6) j))
    → Stored ATOMIC (in_set x) s u
    → Stored RANKED (in_set y) u v
    → Stored BARRIER (in_set z) v w
    → Makes ATOMIC ACQUIRES Kinds s w
kinds_made {s} {u} {v} {w} x y z e f h i k l =
    record {
      made = λ row n g.
          record {
            atomic = says_kept ATOMIC atomic (λ o. absurd (omega arith)) l.frame (says_kept ATOMIC atomic (λ o. absurd (omega arith)) k.frame (says_put atomic i (says_atomic g e)));
            ranked = says_kept RANKED ranked (λ o. absurd (omega arith)) l.frame (says_put ranked k (says_ranked g f));
            barrier = says_put barrier l (says_barrier g h);
          };
      frame = within_trans (within_trans (within_widen ATOMIC ACQUIRES (omega arith) (omega arith) i.frame) (within_widen ATOMIC ACQUIRES (omega arith) (omega arith) k.frame)) (within_widen ATOMIC ACQUIRES (omega arith) (omega arith) l.frame);
    }

pub orders_made : {s u v : List ℕ} (x y : Set)
    → ((j : ℕ) → in_set x j ≡ (in_set (nth s 0 49) j or in_set (nth s 0 51) j))
    → ((j : ℕ) → in_set y j ≡ (in_set (nth s 0 50) j or in_set (nth s 0 51) j))
    → Stored ACQUIRES (in_set x) s u
    → Stored RELEASES (in_set y) u v
    → Makes ACQUIRES PUBLIC Orders s v
orders_made {s} {u} {v} x y e f i k =
    record {
      made = λ row n g.
          record {
            acquires = says_kept ACQUIRES acquires (λ o. absurd (omega arith)) k.frame (says_put acquires i (says_acquires g e));
            releases = says_put releases k (says_releases g f);
          };
      frame = within_trans (within_widen ACQUIRES PUBLIC (omega arith) (omega arith) i.frame) (within_widen ACQUIRES PUBLIC (omega arith) (omega arith) k.frame);
    }

-- operations of invocation scope are none
own : {row : ℕ → Row} {n : ℕ} {s : List ℕ} (g : Ground row n s) → Says row n (λ r. eqb r.scope 0) (nth s 0 SCOPE)
own g = says_scope g 0 (omega arith)

module _ {row : ℕ → Row} {n : ℕ} {s : List ℕ} {x z : Set} (g : Ground row n s) where
  pub says_avails : Says row n makes_available x → ((j : ℕ) → in_set z j ≡ (in_set x j and not (in_set (nth s 0 SCOPE) j))) → Says row n avails z
  unfolding avails
  says_avails a e = says_less makes_available (λ r. eqb r.scope 0) a (own g) e

  pub says_shews : Says row n makes_visible x → ((j : ℕ) → in_set z j ≡ (in_set x j and not (in_set (nth s 0 SCOPE) j))) → Says row n shews z
  unfolding shews
  says_shews a e = says_less makes_visible (λ r. eqb r.scope 0) a (own g) e

pub marked_made : {s u v w : List ℕ} (x a b o y z : Set)
    → ((j : ℕ) → in_set x j ≡ (in_set (nth s 0 61) j or in_set (nth s 0 63) j or (in_set (nth s 0 65) j or in_set (nth s 0 67) j)))
    → ((j : ℕ) → in_set a j ≡ (in_set (nth s 0 62) j or in_set (nth s 0 63) j or (in_set (nth s 0 66) j or in_set (nth s 0 67) j)))
    → ((j : ℕ) → in_set b j ≡ (in_set (nth s 0 64) j or in_set (nth s 0 65) j or (in_set (nth s 0 66) j or in_set (nth s 0 67) j)))
    → o ≡ nth s 0 SCOPE
    → ((j : ℕ) → in_set y j ≡ (in_set a j and not (in_set o j)))
    → ((j : ℕ) → in_set z j ≡ (in_set b j and not (in_set o j)))
    → Stored PUBLIC (in_set x) s u
    → Stored AVAILABLE (in_set y) u v
    → Stored VISIBLE (in_set z) v w
    → Makes PUBLIC TESTS_END Marked s w
marked_made {s} {u} {v} {w} x a b o y z e f h q m r i k l =
    record {
      made = λ row n g.
          record {
            public =
                says_kept PUBLIC non_private (λ o. absurd (omega arith)) l.frame
                (says_kept PUBLIC non_private (λ o. absurd (omega arith)) k.frame (says_put non_private i (says_public g e)));
            available = says_kept AVAILABLE avails (λ o. absurd (omega arith)) l.frame (says_put avails k (says_avails g (says_available g f) (wide a y m)));
            visible = says_put shews l (says_shews g (says_visible g h) (wide b z r));
          };
      frame =
          within_trans
          (within_trans (within_widen PUBLIC TESTS_END (omega arith) (omega arith) i.frame) (within_widen PUBLIC TESTS_END (omega arith) (omega arith) k.frame))
          (within_widen PUBLIC TESTS_END (omega arith) (omega arith) l.frame);
    }
  where
    wide : (c d : Set) → ((j : ℕ) → in_set d j ≡ (in_set c j and not (in_set o j))) → (j : ℕ) → in_set d j ≡ (in_set c j and not (in_set (nth s 0 SCOPE) j))
    wide c d t j = t j ∙ ap (λ (p : Set). in_set c j and not (in_set p j)) q

-- a set that was read
pub either_is : (s : List ℕ) (a b : ℕ) (x y z : Set) → x ≡ nth s 0 a → y ≡ nth s 0 b → ((j : ℕ) → in_set z j ≡ (in_set x j or in_set y j))
    → (j : ℕ) → in_set z j ≡ (in_set (nth s 0 a) j or in_set (nth s 0 b) j)
either_is s a b x y z e f h j = h j ∙ ap₂ (λ (p q : Set). in_set p j or in_set q j) e f

pub any_is : (s : List ℕ) (a b c : ℕ) (x y z : Set) → ((j : ℕ) → in_set x j ≡ (in_set (nth s 0 a) j or in_set (nth s 0 b) j)) → y ≡ nth s 0 c
    → ((j : ℕ) → in_set z j ≡ (in_set x j or in_set y j)) → (j : ℕ) → in_set z j ≡ (in_set (nth s 0 a) j or in_set (nth s 0 b) j or in_set (nth s 0 c) j)
any_is s a b c x y z e f h j = h j ∙ ap₂ ◌or◌ (e j) (ap (λ (p : Set). in_set p j) f)

pub four_is : (s : List ℕ) (a b c d : ℕ) (x y z : Set) → ((j : ℕ) → in_set x j ≡ (in_set (nth s 0 a) j or in_set (nth s 0 b) j))
    → ((j : ℕ) → in_set y j ≡ (in_set (nth s 0 c) j or in_set (nth s 0 d) j)) → ((j : ℕ) → in_set z j ≡ (in_set x j or in_set y j))
    → (j : ℕ) → in_set z j ≡ (in_set (nth s 0 a) j or in_set (nth s 0 b) j or (in_set (nth s 0 c) j or in_set (nth s 0 d) j))
four_is s a b c d x y z e f h j = h j ∙ ap₂ ◌or◌ (e j) (f j)
