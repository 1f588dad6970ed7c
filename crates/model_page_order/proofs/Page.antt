-- The order of the rows in a table doesn't matter. To be read like crates/model_promises/specs/Main.antt: each proof
-- names a theorem of a page beside this one.
--
-- `Moved s s' π` (specs/Moved.antt) says that s' is the table s with its rows moved: row i of s is row `π.to i` of s',
-- each agent's own rows keep their order, sources and dependencies are renumbered. `check_word` and `fill_word`
-- (specs/VerdictAlike.antt) keep of an answer its word alone: race-free, race, inconsistent, none, filled. Both tables
-- are accepted, each with buffers of its own; the switch `chains` is any, and so is the version.
use Rattle.std.specs.Prelude.{◌≡◌, Bool, List, ℕ, ◌<◌, length, get_or}
use Rattle.model.specs.Header.{rows_at}
use Rattle.model.specs.Check.{check}
use Rattle.model.specs.Fill.{fill, sources_after}
use Rattle.model.specs.Fill as Fill
use Rattle.model_promises.specs.Terms.{Bytes, CheckHears, FillHears}
use Rattle.door_pieces.specs.Pieces.{pieces_fault, joined, check_both, fill_both}
use Rattle.model_page_order.specs.Renumber.{Renumbering}
use Rattle.model_page_order.specs.Moved.{Moved}
use Rattle.model_page_order.specs.VerdictAlike.{check_word, fill_word}
use Rattle.model_page_order.proofs as beside

module _ (chains : Bool) (s s' : List ℕ) (π : Renumbering (rows_at s)) (moved : Moved s s' π)
    (work buffer work' buffer' : ℕ) where
  -- a check says the same word of both: race-free, race or inconsistent
  pub check_alike : CheckHears s work buffer → CheckHears s' work' buffer'
      → check_word (check chains s' work' buffer') ≡ check_word (check chains s work buffer)
  check_alike h h' = beside.AnswersAlike.check_alike chains s s' π moved work buffer work' buffer' h.0 h'.0 h.1 h'.1

  module _ (bytes : Bytes s) (h : FillHears s work buffer) (h' : FillHears s' work' buffer') where
    -- a fill says the same word of both: race, none or filled
    pub fill_alike : fill_word (fill chains s' work' buffer') ≡ fill_word (fill chains s work buffer)
    fill_alike = beside.AnswersAlike.fill_alike chains s s' π moved work buffer work' buffer' bytes h.0 h'.0 h.1 h'.1

    -- where it fills, the sources of one are those of the other, moved and renumbered
    pub fill_sources : (l : List ℕ) → fill chains s work buffer ≡ Fill.filled l
        → (l' : List ℕ) × (fill chains s' work' buffer' ≡ Fill.filled l')
        × (length l ≡ rows_at s) × (length l' ≡ rows_at s)
        × ((i : ℕ) → i < rows_at s → get_or l' (π.to i) 0 ≡ π.to (get_or l i 0))
    fill_sources = beside.AnswersAlike.fill_sources chains s s' π moved work buffer work' buffer' bytes h.0 h'.0 h.1 h'.1

    -- and so they stand in the lent source buffers c and c' afterwards
    pub fill_written : (c c' l : List ℕ) → fill chains s work buffer ≡ Fill.filled l → (i : ℕ) → i < rows_at s
        → get_or (sources_after (fill chains s' work' buffer') c') (π.to i) 0
        ≡ π.to (get_or (sources_after (fill chains s work buffer) c) i 0)
    fill_written = beside.AnswersAlike.fill_written chains s s' π moved work buffer work' buffer' bytes h.0 h'.0 h.1 h'.1

-- the same of tables in two pieces, where the joined tables are each other's with rows moved
module _ (chains : Bool) (f s f' s' : List ℕ) (pair : pieces_fault f s ≡ 0) (pair' : pieces_fault f' s' ≡ 0)
    (π : Renumbering (rows_at (joined f s))) (moved : Moved (joined f s) (joined f' s') π)
    (work buffer work' buffer' : ℕ) where
  pub check_pieces : CheckHears (joined f s) work buffer → CheckHears (joined f' s') work' buffer'
      → check_word (check_both chains f' s' work' buffer') ≡ check_word (check_both chains f s work buffer)
  check_pieces h h' =
      beside.PiecesAlike.check_pieces chains f s f' s' pair pair' π moved work buffer work' buffer' h.0 h'.0 h.1 h'.1

  module _ (bytes : Bytes (joined f s)) (h : FillHears (joined f s) work buffer)
      (h' : FillHears (joined f' s') work' buffer') where
    pub fill_pieces : fill_word (fill_both chains f' s' work' buffer') ≡ fill_word (fill_both chains f s work buffer)
    fill_pieces =
        beside.PiecesAlike.fill_pieces chains f s f' s' pair pair' π moved work buffer work' buffer' bytes h.0 h'.0 h.1 h'.1

    pub written_pieces : (c c' l : List ℕ) → fill_both chains f s work buffer ≡ Fill.filled l
        → (i : ℕ) → i < rows_at (joined f s)
        → get_or (sources_after (fill_both chains f' s' work' buffer') c') (π.to i) 0
        ≡ π.to (get_or (sources_after (fill_both chains f s work buffer) c) i 0)
    written_pieces =
        beside.PiecesAlike.written_pieces chains f s f' s' pair pair' π moved work buffer work' buffer' bytes h.0 h'.0 h.1 h'.1
