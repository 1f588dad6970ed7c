-- The same of tables in two pieces, by their joined tables: the proofs of Page.antt. Assumes nothing.
use Rattle.std.specs.Prelude.{◌≡◌, Bool, true, List, ℕ, ◌<◌, get_or}
use Rattle.std.proofs.Common.{sym, ap, ◌∙◌}
use Rattle.model.specs.declared.Admission.TheVariants.{Admitted}
use Rattle.model.specs.Limits.{CYCLE, SOURCES}
use Rattle.model.specs.Header.{agents_at, rows_at}
use Rattle.model.specs.Refusal.{buffers_fit, admission}
use Rattle.model.specs.Words.{WellFormed}
use Rattle.model.specs.Fill.{Outcome, sources_after}
use Rattle.model.specs.Fill as Fill
use Rattle.model_laws.specs.FilledLaws.{Bytes}
use Rattle.door_pieces.specs.Pieces.{pieces_fault, joined, check_both, fill_both}
use Rattle.door_pieces.specs.Promise.{check_joined, fill_joined}
use Rattle.model_page_order.specs.Renumber.{Renumbering}
use Rattle.model_page_order.specs.Moved.{Moved}
use Rattle.model_page_order.specs.VerdictAlike.{check_word, fill_word}
use Rattle.model_page_order.proofs.AnswersAlike.{check_alike, fill_alike, fill_written}

module _ (chains : Bool) (f s f' s' : List ℕ) (z : pieces_fault f s ≡ 0) (z' : pieces_fault f' s' ≡ 0)
    (π : Renumbering (rows_at (joined f s))) (moved : Moved (joined f s) (joined f' s') π) (work buffer work' buffer' : ℕ) where
  -- check says race-free, race or inconsistent of both alike
  pub check_pieces : buffers_fit CYCLE work buffer ≡ true → buffers_fit CYCLE work' buffer' ≡ true → WellFormed (joined f s) → WellFormed (joined f' s')
      → check_word (check_both chains f' s' work' buffer') ≡ check_word (check_both chains f s work buffer)
  check_pieces fit fit' well well' =
      ap check_word (check_joined f' s' z' work' buffer' chains)
      ∙ check_alike chains (joined f s) (joined f' s') π moved work buffer work' buffer' fit fit' well well'
      ∙ ap check_word (sym (check_joined f s z work buffer chains))

  -- fill says race, none or filled of both alike
  pub fill_pieces : Bytes (joined f s) → buffers_fit SOURCES work buffer ≡ true → buffers_fit SOURCES work' buffer' ≡ true
      → admission true (joined f s) ≡ Admitted (agents_at (joined f s)) (rows_at (joined f s))
      → admission true (joined f' s') ≡ Admitted (agents_at (joined f' s')) (rows_at (joined f' s'))
      → fill_word (fill_both chains f' s' work' buffer') ≡ fill_word (fill_both chains f s work buffer)
  fill_pieces bytes fit fit' well well' =
      ap fill_word (fill_joined f' s' z' work' buffer' chains)
      ∙ fill_alike chains (joined f s) (joined f' s') π moved work buffer work' buffer' bytes fit fit' well well'
      ∙ ap fill_word (sym (fill_joined f s z work buffer chains))

  -- and the sources that it writes for one are the other's, moved and renumbered
  pub written_pieces : Bytes (joined f s) → buffers_fit SOURCES work buffer ≡ true → buffers_fit SOURCES work' buffer' ≡ true
      → admission true (joined f s) ≡ Admitted (agents_at (joined f s)) (rows_at (joined f s))
      → admission true (joined f' s') ≡ Admitted (agents_at (joined f' s')) (rows_at (joined f' s'))
      → (c c' l : List ℕ) → fill_both chains f s work buffer ≡ Fill.filled l → (i : ℕ) → i < rows_at (joined f s)
      → get_or (sources_after (fill_both chains f' s' work' buffer') c') (π.to i) 0 ≡ π.to (get_or (sources_after (fill_both chains f s work buffer) c) i 0)
  written_pieces bytes fit fit' well well' c c' l Filled_is i below_i =
      ap (λ (o : Outcome). get_or (sources_after o c') (π.to i) 0) (fill_joined f' s' z' work' buffer' chains)
      ∙ fill_written chains (joined f s) (joined f' s') π moved work buffer work' buffer' bytes fit fit' well well' c c' l
      (sym (fill_joined f s z work buffer chains) ∙ Filled_is) i below_i
      ∙ ap (λ (o : Outcome). π.to (get_or (sources_after o c) i 0)) (sym (fill_joined f s z work buffer chains))
