-- What holds after one turn at the cell of a key, as facts about plain histories.
use Rattle.std.specs.Prelude.{◌≡◌, ℕ, true, List, [], ◌∷◌, ◌++◌}
use Rattle.std.specs.List.{list_any}
use Rattle.lock_book.specs.History.{StartsWith, IsLegal, calls_by, entry, last_of}
use Rattle.single_flight.specs.declared.history.CellState.{CellState}
use Rattle.single_flight.specs.declared.history.CellState.TheVariants.{Empty}
use Rattle.single_flight.specs.declared.history.CellCall.{CellCall}
use Rattle.single_flight.specs.declared.history.CellReply.{CellReply}
use Rattle.single_flight.specs.Cells.{MayCall}
use Rattle.single_flight.specs.Laws.{Step, is_loss}

-- The call c of the caller n with the reply r: what is seen then, `seen'`, begins with what was seen, and ends with the
-- call, which is legal after all calls before it; these have the caller's own calls
pub record Turned {V : Type 0} (holds : V → Type 0) (n : ℕ) (seen mine seen' mine' : List (Step V)) (c : CellCall V) (r : CellReply V) : Type 0 where
  pub before : List (Step V)
  pub after : CellState V
  pub ends : seen' ≡ before ++ entry n c r after ∷ []
  pub begins : StartsWith before seen
  pub lawful : IsLegal (MayCall holds) (Empty 0) before
  pub step : MayCall holds n (last_of (Empty 0) before) c r after
  pub own : mine' ≡ mine ++ entry n c r after ∷ []
  pub known : calls_by n before ≡ mine

-- the history goes on, and since then a load failed or its value was removed
pub record WasLostSince {V : Type 0} (seen seen' : List (Step V)) : Type 0 where
  pub since : List (Step V)
  pub ends : seen' ≡ seen ++ since
  pub lost : list_any (λ y. is_loss y.call y.reply) since ≡ true
