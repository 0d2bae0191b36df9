-- A participant's passes of the table of groups stay in their places.
use Rattle.std.proofs.Common.{ℕ, Option, Some, None}
use Rattle.agg_table.specs.Shown.{IsHashSeat, StaysSeated}
use Rattle.agg_table.specs.declared.part.HashPart.{HashPart}
use Rattle.agg_table.specs.declared.part.HashSeat.{HashSeat}
use Rattle.agg_table.proofs.Seats.{grew_itself, grew_through}
use Rattle.atomic_table.specs.Seated.{TableId}
use Rattle.worker_run.specs.Job.{IsSeated}

module _ (region : TableId) where
  pub seated_at_first : (number : ℕ) (p : Option HashPart) (s : Option HashSeat) → IsHashSeat region number p s → IsSeated region p s
  seated_at_first number None None h = tt
  seated_at_first number None (Some s) h = absurd h
  seated_at_first number (Some p) None h = absurd h
  seated_at_first number (Some p) (Some s) h = (h.0, h.1)

  pub stays_seated : (p : Option HashPart) (s : Option HashSeat) → IsSeated region p s → StaysSeated p s s
  stays_seated None None h = tt
  stays_seated None (Some s) h = absurd h
  stays_seated (Some p) None h = absurd h
  stays_seated (Some p) (Some s) h = (h.1, grew_itself s)

  pub seated_then : (p : Option HashPart) (s t : Option HashSeat) → IsSeated region p s → StaysSeated p s t → IsSeated region p t
  seated_then None None None h k = tt
  seated_then None None (Some t) h k = absurd k
  seated_then None (Some s) t h k = absurd h
  seated_then (Some p) None t h k = absurd h
  seated_then (Some p) (Some s) None h k = absurd k
  seated_then (Some p) (Some s) (Some t) h k = (h.0, k.0)

pub stays_through : (p : Option HashPart) (s t u : Option HashSeat) → StaysSeated p s t → StaysSeated p t u → StaysSeated p s u
stays_through None None None None h k = tt
stays_through None None None (Some u) h k = absurd k
stays_through None None (Some t) u h k = absurd h
stays_through None (Some s) t u h k = absurd h
stays_through (Some p) None t u h k = absurd h
stays_through (Some p) (Some s) None u h k = absurd h
stays_through (Some p) (Some s) (Some t) None h k = absurd k
stays_through (Some p) (Some s) (Some t) (Some u) h k = (k.0, grew_through s t u h.1 k.1)
