-- Passes that stay in their places.
use Rattle.std.proofs.Common.{ℕ, [], Option, Some, None, refl, sym, ◌∙◌, append-nil}
use Rattle.agg_table.specs.Shown.{Grew, IsHashSeat, StaysSeated}
use Rattle.agg_table.specs.declared.part.HashPart.{HashPart}
use Rattle.agg_table.specs.declared.part.HashSeat.{HashSeat}
use Rattle.atomic_table.specs.Seated.{TableId}
use Rattle.agg_table.proofs.Growing.{begins_through}

pub grew_itself : (s : HashSeat) → Grew s s
grew_itself s = record {
  number = refl;
  turns = λ i. ([], sym (append-nil _));
  seen = λ i. ([], sym (append-nil _));
  pages = ([], sym (append-nil _));
  pages_seen = ([], sym (append-nil _));
  pools = λ k is. ([], sym (append-nil _));
  pools_seen = λ k is. ([], sym (append-nil _));
}

pub grew_through : (s t u : HashSeat) → Grew s t → Grew t u → Grew s u
grew_through s t u a b = record {
  number = b.number ∙ a.number;
  turns = λ i. begins_through _ _ _ (a.turns i) (b.turns i);
  seen = λ i. begins_through _ _ _ (a.seen i) (b.seen i);
  pages = begins_through _ _ _ a.pages b.pages;
  pages_seen = begins_through _ _ _ a.pages_seen b.pages_seen;
  pools = λ k is. begins_through _ _ _ (a.pools k is) (b.pools k is);
  pools_seen = λ k is. begins_through _ _ _ (a.pools_seen k is) (b.pools_seen k is);
}

-- passes that were not used stay in their places
pub stays_itself : (region : TableId) (number : ℕ) (p : Option HashPart) (s : Option HashSeat) → IsHashSeat region number p s → StaysSeated p s s
stays_itself region number None None h = tt
stays_itself region number None (Some s) h = absurd h
stays_itself region number (Some p) None h = absurd h
stays_itself region number (Some p) (Some s) h = (h.1, grew_itself s)
