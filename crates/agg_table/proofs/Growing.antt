-- What a participant has seen, and its own calls, begin with those before.
use Rattle.std.proofs.Common.{◌≡◌, ◌++◌, inl, inr, true, false, ℕ, List, [], ◌∷◌, Option, ap, sym, subst, ◌∙◌, append_assoc, append-nil}
use mathlib.Core.Logic.{dite}
use native.Mathlib.Decide.{ℕ_discrete}
use Rattle.lock_book.specs.declared.view.Entry.{Entry}
use Rattle.lock_book.specs.History.{StartsWith, entry}
use Rattle.lock_book.specs.Told.{MakesAll}
use Rattle.free_pages.specs.Legal.{PagesCall, PagesReply}
use Rattle.span_pools.specs.Legal.{PoolCall, PoolReply}
use Rattle.size_classes.specs.Classes.{IsClass}
use Rattle.dsa_area.specs.Requests.{Events, IsGranted, IsHandedBack, IsRefused, IsTakenBack, PageEvents}
use Rattle.dsa_area.specs.Shown.{none_granted, no_superblock, number_of, pages_legal, pages_mine, pages_seen, pool_legal, pool_mine, pool_seen}
use Rattle.dsa_area.specs.declared.area.Area.{Area}
use Rattle.dsa_area.specs.declared.area.AreaPass.{AreaPass}
use Rattle.dshash_parts.specs.Legal.{PartitionLegal}
use Rattle.dshash_parts.specs.States.{PartitionState, fresh}
use Rattle.dshash_parts.specs.Traces.{Asked, Event, Gave, Got, Makes, Missed, Request, Requested, Sight, Trace, Turn}
use Rattle.dshash_parts.specs.declared.histories.PartitionCalls.{PartitionCalls}
use Rattle.dshash_parts.specs.declared.histories.PartitionReplies.{PartitionReplies}

module _ {S C R : Type 0} where
  pub begins_itself : (xs ys : List (Entry S C R)) → ys ≡ xs → StartsWith ys xs
  begins_itself xs ys e = ([], e ∙ sym (append-nil xs))

  pub begins_through : (xs ys zs : List (Entry S C R)) → StartsWith ys xs → StartsWith zs ys → StartsWith zs xs
  begins_through xs ys zs a b = (a.0 ++ b.0, b.1 ∙ ap (λ (l : List (Entry S C R)). l ++ b.0) a.1 ∙ append_assoc xs a.0 b.0)

  module _ (legal : ℕ → S → C → R → S → Type 0) (opening : S) (n : ℕ) where
    pub makes_begins : (s m s' m' : List (Entry S C R)) (es : List (C × R)) → MakesAll legal opening n s m s' m' es → StartsWith s' s × StartsWith m' m
    makes_begins s m s' m' [] x = (begins_itself s s' x.0, begins_itself m m' x.1)
    makes_begins s m s' m' (e ∷ es) x =
        let one = entry n e.0 e.1 x.2.after ∷ [] in
        let rest = makes_begins x.0 x.1 s' m' es x.3 in
        let grown : StartsWith x.0 x.2.before = (one, x.2.ends) in
        let own : StartsWith x.1 m = (one, x.2.own) in
        (begins_through s x.0 s' (begins_through s x.2.before x.0 x.2.begins grown) rest.0, begins_through m x.1 m' own rest.1)

-- a pass of the area, before and after
pub record AreaGrew (p q : AreaPass) : Type 0 where
  pub pages : StartsWith (pages_mine q) (pages_mine p)
  pub pages_seen : StartsWith (Rattle.dsa_area.specs.Shown.pages_seen q) (Rattle.dsa_area.specs.Shown.pages_seen p)
  pub pools : (class : ℕ) → IsClass class → StartsWith (pool_mine q class) (pool_mine p class)
  pub pools_seen : (class : ℕ) → IsClass class → StartsWith (pool_seen q class) (pool_seen p class)

pub area_itself : (p q : AreaPass) → q ≡ p → AreaGrew p q
area_itself p q e = record {
  pages = begins_itself (pages_mine p) (pages_mine q) (ap (λ (x : AreaPass). pages_mine x) e);
  pages_seen = begins_itself (pages_seen p) (pages_seen q) (ap (λ (x : AreaPass). pages_seen x) e);
  pools = λ k is. begins_itself (pool_mine p k) (pool_mine q k) (ap (λ (x : AreaPass). pool_mine x k) e);
  pools_seen = λ k is. begins_itself (pool_seen p k) (pool_seen q k) (ap (λ (x : AreaPass). pool_seen x k) e);
}

pub area_through : (p q u : AreaPass) → AreaGrew p q → AreaGrew q u → AreaGrew p u
area_through p q u a b = record {
  pages = begins_through (pages_mine p) (pages_mine q) (pages_mine u) a.pages b.pages;
  pages_seen = begins_through (pages_seen p) (pages_seen q) (pages_seen u) a.pages_seen b.pages_seen;
  pools = λ k is. begins_through (pool_mine p k) (pool_mine q k) (pool_mine u k) (a.pools k is) (b.pools k is);
  pools_seen = λ k is. begins_through (pool_seen p k) (pool_seen q k) (pool_seen u k) (a.pools_seen k is) (b.pools_seen k is);
}

module _ (a : Area) (p q : AreaPass) where
  at_pool : (k : ℕ) (es : List (PoolCall × PoolReply)) → MakesAll (pool_legal a k) no_superblock (number_of p) (pool_seen p k) (pool_mine p k) (pool_seen q k) (pool_mine q k) es
      → StartsWith (pool_seen q k) (pool_seen p k) × StartsWith (pool_mine q k) (pool_mine p k)
  at_pool k es x = makes_begins (pool_legal a k) no_superblock (number_of p) (pool_seen p k) (pool_mine p k) (pool_seen q k) (pool_mine q k) es x

  at_pages : (fs : List (PagesCall × PagesReply)) → MakesAll (pages_legal a) (none_granted a) (number_of p) (pages_seen p) (pages_mine p) (pages_seen q) (pages_mine q) fs
      → StartsWith (pages_seen q) (pages_seen p) × StartsWith (pages_mine q) (pages_mine p)
  at_pages fs x = makes_begins (pages_legal a) (none_granted a) (number_of p) (pages_seen p) (pages_mine p) (pages_seen q) (pages_mine q) fs x

  pub events_grew : (class : ℕ) (es : List (PoolCall × PoolReply)) (fs : List (PagesCall × PagesReply)) → Events a p q class es fs → AreaGrew p q
  events_grew class es fs x =
      let both : (k : ℕ) → IsClass k → StartsWith (pool_seen q k) (pool_seen p k) × StartsWith (pool_mine q k) (pool_mine p k) = λ k is.
      dite (ℕ_discrete k class)
      (λ same. subst (λ (j : ℕ). StartsWith (pool_seen q j) (pool_seen p j) × StartsWith (pool_mine q j) (pool_mine p j)) (sym same) (at_pool class es x.pool))
      (λ ne. at_pool k [] (x.others k is ne)) in
      let there = at_pages fs x.pages in
      record { pages = there.1; pages_seen = there.0; pools = λ k is. (both k is).1; pools_seen = λ k is. (both k is).0 }

  pub page_events_grew : (fs : List (PagesCall × PagesReply)) → PageEvents a p q fs → AreaGrew p q
  page_events_grew fs x =
      let there = at_pages fs x.pages in
      record { pages = there.1; pages_seen = there.0; pools = λ k is. (at_pool k [] (x.pools k is)).1; pools_seen = λ k is. (at_pool k [] (x.pools k is)).0 }

  granted_grew : (bytes at : ℕ) → IsGranted a p q bytes at → AreaGrew p q
  granted_grew bytes at (inl x) = events_grew x.0 _ _ x.2
  granted_grew bytes at (inr (inl x)) = events_grew x.0 _ _ x.3
  granted_grew bytes at (inr (inr x)) = page_events_grew _ x.1

  refused_grew : (bytes wanted largest : ℕ) → IsRefused a p q bytes wanted largest → AreaGrew p q
  refused_grew bytes wanted largest (inl x) = events_grew x.0 _ _ x.2
  refused_grew bytes wanted largest (inr x) = page_events_grew _ x.1

  taken_grew : (at bytes : ℕ) → IsTakenBack a p q at bytes → AreaGrew p q
  taken_grew at bytes (inl x) = events_grew x.0 _ _ x.3
  taken_grew at bytes (inr (inl x)) = events_grew x.0 _ _ x.5
  taken_grew at bytes (inr (inr x)) = page_events_grew _ x.2

  handed_grew : (at bytes : ℕ) → IsHandedBack a p q at bytes → AreaGrew p q
  handed_grew at bytes (inl x) = events_grew x.0 _ _ x.3
  handed_grew at bytes (inr (inl x)) = page_events_grew _ x.2
  handed_grew at bytes (inr (inr x)) = page_events_grew _ x.2

  pub requested_grew : (r : Request) → Requested a p q r → AreaGrew p q
  requested_grew (Got bytes) x = granted_grew bytes x.0 x.1
  requested_grew (Missed bytes wanted largest) x = refused_grew bytes wanted largest x
  requested_grew (Gave bytes true) x = taken_grew x.0 bytes x.1
  requested_grew (Gave bytes false) x = handed_grew x.0 bytes x.1

-- what a pass of the table shows, before and after
pub record SightGrew {S C R : Type 0} (v w : Sight S C R) : Type 0 where
  pub seen : (k : ℕ) → StartsWith (w.seen k) (v.seen k)
  pub mine : (k : ℕ) → StartsWith (w.mine k) (v.mine k)
  pub area : AreaGrew v.area w.area

module _ {S C R : Type 0} (step : Option S → C → Option S × R) (a : Area) (n : ℕ) where
  one_grew : (v w : Sight S C R) (e : Event S C R) → Makes step a n v w e → SightGrew v w
  one_grew v w (Turn number call reply) h =
      let at : (k : ℕ) (es : List (PartitionCalls C × PartitionReplies S R)) → MakesAll (λ _. PartitionLegal step k) fresh n (v.seen k) (v.mine k) (w.seen k) (w.mine k) es → StartsWith (w.seen k) (v.seen k) × StartsWith (w.mine k) (v.mine k) =
      λ k es x. makes_begins (λ _. PartitionLegal step k) fresh n (v.seen k) (v.mine k) (w.seen k) (w.mine k) es x in
      let both : (k : ℕ) → StartsWith (w.seen k) (v.seen k) × StartsWith (w.mine k) (v.mine k) = λ k.
      dite (ℕ_discrete k number)
      (λ same. subst (λ (j : ℕ). StartsWith (w.seen j) (v.seen j) × StartsWith (w.mine j) (v.mine j)) (sym same) (at number ((call, reply) ∷ []) h.0.here))
      (λ ne. at k [] (h.0.others k ne)) in
      record { seen = λ k. (both k).0; mine = λ k. (both k).1; area = area_itself v.area w.area h.1 }
  one_grew v w (Asked request) h = record {
    seen = λ k. begins_itself (v.seen k) (w.seen k) (ap (λ (f : ℕ → List (Entry (PartitionState S) (PartitionCalls C) (PartitionReplies S R))). f k) h.2);
    mine = λ k. begins_itself (v.mine k) (w.mine k) (ap (λ (f : ℕ → List (Entry (PartitionState S) (PartitionCalls C) (PartitionReplies S R))). f k) h.3);
    area = requested_grew a v.area w.area request h.0;
  }

  pub trace_grew : (v w : Sight S C R) (es : List (Event S C R)) → Trace step a n v w es → SightGrew v w
  trace_grew v w [] t = record {
    seen = λ k. begins_itself (v.seen k) (w.seen k) (ap (λ (s : Sight S C R). s.seen k) t);
    mine = λ k. begins_itself (v.mine k) (w.mine k) (ap (λ (s : Sight S C R). s.mine k) t);
    area = area_itself v.area w.area (ap (λ (s : Sight S C R). s.area) t);
  }
  trace_grew v w (e ∷ es) t =
      let first = one_grew v t.0 e t.1 in
      let rest = trace_grew t.0 w es t.2 in
      record {
        seen = λ k. begins_through (v.seen k) (t.0.seen k) (w.seen k) (first.seen k) (rest.seen k);
        mine = λ k. begins_through (v.mine k) (t.0.mine k) (w.mine k) (first.mine k) (rest.mine k);
        area = area_through v.area t.0.area w.area first.area rest.area;
      }
