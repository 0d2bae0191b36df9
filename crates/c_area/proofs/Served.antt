-- A call of the pages and of one pool is a call of the area.
use Rattle.std.proofs.Common.{◌≡◌, ◌≢◌, ℕ, ◌+◌, ◌-◌, ◌*◌, ◌/◌, ◌%◌, ◌<◌, ◌≤◌, ◌⊎◌, inl, inr, Bool, true, false, Option, Some, None, is_some, IsSomeAnd, Result, Ok, Err, IfOk, IfErr, List, map, get_or, set, refl, sym, ap, subst, ◌∙◌, arith}
use Rattle.size_classes.specs.Classes.{IsClass, IsLeast, class_size, largest_size}
use Rattle.region_words.specs.declared.chunk.Chunk.{Chunk}
use Rattle.region_words.specs.declared.chunk.Run.{Run}
use Rattle.free_pages.specs.Area.{superblock_pages}
use Rattle.free_pages.specs.declared.pages.NoRun.{NoRun}
use Rattle.free_pages.specs.Legal.{PagesReply, Take, Give, Gets, Lacks, Accepts, HandsBack}
use Rattle.free_pages.specs.Legal as pages
use Rattle.free_pages.specs.PagesView.{PagesView}
use Rattle.span_pools.specs.declared.layout.Layout.{Layout}
use Rattle.span_pools.specs.PoolView.{PoolView, IsSuperblock}
use Rattle.span_pools.proofs.Offers.{object_bytes}
use Rattle.dsa_area.specs.Sizes.{chunk_size, page_bytes, pages_for}
use Rattle.dsa_area.proofs.Chunks.{no_large, size_least, size_pages}
use Rattle.c_area.specs.Arenas.{IsArena, IsPoolOf, name_of, state_of}
use Rattle.c_area.specs.Legal.{AtClass, AtPages, Grants, GrantsObject, HandsItBack, IsNoObject, LacksObject, Refuses, TakesBack, TakesObject}
use Rattle.c_area.specs.declared.arena.Arena.{Arena}
use Rattle.c_area.specs.declared.histories.AreaName.{AreaName}
use Rattle.c_area.proofs.Pools.{at_class, pool_there, state_at}

-- the pool of a class stands two places before its number
pub place_of : (class k : ℕ) → IsClass class → k ≡ class - 2 → k + 2 ≡ class
place_of class k is e = omega (arith, is.low)

-- pages whose state alone changed have their name
pub same_name : (p q : PagesView) → q.region ≡ p.region → q.first ≡ p.first → q.state.pages ≡ p.state.pages
    → ◌≡◌ {A = AreaName} (record { region = q.region; first = q.first; pages = q.state.pages }) (record { region = p.region; first = p.first; pages = p.state.pages })
same_name p q e f g = λ i. record { region = e i; first = f i; pages = g i }

module _ (a : Arena) (p' : PagesView) (class k : ℕ) (b x : PoolView) (w : IsArena a) (is : IsClass class) (e : k + 2 ≡ class) (h : b ≡ get_or a.pools.items k b) where
  pub object_granted : (bytes : ℕ) (r : Result Chunk NoRun) → IsLeast bytes class → IfOk r (λ c. GrantsObject c.at b.layout a.pages.first a.pages.state b.state p'.state x.state) → IfOk r (λ c. Grants (name_of a) (state_of a) (state_at p' (set a.pools.items k x)) bytes c.at)
  object_granted bytes (Ok c) least g = inl (class, least, at_class a p' class k b x w is e h (GrantsObject c.at) g)
  object_granted bytes (Err lack) least g = tt

  pub object_refused : (bytes : ℕ) (r : Result Chunk NoRun) → IsLeast bytes class → IfErr r (λ lack. LacksObject lack.wanted lack.largest b.layout a.pages.first a.pages.state b.state p'.state x.state)
      → IfErr r (λ lack. Refuses (name_of a) (state_of a) (state_at p' (set a.pools.items k x)) bytes lack.wanted lack.largest)
  object_refused bytes (Ok c) least g = tt
  object_refused bytes (Err lack) least g = inl (class, least, at_class a p' class k b x w is e h (LacksObject lack.wanted lack.largest) g)

  pub object_sized : (bytes : ℕ) (region : _) (r : Result Chunk NoRun) → IsLeast bytes class → IfOk r (λ c. (c.bytes ≡ 8 * b.layout.size) × (c.part.region ≡ region)) → IfOk r (λ c. (c.bytes ≡ chunk_size bytes) × (c.part.region ≡ region))
  object_sized bytes region (Ok c) least g =
      let there = pool_there a class k b w is e h in
      (g.0 ∙ ap (λ l. 8 * l.size) there.layout ∙ object_bytes class a.pages.first a.pages.state.pages is ∙ size_least bytes class least, g.1)
  object_sized bytes region (Err lack) least g = tt

  pub object_taken : {T E : Type 0} (at bytes : ℕ) (r : Result T E) → class_size class ≡ bytes → IfOk r (λ _. TakesObject at bytes b.layout a.pages.first a.pages.state b.state p'.state x.state) → IfOk r (λ _. TakesBack (name_of a) (state_of a) (state_at p' (set a.pools.items k x)) at bytes)
  object_taken at bytes (Ok u) size g = inl (class, size, at_class a p' class k b x w is e h (TakesObject at bytes) g)
  object_taken at bytes (Err o) size g = tt

  pub object_back : {T E : Type 0} (at bytes : ℕ) (r : Result T E) → class_size class ≡ bytes → IfErr r (λ _. IsNoObject at bytes b.layout a.pages.first a.pages.state b.state p'.state x.state) → IfErr r (λ _. HandsItBack (name_of a) (state_of a) (state_at p' (set a.pools.items k x)) at bytes)
  object_back at bytes (Ok u) size g = tt
  object_back at bytes (Err o) size g = inl (class, size, at_class a p' class k b x w is e h (IsNoObject at bytes) g)

-- whole pages: no pool changes
module _ (a a' : Arena) (pools : a'.pools.items ≡ a.pools.items) where
  beside : (c : _) (r : _) → pages.IsLegal a.pages.first a.pages.state c r a'.pages.state → AtPages (name_of a) (state_of a) (state_of a') c r
  beside c r made = record { made = made; pools = ap (λ (l : List PoolView). map (λ (b : PoolView). b.state) l) pools }

  pub pages_granted : (bytes n : ℕ) (r : Result Chunk NoRun) → largest_size < bytes → n ≡ pages_for bytes → IfOk r (λ c. pages.IsLegal a.pages.first a.pages.state (Take n false) (Gets c.at) a'.pages.state) → IfOk r (λ c. Grants (name_of a) (state_of a) (state_of a') bytes c.at)
  pages_granted bytes n (Ok c) large is g = inr (large, beside _ _ (subst (λ (z : ℕ). pages.IsLegal a.pages.first a.pages.state (Take z false) (Gets c.at) a'.pages.state) is g))
  pages_granted bytes n (Err lack) large is g = tt

  pub pages_refused : (bytes n : ℕ) (r : Result Chunk NoRun) → largest_size < bytes → n ≡ pages_for bytes → IfErr r (λ lack. pages.IsLegal a.pages.first a.pages.state (Take n false) (Lacks lack.wanted lack.largest) a'.pages.state)
      → IfErr r (λ lack. Refuses (name_of a) (state_of a) (state_of a') bytes lack.wanted lack.largest)
  pages_refused bytes n (Ok c) large is g = tt
  pages_refused bytes n (Err lack) large is g = inr (large, beside _ _ (subst (λ (z : ℕ). pages.IsLegal a.pages.first a.pages.state (Take z false) (Lacks lack.wanted lack.largest) a'.pages.state) is g))

  pub pages_taken : {T E : Type 0} (at bytes : ℕ) (r : Result T E) → largest_size < bytes → IfOk r (λ _. (bytes % page_bytes ≡ 0) × pages.IsLegal a.pages.first a.pages.state (Give at (bytes / page_bytes) false) Accepts a'.pages.state) → IfOk r (λ _. TakesBack (name_of a) (state_of a) (state_of a') at bytes)
  pages_taken at bytes (Ok u) large g = inr (large, g.0, beside _ _ g.1)
  pages_taken at bytes (Err o) large g = tt

  pub pages_back : {T E : Type 0} (at bytes : ℕ) (r : Result T E) → largest_size < bytes
      → IfErr r (λ _. ((bytes % page_bytes ≡ 0) × pages.IsLegal a.pages.first a.pages.state (Give at (bytes / page_bytes) false) HandsBack a'.pages.state) ⊎ ((bytes % page_bytes ≢ 0) × (a'.pages ≡ a.pages)))
      → IfErr r (λ _. HandsItBack (name_of a) (state_of a) (state_of a') at bytes)
  pages_back at bytes (Ok u) large g = tt
  pages_back at bytes (Err o) large (inl g) = inr (inl (large, g.0, beside _ _ g.1))
  pages_back at bytes (Err o) large (inr g) = inr (inr (same g.1, no_large bytes large, λ _. g.0))
    where
      same : a'.pages ≡ a.pages → state_of a' ≡ state_of a
      same p = λ i. record { pages = (p i).state; pools = map (λ (b : PoolView). b.state) (pools i) }

-- whole pages have the bytes of the chunk
pub pages_sized : (bytes n : ℕ) (region : _) (r : Result Chunk NoRun) → largest_size < bytes → n ≡ pages_for bytes → IfOk r (λ c. (c.bytes ≡ page_bytes * n) × (c.part.region ≡ region)) → IfOk r (λ c. (c.bytes ≡ chunk_size bytes) × (c.part.region ≡ region))
pages_sized bytes n region (Ok c) large is g = (g.0 ∙ ap (λ (z : ℕ). page_bytes * z) is ∙ size_pages bytes large, g.1)
pages_sized bytes n region (Err lack) large is g = tt

-- a superblock is given to the pages, whatever they reply
pub some_reply : (region : _) (first : ℕ) (before after : _) (run : Run) (l : Layout) (r : Result (Unit {0}) Run) → IsSuperblock region l run.at run.pages run.words run.control
    → IfOk r (λ _. pages.IsLegal first before (Give run.at run.pages (is_some run.control)) Accepts after) → IfErr r (λ _. pages.IsLegal first before (Give run.at run.pages (is_some run.control)) HandsBack after)
    → (reply : PagesReply) × pages.IsLegal first before (Give run.at superblock_pages true) reply after
some_reply region first before after run l r s x y = go r x y
  where
    has_some : {T : Type 0} (o : Option T) (P : T → Type 0) → IsSomeAnd o P → is_some o ≡ true
    has_some None P h = absurd h
    has_some (Some x) P h = refl

    whole : (reply : PagesReply) → pages.IsLegal first before (Give run.at run.pages (is_some run.control)) reply after → pages.IsLegal first before (Give run.at superblock_pages true) reply after
    whole reply z = subst (λ (z : ℕ × Bool). pages.IsLegal first before (Give run.at z.0 z.1) reply after) (λ i. (s.pages_is i, has_some run.control _ s.records_are i)) z

    go : (r : Result (Unit {0}) Run) → IfOk r (λ _. pages.IsLegal first before (Give run.at run.pages (is_some run.control)) Accepts after) → IfErr r (λ _. pages.IsLegal first before (Give run.at run.pages (is_some run.control)) HandsBack after)
        → (reply : PagesReply) × pages.IsLegal first before (Give run.at superblock_pages true) reply after
    go (Ok u) x y = (Accepts, whole Accepts x)
    go (Err e) x y = (HandsBack, whole HandsBack y)
