-- Laws for the callers of an area: of what a pass has seen, of a lone caller, and of refusals.
use Rattle.std.proofs.Common.{◌≡◌, ℕ, ◌-◌, ◌<◌, ◌≤◌, Bool, true, false, List, [], ◌∷◌, ◌++◌, refl, sym, ap, ◌∙◌, subst, arith, ⊎_elim}
use Rattle.std.proofs.lemmas.Bool.{cases_lt}
use Rattle.std.proofs.lemmas.List.{append_cancel_right}
use Rattle.atomic_table.specs.Seated.{TableId}
use Rattle.lock_book.specs.declared.view.Entry.{Entry}
use Rattle.lock_book.specs.History.{entry, last_of, calls_by, StartsWith, IsLegal}
use Rattle.lock_book.specs.Shown as shelf
use Rattle.lock_book.proofs.Histories.{last_snoc}
use Rattle.lock_book.proofs.Uses.{kept_at, lone}
use Rattle.size_classes.specs.Classes.{IsClass, IsLeast, largest_size}
use Rattle.size_classes.proofs.Sizes.{class_range}
use Rattle.free_pages.specs.Area.{superblock_pages}
use Rattle.free_pages.specs.Legal as pages
use Rattle.free_pages.specs.Legal.{PagesState, PagesCall, PagesReply, Take, Give, Look, Gets, Lacks, Accepts, HandsBack, Shows, IsNoRun}
use Rattle.span_pools.specs.declared.layout.Layout.{Layout}
use Rattle.span_pools.specs.Legal as pool
use Rattle.span_pools.specs.Legal.{PoolState, PoolCall, PoolReply, Alloc, Add, Free, AllocMany, FreeMany, Trim, Object, Full, Kept, Whole, Stranger, Objects, AreAllocs, AreFreed, IsSettled}
use Rattle.span_pools.specs.PoolView.{layout_of}
use Rattle.dsa_area.specs.declared.area.Area.{Area}
use Rattle.dsa_area.specs.declared.area.AreaPass.{AreaPass}
use Rattle.lock_book.specs.Told.{Makes}
use Rattle.dsa_area.specs.Shown.{Belongs, IsArea, callers_of, first_of, pages_of, number_of, pages_name, pool_name, none_granted, no_superblock, pages_legal, pool_legal, pages_seen, pages_mine, pool_seen, pool_mine}
use Rattle.dsa_area.specs.Sizes.{pages_for}
use Rattle.dsa_area.specs.Requests.{AtPages, AtPool, Events, PageEvents, IsRefused}
use Rattle.dsa_area.proofs.Steps.{pages_there, pool_there}

module _ (region : TableId) (a : Area) (p : AreaPass) where
  -- the history of the pages that a pass has seen is legal
  pub pages_are_legal : IsArea region a → Belongs a p → IsLegal (pages_legal a) (none_granted a) (pages_seen p)
  pages_are_legal k b = b.pages.stands.lawful 0 (pages_name region a, none_granted a) (pages_there region a k)

  -- and so is that of each pool
  pub pool_is_legal : (class : ℕ) → IsArea region a → Belongs a p → IsClass class → IsLegal (pool_legal a class) no_superblock (pool_seen p class)
  pool_is_legal class k b is = b.pools.stands.lawful (class - 2) (pool_name region a class, no_superblock) (pool_there region a class (class - 2) k is (let l = is.low in omega arith))

-- a call at the pages changes neither their number, nor that the granted runs stand apart
pages_step : (first n : ℕ) (s : PagesState) (c : PagesCall) (r : PagesReply) (t : PagesState) → (s.pages ≡ n) × pages.AreApart n 0 s.granted → pages.IsLegal first s c r t → (t.pages ≡ n) × pages.AreApart n 0 t.granted
pages_step first n s (Take k w) (Gets x) t h l = (l.pages ∙ h.0, subst (λ (z : ℕ). pages.AreApart z 0 t.granted) (l.pages ∙ h.0) l.apart)
pages_step first n s (Take k w) (Lacks x y) t h l = subst (λ (z : PagesState). (z.pages ≡ n) × pages.AreApart n 0 z.granted) (sym l.same) h
pages_step first n s (Take k w) Accepts t h l = absurd l
pages_step first n s (Take k w) HandsBack t h l = absurd l
pages_step first n s (Take k w) (Shows x y) t h l = absurd l
pages_step first n s (Give x k w) (Gets y) t h l = absurd l
pages_step first n s (Give x k w) (Lacks y z) t h l = absurd l
pages_step first n s (Give x k w) Accepts t h l = (l.pages ∙ h.0, subst (λ (z : ℕ). pages.AreApart z 0 t.granted) (l.pages ∙ h.0) l.apart)
pages_step first n s (Give x k w) HandsBack t h l = subst (λ (z : PagesState). (z.pages ≡ n) × pages.AreApart n 0 z.granted) (sym l.same) h
pages_step first n s (Give x k w) (Shows y z) t h l = absurd l
pages_step first n s Look (Gets x) t h l = absurd l
pages_step first n s Look (Lacks x y) t h l = absurd l
pages_step first n s Look Accepts t h l = absurd l
pages_step first n s Look HandsBack t h l = absurd l
pages_step first n s Look (Shows x y) t h l = subst (λ (z : PagesState). (z.pages ≡ n) × pages.AreApart n 0 z.granted) (sym l.same) h

all_settled : (l : Layout) (s : PoolState) (ats : List ℕ) (t : PoolState) → IsSettled l s → AreAllocs l s ats t → IsSettled l t
all_settled l s [] t h k = subst (IsSettled l) (sym k) h
all_settled l s (x ∷ xs) t h k = all_settled l k.0 xs t k.1.settled k.2

freed_settled : (l : Layout) (s : PoolState) (ats : List ℕ) (t : PoolState) → IsSettled l s → AreFreed l s ats t → IsSettled l t
freed_settled l s [] t h k = subst (IsSettled l) (sym k) h
freed_settled l s (x ∷ xs) t h k = k.2.settled

-- a call at a pool leaves it settled
pool_step : (l : Layout) (s : PoolState) (c : PoolCall) (r : PoolReply) (t : PoolState) → IsSettled l s → pool.IsLegal l s c r t → IsSettled l t
pool_step l s Alloc (Object z) t h k = k.settled
pool_step l s Alloc Full t h k = subst (IsSettled l) (sym k.same) h
pool_step l s Alloc Kept t h k = absurd k
pool_step l s Alloc (Whole z) t h k = absurd k
pool_step l s Alloc Stranger t h k = absurd k
pool_step l s Alloc (Objects zs) t h k = absurd k
pool_step l s (Add x) (Object z) t h k = k.settled
pool_step l s (Add x) Full t h k = absurd k
pool_step l s (Add x) Kept t h k = absurd k
pool_step l s (Add x) (Whole z) t h k = absurd k
pool_step l s (Add x) Stranger t h k = absurd k
pool_step l s (Add x) (Objects zs) t h k = absurd k
pool_step l s (Free x y) (Object z) t h k = absurd k
pool_step l s (Free x y) Full t h k = absurd k
pool_step l s (Free x y) Kept t h k = k.settled
pool_step l s (Free x y) (Whole z) t h k = k.settled
pool_step l s (Free x y) Stranger t h k = subst (IsSettled l) (sym k.same) h
pool_step l s (Free x y) (Objects zs) t h k = absurd k
pool_step l s (AllocMany n) (Object z) t h k = absurd k
pool_step l s (AllocMany n) Full t h k = absurd k
pool_step l s (AllocMany n) Kept t h k = absurd k
pool_step l s (AllocMany n) (Whole z) t h k = absurd k
pool_step l s (AllocMany n) Stranger t h k = absurd k
pool_step l s (AllocMany n) (Objects zs) t h k = all_settled l s zs t h k.each
pool_step l s (FreeMany xs) (Object z) t h k = absurd k
pool_step l s (FreeMany xs) Full t h k = absurd k
pool_step l s (FreeMany xs) Kept t h k = freed_settled l s xs t h k
pool_step l s (FreeMany []) (Whole z) t h k = absurd k
pool_step l s (FreeMany (x ∷ xs)) (Whole z) t h k = k.2.settled
pool_step l s (FreeMany []) Stranger t h k = absurd k
pool_step l s (FreeMany (x ∷ xs)) Stranger t h k = subst (IsSettled l) (sym k.2.same) (freed_settled l s xs k.0 h k.1)
pool_step l s (FreeMany xs) (Objects zs) t h k = absurd k
pool_step l s Trim (Object z) t h k = absurd k
pool_step l s Trim Full t h k = absurd k
pool_step l s Trim Kept t h k = subst (IsSettled l) (sym k.same) h
pool_step l s Trim (Whole z) t h k = k.settled
pool_step l s Trim Stranger t h k = absurd k
pool_step l s Trim (Objects zs) t h k = absurd k

none_settled : (l : Layout) → IsSettled l no_superblock
none_settled l = record {
  apart = tt;
  used = λ p i h. absurd (cc);
  active = λ p h. absurd (cc);
  some_active = λ p i h. absurd (cc);
}

module _ (region : TableId) (a : Area) (p : AreaPass) where
  -- each state of the pages that a pass has seen has the area's number of pages, and its granted runs stand apart
  pub pages_stay : (seen : List (Entry PagesState PagesCall PagesReply)) → IsArea region a → Belongs a p → StartsWith (pages_seen p) seen
      → ((last_of (none_granted a) seen).pages ≡ pages_of a) × pages.AreApart (pages_of a) 0 (last_of (none_granted a) seen).granted
  pages_stay seen k b starts = kept_at (pages_legal a) (λ (s : PagesState). (s.pages ≡ pages_of a) × pages.AreApart (pages_of a) 0 s.granted) (λ n s c r t h l. pages_step (first_of a) (pages_of a) s c r t h l)
      (none_granted a) (pages_seen p) seen starts (refl, tt) (pages_are_legal region a p k b)

  -- each state of a pool that a pass has seen is settled
  pub pool_stays : (class : ℕ) (seen : List (Entry PoolState PoolCall PoolReply)) → IsArea region a → Belongs a p → IsClass class → StartsWith (pool_seen p class) seen
      → IsSettled (layout_of class (first_of a) (pages_of a)) (last_of no_superblock seen)
  pool_stays class seen k b is starts = kept_at (pool_legal a class) (IsSettled (layout_of class (first_of a) (pages_of a))) (λ n s c r t h l. pool_step (layout_of class (first_of a) (pages_of a)) s c r t h l)
      no_superblock (pool_seen p class) seen starts (none_settled (layout_of class (first_of a) (pages_of a))) (pool_is_legal region a p class k b is)

module _ {S C R : Type 0} (legal : ℕ → S → C → R → S → Type 0) (opening : S) where
  -- the call of a lone caller is legal right after all that it had seen, and ends what it has seen then
  lone_makes : (n : ℕ) (seen mine seen' mine' : List (Entry S C R)) (c : C) (r : R) → n ≡ 0 → calls_by n seen ≡ mine → calls_by n seen' ≡ mine' → ((m : ℕ) → 1 ≤ m → calls_by m seen ≡ []) → ((m : ℕ) → 1 ≤ m → calls_by m seen' ≡ [])
      → Makes legal opening n seen mine seen' mine' c r → (after : S) × legal n (last_of opening seen) c r after × (last_of opening seen' ≡ after)
  lone_makes n seen mine seen' mine' c r first own own' none none' x =
      let e = entry n c r x.after in
      let all : (xs : List (Entry S C R)) → ((m : ℕ) → 1 ≤ m → calls_by m xs ≡ []) → calls_by n xs ≡ xs = (λ xs h. subst (λ (z : ℕ). calls_by z xs ≡ xs) (sym first) (lone xs h)) in
      let grows : seen' ≡ seen ++ e ∷ [] = sym (all seen' none') ∙ (own' ∙ (x.own ∙ ap (λ (m : List (Entry S C R)). m ++ e ∷ []) (sym own ∙ all seen none))) in
      let same : x.before ≡ seen = append_cancel_right x.before seen (e ∷ []) (sym x.ends ∙ grows) in
      (x.after, subst (λ (xs : List (Entry S C R)). legal n (last_of opening xs) c r x.after) same x.step, ap (last_of opening) x.ends ∙ last_snoc opening x.before e)

module _ (a : Area) (p q : AreaPass) where
  -- a lone caller's call at the pages is legal right after all that it had seen of them
  pub lone_at_pages : (c : PagesCall) (r : PagesReply) → callers_of a ≡ 1 → Belongs a p → Belongs a q → number_of q ≡ number_of p → AtPages a p q ((c, r) ∷ [])
      → (after : PagesState) × pages.IsLegal (first_of a) (last_of (none_granted a) (pages_seen p)) c r after × (last_of (none_granted a) (pages_seen q) ≡ after)
  lone_at_pages c r one b d same x =
      let low = b.pages.stands.below in
      let first : number_of p ≡ 0 = omega arith in
      lone_makes (pages_legal a) (none_granted a) (number_of p) (pages_seen p) (pages_mine p) (pages_seen q) (pages_mine q) c r first
      (b.pages.stands.own 0) (subst (λ (n : ℕ). calls_by n (pages_seen q) ≡ pages_mine q) same (d.pages.stands.own 0))
      (λ m h. b.pages.stands.bounded 0 m (omega arith)) (λ m h. d.pages.stands.bounded 0 m (omega arith))
      (subst (λ (z : List (Entry PagesState PagesCall PagesReply) × List (Entry PagesState PagesCall PagesReply)). Makes (pages_legal a) (none_granted a) (number_of p) (pages_seen p) (pages_mine p) z.0 z.1 c r) (λ i. (sym x.3.0 i, sym x.3.1 i)) x.2)

  -- and so is its call at a pool
  pub lone_at_pool : (region : TableId) (class : ℕ) (c : PoolCall) (r : PoolReply) → IsArea region a → callers_of a ≡ 1 → Belongs a p → Belongs a q → number_of q ≡ number_of p → AtPool a p q class ((c, r) ∷ [])
      → (after : PoolState) × pool.IsLegal (layout_of class (first_of a) (pages_of a)) (last_of no_superblock (pool_seen p class)) c r after × (last_of no_superblock (pool_seen q class) ≡ after)
  lone_at_pool region class c r k one b d same x =
      let low = b.pages.stands.below in
      let first : number_of p ≡ 0 = omega arith in
      let few : 1 ≡ shelf.callers_of a.pools = sym (k.callers ∙ one) in
      lone_makes (pool_legal a class) no_superblock (number_of p) (pool_seen p class) (pool_mine p class) (pool_seen q class) (pool_mine q class) c r first
      (subst (λ (n : ℕ). calls_by n (pool_seen p class) ≡ pool_mine p class) b.one_caller (b.pools.stands.own (class - 2)))
      (subst (λ (n : ℕ). calls_by n (pool_seen q class) ≡ pool_mine q class) (d.one_caller ∙ same) (d.pools.stands.own (class - 2)))
      (λ m h. b.pools.stands.bounded (class - 2) m (omega (arith, few))) (λ m h. d.pools.stands.bounded (class - 2) m (omega (arith, few)))
      (subst (λ (z : List (Entry PoolState PoolCall PoolReply) × List (Entry PoolState PoolCall PoolReply)). Makes (pool_legal a class) no_superblock (number_of p) (pool_seen p class) (pool_mine p class) z.0 z.1 c r) (λ i. (sym x.3.0 i, sym x.3.1 i)) x.2)

-- where no page is granted, a run is lacking only of more pages than there are
no_run_fresh : (pages n wanted largest : ℕ) (after : PagesState) → IsNoRun (record { pages = pages; granted = [] }) n wanted largest after → pages < wanted
no_run_fresh pages n wanted largest after x = ⊎_elim
    (λ (l : pages < n). let e = x.wanted_is in omega arith)
    (λ (l : n ≤ pages). absurd (let m = x.largest_is.most 0 n (record { inside = omega arith; free = λ k lo hi. refl }) in let t = x.too_few in omega arith))
    (cases_lt pages n)

module _ (a : Area) (p q : AreaPass) (bytes wanted largest : ℕ) where
  abbrev small : Type 0
  small = (class : ℕ) × IsLeast bytes class × Events a p q class ((Alloc, Full) ∷ []) ((Take superblock_pages true, Lacks wanted largest) ∷ [])

  abbrev large : Type 0
  large = (largest_size < bytes) × PageEvents a p q ((Take (pages_for bytes) false, Lacks wanted largest) ∷ [])

  -- the state in which the pages refused
  lacking : (n : ℕ) (w : Bool) → AtPages a p q ((Take n w, Lacks wanted largest) ∷ []) → (before after : PagesState) × IsNoRun before n wanted largest after
  lacking n w x = (last_of (none_granted a) x.2.before, x.2.after, x.2.step)

  -- A request is refused only where the longest run of pages that are not granted has fewer pages than were asked for
  pub refused_told : IsRefused a p q bytes wanted largest → (before : PagesState) × pages.IsLargest before.pages before.granted largest × (largest < wanted)
  refused_told x = ⊎_elim (λ (s : small). told superblock_pages true s.2.pages) (λ (l : large). told (pages_for bytes) false l.1.pages) x
    where
      told : (n : ℕ) (w : Bool) → AtPages a p q ((Take n w, Lacks wanted largest) ∷ []) → (before : PagesState) × pages.IsLargest before.pages before.granted largest × (largest < wanted)
      told n w y = let l = lacking n w y in (l.0, l.2.largest_is, (let t = l.2.too_few in let e = l.2.wanted_is in omega arith))

  -- an object asks for a superblock's pages, and a larger request for the pages that hold it
  pub refused_wants : IsRefused a p q bytes wanted largest → (bytes ≤ largest_size → wanted ≡ superblock_pages) × (largest_size < bytes → wanted ≡ pages_for bytes)
  refused_wants x = ⊎_elim
      (λ (s : small). ((λ _. (lacking superblock_pages true s.2.pages).2.wanted_is), (λ h. absurd (let k = s.1.holds in let r = (class_range s.0 s.1.is_class).1 in omega arith))))
      (λ (l : large). ((λ h. absurd (let k = l.0 in omega arith)), (λ _. (lacking (pages_for bytes) false l.1.pages).2.wanted_is)))
      x

  -- a lone caller's first request is refused only where the area has fewer pages than were asked for
  pub first_refused : callers_of a ≡ 1 → Belongs a p → Belongs a q → number_of q ≡ number_of p → pages_seen p ≡ [] → IsRefused a p q bytes wanted largest → pages_of a < wanted
  first_refused one b d same fresh x = ⊎_elim (λ (s : small). fewer superblock_pages true s.2.pages) (λ (l : large). fewer (pages_for bytes) false l.1.pages) x
    where
      fewer : (n : ℕ) (w : Bool) → AtPages a p q ((Take n w, Lacks wanted largest) ∷ []) → pages_of a < wanted
      fewer n w y =
          let z = lone_at_pages a p q (Take n w) (Lacks wanted largest) one b d same y in
          no_run_fresh (pages_of a) n wanted largest z.0 (subst (λ (s : List (Entry PagesState PagesCall PagesReply)). IsNoRun (last_of (none_granted a) s) n wanted largest z.0) fresh z.1)
