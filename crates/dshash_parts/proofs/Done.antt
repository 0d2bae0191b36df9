-- What the events of a call of the table add to the own calls of its passes.
use Rattle.std.proofs.Common.{◌≡◌, ◌≤◌, ◌+◌, ◌/◌, ◌==◌, ◌++◌, inl, inr, Bool, true, false, cond, ℕ, suc, List, [], ◌∷◌, Any, Option, map, refl, ap, sym, subst, ◌∙◌, arith, append_assoc, append-nil}
use Rattle.std.specs.List.{flat_map, sum_by}
use Rattle.std.proofs.lemmas.List.Concat.{flat_map-append}
use Rattle.std.proofs.lemmas.List.Sums.{sum_by-append}
use Rattle.lock_book.specs.declared.view.Entry.{Entry}
use Rattle.lock_book.specs.History.{entry}
use Rattle.lock_book.specs.Told.{MakesAll}
use Rattle.free_pages.specs.Legal as pages
use Rattle.free_pages.specs.Legal.{PagesCall, PagesReply}
use Rattle.free_pages.specs.Area.{superblock_pages}
use Rattle.dsa_area.specs.Requests.{IsGranted, IsHandedBack, IsRefused as IsRefusedRequest, IsTakenBack}
use Rattle.dsa_area.specs.Sizes.{page_bytes, pages_for}
use Rattle.dsa_area.specs.Shown.{none_granted, number_of, pages_legal, pages_mine, pages_seen}
use Rattle.dsa_area.specs.declared.area.Area.{Area}
use Rattle.dsa_area.specs.declared.area.AreaPass.{AreaPass}
use Rattle.dshash_core.specs.Chains.{Among}
use Rattle.dshash_parts.specs.Done.{IsMissing, PageEntry, done_in, done_of, is_lack, lacks}
use Rattle.dshash_parts.specs.Legal.{PartitionLegal}
use Rattle.dshash_parts.specs.Promises.{IsCause, IsMadeWith, IsRefusedWith}
use Rattle.dshash_parts.specs.Within.{IsCrowdedOut}
use Rattle.dshash_parts.specs.States.{PartitionState, fresh}
use Rattle.dshash_parts.specs.Traces.{AreGifts, Asked, Event, Gave, Got, Makes, Missed, NoneMade, Sight, Trace, Turn, turns_at}
use Rattle.dshash_parts.specs.declared.histories.PartitionCalls.{PartitionCalls}
use Rattle.dshash_parts.specs.declared.histories.PartitionCalls.TheVariants.{Call, Looks, Moves, Lists}
use Rattle.dshash_parts.specs.declared.histories.PartitionReplies.{PartitionReplies}
use Rattle.dshash_parts.specs.declared.histories.PartitionReplies.TheVariants.{Made, LacksItem, HasToGrow, Crowded, HasSize, Moved, Listed}
use Rattle.dshash_parts.proofs.Sweeps.{among_back, among_front}
use Rattle.dshash_parts.proofs.Uses.{did_turns}

-- ---- own calls at one value

module _ {S C R : Type 0} (legal : ℕ → S → C → R → S → Type 0) (opening : S) (n : ℕ) where
  -- the own calls grow by entries with just these calls and replies
  pub own_grows : (s m s' m' : List (Entry S C R)) (es : List (C × R)) → MakesAll legal opening n s m s' m' es → (xs : List (Entry S C R)) × (m' ≡ m ++ xs) × (map (λ (e : Entry S C R). (e.call, e.reply)) xs ≡ es)
  own_grows s m s' m' [] x = ([], x.1 ∙ sym (append-nil m), refl)
  own_grows s m s' m' (e ∷ es) x =
      let r = own_grows x.0 x.1 s' m' es x.3 in
      let one = entry n e.0 e.1 x.2.after in
      (one ∷ r.0, r.1 ∙ (ap (λ (z : List (Entry S C R)). z ++ r.0) x.2.own ∙ append_assoc m (one ∷ []) r.0), ap (λ (z : List (C × R)). e ∷ z) r.2)

-- ---- turns at a partition

module _ {S C R : Type 0} where
  -- a call with its reply
  abbrev pub pair_of : Entry (PartitionState S) (PartitionCalls C) (PartitionReplies S R) → PartitionCalls C × PartitionReplies S R
  pair_of e = (e.call, e.reply)

  -- what the own calls are after some events
  pub record Grew (k : ℕ) (mine mine' : List (Entry (PartitionState S) (PartitionCalls C) (PartitionReplies S R))) (es : List (Event S C R)) : Type 0 where
    pub more : List (Entry (PartitionState S) (PartitionCalls C) (PartitionReplies S R))
    pub grows : mine' ≡ mine ++ more
    pub are : map pair_of more ≡ turns_at k es

  pub all_grew : (step : Option S → C → Option S × R) (a : Area) (n k : ℕ) (v w : Sight S C R) (es : List (Event S C R)) → Trace step a n v w es → Grew k (v.mine k) (w.mine k) es
  all_grew step a n k v w es t =
      let g = own_grows (λ _. PartitionLegal step k) fresh n (v.seen k) (v.mine k) (w.seen k) (w.mine k) (turns_at k es) (did_turns step a n k v w es t) in
      record { more = g.0; grows = g.1; are = g.2 }

-- ---- refused requests

module _ (a : Area) where
  abbrev count : List (PagesCall × PagesReply) → ℕ
  count es = sum_by (λ (e : PagesCall × PagesReply). cond {A = ℕ} (is_lack e.1) 1 0) es

  counted : (xs : List PageEntry) → lacks xs ≡ count (map (λ (e : PageEntry). (e.call, e.reply)) xs)
  counted [] = refl
  counted (x ∷ xs) =
      sum_by-append (λ (e : PageEntry). cond {A = ℕ} (is_lack e.reply) 1 0) (x ∷ []) xs ∙ ap (λ (m : ℕ). lacks (x ∷ []) + m) (counted xs)
      ∙ sym (sum_by-append (λ (e : PagesCall × PagesReply). cond {A = ℕ} (is_lack e.1) 1 0) ((x.call, x.reply) ∷ []) (map (λ (e : PageEntry). (e.call, e.reply)) xs))

  pub lacks_more : (p q : AreaPass) (es : List (PagesCall × PagesReply)) → MakesAll (pages_legal a) (none_granted a) (number_of p) (pages_seen p) (pages_mine p) (pages_seen q) (pages_mine q) es
      → lacks (pages_mine q) ≡ lacks (pages_mine p) + count es
  lacks_more p q es h =
      let g = own_grows (pages_legal a) (none_granted a) (number_of p) (pages_seen p) (pages_mine p) (pages_seen q) (pages_mine q) es h in
      ap lacks g.1 ∙ sum_by-append (λ (e : PageEntry). cond {A = ℕ} (is_lack e.reply) 1 0) (pages_mine p) g.0
      ∙ ap (λ (m : ℕ). lacks (pages_mine p) + m) (counted g.0 ∙ ap count g.2)

  granted_lacks : (p q : AreaPass) (bytes at : ℕ) → IsGranted a p q bytes at → lacks (pages_mine p) ≤ lacks (pages_mine q)
  granted_lacks p q bytes at (inl x) = let e = lacks_more p q [] x.2.pages in omega (arith, e)
  granted_lacks p q bytes at (inr (inl x)) = let e = lacks_more p q ((pages.Take superblock_pages true, pages.Gets x.1) ∷ []) x.3.pages in omega (arith, e)
  granted_lacks p q bytes at (inr (inr x)) = let e = lacks_more p q ((pages.Take (pages_for bytes) false, pages.Gets at) ∷ []) x.1.pages in omega (arith, e)

  refused_lacks : (p q : AreaPass) (bytes wanted largest : ℕ) → IsRefusedRequest a p q bytes wanted largest → lacks (pages_mine p) + 1 ≤ lacks (pages_mine q)
  refused_lacks p q bytes wanted largest (inl x) = let e = lacks_more p q ((pages.Take superblock_pages true, pages.Lacks wanted largest) ∷ []) x.2.pages in omega (arith, e)
  refused_lacks p q bytes wanted largest (inr x) = let e = lacks_more p q ((pages.Take (pages_for bytes) false, pages.Lacks wanted largest) ∷ []) x.1.pages in omega (arith, e)

  taken_lacks : (p q : AreaPass) (at bytes : ℕ) → IsTakenBack a p q at bytes → lacks (pages_mine p) ≤ lacks (pages_mine q)
  taken_lacks p q at bytes (inl x) = let e = lacks_more p q [] x.3.pages in omega (arith, e)
  taken_lacks p q at bytes (inr (inl x)) = let e = lacks_more p q ((pages.Give x.1 superblock_pages true, x.2) ∷ []) x.5.pages in omega (arith, e)
  taken_lacks p q at bytes (inr (inr x)) = let e = lacks_more p q ((pages.Give at (bytes / page_bytes) false, pages.Accepts) ∷ []) x.2.pages in omega (arith, e)

  handed_lacks : (p q : AreaPass) (at bytes : ℕ) → IsHandedBack a p q at bytes → lacks (pages_mine p) ≤ lacks (pages_mine q)
  handed_lacks p q at bytes (inl x) = let e = lacks_more p q [] x.3.pages in omega (arith, e)
  handed_lacks p q at bytes (inr (inl x)) = let e = lacks_more p q ((pages.Give at (bytes / page_bytes) false, pages.HandsBack) ∷ []) x.2.pages in omega (arith, e)
  handed_lacks p q at bytes (inr (inr x)) = let e = lacks_more p q [] x.2.pages in omega (arith, e)

module _ {S C R : Type 0} where
  -- how many requests were refused among some events
  abbrev pub misses : List (Event S C R) → ℕ
  misses [] = 0
  misses (Asked (Missed bytes wanted largest) ∷ es) = 1 + misses es
  misses (e ∷ es) = misses es

  pub misses_among : (bytes wanted largest : ℕ) (before after : List (Event S C R)) → 1 ≤ misses (before ++ Asked (Missed bytes wanted largest) ∷ after)
  misses_among bytes wanted largest [] after = omega arith
  misses_among bytes wanted largest (Turn number call reply ∷ es) after = misses_among bytes wanted largest es after
  misses_among bytes wanted largest (Asked (Got b) ∷ es) after = misses_among bytes wanted largest es after
  misses_among bytes wanted largest (Asked (Missed b w l) ∷ es) after = omega arith
  misses_among bytes wanted largest (Asked (Gave given accepted) ∷ es) after = misses_among bytes wanted largest es after

module _ {S C R : Type 0} (step : Option S → C → Option S × R) (a : Area) (n : ℕ) where
  one_lacks : (v w : Sight S C R) (e : Event S C R) → Makes step a n v w e → lacks (pages_mine v.area) + misses (e ∷ []) ≤ lacks (pages_mine w.area)
  one_lacks v w (Turn number call reply) h = let e = ap (λ (p : AreaPass). lacks (pages_mine p)) h.1 in omega (arith, e)
  one_lacks v w (Asked (Got bytes)) h = let e = granted_lacks a v.area w.area bytes h.0.0 h.0.1 in omega (arith, e)
  one_lacks v w (Asked (Missed bytes wanted largest)) h = let e = refused_lacks a v.area w.area bytes wanted largest h.0 in omega (arith, e)
  one_lacks v w (Asked (Gave bytes true)) h = let e = taken_lacks a v.area w.area h.0.0 bytes h.0.1 in omega (arith, e)
  one_lacks v w (Asked (Gave bytes false)) h = let e = handed_lacks a v.area w.area h.0.0 bytes h.0.1 in omega (arith, e)

  misses_front : (e : Event S C R) (es : List (Event S C R)) → misses (e ∷ es) ≡ misses (e ∷ []) + misses es
  misses_front (Turn number call reply) es = omega arith
  misses_front (Asked (Got bytes)) es = omega arith
  misses_front (Asked (Missed bytes wanted largest)) es = omega arith
  misses_front (Asked (Gave bytes accepted)) es = omega arith

  pub all_lacks : (v w : Sight S C R) (es : List (Event S C R)) → Trace step a n v w es → lacks (pages_mine v.area) + misses es ≤ lacks (pages_mine w.area)
  all_lacks v w [] t = let e = ap (λ (s : Sight S C R). lacks (pages_mine s.area)) t in omega (arith, e)
  all_lacks v w (e ∷ es) t = let first = one_lacks v t.0 e t.1 in let rest = all_lacks t.0 w es t.2 in let m = misses_front e es in omega (arith, first, rest, m)

-- ---- calls that were made

module _ {S C R : Type 0} where
  gifts_done : (k : ℕ) (es : List (Event S C R)) → AreGifts es → turns_at k es ≡ []
  gifts_done k [] h = refl
  gifts_done k (Asked (Gave given accepted) ∷ es) h = gifts_done k es h
  gifts_done k (Asked (Got bytes) ∷ es) h = absurd h
  gifts_done k (Asked (Missed bytes wanted largest) ∷ es) h = absurd h
  gifts_done k (Turn number call reply ∷ es) h = absurd h

  pub turns_append : (k : ℕ) (es fs : List (Event S C R)) → turns_at k (es ++ fs) ≡ turns_at k es ++ turns_at k fs
  turns_append k [] fs = refl
  turns_append k (Asked request ∷ es) fs = turns_append k es fs
  turns_append k (Turn number call reply ∷ es) fs = by (number == k) (turns_append k es fs)
    where
      by : (b : Bool) → turns_at k (es ++ fs) ≡ turns_at k es ++ turns_at k fs
          → cond {A = List (PartitionCalls C × PartitionReplies S R)} b ((call, reply) ∷ turns_at k (es ++ fs)) (turns_at k (es ++ fs))
          ≡ cond {A = List (PartitionCalls C × PartitionReplies S R)} b ((call, reply) ∷ turns_at k es) (turns_at k es) ++ turns_at k fs
      by true e = ap (λ (l : List (PartitionCalls C × PartitionReplies S R)). (call, reply) ∷ l) e
      by false e = e

module _ {S C R X : Type 0} (of : List ℕ → C → R → X) where
  -- the calls that were made, among the calls with their replies
  abbrev pub done_by : List (PartitionCalls C × PartitionReplies S R) → List X
  done_by es = flat_map (λ (e : PartitionCalls C × PartitionReplies S R). done_of of e.0 e.1) es

  pub done_map : (es : List (Entry (PartitionState S) (PartitionCalls C) (PartitionReplies S R))) → done_in of es ≡ done_by (map pair_of es)
  done_map [] = refl
  done_map (e ∷ es) = ap (λ (l : List X). done_of of e.call e.reply ++ l) (done_map es)

  done_append : (xs ys : List (PartitionCalls C × PartitionReplies S R)) → done_by (xs ++ ys) ≡ done_by xs ++ done_by ys
  done_append xs ys = flat_map-append (λ (e : PartitionCalls C × PartitionReplies S R). done_of of e.0 e.1) xs ys

  -- a turn by which no call was made adds none
  skip : (k number : ℕ) (call : PartitionCalls C) (reply : PartitionReplies S R) (es : List (Event S C R)) → done_of of call reply ≡ [] → done_by (turns_at k es) ≡ [] → done_by (turns_at k (Turn number call reply ∷ es)) ≡ []
  skip k number call reply es none rest = by (number == k)
    where
      by : (b : Bool) → done_by (cond {A = List (PartitionCalls C × PartitionReplies S R)} b ((call, reply) ∷ turns_at k es) (turns_at k es)) ≡ []
      by true = ap (λ (l : List X). l ++ done_by (turns_at k es)) none ∙ rest
      by false = rest

  -- the call and the reply decide whether a call was made
  not_made : (call : PartitionCalls C) (reply : PartitionReplies S R) → ((before : R) (unused freed : Bool) → reply ≡ Made before unused freed → ⊥) → done_of of call reply ≡ []
  not_made (Call key row spare) (Made before unused freed) h = absurd (h before unused freed refl)
  not_made (Call key row spare) LacksItem h = refl
  not_made (Call key row spare) (HasToGrow size back) h = refl
  not_made (Call key row spare) (Crowded seed longest back) h = refl
  not_made (Call key row spare) (HasSize size keys) h = refl
  not_made (Call key row spare) (Moved left) h = refl
  not_made (Call key row spare) (Listed entries) h = refl
  not_made Looks reply h = refl
  not_made (Moves to) reply h = refl
  not_made Lists reply h = refl

  -- events in which no call was made have none that was
  pub none_done : (k : ℕ) (es : List (Event S C R)) → NoneMade es → done_by (turns_at k es) ≡ []
  none_done k [] h = refl
  none_done k (Asked request ∷ es) h = none_done k es h
  none_done k (Turn number call (Made reply unused freed) ∷ es) h = absurd h
  none_done k (Turn number call LacksItem ∷ es) h = skip k number call LacksItem es (not_made call LacksItem (λ b u f e. absurd (cc))) (none_done k es h)
  none_done k (Turn number call (HasToGrow size back) ∷ es) h = skip k number call (HasToGrow size back) es (not_made call (HasToGrow size back) (λ b u f e. absurd (cc))) (none_done k es h)
  none_done k (Turn number call (Crowded seed longest back) ∷ es) h = skip k number call (Crowded seed longest back) es (not_made call (Crowded seed longest back) (λ b u f e. absurd (cc))) (none_done k es h)
  none_done k (Turn number call (HasSize size keys) ∷ es) h = skip k number call (HasSize size keys) es (not_made call (HasSize size keys) (λ b u f e. absurd (cc))) (none_done k es h)
  none_done k (Turn number call (Moved left) ∷ es) h = skip k number call (Moved left) es (not_made call (Moved left) (λ b u f e. absurd (cc))) (none_done k es h)
  none_done k (Turn number call (Listed entries) ∷ es) h = skip k number call (Listed entries) es (not_made call (Listed entries) (λ b u f e. absurd (cc))) (none_done k es h)

  -- what the calls that were made are after some events
  pub done_then : (step : Option S → C → Option S × R) (a : Area) (n k : ℕ) (v w : Sight S C R) (es : List (Event S C R)) → Trace step a n v w es → done_in of (w.mine k) ≡ done_in of (v.mine k) ++ done_by (turns_at k es)
  done_then step a n k v w es t =
      let g = all_grew step a n k v w es t in
      ap (done_in of) g.grows ∙ flat_map-append (λ (e : Entry (PartitionState S) (PartitionCalls C) (PartitionReplies S R)). done_of of e.call e.reply) (v.mine k) g.more
      ∙ ap (λ (l : List X). done_in of (v.mine k) ++ l) (done_map g.more ∙ ap done_by g.are)

  -- the events of a call that was made have just this one
  pub made_done : {held kept : Bool} (k number item : ℕ) (key : List ℕ) (call : C) (reply : R) (es : List (Event S C R)) → IsMadeWith number item key call held kept reply es
      → done_by (turns_at k es) ≡ cond {A = List X} (number == k) (of key call reply ∷ []) []
  made_done k number item key call reply es m =
      let last = Turn number (Call key call m.spare) (Made reply m.unused m.freed) in
      ap (λ (l : List (Event S C R)). done_by (turns_at k l)) m.is
      ∙ ap done_by (turns_append k m.before (last ∷ m.after))
      ∙ done_append (turns_at k m.before) (turns_at k (last ∷ m.after))
      ∙ ap (λ (l : List X). l ++ done_by (turns_at k (last ∷ m.after))) (none_done k m.before m.none_before)
      ∙ by (number == k)
    where
      by : (b : Bool) → done_by (cond {A = List (PartitionCalls C × PartitionReplies S R)} b ((Call key call m.spare, Made reply m.unused m.freed) ∷ turns_at k m.after) (turns_at k m.after))
          ≡ cond {A = List X} b (of key call reply ∷ []) []
      by true = ap (λ (l : List (PartitionCalls C × PartitionReplies S R)). of key call reply ∷ done_by l) (gifts_done k m.after m.gifts_after)
      by false = ap done_by (gifts_done k m.after m.gifts_after)

-- ---- calls that were not made

module _ {S C R : Type 0} where
  -- a turn that stands among the events stands among those at its partition
  turn_there : (k : ℕ) (call : PartitionCalls C) (reply : PartitionReplies S R) (es : List (Event S C R)) → Among (Turn k call reply) es → Among (call, reply) (turns_at k es)
  turn_there k call reply [] h = absurd h
  turn_there k call reply (Asked request ∷ es) (inl e) = let no : Turn k call reply ≡ Asked request = e in absurd (cc)
  turn_there k call reply (Asked request ∷ es) (inr r) = turn_there k call reply es r
  turn_there k call reply (Turn number c t ∷ es) (inl e) =
      let one : Turn k call reply ≡ Turn number c t = e in
      let place : k ≡ number = cc in
      let calls : call ≡ c = cc in
      let replies : reply ≡ t = cc in
      let test : (number == k) ≡ true = grind (arith, place) in
      subst (λ b. Among (call, reply) (cond {A = List (PartitionCalls C × PartitionReplies S R)} b ((c, t) ∷ turns_at k es) (turns_at k es))) (sym test) (inl (λ i. (calls i, replies i)))
  turn_there k call reply (Turn number c t ∷ es) (inr r) = by (number == k) (turn_there k call reply es r)
    where
      by : (b : Bool) → Among (call, reply) (turns_at k es) → Among (call, reply) (cond {A = List (PartitionCalls C × PartitionReplies S R)} b ((c, t) ∷ turns_at k es) (turns_at k es))
      by true a = inr a
      by false a = a

  -- a call with its reply that stands among those of some entries is one of them
  entry_there : (P : PartitionCalls C → PartitionReplies S R → Type 0) (call : PartitionCalls C) (reply : PartitionReplies S R) (es : List (Entry (PartitionState S) (PartitionCalls C) (PartitionReplies S R))) → Among (call, reply) (map pair_of es) → P call reply
      → Any (λ (e : Entry (PartitionState S) (PartitionCalls C) (PartitionReplies S R)). P e.call e.reply) es
  entry_there P call reply [] h p = absurd h
  entry_there P call reply (e ∷ es) (inl is) p = (0, e, omega arith, refl, subst (λ (x : PartitionCalls C × PartitionReplies S R). P x.0 x.1) is p)
  entry_there P call reply (e ∷ es) (inr r) p = let a = entry_there P call reply es r p in (suc a.0, a.1, omega (arith, a.2), a.3, a.4)

  -- of a call that was refused an entry says that it was not made
  pub missed_there : {held : Bool} (number item : ℕ) (key : List ℕ) (call : C) (wanted largest : ℕ) (es : List (Event S C R)) → IsRefusedWith number item key call held wanted largest es
      → (more : List (Entry (PartitionState S) (PartitionCalls C) (PartitionReplies S R))) → map pair_of more ≡ turns_at number es
      → Any (λ (e : Entry (PartitionState S) (PartitionCalls C) (PartitionReplies S R)). IsMissing key call e.call e.reply) more
  missed_there number item key call wanted largest es r more are = by r.cause
    where
      there : (made : PartitionCalls C) (reply : PartitionReplies S R) → Among (Turn number made reply) r.before → IsMissing key call made reply
          → Any (λ (e : Entry (PartitionState S) (PartitionCalls C) (PartitionReplies S R)). IsMissing key call e.call e.reply) more
      there made reply among m =
          let whole : Among (Turn number made reply) es = subst (Among (Turn number made reply)) (sym r.is) (among_front (Turn number made reply) r.before (Asked (Missed r.bytes wanted largest) ∷ r.after) among) in
          entry_there (IsMissing key call) made reply more (subst (Among (made, reply)) (sym are) (turn_there number made reply es whole)) m

      by : IsCause number item key call r.before r.bytes → Any (λ (e : Entry (PartitionState S) (PartitionCalls C) (PartitionReplies S R)). IsMissing key call e.call e.reply) more
      by (inl x) = there (Call key call false) LacksItem x.1 (refl, refl)
      by (inr x) = there (Call key call x.3.0) (HasToGrow x.0 x.3.0) x.3.1 (refl, refl)

  -- and a request was refused among its events
  pub refused_misses : {held : Bool} (number item : ℕ) (key : List ℕ) (call : C) (wanted largest : ℕ) (es : List (Event S C R)) → IsRefusedWith number item key call held wanted largest es → 1 ≤ misses es
  refused_misses number item key call wanted largest es r = subst (λ (l : List (Event S C R)). 1 ≤ misses l) (sym r.is) (misses_among r.bytes wanted largest r.before r.after)

  -- of a call that was turned away an entry says so
  pub crowded_there : (P : PartitionCalls C → PartitionReplies S R → Type 0) (number item : ℕ) (key : List ℕ) (call : C) (seed longest : ℕ) (es : List (Event S C R)) → IsCrowdedOut number item key call seed longest es
      → ((spare : Bool) → P (Call key call spare) (Crowded seed longest spare))
      → (more : List (Entry (PartitionState S) (PartitionCalls C) (PartitionReplies S R))) → map pair_of more ≡ turns_at number es
      → Any (λ (e : Entry (PartitionState S) (PartitionCalls C) (PartitionReplies S R)). P e.call e.reply) more
  crowded_there P number item key call seed longest es r is more are =
      let turn : Event S C R = Turn number (Call key call r.spare) (Crowded seed longest r.spare) in
      let whole : Among turn es = subst (Among turn) (sym r.is) (among_back turn r.before (turn ∷ r.after) (inl refl)) in
      entry_there P (Call key call r.spare) (Crowded seed longest r.spare) more (subst (Among (Call key call r.spare, Crowded seed longest r.spare)) (sym are) (turn_there number (Call key call r.spare) (Crowded seed longest r.spare) es whole)) (is r.spare)
