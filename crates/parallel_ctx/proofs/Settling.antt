-- What the caller learns once all tokens are home.
use Rattle.agg_table.specs.Shown.{use_in}
use Rattle.std.proofs.Common.{◌+◌, ◌≡◌, ◌&&◌, ◌==◌, ℕ, zero, suc, Bool, List, [], ◌∷◌, Option, MatchOption, true, false, length, map, All, refl, subst, sym, ap, ◌∙◌}
use Rattle.std.specs.List.{AllZip}
use Rattle.std.proofs.lemmas.List.Elements.{All-head, All-tail}
use mathlib.Core.Option.{some, none}
use lib.ListN.{get_elem?}
use Rattle.mq_handle.specs.Messages.{whole_of}
use Rattle.par_model.specs.Plan.{Plan}
use Rattle.ring_rule.specs.Ring.{Receiving, Sending}
use Rattle.scan_claim.specs.Shown.{AreSeats, Belongs, blocks_of, draws_of, number_of}
use Rattle.scan_claim.specs.declared.claims.ClaimSeat.{ClaimSeat}
use Rattle.scan_claim.specs.declared.claims.Claims.{Claims}
use Rattle.parallel_ctx.specs.declared.tokens.Shared.{Shared}
use Rattle.parallel_ctx.specs.declared.tokens.Hand.{Hand}
use Rattle.parallel_ctx.specs.declared.start.Back.{Back}
use Rattle.parallel_ctx.specs.declared.tokens.LeaderEnds.{LeaderEnds}
use Rattle.parallel_ctx.specs.declared.home.Returned.{Returned}
use Rattle.parallel_ctx.specs.Ran.{Finishes}
use Rattle.parallel_ctx.specs.Returns.{CanSettle, IsReturned, Returns, claim_of, hash_of}
use Rattle.parallel_ctx.specs.Accounts.{Account, IsIdle, account, account_in, account_of, is_over}
use Rattle.agg_table.specs.Calls.{Use}
use Rattle.agg_table.specs.declared.part.HashSeat.{HashSeat}
use Rattle.parallel_ctx.specs.Tokens.{AreLeftByLead, AreNumbered, AreOneRing, AreUnheard, IsFresh, SameQueues, number_in}
use Rattle.parallel_ctx.proofs.Passes.{AreHome, IsHome, comes_home}
use Rattle.parallel_ctx.proofs.Zips.{AllZip-flip, AllZip-length, AllZip-through, place_first, place_next, same_number}

-- ---- lists

all_and : {A B : Type 0} (P : A → Type 0) (R : A → B → Type 0) (xs : List A) (ys : List B) → All P xs → AllZip R xs ys → AllZip (λ x y. P x × R x y) xs ys
all_and P R [] [] h z = tt
all_and P R [] (y ∷ ys) h z = absurd z
all_and P R (x ∷ xs) [] h z = absurd z
all_and P R (x ∷ xs) (y ∷ ys) h z = ((All-head P x xs h, z.0), all_and P R xs ys (All-tail P x xs h) z.1)

and_all : {A B : Type 0} (R : A → B → Type 0) (Q : B → Type 0) (xs : List A) (ys : List B) → AllZip R xs ys → All Q ys → AllZip (λ x y. R x y × Q y) xs ys
and_all R Q [] [] z h = tt
and_all R Q [] (y ∷ ys) z h = absurd z
and_all R Q (x ∷ xs) [] z h = absurd z
and_all R Q (x ∷ xs) (y ∷ ys) z h = ((z.0, All-head Q y ys h), and_all R Q xs ys z.1 (All-tail Q y ys h))

images : {A B C D : Type 0} (R : A → B → Type 0) (S : C → D → Type 0) (f : A → C) (g : B → D) → ((x : A) (y : B) → R x y → S (f x) (g y)) → (xs : List A) (ys : List B) → AllZip R xs ys → AllZip S (map f xs) (map g ys)
images R S f g h [] [] z = tt
images R S f g h [] (y ∷ ys) z = absurd z
images R S f g h (x ∷ xs) [] z = absurd z
images R S f g h (x ∷ xs) (y ∷ ys) z = (h x y z.0, images R S f g h xs ys z.1)

record Paired {A B : Type 0} (R : A → B → Type 0) (xs : List A) (k : ℕ) (y : B) : Type 0 where
  pub it : A
  pub is : get_elem? xs k ≡ some it
  pub holds : R it y

some_inj : {A : Type 0} (a b : A) → some a ≡ some b → a ≡ b
some_inj a b e = cc

nothing_there : {A : Type 0} (y : A) → none ≡ some y → ⊥
nothing_there y e = cc

paired : {A B : Type 0} (R : A → B → Type 0) (xs : List A) (ys : List B) → AllZip R xs ys → (k : ℕ) (y : B) → get_elem? ys k ≡ some y → Paired R xs k y
paired R [] [] z k y e = absurd (nothing_there y e)
paired R [] (b ∷ ys) z k y e = absurd z
paired R (a ∷ xs) [] z k y e = absurd z
paired R (a ∷ xs) (b ∷ ys) z zero y e = record { it = a; is = refl; holds = subst (R a) (some_inj b y e) z.0 }
paired R (a ∷ xs) (b ∷ ys) z (suc k) y e = let p = paired R xs ys z.1 k y e in record { it = p.it; is = p.is; holds = p.holds }

-- ---- the claims' seats

abbrev pub SameClaim : Claims → ClaimSeat → ClaimSeat → Type 0
SameClaim c s t = Belongs c t × (number_of t ≡ number_of s)

pub seats_after : (c : Claims) (xs ys : List ClaimSeat) → AreSeats c xs → AllZip (SameClaim c) xs ys → AreSeats c ys
seats_after c xs ys are z = (
  sym (AllZip-length (SameClaim c) xs ys z) ∙ are.0,
  λ k s e.
      let p = paired (SameClaim c) xs ys z k s e in
      (p.holds.0, p.holds.1 ∙ (are.1 k p.it p.is).1),
)

module _ {E : Type 0} (did : Plan → ℕ → Account → E → Type 0) (uses : ℕ → Option Use) (w : Shared) (plan : Plan) where
  abbrev Fresh : Hand → Type 0
  Fresh h = IsFresh plan w h.seats h.ends

  pub all_claims : (hs : List Hand) (bs : List (Back E)) → AllZip (Returns did w) hs bs → AllZip (SameClaim w.claims) (map (λ (h : Hand). h.seats.claim) hs) (map claim_of bs)
  all_claims = images (Returns did w) (SameClaim w.claims) (λ (h : Hand). h.seats.claim) claim_of (λ h b r. (r.seats.claim, r.seats.same))

  -- ---- the queues

  pub can_settle : (hs : List Hand) (bs : List (Back E)) (rs qs : List LeaderEnds) → All Fresh hs → All (AreUnheard w) rs → AllZip (Returns did w) hs bs → AllZip AreOneRing hs rs → AllZip SameQueues rs qs
      → All AreLeftByLead qs → AllZip (CanSettle w.region) bs qs
  can_settle hs bs rs qs fresh unheard returns rings same gone =
      let hands = all_and Fresh (Returns did w) hs bs fresh returns in
      let queues = and_all (λ r q. AreUnheard w r × SameQueues r q) AreLeftByLead rs qs (all_and (AreUnheard w) SameQueues rs qs unheard same) gone in
      AllZip-through (λ b h. Fresh h × Returns did w h b) (λ h q. (r : LeaderEnds) × AreOneRing h r × ((AreUnheard w r × SameQueues r q) × AreLeftByLead q)) (CanSettle w.region)
      (λ b h q x y. record {
        errors_here = x.1.ends.errors_region ∙ x.0.errors.here;
        tuples_here = x.1.ends.tuples_region ∙ x.0.tuples.here;
        queues_here = record { errors = y.2.0.1.errors_region ∙ y.2.0.0.errors.here; tuples = y.2.0.1.tuples_region ∙ y.2.0.0.tuples.here };
        ends_left = x.1.left;
        queues_left = y.2.1;
        errors_ring = x.1.ends.errors_ring ∙ y.1.errors ∙ sym y.2.0.1.errors_ring;
        tuples_ring = x.1.ends.tuples_ring ∙ y.1.tuples ∙ sym y.2.0.1.tuples_ring;
      })
      bs hs qs (AllZip-flip (λ h b. Fresh h × Returns did w h b) hs bs hands)
      (AllZip-through AreOneRing (λ r q. (AreUnheard w r × SameQueues r q) × AreLeftByLead q) (λ h q. (r : LeaderEnds) × AreOneRing h r × ((AreUnheard w r × SameQueues r q) × AreLeftByLead q)) (λ h r q x y. (r, x, y)) hs rs qs rings queues)

  -- ---- the workers

  one_finished : (h : Hand) (b : Back E) (r : Returned E) → Fresh h × Returns did w h b → IsReturned b r × (uses r.number ≡ use_in (hash_of b)) → Finishes did uses plan (blocks_of w.claims) (draws_of (claim_of b)) r
  one_finished h b r x y =
      let i = y.0 in
      let same : account b.hand.seats b.hand.ends ≡ account_of uses (draws_of (claim_of b)) r =
      ap (λ (u : Option Use). account_in (draws_of (claim_of b)) u b.hand.ends.errors.end b.hand.ends.tuples.end) (sym y.1)
      ∙ ap (λ (s : Sending). account_in (draws_of (claim_of b)) (uses r.number) s b.hand.ends.tuples.end) (sym i.errors)
      ∙ ap (λ (s : Sending). account_in (draws_of (claim_of b)) (uses r.number) r.errors.sender s) (sym i.tuples) in
      record {
        done =
            subst (λ a. MatchOption r.end (IsIdle a) (λ e. did plan (blocks_of w.claims) a e)) same
            (subst (λ o. MatchOption o (IsIdle (account b.hand.seats b.hand.ends)) (λ e. did plan (blocks_of w.claims) (account b.hand.seats b.hand.ends) e)) (sym i.end)
            (x.1.done plan x.0.seats.plan_is));
        errors = i.errors_queue;
        tuples = i.tuples_queue;
      }

  -- what each did with the table of groups is known by its number
  abbrev pub IsReturnedWith : Back E → Returned E → Type 0
  IsReturnedWith b r = IsReturned b r × (uses r.number ≡ use_in (hash_of b))

  pub all_finished : (hs : List Hand) (bs : List (Back E)) (rs : List (Returned E)) → All Fresh hs → AllZip (Returns did w) hs bs → AllZip IsReturnedWith bs rs
      → AllZip (Finishes did uses plan (blocks_of w.claims)) (map draws_of (map claim_of bs)) rs
  all_finished hs bs rs fresh returns back =
      let hands = all_and Fresh (Returns did w) hs bs fresh returns in
      let whole = AllZip-through (λ b h. Fresh h × Returns did w h b) (λ h b. Fresh h × Returns did w h b) (λ b b'. (h : Hand) × (Fresh h × Returns did w h b')) (λ b h b' x y. (h, y)) bs hs bs
      (AllZip-flip (λ h b. Fresh h × Returns did w h b) hs bs hands) hands in
      by bs rs (λ b r x i. one_finished x.0 b r x.1 i) whole back
    where
      by : (bs : List (Back E)) (rs : List (Returned E)) → ((b : Back E) (r : Returned E) → (h : Hand) × (Fresh h × Returns did w h b) → IsReturnedWith b r → Finishes did uses plan (blocks_of w.claims) (draws_of (claim_of b)) r)
          → AllZip (λ b b'. (h : Hand) × (Fresh h × Returns did w h b')) bs bs → AllZip IsReturnedWith bs rs → AllZip (Finishes did uses plan (blocks_of w.claims)) (map draws_of (map claim_of bs)) rs
      by [] [] f z i = tt
      by [] (r ∷ rs) f z i = absurd i
      by (b ∷ bs) [] f z i = absurd i
      by (b ∷ bs) (r ∷ rs) f z i = (f b r z.0 i.0, by bs rs f z.1 i.1)

-- ---- the numbers

module _ {E : Type 0} (did : Plan → ℕ → Account → E → Type 0) (w : Shared) where
  abbrev HasNumber : Hand → Returned E → Type 0
  HasNumber h r = r.number ≡ number_in h

  numbers_of : (hs : List Hand) (rs : List (Returned E)) → AllZip HasNumber hs rs → map (λ (r : Returned E). r.number) rs ≡ map number_in hs
  numbers_of [] [] z = refl
  numbers_of [] (r ∷ rs) z = absurd z
  numbers_of (h ∷ hs) [] z = absurd z
  numbers_of (h ∷ hs) (r ∷ rs) z = ap (λ n. n ∷ map (λ (r : Returned E). r.number) rs) z.0 ∙ ap (λ l. number_in h ∷ l) (numbers_of hs rs z.1)

  pub same_numbers : (hs : List Hand) (bs : List (Back E)) (rs : List (Returned E)) → AllZip (Returns did w) hs bs → AllZip IsReturned bs rs → map (λ (r : Returned E). r.number) rs ≡ map number_in hs
  same_numbers hs bs rs returns back = numbers_of hs rs (AllZip-through (Returns did w) IsReturned HasNumber (λ h b r x i. i.number ∙ x.seats.number) hs bs rs returns back)

-- the workers' passes of the table of groups come home in order
pub all_home : {E : Type 0} (did : Plan → ℕ → Account → E → Type 0) (w : Shared) (plan : Plan) (n : ℕ) (hs : List Hand) (bs : List (Back E)) → All (λ (h : Hand). IsFresh plan w h.seats h.ends) hs → AllZip (Returns did w) hs bs
    → AreNumbered n (map number_in hs) → AreHome w.region w.hash n (map hash_of bs)
all_home did w plan n [] [] f z m = tt
all_home did w plan n [] (b ∷ bs) f z m = absurd z
all_home did w plan n (h ∷ hs) [] f z m = absurd z
all_home did w plan n (h ∷ hs) (b ∷ bs) f z m =
    let first = All-head (λ (h : Hand). IsFresh plan w h.seats h.ends) h hs f in (
      subst (λ (i : ℕ). IsHome w.region w.hash i (hash_of b)) m.0 (comes_home w.region w.hash h.seats.number h.seats.hash (hash_of b) first.seats.hash z.0.seats.hash),
      all_home did w plan (suc n) hs bs (All-tail (λ (h : Hand). IsFresh plan w h.seats h.ends) h hs f) z.1 m.1,
    )

-- each worker that came home has the passes of its number
pub with_uses : {E : Type 0} (uses : ℕ → Option Use) (n : ℕ) (bs : List (Back E)) (rs : List (Returned E)) → AllZip IsReturned bs rs → AreNumbered n (map (λ (r : Returned E). r.number) rs)
    → ((k : ℕ) (o : Option HashSeat) → get_elem? (map hash_of bs) k ≡ some o → uses (n + k) ≡ use_in o) → AllZip (λ b r. IsReturned b r × (uses r.number ≡ use_in (hash_of b))) bs rs
with_uses uses n [] [] z m u = tt
with_uses uses n [] (r ∷ rs) z m u = absurd z
with_uses uses n (b ∷ bs) [] z m u = absurd z
with_uses uses n (b ∷ bs) (r ∷ rs) z m u = (
  (z.0, ap uses (place_first r.number n m.0) ∙ u 0 (hash_of b) refl),
  with_uses uses (suc n) bs rs z.1 m.1 (λ k o e. ap uses (place_next n k) ∙ u (suc k) o e),
)

-- ---- a queue that came home

both_true : (a b : Bool) → (a && b) ≡ true → (a ≡ true) × (b ≡ true)
both_true true b e = (refl, e)
both_true false b e = cc

pub over : (s : Sending) (q : Receiving) → (q.final ≡ true → length q.taken ≡ q.avail → q.taken ≡ s.put) → is_over q ≡ true → whole_of q.taken ≡ whole_of s.put
over s q all o =
    let parts = both_true q.final (length q.taken == q.avail) o in
    ap whole_of (all parts.0 (same_number (length q.taken) q.avail parts.1))
