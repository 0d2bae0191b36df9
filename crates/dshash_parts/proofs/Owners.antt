-- Turns that are legal and that their callers may take, and keys that belong to a caller.
use Rattle.std.proofs.Common.{◌≡◌, ◌≢◌, ℕ, ◌<◌, ◌*◌, ◌-◌, ◌^◌, ◌≤◌, ◌==◌, Bool, true, false, cond, List, [], ◌∷◌, Option, None, is_some, refl, sym, ap, subst, ◌∙◌, arith, ⊎_elim}
use mathlib.Core.Logic.{dite}
use native.Mathlib.Decide.{dec_lt}
use Rattle.std.proofs.lemmas.Nat.{pow_below}
use Rattle.std.specs.FinMap as fin
use Rattle.std.proofs.lemmas.Bool.Decides.{eqb_tells}
use Rattle.lock_book.specs.declared.view.Entry.{Entry}
use Rattle.lock_book.specs.History.{entry, calls_by, last_of, IsLegal}
use Rattle.lock_book.specs.Told.{Histories, MakesAll}
use Rattle.lock_book.proofs.Uses.{legal_front}
use Rattle.dshash_core.specs.Key.{hash_of}
use Rattle.dshash_core.specs.Cells.{buckets_of, partition_of}
use Rattle.dshash_core.proofs.Maps.{keys_same_or_not}
use Rattle.dshash_core.specs.Outcome.{next_of, IsDone}
use Rattle.dshash_parts.specs.States.{PartitionState, fresh}
use Rattle.dshash_parts.specs.Legal.{AreAllowed, AreOurs, IsOurs, IsTurn, MayTurn, PartitionLegal}
use Rattle.dshash_parts.specs.Owners.{IsOwner, IsOwnCell, OwnersHaveCells}
use Rattle.dshash_parts.specs.Replays.{calls_of_key, made_of, IsRun}
use Rattle.dshash_parts.specs.declared.histories.PartitionCalls.{PartitionCalls}
use Rattle.dshash_parts.specs.declared.histories.PartitionCalls.TheVariants.{Call, Looks, Moves, Lists}
use Rattle.dshash_parts.specs.declared.histories.PartitionReplies.{PartitionReplies}
use Rattle.dshash_parts.specs.declared.histories.PartitionReplies.TheVariants.{Made, LacksItem, HasToGrow, Crowded, HasSize, Moved, Listed}
use Rattle.dshash_parts.proofs.Uses.{partition_low}
use Rattle.dshash_parts.proofs.Replays.{changed_else, changed_here, one, run_append}

module _ {S C R : Type 0} (step : Option S → C → Option S × R) (number : ℕ) where
  -- a turn by which no call of the key was made leaves it where it was
  kept : (q : List ℕ) (before after : PartitionState S) → fin.get before.cells q ≡ fin.get after.cells q → AreOurs number before.cells → fin.contains_key after.cells q ≡ true → partition_of (hash_of q) ≡ number
  kept q before after same ours there = ours q (ap (λ (o : Option S). is_some o) same ∙ there)

  -- the keys of a partition stay its own
  turn_ours : (before after : PartitionState S) (c : PartitionCalls C) (r : PartitionReplies S R) → IsTurn step before c r after → IsOurs step number c → AreOurs number before.cells → AreOurs number after.cells
  turn_ours before after (Call k c sp) (Made r u f) h own ours q there = ⊎_elim
      (λ (e : q ≡ k). ap (λ (z : List ℕ). partition_of (hash_of z)) e ∙ own)
      (λ (ne : q ≢ k). kept q before after (sym (ap (λ m. fin.get m q) h.1.steps ∙ changed_else step before.cells k (next_of step before.cells k c) q ne)) ours there)
      (keys_same_or_not q k)
  turn_ours before after (Call k c sp) LacksItem h own ours q there = kept q before after (one step q before after (Call k c sp) LacksItem h) ours there
  turn_ours before after (Call k c sp) (HasToGrow told back) h own ours q there = kept q before after (one step q before after (Call k c sp) (HasToGrow told back) h) ours there
  turn_ours before after (Call k c sp) (Crowded seed longest back) h own ours q there = kept q before after (one step q before after (Call k c sp) (Crowded seed longest back) h) ours there
  turn_ours before after (Call k c sp) (HasSize size keys) h own ours q there = absurd h
  turn_ours before after (Call k c sp) (Moved left) h own ours q there = absurd h
  turn_ours before after (Call k c sp) (Listed es) h own ours q there = absurd h
  turn_ours before after Looks r h own ours q there = kept q before after (one step q before after Looks r h) ours there
  turn_ours before after (Moves to) r h own ours q there = kept q before after (one step q before after (Moves to) r h) ours there
  turn_ours before after Lists r h own ours q there = kept q before after (one step q before after Lists r h) ours there

  -- a new partition has none
  fresh_ours : AreOurs {S = S} number (fresh {S = S}).cells
  fresh_ours key there = let none : true ≡ false = sym there ∙ ap (λ (o : Option S). is_some o) (fin.get-empty {X = S} _ key) in absurd (cc)

module _ {S C R : Type 0} (step : Option S → C → Option S × R) (may : ℕ → List ℕ → C → Type 0) (number : ℕ) where
  -- what a locked partition calls legal
  abbrev pub Taken : ℕ → PartitionState S → PartitionCalls C → PartitionReplies S R → PartitionState S → Type 0
  Taken caller before call reply after = AreOurs number before.cells → PartitionLegal step number before call reply after × MayTurn may caller call

  module _ (s : PartitionState S) (e : Entry (PartitionState S) (PartitionCalls C) (PartitionReplies S R)) (ours : AreOurs number s.cells) (h : Taken e.by s e.call e.reply e.after) where
    after_ours : AreOurs number e.after.cells
    after_ours = let turn = (h ours).0 in turn_ours step number s e.after e.call e.reply turn.is turn.ours ours

  pub lawful_from : (s : PartitionState S) (es : List (Entry (PartitionState S) (PartitionCalls C) (PartitionReplies S R))) → AreOurs number s.cells → IsLegal Taken s es → IsLegal (λ _. PartitionLegal step number) s es
  lawful_from s [] ours h = tt
  lawful_from s (e ∷ es) ours h = ((h.0 ours).0, lawful_from e.after es (after_ours s e ours h.0) h.1)

  allowed_from : (s : PartitionState S) (es : List (Entry (PartitionState S) (PartitionCalls C) (PartitionReplies S R))) → AreOurs number s.cells → IsLegal Taken s es → AreAllowed may es
  allowed_from s [] ours h = tt
  allowed_from s (e ∷ es) ours h = ((h.0 ours).1, allowed_from e.after es (after_ours s e ours h.0) h.1)

  ours_from : (s : PartitionState S) (es : List (Entry (PartitionState S) (PartitionCalls C) (PartitionReplies S R))) → AreOurs number s.cells → IsLegal Taken s es → AreOurs number (last_of s es).cells
  ours_from s [] ours h = ours
  ours_from s (e ∷ es) ours h = ours_from e.after es (after_ours s e ours h.0) h.1

  -- a history from a new partition on: each turn is legal, and one that its caller may take
  pub lawful : (es : List (Entry (PartitionState S) (PartitionCalls C) (PartitionReplies S R))) → IsLegal Taken fresh es → IsLegal (λ _. PartitionLegal step number) fresh es
  lawful es h = lawful_from fresh es (fresh_ours step number) h

  pub allowed : (es : List (Entry (PartitionState S) (PartitionCalls C) (PartitionReplies S R))) → IsLegal Taken fresh es → AreAllowed may es
  allowed es h = allowed_from fresh es (fresh_ours step number) h

  -- and the keys of the map after it are the partition's own
  pub ours : (es : List (Entry (PartitionState S) (PartitionCalls C) (PartitionReplies S R))) → IsLegal Taken fresh es → AreOurs number (last_of fresh es).cells
  ours es h = ours_from fresh es (fresh_ours step number) h

  pub one_lawful : (n : ℕ) (s m s' m' : List (Entry (PartitionState S) (PartitionCalls C) (PartitionReplies S R))) (c : PartitionCalls C) (r : PartitionReplies S R) → IsLegal Taken fresh s' → MakesAll Taken fresh n s m s' m' ((c, r) ∷ [])
      → MakesAll (λ _. PartitionLegal step number) fresh n s m s' m' ((c, r) ∷ [])
  one_lawful n s m s' m' c r legal x =
      let made = x.2 in
      let end = entry n c r made.after ∷ [] in
      let front : IsLegal Taken fresh made.before = legal_front Taken fresh made.before end (subst (IsLegal Taken fresh) (x.3.0 ∙ made.ends) legal) in
      (x.0, x.1, record { before = made.before; after = made.after; ends = made.ends; begins = made.begins; step = (made.step (ours_from fresh made.before (fresh_ours step number) front)).0; own = made.own }, x.3)

module _ {S C R : Type 0} (step : Option S → C → Option S × R) (may : ℕ → List ℕ → C → Type 0) (n : ℕ) (key : List ℕ) (owner : IsOwner step may n key) where
  abbrev get : PartitionState S → Option S
  get s = fin.get s.cells key

  -- another's call that was made leaves what stands under the key
  done_same : (other : ℕ) → other ≢ n → (before after : PartitionState S) (k : List ℕ) (c : C) (sp : Bool) (r : R) (u f : Bool) → may other k c → IsDone step before.size before.cells k c sp r u f after.cells → get before ≡ get after
  done_same other ne before after k c sp r u f lets d =
      let now = ap (λ m. fin.get m key) d.steps in
      ⊎_elim
      (λ (e : key ≡ k).
      let here = changed_here step before.cells k (next_of step before.cells k c) key e in
      let kept = owner other c ne (subst (λ (z : List ℕ). may other z c) (sym e) lets) (fin.get before.cells k) in
      sym (now ∙ (here ∙ (kept ∙ ap (fin.get before.cells) (sym e)))))
      (λ (ne : key ≢ k). sym (now ∙ changed_else step before.cells k (next_of step before.cells k c) key ne))
      (keys_same_or_not key k)

  turn_same : (other : ℕ) → other ≢ n → (before after : PartitionState S) (c : PartitionCalls C) (r : PartitionReplies S R) → MayTurn may other c → IsTurn step before c r after → get before ≡ get after
  turn_same other ne before after (Call k c sp) (Made r u f) lets h = done_same other ne before after k c sp r u f lets h.1
  turn_same other ne before after (Call k c sp) LacksItem lets h = one step key before after (Call k c sp) LacksItem h
  turn_same other ne before after (Call k c sp) (HasToGrow told back) lets h = one step key before after (Call k c sp) (HasToGrow told back) h
  turn_same other ne before after (Call k c sp) (Crowded seed longest back) lets h = one step key before after (Call k c sp) (Crowded seed longest back) h
  turn_same other ne before after (Call k c sp) (HasSize size keys) lets h = absurd h
  turn_same other ne before after (Call k c sp) (Moved left) lets h = absurd h
  turn_same other ne before after (Call k c sp) (Listed es) lets h = absurd h
  turn_same other ne before after Looks r lets h = one step key before after Looks r h
  turn_same other ne before after (Moves to) r lets h = one step key before after (Moves to) r h
  turn_same other ne before after Lists r lets h = one step key before after Lists r h

  own_run : (number : ℕ) (s : PartitionState S) (es : List (Entry (PartitionState S) (PartitionCalls C) (PartitionReplies S R))) → IsLegal (λ _. PartitionLegal step number) s es → AreAllowed may es
      → IsRun step (get s) (calls_of_key key (calls_by n es)) (get (last_of s es))
  own_run number s [] h a = refl
  own_run number s (e ∷ es) h a =
      let rest = own_run number e.after es h.1 a.1 in
      ⊎_elim
      (λ (y : ((e.by == n) ≡ true) × (e.by ≡ n)). subst (λ (b : Bool). IsRun step (get s) (calls_of_key key (cond b (e ∷ calls_by n es) (calls_by n es))) (get (last_of e.after es))) (sym y.0)
      (run_append step (made_of key e.call e.reply) (calls_of_key key (calls_by n es)) (get s) (get e.after) (get (last_of e.after es)) (one step key s e.after e.call e.reply h.0.is) rest))
      (λ (y : ((e.by == n) ≡ false) × (e.by ≢ n)). subst (λ (b : Bool). IsRun step (get s) (calls_of_key key (cond b (e ∷ calls_by n es) (calls_by n es))) (get (last_of e.after es))) (sym y.0)
      (subst (λ (z : Option S). IsRun step z (calls_of_key key (calls_by n es)) (get (last_of e.after es))) (sym (turn_same e.by y.1 s e.after e.call e.reply a.0 h.0.is)) rest))
      (eqb_tells e.by n)

pub owners_have_cells : {S C R : Type 0} (step : Option S → C → Option S × R) (may : ℕ → List ℕ → C → Type 0) → OwnersHaveCells step may
owners_have_cells {S} step may number n key es h a owner =
    subst (λ (z : Option S). IsRun step z (calls_of_key key (calls_by n es)) (fin.get (last_of fresh es).cells key)) (fin.get-empty {X = S} _ key) (own_run step may n key owner number fresh es h a)

-- a pass's own calls of a key that is its caller's
pub own_cells : {S C R : Type 0} (step : Option S → C → Option S × R) (may : ℕ → List ℕ → C → Type 0) (who n : ℕ) (seen mine : Histories (PartitionState S) (PartitionCalls C) (PartitionReplies S R)) → who ≡ n
    → ((i : ℕ) → i < 128 → IsLegal (Taken step may i) fresh (seen i)) → ((i : ℕ) → calls_by who (seen i) ≡ mine i) → (key : List ℕ) → IsOwner step may n key → IsOwnCell step seen mine key
own_cells step may who n seen mine same taken own key owner =
    let home : ℕ = partition_of (hash_of key) in
    let legal = taken home (partition_low key) in
    let run = owners_have_cells step may home n key (seen home) (lawful step may home (seen home) legal) (allowed step may home (seen home) legal) owner in
    subst (λ es. IsRun step None (calls_of_key key es) (fin.get (last_of fresh (seen home)).cells key)) (ap (λ (m : ℕ). calls_by m (seen home)) (sym same) ∙ own home) run

-- a larger size has as many buckets at least
pub buckets_grow : (a b : ℕ) → a ≤ b → 8 * buckets_of a ≤ 8 * buckets_of b
buckets_grow a b low = dite (dec_lt (a - 7) (b - 7))
    (λ less. let more = pow_below (a - 7) (b - 7) less in omega (arith, more))
    (λ not_less. let same : a - 7 ≡ b - 7 = omega arith in let e : 2 ^ (a - 7) ≡ 2 ^ (b - 7) = ap (λ (z : ℕ). 2 ^ z) same in omega (arith, e))
