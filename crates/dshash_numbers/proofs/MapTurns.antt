-- What turns at a partition make of its map: only a call that was made changes it.
use Rattle.std.proofs.Common.{◌≡◌, ◌∙◌, ℕ, ◌==◌, if◌then◌else◌, Bool, true, false, List, [], ◌∷◌, ◌++◌, Option, Some, None, refl, ap, subst}
use Rattle.std.specs.FinMap as fin
use Rattle.dshash_core.specs.Cells.{KeyMap}
use Rattle.dshash_core.specs.Outcome.{changed, next_of}
use Rattle.dshash_parts.specs.Legal.{IsTurn, PartitionLegal}
use Rattle.dshash_parts.specs.States.{PartitionState}
use Rattle.dshash_parts.specs.Traces.{AreGifts, Asked, Event, Gave, Got, Missed, NoneMade, Turn, turns_at}
use Rattle.dshash_parts.specs.declared.histories.PartitionCalls.{PartitionCalls}
use Rattle.dshash_parts.specs.declared.histories.PartitionCalls.TheVariants.{Call, Looks, Moves, Lists}
use Rattle.dshash_parts.specs.declared.histories.PartitionReplies.{PartitionReplies}
use Rattle.dshash_parts.specs.declared.histories.PartitionReplies.TheVariants.{Made, LacksItem, HasToGrow, Crowded, HasSize, Moved, Listed}
use Rattle.dshash_numbers.proofs.Lone.{Steps}

module _ {S C R : Type 0} (step : Option S → C → Option S × R) (n : ℕ) where
  -- a turn by which no call was made keeps the map
  pub keeps : (number : ℕ) (s t : PartitionState S) (c : PartitionCalls C) (r : PartitionReplies S R) → NoneMade (Turn number c r ∷ []) → IsTurn step s c r t → t.cells ≡ s.cells
  keeps number s t c (Made r u f) none h = absurd none
  keeps number s t (Call k c sp) LacksItem none h = h.1.same
  keeps number s t (Call k c sp) (HasToGrow told back) none h = h.1.same
  keeps number s t (Call k c sp) (Crowded seed longest back) none h = ap (λ (x : PartitionState S). x.cells) h.0
  keeps number s t (Call k c sp) (HasSize z m) none h = absurd h
  keeps number s t (Call k c sp) (Moved left) none h = absurd h
  keeps number s t (Call k c sp) (Listed es) none h = absurd h
  keeps number s t Looks (HasSize z m) none h = ap (λ (x : PartitionState S). x.cells) h.1
  keeps number s t Looks LacksItem none h = absurd h
  keeps number s t Looks (HasToGrow told back) none h = absurd h
  keeps number s t Looks (Crowded seed longest back) none h = absurd h
  keeps number s t Looks (Moved left) none h = absurd h
  keeps number s t Looks (Listed es) none h = absurd h
  keeps number s t (Moves to) (Moved left) none h = h.0.same
  keeps number s t (Moves to) LacksItem none h = absurd h
  keeps number s t (Moves to) (HasToGrow told back) none h = absurd h
  keeps number s t (Moves to) (Crowded seed longest back) none h = absurd h
  keeps number s t (Moves to) (HasSize z m) none h = absurd h
  keeps number s t (Moves to) (Listed es) none h = absurd h
  keeps number s t Lists (Listed (Some es)) none h = ap (λ (x : PartitionState S). x.cells) h.1
  keeps number s t Lists (Listed None) none h = ap (λ (x : PartitionState S). x.cells) h
  keeps number s t Lists LacksItem none h = absurd h
  keeps number s t Lists (HasToGrow told back) none h = absurd h
  keeps number s t Lists (Crowded seed longest back) none h = absurd h
  keeps number s t Lists (HasSize z m) none h = absurd h
  keeps number s t Lists (Moved left) none h = absurd h

  -- the first of events, and the rest
  none-parts : (number : ℕ) (c : PartitionCalls C) (r : PartitionReplies S R) (es : List (Event S C R)) → NoneMade (Turn number c r ∷ es) → NoneMade (Turn number c r ∷ []) × NoneMade es
  none-parts number c (Made r u f) es h = absurd h
  none-parts number c LacksItem es h = (tt, h)
  none-parts number c (HasToGrow told back) es h = (tt, h)
  none-parts number c (Crowded seed longest back) es h = (tt, h)
  none-parts number c (HasSize z m) es h = (tt, h)
  none-parts number c (Moved left) es h = (tt, h)
  none-parts number c (Listed entries) es h = (tt, h)

  turn-keeps : (k number : ℕ) (c : PartitionCalls C) (r : PartitionReplies S R) (es : List (Event S C R)) (here : Bool) (s t : PartitionState S) → NoneMade (Turn number c r ∷ [])
      → ((u : PartitionState S) → Steps (λ _. PartitionLegal step k) n u (turns_at k es) t → t.cells ≡ u.cells)
      → Steps (λ _. PartitionLegal step k) n s (if here then ((c, r) ∷ turns_at k es) else turns_at k es) t → t.cells ≡ s.cells
  turn-keeps k number c r es true s t none rest x = rest x.0 x.2 ∙ keeps number s x.0 c r none x.1.is
  turn-keeps k number c r es false s t none rest x = rest s x

  -- the turns at a partition among events by which no call was made
  pub all-keep : (k : ℕ) (es : List (Event S C R)) (s t : PartitionState S) → NoneMade es → Steps (λ _. PartitionLegal step k) n s (turns_at k es) t → t.cells ≡ s.cells
  all-keep k [] s t none x = ap (λ (z : PartitionState S). z.cells) x
  all-keep k (Asked request ∷ es) s t none x = all-keep k es s t none x
  all-keep k (Turn number c r ∷ es) s t none x =
      let parts = none-parts number c r es none in
      turn-keeps k number c r es (number == k) s t parts.0 (λ u y. all-keep k es u t parts.1 y) x

  -- steps one after another
  cut : (legal : ℕ → PartitionState S → PartitionCalls C → PartitionReplies S R → PartitionState S → Type 0) (xs ys : List (PartitionCalls C × PartitionReplies S R)) (s t : PartitionState S) → Steps legal n s (xs ++ ys) t
      → (u : PartitionState S) × Steps legal n s xs u × Steps legal n u ys t
  cut legal [] ys s t x = (s, refl, x)
  cut legal (e ∷ xs) ys s t x = let rest = cut legal xs ys x.0 t x.2 in (rest.0, (x.0, x.1, rest.1), rest.2)

  if-append : (here : Bool) (e : PartitionCalls C × PartitionReplies S R) (xs ys zs : List (PartitionCalls C × PartitionReplies S R)) → zs ≡ xs ++ ys → (if here then (e ∷ zs) else zs) ≡ (if here then (e ∷ xs) else xs) ++ ys
  if-append true e xs ys zs is = ap (λ (l : List (PartitionCalls C × PartitionReplies S R)). e ∷ l) is
  if-append false e xs ys zs is = is

  turns-append : (k : ℕ) (xs ys : List (Event S C R)) → turns_at k (xs ++ ys) ≡ turns_at k xs ++ turns_at k ys
  turns-append k [] ys = refl
  turns-append k (Asked request ∷ xs) ys = turns-append k xs ys
  turns-append k (Turn number c r ∷ xs) ys = if-append (number == k) (c, r) (turns_at k xs) (turns_at k ys) (turns_at k (xs ++ ys)) (turns-append k xs ys)

  -- gifts to the area are no calls
  gifts-none : (es : List (Event S C R)) → AreGifts es → NoneMade es
  gifts-none [] h = tt
  gifts-none (Asked (Gave bytes accepted) ∷ es) h = gifts-none es h
  gifts-none (Asked (Got bytes) ∷ es) h = absurd h
  gifts-none (Asked (Missed bytes wanted largest) ∷ es) h = absurd h
  gifts-none (Turn number c r ∷ es) h = absurd h

  -- Events of which one is a call that was made, at the partition of this number: the reply and the map there are those
  -- of the step, and the maps of the others stay
  module _ (number : ℕ) (key : List ℕ) (call : C) (reply : R) (spare unused freed : Bool) (es before after : List (Event S C R)) (is : es ≡ before ++ Turn number (Call key call spare) (Made reply unused freed) ∷ after) (none : NoneMade before) (gifts : AreGifts after) where
    abbrev turn : PartitionCalls C × PartitionReplies S R
    turn = (Call key call spare, Made reply unused freed)

    made-turn : (k : ℕ) (here : Bool) → (number == k) ≡ here → turns_at k es ≡ turns_at k before ++ (if here then (turn ∷ turns_at k after) else turns_at k after)
    made-turn k here e = ap (turns_at k) is ∙ (turns-append k before (Turn number (Call key call spare) (Made reply unused freed) ∷ after) ∙ ap (λ (b : Bool). turns_at k before ++ (if b then (turn ∷ turns_at k after) else turns_at k after)) e)

    pub made-else : (k : ℕ) (s t : PartitionState S) → (number == k) ≡ false → Steps (λ _. PartitionLegal step k) n s (turns_at k es) t → t.cells ≡ s.cells
    made-else k s t e x =
        let parts = cut (λ _. PartitionLegal step k) (turns_at k before) (turns_at k after) s t (subst (λ (l : List (PartitionCalls C × PartitionReplies S R)). Steps (λ _. PartitionLegal step k) n s l t) (made-turn k false e) x) in
        all-keep k after parts.0 t (gifts-none after gifts) parts.2 ∙ all-keep k before s parts.0 none parts.1

    pub made-here : (k : ℕ) (s t : PartitionState S) → (number == k) ≡ true → Steps (λ _. PartitionLegal step k) n s (turns_at k es) t
        → (reply ≡ (step (fin.get s.cells key) call).1) × (t.cells ≡ changed s.cells key (next_of step s.cells key call))
    made-here k s t e x =
        let parts = cut (λ _. PartitionLegal step k) (turns_at k before) (turn ∷ turns_at k after) s t (subst (λ (l : List (PartitionCalls C × PartitionReplies S R)). Steps (λ _. PartitionLegal step k) n s l t) (made-turn k true e) x) in
        let same : parts.0.cells ≡ s.cells = all-keep k before s parts.0 none parts.1 in
        let made = parts.2.1.is.1 in
        let rest = all-keep k after parts.2.0 t (gifts-none after gifts) parts.2.2 in
        (made.replied ∙ ap (λ (m : KeyMap S). (step (fin.get m key) call).1) same, rest ∙ (made.steps ∙ ap (λ (m : KeyMap S). changed m key (next_of step m key call)) same))
