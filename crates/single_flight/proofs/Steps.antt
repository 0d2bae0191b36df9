-- What one step of a cell makes of its value and of its load.
use Rattle.std.proofs.Common.{◌≡◌, ℕ, ◌==◌, Bool, true, false, cond, ◌&&◌, refl, sym, ap, ◌∙◌, subst, eq-eqb, eqb-true}
use Rattle.std.specs.Prelude.{Option, Some, None, is_some}
use Rattle.single_flight.specs.declared.history.CellState.{CellState}
use Rattle.single_flight.specs.declared.history.CellState.TheVariants.{Empty, Loading, Here}
use Rattle.single_flight.specs.declared.history.CellCall.{CellCall}
use Rattle.single_flight.specs.declared.history.CellCall.TheVariants.{Ask, Look, Put, Fail, Remove}
use Rattle.single_flight.specs.declared.history.CellReply.{CellReply}
use Rattle.single_flight.specs.declared.history.CellReply.TheVariants.{Value, Yours, Busy, Failed, Done, Refused}
use Rattle.single_flight.specs.Cells.{CallFits, next, stepped}
use Rattle.single_flight.specs.Laws.{CellLegal, is_end, is_loss, is_put, is_removal, load_after, value_after}

pub true-false : (b : Bool) → b ≡ true → b ≡ false → ⊥
true-false b e f = let k : true ≡ false = sym e ∙ f in absurd (cc)

pub none-some : {A : Type 0} (o : Option A) (v : A) → o ≡ None → o ≡ Some v → ⊥
none-some o v e f = true-false (is_some o) (ap is_some f) (ap is_some e)

own-end : (n m : ℕ) → (m == n) ≡ true → (q : Bool) → q ≡ true → ((m == n) && q) ≡ false → ⊥
own-end n m e q f g = true-false ((m == n) && q) (ap (λ (z : Bool × Bool). z.0 && z.1) (λ i. (e i, f i))) g

module _ {V : Type 0} where
  -- the value in a cell
  abbrev pub content : CellState V → Option V
  content (Empty load) = None
  content (Loading load n) = None
  content (Here load v) = Some v

  -- the reply of a step, and the state after it
  pub reply-is : (n : ℕ) (s : CellState V) (c : CellCall V) (r : CellReply V) (t : CellState V) → CellLegal n s c r t → (stepped n s c).0 ≡ r
  reply-is n s c r t h = sym (ap (λ (z : CellReply V × CellState V). z.0) h)

  pub state-is : (n : ℕ) (s : CellState V) (c : CellCall V) (r : CellReply V) (t : CellState V) → CellLegal n s c r t → t ≡ (stepped n s c).1
  state-is n s c r t h = ap (λ (z : CellReply V × CellState V). z.1) h

  -- what each step makes of the value
  looked : (b : Bool) (load number m : ℕ) → content ((cond {A = CellReply V × CellState V} b (Busy load, Loading load m) (Failed, Loading load m)).1) ≡ value_after None (Look number) ((cond {A = CellReply V × CellState V} b (Busy load, Loading load m) (Failed, Loading load m)).0)
  looked true load number m = refl
  looked false load number m = refl

  put-step : (b : Bool) (load m : ℕ) (v : V) → content ((cond {A = CellReply V × CellState V} b (Done, Here load v) (Refused, Loading load m)).1) ≡ value_after None (Put v) ((cond {A = CellReply V × CellState V} b (Done, Here load v) (Refused, Loading load m)).0)
  put-step true load m v = refl
  put-step false load m v = refl

  fail-step : (b : Bool) (load m : ℕ) → content ((cond {A = CellReply V × CellState V} b (Done, Empty (next load)) (Refused, Loading load m)).1) ≡ value_after None Fail ((cond {A = CellReply V × CellState V} b (Done, Empty (next load)) (Refused, Loading load m)).0)
  fail-step true load m = refl
  fail-step false load m = refl

  content-stepped : (n : ℕ) (s : CellState V) (c : CellCall V) → content (stepped n s c).1 ≡ value_after (content s) c (stepped n s c).0
  content-stepped n (Empty load) Ask = refl
  content-stepped n (Empty load) (Look number) = refl
  content-stepped n (Empty load) (Put v) = refl
  content-stepped n (Empty load) Fail = refl
  content-stepped n (Empty load) Remove = refl
  content-stepped n (Loading load m) Ask = refl
  content-stepped n (Loading load m) (Look number) = looked (load == number) load number m
  content-stepped n (Loading load m) (Put v) = put-step (m == n) load m v
  content-stepped n (Loading load m) Fail = fail-step (m == n) load m
  content-stepped n (Loading load m) Remove = refl
  content-stepped n (Here load v) Ask = refl
  content-stepped n (Here load v) (Look number) = refl
  content-stepped n (Here load v) (Put w) = refl
  content-stepped n (Here load v) Fail = refl
  content-stepped n (Here load v) Remove = refl

  pub content-step : (n : ℕ) (s : CellState V) (c : CellCall V) (r : CellReply V) (t : CellState V) → CellLegal n s c r t → content t ≡ value_after (content s) c r
  content-step n s c r t h = subst (λ (z : CellReply V × CellState V). content z.1 ≡ value_after (content s) c z.0) (sym h) (content-stepped n s c)

  -- a value is put only where there is none
  put-empty : (n : ℕ) (s : CellState V) (c : CellCall V) → is_put c (stepped n s c).0 ≡ true → content s ≡ None
  put-empty n (Empty load) c e = refl
  put-empty n (Loading load m) c e = refl
  put-empty n (Here load v) Ask e = absurd (cc)
  put-empty n (Here load v) (Look number) e = absurd (cc)
  put-empty n (Here load v) (Put w) e = absurd (cc)
  put-empty n (Here load v) Fail e = absurd (cc)
  put-empty n (Here load v) Remove e = absurd (cc)

  pub put-none : (n : ℕ) (s : CellState V) (c : CellCall V) (r : CellReply V) (t : CellState V) → CellLegal n s c r t → is_put c r ≡ true → content s ≡ None
  put-none n s c r t h e = put-empty n s c (ap (is_put c) (reply-is n s c r t h) ∙ e)

  pub put-some : (c : CellCall V) (r : CellReply V) → is_put c r ≡ true → (v : V) × ((o : Option V) → value_after o c r ≡ Some v)
  put-some Ask r e = absurd (cc)
  put-some (Look number) r e = absurd (cc)
  put-some (Put v) (Value w) e = absurd (cc)
  put-some (Put v) (Yours load) e = absurd (cc)
  put-some (Put v) (Busy load) e = absurd (cc)
  put-some (Put v) Failed e = absurd (cc)
  put-some (Put v) Done e = (v, λ o. refl)
  put-some (Put v) Refused e = absurd (cc)
  put-some Fail r e = absurd (cc)
  put-some Remove r e = absurd (cc)

  -- a value stays one if it is not removed
  pub kept-some : (v : V) (c : CellCall V) (r : CellReply V) → is_removal c r ≡ false → (w : V) × (value_after (Some v) c r ≡ Some w)
  kept-some v Ask r e = (v, refl)
  kept-some v (Look number) r e = (v, refl)
  kept-some v (Put w) (Value x) e = (v, refl)
  kept-some v (Put w) (Yours load) e = (v, refl)
  kept-some v (Put w) (Busy load) e = (v, refl)
  kept-some v (Put w) Failed e = (v, refl)
  kept-some v (Put w) Done e = (w, refl)
  kept-some v (Put w) Refused e = (v, refl)
  kept-some v Fail r e = (v, refl)
  kept-some v Remove (Value x) e = (v, refl)
  kept-some v Remove (Yours load) e = (v, refl)
  kept-some v Remove (Busy load) e = (v, refl)
  kept-some v Remove Failed e = (v, refl)
  kept-some v Remove Done e = absurd (cc)
  kept-some v Remove Refused e = (v, refl)

  -- what holds of each value that is put holds of the value that is there
  pub after-holds : (holds : V → Type 0) (o : Option V) (c : CellCall V) (r : CellReply V) → ((v : V) → o ≡ Some v → holds v) → CallFits holds c → (v : V) → value_after o c r ≡ Some v → holds v
  after-holds holds o Ask r f g v e = f v e
  after-holds holds o (Look number) r f g v e = f v e
  after-holds holds o (Put w) (Value x) f g v e = f v e
  after-holds holds o (Put w) (Yours load) f g v e = f v e
  after-holds holds o (Put w) (Busy load) f g v e = f v e
  after-holds holds o (Put w) Failed f g v e = f v e
  after-holds holds o (Put w) Done f g v e = let same : w ≡ v = cc in subst holds same g
  after-holds holds o (Put w) Refused f g v e = f v e
  after-holds holds o Fail r f g v e = f v e
  after-holds holds o Remove (Value x) f g v e = f v e
  after-holds holds o Remove (Yours load) f g v e = f v e
  after-holds holds o Remove (Busy load) f g v e = f v e
  after-holds holds o Remove Failed f g v e = f v e
  after-holds holds o Remove Done f g v e = absurd (cc)
  after-holds holds o Remove Refused f g v e = f v e

  -- a value that is found was there
  value-looked : (b : Bool) (load m : ℕ) (v : V) → (cond {A = CellReply V × CellState V} b (Busy load, Loading load m) (Failed, Loading load m)).0 ≡ Value v → ⊥
  value-looked true load m v e = cc
  value-looked false load m v e = cc

  value-put : (b : Bool) (load m : ℕ) (w v : V) → (cond {A = CellReply V × CellState V} b (Done, Here load w) (Refused, Loading load m)).0 ≡ Value v → ⊥
  value-put true load m w v e = cc
  value-put false load m w v e = cc

  value-fail : (b : Bool) (load m : ℕ) (v : V) → (cond {A = CellReply V × CellState V} b (Done, Empty (next load)) (Refused, Loading load m)).0 ≡ Value v → ⊥
  value-fail true load m v e = cc
  value-fail false load m v e = cc

  value-stepped : (n : ℕ) (s : CellState V) (c : CellCall V) (v : V) → (stepped n s c).0 ≡ Value v → content s ≡ Some v
  value-stepped n (Empty load) Ask v e = absurd (cc)
  value-stepped n (Empty load) (Look number) v e = absurd (cc)
  value-stepped n (Empty load) (Put w) v e = absurd (cc)
  value-stepped n (Empty load) Fail v e = absurd (cc)
  value-stepped n (Empty load) Remove v e = absurd (cc)
  value-stepped n (Loading load m) Ask v e = absurd (cc)
  value-stepped n (Loading load m) (Look number) v e = absurd (value-looked (load == number) load m v e)
  value-stepped n (Loading load m) (Put w) v e = absurd (value-put (m == n) load m w v e)
  value-stepped n (Loading load m) Fail v e = absurd (value-fail (m == n) load m v e)
  value-stepped n (Loading load m) Remove v e = absurd (cc)
  value-stepped n (Here load w) Ask v e = let same : w ≡ v = cc in ap (λ (x : V). Some x) same
  value-stepped n (Here load w) (Look number) v e = let same : w ≡ v = cc in ap (λ (x : V). Some x) same
  value-stepped n (Here load w) (Put x) v e = absurd (cc)
  value-stepped n (Here load w) Fail v e = absurd (cc)
  value-stepped n (Here load w) Remove v e = absurd (cc)

  pub value-there : (n : ℕ) (s : CellState V) (c : CellCall V) (v : V) (t : CellState V) → CellLegal n s c (Value v) t → content s ≡ Some v
  value-there n s c v t h = value-stepped n s c v (reply-is n s c (Value v) t h)

  pub value-stays : (o : Option V) (c : CellCall V) (v : V) → value_after o c (Value v) ≡ o
  value-stays o Ask v = refl
  value-stays o (Look number) v = refl
  value-stays o (Put w) v = refl
  value-stays o Fail v = refl
  value-stays o Remove v = refl

  -- after a removal there is no value
  removed : (n : ℕ) (s : CellState V) → content (stepped n s Remove).1 ≡ None
  removed n (Empty load) = refl
  removed n (Loading load m) = refl
  removed n (Here load v) = refl

  pub removed-none : (n : ℕ) (s : CellState V) (r : CellReply V) (t : CellState V) → CellLegal n s Remove r t → content t ≡ None
  removed-none n s r t h = ap content (state-is n s Remove r t h) ∙ removed n s

  -- a caller that is told to load has the load, and nobody had one
  yours-looked : (b : Bool) (load m k : ℕ) → (cond {A = CellReply V × CellState V} b (Busy load, Loading load m) (Failed, Loading load m)).0 ≡ Yours k → ⊥
  yours-looked true load m k e = cc
  yours-looked false load m k e = cc

  yours-put : (b : Bool) (load m : ℕ) (w : V) (k : ℕ) → (cond {A = CellReply V × CellState V} b (Done, Here load w) (Refused, Loading load m)).0 ≡ Yours k → ⊥
  yours-put true load m w k e = cc
  yours-put false load m w k e = cc

  yours-fail : (b : Bool) (load m k : ℕ) → (cond {A = CellReply V × CellState V} b (Done, Empty (next load)) (Refused, Loading load m)).0 ≡ Yours k → ⊥
  yours-fail true load m k e = cc
  yours-fail false load m k e = cc

  yours-stepped : (n : ℕ) (s : CellState V) (c : CellCall V) (k : ℕ) → (stepped n s c).0 ≡ Yours k → (s ≡ Empty k) × ((stepped n s c).1 ≡ Loading k n)
  yours-stepped n (Empty load) Ask k e = let same : load ≡ k = cc in (ap (λ (x : ℕ). Empty x) same, ap (λ (x : ℕ). Loading x n) same)
  yours-stepped n (Empty load) (Look number) k e = absurd (cc)
  yours-stepped n (Empty load) (Put w) k e = absurd (cc)
  yours-stepped n (Empty load) Fail k e = absurd (cc)
  yours-stepped n (Empty load) Remove k e = absurd (cc)
  yours-stepped n (Loading load m) Ask k e = absurd (cc)
  yours-stepped n (Loading load m) (Look number) k e = absurd (yours-looked (load == number) load m k e)
  yours-stepped n (Loading load m) (Put w) k e = absurd (yours-put (m == n) load m w k e)
  yours-stepped n (Loading load m) Fail k e = absurd (yours-fail (m == n) load m k e)
  yours-stepped n (Loading load m) Remove k e = absurd (cc)
  yours-stepped n (Here load w) Ask k e = absurd (cc)
  yours-stepped n (Here load w) (Look number) k e = absurd (cc)
  yours-stepped n (Here load w) (Put x) k e = absurd (cc)
  yours-stepped n (Here load w) Fail k e = absurd (cc)
  yours-stepped n (Here load w) Remove k e = absurd (cc)

  pub yours-step : (n : ℕ) (s : CellState V) (c : CellCall V) (r : CellReply V) (t : CellState V) (k : ℕ) → CellLegal n s c r t → r ≡ Yours k → (s ≡ Empty k) × (t ≡ Loading k n)
  yours-step n s c r t k h e =
      let y = yours-stepped n s c k (reply-is n s c r t h ∙ e) in
      (y.0, state-is n s c r t h ∙ y.1)

  abbrev is-empty : CellState V → Bool
  is-empty (Empty load) = true
  is-empty (Loading load n) = false
  is-empty (Here load v) = false

  pub empty-loading : (k load n : ℕ) (s : CellState V) → s ≡ Empty k → s ≡ Loading load n → ⊥
  empty-loading k load n s e f = true-false (is-empty s) (ap is-empty e) (ap is-empty f)

  -- a caller that is told that a load is under way: it is
  busy-stepped : (n : ℕ) (s : CellState V) (k : ℕ) → (stepped n s Ask).0 ≡ Busy k → (m : ℕ) × ((stepped n s Ask).1 ≡ Loading k m)
  busy-stepped n (Empty load) k e = absurd (cc)
  busy-stepped n (Loading load m) k e = let same : load ≡ k = cc in (m, ap (λ (x : ℕ). Loading x m) same)
  busy-stepped n (Here load v) k e = absurd (cc)

  pub busy-asked : (n : ℕ) (s : CellState V) (k : ℕ) (t : CellState V) → CellLegal n s Ask (Busy k) t → (m : ℕ) × (t ≡ Loading k m)
  busy-asked n s k t h = let b = busy-stepped n s k (reply-is n s Ask (Busy k) t h) in (b.0, state-is n s Ask (Busy k) t h ∙ b.1)

  -- a load that is under way stays so, unless its caller ends it
  looked-stays : (n load : ℕ) (b : Bool) → (cond {A = CellReply V × CellState V} b (Busy load, Loading load n) (Failed, Loading load n)).1 ≡ Loading load n
  looked-stays n load true = refl
  looked-stays n load false = refl

  put-stays : (n m load : ℕ) (v : V) (b : Bool) → (n == m) ≡ b → (r : CellReply V) (t : CellState V) → ◌≡◌ {A = CellReply V × CellState V} (r, t) (cond b (Done, Here load v) (Refused, Loading load n)) → ((m == n) && is_end (Put v) r) ≡ false → t ≡ Loading load n
  put-stays n m load v true e r t h g = absurd (own-end n m (eq-eqb m n (sym (eqb-true n m e))) (is_end (Put v) r) (ap (λ (z : CellReply V × CellState V). is_end (Put v) z.0) h) g)
  put-stays n m load v false e r t h g = ap (λ (z : CellReply V × CellState V). z.1) h

  fail-stays : (n m load : ℕ) (b : Bool) → (n == m) ≡ b → (r : CellReply V) (t : CellState V) → ◌≡◌ {A = CellReply V × CellState V} (r, t) (cond b (Done, Empty (next load)) (Refused, Loading load n)) → ((m == n) && is_end {V = V} Fail r) ≡ false → t ≡ Loading load n
  fail-stays n m load true e r t h g = absurd (own-end n m (eq-eqb m n (sym (eqb-true n m e))) (is_end {V = V} Fail r) (ap (λ (z : CellReply V × CellState V). is_end {V = V} Fail z.0) h) g)
  fail-stays n m load false e r t h g = ap (λ (z : CellReply V × CellState V). z.1) h

  pub loading-stays : (n m load : ℕ) (c : CellCall V) (r : CellReply V) (t : CellState V) → CellLegal m (Loading load n) c r t → ((m == n) && is_end c r) ≡ false → t ≡ Loading load n
  loading-stays n m load Ask r t h g = ap (λ (z : CellReply V × CellState V). z.1) h
  loading-stays n m load (Look number) r t h g = ap (λ (z : CellReply V × CellState V). z.1) h ∙ looked-stays n load (load == number)
  loading-stays n m load (Put v) r t h g = put-stays n m load v (n == m) refl r t h g
  loading-stays n m load Fail r t h g = fail-stays n m load (n == m) refl r t h g
  loading-stays n m load Remove r t h g = ap (λ (z : CellReply V × CellState V). z.1) h

  -- whether a caller has a load, by its own calls
  pub ended-none : (o : Option ℕ) (c : CellCall V) (r : CellReply V) → is_end c r ≡ true → load_after o c r ≡ None
  ended-none o Ask r e = absurd (cc)
  ended-none o (Look number) r e = absurd (cc)
  ended-none o (Put v) (Value w) e = absurd (cc)
  ended-none o (Put v) (Yours k) e = absurd (cc)
  ended-none o (Put v) (Busy k) e = absurd (cc)
  ended-none o (Put v) Failed e = absurd (cc)
  ended-none o (Put v) Done e = refl
  ended-none o (Put v) Refused e = absurd (cc)
  ended-none o Fail (Value w) e = absurd (cc)
  ended-none o Fail (Yours k) e = absurd (cc)
  ended-none o Fail (Busy k) e = absurd (cc)
  ended-none o Fail Failed e = absurd (cc)
  ended-none o Fail Done e = refl
  ended-none o Fail Refused e = absurd (cc)
  ended-none o Remove r e = absurd (cc)

  -- the load is new, or the caller had it
  pub had-load : (C : Type 0) (o : Option ℕ) (k : ℕ) (c : CellCall V) (r : CellReply V) → load_after o c r ≡ Some k → (r ≡ Yours k → C) → (o ≡ Some k → C) → C
  had-load C o k Ask (Value w) e new old = old e
  had-load C o k Ask (Yours j) e new old = new (let same : j ≡ k = cc in ap (λ (x : ℕ). Yours x) same)
  had-load C o k Ask (Busy j) e new old = old e
  had-load C o k Ask Failed e new old = old e
  had-load C o k Ask Done e new old = old e
  had-load C o k Ask Refused e new old = old e
  had-load C o k (Look number) r e new old = old e
  had-load C o k (Put v) (Value w) e new old = old e
  had-load C o k (Put v) (Yours j) e new old = old e
  had-load C o k (Put v) (Busy j) e new old = old e
  had-load C o k (Put v) Failed e new old = old e
  had-load C o k (Put v) Done e new old = absurd (cc)
  had-load C o k (Put v) Refused e new old = old e
  had-load C o k Fail (Value w) e new old = old e
  had-load C o k Fail (Yours j) e new old = old e
  had-load C o k Fail (Busy j) e new old = old e
  had-load C o k Fail Failed e new old = old e
  had-load C o k Fail Done e new old = absurd (cc)
  had-load C o k Fail Refused e new old = old e
  had-load C o k Remove r e new old = old e

  -- the load of this number is under way, or has put the value that is there
  abbrev pub IsOf : ℕ → CellState V → Type 0
  IsOf load (Empty k) = ⊥
  IsOf load (Loading k m) = k ≡ load
  IsOf load (Here k v) = k ≡ load

-- it stays so while no load fails and no value is removed
of-looked : (V : Type 0) (load k m : ℕ) (b : Bool) → k ≡ load → IsOf load ((cond {A = CellReply V × CellState V} b (Busy k, Loading k m) (Failed, Loading k m)).1)
of-looked V load k m true i = i
of-looked V load k m false i = i

of-fail : (V : Type 0) (load k m : ℕ) (b : Bool) → k ≡ load → is_loss {V = V} Fail ((cond {A = CellReply V × CellState V} b (Done, Empty (next k)) (Refused, Loading k m)).0) ≡ false → IsOf load ((cond {A = CellReply V × CellState V} b (Done, Empty (next k)) (Refused, Loading k m)).1)
of-fail V load k m true i e = absurd (cc)
of-fail V load k m false i e = i

module _ {V : Type 0} where
  of-put : (load k m : ℕ) (v : V) (b : Bool) → k ≡ load → IsOf load ((cond {A = CellReply V × CellState V} b (Done, Here k v) (Refused, Loading k m)).1)
  of-put load k m v true i = i
  of-put load k m v false i = i

  of-stepped : (load n : ℕ) (s : CellState V) (c : CellCall V) → IsOf load s → is_loss c (stepped n s c).0 ≡ false → IsOf load (stepped n s c).1
  of-stepped load n (Empty k) c i e = absurd i
  of-stepped load n (Loading k m) Ask i e = i
  of-stepped load n (Loading k m) (Look number) i e = of-looked V load k m (k == number) i
  of-stepped load n (Loading k m) (Put v) i e = of-put load k m v (m == n) i
  of-stepped load n (Loading k m) Fail i e = of-fail V load k m (m == n) i e
  of-stepped load n (Loading k m) Remove i e = i
  of-stepped load n (Here k v) Ask i e = i
  of-stepped load n (Here k v) (Look number) i e = i
  of-stepped load n (Here k v) (Put w) i e = i
  of-stepped load n (Here k v) Fail i e = i
  of-stepped load n (Here k v) Remove i e = absurd (cc)

  pub of-step : (load n : ℕ) (s : CellState V) (c : CellCall V) (r : CellReply V) (t : CellState V) → CellLegal n s c r t → IsOf load s → is_loss c r ≡ false → IsOf load t
  of-step load n s c r t h i e = subst (IsOf load) (sym (state-is n s c r t h)) (of-stepped load n s c i (ap (is_loss c) (reply-is n s c r t h) ∙ e))

  -- a caller that looks is not told then that it failed
  look-reply : (load k m : ℕ) (b : Bool) → b ≡ true → (cond {A = CellReply V × CellState V} b (Busy k, Loading k m) (Failed, Loading k m)).0 ≡ Failed → ⊥
  look-reply load k m true i e = cc
  look-reply load k m false i e = cc

  look-stepped : (load n : ℕ) (s : CellState V) → IsOf load s → (stepped n s (Look load)).0 ≡ Failed → ⊥
  look-stepped load n (Empty k) i e = i
  look-stepped load n (Loading k m) i e = look-reply load k m (k == load) (eq-eqb k load i) e
  look-stepped load n (Here k v) i e = cc

  pub look-of : (load n : ℕ) (s : CellState V) (t : CellState V) → CellLegal n s (Look load) Failed t → IsOf load s → ⊥
  look-of load n s t h i = look-stepped load n s i (reply-is n s (Look load) Failed t h)
