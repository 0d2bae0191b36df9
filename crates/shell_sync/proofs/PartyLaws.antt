-- What a call of one pass, after which it meets all others, makes of the passes of a barrier.
use Rattle.std.proofs.Common.{◌≡◌, ◌≢◌, ◌∙◌, ◌⊎◌, inl, inr, ℕ, zero, suc, ◌+◌, ◌<◌, ◌≤◌, List, [], ◌∷◌, ◌++◌, length, take, drop, get_or, set, length-drop, refl, ap, sym, subst, arith}
use Rattle.std.proofs.lemmas.Bool.{cases_lt}
use Rattle.std.specs.List.{All, AllZip}
use mathlib.Core.Option.{some, none}
use lib.ListN.{get_elem?}
use Rattle.std.proofs.lemmas.List.Elements.{All-cons, All-head, All-nil, All-tail, All-weaker}
use Rattle.lock_book.specs.History.{StartsWith, calls_by, entry, last_of, longer}
use Rattle.lock_book.proofs.Histories.{last_snoc, longer_front, starts_snoc}
use Rattle.par_barrier.specs.Legal.{BarrierLegal}
use Rattle.par_barrier.specs.Parties.{nobody}
use Rattle.par_barrier.specs.Shown.{AreAll, Belongs, Called, History, callers_of, history_of, number_of, own_of}
use Rattle.par_barrier.specs.declared.barrier.Barrier.{Barrier}
use Rattle.par_barrier.specs.declared.barrier.BarrierPass.{BarrierPass}
use Rattle.par_barrier.specs.declared.history.BarrierCall.{BarrierCall}
use Rattle.par_barrier.specs.declared.history.BarrierReply.{BarrierReply}
use Rattle.par_barrier.specs.declared.history.BarrierState.{BarrierState}
use Rattle.shell_sync.specs.Barriers.{HasSeen, IsParty}
use Rattle.shell_sync.specs.Meetings.{IsAlike, IsBehind, IsCalledAmong, Meets}
use Rattle.shell_sync.specs.declared.barriers.Party.{Party}
use Rattle.shell_sync.proofs.Histories.{before-call}

-- ---- lists side by side
module _ {X : Type 0} where
  at-within : (xs : List X) (k : ℕ) → k < length xs → (x : X) × (get_elem? xs k ≡ some x)
  at-within [] k lt = absurd (omega (arith, lt))
  at-within (x ∷ xs) zero lt = (x, refl)
  at-within (x ∷ xs) (suc k) lt = at-within xs k (omega (arith, lt))

  no-element : (x : X) → none ≡ some x → ⊥
  no-element x e = cc

  zip-back : (R : X → X → Type 0) (xs ys : List X) (k : ℕ) (y : X) → AllZip R xs ys → get_elem? ys k ≡ some y → (x : X) × (get_elem? xs k ≡ some x) × R x y
  zip-back R [] [] k y z e = absurd (no-element y e)
  zip-back R [] (u ∷ us) k y z e = absurd z
  zip-back R (x ∷ xs) [] k y z e = absurd z
  zip-back R (x ∷ xs) (u ∷ us) zero y z e = let same : u ≡ y = cc in (x, refl, subst (R x) same z.0)
  zip-back R (x ∷ xs) (u ∷ us) (suc k) y z e = zip-back R xs us k y z.1 e

  zip-on : (R : X → X → Type 0) (xs ys : List X) (k : ℕ) (x : X) → AllZip R xs ys → get_elem? xs k ≡ some x → (y : X) × (get_elem? ys k ≡ some y) × R x y
  zip-on R [] [] k x z e = absurd (no-element x e)
  zip-on R [] (u ∷ us) k x z e = absurd z
  zip-on R (v ∷ xs) [] k x z e = absurd z
  zip-on R (v ∷ xs) (u ∷ us) zero x z e = let same : v ≡ x = cc in (u, refl, subst (λ (w : X). R w u) same z.0)
  zip-on R (v ∷ xs) (u ∷ us) (suc k) x z e = zip-on R xs us k x z.1 e

  zip-long : (R : X → X → Type 0) (xs ys : List X) → AllZip R xs ys → length ys ≡ length xs
  zip-long R [] [] z = refl
  zip-long R [] (u ∷ us) z = absurd z
  zip-long R (x ∷ xs) [] z = absurd z
  zip-long R (x ∷ xs) (u ∷ us) z = ap suc (zip-long R xs us z.1)

  -- side by side with a middle
  pub zip-middle : (R : X → X → Type 0) (xs ys : List X) (x y : X) (us vs : List X) → AllZip R xs ys → R x y → AllZip R us vs → AllZip R (xs ++ x ∷ us) (ys ++ y ∷ vs)
  zip-middle R [] [] x y us vs z r w = (r, w)
  zip-middle R [] (b ∷ ys) x y us vs z r w = absurd z
  zip-middle R (a ∷ xs) [] x y us vs z r w = absurd z
  zip-middle R (a ∷ xs) (b ∷ ys) x y us vs z r w = (z.0, zip-middle R xs ys x y us vs z.1 r w)

-- ---- passes
-- a pass of the barrier is this one afterwards: it has seen this history, and its own calls stay unless it is the caller's
pub record Goes (b : Barrier) (n : ℕ) (h : History) (old new : BarrierPass) : Type 0 where
  pub own : Belongs b new
  pub number : number_of new ≡ number_of old
  pub history : history_of new ≡ h
  pub mine : number_of old ≢ n → own_of new ≡ own_of old

-- the others meet the caller's
pub goes-other : (b : Barrier) (n : ℕ) (h : History) (old new : BarrierPass) → Meets b h old new → Goes b n h old new
goes-other b n h old new m = record { own = m.own; number = m.number; history = m.history; mine = λ _. m.mine }

calls-of : (b : Barrier) (p : BarrierPass) (n : ℕ) (h : History) → Belongs b p → number_of p ≡ n → history_of p ≡ h → calls_by n h ≡ own_of p
calls-of b p n h is number history =
    ap (λ (m : ℕ). calls_by m h) (sym number) ∙ (ap (λ (l : History). calls_by (number_of p) l) (sym history) ∙ is.stands.own 0)

module _ (b : Barrier) (xs ys : List BarrierPass) (seen : History) (all : AreAll b xs) (alike : HasSeen xs seen) (n : ℕ) (p q : BarrierPass) (here : get_elem? xs n ≡ some p) (is : Belongs b q) (number : number_of q ≡ number_of p)
    (call : BarrierCall) (r : BarrierReply) (called : Called p q call r) (zip : AllZip (Goes b (number_of p) (history_of q)) xs ys) where
  abbrev whole : History
  whole = called.before ++ entry (number_of p) call r called.after ∷ []

  known : calls_by (number_of p) seen ≡ own_of p
  known = calls-of b p (number_of p) seen (all.each n p here).0 refl (alike n p here)

  own : calls_by (number_of p) whole ≡ calls_by (number_of p) seen ++ entry (number_of p) call r called.after ∷ []
  own = calls-of b q (number_of p) whole is number called.ends ∙ (called.own ∙ ap (λ (l : History). l ++ entry (number_of p) call r called.after ∷ []) (sym known))

  others : (m : ℕ) → m < callers_of b → m ≢ number_of p → calls_by m whole ≡ calls_by m seen
  others m lt differs =
      let x = at-within xs m (omega (arith, lt, all.count)) in
      let at = all.each m x.0 x.1 in
      let y = zip-on (Goes b (number_of p) (history_of q)) xs ys m x.0 zip x.1 in
      let old = calls-of b x.0 m seen at.0 at.1 (alike m x.0 x.1) in
      let new = calls-of b y.0 m whole y.2.own (y.2.number ∙ at.1) (y.2.history ∙ called.ends) in
      new ∙ (y.2.mine (λ e. differs (sym at.1 ∙ e)) ∙ sym old)

  beyond : (m : ℕ) → callers_of b ≤ m → m ≢ number_of p → calls_by m whole ≡ calls_by m seen
  beyond m le differs =
      ap (calls_by m) (sym called.ends) ∙ (is.stands.bounded 0 m le ∙ sym (ap (calls_by m) (sym (alike n p here)) ∙ (all.each n p here).0.stands.bounded 0 m le))

  begins : StartsWith called.before seen
  begins = subst (StartsWith called.before) (alike n p here) called.begins

  before-is : called.before ≡ seen
  before-is = before-call (callers_of b) (number_of p) call r called.after called.before seen begins own others beyond

  -- the passes are all callers' still
  pub still-all : AreAll b ys
  still-all = record {
    count = zip-long (Goes b (number_of p) (history_of q)) xs ys zip ∙ all.count;
    each = λ k y e. (let x = zip-back (Goes b (number_of p) (history_of q)) xs ys k y zip e in (x.2.own, x.2.number ∙ (all.each k x.0 x.1).1));
  }

  -- they have seen the same
  pub still-alike : HasSeen ys (history_of q)
  still-alike k y e = (zip-back (Goes b (number_of p) (history_of q)) xs ys k y zip e).2.history

  -- the call is legal from the state before it to the one after it
  pub legal : BarrierLegal n (last_of nobody seen) call r (last_of nobody (history_of q))
  legal =
      let state : last_of nobody (history_of q) ≡ called.after = ap (last_of nobody) called.ends ∙ last_snoc nobody called.before (entry (number_of p) call r called.after) in
      subst (λ (m : ℕ). BarrierLegal m (last_of nobody seen) call r (last_of nobody (history_of q))) (all.each n p here).1
      (subst (λ (t : BarrierState). BarrierLegal (number_of p) (last_of nobody seen) call r t) (sym state)
      (subst (λ (l : History). BarrierLegal (number_of p) (last_of nobody l) call r called.after) before-is called.step))

-- ---- a loop over the others
module _ {X : Type 0} (R : X → X → Type 0) where
  -- one more of them
  pub zip-next : (xs ys : List X) (i : ℕ) (x y : X) → i < length ys → x ≡ get_or ys i x → drop i ys ≡ drop i xs → AllZip R (take i xs) (take i ys) → R x y
      → AllZip R (take (i + 1) xs) (take (i + 1) (set ys i y)) × (drop (i + 1) (set ys i y) ≡ drop (i + 1) xs)
  zip-next xs [] i x y lt is same z r = absurd (omega (arith, lt))
  zip-next [] (v ∷ ys) zero x y lt is same z r = absurd (cc)
  zip-next (u ∷ xs) (v ∷ ys) zero x y lt is same z r =
      let e : x ≡ u = cc in
      let rest : ys ≡ xs = cc in
      ((subst (λ (w : X). R w y) e r, tt), rest)
  zip-next [] (v ∷ ys) (suc i) x y lt is same z r = absurd z
  zip-next (u ∷ xs) (v ∷ ys) (suc i) x y lt is same z r =
      let next : suc i + 1 ≡ suc (i + 1) = omega arith in
      let rest = zip-next xs ys i x y (omega (arith, lt)) is same z.1 r in
      rw next ((z.0, rest.0), rest.1)

-- what holds of all at the start holds of the next
pub all-next : {X : Type 0} (P : X → Type 0) (xs ys : List X) (i : ℕ) (x : X) → All P xs → i < length ys → x ≡ get_or ys i x → drop i ys ≡ drop i xs → P x
all-next P xs [] i x all lt is same = absurd (omega (arith, lt))
all-next P [] (v ∷ ys) zero x all lt is same = absurd (cc)
all-next P (u ∷ xs) (v ∷ ys) zero x all lt is same = let e : x ≡ u = cc in subst P (sym e) (All-head P u xs all)
all-next P [] (v ∷ ys) (suc i) x all lt is same = absurd (let n : length (drop i ys) ≡ 0 = ap length same in let m = length-drop i ys in omega (arith, n, m, lt))
all-next P (u ∷ xs) (v ∷ ys) (suc i) x all lt is same = all-next P xs ys i x (All-tail P u xs all) (omega (arith, lt)) is same

-- one meeting: the pass has seen what the other has, and more
pub meets-one : (b : Barrier) (seen : History) (old mid new x y : BarrierPass) → Meets b seen old mid → IsBehind b seen x → Belongs b new × Belongs b y → (number_of new ≡ number_of mid) × (number_of y ≡ number_of x)
    → history_of new ≡ history_of y → history_of new ≡ longer (history_of mid) (history_of x) → (own_of new ≡ own_of mid) × (own_of y ≡ own_of x) → Meets b seen old new × Meets b seen x y
meets-one b seen old mid new x y m behind own numbers alike is mine =
    let same : history_of new ≡ seen = is ∙ (ap (λ (h : History). longer h (history_of x)) m.history ∙ longer_front seen (history_of x) behind.begins) in (
      record { own = own.0; number = numbers.0 ∙ m.number; history = same; mine = mine.0 ∙ m.mine },
      record { own = own.1; number = numbers.1; history = sym alike ∙ same; mine = mine.1 },
    )

-- before all meetings
pub meets-none : (b : Barrier) (p : BarrierPass) → Belongs b p → Meets b (history_of p) p p
meets-none b p own = record { own = own; number = refl; history = refl; mine = refl }

-- ---- around a call
-- who has seen what the pass had seen is behind it after a call
pub behind-call : (b : Barrier) (old mid : BarrierPass) (call : BarrierCall) (r : BarrierReply) (xs : List BarrierPass) → Called old mid call r → All (IsAlike b (history_of old)) xs → All (IsBehind b (history_of mid)) xs
behind-call b old mid call r xs called all = All-weaker (IsAlike b (history_of old)) (IsBehind b (history_of mid)) behind xs all
  where
    behind : (p : BarrierPass) → IsAlike b (history_of old) p → IsBehind b (history_of mid) p
    behind p is = record {
      own = is.own;
      begins = subst (StartsWith (history_of mid)) (sym is.history) (subst (λ (h : History). StartsWith h (history_of old)) (sym called.ends) (starts_snoc called.before (history_of old) (entry (number_of old) call r called.after ∷ []) called.begins));
    }

-- ---- among the passes of all callers
all-of : {X : Type 0} (P : X → Type 0) (xs : List X) → ((k : ℕ) (x : X) → get_elem? xs k ≡ some x → P x) → All P xs
all-of P [] f = All-nil P
all-of P (x ∷ xs) f = All-cons P x xs (f zero x refl) (all-of P xs (λ k y e. f (suc k) y e))

pub all-before : {X : Type 0} (P : X → Type 0) (xs : List X) (x : X) (ys : List X) → All P (xs ++ x ∷ ys) → All P xs
all-before P [] x ys all = All-nil P
all-before P (u ∷ xs) x ys all = All-cons P u xs (All-head P u (xs ++ x ∷ ys) all) (all-before P xs x ys (All-tail P u (xs ++ x ∷ ys) all))

pub all-after : {X : Type 0} (P : X → Type 0) (xs : List X) (x : X) (ys : List X) → All P (xs ++ x ∷ ys) → All P ys
all-after P [] x ys all = All-tail P x ys all
all-after P (u ∷ xs) x ys all = all-after P xs x ys (All-tail P u (xs ++ x ∷ ys) all)

pub get-middle : {X : Type 0} (xs : List X) (x : X) (ys : List X) → get_elem? (xs ++ x ∷ ys) (length xs) ≡ some x
get-middle [] x ys = refl
get-middle (u ∷ xs) x ys = get-middle xs x ys

zip-weaker : {X : Type 0} (R S : X → X → Type 0) → ((x y : X) → R x y → S x y) → (xs ys : List X) → AllZip R xs ys → AllZip S xs ys
zip-weaker R S f [] [] z = tt
zip-weaker R S f [] (v ∷ ys) z = absurd z
zip-weaker R S f (u ∷ xs) [] z = absurd z
zip-weaker R S f (u ∷ xs) (v ∷ ys) z = (f u v z.0, zip-weaker R S f xs ys z.1)

-- all passes have seen what this one has
pub all-alike : (b : Barrier) (xs : List BarrierPass) (seen : History) (k : ℕ) (p : BarrierPass) → AreAll b xs → HasSeen xs seen → get_elem? xs k ≡ some p → All (IsAlike b (history_of p)) xs
all-alike b xs seen k p all alike here = all-of (IsAlike b (history_of p)) xs (λ j x e. record { own = (all.each j x e).0; history = alike j x e ∙ sym (alike k p here) })

-- a call of the pass between these
pub among : (b : Barrier) (xs xs' ys ys' : List BarrierPass) (p mid new : BarrierPass) (call : BarrierCall) (r : BarrierReply) (n : ℕ) (seen : History) → AreAll b (xs ++ p ∷ ys) → HasSeen (xs ++ p ∷ ys) seen → length xs ≡ n
    → IsCalledAmong b p mid new xs xs' ys ys' call r
    → AreAll b (xs' ++ new ∷ ys') × HasSeen (xs' ++ new ∷ ys') (history_of mid) × BarrierLegal n (last_of nobody seen) call r (last_of nobody (history_of mid))
among b xs xs' ys ys' p mid new call r n seen all alike at is =
    let here : get_elem? (xs ++ p ∷ ys) n ≡ some p = subst (λ (k : ℕ). get_elem? (xs ++ p ∷ ys) k ≡ some p) at (get-middle xs p ys) in
    let own : Goes b (number_of p) (history_of mid) p new = record { own = is.pass.own; number = is.pass.number ∙ is.number; history = is.pass.history; mine = λ ne. absurd (ne refl) } in
    let weaker = zip-weaker (Meets b (history_of mid)) (Goes b (number_of p) (history_of mid)) (goes-other b (number_of p) (history_of mid)) in
    let zip = zip-middle (Goes b (number_of p) (history_of mid)) xs xs' p new ys ys' (weaker xs xs' is.those_before) own (weaker ys ys' is.those_after) in (
      still-all b (xs ++ p ∷ ys) (xs' ++ new ∷ ys') seen all alike n p mid here is.own is.number call r is.called zip,
      still-alike b (xs ++ p ∷ ys) (xs' ++ new ∷ ys') seen all alike n p mid here is.own is.number call r is.called zip,
      legal b (xs ++ p ∷ ys) (xs' ++ new ∷ ys') seen all alike n p mid here is.own is.number call r is.called zip,
    )

-- two meetings, one after the other
pub meets-twice : (b : Barrier) (h : History) (p q s : BarrierPass) → Meets b h p q → Meets b (history_of q) q s → Meets b h p s
meets-twice b h p q s m n = record { own = n.own; number = n.number ∙ m.number; history = n.history ∙ m.history; mine = n.mine ∙ m.mine }

-- after a call of a party, in range or not
pub still-party : (old new : Party) (caller : ℕ) → (s : BarrierState) × IsParty old s → (callers_of old.barrier ≤ caller → new ≡ old) → (caller < callers_of old.barrier → (t : BarrierState) × IsParty new t) → (t : BarrierState) × IsParty new t
still-party old new caller is out called = by (cases_lt caller (callers_of old.barrier))
  where
    by : (caller < callers_of old.barrier) ⊎ (callers_of old.barrier ≤ caller) → (t : BarrierState) × IsParty new t
    by (inl lt) = called lt
    by (inr le) = subst (λ (p : Party). (t : BarrierState) × IsParty p t) (sym (out le)) is

-- ---- the items of a vector whose slice was written
drop-whole : {X : Type 0} (n : ℕ) (xs : List X) → length xs ≤ n → drop n xs ≡ []
drop-whole zero [] le = refl
drop-whole zero (x ∷ xs) le = absurd (omega (arith, le))
drop-whole (suc n) [] le = refl
drop-whole (suc n) (x ∷ xs) le = drop-whole n xs (omega (arith, le))

append-nil : {X : Type 0} (xs : List X) → xs ++ [] ≡ xs
append-nil [] = refl
append-nil {X} (x ∷ xs) = ap (λ (l : List X). x ∷ l) (append-nil xs)

take-whole : {X : Type 0} (xs : List X) → take (length xs) xs ≡ xs
take-whole [] = refl
take-whole {X} (x ∷ xs) = ap (λ (l : List X). x ∷ l) (take-whole xs)

pub items-after : {X : Type 0} (old new : List X) (len : ℕ) → length new ≡ length old → len ≡ length old → take len (new ++ drop (length new) old) ≡ new
items-after {X} old new len long is =
    let none = drop-whole (length new) old (omega (arith, long)) in
    let whole : new ++ drop (length new) old ≡ new = ap (λ (l : List X). new ++ l) none ∙ append-nil new in
    ap (take len) whole ∙ (ap (λ (k : ℕ). take k new) (is ∙ sym long) ∙ take-whole new)
