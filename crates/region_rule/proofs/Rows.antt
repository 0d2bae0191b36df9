-- What a table asks of the steps that take a row of slots out and give it back: as many events of the region as the row
-- has words.
use Rattle.std.proofs.Common.{◌≡◌, ◌≢◌, ℕ, zero, suc, ◌+◌, ◌<◌, ◌≤◌, List, [], ◌∷◌, ◌++◌, set, length, false, Option, refl, sym, ap, subst, ◌∙◌, arith, length-set, length-append, append_assoc}
use Rattle.std.specs.List.{AllByRecursion, fold}
use mathlib.Core.Option as opt
use mathlib.Core.Option.{some}
use mathlib.Core.Logic.{dite}
use native.Mathlib.Decide.{ℕ_discrete}
use lib.ListN.{get_elem?}
use Rattle.atomic_table.specs.Table.{State, Act, Allows, Valid, keeps, takes as takes_out, gives, chain, carried_after, homes_after}
use Rattle.atomic_table.proofs.Lists.{set_here, set_else, set_again}
use Rattle.ring_rule.specs.Frames.{IsFramed}
use Rattle.ring_rule.specs.Ring.{Ring, IsRing, Sending, Receiving, place_of}
use Rattle.ring_rule.specs.Ends.{puts, takes}
use Rattle.ring_rule.proofs.Stored.{in_list}
use Rattle.ring_rule.proofs.Messages.{framed_front}
use Rattle.region_rule.specs.View.{View, Sender, Receiver}
use Rattle.region_rule.specs.Steps.{StoreData, LoadData, written_anew}
use Rattle.region_rule.specs.Places.{Token, idle, holding, row, row_out, values, IsCell, InSlot, MayTake, MayHave, Clear, Ruled}
use Rattle.region_rule.specs.Tells.{TellsPutRow, TellsTakeRow}
use Rattle.region_rule.proofs.Allows.{set_same, takes_one, loads_one, stores_one}
use Rattle.region_rule.proofs.RingSteps.{next_is_cell, take_event}

set_twice : {A : Type 0} (l : List A) (i : ℕ) (a b : A) → set (set l i a) i b ≡ set l i b
set_twice [] i a b = refl
set_twice (x ∷ xs) zero a b = refl
set_twice (x ∷ xs) (suc i) a b = ap (λ l. x ∷ l) (set_twice xs i a b)

-- the places of a row lie behind its beginning
row_clear : (at k : ℕ) (xs : List ℕ) → k < at → Clear (row at xs) k
row_clear at k [] low = tt
row_clear at k (x ∷ xs) low = ((λ e. omega arith), row_clear (at + 1) k xs (omega arith))

pub row_values : (at : ℕ) (xs : List ℕ) → values (row at xs) ≡ xs
row_values at [] = refl
row_values at (x ∷ xs) = ap (λ l. x ∷ l) (row_values (at + 1) xs)

-- A ROW IS TAKEN OUT, its last slot first
abbrev row_act : ℕ → List ℕ → Act ℕ
row_act at [] = keeps
row_act at (x ∷ xs) = chain (row_act (at + 1) xs) (takes_out at x)

row_carried : (at : ℕ) (xs : List ℕ) → carried_after [] (row_act at xs) ≡ row at xs
row_carried at [] = refl
row_carried at (x ∷ xs) = ap (λ l. (at, x) ∷ l) (row_carried (at + 1) xs)

takes_row : (count id : ℕ) (u : View) (len at : ℕ) (s : State ℕ Token) → Ruled count s → get_elem? s.views id ≡ some (idle u) → ((k : ℕ) → at ≤ k → k < at + len → MayTake u k) → at + len ≤ count
    → (xs : List ℕ) × (length xs ≡ len) × Valid s.homes [] (row_act at xs) × Ruled count record { words = s.words; homes = homes_after s.homes [] (row_act at xs); views = set s.views id (holding u (row at xs) 0 0) }
takes_row count id u zero at s r here may inside = ([], refl, tt, subst (λ (ts : List Token). Ruled count record { words = s.words; homes = s.homes; views = ts }) (sym (set_again s.views id (idle u) here)) r)
takes_row count id u (suc len) at s r here may inside =
    let g = takes_row count id u len (at + 1) s r here (λ k low high. may k (omega arith) (omega arith)) (omega arith) in
    let xs : List ℕ = g.0 in
    let h : Token = holding u (row (at + 1) xs) 0 0 in
    let t : State ℕ Token = record { words = s.words; homes = homes_after s.homes [] (row_act (at + 1) xs); views = set s.views id h } in
    let one = takes_one count id at u (row (at + 1) xs) 0 0 t g.3 (set_here s.views id h (in_list s.views id (idle u) here)) (may at (omega arith) (omega arith)) (omega arith)
    (row_clear (at + 1) at xs (omega arith)) (λ a b. omega arith) in (
      one.0 ∷ xs,
      ap suc g.1,
      (g.2, one.1),
      subst (λ (ts : List Token). Ruled count record { words = s.words; homes = set t.homes at opt.none; views = ts }) (set_twice s.views id h (holding u ((at, one.0) ∷ row (at + 1) xs) 0 0)) one.2,
    )

pub take_row_allows : (count slots id i at len : ℕ) (u : View) → ((k : ℕ) → at ≤ k → k < at + len → MayTake u k) → at + len ≤ count
    → Allows (Ruled count) slots id (idle u, []) i (λ f. f) (λ f after. (xs : List ℕ) × (length xs ≡ len) × (after ≡ row_out u at xs xs))
take_row_allows count slots id i at len u may inside s r more here fits =
    let g = takes_row count id u len at s r here may inside in
    let xs : List ℕ = g.0 in (
      holding u (row at xs) 0 0,
      row_act at xs,
      g.2,
      subst (λ (ws : List ℕ). Ruled count record { words = ws; homes = homes_after s.homes [] (row_act at xs); views = set s.views id (holding u (row at xs) 0 0) }) (sym (set_same s.words i)) g.3,
      (xs, g.1, ap (λ l. (holding u (row at xs) 0 0, l)) (row_carried at xs)),
    )

-- A ROW IS GIVEN BACK, its first slot first
abbrev back_act : List ℕ → Act ℕ
back_act [] = keeps
back_act (y ∷ ys) = chain gives (back_act ys)

back_valid : (at : ℕ) (hs : List (opt.Option ℕ)) (ys : List ℕ) → Valid hs (row at ys) (back_act ys)
back_valid at hs [] = tt
back_valid at hs (y ∷ ys) = (tt, back_valid (at + 1) (set hs at (some y)) ys)

back_carried : (at : ℕ) (ys : List ℕ) → carried_after (row at ys) (back_act ys) ≡ []
back_carried at [] = refl
back_carried at (y ∷ ys) = back_carried (at + 1) ys

-- the slots of a row that are still out, after a step at the place in front of them
still_has : (words words' : List ℕ) (u v : View) (k : ℕ) (out : List (ℕ × ℕ)) → ((q : ℕ) → q ≢ k → MayTake u q → MayTake v q) → ((q x : ℕ) → q ≢ k → get_elem? words q ≡ some x → get_elem? words' q ≡ some x)
    → ((q : ℕ) → InSlot v q → InSlot u q) → Clear out k → AllByRecursion (MayHave words u) out → AllByRecursion (MayHave words' v) out
still_has words words' u v k [] may same slot c a = tt
still_has words words' u v k (p ∷ ps) may same slot c a =
    ((may p.0 c.0 a.0.0, λ z. same p.0 p.1 c.0 (a.0.1 (slot p.0 z))), still_has words words' u v k ps may same slot c.1 a.1)

-- the cells from this place on are those of the next words
abbrev pub AreNext : Ring → ℕ → ℕ → ℕ → Type 0
AreNext r n at len = (i : ℕ) → i < len → place_of r (n + i) ≡ at + i

first_place : (r : Ring) (n at len : ℕ) → 0 < len → AreNext r n at len → place_of r n ≡ at
first_place r n at len more next =
    let a : n ≡ n + 0 = omega arith in
    let b : at + 0 ≡ at = omega arith in
    ap (place_of r) a ∙ next 0 more ∙ b

next_places : (r : Ring) (n m at len : ℕ) → m ≡ n + 1 → AreNext r n at (suc len) → AreNext r m (at + 1) len
next_places r n m at len is next i low =
    let a : m + i ≡ n + (i + 1) = omega arith in
    let b : at + (i + 1) ≡ at + 1 + i = omega arith in
    ap (place_of r) a ∙ next (i + 1) (omega arith) ∙ b

-- THE SENDER: it has room for the words, and the row's places are those of their cells
pub record CanPut (count : ℕ) (s : Sending) (at : ℕ) (ys : List ℕ) : Type 0 where
  pub ring : IsRing s.ring
  pub stays : s.gone ≡ false
  pub room : length s.put + length ys ≤ s.room + s.ring.size
  pub framed : IsFramed s.ring.max (s.put ++ ys)
  pub small : AllByRecursion (λ y. y < 18446744073709551616) ys
  pub next : AreNext s.ring (length s.put) at (length ys)
  pub inside : at + length ys ≤ count

first_framed : (max y : ℕ) (put ys : List ℕ) → IsFramed max (put ++ y ∷ ys) → IsFramed max (put ++ y ∷ [])
first_framed max y put ys f = framed_front max (put ++ y ∷ ys) (put ++ y ∷ []) ys f (sym (append_assoc put (y ∷ []) ys))

can_put_more : (count : ℕ) (s : Sending) (at y : ℕ) (ys : List ℕ) → CanPut count s at (y ∷ ys) → CanPut count (puts s y) (at + 1) ys
can_put_more count s at y ys c =
    let long : length (s.put ++ y ∷ []) ≡ length s.put + 1 = length-append s.put (y ∷ []) in
    let room = c.room in
    let inside = c.inside in
    record {
      ring = c.ring;
      stays = c.stays;
      room = omega arith;
      framed = subst (IsFramed s.ring.max) (sym (append_assoc s.put (y ∷ []) ys)) c.framed;
      small = c.small.1;
      next = next_places s.ring (length s.put) (length (s.put ++ y ∷ [])) at (length ys) long c.next;
      inside = omega arith;
    }

still_may_put : (s : Sending) (t : Option Receiving) (y at : ℕ) → place_of s.ring (length s.put) ≡ at → (q : ℕ) → q ≢ at → MayTake (Sender s t) q → MayTake (Sender (puts s y) t) q
still_may_put s t y at place q other m = dite (ℕ_discrete m.0 (length s.put))
    (λ (e : m.0 ≡ length s.put). absurd (other (m.1 ∙ ap (place_of s.ring) e ∙ place)))
    (λ (e : m.0 ≢ length s.put).
    let long : length (s.put ++ y ∷ []) ≡ length s.put + 1 = length-append s.put (y ∷ []) in
    let low = m.2 in
    (m.0, m.1, omega arith, m.3))

puts_row : (count id : ℕ) (t : Option Receiving) (ys xs : List ℕ) (at : ℕ) (d : Sending) (s : State ℕ Token) → CanPut count d at ys → length xs ≡ length ys → Ruled count s → length s.homes ≡ count → get_elem? s.views id ≡ some (holding (Sender d t) (row at xs) 0 0)
    → Ruled count record { words = s.words; homes = homes_after s.homes (row at ys) (back_act ys); views = set s.views id (idle (Sender (fold puts d ys) t)) }
puts_row count id t [] [] at d s can even r wide here = subst (λ (ts : List Token). Ruled count record { words = s.words; homes = s.homes; views = ts }) (sym (set_again s.views id (idle (Sender d t)) here)) r
puts_row count id t [] (x ∷ xs) at d s can even r wide here = absurd (omega arith)
puts_row count id t (y ∷ ys) [] at d s can even r wide here = absurd (omega arith)
puts_row count id t (y ∷ ys) (x ∷ xs) at d s can even r wide here =
    let place : place_of d.ring (length d.put) ≡ at = first_place d.ring (length d.put) at (suc (length ys)) (omega arith) can.next in
    let room = can.room in
    let inside = can.inside in
    let cell : IsCell d.ring at = subst (IsCell d.ring) place (next_is_cell d.ring (length d.put) can.ring) in
    let clear = row_clear (at + 1) at xs (omega arith) in
    let one = stores_one count id at x y (Sender d t) (row (at + 1) xs) (λ v. v ≡ Sender (puts d y) t) s r wide here cell (omega arith)
    (λ w sound sees. (
      Sender (puts d y) t,
      StoreData id y,
      (d, t, sees, can.stays, omega arith, first_framed d.ring.max y d.put ys can.framed, can.small.0, ap (λ k. written_anew w k y id (Sender (puts d y) t)) (sym place)),
      (λ q c. c, λ q c. c),
      still_has w.words (set w.words at y) (Sender d t) (Sender (puts d y) t) at (row (at + 1) xs) (still_may_put d t y at place) (λ q z n e. set_else w.words at q y n ∙ e) (λ q c. c) clear,
      refl,
    )) in
    let h : Token = holding (Sender (puts d y) t) (row (at + 1) xs) 0 0 in
    let s1 : State ℕ Token = record { words = s.words; homes = set s.homes at (some y); views = set s.views id h } in
    let r1 : Ruled count s1 = subst (λ (v : View). Ruled count record { words = s.words; homes = set s.homes at (some y); views = set s.views id (holding v (row (at + 1) xs) 0 0) }) one.1 one.2 in
    let more = puts_row count id t ys xs (at + 1) (puts d y) s1 (can_put_more count d at y ys can) (omega arith) r1 (length-set {A = opt.Option ℕ} s.homes at (some y) ∙ wide) (set_here s.views id h (in_list s.views id _ here)) in
    subst (λ (ts : List Token). Ruled count record { words = s.words; homes = homes_after (set s.homes at (some y)) (row (at + 1) ys) (back_act ys); views = ts }) (set_twice s.views id h (idle (Sender (fold puts (puts d y) ys) t))) more

pub put_row_allows : (count slots id i at : ℕ) (xs ys : List ℕ) (d : Sending) (t : Option Receiving) → CanPut count d at ys → length xs ≡ length ys → slots ≡ count
    → Allows (Ruled count) slots id (row_out (Sender d t) at xs ys) i (λ f. f) (λ f after. TellsPutRow (Sender d t) (values (row at ys)) after.0.view × (after ≡ (idle after.0.view, [])))
put_row_allows count slots id i at xs ys d t can same even s r more here fits = (
  idle (Sender (fold puts d ys) t),
  back_act ys,
  back_valid at s.homes ys,
  subst (λ (ws : List ℕ). Ruled count record { words = ws; homes = homes_after s.homes (row at ys) (back_act ys); views = set s.views id (idle (Sender (fold puts d ys) t)) }) (sym (set_same s.words i))
      (puts_row count id t ys xs at d s can same r (more ∙ even) here),
  (ap (λ l. Sender (fold puts d l) t) (sym (row_values at ys)), ap (λ l. (idle (Sender (fold puts d ys) t), l)) (back_carried at ys)),
)

-- THE RECEIVER: it has seen the words, and the row's places are those of their cells
pub record CanTake (count : ℕ) (q : Receiving) (at len : ℕ) : Type 0 where
  pub ring : IsRing q.ring
  pub stays : q.gone ≡ false
  pub ready : length q.taken + len ≤ q.avail
  pub next : AreNext q.ring (length q.taken) at len
  pub inside : at + len ≤ count

can_take_more : (count : ℕ) (q : Receiving) (at len x : ℕ) → CanTake count q at (suc len) → CanTake count (takes q x) (at + 1) len
can_take_more count q at len x c =
    let long : length (q.taken ++ x ∷ []) ≡ length q.taken + 1 = length-append q.taken (x ∷ []) in
    let ready = c.ready in
    let inside = c.inside in
    record {
      ring = c.ring;
      stays = c.stays;
      ready = omega arith;
      next = next_places q.ring (length q.taken) (length (q.taken ++ x ∷ [])) at len long c.next;
      inside = omega arith;
    }

still_may_take : (q : Receiving) (u : Option Sending) (x at : ℕ) → place_of q.ring (length q.taken) ≡ at → (k : ℕ) → k ≢ at → MayTake (Receiver q u) k → MayTake (Receiver (takes q x) u) k
still_may_take q u x at place k other m = dite (ℕ_discrete m.0 (length q.taken))
    (λ (e : m.0 ≡ length q.taken). absurd (other (m.1 ∙ ap (place_of q.ring) e ∙ place)))
    (λ (e : m.0 ≢ length q.taken).
    let long : length (q.taken ++ x ∷ []) ≡ length q.taken + 1 = length-append q.taken (x ∷ []) in
    let low = m.2 in
    (m.0, m.1, omega arith, m.3))

-- what is taken by and by is framed if it is at the end
framed_so : (max x : ℕ) (taken xs : List ℕ) → IsFramed max (taken ++ x ∷ []) → (0 < length xs → IsFramed max ((taken ++ x ∷ []) ++ xs)) → IsFramed max (taken ++ x ∷ xs)
framed_so max x taken [] one more = one
framed_so max x taken (z ∷ zs) one more = subst (IsFramed max) (append_assoc taken (x ∷ []) (z ∷ zs)) (more (omega arith))

takes_back : (count id : ℕ) (u : Option Sending) (xs : List ℕ) (at : ℕ) (q : Receiving) (s : State ℕ Token) → CanTake count q at (length xs) → Ruled count s → length s.homes ≡ count → get_elem? s.views id ≡ some (holding (Receiver q u) (row at xs) 0 0)
    → (0 < length xs → IsFramed q.ring.max (q.taken ++ xs)) × Ruled count record { words = s.words; homes = homes_after s.homes (row at xs) (back_act xs); views = set s.views id (idle (Receiver (fold takes q xs) u)) }
takes_back count id u [] at q s can r wide here = (
  (λ low. absurd (omega arith)),
  subst (λ (ts : List Token). Ruled count record { words = s.words; homes = s.homes; views = ts }) (sym (set_again s.views id (idle (Receiver q u)) here)) r,
)
takes_back count id u (x ∷ xs) at q s can r wide here =
    let place : place_of q.ring (length q.taken) ≡ at = first_place q.ring (length q.taken) at (suc (length xs)) (omega arith) can.next in
    let ready = can.ready in
    let inside = can.inside in
    let cell : IsCell q.ring at = subst (IsCell q.ring) place (next_is_cell q.ring (length q.taken) can.ring) in
    let clear = row_clear (at + 1) at xs (omega arith) in
    let one = loads_one count id at x (Receiver q u) (row (at + 1) xs) (λ v. (v ≡ Receiver (takes q x) u) × IsFramed q.ring.max (q.taken ++ x ∷ [])) s r wide here cell (omega arith)
    (λ w sound sees found.
    let e = take_event w id x q u can.stays (omega arith) sound sees (subst (λ k. get_elem? w.words k ≡ some x) (sym place) found) in (
      Receiver (takes q x) u,
      LoadData id x,
      e.0,
      (λ k c. c, λ k c. c),
      still_has w.words w.words (Receiver q u) (Receiver (takes q x) u) at (row (at + 1) xs) (still_may_take q u x at place) (λ k z n f. f) (λ k c. c) clear,
      (refl, e.1),
    )) in
    let h : Token = holding (Receiver (takes q x) u) (row (at + 1) xs) 0 0 in
    let s1 : State ℕ Token = record { words = s.words; homes = set s.homes at (some x); views = set s.views id h } in
    let r1 : Ruled count s1 = subst (λ (v : View). Ruled count record { words = s.words; homes = set s.homes at (some x); views = set s.views id (holding v (row (at + 1) xs) 0 0) }) one.1.0 one.2 in
    let more = takes_back count id u xs (at + 1) (takes q x) s1 (can_take_more count q at (length xs) x can) r1 (length-set {A = opt.Option ℕ} s.homes at (some x) ∙ wide) (set_here s.views id h (in_list s.views id _ here)) in (
      (λ low. framed_so q.ring.max x q.taken xs one.1.1 more.0),
      subst (λ (ts : List Token). Ruled count record { words = s.words; homes = homes_after (set s.homes at (some x)) (row (at + 1) xs) (back_act xs); views = ts }) (set_twice s.views id h (idle (Receiver (fold takes (takes q x) xs) u))) more.1,
    )

pub take_back_allows : (count slots id i at : ℕ) (xs : List ℕ) (q : Receiving) (u : Option Sending) → CanTake count q at (length xs) → slots ≡ count
    → Allows (Ruled count) slots id (row_out (Receiver q u) at xs xs) i (λ f. f) (λ f after. TellsTakeRow (Receiver q u) (values (row at xs)) after.0.view × (after ≡ (idle after.0.view, [])))
take_back_allows count slots id i at xs q u can even s r more here fits =
    let g = takes_back count id u xs at q s can r (more ∙ even) here in (
      idle (Receiver (fold takes q xs) u),
      back_act xs,
      back_valid at s.homes xs,
      subst (λ (ws : List ℕ). Ruled count record { words = ws; homes = homes_after s.homes (row at xs) (back_act xs); views = set s.views id (idle (Receiver (fold takes q xs) u)) }) (sym (set_same s.words i)) g.1,
      (
        subst (λ l. (Receiver (fold takes q xs) u ≡ Receiver (fold takes q l) u) × (0 < length l → IsFramed q.ring.max (q.taken ++ l))) (sym (row_values at xs)) (refl, g.0),
        ap (λ l. (idle (Receiver (fold takes q xs) u), l)) (back_carried at xs),
      ),
    )
