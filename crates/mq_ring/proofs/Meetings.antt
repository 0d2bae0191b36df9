-- The rule allows a meeting of the ends, and what the joined ends are, over plain values.
use Rattle.std.proofs.Common.{◌≡◌, ℕ, suc, ◌+◌, ◌<◌, [], Option, Some, None, IfSome, sym, ap, subst, ◌∙◌, arith, length}
use Rattle.atomic_table.specs.Table.{Allows, Splits, Joins}
use Rattle.word_map.specs.WordMap.{WordMap, Has, at}
use Rattle.ring_rule.specs.Ring.{Sending, Receiving, AreEnds}
use Rattle.region_rule.specs.RingMap.{ring_map}
use Rattle.region_rule.specs.View.{View, Own, Sender, Receiver, Done, Spent}
use Rattle.region_rule.specs.Places.{idle, copying, out_of, IsIdle, IsCount, MayTake, Ruled}
use Rattle.region_rule.specs.Tells.{done_view, sender_again, receiver_again, TellsDone, TellsCount, TellsEnd}
use Rattle.region_rule.proofs.RingSteps.{join_ends_allowed, load_done_allowed, load_count_allowed, end_done_allowed, part_again_allowed}
use Rattle.region_rule.proofs.Allows.{begin_allows, restore_allows}
use Rattle.region_rule.proofs.Meets.{covers}
use Rattle.region_words.proofs.Seats.{Mine, idle_as}

pub join_allows : (count id other : ℕ) (mine yours : Mine) (s : Sending) (t : Option Receiving) (q : Receiving) (u : Option Sending) → IsIdle mine (Sender s t) → IsIdle yours (Receiver q u) → s.ring ≡ q.ring
    → Joins (Ruled count) id mine.0 other yours.0 (idle (done_view mine.0.view yours.0.view)) (idle Spent)
join_allows count id other mine yours s t q u e f same =
    subst (λ (x : Mine). Joins (Ruled count) id x.0 other yours.0 (idle (done_view x.0.view yours.0.view)) (idle Spent)) (sym e)
    (subst (λ (x : Mine). Joins (Ruled count) id (idle (Sender s t)) other x.0 (idle (done_view (Sender s t) x.0.view)) (idle Spent)) (sym f) (join_ends_allowed count id other s t q u same))

-- what the joined ends are
pub joined : (mine yours after : Mine) (s : Sending) (t : Option Receiving) (q : Receiving) (u : Option Sending) → IsIdle mine (Sender s t) → IsIdle yours (Receiver q u) → after ≡ (idle (done_view mine.0.view yours.0.view), mine.1)
    → IsIdle after (Done (ring_map s q) s q)
joined mine yours after s t q u e f g = g ∙ (λ i. (idle (done_view (e i).0.view (f i).0.view), (e i).1))

pub load_allows : (count slots id : ℕ) (me : Mine) (m : WordMap) (s : Sending) (q : Receiving) → 0 < count → IsIdle me (Done m s q)
    → Allows (Ruled count) slots id me 0 (λ n. n) (λ n after. TellsDone me.0.view after.0.view × IsIdle after after.0.view)
load_allows count slots id me m s q more e =
    subst (λ (x : Mine). Allows (Ruled count) slots id x 0 (λ n. n) (λ n after. TellsDone x.0.view after.0.view × IsIdle after after.0.view)) (sym e) (load_done_allowed count slots id 0 m s q more)

-- what the load tells
pub told : (me after : Mine) (m : WordMap) (s : Sending) (q : Receiving) → IsIdle me (Done m s q) → TellsDone me.0.view after.0.view × IsIdle after after.0.view → AreEnds s q × IsIdle after (Done m s q)
told me after m s q e h =
    let a : TellsDone (Done m s q) after.0.view = subst (λ (x : Mine). TellsDone x.0.view after.0.view) e h.0 in
    (a.0, idle_as after (Done m s q) h.1 a.1)

pub part_allows : (count id : ℕ) (me : Mine) (m : WordMap) (s : Sending) (q : Receiving) → IsIdle me (Done m s q) → Splits (Ruled count) id me.0 (idle (sender_again me.0.view)) (idle (receiver_again me.0.view))
part_allows count id me m s q e = subst (λ (x : Mine). Splits (Ruled count) id x.0 (idle (sender_again x.0.view)) (idle (receiver_again x.0.view))) (sym e) (part_again_allowed count id m s q)

-- THE JOINED ENDS COPY THEIR COUNTS AND THEIR FLAG BACK TO THE SLOTS
pub begin_allowed : (count slots id from : ℕ) (me : Mine) (m : WordMap) (s : Sending) (q : Receiving) → IsIdle me (Done m s q)
    → Allows (Ruled count) slots id me 0 (λ n. n) (λ n after. after ≡ (copying me.0.view from 0, []))
begin_allowed count slots id from me m s q e =
    subst (λ (x : Mine). Allows (Ruled count) slots id x 0 (λ n. n) (λ n after. after ≡ (copying x.0.view from 0, []))) (sym e) (begin_allows count slots id 0 from (Done m s q))

pub count_allows : (count slots id k : ℕ) (me : Mine) (m : WordMap) (s : Sending) (q : Receiving) (from n : ℕ) → me ≡ (copying (Done m s q) from n, []) → IsCount s.ring k → k < count
    → Allows (Ruled count) slots id me k (λ f. f) (λ f after. TellsCount me.0.view k f × (after ≡ me))
count_allows count slots id k me m s q from n e c inside =
    subst (λ (x : Mine). Allows (Ruled count) slots id x k (λ f. f) (λ f after. TellsCount x.0.view k f × (after ≡ x))) (sym e) (load_count_allowed count slots id k m s q from n c inside)

value_is : (o : Option ℕ) (x y : ℕ) → o ≡ Some x → IfSome o (λ z. z ≡ y) → o ≡ Some y
value_is (Some z) x y e h = ap Some h
value_is None x y e h = cc

-- the number that was found is the value of the ring's map
pub count_value : (me : Mine) (s : Sending) (q : Receiving) (from n k f : ℕ) → me ≡ (copying (Done (ring_map s q) s q) from n, []) → length s.cells ≡ s.ring.size → IsCount s.ring k → TellsCount me.0.view k f → at (ring_map s q) k ≡ Some f
count_value me s q from n k f e counted c h =
    let a = c.0 in
    let b = c.1 in
    let has : Has (ring_map s q) k = covers s q counted k (omega arith, omega arith) in
    value_is (at (ring_map s q) k) has.0 f has.1 (subst (λ (x : Mine). TellsCount x.0.view k f) e h)

pub may_restore : (me : Mine) (s : Sending) (q : Receiving) (from n k : ℕ) → me ≡ (copying (Done (ring_map s q) s q) from n, []) → length s.cells ≡ s.ring.size → IsCount s.ring k → MayTake me.0.view k
may_restore me s q from n k e counted c =
    let a = c.0 in
    let b = c.1 in
    subst (λ (x : Mine). MayTake x.0.view k) (sym e) (covers s q counted k (omega arith, omega arith))

pub restores : (count slots id k x y : ℕ) (me : Mine) (s : Sending) (q : Receiving) (from n : ℕ) → me ≡ (copying (Done (ring_map s q) s q) from n, []) → k ≡ from + n → at (ring_map s q) k ≡ Some y → k < count → slots ≡ count
    → Allows (Ruled count) slots id (out_of me.0 k x y) 0 (λ f. f) (λ f after. after ≡ (copying me.0.view me.0.from (suc me.0.copied), []))
restores count slots id k x y me s q from n e next value inside even =
    subst (λ (z : Mine). Allows (Ruled count) slots id (out_of z.0 k x y) 0 (λ f. f) (λ f after. after ≡ (copying z.0.view z.0.from (suc z.0.copied), []))) (sym e)
    (restore_allows count slots id 0 k x y (ring_map s q) s q from n next value inside even)

pub end_allows : (count slots id from : ℕ) (me : Mine) (m : WordMap) (s : Sending) (q : Receiving) → 0 < count → me ≡ (copying (Done m s q) from 3, []) → from ≡ s.ring.base
    → Allows (Ruled count) slots id me 0 (λ n. n) (λ n after. TellsEnd me.0.view after.0.view × IsIdle after after.0.view)
end_allows count slots id from me m s q more e is =
    subst (λ (x : Mine). Allows (Ruled count) slots id x 0 (λ n. n) (λ n after. TellsEnd x.0.view after.0.view × IsIdle after after.0.view)) (sym e)
    (subst (λ (b : ℕ). Allows (Ruled count) slots id (copying (Done m s q) b 3, []) 0 (λ n. n) (λ n after. TellsEnd (Done m s q) after.0.view × IsIdle after after.0.view)) (sym is)
    (end_done_allowed count slots id 0 m s q more))

pub ended : (from : ℕ) (me after : Mine) (m : WordMap) (s : Sending) (q : Receiving) → me ≡ (copying (Done m s q) from 3, []) → TellsEnd me.0.view after.0.view × IsIdle after after.0.view → IsIdle after (Own m None)
ended from me after m s q e h =
    let a : TellsEnd (Done m s q) after.0.view = subst (λ (x : Mine). TellsEnd x.0.view after.0.view) e h.0 in
    idle_as after (Own m None) h.1 a.1

-- a seat that is the same as before
pub now_as : (me now : Mine) (v : View) → me ≡ (copying v me.0.from me.0.copied, []) → now ≡ me → now ≡ (copying now.0.view now.0.from now.0.copied, [])
now_as me now v e same = subst (λ (z : Mine). z ≡ (copying z.0.view z.0.from z.0.copied, [])) (sym (same ∙ e)) Rattle.std.proofs.Common.refl

-- the seat that has copied one word more
abbrev next_of : Mine → Mine
next_of z = (copying z.0.view z.0.from (suc z.0.copied), [])

pub thrice : (me0 me1 me2 me3 me4 : Mine) (v : View) (from : ℕ) → IsIdle me0 v → me1 ≡ (copying me0.0.view from 0, []) → me2 ≡ (copying me1.0.view me1.0.from (suc me1.0.copied), []) → me3 ≡ (copying me2.0.view me2.0.from (suc me2.0.copied), [])
    → me4 ≡ (copying me3.0.view me3.0.from (suc me3.0.copied), []) → me4 ≡ (copying v from 3, [])
thrice me0 me1 me2 me3 me4 v from e0 e1 e2 e3 e4 = e4 ∙ ap next_of (e3 ∙ ap next_of (e2 ∙ ap next_of (e1 ∙ ap (λ (z : Mine). (copying z.0.view from 0, [])) e0)))
