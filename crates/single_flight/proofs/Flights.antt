-- What every history of a cell shows: the laws, who has the load, and what became of a load.
use Rattle.std.proofs.Common.{◌≡◌, ◌≢◌, ℕ, ◌==◌, Bool, true, false, cond, ◌&&◌, ◌||◌, List, [], ◌∷◌, ◌++◌, refl, sym, ap, ◌∙◌, subst, eq-eqb, ne_eqb}
use Rattle.std.specs.Prelude.{Option, Some}
use Rattle.std.specs.List.{list_any}
use native.Mathlib.Decide.{ℕ_discrete}
use mathlib.Core.Logic.{dite}
use Rattle.lock_book.specs.History.{IsLegal, calls_by, last_of}
use Rattle.lock_book.proofs.Uses.{legal_back, legal_front}
use Rattle.single_flight.specs.declared.history.CellState.{CellState}
use Rattle.single_flight.specs.declared.history.CellState.TheVariants.{Empty, Loading}
use Rattle.single_flight.specs.declared.history.CellCall.{CellCall}
use Rattle.single_flight.specs.declared.history.CellReply.{CellReply}
use Rattle.single_flight.specs.Cells.{MayCall}
use Rattle.single_flight.specs.Laws.{CellLegal, GetsWhatWasPut, LoadsAlone, LoadsOnce, Step, is_end, is_loss, is_removal, load_after, load_from, value_after, value_from}
use Rattle.single_flight.proofs.Steps.{IsOf, after-holds, content, content-step, empty-loading, ended-none, had-load, kept-some, loading-stays, none-some, of-step, put-none, put-some, value-there, yours-step}

pub or-parts : (a b : Bool) → (a || b) ≡ false → (a ≡ false) × (b ≡ false)
or-parts true b e = absurd (cc)
or-parts false b e = (refl, e)

module _ {V : Type 0} where
  -- calls that fit are legal as they are
  pub plain : (holds : V → Type 0) (s : CellState V) (es : List (Step V)) → IsLegal (MayCall holds) s es → IsLegal CellLegal s es
  plain holds s [] h = tt
  plain holds s (e ∷ es) h = (h.0.step, plain holds e.after es h.1)

  -- the value after a history
  pub content-all : (s : CellState V) (es : List (Step V)) → IsLegal CellLegal s es → content (last_of s es) ≡ value_from (content s) es
  content-all s [] h = refl
  content-all s (e ∷ es) h = content-all e.after es h.1 ∙ ap (λ (o : Option V). value_from o es) (content-step e.by s e.call e.reply e.after h.0)

  pub value-snoc : (o : Option V) (es : List (Step V)) (e : Step V) → value_from o (es ++ e ∷ []) ≡ value_after (value_from o es) e.call e.reply
  value-snoc o [] e = refl
  value-snoc o (x ∷ es) e = value-snoc (value_after o x.call x.reply) es e

  pub load-snoc : (o : Option ℕ) (es : List (Step V)) (e : Step V) → load_from o (es ++ e ∷ []) ≡ load_after (load_from o es) e.call e.reply
  load-snoc o [] e = refl
  load-snoc o (x ∷ es) e = load-snoc (load_after o x.call x.reply) es e

  -- each value that is there is one that holds
  pub holds-all : (holds : V → Type 0) (s : CellState V) (es : List (Step V)) → ((v : V) → content s ≡ Some v → holds v) → IsLegal (MayCall holds) s es → (v : V) → content (last_of s es) ≡ Some v → holds v
  holds-all holds s [] f h = f
  holds-all holds s (e ∷ es) f h = holds-all holds e.after es
      (λ v is. after-holds holds (content s) e.call e.reply f h.0.fits v (sym (content-step e.by s e.call e.reply e.after h.0.step) ∙ is))
      h.1

  some-all : (v : V) (es : List (Step V)) → list_any (λ y. is_removal y.call y.reply) es ≡ false → (w : V) × (value_from (Some v) es ≡ Some w)
  some-all v [] e = (v, refl)
  some-all v (x ∷ es) e =
      let p = or-parts (is_removal x.call x.reply) (list_any (λ (y : Step V). is_removal y.call y.reply) es) e in
      let k = kept-some v x.call x.reply p.0 in
      let rest = some-all k.0 es p.1 in
      (rest.0, ap (λ (o : Option V). value_from o es) k.1 ∙ rest.1)

  -- a load that is under way stays so, unless its caller ends it
  stays-all : (n load : ℕ) (s : CellState V) (es : List (Step V)) → s ≡ Loading load n → IsLegal CellLegal s es → list_any (λ y. (y.by == n) && is_end y.call y.reply) es ≡ false → last_of s es ≡ Loading load n
  stays-all n load s [] e h g = e
  stays-all n load s (x ∷ es) e h g =
      let p = or-parts ((x.by == n) && is_end x.call x.reply) (list_any (λ (y : Step V). (y.by == n) && is_end y.call y.reply) es) g in
      stays-all n load x.after es (loading-stays n x.by load x.call x.reply x.after (subst (λ (q : CellState V). CellLegal x.by q x.call x.reply x.after) e h.0) p.0) h.1 p.1

  -- the load of a number is under way, or its value there, while no load fails and no value is removed
  pub of-all : (load : ℕ) (s : CellState V) (es : List (Step V)) → IsOf load s → IsLegal CellLegal s es → list_any (λ y. is_loss y.call y.reply) es ≡ false → IsOf load (last_of s es)
  of-all load s [] i h g = i
  of-all load s (x ∷ es) i h g =
      let p = or-parts (is_loss x.call x.reply) (list_any (λ (y : Step V). is_loss y.call y.reply) es) g in
      of-all load x.after es (of-step load x.by s x.call x.reply x.after h.0 i p.0) h.1 p.1

pub loads_once : (V : Type 0) → LoadsOnce V
loads_once V front mid e x h pe px = by (list_any (λ (y : Step V). is_removal y.call y.reply) mid) refl
  where
    back : IsLegal CellLegal (last_of (Empty 0) front) (e ∷ (mid ++ x ∷ []))
    back = legal_back CellLegal (Empty 0) front (e ∷ (mid ++ x ∷ [])) h

    mid-legal : IsLegal CellLegal e.after mid
    mid-legal = legal_front CellLegal e.after mid (x ∷ []) back.1

    last : CellLegal x.by (last_of e.after mid) x.call x.reply x.after
    last = (legal_back CellLegal e.after mid (x ∷ []) back.1).0

    there : (v : V) × (content e.after ≡ Some v)
    there = let p = put-some e.call e.reply pe in (p.0, content-step e.by (last_of (Empty 0) front) e.call e.reply e.after back.0 ∙ p.1 (content (last_of (Empty 0) front)))

    by : (b : Bool) → list_any (λ (y : Step V). is_removal y.call y.reply) mid ≡ b → list_any (λ (y : Step V). is_removal y.call y.reply) mid ≡ true
    by true q = q
    by false q =
        let k = some-all there.0 mid q in
        absurd (none-some (content (last_of e.after mid)) k.0 (put-none x.by (last_of e.after mid) x.call x.reply x.after last px) (content-all e.after mid mid-legal ∙ (ap (λ (o : Option V). value_from o mid) there.1 ∙ k.1)))

pub loads_alone : (V : Type 0) → LoadsAlone V
loads_alone V front mid e x load number h le lx = by (list_any (λ (y : Step V). (y.by == e.by) && is_end y.call y.reply) mid) refl
  where
    back : IsLegal CellLegal (last_of (Empty 0) front) (e ∷ (mid ++ x ∷ []))
    back = legal_back CellLegal (Empty 0) front (e ∷ (mid ++ x ∷ [])) h

    by : (b : Bool) → list_any (λ (y : Step V). (y.by == e.by) && is_end y.call y.reply) mid ≡ b → list_any (λ (y : Step V). (y.by == e.by) && is_end y.call y.reply) mid ≡ true
    by true q = q
    by false q =
        let on = (yours-step e.by (last_of (Empty 0) front) e.call e.reply e.after load back.0 le).1 in
        let still = stays-all e.by load e.after mid on (legal_front CellLegal e.after mid (x ∷ []) back.1) q in
        absurd (empty-loading number load e.by (last_of e.after mid) (yours-step x.by (last_of e.after mid) x.call x.reply x.after number (legal_back CellLegal e.after mid (x ∷ []) back.1).0 lx).0 still)

pub gets_what_was_put : (V : Type 0) → GetsWhatWasPut V
gets_what_was_put V front e v h is =
    let step : CellLegal e.by (last_of (Empty 0) front) e.call e.reply e.after = (legal_back CellLegal (Empty 0) front (e ∷ []) h).0 in
    sym (content-all (Empty 0) front (legal_front CellLegal (Empty 0) front (e ∷ []) h))
    ∙ value-there e.by (last_of (Empty 0) front) e.call v e.after (subst (λ (r : CellReply V). CellLegal e.by (last_of (Empty 0) front) e.call r e.after) is step)

module _ {V : Type 0} (n : ℕ) where
  own-load : (s : CellState V) (c : CellCall V) (r : CellReply V) (t : CellState V) (o : Option ℕ) (k : ℕ) → CellLegal n s c r t → (o ≡ Some k → s ≡ Loading k n) → load_after o c r ≡ Some k → t ≡ Loading k n
  own-load s c r t o k h has e = had-load (t ≡ Loading k n) o k c r e
      (λ is. (yours-step n s c r t k h is).1)
      (λ old. loading-stays n n k c r t (subst (λ (q : CellState V). CellLegal n q c r t) (has old) h) (by (is_end c r) refl))
    where
      by : (q : Bool) → is_end c r ≡ q → ((n == n) && is_end c r) ≡ false
      by true f = absurd (none-some (load_after o c r) k (ended-none o c r f) e)
      by false f = ap (λ (z : Bool × Bool). z.0 && z.1) (λ i. (eq-eqb n n refl i, f i))

  other-load : (m : ℕ) → m ≢ n → (s : CellState V) (c : CellCall V) (r : CellReply V) (t : CellState V) (k : ℕ) → CellLegal m s c r t → s ≡ Loading k n → t ≡ Loading k n
  other-load m ne s c r t k h l = loading-stays n m k c r t (subst (λ (q : CellState V). CellLegal m q c r t) l h) (ap (λ (b : Bool). b && is_end c r) (ne_eqb m n ne))

  own-next : (e : Step V) (es : List (Step V)) (o : Option ℕ) → e.by ≡ n → load_from o (calls_by n (e ∷ es)) ≡ load_from (load_after o e.call e.reply) (calls_by n es)
  own-next e es o is = ap (λ (q : Bool). load_from o (cond q (e ∷ calls_by n es) (calls_by n es))) (eq-eqb e.by n is)

  other-next : (e : Step V) (es : List (Step V)) (o : Option ℕ) → e.by ≢ n → load_from o (calls_by n (e ∷ es)) ≡ load_from o (calls_by n es)
  other-next e es o ne = ap (λ (q : Bool). load_from o (cond q (e ∷ calls_by n es) (calls_by n es))) (ne_eqb e.by n ne)

  -- a caller that has a load by its own calls has it in the cell
  pub load-all : (s : CellState V) (es : List (Step V)) (o : Option ℕ) (k : ℕ) → IsLegal CellLegal s es → ((j : ℕ) → o ≡ Some j → s ≡ Loading j n) → load_from o (calls_by n es) ≡ Some k → last_of s es ≡ Loading k n
  load-all s [] o k h has e = has k e
  load-all s (x ∷ es) o k h has e = dite (ℕ_discrete x.by n)
      (λ is. load-all x.after es (load_after o x.call x.reply) k h.1 (λ j q. own-load s x.call x.reply x.after o j (subst (λ (m : ℕ). CellLegal m s x.call x.reply x.after) is h.0) (has j) q) (sym (own-next x es o is) ∙ e))
      (λ ne. load-all x.after es o k h.1 (λ j q. other-load x.by ne s x.call x.reply x.after j h.0 (has j q)) (sym (other-next x es o ne) ∙ e))
