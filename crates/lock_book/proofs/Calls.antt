-- A whole turn, put together from its moves.
use Rattle.std.proofs.Common.{◌≡◌, ◌≢◌, ℕ, List, [], ◌∷◌, ◌++◌, sym, refl, ap, ◌∙◌, subst, arith, append_assoc, append-nil}
use mathlib.Core.Option.{some}
use lib.ListN.{get_elem?}
use Rattle.atomic_table.specs.Table.{Me}
use Rattle.lock_book.specs.declared.view.Entry.{Entry}
use Rattle.lock_book.specs.declared.view.Stage.TheVariants.{Holding}
use Rattle.lock_book.specs.declared.view.View.{View}
use Rattle.lock_book.specs.History.{entry, last_of, calls_by, AreBy, IsLegal, row_at}
use Rattle.lock_book.specs.Ruled.{mine_at, seen_at, seeing, served, Fits, Taken, IsSame}
use Rattle.lock_book.specs.Told.{IsPass, Adds}
use Rattle.lock_book.proofs.Histories.{legal_snoc, legal-append, last_snoc, last-append, by_snoc, calls_by_all, calls_by_others, calls_at_all, calls_at_others, row_here, row_else, at_place}

module _ {N S C R : Type 0} (legal : N → ℕ → S → C → R → S → Type 0) where
  -- the seat v, which has the value, gives it back after these calls
  module _ (v : View N S C R) (at : ℕ) (es : List (Entry S C R)) where
    abbrev w : View N S C R
    w = served v at es

    pub seen_here : seen_at w at ≡ seen_at v at ++ es
    seen_here = row_here v.seen at (seen_at v at ++ es)

    pub seen_else : (j : ℕ) → j ≢ at → seen_at w j ≡ seen_at v j
    seen_else j ne = row_else v.seen at j (seen_at v at ++ es) ne

    pub mine_here : mine_at w 0 at ≡ mine_at v 0 at ++ es
    mine_here = calls_at_all at (row_at v.owns 0) es

    pub mine_else : (j : ℕ) → j ≢ at → mine_at w 0 j ≡ mine_at v 0 j
    mine_else j ne = calls_at_others j at (row_at v.owns 0) es (λ z. ne (sym z))

    -- what is always true of a pass is true again after calls that are legal there
    pub served_stands : (opens : List (N × S)) (callers : ℕ) → AreBy v.from es → ((o : N × S) → get_elem? opens at ≡ some o → IsLegal (legal o.0) (last_of o.1 (seen_at v at)) es)
        → IsPass legal opens callers v.from (seen_at v) (mine_at v 0) → IsPass legal opens callers v.from (seen_at w) (mine_at w 0)
    served_stands opens callers by steps h = record {
      below = h.below;
      lawful = at_place (λ (i : ℕ). (o : N × S) → get_elem? opens i ≡ some o → IsLegal (legal o.0) o.1 (seen_at w i)) at
          (λ o eo. subst (IsLegal (legal o.0) o.1) (sym seen_here) (legal-append (legal o.0) o.1 (seen_at v at) es (h.lawful at o eo) (steps o eo)))
          (λ i ne o eo. subst (IsLegal (legal o.0) o.1) (sym (seen_else i ne)) (h.lawful i o eo));
      own = at_place (λ (i : ℕ). calls_by v.from (seen_at w i) ≡ mine_at w 0 i) at
          (ap (calls_by v.from) seen_here ∙ (calls_by_all v.from (seen_at v at) es by ∙ (ap (λ (x : List (Entry S C R)). x ++ es) (h.own at) ∙ sym mine_here)))
          (λ i ne. ap (calls_by v.from) (seen_else i ne) ∙ (h.own i ∙ sym (mine_else i ne)));
      bounded = λ i n hi. at_place (λ (i : ℕ). calls_by n (seen_at w i) ≡ []) at
          (ap (calls_by n) seen_here ∙ (calls_by_others n v.from (seen_at v at) es by (λ same. let low = h.below in absurd (omega arith)) ∙ h.bounded at n hi))
          (λ i ne. ap (calls_by n) (seen_else i ne) ∙ h.bounded i n hi) i;
    }

-- a slot that fits, and one with one more call
module _ {X N S C R : Type 0} (slot_name : X → N) (slot_state : X → S) (legal : N → ℕ → S → C → R → S → Type 0) (made : X → List (Entry S C R)) (v : View N S C R) (at : ℕ) where
  abbrev Fit : X → Type 0
  Fit = Fits slot_name slot_state legal made v at

  pub fits_none : (x : X) → made x ≡ [] → ((o : N × S) → get_elem? v.opens at ≡ some o → (slot_name x ≡ o.0) × (slot_state x ≡ last_of o.1 (seen_at v at))) → Fit x
  fits_none x none known = record {
    by = subst (AreBy v.from) (sym none) tt;
    each = λ o eo. let k = known o eo in (
      k.0,
      subst (IsLegal (legal o.0) (last_of o.1 (seen_at v at))) (sym none) tt,
      k.1 ∙ ap (last_of o.1) (sym (append-nil (seen_at v at)) ∙ ap (λ (m : List (Entry S C R)). seen_at v at ++ m) (sym none)),
    );
  }

  module _ (x : X) (fits : Fit x) (c : C) (r : R) (a : S) (h : legal (slot_name x) v.from (slot_state x) c r a) where
    -- the call is legal right after those before it
    pub step_of : (o : N × S) → get_elem? v.opens at ≡ some o → legal o.0 v.from (last_of o.1 (seen_at v at ++ made x)) c r a
    step_of o eo = let f = fits.each o eo in subst (λ (s : S). legal o.0 v.from s c r a) f.2 (subst (λ (z : N). legal z v.from (slot_state x) c r a) f.0 h)

    pub fits_more : (y : X) → slot_name y ≡ slot_name x → slot_state y ≡ a → made y ≡ made x ++ entry v.from c r a ∷ [] → Fit y
    fits_more y same state more =
        let e : Entry S C R = entry v.from c r a in
        let seen : List (Entry S C R) = seen_at v at in record {
          by = subst (AreBy v.from) (sym more) (by_snoc v.from (made x) e fits.by refl);
          each = λ o eo. let f = fits.each o eo in (
            same ∙ f.0,
            subst (IsLegal (legal o.0) (last_of o.1 seen)) (sym more)
                (legal_snoc (legal o.0) (last_of o.1 seen) (made x) v.from c r a f.1 (subst (λ (s : S). legal o.0 v.from s c r a) (last-append o.1 seen (made x)) (step_of o eo))),
            state ∙ sym (ap (λ (m : List (Entry S C R)). last_of o.1 (seen ++ m)) more ∙ (ap (last_of o.1) (sym (append_assoc seen (made x) (e ∷ []))) ∙ last_snoc o.1 (seen ++ made x) e)),
          );
        }

pub first_slot : {X : Type 0} → X → List (ℕ × X) → X
first_slot x [] = x
first_slot x (y ∷ ys) = y.1

-- two names of the one slot that a seat carries
pub same_slot : {X : Type 0} (l : List (ℕ × X)) (at : ℕ) (x y : X) → l ≡ (at, x) ∷ [] → l ≡ (at, y) ∷ [] → x ≡ y
unfolding first_slot
same_slot l at x y e f = ap (first_slot x) (sym e ∙ f)

module _ {X N S C R : Type 0} (slot_name : X → N) (slot_state : X → S) (legal : N → ℕ → S → C → R → S → Type 0) (at : ℕ) (m m' : Me X (View N S C R)) (none : m.1 ≡ []) (d : Taken slot_name slot_state legal m at m') where
  -- the seat after the value was taken
  abbrev pub taken : View N S C R
  taken = seeing m.0 at d.log (Holding at)

  pub slot_taken : m'.1 ≡ (at, d.slot) ∷ []
  slot_taken = d.took ∙ ap (λ (l : List (ℕ × X)). (at, d.slot) ∷ l) none

  pub seen_now : seen_at m'.0 at ≡ d.log
  seen_now = ap (λ (z : View N S C R). seen_at z at) d.view ∙ row_here m.0.seen at d.log

  -- the slot that was taken has the value's name and last state
  pub slot_known : (x : X) → m'.1 ≡ (at, x) ∷ [] → (o : N × S) → get_elem? m.0.opens at ≡ some o → (slot_name x ≡ o.0) × (slot_state x ≡ last_of o.1 d.log)
  slot_known x e o eo = let k = d.known o eo in let same = same_slot m'.1 at x d.slot e slot_taken in (ap slot_name same ∙ k.1, ap slot_state same ∙ k.2)

  -- and fits, with no call yet
  pub taken_fits : (made : X → List (Entry S C R)) (x y : X) → m'.1 ≡ (at, x) ∷ [] → slot_name y ≡ slot_name x → slot_state y ≡ slot_state x → made y ≡ [] → Fits slot_name slot_state legal made m'.0 at y
  taken_fits made x y e name state fresh = fits_none slot_name slot_state legal made m'.0 at y fresh (λ o eo.
      let k = slot_known x e o (sym (ap (λ (z : View N S C R). get_elem? z.opens at) d.view) ∙ eo) in
      (name ∙ k.0, state ∙ (k.1 ∙ ap (last_of o.1) (sym seen_now))))

  -- what is always true of a pass is true of it with the value in hand
  pub taken_stands : (opens : List (N × S)) (callers : ℕ) → m.0.opens ≡ opens → m.0.callers ≡ callers → IsPass legal opens callers m.0.from (seen_at m.0) (mine_at m.0 0) → IsPass legal opens callers m.0.from (seen_at taken) (mine_at taken 0)
  taken_stands opens callers eo ec h = record {
    below = h.below;
    lawful = at_place (λ (i : ℕ). (o : N × S) → get_elem? opens i ≡ some o → IsLegal (legal o.0) o.1 (seen_at taken i)) at
        (λ o e. subst (IsLegal (legal o.0) o.1) (sym (row_here m.0.seen at d.log)) (d.known o (ap (λ (l : List (N × S)). get_elem? l at) eo ∙ e)).0)
        (λ i ne o e. subst (IsLegal (legal o.0) o.1) (sym (row_else m.0.seen at i d.log ne)) (h.lawful i o e));
    own = at_place (λ (i : ℕ). calls_by m.0.from (seen_at taken i) ≡ mine_at m.0 0 i) at
        (ap (calls_by m.0.from) (row_here m.0.seen at d.log) ∙ sym d.mine)
        (λ i ne. ap (calls_by m.0.from) (row_else m.0.seen at i d.log ne) ∙ h.own i);
    bounded = λ i n hi. at_place (λ (i : ℕ). calls_by n (seen_at taken i) ≡ []) at
        (ap (calls_by n) (row_here m.0.seen at d.log) ∙ d.bounded n (omega (arith, ec, hi)))
        (λ i ne. ap (calls_by n) (row_else m.0.seen at i d.log ne) ∙ h.bounded i n hi) i;
  }

  -- A turn of one call: the slot x was taken and is y when the turn begins, and the slot z that was served is u then
  module _ (made : X → List (Entry S C R)) (m2 m3 : Me X (View N S C R)) (e2 : m2.0 ≡ m'.0) (e3 : m3.0 ≡ m2.0) (number : ℕ) (counted : m.0.from ≡ number) (x y z u : X)
      (hx : m'.1 ≡ (at, x) ∷ []) (hy : m2.1 ≡ (at, y) ∷ []) (hz : m2.1 ≡ (at, z) ∷ []) (name : slot_name y ≡ slot_name x) (state : slot_state y ≡ slot_state x) (fresh : made y ≡ [])
      (c : C) (r : R) (h : legal (slot_name z) number (slot_state z) c r (slot_state u)) (kept : slot_name u ≡ slot_name z) (more : made u ≡ made z ++ entry number c r (slot_state u) ∷ []) where
    abbrev a : S
    a = slot_state u

    same : y ≡ z
    same = same_slot m2.1 at y z hy hz

    fits : Fits slot_name slot_state legal made m'.0 at z
    fits = subst (Fits slot_name slot_state legal made m'.0 at) same (taken_fits made x y hx name state fresh)

    number_is : number ≡ m'.0.from
    number_is = sym (ap (λ (q : View N S C R). q.from) d.view ∙ counted)

    lawful : legal (slot_name z) m'.0.from (slot_state z) c r a
    lawful = subst (λ (n : ℕ). legal (slot_name z) n (slot_state z) c r a) number_is h

    pub fits_end : Fits slot_name slot_state legal made m3.0 at u
    fits_end = subst (λ (q : View N S C R). Fits slot_name slot_state legal made q at u) (sym (e3 ∙ e2))
        (fits_more slot_name slot_state legal made m'.0 at z fits c r a lawful u kept refl (more ∙ ap (λ (n : ℕ). made z ++ entry n c r a ∷ []) number_is))

    -- the calls of the turn are this one
    made_one : made u ≡ entry m.0.from c r a ∷ []
    made_one = more ∙ (λ i. ((sym (ap made same) ∙ fresh) i) ++ entry (sym counted i) c r a ∷ [])

    -- what the slot's name is, for an output
    pub name_is : (o : N × S) → get_elem? m.0.opens at ≡ some o → slot_name z ≡ o.0
    name_is o eo = ap slot_name (sym same) ∙ (name ∙ (slot_known x hx o eo).0)

    module _ (w : View N S C R) (ew : w ≡ served m3.0 at (made u)) where
      w_is : w ≡ served taken at (entry m.0.from c r a ∷ [])
      w_is = ew ∙ (λ i. served ((e3 ∙ (e2 ∙ d.view)) i) at (made_one i))

      step : (o : N × S) → get_elem? m.0.opens at ≡ some o → legal o.0 m.0.from (last_of o.1 d.log) c r a
      step o eo =
          let k = slot_known x hx o eo in
          let name_z : slot_name z ≡ o.0 = name_is o eo in
          let state_z : slot_state z ≡ last_of o.1 d.log = ap slot_state (sym same) ∙ (state ∙ k.1) in
          subst (λ (s : S). legal o.0 m.0.from s c r a) state_z (subst (λ (n : N). legal n m.0.from (slot_state z) c r a) name_z (subst (λ (n : ℕ). legal (slot_name z) n (slot_state z) c r a) (sym counted) h))

      pub whole : Adds legal m.0.opens m.0.from (seen_at m.0) (mine_at m.0 0) (seen_at w) (mine_at w 0) at c r
      whole = subst (λ (q : View N S C R). Adds legal m.0.opens m.0.from (seen_at m.0) (mine_at m.0 0) (seen_at q) (mine_at q 0) at c r) (sym w_is) record {
        before = d.log;
        after = a;
        ends = seen_here legal taken at (entry m.0.from c r a ∷ []) ∙ ap (λ (l : List (Entry S C R)). l ++ entry m.0.from c r a ∷ []) (row_here m.0.seen at d.log);
        begins = d.begins;
        step = step;
        mine_grows = mine_here legal taken at (entry m.0.from c r a ∷ []);
        others_seen = λ j ne. seen_else legal taken at (entry m.0.from c r a ∷ []) j ne ∙ row_else m.0.seen at j d.log ne;
        others_mine = mine_else legal taken at (entry m.0.from c r a ∷ []);
      }

      pub whole_stands : IsPass legal m.0.opens m.0.callers m.0.from (seen_at m.0) (mine_at m.0 0) → IsPass legal m.0.opens m.0.callers m.0.from (seen_at w) (mine_at w 0)
      whole_stands before = subst (λ (q : View N S C R). IsPass legal m.0.opens m.0.callers m.0.from (seen_at q) (mine_at q 0)) (sym w_is)
          (served_stands legal taken at (entry m.0.from c r a ∷ []) m.0.opens m.0.callers (refl, tt)
          (λ o eo. (subst (λ (l : List (Entry S C R)). legal o.0 m.0.from (last_of o.1 l) c r a) (sym (row_here m.0.seen at d.log)) (step o eo), tt))
          (taken_stands m.0.opens m.0.callers refl refl before))

      pub same_pass : IsSame m.0 w
      same_pass = subst (IsSame m.0) (sym w_is) record { opens = refl; callers = refl; from = refl; free = record { owns = refl; stage = refl } }
