-- A turn of several calls: how it begins, goes on and ends.
use Rattle.std.proofs.Common.{◌≡◌, ℕ, ◌<◌, List, [], ◌∷◌, ◌++◌, length, sym, refl, ap, ◌∙◌, subst}
use mathlib.Core.Option.{some}
use lib.ListN.{get_elem?}
use Rattle.atomic_table.specs.Seated.{TableId}
use Rattle.atomic_table.specs.Table.{Me}
use Rattle.lock_book.specs.declared.kept.Kept.{Ghosts}
use Rattle.lock_book.specs.declared.shelf.Pass.{Pass}
use Rattle.lock_book.specs.declared.shelf.Shelf.{Shelf}
use Rattle.lock_book.specs.declared.table.Slot.{Slot}
use Rattle.lock_book.specs.declared.view.Entry.{Entry}
use Rattle.lock_book.specs.declared.view.View.{View}
use Rattle.lock_book.specs.History.{entry, last_of, made_of, AreBy, StartsWith, IsLegal}
use Rattle.lock_book.specs.Ruled.{mine_at, seen_at, served, Fits, Taken, view_of}
use Rattle.lock_book.specs.Shown.{Belongs, HasTurn, calls_carried, callers_of, count_of, mine_of, number_of, opens_of, seen_of}
use Rattle.lock_book.specs.Told.{IsPass, AddsAll}
use Rattle.lock_book.proofs.Calls.{seen_here, seen_else, mine_here, mine_else, served_stands, fits_more, same_slot, step_of, taken, taken_fits, taken_stands}
use Rattle.lock_book.proofs.Histories.{row_here, row_else}
use Rattle.lock_book.proofs.Uses.{is_here}

module _ {T E I O N S C R : Type 0} {g : Ghosts T E I O N S C R} (s : Shelf T E I O N S C R) (p : Pass T E I O N S C R g) where
  abbrev name : Slot T S C R → N
  name x = g.name x.value

  abbrev state : Slot T S C R → S
  state x = g.state x.value

  abbrev made : Slot T S C R → List (Entry S C R)
  made x = made_of x.made

  abbrev Fit : View N S C R → ℕ → Slot T S C R → Type 0
  Fit v at x = Fits name state g.legal made v at x

  -- the value was taken by the pass's seat, and no call was made yet
  pub opened : (b : Belongs s p) (m m' : Me (Slot T S C R) (View N S C R)) → m.0 ≡ view_of p.badge.views → m.1 ≡ [] → (at : ℕ) → at < count_of s → (d : Taken name state g.legal m at m') → (id : TableId) → id ≡ s.board.shared.table_id
      → (n : Me (Slot T S C R) (View N S C R)) → n.0 ≡ m'.0 → (x y : Slot T S C R) → m'.1 ≡ (at, x) ∷ [] → n.1 ≡ (at, y) ∷ [] → y.value ≡ x.value → made y ≡ [] → HasTurn s p id n at
  opened b m m' ev none at low d id table n eu x y hx hy same fresh =
      let z : View N S C R = taken name state g.legal at m m' none d in
      let ez : n.0 ≡ z = eu ∙ d.view in
      let seen_u : seen_at n.0 at ≡ d.log = ap (λ (q : View N S C R). seen_at q at) ez ∙ row_here m.0.seen at d.log in
      let opens : m.0.opens ≡ opens_of s = ap (λ (q : View N S C R). q.opens) ev ∙ b.opens in
      let callers : m.0.callers ≡ callers_of s = ap (λ (q : View N S C R). q.callers) ev ∙ b.callers in
      let before : IsPass g.legal (opens_of s) (callers_of s) m.0.from (seen_at m.0) (mine_at m.0 0) = subst (λ (q : View N S C R). IsPass g.legal (opens_of s) (callers_of s) q.from (seen_at q) (mine_at q 0)) (sym ev) b.stands in record {
        table = table;
        place = low;
        number = ap (λ (q : View N S C R). q.from) ez ∙ ap (λ (q : View N S C R). q.from) ev;
        opens = ap (λ (q : View N S C R). q.opens) ez ∙ opens;
        callers = ap (λ (q : View N S C R). q.callers) ez ∙ callers;
        one = ap (λ (q : View N S C R). length q.owns) ez ∙ (ap (λ (q : View N S C R). length q.owns) ev ∙ (p.alone ∙ is_here s p b));
        holds = ap (λ (q : View N S C R). q.stage) ez;
        has = (y, hy, subst (λ (q : View N S C R). Fit q at y) (sym eu) (taken_fits name state g.legal at m m' none d made x y hx (ap g.name same) (ap g.state same) fresh));
        stands = subst (λ (q : View N S C R). IsPass g.legal (opens_of s) (callers_of s) q.from (seen_at q) (mine_at q 0)) (sym ez) (taken_stands name state g.legal at m m' none d (opens_of s) (callers_of s) opens callers before);
        begins = subst (λ (l : List (Entry S C R)). StartsWith l (seen_of p at)) (sym seen_u) (subst (λ (q : View N S C R). StartsWith d.log (seen_at q at)) ev d.begins);
        others = λ j ne. ap (λ (q : View N S C R). seen_at q j) ez ∙ (row_else m.0.seen at j d.log ne ∙ ap (λ (q : View N S C R). seen_at q j) ev);
        mine = λ j. ap (λ (q : View N S C R). mine_at q 0 j) ez ∙ ap (λ (q : View N S C R). mine_at q 0 j) ev;
      }

  module _ (id : TableId) (m : Me (Slot T S C R) (View N S C R)) (at : ℕ) (h : HasTurn s p id m at) where
    fits : Fit m.0 at h.has.0
    fits = h.has.2

    calls_are : calls_carried m.1 ≡ made h.has.0
    calls_are = ap calls_carried h.has.1

    -- the name that the slot's value has
    pub named_so : (o : N × S) → get_elem? (opens_of s) at ≡ some o → name h.has.0 ≡ o.0
    named_so o eo = (fits.each o (ap (λ (l : List (N × S)). get_elem? l at) h.opens ∙ eo)).0

    -- a call of the turn: the slot is x, and y afterwards
    module _ (n : Me (Slot T S C R) (View N S C R)) (ev : n.0 ≡ m.0) (x y : Slot T S C R) (hx : m.1 ≡ (at, x) ∷ []) (hy : n.1 ≡ (at, y) ∷ []) (number : ℕ) (counted : m.0.from ≡ number)
        (c : C) (r : R) (lawful : g.legal (name x) number (state x) c r (state y)) (kept : name y ≡ name x) (more : made y ≡ made x ++ entry number c r (state y) ∷ []) where
      same : h.has.0 ≡ x
      same = same_slot m.1 at h.has.0 x h.has.1 hx

      fit : Fit m.0 at x
      fit = subst (Fit m.0 at) same fits

      step_here : g.legal (name x) m.0.from (state x) c r (state y)
      step_here = subst (λ (k : ℕ). g.legal (name x) k (state x) c r (state y)) (sym counted) lawful

      more_here : made y ≡ made x ++ entry m.0.from c r (state y) ∷ []
      more_here = more ∙ ap (λ (k : ℕ). made x ++ entry k c r (state y) ∷ []) (sym counted)

      calls_x : made x ≡ calls_carried m.1
      calls_x = sym (ap calls_carried hx)

      pub called_on : (id' : TableId) → id' ≡ id → HasTurn s p id' n at
      called_on id' et = record {
        table = et ∙ h.table;
        place = h.place;
        number = ap (λ (q : View N S C R). q.from) ev ∙ h.number;
        opens = ap (λ (q : View N S C R). q.opens) ev ∙ h.opens;
        callers = ap (λ (q : View N S C R). q.callers) ev ∙ h.callers;
        one = ap (λ (q : View N S C R). length q.owns) ev ∙ h.one;
        holds = ap (λ (q : View N S C R). q.stage) ev ∙ h.holds;
        has = (y, hy, subst (λ (q : View N S C R). Fit q at y) (sym ev) (fits_more name state g.legal made m.0 at x fit c r (state y) step_here y kept refl more_here));
        stands = subst (λ (q : View N S C R). IsPass g.legal (opens_of s) (callers_of s) q.from (seen_at q) (mine_at q 0)) (sym ev) h.stands;
        begins = subst (λ (q : View N S C R). StartsWith (seen_at q at) (seen_of p at)) (sym ev) h.begins;
        others = λ j ne. ap (λ (q : View N S C R). seen_at q j) ev ∙ h.others j ne;
        mine = λ j. ap (λ (q : View N S C R). mine_at q 0 j) ev ∙ h.mine j;
      }

      pub calls_next : calls_carried n.1 ≡ calls_carried m.1 ++ entry m.0.from c r (state y) ∷ []
      calls_next = ap calls_carried hy ∙ (more_here ∙ ap (λ (l : List (Entry S C R)). l ++ entry m.0.from c r (state y) ∷ []) calls_x)

      pub step_next : (o : N × S) → get_elem? (opens_of s) at ≡ some o → g.legal o.0 m.0.from (last_of o.1 (seen_at m.0 at ++ calls_carried m.1)) c r (state y)
      step_next o eo = subst (λ (l : List (Entry S C R)). g.legal o.0 m.0.from (last_of o.1 (seen_at m.0 at ++ l)) c r (state y)) calls_x
          (step_of name state g.legal made m.0 at x fit c r (state y) step_here o (ap (λ (l : List (N × S)). get_elem? l at) h.opens ∙ eo))

    -- the end of the turn: the slot x went back, and a pass has the seat's view w
    module _ (x : Slot T S C R) (hx : m.1 ≡ (at, x) ∷ []) (views : List (View N S C R)) (w : View N S C R) (ew : w ≡ served m.0 at (made x)) (eq : views ≡ w ∷ []) where
      abbrev es : List (Entry S C R)
      es = calls_carried m.1

      z_is : view_of views ≡ served m.0 at es
      z_is = ap view_of eq ∙ (ew ∙ ap (served m.0 at) (sym (ap calls_carried hx)))

      own : AreBy m.0.from es
      own = subst (AreBy m.0.from) (sym calls_are) fits.by

      lawful_here : (o : N × S) → get_elem? (opens_of s) at ≡ some o → IsLegal (g.legal o.0) (last_of o.1 (seen_at m.0 at)) es
      lawful_here o eo = subst (IsLegal (g.legal o.0) (last_of o.1 (seen_at m.0 at))) (sym calls_are) (fits.each o (ap (λ (l : List (N × S)). get_elem? l at) h.opens ∙ eo)).1

      pub ended_opens : (view_of views).opens ≡ opens_of s
      ended_opens = ap (λ (z : View N S C R). z.opens) z_is ∙ h.opens

      pub ended_callers : (view_of views).callers ≡ callers_of s
      ended_callers = ap (λ (z : View N S C R). z.callers) z_is ∙ h.callers

      pub ended_stands : IsPass g.legal (opens_of s) (callers_of s) (view_of views).from (seen_at (view_of views)) (mine_at (view_of views) 0)
      ended_stands = subst (λ (z : View N S C R). IsPass g.legal (opens_of s) (callers_of s) z.from (seen_at z) (mine_at z 0)) (sym z_is) (served_stands g.legal m.0 at es (opens_of s) (callers_of s) own lawful_here h.stands)

      pub ended_number : (view_of views).from ≡ m.0.from
      ended_number = ap (λ (z : View N S C R). z.from) z_is

      pub ended_seen : seen_at (view_of views) at ≡ seen_at m.0 at ++ calls_carried m.1
      ended_seen = ap (λ (z : View N S C R). seen_at z at) z_is ∙ seen_here g.legal m.0 at es

      pub ended_called : AddsAll g.legal (opens_of s) (number_of p) (seen_of p) (mine_of p) (seen_at (view_of views)) (mine_at (view_of views) 0) at (calls_carried m.1)
      ended_called = record {
        before = seen_at m.0 at;
        ends = ended_seen;
        begins = h.begins;
        steps = lawful_here;
        by = subst (λ (k : ℕ). AreBy k es) h.number own;
        mine_grows = ap (λ (z : View N S C R). mine_at z 0 at) z_is ∙ (mine_here g.legal m.0 at es ∙ ap (λ (l : List (Entry S C R)). l ++ es) (h.mine at));
        others_seen = λ j ne. ap (λ (z : View N S C R). seen_at z j) z_is ∙ (seen_else g.legal m.0 at es j ne ∙ h.others j ne);
        others_mine = λ j ne. ap (λ (z : View N S C R). mine_at z 0 j) z_is ∙ (mine_else g.legal m.0 at es j ne ∙ h.mine j);
      }
