-- What one turn at a cell tells its caller: of the value, of the load, and of a load that was waited for.
use Rattle.std.proofs.Common.{◌≡◌, ℕ, Bool, true, false, cond, List, [], ◌∷◌, ◌++◌, length, map, refl, sym, ap, ◌∙◌, subst, arith, append_assoc, eq-eqb, length-append}
use Rattle.std.specs.Prelude.{Some, None, ◌||◌}
use Rattle.std.specs.List.{list_any}
use Rattle.std.proofs.lemmas.List.Folds.{list_any-append}
use mathlib.Core.Option.{some}
use lib.ListN.{get_elem?}
use Rattle.lock_book.specs.History.{IsLegal, StartsWith, calls_by, entry, last_of}
use Rattle.lock_book.proofs.Histories.{calls_by_all, last_snoc}
use Rattle.lock_book.proofs.Uses.{last-append, legal-append, legal_back, map_at}
use Rattle.single_flight.specs.declared.cell.Cell.{Cell}
use Rattle.single_flight.specs.declared.history.CellState.{CellState}
use Rattle.single_flight.specs.declared.history.CellState.TheVariants.{Empty, Loading, Here}
use Rattle.single_flight.specs.declared.history.CellCall.{CellCall}
use Rattle.single_flight.specs.declared.history.CellCall.TheVariants.{Ask, Look, Put, Fail, Remove}
use Rattle.single_flight.specs.declared.history.CellReply.{CellReply}
use Rattle.single_flight.specs.declared.history.CellReply.TheVariants.{Value, Yours, Busy, Failed, Done, Refused}
use Rattle.single_flight.specs.Cells.{next, stepped}
use Rattle.single_flight.specs.Laws.{CellLegal, IsHistory, Step, is_loss, load_after, load_in, value_in}
use Rattle.single_flight.specs.declared.found.Found.{Found}
use Rattle.single_flight.specs.declared.found.Found.TheVariants as found
use Rattle.single_flight.specs.Shown.{HasFailed, IfFailed}
use Rattle.single_flight.specs.Turns.{Turned, WasLostSince}
use Rattle.single_flight.proofs.Flights.{content-all, holds-all, load-all, load-snoc, of-all, plain}
use Rattle.single_flight.proofs.Steps.{IsOf, busy-asked, content, content-step, look-of, none-some, removed-none, reply-is, value-stays, value-there, yours-step}

module _ {V : Type 0} {holds : V → Type 0} {n : ℕ} {seen mine seen' mine' : List (Step V)} {c : CellCall V} {r : CellReply V} (u : Turned holds n seen mine seen' mine' c r) where
  before_legal : IsHistory u.before
  before_legal = plain holds (Empty 0) u.before u.lawful

  -- the state after the call
  pub turned_last : last_of (Empty 0) seen' ≡ u.after
  turned_last = ap (last_of (Empty 0)) u.ends ∙ last_snoc (Empty 0) u.before (entry n c r u.after)

  -- the value after the call
  turned_content : value_in seen' ≡ content u.after
  turned_content = ap value_in u.ends ∙ (sym (content-all (Empty 0) (u.before ++ entry n c r u.after ∷ []) (legal-append CellLegal (Empty 0) u.before (entry n c r u.after ∷ []) before_legal (u.step.step, tt)))
      ∙ ap content (last_snoc (Empty 0) u.before (entry n c r u.after)))

  -- the load that the caller has after the call
  pub turned_load : load_in mine' ≡ load_after (load_in mine) c r
  turned_load = ap load_in u.own ∙ load-snoc None mine (entry n c r u.after)

  -- a caller that has a load by its own calls has it in the cell
  load_on : (k : ℕ) → load_in mine ≡ Some k → last_of (Empty 0) u.before ≡ Loading k n
  load_on k has = load-all n (Empty 0) u.before None k before_legal (λ j e. absurd (none-some None j refl e)) (ap load_in u.known ∙ has)

module _ {V : Type 0} {holds : V → Type 0} {n : ℕ} {seen mine seen' mine' : List (Step V)} {c : CellCall V} {v : V} (u : Turned holds n seen mine seen' mine' c (Value v)) where
  there : content (last_of (Empty 0) u.before) ≡ Some v
  there = value-there n (last_of (Empty 0) u.before) c v u.after u.step.step

  -- the value that a call got
  pub turned_value : value_in seen' ≡ Some v
  turned_value = turned_content u ∙ (content-step n (last_of (Empty 0) u.before) c (Value v) u.after u.step.step ∙ (value-stays (content (last_of (Empty 0) u.before)) c v ∙ there))

  pub turned_holds : holds v
  turned_holds = holds-all holds (Empty 0) u.before (λ w e. absurd (none-some None w refl e)) u.lawful v there

module _ {V : Type 0} {holds : V → Type 0} {n k : ℕ} {seen mine seen' mine' : List (Step V)} {c : CellCall V} (u : Turned holds n seen mine seen' mine' c (Yours k)) where
  -- a caller that is told to load: there is no value
  pub turned_none : value_in seen' ≡ None
  turned_none = turned_content u ∙ ap content (yours-step n (last_of (Empty 0) u.before) c (Yours k) u.after k u.step.step refl).1

module _ {V : Type 0} {holds : V → Type 0} {n k : ℕ} {seen mine seen' mine' : List (Step V)} (u : Turned holds n seen mine seen' mine' Ask (Busy k)) where
  -- a caller that is told that a load is under way: it is
  pub turned_busy : (m : ℕ) × (last_of (Empty 0) seen' ≡ Loading k m)
  turned_busy = let b = busy-asked n (last_of (Empty 0) u.before) k u.after u.step.step in (b.0, turned_last u ∙ b.1)

module _ {V : Type 0} {holds : V → Type 0} {n : ℕ} {seen mine seen' mine' : List (Step V)} {v : V} {r : CellReply V} (u : Turned holds n seen mine seen' mine' (Put v) r) where
  -- a caller that has a load can end it
  pub turned_put : (k : ℕ) → load_in mine ≡ Some k → r ≡ Done
  turned_put k has =
      sym (reply-is n (last_of (Empty 0) u.before) (Put v) r u.after u.step.step)
      ∙ (ap (λ (s : CellState V). (stepped n s (Put v)).0) (load_on u k has) ∙ ap (λ (b : Bool). (cond {A = CellReply V × CellState V} b (Done, Here k v) (Refused, Loading k n)).0) (eq-eqb n n refl))

module _ {V : Type 0} {holds : V → Type 0} {n : ℕ} {seen mine seen' mine' : List (Step V)} {v : V} (u : Turned holds n seen mine seen' mine' (Put v) Done) where
  -- and its value is there then
  pub turned_there : value_in seen' ≡ Some v
  turned_there = turned_content u ∙ content-step n (last_of (Empty 0) u.before) (Put v) Done u.after u.step.step

module _ {V : Type 0} {holds : V → Type 0} {n : ℕ} {seen mine seen' mine' : List (Step V)} {r : CellReply V} (u : Turned holds n seen mine seen' mine' Fail r) where
  pub turned_fail : (k : ℕ) → load_in mine ≡ Some k → r ≡ Done
  turned_fail k has =
      sym (reply-is n (last_of (Empty 0) u.before) Fail r u.after u.step.step)
      ∙ (ap (λ (s : CellState V). (stepped n s Fail).0) (load_on u k has) ∙ ap (λ (b : Bool). (cond {A = CellReply V × CellState V} b (Done, Empty (next k)) (Refused, Loading k n)).0) (eq-eqb n n refl))

module _ {V : Type 0} {holds : V → Type 0} {n : ℕ} {seen mine seen' mine' : List (Step V)} {r : CellReply V} (u : Turned holds n seen mine seen' mine' Remove r) where
  pub turned_gone : value_in seen' ≡ None
  turned_gone = turned_content u ∙ removed-none n (last_of (Empty 0) u.before) r u.after u.step.step

module _ {V : Type 0} {holds : V → Type 0} {n k m : ℕ} {seen mine seen' mine' : List (Step V)} (u : Turned holds n seen mine seen' mine' (Look k) Failed) where
  module _ (first : List (Step V)) (on : last_of (Empty 0) first ≡ Loading k m) (grown : StartsWith seen first) where
    abbrev mid : List (Step V)
    mid = grown.0 ++ u.begins.0

    before-is : u.before ≡ first ++ mid
    before-is = u.begins.1 ∙ (ap (λ (es : List (Step V)). es ++ u.begins.0) grown.1 ∙ append_assoc first grown.0 u.begins.0)

    mid-legal : IsLegal CellLegal (last_of (Empty 0) first) mid
    mid-legal = legal_back CellLegal (Empty 0) first mid (subst (IsLegal CellLegal (Empty 0)) before-is (before_legal u))

    last-is : last_of (Empty 0) u.before ≡ last_of (last_of (Empty 0) first) mid
    last-is = ap (last_of (Empty 0)) before-is ∙ last-append (Empty 0) first mid

    by : (b : Bool) → list_any (λ (y : Step V). is_loss y.call y.reply) mid ≡ b → list_any (λ (y : Step V). is_loss y.call y.reply) mid ≡ true
    by true e = e
    by false e = absurd (look-of k n (last_of (Empty 0) u.before) u.after u.step.step
        (subst (IsOf k) (sym last-is) (of-all k (last_of (Empty 0) first) mid (subst (IsOf k) (sym on) refl) mid-legal e)))

    -- a caller that waited, and is told that there is no value of the load: some load failed since, or a value was
    -- removed
    pub turned_lost : WasLostSince first seen'
    turned_lost =
        let last : Step V = entry n (Look k) Failed u.after in record {
          since = mid ++ last ∷ [];
          ends = u.ends ∙ (ap (λ (es : List (Step V)). es ++ last ∷ []) before-is ∙ append_assoc first mid (last ∷ []));
          lost = list_any-append (λ (y : Step V). is_loss y.call y.reply) mid (last ∷ []) ∙ ap (λ (b : Bool). b || list_any (λ (y : Step V). is_loss y.call y.reply) (last ∷ [])) (by (list_any (λ (y : Step V). is_loss y.call y.reply) mid) refl);
        }

module _ {A : Type 0} where
  snoc_front : (xs ys : List A) (x : A) → xs ++ x ∷ [] ≡ ys ++ x ∷ [] → xs ≡ ys
  snoc_front [] [] x e = refl
  snoc_front [] (z ∷ zs) x e = absurd (omega (arith, ap length e, length-append zs (x ∷ [])))
  snoc_front (w ∷ ws) [] x e = absurd (omega (arith, ap length e, length-append ws (x ∷ [])))
  snoc_front (w ∷ ws) (z ∷ zs) x e = let same : w ≡ z = cc in let rest : ws ++ x ∷ [] ≡ zs ++ x ∷ [] = cc in λ i. same i ∷ snoc_front ws zs x rest i

-- the own calls before the last one
pub known_before : {V : Type 0} (n m : ℕ) (seen before mine mine' : List (Step V)) (c : CellCall V) (r : CellReply V) (t : CellState V) → m ≡ n → calls_by m seen ≡ mine' → seen ≡ before ++ entry n c r t ∷ [] → mine' ≡ mine ++ entry n c r t ∷ [] → calls_by n before ≡ mine
known_before {V} n m seen before mine mine' c r t same own ends grows =
    let e : Step V = entry n c r t in
    let whole : calls_by n (before ++ e ∷ []) ≡ mine ++ e ∷ [] = ap (λ (z : ℕ × List (Step V)). calls_by z.0 z.1) (λ i. (sym same i, sym ends i)) ∙ (own ∙ grows) in
    snoc_front (calls_by n before) mine e (sym (calls_by_all n before (e ∷ []) (refl, tt)) ∙ whole)

-- each of the cells opens with nothing
pub opens_so : {L V : Type 0} (cells : List (Cell L V)) → ((k : ℕ) (x : Cell L V) → get_elem? cells k ≡ some x → (x.key ≡ k) × (x.state ≡ Empty 0)) → (k : ℕ) (o : ℕ × CellState V) → get_elem? (map (λ (x : Cell L V). let z : ℕ × CellState V = (x.key, x.state) in z) cells) k ≡ some o → (o.0 ≡ k) × (o.1 ≡ Empty 0)
opens_so {L} {V} cells each k o e =
    let a = map_at (λ (x : Cell L V). let z : ℕ × CellState V = (x.key, x.state) in z) cells k o e in
    let f = each k a.0 a.1 in
    (ap (λ (z : ℕ × CellState V). z.0) (sym a.2) ∙ f.0, ap (λ (z : ℕ × CellState V). z.1) (sym a.2) ∙ f.1)

module _ {V : Type 0} {holds : V → Type 0} {n k : ℕ} {seen mine seen' mine' : List (Step V)} (u : Turned holds n seen mine seen' mine' Ask (Busy k)) where
  -- a caller that asked, waited, and was told that there is no value of the load
  pub turned_failed : (final : List (Step V)) → WasLostSince seen' final → HasFailed n seen final
  turned_failed final w =
      let waited : Step V = entry n Ask (Busy k) u.after in record {
        before = u.before;
        waited = waited;
        since = w.since;
        number = k;
        ends = w.ends ∙ (ap (λ (es : List (Step V)). es ++ w.since) u.ends ∙ append_assoc u.before (waited ∷ []) w.since);
        begins = u.begins;
        own = refl;
        busy = refl;
        lost = w.lost;
      }

-- a fact of a wait that brought nothing, from another
pub if_failed : {V : Type 0} {P Q : Type 0} (f : Found V) → (P → Q) → IfFailed f P → IfFailed f Q
if_failed (found.Value v) h p = tt
if_failed (found.Load load) h p = tt
if_failed found.Failed h p = h p
