-- Laws for the callers of a shelf: of legal histories, of their states, of the calls of each caller and of those of
-- all, and of what lists have where.
use Rattle.std.proofs.Common.{◌≡◌, ℕ, zero, suc, ◌+◌, ◌<◌, ◌≤◌, eqb, Bool, true, false, cond, ◌≢◌, List, [], ◌∷◌, ◌++◌, length, map, sym, refl, ap, ◌∙◌, subst, arith, append_assoc, append-nil, length-append, eq-eqb, ne_eqb}
use mathlib.Core.Logic.{dite}
use native.Mathlib.Decide.{ℕ_discrete, dec_le}
use mathlib.Core.Option.{some, some-injective, some-ne-none}
use lib.ListN.{get_elem?}
use Rattle.lock_book.specs.declared.view.Entry.{Entry}
use Rattle.lock_book.specs.declared.view.View.{View}
use Rattle.lock_book.specs.History.{entry, last_of, calls_by, AreBy, StartsWith, IsLegal}
use Rattle.lock_book.specs.declared.kept.Kept.{Ghosts}
use Rattle.lock_book.specs.declared.several.Turn.{Turn}
use Rattle.lock_book.specs.declared.shelf.Pass.{Pass}
use Rattle.lock_book.specs.declared.shelf.Shelf.{Shelf}
use Rattle.lock_book.specs.Folds.{IsCommutativeMonoid, folded, folded_below}
use Rattle.lock_book.specs.Ruled.{view_of}
use Rattle.lock_book.specs.Told.{Histories, IsPass, Adds, AddsAll, MakesAll}
use Rattle.lock_book.specs.Shown.{Belongs, Called, IsTurn, begun_in, calls_carried, calls_in, callers_of, count_of, mine_of, number_of, opens_of, place_in, seen_of}
use Rattle.lock_book.proofs.Histories.{last_snoc, starts_refl, starts_trans}
use Rattle.lock_book.proofs.Totals.{there}

-- numbers may be added up in any order
pub sums : IsCommutativeMonoid (λ (a b : ℕ). a + b) 0
sums = record { unit_first = λ a. omega arith; associative = λ a b c. omega arith; commutative = λ a b. omega arith }

module _ {S C R : Type 0} where
  -- a legal history, and what follows it
  pub legal-append : (legal : ℕ → S → C → R → S → Type 0) (s : S) (xs ys : List (Entry S C R)) → IsLegal legal s xs → IsLegal legal (last_of s xs) ys → IsLegal legal s (xs ++ ys)
  legal-append = Rattle.lock_book.proofs.Histories.legal-append

  pub legal_front : (legal : ℕ → S → C → R → S → Type 0) (s : S) (xs ys : List (Entry S C R)) → IsLegal legal s (xs ++ ys) → IsLegal legal s xs
  legal_front legal s [] ys h = tt
  legal_front legal s (x ∷ xs) ys h = (h.0, legal_front legal x.after xs ys h.1)

  pub legal_back : (legal : ℕ → S → C → R → S → Type 0) (s : S) (xs ys : List (Entry S C R)) → IsLegal legal s (xs ++ ys) → IsLegal legal (last_of s xs) ys
  legal_back legal s [] ys h = h
  legal_back legal s (x ∷ xs) ys h = legal_back legal x.after xs ys h.1

  pub last-append : (s : S) (xs ys : List (Entry S C R)) → last_of s (xs ++ ys) ≡ last_of (last_of s xs) ys
  last-append = Rattle.lock_book.proofs.Histories.last-append

  -- what each call keeps is true of the last state
  pub kept_last : (legal : ℕ → S → C → R → S → Type 0) (P : S → Type 0) → ((n : ℕ) (s : S) (c : C) (r : R) (t : S) → P s → legal n s c r t → P t) → (s : S) (xs : List (Entry S C R)) → P s → IsLegal legal s xs → P (last_of s xs)
  kept_last legal P keeps s [] p h = p
  kept_last legal P keeps s (x ∷ xs) p h = kept_last legal P keeps x.after xs (keeps x.by s x.call x.reply x.after p h.0) h.1

  -- and so of each state on the way
  pub kept_at : (legal : ℕ → S → C → R → S → Type 0) (P : S → Type 0) → ((n : ℕ) (s : S) (c : C) (r : R) (t : S) → P s → legal n s c r t → P t) → (s : S) (log seen : List (Entry S C R)) → StartsWith log seen → P s → IsLegal legal s log → P (last_of s seen)
  kept_at legal P keeps s log seen b p h = kept_last legal P keeps s seen p (legal_front legal s seen b.0 (subst (IsLegal legal s) b.1 h))

  not_nil : (e : Entry S C R) (xs : List (Entry S C R)) → calls_by e.by (e ∷ xs) ≡ [] → ⊥
  not_nil e xs h = let a : e ∷ calls_by e.by xs ≡ [] = sym (ap (λ (b : Bool). cond b (e ∷ calls_by e.by xs) (calls_by e.by xs)) (eq-eqb e.by e.by refl)) ∙ h in absurd (cc)

  rest_nil : (b : Bool) (e : Entry S C R) (xs : List (Entry S C R)) → cond b (e ∷ xs) xs ≡ [] → xs ≡ []
  rest_nil true e xs h = absurd (cc)
  rest_nil false e xs h = h

  -- where all callers are below a number, the first entry's caller is, and so are the others'
  first_below : (callers : ℕ) (e : Entry S C R) (xs : List (Entry S C R)) → ((m : ℕ) → callers ≤ m → calls_by m (e ∷ xs) ≡ []) → e.by < callers
  first_below callers e xs h = dite (dec_le callers e.by) (λ hi. absurd (not_nil e xs (h e.by hi))) (λ lo. omega arith)

  rest_below : (callers : ℕ) (e : Entry S C R) (xs : List (Entry S C R)) → ((m : ℕ) → callers ≤ m → calls_by m (e ∷ xs) ≡ []) → (m : ℕ) → callers ≤ m → calls_by m xs ≡ []
  rest_below callers e xs h m hi = rest_nil (eqb e.by m) e (calls_by m xs) (h m hi)

  -- a lone caller's history is its own calls
  pub lone : (xs : List (Entry S C R)) → ((m : ℕ) → 1 ≤ m → calls_by m xs ≡ []) → calls_by 0 xs ≡ xs
  lone [] h = refl
  lone (x ∷ xs) h =
      let first : x.by ≡ 0 = (let b = first_below 1 x xs h in omega arith) in
      ap (λ (b : Bool). cond b (x ∷ calls_by 0 xs) (calls_by 0 xs)) (eq-eqb x.by 0 first) ∙ ap (λ (m : List (Entry S C R)). x ∷ m) (lone xs (rest_below 1 x xs h))

  module _ {M : Type 0} (op : M → M → M) (unit : M) (laws : IsCommutativeMonoid op unit) (f : Entry S C R → M) where
    unit_last : (a : M) → op a unit ≡ a
    unit_last a = laws.commutative a unit ∙ laws.unit_first a

    -- a b goes in behind a as well as before it
    turned : (a b c : M) → op a (op b c) ≡ op b (op a c)
    turned a b c = sym (laws.associative a b c) ∙ (ap (λ (m : M). op m c) (laws.commutative a b) ∙ laws.associative b a c)

    folded_none : (n : ℕ) → folded_below op unit f n [] ≡ unit
    folded_none zero = refl
    folded_none (suc n) = unit_last (folded_below op unit f n []) ∙ folded_none n

    folded_cond : (b : Bool) (x : Entry S C R) (xs : List (Entry S C R)) → folded op unit f (cond b (x ∷ xs) xs) ≡ cond b (op (f x) (folded op unit f xs)) (folded op unit f xs)
    folded_cond true x xs = refl
    folded_cond false x xs = refl

    folded_cons : (n : ℕ) (x : Entry S C R) (xs : List (Entry S C R)) → (n ≤ x.by → folded_below op unit f n (x ∷ xs) ≡ folded_below op unit f n xs) × (x.by < n → folded_below op unit f n (x ∷ xs) ≡ op (f x) (folded_below op unit f n xs))
    folded_cons zero x xs = ((λ _. refl), (λ lt. absurd (omega arith)))
    folded_cons (suc n) x xs =
        let r = folded_cons n x xs in
        let rest : M = folded op unit f (calls_by n xs) in
        let more : M = op (f x) rest in
        let lower : M = folded_below op unit f n xs in
        let w : folded op unit f (calls_by n (x ∷ xs)) ≡ cond (eqb x.by n) more rest = folded_cond (eqb x.by n) x (calls_by n xs) in
        let other : x.by ≢ n → folded op unit f (calls_by n (x ∷ xs)) ≡ rest = λ ne. w ∙ ap (λ (b : Bool). cond b more rest) (ne_eqb x.by n ne) in
        let own : x.by ≡ n → folded op unit f (calls_by n (x ∷ xs)) ≡ more = λ e. w ∙ ap (λ (b : Bool). cond b more rest) (eq-eqb x.by n e) in (
          (λ le. ap (λ (m : M). op m (folded op unit f (calls_by n (x ∷ xs)))) (r.0 (omega arith)) ∙ ap (op lower) (other (λ e. omega arith))),
          (λ lt. dite (ℕ_discrete x.by n)
              (λ e. ap (λ (m : M). op m (folded op unit f (calls_by n (x ∷ xs)))) (r.0 (omega arith)) ∙ (ap (op lower) (own e) ∙ turned lower (f x) rest))
              (λ ne. ap (λ (m : M). op m (folded op unit f (calls_by n (x ∷ xs)))) (r.1 (omega arith)) ∙ (ap (op (op (f x) lower)) (other ne) ∙ laws.associative (f x) lower rest))),
        )

    -- the entries of all callers are all entries, each once
    pub folded_parts : (callers : ℕ) (xs : List (Entry S C R)) → ((m : ℕ) → callers ≤ m → calls_by m xs ≡ []) → folded op unit f xs ≡ folded_below op unit f callers xs
    folded_parts callers [] h = sym (folded_none callers)
    folded_parts callers (x ∷ xs) h = ap (op (f x)) (folded_parts callers xs (rest_below callers x xs h)) ∙ sym ((folded_cons callers x xs).1 (first_below callers x xs h))

    pub folded-append : (xs ys : List (Entry S C R)) → folded op unit f (xs ++ ys) ≡ op (folded op unit f xs) (folded op unit f ys)
    folded-append [] ys = sym (laws.unit_first (folded op unit f ys))
    folded-append (x ∷ xs) ys = ap (op (f x)) (folded-append xs ys) ∙ sym (laws.associative (f x) (folded op unit f xs) (folded op unit f ys))

  -- f of each entry, added up
  abbrev pub weigh : (Entry S C R → ℕ) → List (Entry S C R) → ℕ
  weigh = folded (λ a b. a + b) 0

  -- the same, of the callers below a number, one after another
  abbrev pub weigh_below : (Entry S C R → ℕ) → ℕ → List (Entry S C R) → ℕ
  weigh_below = folded_below (λ a b. a + b) 0

  -- the entries of all callers are all entries, each once
  pub weigh_parts : (f : Entry S C R → ℕ) (callers : ℕ) (xs : List (Entry S C R)) → ((m : ℕ) → callers ≤ m → calls_by m xs ≡ []) → weigh f xs ≡ weigh_below f callers xs
  weigh_parts f callers xs h = folded_parts (λ (a b : ℕ). a + b) 0 sums f callers xs h

  pub length-weigh : (xs : List (Entry S C R)) → length xs ≡ weigh (λ _. 1) xs
  length-weigh [] = refl
  length-weigh (x ∷ xs) = let r = length-weigh xs in omega arith

  pub weigh-append : (f : Entry S C R → ℕ) (xs ys : List (Entry S C R)) → weigh f (xs ++ ys) ≡ weigh f xs + weigh f ys
  weigh-append f xs ys = folded-append (λ (a b : ℕ). a + b) 0 sums f xs ys

snoc_same : {A : Type 0} (xs ys : List A) (x : A) → xs ++ x ∷ [] ≡ ys ++ x ∷ [] → xs ≡ ys
snoc_same [] [] x e = refl
snoc_same [] (y ∷ ys) x e = absurd (omega (arith, ap length e, length-append ys (x ∷ [])))
snoc_same (z ∷ zs) [] x e = absurd (omega (arith, ap length e, length-append zs (x ∷ [])))
snoc_same {A} (z ∷ zs) (y ∷ ys) x e = let same : z ≡ y = cc in let r : zs ≡ ys = snoc_same zs ys x (cc) in λ n. same n ∷ r n

module _ {N S C R : Type 0} (legal : N → ℕ → S → C → R → S → Type 0) (opens : List (N × S)) (seen mine seen' mine' : Histories S C R) where
  -- what the one caller of a shelf has seen grows by just its call
  pub lone_adds : (at : ℕ) (c : C) (r : R) → IsPass legal opens 1 0 seen mine → IsPass legal opens 1 0 seen' mine' → (a : Adds legal opens 0 seen mine seen' mine' at c r) → seen' at ≡ seen at ++ entry 0 c r a.after ∷ []
  lone_adds at c r p q a =
      sym (lone (seen' at) (q.bounded at)) ∙ (q.own at ∙ (a.mine_grows ∙ ap (λ (m : List (Entry S C R)). m ++ entry 0 c r a.after ∷ []) (sym (p.own at) ∙ lone (seen at) (p.bounded at))))

  -- and so its call is legal right after what it had seen
  pub lone_step : (at : ℕ) (c : C) (r : R) → IsPass legal opens 1 0 seen mine → IsPass legal opens 1 0 seen' mine' → (a : Adds legal opens 0 seen mine seen' mine' at c r) → (o : N × S) → get_elem? opens at ≡ some o → legal o.0 0 (last_of o.1 (seen at)) c r a.after
  lone_step at c r p q a o e = subst (λ (xs : List (Entry S C R)). legal o.0 0 (last_of o.1 xs) c r a.after) (snoc_same a.before (seen at) (entry 0 c r a.after) (sym a.ends ∙ lone_adds at c r p q a)) (a.step o e)

-- each place of a shelf has a name
pub opens_at : {T E I O N S C R : Type 0} (s : Shelf T E I O N S C R) (at : ℕ) → at < count_of s → (o : N × S) × (get_elem? (opens_of s) at ≡ some o)
opens_at s at low = let sized = s.sized in there (opens_of s) at (omega arith)

module _ {T E I O N S C R : Type 0} {g : Ghosts T E I O N S C R} where
  -- a lone caller's call is legal right after what it had seen, and leaves what it has seen then
  pub lone_call : (s : Shelf T E I O N S C R) (p q : Pass T E I O N S C R g) (at : ℕ) (c : C) (r : R) → callers_of s ≡ 1 → Belongs s p → Belongs s q → number_of q ≡ number_of p → (a : Called s p q at c r) → (o : N × S) → get_elem? (opens_of s) at ≡ some o
      → g.legal o.0 (number_of p) (last_of o.1 (seen_of p at)) c r a.after × (last_of o.1 (seen_of q at) ≡ a.after)
  lone_call s p q at c r one b d same a o eo =
      let low = b.stands.below in
      let first : number_of p ≡ 0 = omega arith in
      let P : IsPass g.legal (opens_of s) 1 0 (seen_of p) (mine_of p) = subst (λ (z : ℕ × ℕ). IsPass g.legal (opens_of s) z.0 z.1 (seen_of p) (mine_of p)) (λ n. (one n, first n)) b.stands in
      let Q : IsPass g.legal (opens_of s) 1 0 (seen_of q) (mine_of q) = subst (λ (z : ℕ × ℕ). IsPass g.legal (opens_of s) z.0 z.1 (seen_of q) (mine_of q)) (λ n. (one n, (same ∙ first) n)) d.stands in
      let step : (n : ℕ) → n ≡ 0 → (x : Adds g.legal (opens_of s) n (seen_of p) (mine_of p) (seen_of q) (mine_of q) at c r) → g.legal o.0 n (last_of o.1 (seen_of p at)) c r x.after =
      λ n e. subst (λ (m : ℕ). (x : Adds g.legal (opens_of s) m (seen_of p) (mine_of p) (seen_of q) (mine_of q) at c r) → g.legal o.0 m (last_of o.1 (seen_of p at)) c r x.after) (sym e)
      (λ x. lone_step g.legal (opens_of s) (seen_of p) (mine_of p) (seen_of q) (mine_of q) at c r P Q x o eo) in
      (step (number_of p) first a, ap (last_of o.1) a.ends ∙ last_snoc o.1 a.before _)

has_view : {N S C R : Type 0} (vs : List (View N S C R)) (opens : List (N × S)) → (view_of vs).opens ≡ opens → 0 < length opens → length vs ≤ 1 → length vs ≡ 1
has_view [] opens e low few = let l : 0 ≡ length opens = ap length e in absurd (omega arith)
has_view (v ∷ vs) opens e low few = omega arith

-- a pass that belongs to a shelf has its seat
pub is_here : {T E I O N S C R : Type 0} {g : Ghosts T E I O N S C R} (s : Shelf T E I O N S C R) (p : Pass T E I O N S C R g) → Belongs s p → length p.badge.views ≡ 1
is_here s p b = let sized = s.sized in has_view p.badge.views (opens_of s) b.opens (omega arith) p.one

-- what a turn began with and its calls so far are one legal history
pub turn_legal : {T E I O N S C R : Type 0} {g : Ghosts T E I O N S C R} (s : Shelf T E I O N S C R) (p : Pass T E I O N S C R g) (t : Turn T E I O N S C R g) → IsTurn s p t → (o : N × S) → get_elem? (opens_of s) (place_in t) ≡ some o → IsLegal (g.legal o.0) o.1 (begun_in t ++ calls_in t)
turn_legal {N = N} {S = S} {C = C} {R = R} {g = g} s p t h o eo =
    let f = h.has.2.each o (ap (λ (l : List (N × S)). get_elem? l t.at) h.opens ∙ eo) in
    legal-append (g.legal o.0) o.1 (begun_in t) (calls_in t) (h.stands.lawful t.at o eo) (subst (IsLegal (g.legal o.0) (last_of o.1 (begun_in t))) (sym (ap calls_carried h.has.1)) f.1)

-- a call at a place of a shelf is one call at the value there
pub one_call : {N S C R : Type 0} (legal : N → ℕ → S → C → R → S → Type 0) (opens : List (N × S)) (n : ℕ) (seen mine seen' mine' : Histories S C R) (at : ℕ) (c : C) (r : R) (o : N × S) → get_elem? opens at ≡ some o
    → Adds legal opens n seen mine seen' mine' at c r → MakesAll (legal o.0) o.1 n (seen at) (mine at) (seen' at) (mine' at) ((c, r) ∷ [])
one_call legal opens n seen mine seen' mine' at c r o there a = (seen' at, mine' at, record { before = a.before; after = a.after; ends = a.ends; begins = a.begins; step = a.step o there; own = a.mine_grows }, (refl, refl))

module _ {S C R : Type 0} (legal : ℕ → S → C → R → S → Type 0) (opening : S) (n : ℕ) where
  same_start : (s m s' m' s'' m'' : List (Entry S C R)) (es : List (C × R)) → s' ≡ s → m' ≡ m → MakesAll legal opening n s' m' s'' m'' es → MakesAll legal opening n s m s'' m'' es
  same_start s m s' m' s'' m'' es e f x = subst (λ (z : List (Entry S C R) × List (Entry S C R)). MakesAll legal opening n z.0 z.1 s'' m'' es) (λ i. (e i, f i)) x

  -- calls after other calls
  pub then_calls : (s m s' m' s'' m'' : List (Entry S C R)) (es fs : List (C × R)) → MakesAll legal opening n s m s' m' es → MakesAll legal opening n s' m' s'' m'' fs → MakesAll legal opening n s m s'' m'' (es ++ fs)
  then_calls s m s' m' s'' m'' [] fs x y = same_start s m s' m' s'' m'' fs x.0 x.1 y
  then_calls s m s' m' s'' m'' (e ∷ es) fs x y = (x.0, x.1, x.2, then_calls x.0 x.1 s' m' s'' m'' es fs x.3 y)

-- the calls of one turn at a place, where there are some, are calls at the value there, one after another
module _ {N S C R : Type 0} (legal : N → ℕ → S → C → R → S → Type 0) (opens : List (N × S)) (n : ℕ) where
  -- the call and the reply of an entry
  abbrev pub told_by : Entry S C R → C × R
  told_by e = (e.call, e.reply)

  abbrev as_own : Entry S C R → Entry S C R
  as_own e = entry n e.call e.reply e.after

  runs : (o : N × S) (s m s' m' : List (Entry S C R)) (es : List (Entry S C R)) → IsLegal (legal o.0) (last_of o.1 s) es → AreBy n es → s' ≡ s ++ es → m' ≡ m ++ es → MakesAll (legal o.0) o.1 n s m s' m' (map told_by es)
  runs o s m s' m' [] lawful by hs hm = (hs ∙ append-nil s, hm ∙ append-nil m)
  runs o s m s' m' (x ∷ xs) lawful by hs hm =
      let is : x ≡ as_own x = λ i. entry (by.0 i) x.call x.reply x.after in
      let front : (l : List (Entry S C R)) → l ++ x ∷ xs ≡ (l ++ as_own x ∷ []) ++ xs = λ l. ap (λ (e : Entry S C R). l ++ e ∷ xs) is ∙ sym (append_assoc l (as_own x ∷ []) xs) in (
        s ++ as_own x ∷ [],
        m ++ as_own x ∷ [],
        record { before = s; after = x.after; ends = refl; begins = starts_refl s; step = subst (λ (k : ℕ). legal o.0 k (last_of o.1 s) x.call x.reply x.after) by.0 lawful.0; own = refl },
        runs o (s ++ as_own x ∷ []) (m ++ as_own x ∷ []) s' m' xs (subst (λ (z : S). IsLegal (legal o.0) z xs) (sym (last_snoc o.1 s (as_own x))) lawful.1) by.1 (hs ∙ front s) (hm ∙ front m),
      )

  pub all_calls : (seen mine seen' mine' : Histories S C R) (at : ℕ) (e : Entry S C R) (es : List (Entry S C R)) (o : N × S) → get_elem? opens at ≡ some o → AddsAll legal opens n seen mine seen' mine' at (e ∷ es)
      → MakesAll (legal o.0) o.1 n (seen at) (mine at) (seen' at) (mine' at) (map told_by (e ∷ es))
  all_calls seen mine seen' mine' at e es o there a =
      let r = runs o a.before (mine at) (seen' at) (mine' at) (e ∷ es) (a.steps o there) a.by a.ends a.mine_grows in
      let first = r.2 in
      (r.0, r.1, record { before = first.before; after = first.after; ends = first.ends; begins = starts_trans first.before a.before (seen at) first.begins a.begins; step = first.step; own = first.own }, r.3)

module _ {A : Type 0} where
  -- what stands where among what f makes of the items, and what it was made of
  pub map_at : {B : Type 0} (f : A → B) (xs : List A) (i : ℕ) (b : B) → get_elem? (map f xs) i ≡ some b → (x : A) × (get_elem? xs i ≡ some x) × (f x ≡ b)
  map_at f [] i b e = absurd (some-ne-none b (sym e))
  map_at f (x ∷ xs) zero b e = (x, refl, some-injective (f x) b e)
  map_at f (x ∷ xs) (suc i) b e = map_at f xs i b e

  -- and the other way
  pub at_map : {B : Type 0} (f : A → B) (xs : List A) (i : ℕ) (x : A) → get_elem? xs i ≡ some x → get_elem? (map f xs) i ≡ some (f x)
  at_map f [] i x e = absurd (some-ne-none x (sym e))
  at_map f (y ∷ ys) zero x e = ap (λ (z : A). some (f z)) (some-injective y x e)
  at_map f (y ∷ ys) (suc i) x e = at_map f ys i x e

  -- what stands in the first of two lists stands there in both together
  pub at_longer : (xs ys : List A) (i : ℕ) (x : A) → get_elem? xs i ≡ some x → get_elem? (xs ++ ys) i ≡ some x
  at_longer = Rattle.atomic_table.proofs.Lists.at_longer

  -- what was pushed last stands at the number of those before it
  pub at_last : (xs : List A) (x : A) (n : ℕ) → length xs ≡ n → get_elem? (xs ++ x ∷ []) n ≡ some x
  at_last = Rattle.atomic_table.proofs.Lists.at_last

  -- a list of two, popped twice
  pub both : (all xs ys : List A) (x y : A) → all ≡ xs ++ y ∷ [] → xs ≡ ys ++ x ∷ [] → length all ≡ 2 → (get_elem? all 0 ≡ some x) × (get_elem? all 1 ≡ some y)
  both all xs [] x y e f len = let is : all ≡ x ∷ y ∷ [] = e ∙ ap (λ (m : List A). m ++ y ∷ []) f in (ap (λ (m : List A). get_elem? m 0) is, ap (λ (m : List A). get_elem? m 1) is)
  both all xs (z ∷ zs) x y e f len = absurd (omega (arith, ap length e, ap length f, length-append xs (y ∷ []), length-append (z ∷ zs) (x ∷ [])))

  -- a list of one, popped
  pub only : (all xs : List A) (x : A) → all ≡ xs ++ x ∷ [] → length all ≡ 1 → get_elem? all 0 ≡ some x
  only all [] x e len = ap (λ (m : List A). get_elem? m 0) e
  only all (y ∷ ys) x e len = absurd (omega (arith, ap length e, length-append (y ∷ ys) (x ∷ [])))
