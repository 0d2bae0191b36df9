-- What a lone caller has seen of a value is its own calls, so the value goes from one state to the next by them.
use Rattle.std.proofs.Common.{◌≡◌, ◌∙◌, ℕ, ◌+◌, ◌≤◌, List, [], ◌∷◌, ◌++◌, length, length-append, refl, ap, sym, subst, arith}
use Rattle.lock_book.specs.declared.view.Entry.{Entry}
use Rattle.lock_book.specs.History.{calls_by, entry, last_of}
use Rattle.lock_book.specs.Told.{Histories, IsPass, MakesAll}
use Rattle.lock_book.proofs.Histories.{last_snoc}
use Rattle.lock_book.proofs.Uses.{lone}

module _ {S C R : Type 0} where
  append-nil : (xs : List (Entry S C R)) → xs ++ [] ≡ xs
  append-nil [] = refl
  append-nil (x ∷ xs) = ap (λ (l : List (Entry S C R)). x ∷ l) (append-nil xs)

  of-length : (xs : List (Entry S C R)) → length xs ≤ 0 → xs ≡ []
  of-length [] few = refl
  of-length (x ∷ xs) few = absurd (omega (arith, few))

  -- a list that begins with another and is no longer
  no-longer : (xs ys zs : List (Entry S C R)) → xs ≡ ys ++ zs → length xs ≤ length ys → xs ≡ ys
  no-longer xs ys zs is few =
      let long = ap length is ∙ length-append ys zs in
      is ∙ (ap (λ (l : List (Entry S C R)). ys ++ l) (of-length zs (omega (arith, long, few))) ∙ append-nil ys)

module _ {S C R : Type 0} (legal : ℕ → S → C → R → S → Type 0) (n : ℕ) where
  -- by these calls of the caller n, in order, from one state to another
  abbrev pub Steps : S → List (C × R) → S → Type 0
  Steps s [] t = t ≡ s
  Steps s (e ∷ es) t = (u : S) × legal n s e.0 e.1 u × Steps u es t

module _ {S C R : Type 0} (legal : ℕ → S → C → R → S → Type 0) (opening : S) (n : ℕ) where
  seen-grows : (seen mine seen' mine' : List (Entry S C R)) (es : List (C × R)) → MakesAll legal opening n seen mine seen' mine' es → length seen + length es ≤ length seen'
  seen-grows seen mine seen' mine' [] x = omega (arith, ap length x.0)
  seen-grows seen mine seen' mine' (e ∷ es) x =
      let m = x.2 in
      let ends = ap length m.ends ∙ length-append m.before (entry n e.0 e.1 m.after ∷ []) in
      let begins = ap length m.begins.1 ∙ length-append seen m.begins.0 in
      omega (arith, seen-grows x.0 x.1 seen' mine' es x.3, ends, begins)

  own-grows : (seen mine seen' mine' : List (Entry S C R)) (es : List (C × R)) → MakesAll legal opening n seen mine seen' mine' es → length mine' ≡ length mine + length es
  own-grows seen mine seen' mine' [] x = omega (arith, ap length x.1)
  own-grows seen mine seen' mine' (e ∷ es) x =
      let own = ap length x.2.own ∙ length-append mine (entry n e.0 e.1 x.2.after ∷ []) in
      omega (arith, own-grows x.0 x.1 seen' mine' es x.3, own)

  -- where the history grows by no more than these calls, they follow one another
  steps-between : (seen mine seen' mine' : List (Entry S C R)) (es : List (C × R)) → MakesAll legal opening n seen mine seen' mine' es → length seen' ≡ length seen + length es
      → Steps legal n (last_of opening seen) es (last_of opening seen')
  steps-between seen mine seen' mine' [] x long = ap (last_of opening) x.0
  steps-between seen mine seen' mine' (e ∷ es) x long =
      let m = x.2 in
      let call = entry n e.0 e.1 m.after in
      let ends = ap length m.ends ∙ length-append m.before (call ∷ []) in
      let begins = ap length m.begins.1 ∙ length-append seen m.begins.0 in
      let rest = seen-grows x.0 x.1 seen' mine' es x.3 in
      let before : m.before ≡ seen = no-longer m.before seen m.begins.0 m.begins.1 (omega (arith, ends, rest, long)) in
      let after : last_of opening x.0 ≡ m.after = ap (last_of opening) m.ends ∙ last_snoc opening m.before call in
      let step : legal n (last_of opening seen) e.0 e.1 (last_of opening x.0) =
      subst (λ (t : S). legal n (last_of opening seen) e.0 e.1 t) (sym after) (subst (λ (l : List (Entry S C R)). legal n (last_of opening l) e.0 e.1 m.after) before m.step) in
      (last_of opening x.0, step, steps-between x.0 x.1 seen' mine' es x.3 (omega (arith, ends, begins, rest, long, ap length before)))

module _ {N S C R : Type 0} (legal : N → ℕ → S → C → R → S → Type 0) (opens : List (N × S)) (callers n : ℕ) (one : callers ≡ 1) where
  -- what a lone caller has seen of a value is as long as its own calls there
  own-long : (seen mine : Histories S C R) → IsPass legal opens callers n seen mine → (k : ℕ) → length (seen k) ≡ length (mine k)
  own-long seen mine p k =
      let few : (m : ℕ) → 1 ≤ m → calls_by m (seen k) ≡ [] = λ m le. p.bounded k m (omega (arith, le, one)) in
      let first : n ≡ 0 = let low = p.below in omega (arith, low, one) in
      ap length (sym (lone (seen k) few) ∙ (ap (λ (m : ℕ). calls_by m (seen k)) (sym first) ∙ p.own k))

  -- so its calls of a value lead from the state that it had seen to the one that it has seen then
  pub lone-steps : (seen mine seen' mine' : Histories S C R) → IsPass legal opens callers n seen mine → IsPass legal opens callers n seen' mine' → (k : ℕ) (turn : ℕ → S → C → R → S → Type 0) (opening : S) (es : List (C × R))
      → MakesAll turn opening n (seen k) (mine k) (seen' k) (mine' k) es → Steps turn n (last_of opening (seen k)) es (last_of opening (seen' k))
  lone-steps seen mine seen' mine' p q k turn opening es x =
      steps-between turn opening n (seen k) (mine k) (seen' k) (mine' k) es x
      (omega (arith, own-long seen mine p k, own-long seen' mine' q k, own-grows turn opening n (seen k) (mine k) (seen' k) (mine' k) es x))
