-- One pass of a row attaches, and then the next.
use Rattle.std.proofs.Common.{◌≡◌, ◌≢◌, ◌⊎◌, inl, inr, ℕ, zero, suc, ◌+◌, ◌<◌, ◌≤◌, Bool, true, false, List, [], ◌∷◌, length, set, refl, sym, ap, ◌∙◌, subst, arith}
use Rattle.std.proofs.lemmas.List.{length-set}
use mathlib.Core.Option.{some, some-injective, some-ne-none}
use lib.ListN.{get_elem?}
use Rattle.atomic_table.proofs.Lists.{at_set}
use Rattle.lock_book.specs.History.{entry, last_of}
use Rattle.lock_book.proofs.Histories.{last_snoc}
use Rattle.par_barrier.specs.declared.barrier.Barrier.{Barrier}
use Rattle.par_barrier.specs.declared.barrier.BarrierPass.{BarrierPass}
use Rattle.par_barrier.specs.declared.history.BarrierState.{BarrierState}
use Rattle.par_barrier.specs.declared.history.BarrierReply.{BarrierReply}
use Rattle.par_barrier.specs.declared.history.BarrierCall.TheVariants.{Attach}
use Rattle.par_barrier.specs.Legal.{Attaches}
use Rattle.par_barrier.specs.Parties.{is_among, nobody}
use Rattle.par_barrier.specs.Shown.{AreAll, Belongs, HasAttached, TakesPart, attach_reply, history_of, number_of}
use Rattle.par_barrier.proofs.Members.{among-pushed}

-- what stands in a row stands within it
pub below : (l : List BarrierPass) (k : ℕ) (p : BarrierPass) → get_elem? l k ≡ some p → k < length l
below [] k p e = absurd (some-ne-none p (sym e))
below (x ∷ xs) zero p e = omega arith
below (x ∷ xs) (suc k) p e = let lt = below xs k p e in omega arith

-- whoever called to attach takes part
in_after : (n : ℕ) (s : BarrierState) (r : BarrierReply) (t : BarrierState) → Attaches n s r t → (b : Bool) → is_among n s.attached ≡ b → is_among n t.attached ≡ true
in_after n s r t a true e = ap (λ (u : BarrierState). is_among n u.attached) (a.refused e).1 ∙ e
in_after n s r t a false e = ap (λ (u : BarrierState). is_among n u.attached) (a.attached e).1 ∙ among-pushed n s.attached

pub takes_part : (p q : BarrierPass) → HasAttached p q → number_of q ≡ number_of p → TakesPart q
takes_part p q h same =
    let a = h.1 in
    let after : last_of nobody (history_of q) ≡ a.after = ap (last_of nobody) a.ends ∙ last_snoc nobody a.before (entry (number_of p) Attach (attach_reply h.0) a.after) in
    ap (λ (z : ℕ × BarrierState). is_among z.0 z.1.attached) (λ i. (same i, after i)) ∙ in_after (number_of p) (last_of nobody a.before) (attach_reply h.0) a.after a.step (is_among (number_of p) (last_of nobody a.before).attached) refl

module _ (b : Barrier) (olds passes : List BarrierPass) (i : ℕ) (p q : BarrierPass) (at : get_elem? passes i ≡ some p) (all : AreAll b passes)
    (done : (k : ℕ) (x y : BarrierPass) → k < i → get_elem? olds k ≡ some x → get_elem? passes k ≡ some y → HasAttached x y × TakesPart y)
    (rest : (k : ℕ) (y : BarrierPass) → i ≤ k → get_elem? passes k ≡ some y → get_elem? olds k ≡ some y)
    (own : Belongs b q × (number_of q ≡ number_of p)) (did : HasAttached p q) where
  pub all_next : AreAll b (set passes i q)
  all_next = record {
    count = length-set passes i q ∙ all.count;
    each = λ k x e. by k x (at_set passes i k q x e);
  }
    where
      by : (k : ℕ) (x : BarrierPass) → ((k ≡ i) × (q ≡ x)) ⊎ ((k ≢ i) × (get_elem? passes k ≡ some x)) → Belongs b x × (number_of x ≡ k)
      by k x (inl e) = subst (λ (y : BarrierPass). Belongs b y × (number_of y ≡ k)) e.1 (own.0, own.1 ∙ ((all.each i p at).1 ∙ sym e.0))
      by k x (inr e) = all.each k x e.1

  pub done_next : (k : ℕ) (x y : BarrierPass) → k < i + 1 → get_elem? olds k ≡ some x → get_elem? (set passes i q) k ≡ some y → HasAttached x y × TakesPart y
  done_next k x y low old e = by (at_set passes i k q y e)
    where
      first : k ≡ i → p ≡ x
      first same = some-injective p x (sym (rest i p (omega arith) at) ∙ (ap (get_elem? olds) (sym same) ∙ old))

      by : ((k ≡ i) × (q ≡ y)) ⊎ ((k ≢ i) × (get_elem? passes k ≡ some y)) → HasAttached x y × TakesPart y
      by (inl h) = subst (λ (z : BarrierPass × BarrierPass). HasAttached z.0 z.1 × TakesPart z.1) (λ n. (first h.0 n, h.1 n)) (did, takes_part p q did own.1)
      by (inr h) = let ne = h.0 in done k x y (omega arith) old h.1

  pub rest_next : (k : ℕ) (y : BarrierPass) → i + 1 ≤ k → get_elem? (set passes i q) k ≡ some y → get_elem? olds k ≡ some y
  rest_next k y high e = by (at_set passes i k q y e)
    where
      by : ((k ≡ i) × (q ≡ y)) ⊎ ((k ≢ i) × (get_elem? passes k ≡ some y)) → get_elem? olds k ≡ some y
      by (inl h) = let same = h.0 in absurd (omega arith)
      by (inr h) = rest k y (omega arith) h.1
