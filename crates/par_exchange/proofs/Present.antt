-- Who takes part is who has not left.
use Rattle.std.proofs.Common.{◌≡◌, ℕ, ◌<◌, ◌==◌, Bool, true, false, not, ◌&&◌, ◌||◌, List, [], ◌∷◌, ◌++◌, refl, sym, ap, ◌∙◌, append_assoc, append-nil, eq-eqb, ne_eqb}
use Rattle.std.specs.Prelude.{Option, Some, None}
use Rattle.std.specs.List.{list_any}
use Rattle.std.proofs.lemmas.List.Folds.{list_any-append}
use native.Mathlib.Decide.{ℕ_discrete}
use mathlib.Core.Logic.{dite}
use Rattle.lock_book.specs.History.{last_of, IsLegal}
use Rattle.par_exchange.specs.declared.history.ExchangeState.{ExchangeState}
use Rattle.par_exchange.specs.declared.history.ExchangeCall.{ExchangeCall}
use Rattle.par_exchange.specs.declared.history.ExchangeCall.TheVariants.{Bring, Give, Leave, Take}
use Rattle.par_exchange.specs.declared.history.ExchangeReply.{ExchangeReply}
use Rattle.par_exchange.specs.States.{at, fresh, is_busy, is_elected, takes_part, who}
use Rattle.par_exchange.specs.Legal.{ExchangeLegal, with_token, without}
use Rattle.par_exchange.specs.Phases.{EndsWithAll, Step, has_left, is_leave}
use Rattle.par_exchange.proofs.PlaceLaws.{all_there, left_other, left_same, who_at}
use Rattle.par_exchange.proofs.Tracks.{by_marks, ends_now}

and_true : (b : Bool) → b ≡ (b && not false)
and_true true = refl
and_true false = refl

and_false : (b : Bool) → (b && false) ≡ false
and_false true = refl
and_false false = refl

not_or : (a b : Bool) → (not a && not b) ≡ not (a || (b || false))
not_or true b = refl
not_or false true = refl
not_or false false = refl

-- a call by which its caller does not leave, and one by which it does
stays_so : (k n : ℕ) (before after : List Bool) (q : Bool) → q ≡ false → after ≡ before → takes_part k after ≡ (takes_part k before && not ((n == k) && q))
stays_so k n before after q kept same = ap (takes_part k) same ∙ (and_true (takes_part k before) ∙ ap (λ (b : Bool). takes_part k before && not b) (sym (ap (λ (b : Bool). (n == k) && b) kept ∙ and_false (n == k))))

leaves_so : (k n : ℕ) (before after : List Bool) (q : Bool) → q ≡ true → after ≡ without n before → takes_part k after ≡ (takes_part k before && not ((n == k) && q))
leaves_so k n before after q gone same = dite (ℕ_discrete k n)
    (λ is. ap (takes_part k) same ∙ (ap (λ (j : ℕ). takes_part j (without n before)) is ∙ (left_same before n ∙ sym (ap (λ (z : Bool × Bool). takes_part k before && not (z.0 && z.1)) (λ i. (eq-eqb n k (sym is) i, gone i)) ∙ and_false (takes_part k before)))))
    (λ ne. ap (takes_part k) same ∙ (left_other before n k ne ∙ (and_true (takes_part k before) ∙ ap (λ (b : Bool). takes_part k before && not (b && q)) (sym (ne_eqb n k (λ e. ne (sym e)))))))

module _ {T : Type 0} where
  here_after : (n : ℕ) (s : ExchangeState T) (c : ExchangeCall T) (r : ExchangeReply T) (t : ExchangeState T) → ExchangeLegal n s c r t → (k : ℕ) → takes_part k t.present ≡ (takes_part k s.present && not ((n == k) && is_leave r))
  here_after n s (Bring x) r t h k = busy (is_busy n s) refl
    where
      busy : (b : Bool) → is_busy n s ≡ b → takes_part k t.present ≡ (takes_part k s.present && not ((n == k) && is_leave r))
      busy true e = stays_so k n s.present t.present (is_leave r) (ap is_leave (h.refused e).0) (ap (λ (u : ExchangeState T). u.present) (h.refused e).1)
      busy false e = by_marks (who (with_token n x s.brought)) s.present
          (λ all. stays_so k n s.present t.present (is_leave r) (ap is_leave (h.ends e all).0) (ap (λ (u : ExchangeState T). u.present) (h.ends e all).1))
          (λ ne. stays_so k n s.present t.present (is_leave r) (ap is_leave (h.waits e ne).0) (ap (λ (u : ExchangeState T). u.present) (h.waits e ne).1))
  here_after n s (Give ps) r t h k = by (is_elected n s.elected) refl
    where
      by : (b : Bool) → is_elected n s.elected ≡ b → takes_part k t.present ≡ (takes_part k s.present && not ((n == k) && is_leave r))
      by true e = by_marks (who ps) s.present
          (λ all. stays_so k n s.present t.present (is_leave r) (ap is_leave (h.given e all).0) (ap (λ (u : ExchangeState T). u.present) (h.given e all).1))
          (λ ne. stays_so k n s.present t.present (is_leave r) (ap is_leave (h.unfit ne).0) (ap (λ (u : ExchangeState T). u.present) (h.unfit ne).1))
      by false e = stays_so k n s.present t.present (is_leave r) (ap is_leave (h.refused e).0) (ap (λ (u : ExchangeState T). u.present) (h.refused e).1)
  here_after n s Take r t h k = by (at s.given n) refl
    where
      by : (o : Option T) → at s.given n ≡ o → takes_part k t.present ≡ (takes_part k s.present && not ((n == k) && is_leave r))
      by None e = stays_so k n s.present t.present (is_leave r) (ap is_leave (h.nothing e).0) (ap (λ (u : ExchangeState T). u.present) (h.nothing e).1)
      by (Some x) e = stays_so k n s.present t.present (is_leave r) (ap is_leave (h.taken x e).0) (ap (λ (u : ExchangeState T). u.present) (h.taken x e).1)
  here_after n s Leave r t h k = here (takes_part n s.present) refl
    where
      used : is_busy n s ≡ false → (b : Bool) → list_any (λ (m : Bool). m) (without n s.present) ≡ b → takes_part k t.present ≡ (takes_part k s.present && not ((n == k) && is_leave r))
      used f false e = leaves_so k n s.present t.present (is_leave r) (ap is_leave (h.last f e).0) (ap (λ (u : ExchangeState T). u.present) (h.last f e).1)
      used f true e = by_marks (who s.brought) (without n s.present)
          (λ all. leaves_so k n s.present t.present (is_leave r) (ap is_leave (h.ends f e all).0) (ap (λ (u : ExchangeState T). u.present) (h.ends f e all).1))
          (λ ne. leaves_so k n s.present t.present (is_leave r) (ap is_leave (h.left f e ne).0) (ap (λ (u : ExchangeState T). u.present) (h.left f e ne).1))

      busy : takes_part n s.present ≡ true → (b : Bool) → is_busy n s ≡ b → takes_part k t.present ≡ (takes_part k s.present && not ((n == k) && is_leave r))
      busy p true e = stays_so k n s.present t.present (is_leave r) (ap is_leave (h.busy p e).0) (ap (λ (u : ExchangeState T). u.present) (h.busy p e).1)
      busy p false e = used e (list_any (λ (m : Bool). m) (without n s.present)) refl

      here : (b : Bool) → takes_part n s.present ≡ b → takes_part k t.present ≡ (takes_part k s.present && not ((n == k) && is_leave r))
      here false e = stays_so k n s.present t.present (is_leave r) (ap is_leave (h.gone e).0) (ap (λ (u : ExchangeState T). u.present) (h.gone e).1)
      here true e = busy e (is_busy n s) refl

  left_snoc : (k : ℕ) (es : List (Step T)) (e : Step T) → (not (has_left k es) && not ((e.by == k) && is_leave e.reply)) ≡ not (has_left k (es ++ e ∷ []))
  left_snoc k es e = not_or (has_left k es) ((e.by == k) && is_leave e.reply) ∙ ap not (sym (list_any-append (λ (x : Step T). (x.by == k) && is_leave x.reply) es (e ∷ [])))

  present_all : (k : ℕ) (s : ExchangeState T) (before es : List (Step T)) → takes_part k s.present ≡ not (has_left k before) → IsLegal ExchangeLegal s es → takes_part k (last_of s es).present ≡ not (has_left k (before ++ es))
  present_all k s before [] is h = is ∙ ap (λ (l : List (Step T)). not (has_left k l)) (sym (append-nil before))
  present_all k s before (e ∷ es) is h =
      let next = here_after e.by s e.call e.reply e.after h.0 k ∙ (ap (λ (b : Bool). b && not ((e.by == k) && is_leave e.reply)) is ∙ left_snoc k before e) in
      present_all k e.after (before ++ e ∷ []) es next h.1 ∙ ap (λ (l : List (Step T)). not (has_left k l)) (append_assoc before (e ∷ []) es)

  -- who takes part after a history
  pub present_at : (parties k : ℕ) → k < parties → (es : List (Step T)) → IsLegal ExchangeLegal (fresh parties) es → takes_part k (last_of (fresh parties) es).present ≡ not (has_left k es)
  present_at parties k low es h = present_all k (fresh parties) [] es (all_there parties k low) h

  pub last-snoc : (s : ExchangeState T) (es : List (Step T)) (e : Step T) → last_of s (es ++ e ∷ []) ≡ e.after
  last-snoc s [] e = refl
  last-snoc s (x ∷ es) e = last-snoc x.after es e

  pub ends_with_all : EndsWithAll T
  ends_with_all parties front e places h is k low =
      let all = (ends_now parties front e h places is).1 in
      sym (who_at places k) ∙ (ap (takes_part k) (all ∙ ap (λ (u : ExchangeState T). u.present) (sym (last-snoc (fresh parties) front e))) ∙ present_at parties k low (front ++ e ∷ []) h)
