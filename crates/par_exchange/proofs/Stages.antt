-- The stage of a party by its own calls is its stage in the state, whatever the others do.
use Rattle.std.proofs.Common.{◌≡◌, ◌≢◌, ℕ, ◌<◌, ◌==◌, Bool, true, false, cond, List, [], ◌∷◌, ◌++◌, refl, sym, ap, ◌∙◌, subst, eq-eqb, eqb-true, ne_eqb}
use Rattle.std.specs.Prelude.{Option, Some, None, is_some, slice_set}
use Rattle.std.specs.List.{list_any}
use native.Mathlib.Decide.{ℕ_discrete}
use mathlib.Core.Logic.{dite}
use Rattle.lock_book.specs.History.{calls_by, last_of, IsLegal}
use Rattle.par_exchange.specs.declared.history.ExchangeState.{ExchangeState}
use Rattle.par_exchange.specs.declared.history.ExchangeCall.{ExchangeCall}
use Rattle.par_exchange.specs.declared.history.ExchangeCall.TheVariants.{Bring, Give, Leave, Take}
use Rattle.par_exchange.specs.declared.history.ExchangeReply.{ExchangeReply}
use Rattle.par_exchange.specs.declared.history.ExchangeReply.TheVariants as reply
use Rattle.par_exchange.specs.declared.history.PartyStage.{PartyStage}
use Rattle.par_exchange.specs.declared.history.PartyStage.TheVariants.{Free, Waits, Elected, Leaving, Gone}
use Rattle.par_exchange.specs.States.{at, fresh, is_busy, is_elected, takes_part, who}
use Rattle.par_exchange.specs.Legal.{ExchangeLegal, with_token, without}
use Rattle.par_exchange.specs.Phases.{Step, is_end, stage_after, stage_from, stage_given}
use Rattle.par_exchange.proofs.PlaceLaws.{all_there, at_fresh, at_other, at_same, at_within, left_other, left_same, not_missing, some-none, true-false}
use Rattle.par_exchange.proofs.Tracks.{IsFreeAt, Tracks, busy_not, by_marks, elected_some, free_at, nobody-elected, tracks, tracks_fresh}

-- the party n is at this stage in the state s
abbrev pub StandsAt : {T : Type 0} → ℕ → ExchangeState T → PartyStage → Type 0
StandsAt n s Free = is_busy n s ≡ false
StandsAt n s Waits = Unit {0}
StandsAt n s (Elected all) = (is_elected n s.elected ≡ true) × (takes_part n s.present ≡ true) × (s.present ≡ all)
StandsAt n s (Leaving all) = (is_elected n s.elected ≡ true) × (takes_part n s.present ≡ false) × (s.present ≡ all)
StandsAt n s Gone = (is_elected n s.elected ≡ false) × (takes_part n s.present ≡ false)

module _ {T : Type 0} where
  taken_free : (parties : ℕ) (s : ExchangeState T) (P : List (Step T)) → Tracks parties s P → (n : ℕ) (x : T) (t : ExchangeState T) → at s.given n ≡ Some x → t ≡ record s { given = slice_set s.given n None } → is_busy n t ≡ false
  taken_free parties s P tr n x t h same = subst (λ (u : ExchangeState T). is_busy n u ≡ false) (sym same) (busy_not n (record s { given = slice_set s.given n None }) (record {
    nobody = by (is_some s.elected) refl;
    none_brought = (tr.turn n x h).0;
    none_given = at_same s.given n None (at_within s.given n x h);
    here = (tr.turn n x h).1;
  }))
    where
      by : (b : Bool) → is_some s.elected ≡ b → is_some s.elected ≡ false
      by true e = absurd (some-none x (sym h ∙ (tr.held e).2 n))
      by false e = e

  -- the stage of a party that gives
  gave : (n : ℕ) (s t : ExchangeState T) (ps : List (Option T)) (st : PartyStage) → is_elected n s.elected ≡ true → t ≡ record s { given = ps; elected = None } → StandsAt n s st → StandsAt n t (stage_given st)
  gave n s t ps Free held same a = tt
  gave n s t ps Waits held same a = tt
  gave n s t ps (Elected all) held same a = tt
  gave n s t ps (Leaving all) held same a = (ap (λ (u : ExchangeState T). is_elected n u.elected) same, ap (λ (u : ExchangeState T). takes_part n u.present) same ∙ a.1)
  gave n s t ps Gone held same a = absurd (true-false (is_elected n s.elected) held a.0)

  -- a reply that leaves the party where it is, in a state that is as it was
  module _ (n : ℕ) (s t : ExchangeState T) (st : PartyStage) (a : StandsAt n s st) where
    stays : (r q : ExchangeReply T) → stage_after st q ≡ st → (r ≡ q) × (t ≡ s) → StandsAt n t (stage_after st r)
    stays r q still k = subst (StandsAt n t) (sym (ap (stage_after st) k.0 ∙ still)) (subst (λ (u : ExchangeState T). StandsAt n u st) (sym k.1) a)

    to : (r q : ExchangeReply T) → r ≡ q → StandsAt n t (stage_after st q) → StandsAt n t (stage_after st r)
    to r q e b = subst (λ (x : ExchangeReply T). StandsAt n t (stage_after st x)) (sym e) b

  -- a call of the party's own
  pub own_stage : (parties : ℕ) (s : ExchangeState T) (P : List (Step T)) → Tracks parties s P → (n : ℕ) (c : ExchangeCall T) (r : ExchangeReply T) (t : ExchangeState T) (st : PartyStage) → ExchangeLegal n s c r t → StandsAt n s st → StandsAt n t (stage_after st r)
  own_stage parties s P tr n (Bring x) r t st h a = busy (is_busy n s) refl
    where
      busy : (b : Bool) → is_busy n s ≡ b → StandsAt n t (stage_after st r)
      busy true e = stays n s t st a r reply.Refused refl (h.refused e)
      busy false e = by_marks (who (with_token n x s.brought)) s.present
          (λ all.
          let k = h.ends e all in
          to n s t st a r (reply.Collected (with_token n x s.brought)) k.0 (
            ap (λ (u : ExchangeState T). is_elected n u.elected) k.1 ∙ eq-eqb n n refl,
            ap (λ (u : ExchangeState T). takes_part n u.present) k.1 ∙ (free_at n s e).here,
            ap (λ (u : ExchangeState T). u.present) k.1 ∙ sym all,
          ))
          (λ ne. to n s t st a r reply.Waiting (h.waits e ne).0 tt)
  own_stage parties s P tr n (Give ps) r t st h a = by (is_elected n s.elected) refl
    where
      by : (b : Bool) → is_elected n s.elected ≡ b → StandsAt n t (stage_after st r)
      by true e = by_marks (who ps) s.present
          (λ all. let k = h.given e all in to n s t st a r reply.Given k.0 (gave n s t ps st e k.1 a))
          (λ ne. stays n s t st a r reply.Refused refl (h.unfit ne))
      by false e = stays n s t st a r reply.Refused refl (h.refused e)
  own_stage parties s P tr n Take r t st h a = by (at s.given n) refl
    where
      by : (o : Option T) → at s.given n ≡ o → StandsAt n t (stage_after st r)
      by None e = stays n s t st a r reply.Nothing refl (h.nothing e)
      by (Some x) e = let k = h.taken x e in to n s t st a r (reply.Taken x) k.0 (taken_free parties s P tr n x t e k.1)
  own_stage parties s P tr n Leave r t st h a = here (takes_part n s.present) refl
    where
      gone : (b : Bool) → is_busy n s ≡ false → (r ≡ reply.Left b) × (t ≡ record s { present = without n s.present }) → StandsAt n t (stage_after st r)
      gone b f k = to n s t st a r (reply.Left b) k.0 (
        ap (λ (u : ExchangeState T). is_elected n u.elected) k.1 ∙ nobody-elected n s.elected (free_at n s f).nobody,
        ap (λ (u : ExchangeState T). takes_part n u.present) k.1 ∙ left_same s.present n,
      )

      used : is_busy n s ≡ false → (b : Bool) → list_any (λ (m : Bool). m) (without n s.present) ≡ b → StandsAt n t (stage_after st r)
      used f false e = gone true f (h.last f e)
      used f true e = by_marks (who s.brought) (without n s.present)
          (λ all.
          let k = h.ends f e all in
          to n s t st a r (reply.Leaving s.brought) k.0 (
            ap (λ (u : ExchangeState T). is_elected n u.elected) k.1 ∙ eq-eqb n n refl,
            ap (λ (u : ExchangeState T). takes_part n u.present) k.1 ∙ left_same s.present n,
            ap (λ (u : ExchangeState T). u.present) k.1 ∙ sym all,
          ))
          (λ ne. gone false f (h.left f e ne))

      busy : takes_part n s.present ≡ true → (b : Bool) → is_busy n s ≡ b → StandsAt n t (stage_after st r)
      busy p true e = stays n s t st a r reply.Refused refl (h.busy p e)
      busy p false e = used e (list_any (λ (m : Bool). m) (without n s.present)) refl

      here : (b : Bool) → takes_part n s.present ≡ b → StandsAt n t (stage_after st r)
      here false e = stays n s t st a r reply.Gone refl (h.gone e)
      here true e = busy e (is_busy n s) refl

module _ {T : Type 0} (s : ExchangeState T) (n m : ℕ) (ne : n ≢ m) where
  -- a call of another party, if this one may bring a token
  free_stays : (c : ExchangeCall T) (r : ExchangeReply T) (t : ExchangeState T) → ExchangeLegal m s c r t → is_busy n s ≡ false → is_busy n t ≡ false
  free_stays (Bring x) r t h a = busy (is_busy m s) refl
    where
      p : IsFreeAt n s
      p = free_at n s a

      busy : (b : Bool) → is_busy m s ≡ b → is_busy n t ≡ false
      busy true e = ap (is_busy n) (h.refused e).1 ∙ a
      busy false e = by_marks (who (with_token m x s.brought)) s.present
          (λ all. absurd (not_missing (with_token m x s.brought) s.present n all p.here (at_other s.brought m n (Some x) ne ∙ p.none_brought)))
          (λ q. ap (is_busy n) (h.waits e q).1 ∙ busy_not n (record s { brought = with_token m x s.brought }) (record { nobody = p.nobody; none_brought = at_other s.brought m n (Some x) ne ∙ p.none_brought; none_given = p.none_given; here = p.here }))
  free_stays (Give ps) r t h a = by (is_elected m s.elected) refl
    where
      by : (b : Bool) → is_elected m s.elected ≡ b → is_busy n t ≡ false
      by true e = absurd (true-false (is_some s.elected) (elected_some m s.elected e) (free_at n s a).nobody)
      by false e = ap (is_busy n) (h.refused e).1 ∙ a
  free_stays Take r t h a = by (at s.given m) refl
    where
      p : IsFreeAt n s
      p = free_at n s a

      by : (o : Option T) → at s.given m ≡ o → is_busy n t ≡ false
      by None e = ap (is_busy n) (h.nothing e).1 ∙ a
      by (Some x) e = ap (is_busy n) (h.taken x e).1 ∙ busy_not n (record s { given = slice_set s.given m None }) (record { nobody = p.nobody; none_brought = p.none_brought; none_given = at_other s.given m n None ne ∙ p.none_given; here = p.here })
  free_stays Leave r t h a = here (takes_part m s.present) refl
    where
      p : IsFreeAt n s
      p = free_at n s a

      still : takes_part n (without m s.present) ≡ true
      still = left_other s.present m n ne ∙ p.here

      gone : t ≡ record s { present = without m s.present } → is_busy n t ≡ false
      gone same = ap (is_busy n) same ∙ busy_not n (record s { present = without m s.present }) (record { nobody = p.nobody; none_brought = p.none_brought; none_given = p.none_given; here = still })

      used : is_busy m s ≡ false → (b : Bool) → list_any (λ (q : Bool). q) (without m s.present) ≡ b → is_busy n t ≡ false
      used f false e = gone (h.last f e).1
      used f true e = by_marks (who s.brought) (without m s.present)
          (λ all. absurd (not_missing s.brought (without m s.present) n all still p.none_brought))
          (λ q. gone (h.left f e q).1)

      busy : takes_part m s.present ≡ true → (b : Bool) → is_busy m s ≡ b → is_busy n t ≡ false
      busy q true e = ap (is_busy n) (h.busy q e).1 ∙ a
      busy q false e = used e (list_any (λ (q : Bool). q) (without m s.present)) refl

      here : (b : Bool) → takes_part m s.present ≡ b → is_busy n t ≡ false
      here false e = ap (is_busy n) (h.gone e).1 ∙ a
      here true e = busy e (is_busy m s) refl

  one_elected : (o : Option ℕ) → is_elected n o ≡ true → is_elected m o ≡ true → ⊥
  one_elected None e f = absurd (cc)
  one_elected (Some k) e f = ne (sym (eqb-true k n e) ∙ eqb-true k m f)

  -- and if it is elected
  elected_stays : (c : ExchangeCall T) (r : ExchangeReply T) (t : ExchangeState T) → ExchangeLegal m s c r t → is_elected n s.elected ≡ true → (is_elected n t.elected ≡ true) × (t.present ≡ s.present)
  elected_stays c r t h a = by c h
    where
      same : t ≡ s → (is_elected n t.elected ≡ true) × (t.present ≡ s.present)
      same k = (ap (λ (u : ExchangeState T). is_elected n u.elected) k ∙ a, ap (λ (u : ExchangeState T). u.present) k)

      none_free : is_busy m s ≡ false → ⊥
      none_free e = true-false (is_some s.elected) (elected_some n s.elected a) (free_at m s e).nobody

      by : (c : ExchangeCall T) → ExchangeLegal m s c r t → (is_elected n t.elected ≡ true) × (t.present ≡ s.present)
      by (Bring x) h = busy (is_busy m s) refl
        where
          busy : (b : Bool) → is_busy m s ≡ b → (is_elected n t.elected ≡ true) × (t.present ≡ s.present)
          busy true e = same (h.refused e).1
          busy false e = absurd (none_free e)
      by (Give ps) h = gives (is_elected m s.elected) refl
        where
          gives : (b : Bool) → is_elected m s.elected ≡ b → (is_elected n t.elected ≡ true) × (t.present ≡ s.present)
          gives true e = absurd (one_elected s.elected a e)
          gives false e = same (h.refused e).1
      by Take h = takes (at s.given m) refl
        where
          takes : (o : Option T) → at s.given m ≡ o → (is_elected n t.elected ≡ true) × (t.present ≡ s.present)
          takes None e = same (h.nothing e).1
          takes (Some x) e = let k = (h.taken x e).1 in (ap (λ (u : ExchangeState T). is_elected n u.elected) k ∙ a, ap (λ (u : ExchangeState T). u.present) k)
      by Leave h = here (takes_part m s.present) refl
        where
          busy : takes_part m s.present ≡ true → (b : Bool) → is_busy m s ≡ b → (is_elected n t.elected ≡ true) × (t.present ≡ s.present)
          busy q true e = same (h.busy q e).1
          busy q false e = absurd (none_free e)

          here : (b : Bool) → takes_part m s.present ≡ b → (is_elected n t.elected ≡ true) × (t.present ≡ s.present)
          here false e = same (h.gone e).1
          here true e = busy e (is_busy m s) refl

  other_elected : (b : Bool) → (m == n) ≡ b → b ≡ false
  other_elected true e = absurd (ne (sym (eqb-true m n e)))
  other_elected false e = refl

  -- and if it has left
  gone_stays : (c : ExchangeCall T) (r : ExchangeReply T) (t : ExchangeState T) → ExchangeLegal m s c r t → StandsAt n s Gone → StandsAt n t Gone
  gone_stays c r t h a = by c h
    where
      same : t ≡ s → StandsAt n t Gone
      same k = subst (λ (u : ExchangeState T). StandsAt n u Gone) (sym k) a

      other : (m == n) ≡ false
      other = other_elected (m == n) refl

      by : (c : ExchangeCall T) → ExchangeLegal m s c r t → StandsAt n t Gone
      by (Bring x) h = busy (is_busy m s) refl
        where
          busy : (b : Bool) → is_busy m s ≡ b → StandsAt n t Gone
          busy true e = same (h.refused e).1
          busy false e = by_marks (who (with_token m x s.brought)) s.present
              (λ all. let k = (h.ends e all).1 in (ap (λ (u : ExchangeState T). is_elected n u.elected) k ∙ other, ap (λ (u : ExchangeState T). takes_part n u.present) k ∙ a.1))
              (λ q. let k = (h.waits e q).1 in (ap (λ (u : ExchangeState T). is_elected n u.elected) k ∙ a.0, ap (λ (u : ExchangeState T). takes_part n u.present) k ∙ a.1))
      by (Give ps) h = gives (is_elected m s.elected) refl
        where
          gives : (b : Bool) → is_elected m s.elected ≡ b → StandsAt n t Gone
          gives true e = by_marks (who ps) s.present
              (λ all. let k = (h.given e all).1 in (ap (λ (u : ExchangeState T). is_elected n u.elected) k, ap (λ (u : ExchangeState T). takes_part n u.present) k ∙ a.1))
              (λ q. same (h.unfit q).1)
          gives false e = same (h.refused e).1
      by Take h = takes (at s.given m) refl
        where
          takes : (o : Option T) → at s.given m ≡ o → StandsAt n t Gone
          takes None e = same (h.nothing e).1
          takes (Some x) e = let k = (h.taken x e).1 in (ap (λ (u : ExchangeState T). is_elected n u.elected) k ∙ a.0, ap (λ (u : ExchangeState T). takes_part n u.present) k ∙ a.1)
      by Leave h = here (takes_part m s.present) refl
        where
          out : takes_part n (without m s.present) ≡ false
          out = left_other s.present m n ne ∙ a.1

          gone : t ≡ record s { present = without m s.present } → StandsAt n t Gone
          gone k = (ap (λ (u : ExchangeState T). is_elected n u.elected) k ∙ a.0, ap (λ (u : ExchangeState T). takes_part n u.present) k ∙ out)

          used : is_busy m s ≡ false → (b : Bool) → list_any (λ (q : Bool). q) (without m s.present) ≡ b → StandsAt n t Gone
          used f false e = gone (h.last f e).1
          used f true e = by_marks (who s.brought) (without m s.present)
              (λ all. let k = (h.ends f e all).1 in (ap (λ (u : ExchangeState T). is_elected n u.elected) k ∙ other, ap (λ (u : ExchangeState T). takes_part n u.present) k ∙ out))
              (λ q. gone (h.left f e q).1)

          busy : takes_part m s.present ≡ true → (b : Bool) → is_busy m s ≡ b → StandsAt n t Gone
          busy q true e = same (h.busy q e).1
          busy q false e = used e (list_any (λ (q : Bool). q) (without m s.present)) refl

          here : (b : Bool) → takes_part m s.present ≡ b → StandsAt n t Gone
          here false e = same (h.gone e).1
          here true e = busy e (is_busy m s) refl

  pub other_stage : (c : ExchangeCall T) (r : ExchangeReply T) (t : ExchangeState T) (st : PartyStage) → ExchangeLegal m s c r t → StandsAt n s st → StandsAt n t st
  other_stage c r t Free h a = free_stays c r t h a
  other_stage c r t Waits h a = tt
  other_stage c r t (Elected all) h a = let k = elected_stays c r t h a.0 in (k.0, ap (takes_part n) k.1 ∙ a.1, k.1 ∙ a.2)
  other_stage c r t (Leaving all) h a = let k = elected_stays c r t h a.0 in (k.0, ap (takes_part n) k.1 ∙ a.1, k.1 ∙ a.2)
  other_stage c r t Gone h a = gone_stays c r t h a

module _ {T : Type 0} where
  own-next : (n : ℕ) (s : ExchangeState T) (e : Step T) (es : List (Step T)) (st : PartyStage) → e.by ≡ n → StandsAt n (last_of e.after es) (stage_from (stage_after st e.reply) (calls_by n es)) → StandsAt n (last_of e.after es) (stage_from st (calls_by n (e ∷ es)))
  own-next n s e es st is a = subst (λ (b : Bool). StandsAt n (last_of e.after es) (stage_from st (cond b (e ∷ calls_by n es) (calls_by n es)))) (sym (eq-eqb e.by n is)) a

  other-next : (n : ℕ) (s : ExchangeState T) (e : Step T) (es : List (Step T)) (st : PartyStage) → e.by ≢ n → StandsAt n (last_of e.after es) (stage_from st (calls_by n es)) → StandsAt n (last_of e.after es) (stage_from st (calls_by n (e ∷ es)))
  other-next n s e es st ne a = subst (λ (b : Bool). StandsAt n (last_of e.after es) (stage_from st (cond b (e ∷ calls_by n es) (calls_by n es)))) (sym (ne_eqb e.by n ne)) a

  -- all calls of a history
  pub staged : (parties n : ℕ) → (s : ExchangeState T) (P es : List (Step T)) (st : PartyStage) → Tracks parties s P → IsLegal ExchangeLegal s es → StandsAt n s st → StandsAt n (last_of s es) (stage_from st (calls_by n es))
  staged parties n s P [] st tr h a = a
  staged parties n s P (e ∷ es) st tr h a =
      let P' = cond (is_end e.reply) [] (P ++ e ∷ []) in
      let next = tracks parties s P tr e.by e.call e.reply e.after h.0 in
      dite (ℕ_discrete e.by n)
      (λ is. own-next n s e es st is (staged parties n e.after P' es (stage_after st e.reply) next h.1 (own_stage parties s P tr n e.call e.reply e.after st (subst (λ (k : ℕ). ExchangeLegal k s e.call e.reply e.after) is h.0) a)))
      (λ ne. other-next n s e es st ne (staged parties n e.after P' es st next h.1 (other_stage s n e.by (λ q. ne (sym q)) e.call e.reply e.after st h.0 a)))

  free_fresh : (parties n : ℕ) → n < parties → (s : ExchangeState T) → s ≡ fresh parties → is_busy n s ≡ false
  free_fresh parties n low s e = subst (λ (u : ExchangeState T). is_busy n u ≡ false) (sym e) (busy_not n (fresh parties) (record { nobody = refl; none_brought = at_fresh parties n; none_given = at_fresh parties n; here = all_there parties n low }))

  -- a party stands where its own calls in a history say
  pub stands_at : (parties n : ℕ) → n < parties → (es : List (Step T)) → IsLegal ExchangeLegal (fresh parties) es → StandsAt n (last_of (fresh parties) es) (stage_from Free (calls_by n es))
  stands_at parties n low es h = staged parties n (fresh parties) [] es Free (tracks_fresh parties) h (free_fresh parties n low (fresh parties) refl)
