-- Each token in its place is one that the party might bring, or that might be given to it, and who has left might leave;
-- and what one turn tells of the tokens, of the phase and of the stage of the party.
use Rattle.std.proofs.Common.{◌≡◌, ℕ, ◌<◌, Bool, true, false, List, [], ◌∷◌, ◌++◌, length, refl, sym, ap, ◌∙◌, subst, arith, length-append}
use Rattle.std.specs.Prelude.{Option, Some, None, slice_set}
use Rattle.std.specs.List.{list_any}
use Rattle.std.proofs.lemmas.List.{length-replicate, length-set}
use native.Mathlib.Decide.{ℕ_discrete}
use mathlib.Core.Logic.{dite}
use Rattle.lock_book.specs.History.{calls_by, entry, last_of, IsLegal}
use Rattle.lock_book.specs.Told.{Makes}
use Rattle.lock_book.proofs.Histories.{calls_by_all}
use Rattle.lock_book.proofs.Uses.{legal-append}
use Rattle.par_exchange.specs.declared.history.ExchangeState.{ExchangeState}
use Rattle.par_exchange.specs.declared.history.ExchangeCall.{ExchangeCall}
use Rattle.par_exchange.specs.declared.history.ExchangeCall.TheVariants.{Bring, Give, Leave, Take}
use Rattle.par_exchange.specs.declared.history.ExchangeReply.{ExchangeReply}
use Rattle.par_exchange.specs.declared.history.ExchangeReply.TheVariants.{Waiting, Collected, Given, Taken, Refused, Left, Leaving, Gone as GoneReply}
use Rattle.par_exchange.specs.declared.history.PartyStage.{PartyStage}
use Rattle.par_exchange.specs.declared.history.PartyStage.TheVariants as stage
use Rattle.par_exchange.specs.declared.history.PartyStage.TheVariants.{Free}
use Rattle.par_exchange.specs.declared.history.ExchangeName.{ExchangeName}
use Rattle.par_exchange.specs.States.{TokensView, at, fresh, is_busy, is_elected, takes_part, who}
use Rattle.par_exchange.specs.Legal.{AreMissing, Each, ExchangeLegal, MayCall, with_token, without}
use Rattle.par_exchange.specs.Phases.{HasCollected, HasTaken, HasToGive, IsHandedOut, IsHistory, IsOfAllLeft, Step, ends_with, stage_after, stage_from, this_phase}
use Rattle.par_exchange.specs.Turns.{Turned}
use Rattle.par_exchange.proofs.PlaceLaws.{all_there, at_cleared, at_fresh, at_other, at_same, at_within, is_missing, left_other, some-none, true-false}
use Rattle.par_exchange.proofs.Stages.{StandsAt, stands_at}
use Rattle.par_exchange.proofs.Present.{ends_with_all, last-snoc}
use Rattle.par_exchange.proofs.Tracks.{by_marks, ends_by, gathers_each, gives_each, takes_given, tracks_all, tracks_fresh}

-- what was taken out is not there any more
emptied : {T : Type 0} (ps : List (Option T)) (n : ℕ) (y : T) → at ps n ≡ Some y → at (slice_set ps n None) n ≡ None
emptied ps n y e = at_same ps n None (at_within ps n y e)

module _ {T : Type 0} (brings gives : ℕ → T → Type 0) (leaves : ℕ → Type 0) where
  -- the tokens in their places, and who has left
  pub record FitsAt (s : ExchangeState T) : Type 0 where
    pub brought : (k : ℕ) (x : T) → at s.brought k ≡ Some x → brings k x
    pub given : (k : ℕ) (x : T) → at s.given k ≡ Some x → gives k x
    pub gone : (k : ℕ) → k < length s.present → takes_part k s.present ≡ false → leaves k

  fits_fresh : (parties : ℕ) → FitsAt (fresh parties)
  fits_fresh parties = record {
    brought = λ k x e. absurd (some-none x (sym e ∙ at_fresh parties k));
    given = λ k x e. absurd (some-none x (sym e ∙ at_fresh parties k));
    gone = λ k low e. absurd (true-false (takes_part k (fresh {T = T} parties).present) (all_there parties k (omega (arith, low, length-replicate parties true))) e);
  }

  -- a token more that was brought
  with_one : (s : ExchangeState T) → FitsAt s → (n : ℕ) (y : T) → n < length s.brought → brings n y → (k : ℕ) (x : T) → at (with_token n y s.brought) k ≡ Some x → brings k x
  with_one s f n y lt b k x e = dite (ℕ_discrete k n)
      (λ is.
      let here : at (with_token n y s.brought) k ≡ Some y = ap (at (with_token n y s.brought)) is ∙ at_same s.brought n (Some y) lt in
      let both : Some y ≡ Some x = sym here ∙ e in
      let same : y ≡ x = cc in
      subst (λ (z : ℕ × T). brings z.0 z.1) (λ i. (sym is i, same i)) b)
      (λ ne. f.brought k x (sym (at_other s.brought n k (Some y) ne) ∙ e))

  -- a party less that takes part
  less_one : (s : ExchangeState T) → FitsAt s → (n : ℕ) → leaves n → (k : ℕ) → k < length (without n s.present) → takes_part k (without n s.present) ≡ false → leaves k
  less_one s f n may k low e = dite (ℕ_discrete k n)
      (λ is. subst leaves (sym is) may)
      (λ ne. f.gone k (omega (arith, low, length-set s.present n false)) (sym (left_other s.present n k ne) ∙ e))

  module _ (n : ℕ) (s : ExchangeState T) (f : FitsAt s) where
    -- a call keeps it
    keeps : (c : ExchangeCall T) (r : ExchangeReply T) (t : ExchangeState T) → MayCall brings gives leaves n s c r t → FitsAt t
    keeps (Bring y) r t h = busy (is_busy n s) refl
      where
        busy : (b : Bool) → is_busy n s ≡ b → FitsAt t
        busy true e = subst FitsAt (sym (h.legal.refused e).1) f
        busy false e = by_marks (who (with_token n y s.brought)) s.present
            (λ all. subst FitsAt (sym (h.legal.ends e all).1) (record { brought = λ k x a. absurd (some-none x (sym a ∙ at_cleared s.brought k)); given = f.given; gone = f.gone }))
            (λ ne. subst FitsAt (sym (h.legal.waits e ne).1) (record { brought = with_one s f n y h.legal.party h.fits; given = f.given; gone = f.gone }))
    keeps (Give ps) r t h = by (is_elected n s.elected) refl
      where
        by : (b : Bool) → is_elected n s.elected ≡ b → FitsAt t
        by true e = by_marks (who ps) s.present
            (λ all. subst FitsAt (sym (h.legal.given e all).1) (record { brought = f.brought; given = h.fits; gone = f.gone }))
            (λ ne. subst FitsAt (sym (h.legal.unfit ne).1) f)
        by false e = subst FitsAt (sym (h.legal.refused e).1) f
    keeps Take r t h = by (at s.given n) refl
      where
        other : (k : ℕ) (x : T) → at (slice_set s.given n None) k ≡ Some x → (y : T) → at s.given n ≡ Some y → gives k x
        other k x a y e = dite (ℕ_discrete k n)
            (λ is. absurd (some-none x (sym a ∙ (ap (at (slice_set s.given n None)) is ∙ emptied s.given n y e))))
            (λ ne. f.given k x (sym (at_other s.given n k None ne) ∙ a))

        by : (o : Option T) → at s.given n ≡ o → FitsAt t
        by None e = subst FitsAt (sym (h.legal.nothing e).1) f
        by (Some y) e = subst FitsAt (sym (h.legal.taken y e).1) (record { brought = f.brought; given = λ k x a. other k x a y e; gone = f.gone })
    keeps Leave r t h = here (takes_part n s.present) refl
      where
        parted : t ≡ record s { present = without n s.present } → FitsAt t
        parted k = subst FitsAt (sym k) (record { brought = f.brought; given = f.given; gone = less_one s f n h.fits })

        used : is_busy n s ≡ false → (b : Bool) → list_any (λ (m : Bool). m) (without n s.present) ≡ b → FitsAt t
        used q false e = parted (h.legal.last q e).1
        used q true e = by_marks (who s.brought) (without n s.present)
            (λ all. subst FitsAt (sym (h.legal.ends q e all).1) (record { brought = λ k x a. absurd (some-none x (sym a ∙ at_cleared s.brought k)); given = f.given; gone = less_one s f n h.fits }))
            (λ ne. parted (h.legal.left q e ne).1)

        busy : takes_part n s.present ≡ true → (b : Bool) → is_busy n s ≡ b → FitsAt t
        busy p true e = subst FitsAt (sym (h.legal.busy p e).1) f
        busy p false e = used e (list_any (λ (m : Bool). m) (without n s.present)) refl

        here : (b : Bool) → takes_part n s.present ≡ b → FitsAt t
        here false e = subst FitsAt (sym (h.legal.gone e).1) f
        here true e = busy e (is_busy n s) refl

    -- what the elected gets
    gets : (c : ExchangeCall T) (r : ExchangeReply T) (t : ExchangeState T) (places : List (Option T)) → MayCall brings gives leaves n s c r t → ends_with r ≡ Some places → Each brings places
    gets (Bring y) r t places h is = busy (is_busy n s) refl
      where
        busy : (b : Bool) → is_busy n s ≡ b → Each brings places
        busy true e = absurd (let k : None ≡ Some places = sym (ap ends_with (h.legal.refused e).0) ∙ is in cc)
        busy false e = by_marks (who (with_token n y s.brought)) s.present
            (λ all.
            let q : Some (with_token n y s.brought) ≡ Some places = sym (ap ends_with (h.legal.ends e all).0) ∙ is in
            let same : with_token n y s.brought ≡ places = cc in
            subst (Each brings) same (with_one s f n y h.legal.party h.fits))
            (λ ne. absurd (let k : None ≡ Some places = sym (ap ends_with (h.legal.waits e ne).0) ∙ is in cc))
    gets (Give ps) r t places h is = by (is_elected n s.elected) refl
      where
        by : (b : Bool) → is_elected n s.elected ≡ b → Each brings places
        by true e = by_marks (who ps) s.present
            (λ all. absurd (let k : None ≡ Some places = sym (ap ends_with (h.legal.given e all).0) ∙ is in cc))
            (λ ne. absurd (let k : None ≡ Some places = sym (ap ends_with (h.legal.unfit ne).0) ∙ is in cc))
        by false e = absurd (let k : None ≡ Some places = sym (ap ends_with (h.legal.refused e).0) ∙ is in cc)
    gets Take r t places h is = by (at s.given n) refl
      where
        by : (o : Option T) → at s.given n ≡ o → Each brings places
        by None e = absurd (let k : None ≡ Some places = sym (ap ends_with (h.legal.nothing e).0) ∙ is in cc)
        by (Some x) e = absurd (let k : None ≡ Some places = sym (ap ends_with (h.legal.taken x e).0) ∙ is in cc)
    gets Leave r t places h is = here (takes_part n s.present) refl
      where
        used : is_busy n s ≡ false → (b : Bool) → list_any (λ (m : Bool). m) (without n s.present) ≡ b → Each brings places
        used q false e = absurd (let k : None ≡ Some places = sym (ap ends_with (h.legal.last q e).0) ∙ is in cc)
        used q true e = by_marks (who s.brought) (without n s.present)
            (λ all.
            let z : Some s.brought ≡ Some places = sym (ap ends_with (h.legal.ends q e all).0) ∙ is in
            let same : s.brought ≡ places = cc in
            subst (Each brings) same f.brought)
            (λ ne. absurd (let k : None ≡ Some places = sym (ap ends_with (h.legal.left q e ne).0) ∙ is in cc))

        busy : takes_part n s.present ≡ true → (b : Bool) → is_busy n s ≡ b → Each brings places
        busy p true e = absurd (let k : None ≡ Some places = sym (ap ends_with (h.legal.busy p e).0) ∙ is in cc)
        busy p false e = used e (list_any (λ (m : Bool). m) (without n s.present)) refl

        here : (b : Bool) → takes_part n s.present ≡ b → Each brings places
        here false e = absurd (let k : None ≡ Some places = sym (ap ends_with (h.legal.gone e).0) ∙ is in cc)
        here true e = busy e (is_busy n s) refl

  -- so of every state
  fits_all : (s : ExchangeState T) (es : List (Step T)) → FitsAt s → IsLegal (MayCall brings gives leaves) s es → FitsAt (last_of s es)
  fits_all s [] f h = f
  fits_all s (e ∷ es) f h = fits_all e.after es (keeps e.by s f e.call e.reply e.after h.0) h.1

  -- a history of calls that their callers might make is legal
  pub plain : (s : ExchangeState T) (es : List (Step T)) → IsLegal (MayCall brings gives leaves) s es → IsLegal ExchangeLegal s es
  plain s [] h = tt
  plain s (e ∷ es) h = (h.0.legal, plain e.after es h.1)

module _ {A : Type 0} where
  -- what was put last is the same
  pub snoc_last : (xs ys : List A) (x y : A) → xs ++ x ∷ [] ≡ ys ++ y ∷ [] → x ≡ y
  snoc_last [] [] x y e = cc
  snoc_last [] (z ∷ zs) x y e = absurd (omega (arith, ap length e, length-append zs (y ∷ [])))
  snoc_last (w ∷ ws) [] x y e = absurd (omega (arith, ap length e, length-append ws (x ∷ [])))
  snoc_last (w ∷ ws) (z ∷ zs) x y e = let rest : ws ++ x ∷ [] ≡ zs ++ y ∷ [] = cc in snoc_last ws zs x y rest

module _ {T : Type 0} where
  stage-snoc : (st : PartyStage) (es : List (Step T)) (e : Step T) → stage_from st (es ++ e ∷ []) ≡ stage_after (stage_from st es) e.reply
  stage-snoc st [] e = refl
  stage-snoc st (x ∷ es) e = stage-snoc (stage_after st x.reply) es e

module _ {T : Type 0} {brings gives : ℕ → T → Type 0} {leaves : ℕ → Type 0} {parties n : ℕ} {seen mine seen' mine' : List (Step T)} {c : ExchangeCall T} {r : ExchangeReply T} (u : Turned brings gives leaves parties n seen mine seen' mine' c r) where
  before_legal : IsHistory parties u.before
  before_legal = plain brings gives leaves (fresh parties) u.before u.lawful

  -- the call stands in one legal history
  pub turned_makes : Makes ExchangeLegal (fresh parties) n seen mine seen' mine' c r
  turned_makes = record { before = u.before; after = u.after; ends = u.ends; begins = u.begins; step = u.step.legal; own = u.own }

  whole : IsHistory parties (u.before ++ entry n c r u.after ∷ [])
  whole = legal-append ExchangeLegal (fresh parties) u.before (entry n c r u.after ∷ []) before_legal (u.step.legal, tt)

  at_end : (front : List (Step T)) (e : Step T) → seen' ≡ front ++ e ∷ [] → IsHistory parties (front ++ e ∷ []) × (entry n c r u.after ≡ e)
  at_end front e is = let same = sym u.ends ∙ is in (subst (IsHistory parties) same whole, snoc_last u.before front (entry n c r u.after) e same)

  -- what was collected is what was brought in the phase
  pub turned_collected : (places : List (Option T)) → ends_with r ≡ Some places → HasCollected parties seen' places
  turned_collected places is = λ front e at. let k = at_end front e at in gathers_each parties front e places k.0 (ap (λ (x : Step T). ends_with x.reply) (sym k.1) ∙ is)

  pub turned_count : (places : List (Option T)) → ends_with r ≡ Some places → length places ≡ parties
  turned_count places is = (turned_collected places is u.before (entry n c r u.after) u.ends).count

  -- by all that have not left
  pub turned_all : (places : List (Option T)) → ends_with r ≡ Some places → IsOfAllLeft parties seen' places
  turned_all places is = subst (λ (es : List (Step T)). IsOfAllLeft parties es places) (sym u.ends) (ends_with_all parties u.before (entry n c r u.after) places whole is)

  -- what was taken is what was given in the phase
  pub turned_taken : (x : T) → r ≡ Taken x → HasTaken n seen' x
  turned_taken x is = λ front e at.
      let k = at_end front e at in
      subst (λ (m : ℕ). IsHandedOut m (this_phase [] front) x) (ap (λ (y : Step T). y.by) (sym k.1)) (gives_each parties front e x k.0 (ap (λ (y : Step T). y.reply) (sym k.1) ∙ is))

  state_fits : FitsAt brings gives leaves (last_of (fresh parties) u.before)
  state_fits = fits_all brings gives leaves (fresh parties) u.before (fits_fresh brings gives leaves parties) u.lawful

  -- and they are tokens that the parties might bring
  pub turned_brings : (places : List (Option T)) → ends_with r ≡ Some places → Each brings places
  turned_brings places is = gets brings gives leaves n (last_of (fresh parties) u.before) state_fits c r u.after places u.step is

  -- and who brought none might leave
  pub turned_absent : (places : List (Option T)) → ends_with r ≡ Some places → AreMissing leaves parties places
  turned_absent places is = λ k low e.
      let tr = tracks_all parties (fresh parties) [] (u.before ++ entry n c r u.after ∷ []) (tracks_fresh parties) whole in
      let old = tracks_all parties (fresh parties) [] u.before (tracks_fresh parties) before_legal in
      let all = (ends_by parties (last_of (fresh parties) u.before) _ old n c r u.after places u.step.legal is).1 in
      let now = keeps brings gives leaves n (last_of (fresh parties) u.before) state_fits c r u.after u.step in
      let long = ap (λ (s : ExchangeState T). length s.present) (last-snoc (fresh parties) u.before (entry n c r u.after)) in
      now.gone k (omega (arith, low, tr.present_long, long)) (is_missing places u.after.present k all e)

  -- and one that might be given to the party
  pub turned_gives : (x : T) → r ≡ Taken x → gives n x
  turned_gives x is =
      let tr = tracks_all parties (fresh parties) [] u.before (tracks_fresh parties) before_legal in
      state_fits.given n x (takes_given parties (last_of (fresh parties) u.before) _ tr n c r u.after x u.step.legal is)

  pub turned_stage : stage_from Free mine' ≡ stage_after (stage_from Free mine) r
  turned_stage = ap (stage_from Free) u.own ∙ stage-snoc Free mine (entry n c r u.after)

  stands : StandsAt n (last_of (fresh parties) u.before) (stage_from Free mine)
  stands = subst (λ (es : List (Step T)). StandsAt n (last_of (fresh parties) u.before) (stage_from Free es)) u.known (stands_at parties n u.low u.before before_legal)

  free_then : stage_from Free mine ≡ Free → is_busy n (last_of (fresh parties) u.before) ≡ false
  free_then free = subst (StandsAt n (last_of (fresh parties) u.before)) free stands

  -- who may bring a token is not refused
  pub turned_free : (x : T) → c ≡ Bring x → stage_from Free mine ≡ Free → r ≡ Refused → ⊥
  turned_free x is free back =
      let s = last_of (fresh parties) u.before in
      let h = subst (λ (k : ExchangeCall T). ExchangeLegal n s k r u.after) is u.step.legal in
      by_marks (who (with_token n x s.brought)) s.present
      (λ all. let k : Collected (with_token n x s.brought) ≡ Refused = sym (h.ends (free_then free) all).0 ∙ back in absurd (cc))
      (λ ne. let k : Waiting ≡ Refused = sym (h.waits (free_then free) ne).0 ∙ back in absurd (cc))

  leaves_legal : c ≡ Leave → ExchangeLegal n (last_of (fresh parties) u.before) Leave r u.after
  leaves_legal is = subst (λ (k : ExchangeCall T). ExchangeLegal n (last_of (fresh parties) u.before) k r u.after) is u.step.legal

  -- and may leave
  pub turned_leaves : c ≡ Leave → stage_from Free mine ≡ Free → (r ≡ Refused → ⊥) × (r ≡ GoneReply → ⊥)
  turned_leaves is free = by (list_any (λ (m : Bool). m) (without n (last_of (fresh parties) u.before).present)) refl
    where
      goes : (b : Bool) → r ≡ Left b → (r ≡ Refused → ⊥) × (r ≡ GoneReply → ⊥)
      goes b e = (λ f. (let k : Left b ≡ Refused = sym e ∙ f in absurd (cc)), λ f. (let k : Left b ≡ GoneReply = sym e ∙ f in absurd (cc)))

      ends : (ps : List (Option T)) → r ≡ Leaving ps → (r ≡ Refused → ⊥) × (r ≡ GoneReply → ⊥)
      ends ps e = (λ f. (let k : Leaving ps ≡ Refused = sym e ∙ f in absurd (cc)), λ f. (let k : Leaving ps ≡ GoneReply = sym e ∙ f in absurd (cc)))

      by : (b : Bool) → list_any (λ (m : Bool). m) (without n (last_of (fresh parties) u.before).present) ≡ b → (r ≡ Refused → ⊥) × (r ≡ GoneReply → ⊥)
      by false e = goes true ((leaves_legal is).last (free_then free) e).0
      by true e = by_marks (who (last_of (fresh parties) u.before).brought) (without n (last_of (fresh parties) u.before).present)
          (λ all. ends _ ((leaves_legal is).ends (free_then free) e all).0)
          (λ ne. goes false ((leaves_legal is).left (free_then free) e ne).0)

  gives-fit : (st : PartyStage) (to : List Bool) (s : ExchangeState T) → HasToGive st to → StandsAt n s st → (is_elected n s.elected ≡ true) × (to ≡ s.present)
  gives-fit stage.Free to s h a = absurd h
  gives-fit stage.Waits to s h a = absurd h
  gives-fit (stage.Elected all) to s h a = (a.0, h ∙ sym a.2)
  gives-fit (stage.Leaving all) to s h a = (a.0, h ∙ sym a.2)
  gives-fit stage.Gone to s h a = absurd h

  -- nor who is elected, and gives to those whose tokens it got
  pub turned_elected : (ps : List (Option T)) → c ≡ Give ps → HasToGive (stage_from Free mine) (who ps) → r ≡ Refused → ⊥
  turned_elected ps is has back =
      let s = last_of (fresh parties) u.before in
      let f = gives-fit (stage_from Free mine) (who ps) s has stands in
      let h = subst (λ (k : ExchangeCall T). ExchangeLegal n s k r u.after) is u.step.legal in
      let k : Given ≡ Refused = sym (h.given f.0 f.1).0 ∙ back in
      absurd (cc)

-- what an exchange opens with
abbrev pub opened : {S T : Type 0} → S → ℕ → ExchangeState T → List (ExchangeName S × ExchangeState T)
opened sign parties s = (record { parties = parties; sign = sign }, s) ∷ []

pub opens_so : {S T : Type 0} (sign : S) (v : TokensView T) (parties callers : ℕ) → v ≡ record { parties = parties; state = fresh parties } → callers ≡ parties → opened sign v.parties v.state ≡ opened sign callers (fresh callers)
opens_so {S} {T} sign v parties callers e f = ap (λ (w : TokensView T). opened sign w.parties w.state) e ∙ ap (λ (k : ℕ). opened {S = S} {T = T} sign k (fresh k)) (sym f)

module _ {T : Type 0} where
  snoc_front : (xs ys : List (Step T)) (x : Step T) → xs ++ x ∷ [] ≡ ys ++ x ∷ [] → xs ≡ ys
  snoc_front [] [] x e = refl
  snoc_front [] (z ∷ zs) x e = absurd (omega (arith, ap length e, length-append zs (x ∷ [])))
  snoc_front (w ∷ ws) [] x e = absurd (omega (arith, ap length e, length-append ws (x ∷ [])))
  snoc_front (w ∷ ws) (z ∷ zs) x e = let same : w ≡ z = cc in let rest : ws ++ x ∷ [] ≡ zs ++ x ∷ [] = cc in λ i. same i ∷ snoc_front ws zs x rest i

  -- the own calls before the last one
  pub known_before : (n m : ℕ) (seen before mine mine' : List (Step T)) (c : ExchangeCall T) (r : ExchangeReply T) (t : ExchangeState T) → m ≡ n → calls_by m seen ≡ mine' → seen ≡ before ++ entry n c r t ∷ [] → mine' ≡ mine ++ entry n c r t ∷ [] → calls_by n before ≡ mine
  known_before n m seen before mine mine' c r t same own ends grows =
      let e : Step T = entry n c r t in
      let whole : calls_by n (before ++ e ∷ []) ≡ mine ++ e ∷ [] = ap (λ (z : ℕ × List (Step T)). calls_by z.0 z.1) (λ i. (sym same i, sym ends i)) ∙ (own ∙ grows) in
      snoc_front (calls_by n before) mine e (sym (calls_by_all n before (e ∷ []) (refl, tt)) ∙ whole)
