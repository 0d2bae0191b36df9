-- Each way through a call of the tokens is what the call may be answered and do.
use Rattle.std.proofs.Common.{◌≡◌, ◌≢◌, ◌∙◌, ℕ, ◌<◌, Bool, true, false, List, ◌++◌, length, take, drop, replicate, refl, sym, ap, subst}
use Rattle.std.specs.Prelude.{Option, Some, None, is_some}
use Rattle.std.specs.List.{list_any}
use Rattle.std.proofs.lemmas.List.{length-map}
use Rattle.par_exchange.specs.declared.history.ExchangeState.{ExchangeState}
use Rattle.par_exchange.specs.declared.history.ExchangeReply.TheVariants.{Waiting, Collected, Given, Refused, Left, Leaving, Gone}
use Rattle.par_exchange.specs.States.{TokensView, cleared, is_busy, is_elected, takes_part, who}
use Rattle.par_exchange.specs.Legal.{Brings, Gives, Leaves, with_token, without}
use Rattle.par_exchange.proofs.PlaceLaws.{after_all, cleared_all, cleared_put, true-false}
use Rattle.par_exchange.proofs.Tracks.{free_at}

module _ {T : Type 0} (n : ℕ) (s : ExchangeState T) (x : T) (within : n < length s.brought) where
  pub brings_refused : is_busy n s ≡ true → Brings n s Refused s x
  brings_refused busy = record {
    party = within;
    refused = λ _. (refl, refl);
    waits = λ free. absurd (true-false (is_busy n s) busy free);
    ends = λ free. absurd (true-false (is_busy n s) busy free);
  }

  pub brings_waits : is_busy n s ≡ false → who (with_token n x s.brought) ≢ s.present → Brings n s Waiting (record s { brought = with_token n x s.brought }) x
  brings_waits free ne = record {
    party = within;
    refused = λ busy. absurd (true-false (is_busy n s) busy free);
    waits = λ _ _. (refl, refl);
    ends = λ _ all. absurd (ne all);
  }

  pub brings_ends : is_busy n s ≡ false → who (with_token n x s.brought) ≡ s.present → Brings n s (Collected (with_token n x s.brought)) (record s { brought = cleared (with_token n x s.brought); elected = Some n }) x
  brings_ends free all = record {
    party = within;
    refused = λ busy. absurd (true-false (is_busy n s) busy free);
    waits = λ _ ne. absurd (ne all);
    ends = λ _ _. (refl, ap (λ (ps : List (Option T)). let t : ExchangeState T = record s { brought = ps; elected = Some n } in t) (cleared_put s.brought n (Some x)));
  }

module _ {T : Type 0} (n : ℕ) (s : ExchangeState T) (ps : List (Option T)) where
  pub gives_refused : is_elected n s.elected ≡ false → Gives n s Refused s ps
  gives_refused out = record { refused = λ _. (refl, refl); unfit = λ _. (refl, refl); given = λ held. absurd (true-false (is_elected n s.elected) held out) }

  pub gives_unfit : who ps ≢ s.present → Gives n s Refused s ps
  gives_unfit ne = record { refused = λ _. (refl, refl); unfit = λ _. (refl, refl); given = λ _ all. absurd (ne all) }

  pub gives_given : is_elected n s.elected ≡ true → who ps ≡ s.present → Gives n s Given (record s { given = ps; elected = None }) ps
  gives_given held all = record { refused = λ out. absurd (true-false (is_elected n s.elected) held out); unfit = λ ne. absurd (ne all); given = λ _ _. (refl, refl) }

module _ {T : Type 0} (n : ℕ) (s : ExchangeState T) (within : n < length s.present) where
  not_both : takes_part n s.present ≡ false → is_busy n s ≡ false → ⊥
  not_both gone free = true-false (takes_part n s.present) (free_at n s free).here gone

  pub leaves_gone : takes_part n s.present ≡ false → Leaves n s Gone s
  leaves_gone gone = record {
    party = within;
    gone = λ _. (refl, refl);
    busy = λ here. absurd (true-false (takes_part n s.present) here gone);
    last = λ free. absurd (not_both gone free);
    left = λ free. absurd (not_both gone free);
    ends = λ free. absurd (not_both gone free);
  }

  pub leaves_busy : takes_part n s.present ≡ true → is_busy n s ≡ true → Leaves n s Refused s
  leaves_busy here busy = record {
    party = within;
    gone = λ gone. absurd (true-false (takes_part n s.present) here gone);
    busy = λ _ _. (refl, refl);
    last = λ free. absurd (true-false (is_busy n s) busy free);
    left = λ free. absurd (true-false (is_busy n s) busy free);
    ends = λ free. absurd (true-false (is_busy n s) busy free);
  }

  module _ (here : takes_part n s.present ≡ true) (free : is_busy n s ≡ false) where
    pub leaves_last : list_any (λ (m : Bool). m) (without n s.present) ≡ false → Leaves n s (Left true) (record s { present = without n s.present })
    leaves_last empty = record {
      party = within;
      gone = λ gone. absurd (true-false (takes_part n s.present) here gone);
      busy = λ _ busy. absurd (true-false (is_busy n s) busy free);
      last = λ _ _. (refl, refl);
      left = λ _ used. absurd (true-false (list_any (λ (m : Bool). m) (without n s.present)) used empty);
      ends = λ _ used. absurd (true-false (list_any (λ (m : Bool). m) (without n s.present)) used empty);
    }

    pub leaves_left : list_any (λ (m : Bool). m) (without n s.present) ≡ true → who s.brought ≢ without n s.present → Leaves n s (Left false) (record s { present = without n s.present })
    leaves_left used ne = record {
      party = within;
      gone = λ gone. absurd (true-false (takes_part n s.present) here gone);
      busy = λ _ busy. absurd (true-false (is_busy n s) busy free);
      last = λ _ empty. absurd (true-false (list_any (λ (m : Bool). m) (without n s.present)) used empty);
      left = λ _ _ _. (refl, refl);
      ends = λ _ _ all. absurd (ne all);
    }

    pub leaves_ends : list_any (λ (m : Bool). m) (without n s.present) ≡ true → who s.brought ≡ without n s.present → Leaves n s (Leaving s.brought) (record s { brought = cleared s.brought; present = without n s.present; elected = Some n })
    leaves_ends used all = record {
      party = within;
      gone = λ gone. absurd (true-false (takes_part n s.present) here gone);
      busy = λ _ busy. absurd (true-false (is_busy n s) busy free);
      last = λ _ empty. absurd (true-false (list_any (λ (m : Bool). m) (without n s.present)) used empty);
      left = λ _ _ ne. absurd (ne all);
      ends = λ _ _ _. (refl, refl);
    }

-- what contracts see of the fields of the tokens
abbrev pub seen_as : {T : Type 0} → ℕ → List (Option T) → List (Option T) → List Bool → Option ℕ → TokensView T
seen_as parties brought given present elected = record { parties = parties; state = record { brought = brought; given = given; present = present; elected = elected } }

module _ {T : Type 0} (k : ℕ) (ps gs spare : List (Option T)) (ms : List Bool) (o : Option ℕ) (v : TokensView T) (is : seen_as k ps gs ms o ≡ v) where
  -- the spare places are as many empty ones as those that go
  pub ended_as : (n : ℕ) → length ps ≡ k → spare ≡ replicate k None → seen_as k spare gs ms (Some n) ≡ record v { state = record v.state { brought = cleared v.state.brought; elected = Some n } }
  ended_as n long empty = subst (λ (w : TokensView T). seen_as k spare gs ms (Some n) ≡ record w { state = record w.state { brought = cleared w.state.brought; elected = Some n } }) is
      (ap (λ (qs : List (Option T)). seen_as k qs gs ms (Some n)) (empty ∙ (ap (λ (j : ℕ). replicate {A = Option T} j None) (sym long) ∙ cleared_all ps)))

  -- as many places as parties, if exactly those that take part have a token
  pub as_many : (qs : List (Option T)) → length ms ≡ k → who qs ≡ v.state.present → length qs ≡ k
  as_many qs long all = sym (length-map qs (λ (p : Option T). is_some p)) ∙ (ap length (all ∙ sym (ap (λ (w : TokensView T). w.state.present) is)) ∙ long)

-- places that were emptied
pub all_spare : {T : Type 0} (k : ℕ) (gs new : List (Option T)) (n : ℕ) → length gs ≡ k → n ≡ length new → new ≡ cleared gs → take n (new ++ drop (length new) gs) ≡ replicate k None
all_spare {T} k gs new n long count empty = after_all gs new n count ∙ (empty ∙ (sym (cleared_all gs) ∙ ap (λ (j : ℕ). replicate {A = Option T} j None) long))

-- the last token was put into its place, and then the phase was ended
pub brings_all : {T : Type 0} (n : ℕ) (x : T) (items : List (Option T)) (v p w : TokensView T) → n < length v.state.brought → is_busy n v.state ≡ false → p ≡ record v { state = record v.state { brought = with_token n x v.state.brought } } → who p.state.brought ≡ p.state.present → items ≡ p.state.brought
    → w ≡ record p { state = record p.state { brought = cleared p.state.brought; elected = Some n } } → Brings n v.state (Collected items) w.state x
brings_all {T} n x items v p w within free put all got ended =
    subst (λ (q : TokensView T). who q.state.brought ≡ q.state.present → items ≡ q.state.brought → w ≡ record q { state = record q.state { brought = cleared q.state.brought; elected = Some n } } → Brings n v.state (Collected items) w.state x) (sym put)
    (λ a g e. subst (λ (z : List (Option T) × TokensView T). Brings n v.state (Collected z.0) z.1.state x) (λ i. (sym g i, sym e i)) (brings_ends n v.state x within free a))
    all got ended
