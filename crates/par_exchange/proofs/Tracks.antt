-- What the calls of a phase have brought, given and taken is what is in the places of the state after them.
use Rattle.std.proofs.Common.{◌≡◌, ◌≢◌, ℕ, ◌<◌, ◌≤◌, ◌==◌, Bool, true, false, not, cond, ◌||◌, List, [], ◌∷◌, ◌++◌, length, refl, sym, ap, ◌∙◌, subst, arith, append_assoc, append-nil, length-append, eq-eqb, ne_eqb}
use Rattle.std.specs.Prelude.{Option, Some, None, is_some, option_to_list, slice_set}
use Rattle.std.specs.List.{list_any}
use Rattle.std.proofs.lemmas.List.{length-map, length-set, length-replicate}
use native.Mathlib.Decide.{ℕ_discrete}
use Rattle.std.proofs.Math.Bool.{Bool-discrete}
use mathlib.Core.Logic.{dite}
use Rattle.lock_book.specs.History.{entry, last_of, IsLegal}
use Rattle.lock_book.proofs.Uses.{legal_back, legal_front}
use Rattle.par_exchange.specs.declared.history.ExchangeState.{ExchangeState}
use Rattle.par_exchange.specs.declared.history.ExchangeCall.{ExchangeCall}
use Rattle.par_exchange.specs.declared.history.ExchangeCall.TheVariants.{Bring, Give, Leave, Take}
use Rattle.par_exchange.specs.declared.history.ExchangeReply.{ExchangeReply}
use Rattle.par_exchange.specs.declared.history.ExchangeReply.TheVariants.{Waiting, Collected, Given, Taken, Nothing, Refused, Left, Leaving, Gone}
use Rattle.par_exchange.specs.States.{at, cleared, fresh, is_busy, is_elected, takes_part, who}
use Rattle.par_exchange.specs.Legal.{Brings, ExchangeLegal, Gives, Leaves, Takes, with_token, without}
use Rattle.par_exchange.specs.Phases.{GathersEach, GivesEach, IsCollected, IsHandedOut, Step, brought_by, brought_of, ends_with, given_in, given_of, is_end, is_refused, taken_by, taken_of, this_phase}
use Rattle.par_exchange.proofs.PlaceLaws.{at_cleared, at_fresh, at_other, at_same, at_within, is_here, is_none-some, left_other, not_missing, some-none}

-- what was given to the party k by the first giving
abbrev pub given_to : {T : Type 0} → ℕ → List (List (Option T)) → List T
given_to k [] = []
given_to k (ps ∷ rest) = option_to_list (at ps k)

-- the state s, and the calls P of its phase so far
pub record Tracks {T : Type 0} (parties : ℕ) (s : ExchangeState T) (P : List (Step T)) : Type 0 where
  pub long : length s.brought ≡ parties
  pub given_long : length s.given ≡ parties
  pub present_long : length s.present ≡ parties
  pub brought : (k : ℕ) → brought_by k P ≡ option_to_list (at s.brought k)
  pub taken : (k : ℕ) → taken_by k P ++ option_to_list (at s.given k) ≡ given_to k (given_in P)
  pub few : length (given_in P) ≤ 1
  pub held : is_some s.elected ≡ true → (given_in P ≡ []) × ((k : ℕ) → at s.brought k ≡ None) × ((k : ℕ) → at s.given k ≡ None)
  pub turn : (k : ℕ) (x : T) → at s.given k ≡ Some x → (at s.brought k ≡ None) × (takes_part k s.present ≡ true)

or_parts : (a b c d : Bool) → (a || b || c || d) ≡ false → (a ≡ false) × (b ≡ false) × (c ≡ false) × (d ≡ false)
or_parts true b c d e = absurd (cc)
or_parts false true c d e = absurd (cc)
or_parts false false true d e = absurd (cc)
or_parts false false false true e = absurd (cc)
or_parts false false false false e = (refl, refl, refl, refl)

not_false : (b : Bool) → not b ≡ false → b ≡ true
not_false true e = refl
not_false false e = absurd (cc)

pub elected_some : (n : ℕ) (o : Option ℕ) → is_elected n o ≡ true → is_some o ≡ true
elected_some n None e = absurd (cc)
elected_some n (Some m) e = refl

pub nobody-elected : (n : ℕ) (o : Option ℕ) → is_some o ≡ false → is_elected n o ≡ false
nobody-elected n None e = refl
nobody-elected n (Some m) e = absurd (cc)

-- a case for each way that two lists of marks can be
pub by_marks : {C : Type 0} (ms ns : List Bool) → (ms ≡ ns → C) → (ms ≢ ns → C) → C
by_marks [] [] f g = f refl
by_marks [] (n ∷ ns) f g = g (λ e. omega (arith, ap length e))
by_marks (m ∷ ms) [] f g = g (λ e. omega (arith, ap length e))
by_marks (m ∷ ms) (n ∷ ns) f g = dite (Bool-discrete m n)
    (λ a. by_marks ms ns (λ b. f (λ i. a i ∷ b i)) (λ ne. g (λ e. let b : ms ≡ ns = cc in ne b)))
    (λ ne. g (λ e. let a : m ≡ n = cc in ne a))

module _ {T : Type 0} where
  -- one more call
  brought_snoc : (k : ℕ) (P : List (Step T)) (e : Step T) → brought_by k (P ++ e ∷ []) ≡ brought_by k P ++ cond (e.by == k) (brought_of e.call e.reply) []
  brought_snoc k [] e = append-nil (cond (e.by == k) (brought_of e.call e.reply) [])
  brought_snoc k (x ∷ P) e = ap (λ (l : List T). cond (x.by == k) (brought_of x.call x.reply) [] ++ l) (brought_snoc k P e) ∙ sym (append_assoc (cond (x.by == k) (brought_of x.call x.reply) []) (brought_by k P) (cond (e.by == k) (brought_of e.call e.reply) []))

  taken_snoc : (k : ℕ) (P : List (Step T)) (e : Step T) → taken_by k (P ++ e ∷ []) ≡ taken_by k P ++ cond (e.by == k) (taken_of e.reply) []
  taken_snoc k [] e = append-nil (cond (e.by == k) (taken_of e.reply) [])
  taken_snoc k (x ∷ P) e = ap (λ (l : List T). cond (x.by == k) (taken_of x.reply) [] ++ l) (taken_snoc k P e) ∙ sym (append_assoc (cond (x.by == k) (taken_of x.reply) []) (taken_by k P) (cond (e.by == k) (taken_of e.reply) []))

  given_snoc : (P : List (Step T)) (e : Step T) → given_in (P ++ e ∷ []) ≡ given_in P ++ given_of e.call e.reply
  given_snoc [] e = append-nil (given_of e.call e.reply)
  given_snoc (x ∷ P) e = ap (λ (l : List (List (Option T))). given_of x.call x.reply ++ l) (given_snoc P e) ∙ sym (append_assoc (given_of x.call x.reply) (given_in P) (given_of e.call e.reply))

  -- a call that adds nothing
  cond_nil : (b : Bool) (xs : List T) → xs ≡ [] → cond b xs [] ≡ []
  cond_nil true xs e = e
  cond_nil false xs e = refl

  brought_none : (k : ℕ) (P : List (Step T)) (e : Step T) → brought_of e.call e.reply ≡ [] → brought_by k (P ++ e ∷ []) ≡ brought_by k P
  brought_none k P e h = brought_snoc k P e ∙ (ap (λ (l : List T). brought_by k P ++ l) (cond_nil (e.by == k) (brought_of e.call e.reply) h) ∙ append-nil (brought_by k P))

  taken_none : (k : ℕ) (P : List (Step T)) (e : Step T) → taken_of e.reply ≡ [] → taken_by k (P ++ e ∷ []) ≡ taken_by k P
  taken_none k P e h = taken_snoc k P e ∙ (ap (λ (l : List T). taken_by k P ++ l) (cond_nil (e.by == k) (taken_of e.reply) h) ∙ append-nil (taken_by k P))

  given_none : (P : List (Step T)) (e : Step T) → given_of e.call e.reply ≡ [] → given_in (P ++ e ∷ []) ≡ given_in P
  given_none P e h = given_snoc P e ∙ (ap (λ (l : List (List (Option T))). given_in P ++ l) h ∙ append-nil (given_in P))

  -- a call of another party adds nothing to this one's
  brought_else : (k : ℕ) (P : List (Step T)) (e : Step T) → e.by ≢ k → brought_by k (P ++ e ∷ []) ≡ brought_by k P
  brought_else k P e ne = brought_snoc k P e ∙ (ap (λ (b : Bool). brought_by k P ++ cond b (brought_of e.call e.reply) []) (ne_eqb e.by k ne) ∙ append-nil (brought_by k P))

  taken_else : (k : ℕ) (P : List (Step T)) (e : Step T) → e.by ≢ k → taken_by k (P ++ e ∷ []) ≡ taken_by k P
  taken_else k P e ne = taken_snoc k P e ∙ (ap (λ (b : Bool). taken_by k P ++ cond b (taken_of e.reply) []) (ne_eqb e.by k ne) ∙ append-nil (taken_by k P))

  -- the parts of what keeps a party from bringing a token
  pub record IsFreeAt (n : ℕ) (s : ExchangeState T) : Type 0 where
    pub nobody : is_some s.elected ≡ false
    pub none_brought : at s.brought n ≡ None
    pub none_given : at s.given n ≡ None
    pub here : takes_part n s.present ≡ true

  pub free_at : (n : ℕ) (s : ExchangeState T) → is_busy n s ≡ false → IsFreeAt n s
  free_at n s e = let p = or_parts (is_some s.elected) (is_some (at s.brought n)) (is_some (at s.given n)) (not (takes_part n s.present)) e in
      record { nobody = p.0; none_brought = is_none-some (at s.brought n) p.1; none_given = is_none-some (at s.given n) p.2; here = not_false (takes_part n s.present) p.3 }

  pub busy_not : (n : ℕ) (s : ExchangeState T) → IsFreeAt n s → is_busy n s ≡ false
  busy_not n s f = ap (λ (z : Bool × Option T × Option T × Bool). z.0 || is_some z.1 || is_some z.2 || not z.3) (λ i. (f.nobody i, f.none_brought i, f.none_given i, f.here i))

  none_not_some : (o : Option T) (x : T) → o ≡ None → o ≡ Some x → ⊥
  none_not_some o x e f = some-none x (sym f ∙ e)

module _ {T : Type 0} (parties : ℕ) (s : ExchangeState T) (P : List (Step T)) (tr : Tracks parties s P) (n : ℕ) where
  -- a call that changed nothing
  pub idle : (c : ExchangeCall T) (r : ExchangeReply T) (t : ExchangeState T) → t ≡ s → brought_of c r ≡ [] → given_of c r ≡ [] → taken_of r ≡ [] → is_end r ≡ false → Tracks parties t (cond (is_end r) [] (P ++ entry n c r t ∷ []))
  idle c r t same b g k e = subst (λ (z : Bool). Tracks parties t (cond z [] (P ++ entry n c r t ∷ []))) (sym e) (subst (λ (u : ExchangeState T). Tracks parties u (P ++ entry n c r t ∷ [])) (sym same) (record {
    long = tr.long;
    given_long = tr.given_long;
    present_long = tr.present_long;
    brought = λ j. brought_none j P (entry n c r t) b ∙ tr.brought j;
    taken = λ j. ap (λ (l : List T). l ++ option_to_list (at s.given j)) (taken_none j P (entry n c r t) k) ∙ (tr.taken j ∙ ap (given_to j) (sym (given_none P (entry n c r t) g)));
    few = subst (λ (l : List (List (Option T))). length l ≤ 1) (sym (given_none P (entry n c r t) g)) tr.few;
    held = λ h. (given_none P (entry n c r t) g ∙ (tr.held h).0, (tr.held h).1, (tr.held h).2);
    turn = tr.turn;
  }))

  brought_one : (x : T) (r : ExchangeReply T) (t : ExchangeState T) → is_refused r ≡ false → n < length s.brought → IsFreeAt n s → (k : ℕ) → brought_by k (P ++ entry n (Bring x) r t ∷ []) ≡ option_to_list (at (with_token n x s.brought) k)
  brought_one x r t kept lt f k = dite (ℕ_discrete k n) mine (λ ne. brought_else k P e (λ h. ne (sym h)) ∙ (tr.brought k ∙ ap option_to_list (sym (at_other s.brought n k (Some x) ne))))
    where
      e : Step T
      e = entry n (Bring x) r t

      mine : k ≡ n → brought_by k (P ++ entry n (Bring x) r t ∷ []) ≡ option_to_list (at (with_token n x s.brought) k)
      mine is =
          let none : brought_by k P ≡ [] = tr.brought k ∙ ap option_to_list (ap (at s.brought) is ∙ f.none_brought) in
          let one : cond (n == k) (cond (is_refused r) [] (x ∷ [])) [] ≡ x ∷ [] = ap (λ (z : Bool × Bool). cond z.0 (cond z.1 [] (x ∷ [])) []) (λ i. (eq-eqb n k (sym is) i, kept i)) in
          let there : option_to_list (at (with_token n x s.brought) k) ≡ x ∷ [] = ap option_to_list (ap (at (with_token n x s.brought)) is ∙ at_same s.brought n (Some x) lt) in
          brought_snoc k P (entry n (Bring x) r t) ∙ (ap (λ (z : List T × List T). z.0 ++ z.1) (λ i. (none i, one i)) ∙ sym there)

  pub waits : (x : T) (t : ExchangeState T) → n < length s.brought → IsFreeAt n s → t ≡ record s { brought = with_token n x s.brought } → Tracks parties t (P ++ entry n (Bring x) Waiting t ∷ [])
  waits x t lt f same = subst (λ (u : ExchangeState T). Tracks parties u (P ++ entry n (Bring x) Waiting t ∷ [])) (sym same) (record {
    long = length-set s.brought n (Some x) ∙ tr.long;
    given_long = tr.given_long;
    present_long = tr.present_long;
    brought = brought_one x Waiting t refl lt f;
    taken = λ j. ap (λ (l : List T). l ++ option_to_list (at s.given j)) (taken_none j P e refl) ∙ (tr.taken j ∙ ap (given_to j) (sym (given_none P e refl)));
    few = subst (λ (l : List (List (Option T))). length l ≤ 1) (sym (given_none P e refl)) tr.few;
    held = λ h. absurd (let k : true ≡ false = sym h ∙ f.nobody in cc);
    turn = λ k y h. dite (ℕ_discrete k n) (λ is. absurd (none_not_some (at s.given k) y (ap (at s.given) is ∙ f.none_given) h)) (λ ne. (at_other s.brought n k (Some x) ne ∙ (tr.turn k y h).0, (tr.turn k y h).1));
  })
    where
      e : Step T
      e = entry n (Bring x) Waiting t

  -- a party that takes part no more, in the midst of a phase
  pub parts : (b : Bool) (t : ExchangeState T) → IsFreeAt n s → t ≡ record s { present = without n s.present } → Tracks parties t (P ++ entry n Leave (Left b) t ∷ [])
  parts b t f same = subst (λ (u : ExchangeState T). Tracks parties u (P ++ entry n Leave (Left b) t ∷ [])) (sym same) (record {
    long = tr.long;
    given_long = tr.given_long;
    present_long = length-set s.present n false ∙ tr.present_long;
    brought = λ k. brought_none k P e refl ∙ tr.brought k;
    taken = λ j. ap (λ (l : List T). l ++ option_to_list (at s.given j)) (taken_none j P e refl) ∙ (tr.taken j ∙ ap (given_to j) (sym (given_none P e refl)));
    few = subst (λ (l : List (List (Option T))). length l ≤ 1) (sym (given_none P e refl)) tr.few;
    held = λ h. absurd (let k : true ≡ false = sym h ∙ f.nobody in cc);
    turn = λ k y h. dite (ℕ_discrete k n) (λ is. absurd (none_not_some (at s.given k) y (ap (at s.given) is ∙ f.none_given) h)) (λ ne. ((tr.turn k y h).0, left_other s.present n k ne ∙ (tr.turn k y h).1));
  })
    where
      e : Step T
      e = entry n Leave (Left b) t

  -- the end of a phase: of exactly these parties there is a token in these places, which differ from those before at most
  -- in the caller's
  module _ (ps : List (Option T)) (ms : List Bool) (all : who ps ≡ ms) (others : (k : ℕ) → k ≢ n → (at ps k ≡ at s.brought k) × (takes_part k ms ≡ takes_part k s.present)) (none_given : at s.given n ≡ None) where
    -- nothing is left that was given
    nothing_left : (k : ℕ) → at s.given k ≡ None
    nothing_left k = by (at s.given k) refl
      where
        by : (o : Option T) → at s.given k ≡ o → at s.given k ≡ None
        by None e = e
        by (Some y) e = dite (ℕ_discrete k n) (λ is. ap (at s.given) is ∙ none_given)
            (λ ne. absurd (not_missing ps ms k all ((others k ne).1 ∙ (tr.turn k y e).1) ((others k ne).0 ∙ (tr.turn k y e).0)))

    pub ends : (t : ExchangeState T) → length ms ≡ parties → t ≡ record s { brought = cleared s.brought; present = ms; elected = Some n } → Tracks parties t []
    ends t count same = subst (λ (u : ExchangeState T). Tracks parties u []) (sym same) (record {
      long = length-map s.brought (λ (_ : Option T). None) ∙ tr.long;
      given_long = tr.given_long;
      present_long = count;
      brought = λ k. ap option_to_list (sym (at_cleared s.brought k));
      taken = λ k. ap option_to_list (nothing_left k);
      few = omega arith;
      held = λ _. (refl, at_cleared s.brought, nothing_left);
      turn = λ k y h. absurd (none_not_some (at s.given k) y (nothing_left k) h);
    })

    -- what the elected gets
    pub collected : (e : Step T) → length ps ≡ parties → ((k : ℕ) → brought_by k (P ++ e ∷ []) ≡ option_to_list (at ps k)) → given_of e.call e.reply ≡ [] → taken_of e.reply ≡ [] → IsCollected parties (P ++ e ∷ []) ps
    collected e count came g d = record {
      count = count;
      brought = came;
      taken = λ given is k.
          let now : given_in P ≡ given ∷ [] = sym (given_none P e g) ∙ is in
          taken_none k P e d ∙ (sym (append-nil (taken_by k P)) ∙ (ap (λ (o : Option T). taken_by k P ++ option_to_list o) (sym (nothing_left k)) ∙ (tr.taken k ∙ ap (given_to k) now)));
    }

  pub gives : (ps : List (Option T)) (t : ExchangeState T) → who ps ≡ s.present → is_some s.elected ≡ true → t ≡ record s { given = ps; elected = None } → Tracks parties t (P ++ entry n (Give ps) Given t ∷ [])
  gives ps t all held same = subst (λ (u : ExchangeState T). Tracks parties u (P ++ entry n (Give ps) Given t ∷ [])) (sym same) (record {
    long = tr.long;
    given_long = sym (length-map ps (λ (p : Option T). is_some p)) ∙ (ap length all ∙ tr.present_long);
    present_long = tr.present_long;
    brought = λ k. brought_none k P e refl ∙ tr.brought k;
    taken = λ k. ap (λ (l : List T). l ++ option_to_list (at ps k)) (taken_none k P e refl ∙ none_taken k) ∙ ap (given_to k) (sym now);
    few = subst (λ (l : List (List (Option T))). length l ≤ 1) (sym now) (omega arith);
    held = λ h. absurd (cc);
    turn = λ k y h. ((tr.held held).1 k, is_here ps s.present k y all h);
  })
    where
      e : Step T
      e = entry n (Give ps) Given t

      now : given_in (P ++ e ∷ []) ≡ ps ∷ []
      now = given_snoc P e ∙ ap (λ (l : List (List (Option T))). l ++ ps ∷ []) (tr.held held).0

      none_taken : (k : ℕ) → taken_by k P ≡ []
      none_taken k = sym (append-nil (taken_by k P)) ∙ (ap (λ (o : Option T). taken_by k P ++ option_to_list o) (sym ((tr.held held).2 k)) ∙ (tr.taken k ∙ ap (given_to k) (tr.held held).0))

  nobody_holds : (x : T) → at s.given n ≡ Some x → is_some s.elected ≡ true → ⊥
  nobody_holds x h held = none_not_some (at s.given n) x ((tr.held held).2 n) h

  pub takes : (x : T) (t : ExchangeState T) → at s.given n ≡ Some x → t ≡ record s { given = slice_set s.given n None } → Tracks parties t (P ++ entry n Take (Taken x) t ∷ [])
  takes x t h same = subst (λ (u : ExchangeState T). Tracks parties u (P ++ entry n Take (Taken x) t ∷ [])) (sym same) (record {
    long = tr.long;
    given_long = length-set s.given n None ∙ tr.given_long;
    present_long = tr.present_long;
    brought = λ k. brought_none k P e refl ∙ tr.brought k;
    taken = λ k. dite (ℕ_discrete k n) (mine k) (λ ne. ap (λ (z : List T × Option T). z.0 ++ option_to_list z.1) (λ i. (taken_else k P e (λ q. ne (sym q)) i, at_other s.given n k None ne i)) ∙ (tr.taken k ∙ ap (given_to k) (sym (given_none P e refl))));
    few = subst (λ (l : List (List (Option T))). length l ≤ 1) (sym (given_none P e refl)) tr.few;
    held = λ held. absurd (nobody_holds x h held);
    turn = λ k y a. dite (ℕ_discrete k n) (λ is. absurd (none_not_some (at (slice_set s.given n None) k) y (ap (at (slice_set s.given n None)) is ∙ at_same s.given n None within) a)) (λ ne. tr.turn k y (sym (at_other s.given n k None ne) ∙ a));
  })
    where
      e : Step T
      e = entry n Take (Taken x) t

      within : n < length s.given
      within = at_within s.given n x h

      mine : (k : ℕ) → k ≡ n → taken_by k (P ++ e ∷ []) ++ option_to_list (at (slice_set s.given n None) k) ≡ given_to k (given_in (P ++ e ∷ []))
      mine k is =
          let one : cond (n == k) (x ∷ []) [] ≡ x ∷ [] = ap (λ (b : Bool). cond b (x ∷ []) []) (eq-eqb n k (sym is)) in
          let grown : taken_by k (P ++ e ∷ []) ≡ taken_by k P ++ option_to_list (at s.given k) = taken_snoc k P e ∙ ap (λ (l : List T). taken_by k P ++ l) (one ∙ ap option_to_list (sym (ap (at s.given) is ∙ h))) in
          let left : option_to_list (at (slice_set s.given n None) k) ≡ [] = ap option_to_list (ap (at (slice_set s.given n None)) is ∙ at_same s.given n None within) in
          ap (λ (l : List T). taken_by k (P ++ e ∷ []) ++ l) left ∙ (append-nil (taken_by k (P ++ e ∷ [])) ∙ (grown ∙ (tr.taken k ∙ ap (given_to k) (sym (given_none P e refl)))))

  -- what a party takes
  pub handed_out : (x : T) → at s.given n ≡ Some x → IsHandedOut n P x
  handed_out x h = by (given_in P) refl tr.few
    where
      whole : taken_by n P ++ x ∷ [] ≡ given_to n (given_in P)
      whole = ap (λ (o : Option T). taken_by n P ++ option_to_list o) (sym h) ∙ tr.taken n

      single : (xs : List T) (o : Option T) → xs ++ x ∷ [] ≡ option_to_list o → (xs ≡ []) × (o ≡ Some x)
      single [] None q = absurd (cc)
      single [] (Some y) q = let same : x ≡ y = cc in (refl, ap (λ (z : T). Some z) (sym same))
      single (y ∷ ys) None q = absurd (cc)
      single (y ∷ ys) (Some z) q = absurd (omega (arith, ap length q, length-append (y ∷ ys) (x ∷ [])))

      by : (gs : List (List (Option T))) → given_in P ≡ gs → length (given_in P) ≤ 1 → IsHandedOut n P x
      by [] is few = absurd (let q : taken_by n P ++ x ∷ [] ≡ [] = whole ∙ ap (given_to n) is in omega (arith, ap length q, length-append (taken_by n P) (x ∷ [])))
      by (ps ∷ []) is few =
          let r = single (taken_by n P) (at ps n) (whole ∙ ap (given_to n) is) in
          record { places = ps; given = is; own = r.1; once = r.0 }
      by (ps ∷ (qs ∷ rs)) is few = absurd (omega (arith, ap length is, few))

module _ {T : Type 0} (parties : ℕ) (s : ExchangeState T) (P : List (Step T)) (tr : Tracks parties s P) (n : ℕ) where
  -- what differs at the end of a phase only in the caller's place
  brings_others : (x : T) (k : ℕ) → k ≢ n → (at (with_token n x s.brought) k ≡ at s.brought k) × (takes_part k s.present ≡ takes_part k s.present)
  brings_others x k ne = (at_other s.brought n k (Some x) ne, refl)

  leaves_others : (k : ℕ) → k ≢ n → (at s.brought k ≡ at s.brought k) × (takes_part k (without n s.present) ≡ takes_part k s.present)
  leaves_others k ne = (refl, left_other s.present n k ne)

  brings : (x : T) (r : ExchangeReply T) (t : ExchangeState T) → Brings n s r t x → Tracks parties t (cond (is_end r) [] (P ++ entry n (Bring x) r t ∷ []))
  brings x r t h = busy (is_busy n s) refl
    where
      busy : (b : Bool) → is_busy n s ≡ b → Tracks parties t (cond (is_end r) [] (P ++ entry n (Bring x) r t ∷ []))
      busy true e = let k = h.refused e in idle parties s P tr n (Bring x) r t k.1 (ap (brought_of (Bring x)) k.0) (ap (given_of (Bring x)) k.0) (ap taken_of k.0) (ap is_end k.0)
      busy false e = by_marks (who (with_token n x s.brought)) s.present
          (λ all. let k = h.ends e all in subst (λ (q : ExchangeReply T). Tracks parties t (cond (is_end q) [] (P ++ entry n (Bring x) q t ∷ []))) (sym k.0)
          (ends parties s P tr n (with_token n x s.brought) s.present all (brings_others x) (free_at n s e).none_given t tr.present_long k.1))
          (λ ne. let k = h.waits e ne in subst (λ (q : ExchangeReply T). Tracks parties t (cond (is_end q) [] (P ++ entry n (Bring x) q t ∷ []))) (sym k.0) (waits parties s P tr n x t h.party (free_at n s e) k.1))

  gives_all : (ps : List (Option T)) (r : ExchangeReply T) (t : ExchangeState T) → Gives n s r t ps → Tracks parties t (cond (is_end r) [] (P ++ entry n (Give ps) r t ∷ []))
  gives_all ps r t h = by (is_elected n s.elected) refl
    where
      refused : (r ≡ Refused) × (t ≡ s) → Tracks parties t (cond (is_end r) [] (P ++ entry n (Give ps) r t ∷ []))
      refused k = idle parties s P tr n (Give ps) r t k.1 (ap (brought_of (Give ps)) k.0) (ap (given_of (Give ps)) k.0) (ap taken_of k.0) (ap is_end k.0)

      by : (b : Bool) → is_elected n s.elected ≡ b → Tracks parties t (cond (is_end r) [] (P ++ entry n (Give ps) r t ∷ []))
      by true e = by_marks (who ps) s.present
          (λ all. let k = h.given e all in subst (λ (q : ExchangeReply T). Tracks parties t (cond (is_end q) [] (P ++ entry n (Give ps) q t ∷ []))) (sym k.0) (gives parties s P tr n ps t all (elected_some n s.elected e) k.1))
          (λ ne. refused (h.unfit ne))
      by false e = refused (h.refused e)

  takes_one : (r : ExchangeReply T) (t : ExchangeState T) → Takes n s r t → Tracks parties t (cond (is_end r) [] (P ++ entry n Take r t ∷ []))
  takes_one r t h = by (at s.given n) refl
    where
      by : (o : Option T) → at s.given n ≡ o → Tracks parties t (cond (is_end r) [] (P ++ entry n Take r t ∷ []))
      by None e = let k = h.nothing e in idle parties s P tr n Take r t k.1 (ap (brought_of Take) k.0) (ap (given_of Take) k.0) (ap taken_of k.0) (ap is_end k.0)
      by (Some x) e = let k = h.taken x e in subst (λ (q : ExchangeReply T). Tracks parties t (cond (is_end q) [] (P ++ entry n Take q t ∷ []))) (sym k.0) (takes parties s P tr n x t e k.1)

  leaves : (r : ExchangeReply T) (t : ExchangeState T) → Leaves n s r t → Tracks parties t (cond (is_end r) [] (P ++ entry n Leave r t ∷ []))
  leaves r t h = here (takes_part n s.present) refl
    where
      still : (r ≡ Gone) × (t ≡ s) → Tracks parties t (cond (is_end r) [] (P ++ entry n Leave r t ∷ []))
      still k = idle parties s P tr n Leave r t k.1 (ap (brought_of Leave) k.0) (ap (given_of Leave) k.0) (ap taken_of k.0) (ap is_end k.0)

      busy_still : (r ≡ Refused) × (t ≡ s) → Tracks parties t (cond (is_end r) [] (P ++ entry n Leave r t ∷ []))
      busy_still k = idle parties s P tr n Leave r t k.1 (ap (brought_of Leave) k.0) (ap (given_of Leave) k.0) (ap taken_of k.0) (ap is_end k.0)

      goes : (b : Bool) → is_busy n s ≡ false → (r ≡ Left b) × (t ≡ record s { present = without n s.present }) → Tracks parties t (cond (is_end r) [] (P ++ entry n Leave r t ∷ []))
      goes b f k = subst (λ (q : ExchangeReply T). Tracks parties t (cond (is_end q) [] (P ++ entry n Leave q t ∷ []))) (sym k.0) (parts parties s P tr n b t (free_at n s f) k.1)

      used : is_busy n s ≡ false → (b : Bool) → list_any (λ (m : Bool). m) (without n s.present) ≡ b → Tracks parties t (cond (is_end r) [] (P ++ entry n Leave r t ∷ []))
      used f false e = goes true f (h.last f e)
      used f true e = by_marks (who s.brought) (without n s.present)
          (λ all. let k = h.ends f e all in subst (λ (q : ExchangeReply T). Tracks parties t (cond (is_end q) [] (P ++ entry n Leave q t ∷ []))) (sym k.0)
          (ends parties s P tr n s.brought (without n s.present) all leaves_others (free_at n s f).none_given t (length-set s.present n false ∙ tr.present_long) k.1))
          (λ ne. goes false f (h.left f e ne))

      busy : takes_part n s.present ≡ true → (b : Bool) → is_busy n s ≡ b → Tracks parties t (cond (is_end r) [] (P ++ entry n Leave r t ∷ []))
      busy p true e = busy_still (h.busy p e)
      busy p false e = used e (list_any (λ (m : Bool). m) (without n s.present)) refl

      here : (b : Bool) → takes_part n s.present ≡ b → Tracks parties t (cond (is_end r) [] (P ++ entry n Leave r t ∷ []))
      here false e = still (h.gone e)
      here true e = busy e (is_busy n s) refl

  -- a call, in its phase
  pub tracks : (c : ExchangeCall T) (r : ExchangeReply T) (t : ExchangeState T) → ExchangeLegal n s c r t → Tracks parties t (cond (is_end r) [] (P ++ entry n c r t ∷ []))
  tracks (Bring x) r t h = brings x r t h
  tracks (Give ps) r t h = gives_all ps r t h
  tracks Take r t h = takes_one r t h
  tracks Leave r t h = leaves r t h

  -- the end of a phase
  pub ends_by : (c : ExchangeCall T) (r : ExchangeReply T) (t : ExchangeState T) (places : List (Option T)) → ExchangeLegal n s c r t → ends_with r ≡ Some places → IsCollected parties (P ++ entry n c r t ∷ []) places × (who places ≡ t.present)
  ends_by (Bring x) r t places h is = busy (is_busy n s) refl
    where
      busy : (b : Bool) → is_busy n s ≡ b → IsCollected parties (P ++ entry n (Bring x) r t ∷ []) places × (who places ≡ t.present)
      busy true e = absurd (let k : None ≡ Some places = sym (ap ends_with (h.refused e).0) ∙ is in cc)
      busy false e = by_marks (who (with_token n x s.brought)) s.present
          (λ all.
          let k = h.ends e all in
          let q : Some (with_token n x s.brought) ≡ Some places = sym (ap ends_with k.0) ∙ is in
          let same : with_token n x s.brought ≡ places = cc in
          let f = free_at n s e in
          subst (λ (ps : List (Option T)). IsCollected parties (P ++ entry n (Bring x) r t ∷ []) ps × (who ps ≡ t.present)) same (
            collected parties s P tr n (with_token n x s.brought) s.present all (brings_others x) f.none_given (entry n (Bring x) r t) (length-set s.brought n (Some x) ∙ tr.long) (brought_one parties s P tr n x r t (ap is_refused k.0) h.party f) refl (ap taken_of k.0),
            all ∙ sym (ap (λ (u : ExchangeState T). u.present) k.1),
          ))
          (λ ne. absurd (let k : None ≡ Some places = sym (ap ends_with (h.waits e ne).0) ∙ is in cc))
  ends_by (Give ps) r t places h is = by (is_elected n s.elected) refl
    where
      by : (b : Bool) → is_elected n s.elected ≡ b → IsCollected parties (P ++ entry n (Give ps) r t ∷ []) places × (who places ≡ t.present)
      by true e = by_marks (who ps) s.present
          (λ all. absurd (let k : None ≡ Some places = sym (ap ends_with (h.given e all).0) ∙ is in cc))
          (λ ne. absurd (let k : None ≡ Some places = sym (ap ends_with (h.unfit ne).0) ∙ is in cc))
      by false e = absurd (let k : None ≡ Some places = sym (ap ends_with (h.refused e).0) ∙ is in cc)
  ends_by Take r t places h is = by (at s.given n) refl
    where
      by : (o : Option T) → at s.given n ≡ o → IsCollected parties (P ++ entry n Take r t ∷ []) places × (who places ≡ t.present)
      by None e = absurd (let k : None ≡ Some places = sym (ap ends_with (h.nothing e).0) ∙ is in cc)
      by (Some x) e = absurd (let k : None ≡ Some places = sym (ap ends_with (h.taken x e).0) ∙ is in cc)
  ends_by Leave r t places h is = here (takes_part n s.present) refl
    where
      used : is_busy n s ≡ false → (b : Bool) → list_any (λ (m : Bool). m) (without n s.present) ≡ b → IsCollected parties (P ++ entry n Leave r t ∷ []) places × (who places ≡ t.present)
      used f false e = absurd (let k : None ≡ Some places = sym (ap ends_with (h.last f e).0) ∙ is in cc)
      used f true e = by_marks (who s.brought) (without n s.present)
          (λ all.
          let k = h.ends f e all in
          let q : Some s.brought ≡ Some places = sym (ap ends_with k.0) ∙ is in
          let same : s.brought ≡ places = cc in
          subst (λ (ps : List (Option T)). IsCollected parties (P ++ entry n Leave r t ∷ []) ps × (who ps ≡ t.present)) same (
            collected parties s P tr n s.brought (without n s.present) all leaves_others (free_at n s f).none_given (entry n Leave r t) tr.long (λ j. brought_none j P (entry n Leave r t) refl ∙ tr.brought j) refl (ap taken_of k.0),
            all ∙ sym (ap (λ (u : ExchangeState T). u.present) k.1),
          ))
          (λ ne. absurd (let k : None ≡ Some places = sym (ap ends_with (h.left f e ne).0) ∙ is in cc))

      busy : takes_part n s.present ≡ true → (b : Bool) → is_busy n s ≡ b → IsCollected parties (P ++ entry n Leave r t ∷ []) places × (who places ≡ t.present)
      busy p true e = absurd (let k : None ≡ Some places = sym (ap ends_with (h.busy p e).0) ∙ is in cc)
      busy p false e = used e (list_any (λ (m : Bool). m) (without n s.present)) refl

      here : (b : Bool) → takes_part n s.present ≡ b → IsCollected parties (P ++ entry n Leave r t ∷ []) places × (who places ≡ t.present)
      here false e = absurd (let k : None ≡ Some places = sym (ap ends_with (h.gone e).0) ∙ is in cc)
      here true e = busy e (is_busy n s) refl

  -- a token that was taken had been given
  pub takes_given : (c : ExchangeCall T) (r : ExchangeReply T) (t : ExchangeState T) (x : T) → ExchangeLegal n s c r t → r ≡ Taken x → at s.given n ≡ Some x
  takes_given (Bring y) r t x h is = busy (is_busy n s) refl
    where
      busy : (b : Bool) → is_busy n s ≡ b → at s.given n ≡ Some x
      busy true e = absurd (let k : Refused ≡ Taken x = sym (h.refused e).0 ∙ is in cc)
      busy false e = by_marks (who (with_token n y s.brought)) s.present
          (λ all. absurd (let k : Collected (with_token n y s.brought) ≡ Taken x = sym (h.ends e all).0 ∙ is in cc))
          (λ ne. absurd (let k : Waiting ≡ Taken x = sym (h.waits e ne).0 ∙ is in cc))
  takes_given (Give ps) r t x h is = by (is_elected n s.elected) refl
    where
      by : (b : Bool) → is_elected n s.elected ≡ b → at s.given n ≡ Some x
      by true e = by_marks (who ps) s.present
          (λ all. absurd (let k : Given ≡ Taken x = sym (h.given e all).0 ∙ is in cc))
          (λ ne. absurd (let k : Refused ≡ Taken x = sym (h.unfit ne).0 ∙ is in cc))
      by false e = absurd (let k : Refused ≡ Taken x = sym (h.refused e).0 ∙ is in cc)
  takes_given Take r t x h is = by (at s.given n) refl
    where
      by : (o : Option T) → at s.given n ≡ o → at s.given n ≡ Some x
      by None e = absurd (let k : Nothing ≡ Taken x = sym (h.nothing e).0 ∙ is in cc)
      by (Some y) e = let k : Taken y ≡ Taken x = sym (h.taken y e).0 ∙ is in let same : y ≡ x = cc in e ∙ ap (λ (z : T). Some z) same
  takes_given Leave r t x h is = here (takes_part n s.present) refl
    where
      used : is_busy n s ≡ false → (b : Bool) → list_any (λ (m : Bool). m) (without n s.present) ≡ b → at s.given n ≡ Some x
      used f false e = absurd (let k : Left true ≡ Taken x = sym (h.last f e).0 ∙ is in cc)
      used f true e = by_marks (who s.brought) (without n s.present)
          (λ all. absurd (let k : Leaving s.brought ≡ Taken x = sym (h.ends f e all).0 ∙ is in cc))
          (λ ne. absurd (let k : Left false ≡ Taken x = sym (h.left f e ne).0 ∙ is in cc))

      busy : takes_part n s.present ≡ true → (b : Bool) → is_busy n s ≡ b → at s.given n ≡ Some x
      busy p true e = absurd (let k : Refused ≡ Taken x = sym (h.busy p e).0 ∙ is in cc)
      busy p false e = used e (list_any (λ (m : Bool). m) (without n s.present)) refl

      here : (b : Bool) → takes_part n s.present ≡ b → at s.given n ≡ Some x
      here false e = absurd (let k : Gone ≡ Taken x = sym (h.gone e).0 ∙ is in cc)
      here true e = busy e (is_busy n s) refl

module _ {T : Type 0} where
  pub tracks_fresh : (parties : ℕ) → Tracks {T = T} parties (fresh parties) []
  tracks_fresh parties = record {
    long = length-replicate parties None;
    given_long = length-replicate parties None;
    present_long = length-replicate parties true;
    brought = λ k. ap option_to_list (sym (at_fresh parties k));
    taken = λ k. ap option_to_list (at_fresh parties k);
    few = omega arith;
    held = λ h. absurd (cc);
    turn = λ k x h. absurd (some-none x (sym h ∙ at_fresh parties k));
  }

  -- all calls of a history, in their phases
  pub tracks_all : (parties : ℕ) (s : ExchangeState T) (P es : List (Step T)) → Tracks parties s P → IsLegal ExchangeLegal s es → Tracks parties (last_of s es) (this_phase P es)
  tracks_all parties s P [] tr h = tr
  tracks_all parties s P (e ∷ es) tr h = tracks_all parties e.after (cond (is_end e.reply) [] (P ++ e ∷ [])) es (tracks parties s P tr e.by e.call e.reply e.after h.0) h.1

  module _ (parties : ℕ) (front : List (Step T)) (e : Step T) (h : IsLegal ExchangeLegal (fresh parties) (front ++ e ∷ [])) where
    tracked : Tracks parties (last_of (fresh parties) front) (this_phase [] front)
    tracked = tracks_all parties (fresh parties) [] front (tracks_fresh parties) (legal_front ExchangeLegal (fresh parties) front (e ∷ []) h)

    now_legal : ExchangeLegal e.by (last_of (fresh parties) front) e.call e.reply e.after
    now_legal = (legal_back ExchangeLegal (fresh parties) front (e ∷ []) h).0

    pub ends_now : (places : List (Option T)) → ends_with e.reply ≡ Some places → IsCollected parties (this_phase [] front ++ e ∷ []) places × (who places ≡ e.after.present)
    ends_now places is = ends_by parties (last_of (fresh parties) front) (this_phase [] front) tracked e.by e.call e.reply e.after places now_legal is

    pub taken_now : (x : T) → e.reply ≡ Taken x → IsHandedOut e.by (this_phase [] front) x
    taken_now x is = handed_out parties (last_of (fresh parties) front) (this_phase [] front) tracked e.by x (takes_given parties (last_of (fresh parties) front) (this_phase [] front) tracked e.by e.call e.reply e.after x now_legal is)

  pub gathers_each : GathersEach T
  gathers_each parties front e places h is = (ends_now parties front e h places is).0

  pub gives_each : GivesEach T
  gives_each parties front e x h is = taken_now parties front e h x is
