-- What every call of a barrier does to the phase, to who is elected, and to who has arrived.
use Rattle.std.proofs.Common.{◌≡◌, ◌≢◌, ◌⊎◌, inl, inr, ℕ, ◌==◌, Bool, true, false, not, ◌&&◌, ◌||◌, List, [], ◌∷◌, ◌++◌, Option, Some, None, refl, sym, ap, ◌∙◌, subst, eqb-true, eq-eqb, true≢false}
use Rattle.par_barrier.specs.declared.history.BarrierState.{BarrierState}
use Rattle.par_barrier.specs.declared.history.BarrierCall.{BarrierCall}
use Rattle.par_barrier.specs.declared.history.BarrierCall.TheVariants.{Attach, Arrive, Look, Detach, ArriveAndDetach, ArriveAndDetachExceptLast}
use Rattle.par_barrier.specs.declared.history.BarrierReply.{BarrierReply}
use Rattle.par_barrier.specs.declared.history.BarrierReply.TheVariants.{Attached, Waiting, Released, Left, AlreadyIn, NotIn, Twice}
use Rattle.par_barrier.specs.Parties.{is_among, without, are_among, next_phase, joined, with_arrival, parted, ended, abandoned, is_elected}
use Rattle.par_barrier.specs.Legal.{BarrierLegal, Attaches, Arrives, Leaves, Looks, Detaches, ArrivesAndDetaches, ArrivesAndDetachesExceptLast}
use Rattle.par_barrier.specs.Phases.{phase_told, is_arrival, is_left}
use Rattle.par_barrier.proofs.Members.{among-push, among-pushed, among-kept, among-without, among-first, both_are, and_true}
use Rattle.par_barrier.proofs.Ways.{none_arrived}

-- who has arrived takes part
abbrev pub IsSound : BarrierState → Type 0
IsSound s = (m : ℕ) → is_among m s.arrived ≡ true → is_among m s.attached ≡ true

-- the caller m had arrived, and n, which is answered r, is another caller or does not leave
abbrev pub WasThere : ℕ → BarrierState → BarrierReply → ℕ → Type 0
WasThere n s r m = (is_among m s.arrived ≡ true) × (((n == m) && is_left r) ≡ false)

-- a call in whose phase nothing ended
pub record Quiet (n : ℕ) (s : BarrierState) (c : BarrierCall) (r : BarrierReply) (t : BarrierState) : Type 0 where
  pub phase : t.phase ≡ s.phase
  pub elected : t.elected ≡ s.elected
  pub told : (p : ℕ) → r ≡ Released p true → s.elected ≡ Some n
  pub came : (m : ℕ) → is_among m t.arrived ≡ true → WasThere n s r m ⊎ ((n ≡ m) × (c ≡ Arrive) × (r ≡ Waiting))
  pub stays : (m : ℕ) → is_among m s.arrived ≡ true → ((n == m) && is_left r) ≡ false → is_among m t.arrived ≡ true
  pub arrives : c ≡ Arrive → r ≡ Waiting → is_among n t.arrived ≡ true

-- the end of a phase elected one that takes part and had arrived, or arrives by this call
pub record Elects (n : ℕ) (s : BarrierState) (c : BarrierCall) (r : BarrierReply) (t : BarrierState) : Type 0 where
  pub winner : ℕ
  pub elects : t.elected ≡ Some winner
  pub takes_part : is_among winner t.attached ≡ true
  pub came : WasThere n s r winner ⊎ ((n ≡ winner) × (is_arrival c ≡ true) × ((p : ℕ) × (r ≡ Released p true)))

-- a call that ended its phase
pub record Ends (n : ℕ) (s : BarrierState) (c : BarrierCall) (r : BarrierReply) (t : BarrierState) : Type 0 where
  pub phase : t.phase ≡ next_phase s.phase
  pub empty : t.arrived ≡ []
  pub told : (p : ℕ) → r ≡ Released p true → t.elected ≡ Some n
  pub loud : r ≡ Waiting → ⊥
  pub who : Elects n s c r t ⊎ ((c ≡ ArriveAndDetach) × (t.attached ≡ []) × (t.elected ≡ None))

-- a call
pub record Turn (n : ℕ) (s : BarrierState) (c : BarrierCall) (r : BarrierReply) (t : BarrierState) : Type 0 where
  pub told : (p : ℕ) → phase_told r ≡ Some p → p ≡ t.phase
  pub sound : IsSound t
  pub kind : Quiet n s c r t ⊎ Ends n s c r t

and_false : (b : Bool) → (b && false) ≡ false
and_false true = refl
and_false false = refl

module _ (n : ℕ) (s : BarrierState) (sound : IsSound s) where
  -- nothing changed
  idle : (c : BarrierCall) (r : BarrierReply) → ((p : ℕ) → phase_told r ≡ Some p → p ≡ s.phase) → ((p : ℕ) → r ≡ Released p true → s.elected ≡ Some n) → is_left r ≡ false → (c ≡ Arrive → r ≡ Waiting → ⊥) → (t : BarrierState) → t ≡ s → Turn n s c r t
  idle c r told elected there quiet t e = subst (λ (u : BarrierState). Turn n s c r u) (sym e) (record {
    told = told;
    sound = sound;
    kind = inl (record { phase = refl; elected = refl; told = elected; came = λ m h. inl (h, ap (λ b. (n == m) && b) there ∙ and_false (n == m)); stays = λ m h _. h; arrives = λ a w. absurd (quiet a w) });
  })

  absent : (c : BarrierCall) → is_among n s.attached ≡ false → (t : BarrierState) → t ≡ s → (r : BarrierReply) → r ≡ NotIn s.phase → Turn n s c r t
  absent c out t e r is = subst (λ (q : BarrierReply). Turn n s c q t) (sym is) (idle c (NotIn s.phase) (λ p h. cc) (λ p h. absurd (cc)) refl (λ a w. absurd (cc)) t e)

  attach : (r : BarrierReply) (t : BarrierState) → Attaches n s r t → Turn n s Attach r t
  attach r t h = by (is_among n s.attached) refl
    where
      fresh : (r ≡ Attached s.phase) × (t ≡ joined n s) → Turn n s Attach r t
      fresh k = subst (λ (q : BarrierReply). Turn n s Attach q t) (sym k.0) (subst (λ (u : BarrierState). Turn n s Attach (Attached s.phase) u) (sym k.1) (record {
        told = λ p e. cc;
        sound = λ m e. among-kept m n s.attached (sound m e);
        kind = inl (record { phase = refl; elected = refl; told = λ p e. absurd (cc); came = λ m e. inl (e, and_false (n == m)); stays = λ m e _. e; arrives = λ a w. absurd (cc) });
      }))

      by : (b : Bool) → is_among n s.attached ≡ b → Turn n s Attach r t
      by true e = let k = h.refused e in subst (λ (q : BarrierReply). Turn n s Attach q t) (sym k.0) (idle Attach (AlreadyIn s.phase) (λ p u. cc) (λ p u. absurd (cc)) refl (λ a w. absurd (cc)) t k.1)
      by false e = fresh (h.attached e)

  pushed : (b : Bool) (m : ℕ) → is_among m s.arrived ≡ b → is_among m (s.arrived ++ n ∷ []) ≡ true → (is_among m s.arrived ≡ true) ⊎ (n ≡ m)
  pushed true m e h = inl e
  pushed false m e h = inr (eqb-true n m (sym (ap (λ b. b || (n == m)) e) ∙ (sym (among-push m n s.arrived) ∙ h)))

  waits : is_among n s.attached ≡ true → (r : BarrierReply) (t : BarrierState) → (r ≡ Waiting) × (t ≡ with_arrival n s) → Turn n s Arrive r t
  waits here r t k = subst (λ (q : BarrierReply). Turn n s Arrive q t) (sym k.0) (subst (λ (u : BarrierState). Turn n s Arrive Waiting u) (sym k.1) (record {
    told = λ p e. absurd (cc);
    sound = λ m e. come m (pushed (is_among m s.arrived) m refl e);
    kind = inl (record { phase = refl; elected = refl; told = λ p e. absurd (cc); came = λ m e. who m (pushed (is_among m s.arrived) m refl e); stays = λ m e _. among-kept m n s.arrived e; arrives = λ _ _. among-pushed n s.arrived });
  }))
    where
      come : (m : ℕ) → (is_among m s.arrived ≡ true) ⊎ (n ≡ m) → is_among m s.attached ≡ true
      come m (inl e) = sound m e
      come m (inr e) = subst (λ (j : ℕ). is_among j s.attached ≡ true) e here

      who : (m : ℕ) → (is_among m s.arrived ≡ true) ⊎ (n ≡ m) → WasThere n s Waiting m ⊎ ((n ≡ m) × (Arrive ≡ Arrive) × (Waiting ≡ Waiting))
      who m (inl e) = inl (e, and_false (n == m))
      who m (inr e) = inr (e, refl, refl)

  ends : (c : BarrierCall) → is_arrival c ≡ true → is_among n s.attached ≡ true → (r : BarrierReply) (t : BarrierState) → (r ≡ Released (next_phase s.phase) true) × (t ≡ ended n s) → Turn n s c r t
  ends c arrival here r t k = subst (λ (q : BarrierReply). Turn n s c q t) (sym k.0) (subst (λ (u : BarrierState). Turn n s c (Released (next_phase s.phase) true) u) (sym k.1) (record {
    told = λ p e. cc;
    sound = λ m e. absurd (cc);
    kind = inr (record { phase = refl; empty = refl; told = λ p e. refl; loud = λ w. absurd (cc); who = inl (record { winner = n; elects = refl; takes_part = here; came = inr (refl, arrival, (next_phase s.phase, refl)) }) });
  }))

  arrive : (r : BarrierReply) (t : BarrierState) → Arrives n s r t → Turn n s Arrive r t
  arrive r t h = by (is_among n s.attached) refl
    where
      last : is_among n s.attached ≡ true → is_among n s.arrived ≡ false → (b : Bool) → are_among s.attached (s.arrived ++ n ∷ []) ≡ b → Turn n s Arrive r t
      last here new true e = ends Arrive refl here r t (h.ends here new e)
      last here new false e = waits here r t (h.waits here new e)

      twice : is_among n s.attached ≡ true → (b : Bool) → is_among n s.arrived ≡ b → Turn n s Arrive r t
      twice here true e = let k = h.twice here e in subst (λ (q : BarrierReply). Turn n s Arrive q t) (sym k.0) (idle Arrive (Twice s.phase) (λ p u. cc) (λ p u. absurd (cc)) refl (λ a w. absurd (cc)) t k.1)
      twice here false e = last here e (are_among s.attached (s.arrived ++ n ∷ [])) refl

      by : (b : Bool) → is_among n s.attached ≡ b → Turn n s Arrive r t
      by true e = twice e (is_among n s.arrived) refl
      by false e = absent Arrive e t (h.absent e).same r (h.absent e).told

  elected_is : (o : Option ℕ) → is_elected n o ≡ true → o ≡ Some n
  elected_is None e = absurd (cc)
  elected_is (Some m) e = ap (λ (k : ℕ). Some k) (eqb-true m n e)

  look : (r : BarrierReply) (t : BarrierState) → Looks n s r t → Turn n s Look r t
  look r t h = by (is_among n s.attached) refl
    where
      released : r ≡ Released s.phase (is_elected n s.elected) → Turn n s Look r t
      released is = subst (λ (q : BarrierReply). Turn n s Look q t) (sym is) (idle Look (Released s.phase (is_elected n s.elected)) (λ p u. cc) (λ p u. elected_is s.elected (let k : is_elected n s.elected ≡ true = cc in k)) refl (λ a w. absurd (cc)) t h.same)

      came : is_among n s.attached ≡ true → (b : Bool) → is_among n s.arrived ≡ b → Turn n s Look r t
      came here true e = subst (λ (q : BarrierReply). Turn n s Look q t) (sym (h.waits here e)) (idle Look Waiting (λ p u. absurd (cc)) (λ p u. absurd (cc)) refl (λ a w. absurd (cc)) t h.same)
      came here false e = released (h.released here e)

      by : (b : Bool) → is_among n s.attached ≡ b → Turn n s Look r t
      by true e = came e (is_among n s.arrived) refl
      by false e = absent Look e t h.same r (h.absent e)

  -- of whom is left, who had arrived has, and is not the caller
  left : (m : ℕ) → is_among m (without n s.arrived) ≡ true → (is_among m s.arrived ≡ true) × ((n == m) ≡ false)
  left m h = (k.0, by (n == m) refl)
    where
      k : (is_among m s.arrived ≡ true) × (not (m == n) ≡ true)
      k = both_are (is_among m s.arrived) (not (m == n)) (sym (among-without m n s.arrived) ∙ h)

      by : (b : Bool) → (n == m) ≡ b → b ≡ false
      by true e = let o : not (m == n) ≡ false = ap not (eq-eqb m n (sym (eqb-true n m e))) in let t : not (m == n) ≡ true = k.1 in absurd (true≢false (sym t ∙ o))
      by false e = refl

  still : (m : ℕ) → (n == m) ≡ false → (xs : List ℕ) → is_among m xs ≡ true → is_among m (without n xs) ≡ true
  still m ne xs h = among-without m n xs ∙ and_true (is_among m xs) (not (m == n)) h (ap not (other (m == n) refl))
    where
      other : (b : Bool) → (m == n) ≡ b → b ≡ false
      other true e = let o : (n == m) ≡ true = eq-eqb n m (sym (eqb-true m n e)) in absurd (cc)
      other false e = refl

  remain : (m : ℕ) → is_among m (without n s.arrived) ≡ true → is_among m (without n s.attached) ≡ true
  remain m h = let k = left m h in still m k.1 s.attached (sound m k.0)

  not_leaving : (m : ℕ) → ((n == m) && true) ≡ false → (n == m) ≡ false
  not_leaving m h = by (n == m) refl
    where
      by : (b : Bool) → (n == m) ≡ b → b ≡ false
      by true e = let o : ((n == m) && true) ≡ true = ap (λ b. b && true) e in absurd (cc)
      by false e = refl

  parts : (c : BarrierCall) (l : Bool) (r : BarrierReply) (t : BarrierState) → (r ≡ Left s.phase l) × (t ≡ parted n s) → Turn n s c r t
  parts c l r t k = subst (λ (q : BarrierReply). Turn n s c q t) (sym k.0) (subst (λ (u : BarrierState). Turn n s c (Left s.phase l) u) (sym k.1) (record {
    told = λ p e. cc;
    sound = remain;
    kind = inl (record { phase = refl; elected = refl; told = λ p e. absurd (cc); came = λ m e. let u = left m e in inl (u.0, ap (λ b. b && true) u.1); stays = λ m e ne. still m (not_leaving m ne) s.arrived e; arrives = λ a w. absurd (cc) });
  }))

  part_ends : (c : BarrierCall) (first : ℕ) (others : List ℕ) → without n s.arrived ≡ first ∷ others → (r : BarrierReply) (t : BarrierState) → (r ≡ Left (next_phase s.phase) false) × (t ≡ ended first (parted n s)) → Turn n s c r t
  part_ends c first others is r t k = subst (λ (q : BarrierReply). Turn n s c q t) (sym k.0) (subst (λ (u : BarrierState). Turn n s c (Left (next_phase s.phase) false) u) (sym k.1) (record {
    told = λ p e. cc;
    sound = λ m e. absurd (cc);
    kind = inr (record { phase = refl; empty = refl; told = λ p e. absurd (cc); loud = λ w. absurd (cc); who = inl (record { winner = first; elects = refl; takes_part = remain first stands; came = inl (u.0, ap (λ b. b && true) u.1) }) });
  }))
    where
      stands : is_among first (without n s.arrived) ≡ true
      stands = ap (is_among first) is ∙ among-first first others

      u : (is_among first s.arrived ≡ true) × ((n == first) ≡ false)
      u = left first stands

  -- the caller leaves others
  leaves : (c : BarrierCall) → without n s.attached ≢ [] → (r : BarrierReply) (t : BarrierState) → Leaves (parted n s) r t → Turn n s c r t
  leaves c more r t h = some (are_among (without n s.attached) (without n s.arrived)) refl
    where
      all : are_among (without n s.attached) (without n s.arrived) ≡ true → (ys : List ℕ) → without n s.arrived ≡ ys → Turn n s c r t
      all every [] e = let o : are_among (without n s.attached) [] ≡ true = sym (ap (are_among (without n s.attached)) e) ∙ every in let f = none_arrived (without n s.attached) more in absurd (cc)
      all every (y ∷ ys) e = part_ends c y ys e r t (h.ends every y ys e)

      some : (b : Bool) → are_among (without n s.attached) (without n s.arrived) ≡ b → Turn n s c r t
      some true e = all e (without n s.arrived) refl
      some false e = parts c false r t (h.stays e)

  -- nobody stays, and the phase has ended
  abandons : without n s.attached ≡ [] → (r : BarrierReply) (t : BarrierState) → (r ≡ Left (next_phase s.phase) true) × (t ≡ abandoned (parted n s)) → Turn n s ArriveAndDetach r t
  abandons empty r t k = subst (λ (q : BarrierReply). Turn n s ArriveAndDetach q t) (sym k.0) (subst (λ (u : BarrierState). Turn n s ArriveAndDetach (Left (next_phase s.phase) true) u) (sym k.1) (record {
    told = λ p e. cc;
    sound = λ m e. absurd (cc);
    kind = inr (record { phase = refl; empty = refl; told = λ p e. absurd (cc); loud = λ w. absurd (cc); who = inr (refl, empty, refl) });
  }))

  detach : (r : BarrierReply) (t : BarrierState) → Detaches n s r t → Turn n s Detach r t
  detach r t h = by (is_among n s.attached) refl
    where
      anybody : is_among n s.attached ≡ true → (xs : List ℕ) → without n s.attached ≡ xs → Turn n s Detach r t
      anybody here [] e = parts Detach true r t (h.last here e)
      anybody here (x ∷ xs) e = let more : without n s.attached ≢ [] = (λ no. absurd (cc)) in leaves Detach more r t (h.others here more)

      by : (b : Bool) → is_among n s.attached ≡ b → Turn n s Detach r t
      by true e = anybody e (without n s.attached) refl
      by false e = absent Detach e t (h.absent e).same r (h.absent e).told

  -- the caller has arrived in this phase already
  again : (c : BarrierCall) (r : BarrierReply) (t : BarrierState) → (r ≡ Twice s.phase) × (t ≡ s) → Turn n s c r t
  again c r t k = subst (λ (q : BarrierReply). Turn n s c q t) (sym k.0) (idle c (Twice s.phase) (λ p u. cc) (λ p u. absurd (cc)) refl (λ a w. absurd (cc)) t k.1)

  depart : (r : BarrierReply) (t : BarrierState) → ArrivesAndDetaches n s r t → Turn n s ArriveAndDetach r t
  depart r t h = by (is_among n s.attached) refl
    where
      anybody : is_among n s.attached ≡ true → is_among n s.arrived ≡ false → (xs : List ℕ) → without n s.attached ≡ xs → Turn n s ArriveAndDetach r t
      anybody here new [] e = abandons e r t (h.last here new e)
      anybody here new (x ∷ xs) e = let more : without n s.attached ≢ [] = (λ no. absurd (cc)) in leaves ArriveAndDetach more r t (h.others here new more)

      came : is_among n s.attached ≡ true → (b : Bool) → is_among n s.arrived ≡ b → Turn n s ArriveAndDetach r t
      came here true e = again ArriveAndDetach r t (h.twice here e)
      came here false e = anybody here e (without n s.attached) refl

      by : (b : Bool) → is_among n s.attached ≡ b → Turn n s ArriveAndDetach r t
      by true e = came e (is_among n s.arrived) refl
      by false e = absent ArriveAndDetach e t (h.absent e).same r (h.absent e).told

  except : (r : BarrierReply) (t : BarrierState) → ArrivesAndDetachesExceptLast n s r t → Turn n s ArriveAndDetachExceptLast r t
  except r t h = by (is_among n s.attached) refl
    where
      anybody : is_among n s.attached ≡ true → is_among n s.arrived ≡ false → (xs : List ℕ) → without n s.attached ≡ xs → Turn n s ArriveAndDetachExceptLast r t
      anybody here new [] e = ends ArriveAndDetachExceptLast refl here r t (h.last here new e)
      anybody here new (x ∷ xs) e = let more : without n s.attached ≢ [] = (λ no. absurd (cc)) in leaves ArriveAndDetachExceptLast more r t (h.others here new more)

      came : is_among n s.attached ≡ true → (b : Bool) → is_among n s.arrived ≡ b → Turn n s ArriveAndDetachExceptLast r t
      came here true e = again ArriveAndDetachExceptLast r t (h.twice here e)
      came here false e = anybody here e (without n s.attached) refl

      by : (b : Bool) → is_among n s.attached ≡ b → Turn n s ArriveAndDetachExceptLast r t
      by true e = came e (is_among n s.arrived) refl
      by false e = absent ArriveAndDetachExceptLast e t (h.absent e).same r (h.absent e).told

  -- each legal call is such a turn
  pub turn : (c : BarrierCall) (r : BarrierReply) (t : BarrierState) → BarrierLegal n s c r t → Turn n s c r t
  turn Attach r t h = attach r t h
  turn Arrive r t h = arrive r t h
  turn Look r t h = look r t h
  turn Detach r t h = detach r t h
  turn ArriveAndDetach r t h = depart r t h
  turn ArriveAndDetachExceptLast r t h = except r t h
