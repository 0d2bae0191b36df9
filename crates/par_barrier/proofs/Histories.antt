-- What holds over every legal history of a barrier, by what each call does.
use Rattle.std.proofs.Common.{◌≡◌, ◌⊎◌, inl, inr, ℕ, ◌<◌, ◌+◌, ◌%◌, ◌^◌, ◌==◌, Bool, true, false, not, cond, ◌&&◌, ◌||◌, List, [], ◌∷◌, ◌++◌, Some, refl, sym, ap, ◌∙◌, subst, arith, append_assoc, eq-eqb, ne_eqb}
use Rattle.std.specs.List.{list_any}
use Rattle.std.proofs.lemmas.List.Folds.{list_any-append}
use Rattle.lock_book.specs.History.{last_of, IsLegal}
use Rattle.lock_book.proofs.Uses.{legal_front, legal_back, last-append}
use Rattle.par_barrier.specs.declared.history.BarrierState.{BarrierState}
use Rattle.par_barrier.specs.declared.history.BarrierCall.{BarrierCall}
use Rattle.par_barrier.specs.declared.history.BarrierCall.TheVariants.{Attach, Arrive, Look, Detach, ArriveAndDetach, ArriveAndDetachExceptLast}
use Rattle.par_barrier.specs.declared.history.BarrierReply.{BarrierReply}
use Rattle.par_barrier.specs.declared.history.BarrierReply.TheVariants.{Waiting, Released, Twice}
use Rattle.par_barrier.specs.Parties.{is_among, next_phase, nobody}
use Rattle.par_barrier.specs.Legal.{BarrierLegal}
use Rattle.par_barrier.specs.Phases.{Step, IsHistory, is_end, is_arrival, is_left, ends_in, this_phase, leaves_by, ArrivesBy, HasArrived, TellsPhases, IsElectedAt, IsAbandonedAt, ElectsOne, TellsElected, ArrivesOnce}
use Rattle.par_barrier.proofs.Turns.{IsSound, WasThere, Quiet, Elects, Ends, Turn, turn}

-- a sound state before a step, and the step
abbrev turn_of : (s : BarrierState) (e : Step) → IsSound s → BarrierLegal e.by s e.call e.reply e.after → Turn e.by s e.call e.reply e.after
turn_of s e sound h = turn e.by s sound e.call e.reply e.after h

pub sound_after : (s : BarrierState) (es : List Step) → IsSound s → IsLegal BarrierLegal s es → IsSound (last_of s es)
sound_after s [] sound h = sound
sound_after s (e ∷ es) sound h = sound_after e.after es (turn_of s e sound h.0).sound h.1

nobody_sound : IsSound nobody
nobody_sound m h = absurd (cc)

same_phase : (s : BarrierState) (e : Step) → e.after.phase ≡ s.phase → is_end s e ≡ false
same_phase s e h = ap not (eq-eqb e.after.phase s.phase h)

other_phase : (s : BarrierState) (e : Step) → s.phase < 2 ^ 64 → e.after.phase ≡ next_phase s.phase → is_end s e ≡ true
other_phase s e low h = ap not (ne_eqb e.after.phase s.phase (λ same. omega (arith, h, same, low)))

module _ (s : BarrierState) (e : Step) (low : s.phase < 2 ^ 64) where
  -- after each step the phase is a number of 64 bits, and one more where the step ended one
  pub counted : (Quiet e.by s e.call e.reply e.after ⊎ Ends e.by s e.call e.reply e.after) → (e.after.phase < 2 ^ 64) × (e.after.phase ≡ (s.phase + cond (is_end s e) 1 0) % 2 ^ 64)
  counted (inl q) =
      let o : cond {A = ℕ} (is_end s e) 1 0 ≡ 0 = ap (λ (b : Bool). cond {A = ℕ} b 1 0) (same_phase s e q.phase) in
      let p = q.phase in
      (omega arith, omega arith)
  counted (inr q) =
      let o : cond {A = ℕ} (is_end s e) 1 0 ≡ 1 = ap (λ (b : Bool). cond {A = ℕ} b 1 0) (other_phase s e low q.phase) in
      let p = q.phase in
      (omega arith, omega arith)

-- the phase after a history is the phase before it and the number of its ends
pub phases_counted : (s : BarrierState) (es : List Step) → IsSound s → s.phase < 2 ^ 64 → IsLegal BarrierLegal s es → (last_of s es).phase ≡ (s.phase + ends_in s es) % 2 ^ 64
phases_counted s [] sound low h = omega arith
phases_counted s (e ∷ es) sound low h =
    let t = turn_of s e sound h.0 in
    let k = counted s e low t.kind in
    let r = phases_counted e.after es t.sound k.0 h.1 in
    let p = k.1 in
    omega arith

-- the last of a history that has one
last_step : (s : BarrierState) (front : List Step) (e : Step) → IsLegal BarrierLegal s (front ++ e ∷ []) → BarrierLegal e.by (last_of s front) e.call e.reply e.after
last_step s front e h = (legal_back BarrierLegal s front (e ∷ []) h).0

turn_at : (front : List Step) (e : Step) → IsHistory (front ++ e ∷ []) → Turn e.by (last_of nobody front) e.call e.reply e.after
turn_at front e h = turn_of (last_of nobody front) e (sound_after nobody front nobody_sound (legal_front BarrierLegal nobody front (e ∷ []) h)) (last_step nobody front e h)

pub tells_phases : TellsPhases
tells_phases front e p h is =
    let all = phases_counted nobody (front ++ e ∷ []) nobody_sound (omega arith) h in
    let told = (turn_at front e h).told p is in
    let last : (last_of nobody (front ++ e ∷ [])).phase ≡ e.after.phase = ap (λ (s : BarrierState). s.phase) (last-append nobody front (e ∷ [])) in
    omega arith

-- ---- who has arrived

-- all who have arrived have done so among these calls
abbrev AllArrived : BarrierState → List Step → Type 0
AllArrived s phase = (m : ℕ) → is_among m s.arrived ≡ true → HasArrived m phase

not_left : (m : ℕ) (e : Step) → ((e.by == m) && is_left e.reply) ≡ false → list_any (leaves_by m) (e ∷ []) ≡ false
not_left m e h = ap (λ b. b || false) h

-- one who has arrived, and does not leave by the next call, has arrived still
stays_arrived : (m : ℕ) (phase : List Step) (e : Step) → HasArrived m phase → ((e.by == m) && is_left e.reply) ≡ false → HasArrived m (phase ++ e ∷ [])
stays_arrived m phase e a h = record {
  before = a.before;
  arrival = a.arrival;
  since = a.since ++ e ∷ [];
  stands = ap (λ (xs : List Step). xs ++ e ∷ []) a.stands ∙ append_assoc a.before (a.arrival ∷ a.since) (e ∷ []);
  arrives = a.arrives;
  stays = list_any-append (leaves_by m) a.since (e ∷ []) ∙ (ap (λ b. b || list_any (leaves_by m) (e ∷ [])) a.stays ∙ not_left m e h);
}

-- one who arrives by the next call
just_arrived : (m : ℕ) (phase : List Step) (e : Step) → ArrivesBy m e → HasArrived m (phase ++ e ∷ [])
just_arrived m phase e a = record { before = phase; arrival = e; since = []; stands = refl; arrives = a; stays = refl }

-- a step of a phase keeps it, and the first call of a new phase finds nobody
pub arrived_step : (s : BarrierState) (e : Step) (phase : List Step) → s.phase < 2 ^ 64 → AllArrived s phase → (Quiet e.by s e.call e.reply e.after ⊎ Ends e.by s e.call e.reply e.after) → AllArrived e.after (cond (is_end s e) [] (phase ++ e ∷ []))
arrived_step s e phase low all (inl q) m h =
    subst (λ (b : Bool). HasArrived m (cond b [] (phase ++ e ∷ []))) (sym (same_phase s e q.phase)) (by (q.came m h))
  where
    by : WasThere e.by s e.reply m ⊎ ((e.by ≡ m) × (e.call ≡ Arrive) × (e.reply ≡ Waiting)) → HasArrived m (phase ++ e ∷ [])
    by (inl w) = stays_arrived m phase e (all m w.0) w.1
    by (inr w) = just_arrived m phase e (w.0, ap is_arrival w.1, inl w.2)
arrived_step s e phase low all (inr q) m h = let o : is_among m [] ≡ true = sym (ap (is_among m) q.empty) ∙ h in absurd (cc)

pub all_arrived : (s : BarrierState) (es phase : List Step) → IsSound s → s.phase < 2 ^ 64 → AllArrived s phase → IsLegal BarrierLegal s es → AllArrived (last_of s es) (this_phase s phase es)
all_arrived s [] phase sound low all h = all
all_arrived s (e ∷ es) phase sound low all h =
    let t = turn_of s e sound h.0 in
    all_arrived e.after es (cond (is_end s e) [] (phase ++ e ∷ [])) t.sound (counted s e low t.kind).0 (arrived_step s e phase low all t.kind) h.1

low_after : (s : BarrierState) (es : List Step) → IsSound s → s.phase < 2 ^ 64 → IsLegal BarrierLegal s es → (last_of s es).phase < 2 ^ 64
low_after s [] sound low h = low
low_after s (e ∷ es) sound low h = let t = turn_of s e sound h.0 in low_after e.after es t.sound (counted s e low t.kind).0 h.1

pub elects_one : ElectsOne
elects_one front e h is = by (turn_at front e h).kind
  where
    before : IsHistory front
    before = legal_front BarrierLegal nobody front (e ∷ []) h

    all : AllArrived (last_of nobody front) (this_phase nobody [] front)
    all = all_arrived nobody front [] nobody_sound (omega arith) (λ m k. absurd (cc)) before

    came : (m : ℕ) → WasThere e.by (last_of nobody front) e.reply m ⊎ ((e.by ≡ m) × (is_arrival e.call ≡ true) × ((p : ℕ) × (e.reply ≡ Released p true))) → HasArrived m (this_phase nobody [] front ++ e ∷ [])
    came m (inl w) = stays_arrived m (this_phase nobody [] front) e (all m w.0) w.1
    came m (inr w) = just_arrived m (this_phase nobody [] front) e (w.0, w.1, inr w.2)

    one : Elects e.by (last_of nobody front) e.call e.reply e.after ⊎ IsAbandonedAt e → ((m : ℕ) × IsElectedAt m front e) ⊎ IsAbandonedAt e
    one (inl w) = inl (w.winner, record { elected = w.elects; takes_part = w.takes_part; came = came w.winner w.came })
    one (inr w) = inr w

    by : Quiet e.by (last_of nobody front) e.call e.reply e.after ⊎ Ends e.by (last_of nobody front) e.call e.reply e.after → ((m : ℕ) × IsElectedAt m front e) ⊎ IsAbandonedAt e
    by (inl q) = let o = same_phase (last_of nobody front) e q.phase in absurd (cc)
    by (inr q) = one q.who

-- ---- who is elected

-- a history in which nothing ends, and one call before it
none_ends : (s : BarrierState) (e : Step) (es : List Step) → s.phase < 2 ^ 64 → Ends e.by s e.call e.reply e.after → ends_in s (e ∷ es) ≡ 0 → ⊥
none_ends s e es low q none =
    let one : cond {A = ℕ} (is_end s e) 1 0 ≡ 1 = ap (λ (b : Bool). cond {A = ℕ} b 1 0) (other_phase s e low q.phase) in
    absurd (omega (arith, none, one))

ends_in-append : (s : BarrierState) (xs ys : List Step) → ends_in s (xs ++ ys) ≡ ends_in s xs + ends_in (last_of s xs) ys
ends_in-append s [] ys = omega arith
ends_in-append s (x ∷ xs) ys = let r = ends_in-append x.after xs ys in omega arith

elected_by : (s : BarrierState) (e : Step) (es : List Step) → s.phase < 2 ^ 64 → Quiet e.by s e.call e.reply e.after ⊎ Ends e.by s e.call e.reply e.after → ends_in s (e ∷ es) ≡ 0 → (ends_in e.after es ≡ 0 → (last_of e.after es).elected ≡ e.after.elected) → (last_of e.after es).elected ≡ s.elected
elected_by s e es low (inl q) none rest = rest (omega (arith, none)) ∙ q.elected
elected_by s e es low (inr q) none rest = absurd (none_ends s e es low q none)

-- without an end nobody else is elected
pub elected_stays : (s : BarrierState) (es : List Step) → IsSound s → s.phase < 2 ^ 64 → IsLegal BarrierLegal s es → ends_in s es ≡ 0 → (last_of s es).elected ≡ s.elected
elected_stays s [] sound low h none = refl
elected_stays s (e ∷ es) sound low h none =
    let t = turn_of s e sound h.0 in
    elected_by s e es low t.kind none (elected_stays e.after es t.sound (counted s e low t.kind).0 h.1)

told_by : (s : BarrierState) (x : Step) (p : ℕ) → s.phase < 2 ^ 64 → Quiet x.by s x.call x.reply x.after ⊎ Ends x.by s x.call x.reply x.after → ends_in s (x ∷ []) ≡ 0 → x.reply ≡ Released p true → s.elected ≡ Some x.by
told_by s x p low (inl q) none is = q.told p is
told_by s x p low (inr q) none is = absurd (none_ends s x [] low q none)

pub tells_elected : TellsElected
tells_elected front mid e x p h none is =
    let s = last_of nobody front in
    let tail = mid ++ x ∷ [] in
    let before = legal_front BarrierLegal nobody front (e ∷ tail) h in
    let after = legal_back BarrierLegal nobody front (e ∷ tail) h in
    let sound = sound_after nobody front nobody_sound before in
    let low = low_after nobody front nobody_sound (omega arith) before in
    let t = turn_of s e sound after.0 in
    let low' = (counted s e low t.kind).0 in
    let legal_mid = legal_front BarrierLegal e.after mid (x ∷ []) after.1 in
    let legal_x = legal_back BarrierLegal e.after mid (x ∷ []) after.1 in
    let parts = ends_in-append e.after mid (x ∷ []) in
    let none_mid : ends_in e.after mid ≡ 0 = omega (arith, none, parts) in
    let none_x : ends_in (last_of e.after mid) (x ∷ []) ≡ 0 = omega (arith, none, parts) in
    let sound_mid = sound_after e.after mid t.sound legal_mid in
    let low_mid = low_after e.after mid t.sound low' legal_mid in
    let tx = turn_of (last_of e.after mid) x sound_mid legal_x.0 in
    sym (elected_stays e.after mid t.sound low' legal_mid none_mid) ∙ told_by (last_of e.after mid) x p low_mid tx.kind none_x is

-- ---- who arrives again

none_of : (a b : Bool) → (a || b) ≡ false → (a ≡ false) × (b ≡ false)
none_of true b h = absurd (cc)
none_of false b h = (refl, h)

stays_by : (s : BarrierState) (e : Step) (es : List Step) (m : ℕ) → s.phase < 2 ^ 64 → Quiet e.by s e.call e.reply e.after ⊎ Ends e.by s e.call e.reply e.after → ends_in s (e ∷ es) ≡ 0 → leaves_by m e ≡ false → is_among m s.arrived ≡ true → is_among m e.after.arrived ≡ true
stays_by s e es m low (inl q) none stays h = q.stays m h stays
stays_by s e es m low (inr q) none stays h = absurd (none_ends s e es low q none)

later_none : (s : BarrierState) (e : Step) (es : List Step) → ends_in s (e ∷ es) ≡ 0 → ends_in e.after es ≡ 0
later_none s e es none = omega (arith, none)

-- who has arrived and does not leave has arrived until an end
pub arrived_stays : (s : BarrierState) (es : List Step) (m : ℕ) → IsSound s → s.phase < 2 ^ 64 → IsLegal BarrierLegal s es → ends_in s es ≡ 0 → list_any (leaves_by m) es ≡ false → is_among m s.arrived ≡ true → is_among m (last_of s es).arrived ≡ true
arrived_stays s [] m sound low h none stays here = here
arrived_stays s (e ∷ es) m sound low h none stays here =
    let t = turn_of s e sound h.0 in
    let parts = none_of (leaves_by m e) (list_any (leaves_by m) es) stays in
    arrived_stays e.after es m t.sound (counted s e low t.kind).0 h.1 (later_none s e es none) parts.1 (stays_by s e es m low t.kind none parts.0 here)

arrives_by : (s : BarrierState) (x : Step) → Quiet x.by s x.call x.reply x.after ⊎ Ends x.by s x.call x.reply x.after → x.call ≡ Arrive → x.reply ≡ Waiting → is_among x.by x.after.arrived ≡ true
arrives_by s x (inl q) a w = q.arrives a w
arrives_by s x (inr q) a w = absurd (q.loud w)

-- who has arrived and says so again
twice : (n : ℕ) (s : BarrierState) (c : BarrierCall) (r : BarrierReply) (t : BarrierState) → IsSound s → is_among n s.arrived ≡ true → is_arrival c ≡ true → BarrierLegal n s c r t → r ≡ Twice s.phase
twice n s Attach r t sound here is h = absurd (cc)
twice n s Arrive r t sound here is h = (h.twice (sound n here) here).0
twice n s Look r t sound here is h = absurd (cc)
twice n s Detach r t sound here is h = absurd (cc)
twice n s ArriveAndDetach r t sound here is h = (h.twice (sound n here) here).0
twice n s ArriveAndDetachExceptLast r t sound here is h = (h.twice (sound n here) here).0

pub arrives_once : ArrivesOnce
arrives_once front mid x y h a w none stays same again =
    let s = last_of nobody front in
    let tail = mid ++ y ∷ [] in
    let before = legal_front BarrierLegal nobody front (x ∷ tail) h in
    let after = legal_back BarrierLegal nobody front (x ∷ tail) h in
    let sound = sound_after nobody front nobody_sound before in
    let low = low_after nobody front nobody_sound (omega arith) before in
    let t = turn_of s x sound after.0 in
    let low' = (counted s x low t.kind).0 in
    let legal_mid = legal_front BarrierLegal x.after mid (y ∷ []) after.1 in
    let legal_y = legal_back BarrierLegal x.after mid (y ∷ []) after.1 in
    let u = last_of x.after mid in
    let here = arrived_stays x.after mid x.by t.sound low' legal_mid none stays (arrives_by s x t.kind a w) in
    let here' : is_among y.by u.arrived ≡ true = subst (λ (n : ℕ). is_among n u.arrived ≡ true) (sym same) here in
    let told = twice y.by u y.call y.reply y.after (sound_after x.after mid t.sound legal_mid) here' again legal_y.0 in
    let count = phases_counted x.after mid t.sound low' legal_mid in
    let phase : u.phase ≡ x.after.phase = omega (arith, count, none, low') in
    told ∙ ap (λ (p : ℕ). Twice p) phase
