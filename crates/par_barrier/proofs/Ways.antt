-- Each way through a call of a barrier is what the call may be answered and do.
use Rattle.std.proofs.Common.{◌≡◌, ◌≢◌, ◌==◌, ◌||◌, ℕ, Bool, true, false, not, cond, List, [], ◌∷◌, ◌++◌, refl, ap, ◌∙◌}
use Rattle.std.specs.List.{list_any}
use Rattle.par_barrier.specs.declared.history.BarrierState.{BarrierState}
use Rattle.par_barrier.specs.declared.history.BarrierReply.TheVariants.{Attached, Waiting, Released, Left, AlreadyIn, NotIn, Twice}
use Rattle.par_barrier.specs.Parties.{is_among, without, are_among, next_phase, joined, with_arrival, parted, ended, abandoned, is_elected}
use Rattle.par_barrier.specs.Legal.{Attaches, Arrives, Leaves, Looks, Detaches, ArrivesAndDetaches, ArrivesAndDetachesExceptLast}

-- with nobody arrived, not all of somebody have
pub none_arrived : (xs : List ℕ) → xs ≢ [] → are_among xs [] ≡ false
none_arrived [] more = absurd (more refl)
none_arrived (x ∷ xs) more = refl

-- nobody but n takes part
none_stay_by : (n x : ℕ) (xs : List ℕ) → (b : Bool) → not (x == n) ≡ b → (b || list_any (λ m. not (m == n)) xs) ≡ false → (list_any (λ m. not (m == n)) xs ≡ false → without n xs ≡ []) → cond b (x ∷ without n xs) (without n xs) ≡ []
none_stay_by n x xs true e h rest = absurd (cc)
none_stay_by n x xs false e h rest = rest h

pub none_stay : (n : ℕ) (xs : List ℕ) → list_any (λ m. not (m == n)) xs ≡ false → without n xs ≡ []
none_stay n [] h = refl
none_stay n (x ∷ xs) h = none_stay_by n x xs (not (x == n)) refl h (none_stay n xs)

-- somebody but n takes part
some_stay_by : (n x : ℕ) (xs : List ℕ) → (b : Bool) → not (x == n) ≡ b → (b || list_any (λ m. not (m == n)) xs) ≡ true → (list_any (λ m. not (m == n)) xs ≡ true → without n xs ≢ []) → cond b (x ∷ without n xs) (without n xs) ≢ []
some_stay_by n x xs true e h rest = λ no. absurd (cc)
some_stay_by n x xs false e h rest = rest h

pub some_stay : (n : ℕ) (xs : List ℕ) → list_any (λ m. not (m == n)) xs ≡ true → without n xs ≢ []
some_stay n [] h = absurd (cc)
some_stay n (x ∷ xs) h = some_stay_by n x xs (not (x == n)) refl h (some_stay n xs)

module _ (n : ℕ) (s : BarrierState) where
  pub attach_refused : is_among n s.attached ≡ true → Attaches n s (AlreadyIn s.phase) s
  attach_refused here = record { refused = λ _. (refl, refl); attached = λ out. absurd (cc) }

  pub attach_taken : is_among n s.attached ≡ false → Attaches n s (Attached s.phase) (joined n s)
  attach_taken out = record { refused = λ here. absurd (cc); attached = λ _. (refl, refl) }

  pub arrive_absent : is_among n s.attached ≡ false → Arrives n s (NotIn s.phase) s
  arrive_absent out = record { absent = λ _. record { told = refl; same = refl }; twice = λ here _. absurd (cc); waits = λ here _ _. absurd (cc); ends = λ here _ _. absurd (cc) }

  pub arrive_twice : is_among n s.attached ≡ true → is_among n s.arrived ≡ true → Arrives n s (Twice s.phase) s
  arrive_twice here came = record { absent = λ out. absurd (cc); twice = λ _ _. (refl, refl); waits = λ _ new _. absurd (cc); ends = λ _ new _. absurd (cc) }

  pub arrive_waits : is_among n s.attached ≡ true → is_among n s.arrived ≡ false → are_among s.attached (s.arrived ++ n ∷ []) ≡ false → Arrives n s Waiting (with_arrival n s)
  arrive_waits here new some = record { absent = λ out. absurd (cc); twice = λ _ came. absurd (cc); waits = λ _ _ _. (refl, refl); ends = λ _ _ all. absurd (cc) }

  pub arrive_ends : is_among n s.attached ≡ true → is_among n s.arrived ≡ false → are_among s.attached (s.arrived ++ n ∷ []) ≡ true → Arrives n s (Released (next_phase s.phase) true) (ended n s)
  arrive_ends here new all = record { absent = λ out. absurd (cc); twice = λ _ came. absurd (cc); waits = λ _ _ some. absurd (cc); ends = λ _ _ _. (refl, refl) }

  pub look_absent : is_among n s.attached ≡ false → Looks n s (NotIn s.phase) s
  look_absent out = record { same = refl; absent = λ _. refl; waits = λ here _. absurd (cc); released = λ here _. absurd (cc) }

  pub look_waits : is_among n s.attached ≡ true → is_among n s.arrived ≡ true → Looks n s Waiting s
  look_waits here came = record { same = refl; absent = λ out. absurd (cc); waits = λ _ _. refl; released = λ _ new. absurd (cc) }

  pub look_released : is_among n s.attached ≡ true → is_among n s.arrived ≡ false → Looks n s (Released s.phase (is_elected n s.elected)) s
  look_released here new = record { same = refl; absent = λ out. absurd (cc); waits = λ _ came. absurd (cc); released = λ _ _. refl }

  pub detach_absent : is_among n s.attached ≡ false → Detaches n s (NotIn s.phase) s
  detach_absent out = record { absent = λ _. record { told = refl; same = refl }; last = λ here _. absurd (cc); others = λ here _. absurd (cc) }

  -- nobody takes part any more
  pub detach_last : is_among n s.attached ≡ true → without n s.attached ≡ [] → Detaches n s (Left s.phase true) (parted n s)
  detach_last here empty = record { absent = λ out. absurd (cc); last = λ _ _. (refl, refl); others = λ _ more. absurd (more empty) }

  pub detach_others : is_among n s.attached ≡ true → without n s.attached ≢ [] → (p : ℕ) (t : BarrierState) → Leaves (parted n s) (Left p false) t → Detaches n s (Left p false) t
  detach_others here more p t h = record { absent = λ out. absurd (cc); last = λ _ empty. absurd (more empty); others = λ _ _. h }

  pub depart_absent : is_among n s.attached ≡ false → ArrivesAndDetaches n s (NotIn s.phase) s
  depart_absent out = record { absent = λ _. record { told = refl; same = refl }; twice = λ here _. absurd (cc); last = λ here _ _. absurd (cc); others = λ here _ _. absurd (cc) }

  pub depart_twice : is_among n s.attached ≡ true → is_among n s.arrived ≡ true → ArrivesAndDetaches n s (Twice s.phase) s
  depart_twice here came = record { absent = λ out. absurd (cc); twice = λ _ _. (refl, refl); last = λ _ new _. absurd (cc); others = λ _ new _. absurd (cc) }

  pub depart_last : is_among n s.attached ≡ true → is_among n s.arrived ≡ false → without n s.attached ≡ [] → ArrivesAndDetaches n s (Left (next_phase s.phase) true) (abandoned (parted n s))
  depart_last here new empty = record { absent = λ out. absurd (cc); twice = λ _ came. absurd (cc); last = λ _ _ _. (refl, refl); others = λ _ _ more. absurd (more empty) }

  pub depart_others : is_among n s.attached ≡ true → is_among n s.arrived ≡ false → without n s.attached ≢ [] → (p : ℕ) (t : BarrierState) → Leaves (parted n s) (Left p false) t → ArrivesAndDetaches n s (Left p false) t
  depart_others here new more p t h = record { absent = λ out. absurd (cc); twice = λ _ came. absurd (cc); last = λ _ _ empty. absurd (more empty); others = λ _ _ _. h }

  pub except_absent : is_among n s.attached ≡ false → ArrivesAndDetachesExceptLast n s (NotIn s.phase) s
  except_absent out = record { absent = λ _. record { told = refl; same = refl }; twice = λ here _. absurd (cc); last = λ here _ _. absurd (cc); others = λ here _ _. absurd (cc) }

  pub except_twice : is_among n s.attached ≡ true → is_among n s.arrived ≡ true → ArrivesAndDetachesExceptLast n s (Twice s.phase) s
  except_twice here came = record { absent = λ out. absurd (cc); twice = λ _ _. (refl, refl); last = λ _ new _. absurd (cc); others = λ _ new _. absurd (cc) }

  pub except_last : is_among n s.attached ≡ true → is_among n s.arrived ≡ false → list_any (λ m. not (m == n)) s.attached ≡ false → ArrivesAndDetachesExceptLast n s (Released (next_phase s.phase) true) (ended n s)
  except_last here new none = record { absent = λ out. absurd (cc); twice = λ _ came. absurd (cc); last = λ _ _ _. (refl, refl); others = λ _ _ more. absurd (more (none_stay n s.attached none)) }

  pub except_others : is_among n s.attached ≡ true → is_among n s.arrived ≡ false → list_any (λ m. not (m == n)) s.attached ≡ true → (p : ℕ) (t : BarrierState) → Leaves (parted n s) (Left p false) t → ArrivesAndDetachesExceptLast n s (Left p false) t
  except_others here new some p t h = record { absent = λ out. absurd (cc); twice = λ _ came. absurd (cc); last = λ _ _ empty. absurd (some_stay n s.attached some empty); others = λ _ _ _. h }

module _ (s : BarrierState) where
  -- somebody who stays has not arrived
  pub settle_stays : are_among s.attached s.arrived ≡ false → Leaves s (Left s.phase false) s
  settle_stays some = record { stays = λ _. (refl, refl); ends = λ all _ _ _. absurd (cc) }

  pub settle_none : s.attached ≢ [] → s.arrived ≡ [] → Leaves s (Left s.phase false) s
  settle_none more none = settle_stays (ap (are_among s.attached) none ∙ none_arrived s.attached more)

  -- all who stay have arrived
  pub settle_ends : are_among s.attached s.arrived ≡ true → (first : ℕ) (others : List ℕ) → s.arrived ≡ first ∷ others → Leaves s (Left (next_phase s.phase) false) (ended first s)
  settle_ends all first others is = record { stays = λ some. absurd (cc); ends = λ _ f o e. let same : first ≡ f = cc in (refl, ap (λ k. ended k s) same) }
