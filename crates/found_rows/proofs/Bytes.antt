-- What csv's machine makes of bytes of one kind.
use Rattle.std.proofs.Common.{◌≡◌, ◌≢◌, ◌<◌, ℕ, suc, false, List, [], ◌∷◌, length, slice_index, refl, ap, inl, inr, arith}
use Rattle.std.specs.Prelude.{◌==◌}
use Rattle.std.proofs.lemmas.Bool.{cases_Bool, eqb-true}
use Rattle.csv.specs.declared.parser.State.{State}
use Rattle.csv.specs.declared.parser.State.TheVariants as st
use Rattle.csv_rows.specs.Cuts.{is_quoted, state_after}
use Rattle.csv_rows.specs.Places.{NoQuote}
use Rattle.csv_rows.specs.Plain.{NoMark, is_line_end, is_mark}
use Rattle.found_rows.specs.Written.{EndsNoField, copied}

-- from a state on these bytes end no field, come to another state, and are copied
pub record Runs (s t : State) (x : List ℕ) : Type 0 where
  pub stays : EndsNoField s x
  pub state : state_after s x ≡ t
  pub bytes : copied s x ≡ x

-- ---- a byte that is no mark

not-comma : (c : ℕ) → is_mark c ≡ false → (c == 44) ≡ false
not-comma c h = elim (cases_Bool (c == 44)) [ inl e ↦ absurd (cc (rw e at h)) | inr e ↦ e ]

not-end : (c : ℕ) → is_mark c ≡ false → is_line_end c ≡ false
not-end c h = rw (not-comma c h) at h

not-return : (c : ℕ) → is_mark c ≡ false → (c == 13) ≡ false
not-return c h = elim (cases_Bool (c == 13)) [ inl e ↦ absurd (cc (rw e at (not-end c h))) | inr e ↦ e ]

not-feed : (c : ℕ) → is_mark c ≡ false → (c == 10) ≡ false
not-feed c h = rw (not-return c h) at (not-end c h)

head-mark : (c : ℕ) (xs : List ℕ) → NoMark (c ∷ xs) → is_mark c ≡ false
head-mark c xs h = h 0 (omega arith)

tail-mark : (c : ℕ) (xs : List ℕ) → NoMark (c ∷ xs) → NoMark xs
tail-mark c xs h = λ k lt. h (suc k) (omega arith)

head-quote : (c : ℕ) (xs : List ℕ) → NoQuote (c ∷ xs) → (c == 34) ≡ false
head-quote c xs h = elim (cases_Bool (c == 34)) [ inl e ↦ absurd (h 0 (omega arith) (eqb-true c 34 e)) | inr e ↦ e ]

tail-quote : (c : ℕ) (xs : List ℕ) → NoQuote (c ∷ xs) → NoQuote xs
tail-quote c xs h = λ k lt. h (suc k) (omega arith)

other-first : (c : ℕ) (xs : List ℕ) → (0 < length (c ∷ xs) → slice_index (c ∷ xs) 0 ≢ 34) → (c == 34) ≡ false
other-first c xs h = elim (cases_Bool (c == 34)) [ inl e ↦ absurd (h (omega arith) (eqb-true c 34 e)) | inr e ↦ e ]

-- ---- in a field without quotes

bare-stays : (x : List ℕ) → NoMark x → EndsNoField st.InField x
unfolding EndsNoField
bare-stays [] h = tt
bare-stays (c ∷ x) h =
    let m = head-mark c x h in
    rw (not-comma c m, not-return c m, not-feed c m) (refl, bare-stays x (tail-mark c x h))

bare-state : (x : List ℕ) → NoMark x → state_after st.InField x ≡ st.InField
unfolding state_after
bare-state [] h = refl
bare-state (c ∷ x) h =
    let m = head-mark c x h in
    rw (not-comma c m, not-return c m, not-feed c m) (bare-state x (tail-mark c x h))

bare-bytes : (x : List ℕ) → NoMark x → copied st.InField x ≡ x
unfolding copied
bare-bytes [] h = refl
bare-bytes (c ∷ x) h =
    let m = head-mark c x h in
    rw (not-comma c m, not-return c m, not-feed c m) (ap (λ (f : List ℕ). c ∷ f) (bare-bytes x (tail-mark c x h)))

-- at its start, and behind the quote that closes one
pub record RunsOut (s : State) (x : List ℕ) : Type 0 where
  pub stays : EndsNoField s x
  pub outside : is_quoted (state_after s x) ≡ false
  pub bytes : copied s x ≡ x

abbrev OtherFirst : List ℕ → Type 0
OtherFirst x = 0 < length x → slice_index x 0 ≢ 34

front-stays : (x : List ℕ) → NoMark x → OtherFirst x → EndsNoField st.StartField x
unfolding EndsNoField
front-stays [] h q = tt
front-stays (c ∷ x) h q =
    let m = head-mark c x h in
    rw (other-first c x q, not-comma c m, not-return c m, not-feed c m) (refl, bare-stays x (tail-mark c x h))

front-outside : (x : List ℕ) → NoMark x → OtherFirst x → is_quoted (state_after st.StartField x) ≡ false
unfolding state_after
front-outside [] h q = refl
front-outside (c ∷ x) h q =
    let m = head-mark c x h in
    rw (other-first c x q, not-comma c m, not-return c m, not-feed c m) (ap is_quoted (bare-state x (tail-mark c x h)))

front-bytes : (x : List ℕ) → NoMark x → OtherFirst x → copied st.StartField x ≡ x
unfolding copied
front-bytes [] h q = refl
front-bytes (c ∷ x) h q =
    let m = head-mark c x h in
    rw (other-first c x q, not-comma c m, not-return c m, not-feed c m) (ap (λ (f : List ℕ). c ∷ f) (bare-bytes x (tail-mark c x h)))

pub front-runs : (x : List ℕ) → NoMark x → (0 < length x → slice_index x 0 ≢ 34) → RunsOut st.StartField x
front-runs x h q = record { stays = front-stays x h q; outside = front-outside x h q; bytes = front-bytes x h q }

behind-stays : (x : List ℕ) → NoMark x → OtherFirst x → EndsNoField st.AfterQuote x
unfolding EndsNoField
behind-stays [] h q = tt
behind-stays (c ∷ x) h q =
    let m = head-mark c x h in
    rw (other-first c x q, not-comma c m, not-return c m, not-feed c m) (refl, bare-stays x (tail-mark c x h))

behind-outside : (x : List ℕ) → NoMark x → OtherFirst x → is_quoted (state_after st.AfterQuote x) ≡ false
unfolding state_after
behind-outside [] h q = refl
behind-outside (c ∷ x) h q =
    let m = head-mark c x h in
    rw (other-first c x q, not-comma c m, not-return c m, not-feed c m) (ap is_quoted (bare-state x (tail-mark c x h)))

behind-bytes : (x : List ℕ) → NoMark x → OtherFirst x → copied st.AfterQuote x ≡ x
unfolding copied
behind-bytes [] h q = refl
behind-bytes (c ∷ x) h q =
    let m = head-mark c x h in
    rw (other-first c x q, not-comma c m, not-return c m, not-feed c m) (ap (λ (f : List ℕ). c ∷ f) (bare-bytes x (tail-mark c x h)))

pub behind-runs : (x : List ℕ) → NoMark x → (0 < length x → slice_index x 0 ≢ 34) → RunsOut st.AfterQuote x
behind-runs x h q = record { stays = behind-stays x h q; outside = behind-outside x h q; bytes = behind-bytes x h q }

-- ---- between quotes

quoted-stays : (x : List ℕ) → NoQuote x → EndsNoField st.InQuoted x
unfolding EndsNoField
quoted-stays [] h = tt
quoted-stays (c ∷ x) h = rw (head-quote c x h) (refl, quoted-stays x (tail-quote c x h))

quoted-state : (x : List ℕ) → NoQuote x → state_after st.InQuoted x ≡ st.InQuoted
unfolding state_after
quoted-state [] h = refl
quoted-state (c ∷ x) h = rw (head-quote c x h) (quoted-state x (tail-quote c x h))

quoted-bytes : (x : List ℕ) → NoQuote x → copied st.InQuoted x ≡ x
unfolding copied
quoted-bytes [] h = refl
quoted-bytes (c ∷ x) h = rw (head-quote c x h) (ap (λ (f : List ℕ). c ∷ f) (quoted-bytes x (tail-quote c x h)))

pub quoted-runs : (x : List ℕ) → NoQuote x → Runs st.InQuoted st.InQuoted x
quoted-runs x h = record { stays = quoted-stays x h; state = quoted-state x h; bytes = quoted-bytes x h }

-- a quote that opens a field, one that may close it, and another behind that
pub opened : (x : List ℕ) → EndsNoField st.InQuoted x → EndsNoField st.StartField (34 ∷ x)
unfolding EndsNoField
opened x h = (refl, h)

pub opened-state : (x : List ℕ) → state_after st.StartField (34 ∷ x) ≡ state_after st.InQuoted x
unfolding state_after
opened-state x = refl

pub opened-bytes : (x : List ℕ) → copied st.StartField (34 ∷ x) ≡ copied st.InQuoted x
unfolding copied
opened-bytes x = refl

pub quote-stays : EndsNoField st.InQuoted (34 ∷ [])
unfolding EndsNoField
quote-stays = (refl, tt)

pub quote-state : state_after st.InQuoted (34 ∷ []) ≡ st.AfterQuote
unfolding state_after
quote-state = refl

pub quote-bytes : copied st.InQuoted (34 ∷ []) ≡ []
unfolding copied
quote-bytes = refl

pub pair-stays : (x : List ℕ) → EndsNoField st.InQuoted x → EndsNoField st.InQuoted (34 ∷ 34 ∷ x)
unfolding EndsNoField
pair-stays x h = (refl, (refl, h))

pub pair-state : (x : List ℕ) → state_after st.InQuoted (34 ∷ 34 ∷ x) ≡ state_after st.InQuoted x
unfolding state_after
pair-state x = refl

pub none-stays : (s : State) → EndsNoField s []
unfolding EndsNoField
none-stays s = tt
