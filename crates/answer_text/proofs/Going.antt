-- Texts that are put one behind the other on their way to a sink.
use Rattle.std.proofs.Common.{◌≡◌, ◌≤◌, ◌+◌, ◌++◌, ◌∙◌, inl, inr, ℕ, Bool, true, false, List, [], Option, length, take, drop, refl, sym, ap, subst, arith, append_assoc, append-nil, take-append-drop}
use Rattle.std.proofs.KnownBytes.{Appends-trans}
use Rattle.std.proofs.Math.Seq.{drop-append-add, take-append-add, take-append_seam}
use Rattle.std.proofs.lemmas.List.{drop_all, take_all}
use Rattle.std.specs.Io.KnownBytes.{Appends}
use Rattle.csv.proofs.WriteFacts.{appends-none}
use Rattle.par_io.specs.Faults.{HasCause, Rose}
use Rattle.std.specs.Prelude.{Ok, Err, OnErr, OnOk}
use Rattle.std.specs.Result.{is_err}
use Rattle.std.specs.declared.result.Result.{Result}
use Rattle.answer_text.specs.Held.{Puts, Waiting}

-- what went on, and what is left with what comes behind it
cut : (h x y : List ℕ) (n : ℕ) → h ++ (x ++ y) ≡ take n (h ++ x) ++ (drop n (h ++ x) ++ y)
cut h x y n = sym (append_assoc h x y) ∙ ap (λ (l : List ℕ). l ++ y) (sym (take-append-drop n (h ++ x))) ∙ append_assoc (take n (h ++ x)) (drop n (h ++ x)) y

-- a front of a text is one of it with what comes behind it
front : (h x y : List ℕ) (n : ℕ) → take n (h ++ x) ≡ take (length (take n (h ++ x))) (h ++ (x ++ y))
front h x y n = sym (take-append_seam (take n (h ++ x)) (drop n (h ++ x) ++ y)) ∙ ap (take (length (take n (h ++ x)))) (sym (cut h x y n))

-- the fronts of both texts that went on
both : (h x y k : List ℕ) (n j : ℕ) → k ≡ drop n (h ++ x) → take n (h ++ x) ++ take j (k ++ y) ≡ take (length (take n (h ++ x)) + j) (h ++ (x ++ y))
both h x y k n j left =
    let gone = take n (h ++ x) in
    ap (λ (l : List ℕ). gone ++ take j (l ++ y)) left ∙ sym (take-append-add gone (drop n (h ++ x) ++ y) j) ∙ ap (take (length gone + j)) (sym (cut h x y n))

-- what waits after both
behind : (h x y k m : List ℕ) (n j : ℕ) → k ≡ drop n (h ++ x) → m ≡ drop j (k ++ y) → m ≡ drop (length (take n (h ++ x)) + j) (h ++ (x ++ y))
behind h x y k m n j left is =
    let gone = take n (h ++ x) in
    is ∙ ap (λ (l : List ℕ). drop j (l ++ y)) left ∙ sym (drop-append-add gone (drop n (h ++ x) ++ y) j) ∙ ap (drop (length gone + j)) (sym (cut h x y n))

module _ {O : Type 0} (taken : O → Option (List ℕ)) (faults : O → ℕ) where
  -- where a write had failed nothing goes on
  stuck : (a b c : O) (h k m : Waiting) (x y : List ℕ) → k.is_broken ≡ true → Puts taken faults a b h k x → Puts taken faults b c k m y → Puts taken faults a c h m (x ++ y)
  stuck a b c h k m x y broken p q =
      let after = q.stays broken in
      let size = length (take p.count (h.bytes ++ x)) in
      let none : take q.count (k.bytes ++ y) ≡ [] = ap (λ n. take n (k.bytes ++ y)) after.1 in
      let same : take p.count (h.bytes ++ x) ++ take q.count (k.bytes ++ y) ≡ take size (h.bytes ++ (x ++ y)) =
      ap (λ l. take p.count (h.bytes ++ x) ++ l) none ∙ append-nil (take p.count (h.bytes ++ x)) ∙ front h.bytes x y p.count in
      record {
        count = size;
        gone = subst (Appends (taken a) (taken c)) same (Appends-trans _ _ _ _ _ p.gone q.gone);
        left = λ fine. let no : true ≡ false = sym after.0 ∙ fine in cc no;
        kept = omega (arith, p.kept, q.kept);
        stays = λ was. (after.0, ap (λ n. length (take n (h.bytes ++ x))) (p.stays was).1);
        rose = λ _. elim (p.rose broken) [ inl was ↦ inl was | inr rose ↦ let more : Rose (faults a) (faults c) = omega (arith, rose, q.kept) in inr more ];
      }

  -- and else the second goes on behind the first
  goes : (a b c : O) (h k m : Waiting) (x y : List ℕ) → k.is_broken ≡ false → Puts taken faults a b h k x → Puts taken faults b c k m y → Puts taken faults a c h m (x ++ y)
  goes a b c h k m x y fine p q =
      record {
        count = length (take p.count (h.bytes ++ x)) + q.count;
        gone = subst (Appends (taken a) (taken c)) (both h.bytes x y k.bytes p.count q.count (p.left fine)) (Appends-trans _ _ _ _ _ p.gone q.gone);
        left = λ whole. behind h.bytes x y k.bytes m.bytes p.count q.count (p.left fine) (q.left whole);
        kept = omega (arith, p.kept, q.kept);
        stays = λ was. let no : true ≡ false = sym (p.stays was).0 ∙ fine in cc no;
        rose = λ broken. elim (q.rose broken) [ inl was ↦ let no : true ≡ false = sym was ∙ fine in cc no | inr rose ↦ let more : Rose (faults a) (faults c) = omega (arith, rose, p.kept) in inr more ];
      }

  by_state : (s : Bool) (a b c : O) (h k m : Waiting) (x y : List ℕ) → k.is_broken ≡ s → Puts taken faults a b h k x → Puts taken faults b c k m y → Puts taken faults a c h m (x ++ y)
  by_state true = stuck
  by_state false = goes

  -- two texts
  pub puts-then : (a b c : O) (h k m : Waiting) (x y : List ℕ) → Puts taken faults a b h k x → Puts taken faults b c k m y → Puts taken faults a c h m (x ++ y)
  puts-then a b c h k m x y = by_state k.is_broken a b c h k m x y refl

  -- nothing
  pub puts-none : (a : O) (h : Waiting) → Puts taken faults a a h h []
  puts-none a h = record { count = 0; gone = appends-none (taken a); left = λ _. sym (append-nil h.bytes); kept = omega arith; stays = λ broken. (broken, refl); rose = λ broken. inl broken }

  -- where a write has failed, more may be put and nothing goes on
  pub puts-broken : (a b : O) (h k : Waiting) (x y : List ℕ) → k.is_broken ≡ true → Puts taken faults a b h k x → Puts taken faults a b h k (x ++ y)
  puts-broken a b h k x y broken p =
      let gone = take p.count (h.bytes ++ x) in
      record {
        count = length gone;
        gone = subst (Appends (taken a) (taken b)) (front h.bytes x y p.count) p.gone;
        left = λ fine. let no : true ≡ false = sym broken ∙ fine in cc no;
        kept = p.kept;
        stays = λ was. (broken, ap (λ n. length (take n (h.bytes ++ x))) (p.stays was).1);
        rose = p.rose;
      }

  -- a piece that waits
  pub puts-kept : (a : O) (h k : Waiting) (piece : List ℕ) → k.bytes ≡ h.bytes ++ piece → k.is_broken ≡ h.is_broken → Puts taken faults a a h k piece
  puts-kept a h k piece is same =
      record { count = 0; gone = appends-none (taken a); left = λ _. is; kept = omega arith; stays = λ broken. (same ∙ broken, refl); rose = λ broken. inl (sym same ∙ broken) }

  -- what waited, and a piece behind it, went on, or a front of these bytes
  pub puts-on : (a b : O) (h k : Waiting) (text : List ℕ) → h.is_broken ≡ false → k.is_broken ≡ false → k.bytes ≡ [] → Appends (taken a) (taken b) (h.bytes ++ text) → faults a ≤ faults b → Puts taken faults a b h k text
  puts-on a b h k text was fine none gone kept =
      let whole = h.bytes ++ text in
      record {
        count = length whole;
        gone = subst (Appends (taken a) (taken b)) (sym (take_all (length whole) whole (omega arith))) gone;
        left = λ _. none ∙ sym (drop_all (length whole) whole (omega arith));
        kept = kept;
        stays = λ broken. let no : true ≡ false = sym broken ∙ was in cc no;
        rose = λ broken. let no : true ≡ false = sym broken ∙ fine in cc no;
      }

  pub puts-part : (a b : O) (h k : Waiting) (text : List ℕ) → h.is_broken ≡ false → k.is_broken ≡ true → (n : ℕ) × Appends (taken a) (taken b) (take n (h.bytes ++ text)) → Rose (faults a) (faults b) → faults a ≤ faults b → Puts taken faults a b h k text
  puts-part a b h k text was broken part rose kept =
      record {
        count = part.0;
        gone = part.1;
        left = λ fine. let no : true ≡ false = sym broken ∙ fine in cc no;
        kept = kept;
        stays = λ broken. let no : true ≡ false = sym broken ∙ was in cc no;
        rose = λ _. inr rose;
      }

  -- a piece was written where nothing waited
  pub puts-written : {T E : Type 0} (r : Result T E) (a b : O) (h k : Waiting) (piece : List ℕ) → h.is_broken ≡ false → h.bytes ≡ [] → k.bytes ≡ h.bytes → k.is_broken ≡ is_err r
      → OnOk r (Appends (taken a) (taken b) piece) → OnErr r ((n : ℕ) × Appends (taken a) (taken b) (take n piece)) → HasCause (faults a) (faults b) r → Puts taken faults a b h k piece
  puts-written (Ok x) a b h k piece was none stays state whole part cause =
      puts-on a b h k piece was state (stays ∙ none) (subst (λ l. Appends (taken a) (taken b) (l ++ piece)) (sym none) whole) cause.kept
  puts-written (Err e) a b h k piece was none stays state whole part cause =
      puts-part a b h k piece was state (part.0, subst (λ l. Appends (taken a) (taken b) (take part.0 (l ++ piece))) (sym none) part.1) cause.failed cause.kept

  -- ---- what a sink was given where nothing waited at first

  text_is : (h : Waiting) (text : List ℕ) → h.bytes ≡ [] → h.bytes ++ text ≡ text
  text_is h text none = ap (λ l. l ++ text) none

  -- all of the text, where nothing waits at the end
  pub all_gone : (a b : O) (h k : Waiting) (text : List ℕ) → h.bytes ≡ [] → k.is_broken ≡ false → k.bytes ≡ [] → Puts taken faults a b h k text → Appends (taken a) (taken b) text
  all_gone a b h k text none fine empty p =
      let whole = h.bytes ++ text in
      let rest : drop p.count whole ≡ [] = sym (p.left fine) ∙ empty in
      let same : take p.count whole ≡ text = sym (append-nil (take p.count whole)) ∙ ap (λ l. take p.count whole ++ l) (sym rest) ∙ take-append-drop p.count whole ∙ text_is h text none in
      subst (Appends (taken a) (taken b)) same p.gone

  -- and in any case a front of it
  pub part_gone : (a b : O) (h k : Waiting) (text : List ℕ) → h.bytes ≡ [] → Puts taken faults a b h k text → (n : ℕ) × Appends (taken a) (taken b) (take n text)
  part_gone a b h k text none p = (p.count, subst (λ l. Appends (taken a) (taken b) (take p.count l)) (text_is h text none) p.gone)

  -- a write failed on the way
  pub faults_rose : (a b : O) (h k : Waiting) (text : List ℕ) → h.is_broken ≡ false → k.is_broken ≡ true → Puts taken faults a b h k text → Rose (faults a) (faults b)
  faults_rose a b h k text fine broken p = elim (p.rose broken) [ inl was ↦ let no : true ≡ false = sym was ∙ fine in cc no | inr rose ↦ rose ]
